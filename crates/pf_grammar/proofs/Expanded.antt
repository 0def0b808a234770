-- A shown rule is refused by no cause, and expands to itself.
use Rattle.std.proofs.Common.{◌≡◌, ℕ, ◌+◌, ◌<◌, ◌==◌, ◌&&◌, ◌||◌, Bool, true, false, List, [], ◌∷◌, Option, Some, None, refl, sym, ap, ◌∙◌, arith, length}
use Rattle.std.specs.Prelude.{is_some, not, nat_lt, flat_map, map}
use Rattle.std.proofs.lemmas.List.{append-nil}
use Rattle.std.proofs.lemmas.Bool.Decides.{nat_tests}
use Rattle.pf_rules.specs.declared.profile.Profile.{Profile}
use Rattle.pf_rules.specs.declared.rule.Action.{Action}
use Rattle.pf_rules.specs.declared.rule.Action.TheVariants as act
use Rattle.pf_rules.specs.declared.parts.Policy.{Policy}
use Rattle.pf_rules.specs.declared.parts.Policy.TheVariants as policy
use Rattle.pf_rules.specs.declared.parts.Interface.{Interface}
use Rattle.pf_rules.specs.declared.parts.PortTest.{PortTest}
use Rattle.pf_rules.specs.declared.parts.FlagTest.{FlagTest}
use Rattle.pf_rules.specs.declared.parts.FlagTest.TheVariants as flags
use Rattle.pf_rules.specs.declared.rule.Rule.{Rule}
use Rattle.pf_rules.specs.declared.rule.Conditions.{Conditions}
use Rattle.pf_grammar.specs.declared.place.Place.{Place}
use Rattle.pf_statements.specs.declared.conditions.WrittenPort.{WrittenPort}
use Rattle.pf_statements.specs.declared.conditions.WrittenType.{WrittenType}
use Rattle.pf_statements.specs.Statements.{Rules}
use Rattle.pf_expansion.specs.Expansion.{choices, type_family, resolved, keeps_state, tested_flags, Combination, nothing_chosen, number_in, test_in, type_in, conditions_with, conditions_at, rule_flags, rule_with, by_type, by_destination_port, by_destination, by_source_port, by_source, by_protocol, by_interface, combined, expanded, count_of, combinations}
use Rattle.pf_expansion.specs.Causes.{any_listed, all_listed, is_deep_list, is_bad_port, has_ports, bad_ports, is_too_wide, has_no_combination, has_deep_list, has_too_many, is_bad_type, is_icmp, bad_types}
use Rattle.pf_rules.specs.Items.{ItemValue}
use Rattle.pf_grammar.specs.Causes.{statement_cause}
use Rattle.pf_grammar.proofs.ShownTokens.{FitsRule, FitsIf, FitsType, FitsState, ported, one_if, written_action, written_flags, written_state, written_protocol, written_conditions, written}
use Rattle.pf_rules.specs.Rulesets.{TableValue}

-- ---- one combination

abbrev map_if : {X Y : Type 0} → (X → Y) → Option X → Option Y
map_if f None = None
map_if f (Some x) = Some (f x)

choices_one : {X Y : Type 0} (f : X → Y) (o : Option X) → choices (one_if f o) ≡ map_if f o ∷ []
choices_one f None = refl
choices_one f (Some x) = refl

count_one : {X Y : Type 0} (f : X → Y) (o : Option X) → count_of (one_if f o) ≡ 1
count_one f None = refl
count_one f (Some x) = refl

flat_one : {X Y : Type 0} (f : X → List Y) (xs : List X) (x : X) → xs ≡ x ∷ [] → flat_map f xs ≡ f x
flat_one f xs x e = ap (flat_map f) e ∙ append-nil (f x)

abbrev same_interface : Interface → Interface
same_interface i = i

abbrev port_of_test : PortTest → WrittenPort
port_of_test t = record { test = Some t }

abbrev type_of_number : ℕ → WrittenType
type_of_number n = record { number = Some n }

-- the combination of a shown rule
abbrev chosen : Rule → Combination
chosen r = record {
  interface = map_if same_interface r.conditions.interface;
  protocol = map_if written_protocol r.conditions.protocol;
  source = r.conditions.source;
  source_port = map_if port_of_test r.conditions.source_port;
  destination = r.conditions.destination;
  destination_port = map_if port_of_test r.conditions.destination_port;
  icmp_type = map_if type_of_number r.conditions.icmp_type;
}

one_combination : (test : FlagTest) (r : Rule) → combined test (written_conditions r) ≡ conditions_at test (written_conditions r) (chosen r)
unfolding combined by_interface by_protocol by_source by_source_port by_destination by_destination_port by_type
one_combination test r =
    let text = written_conditions r in
    let q = r.conditions in
    let c1 = record nothing_chosen { interface = map_if same_interface q.interface } in
    let c2 = record c1 { protocol = map_if written_protocol q.protocol } in
    let c3 = record c2 { source = q.source } in
    let c4 = record c3 { source_port = map_if port_of_test q.source_port } in
    let c5 = record c4 { destination = q.destination } in
    let c6 = record c5 { destination_port = map_if port_of_test q.destination_port } in
    flat_one (λ i. by_protocol test text (record nothing_chosen { interface = i })) _ (map_if same_interface q.interface) (choices_one same_interface q.interface)
    ∙ flat_one (λ n. by_source test text (record c1 { protocol = n })) _ (map_if written_protocol q.protocol) (choices_one written_protocol q.protocol)
    ∙ flat_one (λ h. by_source_port test text (record c2 { source = h })) _ q.source refl
    ∙ flat_one (λ port. by_destination test text (record c3 { source_port = port })) _ (map_if port_of_test q.source_port) (choices_one port_of_test q.source_port)
    ∙ flat_one (λ h. by_destination_port test text (record c4 { destination = h })) _ q.destination refl
    ∙ flat_one (λ port. by_type test text (record c5 { destination_port = port })) _ (map_if port_of_test q.destination_port) (choices_one port_of_test q.destination_port)
    ∙ flat_one (λ t. conditions_at test text (record c6 { icmp_type = t })) _ (map_if type_of_number q.icmp_type) (choices_one type_of_number q.icmp_type)

-- ---- its rule

interface_again : (o : Option Interface) → map_if same_interface o ≡ o
interface_again None = refl
interface_again (Some i) = refl

number_again : (o : Option ℕ) → number_in (map_if written_protocol o) ≡ o
number_again None = refl
number_again (Some n) = refl

test_again : (o : Option PortTest) → test_in (map_if port_of_test o) ≡ o
test_again None = refl
test_again (Some t) = refl

type_again : (o : Option ℕ) → type_in (map_if type_of_number o) ≡ o
type_again None = refl
type_again (Some n) = refl

type_family_again : (o : Option ℕ) → type_family (map_if type_of_number o) ≡ type_family o
type_family_again None = refl
type_family_again (Some n) = refl

action_again : (p : Policy) (a : Action) → resolved p (written_action a) ≡ a
action_again policy.Drop act.Pass = refl
action_again policy.Return act.Pass = refl
action_again policy.Drop act.Drop = refl
action_again policy.Return act.Drop = refl
action_again policy.Drop act.Return = refl
action_again policy.Return act.Return = refl

state_again : (a : Action) (keep : Bool) → FitsState a keep → keeps_state (written_action a) (written_state a keep) ≡ keep
state_again act.Pass keep fits = refl
state_again act.Drop keep fits = sym fits
state_again act.Return keep fits = sym fits

flags_again : (a : Action) (keep : Bool) (test : FlagTest) → FitsState a keep → tested_flags keep (written_flags a test) ≡ test
flags_again act.Pass keep test fits = refl
flags_again act.Drop keep flags.Any fits = rw fits refl
flags_again act.Drop keep (flags.Just set of) fits = refl
flags_again act.Return keep flags.Any fits = rw fits refl
flags_again act.Return keep (flags.Just set of) fits = refl

conditions_again : (r : Rule) → conditions_with r.conditions.flags (written_conditions r) (chosen r) r.conditions.family ≡ r.conditions
conditions_again r =
    let q = r.conditions in
    rw (interface_again q.interface, number_again q.protocol, test_again q.source_port, test_again q.destination_port, type_again q.icmp_type) refl

rule_again : (p : Policy) (r : Rule) → FitsState r.action r.keeps_state → rule_with p (written r) r.conditions ≡ r
rule_again p r fits = rw (action_again p r.action, state_again r.action r.keeps_state fits) refl

flags_of_rule : (r : Rule) → FitsState r.action r.keeps_state → rule_flags (written r) ≡ r.conditions.flags
flags_of_rule r fits = ap (λ (keep : Bool). tested_flags keep (written_flags r.action r.conditions.flags)) (state_again r.action r.keeps_state fits) ∙ flags_again r.action r.keeps_state r.conditions.flags fits

-- its lists come to its conditions
pub combined_again : (profile : Profile) (r : Rule) → FitsRule profile r → combined (rule_flags (written r)) (written_conditions r) ≡ r.conditions ∷ []
unfolding conditions_at
combined_again profile r fits =
    one_combination (rule_flags (written r)) r
    ∙ rw (type_family_again r.conditions.icmp_type, fits.conditions.family, flags_of_rule r fits.state) (ap (λ (c : Conditions). c ∷ []) (conditions_again r))

-- a shown rule expands to itself
pub expanded_again : (profile : Profile) (p : Policy) (r : Rule) → FitsRule profile r → expanded p (written r) ≡ r ∷ []
unfolding expanded
expanded_again profile p r fits = ap (map (rule_with p (written r))) (combined_again profile r fits) ∙ ap (λ (s : Rule). s ∷ []) (rule_again p r fits.state)

-- ---- no cause

ports_there : (o : Option PortTest) → any_listed is_bad_port (one_if port_of_test o) ≡ false
ports_there None = refl
ports_there (Some t) = refl

said_ports : (o : Option PortTest) → is_some (one_if port_of_test o) ≡ is_some o
said_ports None = refl
said_ports (Some t) = refl

and_true : (b : Bool) → (b && true) ≡ b
and_true true = refl
and_true false = refl

all_ported : (o : Option ℕ) → all_listed has_ports (one_if written_protocol o) ≡ ported o
all_ported None = refl
all_ported (Some n) = and_true (n == 6 || n == 17)

pub no_bad_ports : (profile : Profile) (r : Rule) → FitsRule profile r → bad_ports (written_conditions r) ≡ false
unfolding bad_ports
no_bad_ports profile r fits =
    let q = r.conditions in
    rw (ports_there q.source_port, ports_there q.destination_port, said_ports q.source_port, said_ports q.destination_port, all_ported q.protocol, fits.conditions.ports) refl

narrow : (r : Rule) → is_too_wide (written_conditions r) ≡ false
unfolding is_too_wide combinations
narrow r =
    let q = r.conditions in
    rw (count_one same_interface q.interface, count_one written_protocol q.protocol, count_one port_of_test q.source_port, count_one port_of_test q.destination_port, count_one type_of_number q.icmp_type) refl

shallow : {X Y : Type 0} (f : X → Y) (o : Option X) → is_deep_list (one_if f o) ≡ false
shallow f None = refl
shallow f (Some x) = refl

no_deep_list : (r : Rule) → has_deep_list (written_conditions r) ≡ false
unfolding has_deep_list
no_deep_list r =
    let q = r.conditions in
    rw (shallow same_interface q.interface, shallow written_protocol q.protocol, shallow port_of_test q.source_port, shallow port_of_test q.destination_port, shallow type_of_number q.icmp_type) refl

room_left : (before : ℕ) → before < 1024 → nat_lt 1024 (before + 1) ≡ false
room_left before h = grind (arith, nat_tests, h)

pub not_too_many : (profile : Profile) (before : ℕ) (r : Rule) → FitsRule profile r → before < 1024 → has_too_many (rule_flags (written r)) before (written_conditions r) ≡ false
unfolding has_too_many
not_too_many profile before r fits h = rw (narrow r, no_deep_list r, combined_again profile r fits) (room_left before h)

pub some_combination : (profile : Profile) (r : Rule) → FitsRule profile r → has_no_combination (rule_flags (written r)) (written_conditions r) ≡ false
unfolding has_no_combination
some_combination profile r fits = rw (narrow r, combined_again profile r fits) refl

types_there : (profile : Profile) (protocol : Option ℕ) (o : Option ℕ) → FitsIf (FitsType profile protocol) o → (any_listed is_bad_type (one_if type_of_number o) || (is_some (one_if type_of_number o) && not (all_listed is_icmp (one_if written_protocol protocol)))) ≡ false
types_there profile protocol None fits = refl
types_there profile protocol (Some n) fits = rw fits.2 refl

pub no_bad_types : (profile : Profile) (r : Rule) → FitsRule profile r → bad_types (written_conditions r) ≡ false
unfolding bad_types
no_bad_types profile r fits = types_there profile r.conditions.protocol r.conditions.icmp_type fits.conditions.types

-- no cause refuses a shown rule where there is room for it
pub no_cause : (place : Place) (profile : Profile) (tables : List TableValue) (before : List ItemValue) (r : Rule) → FitsRule profile r → length before < 1024 → statement_cause place tables before (Some (Rules (written r))) ≡ None
no_cause place profile tables before r fits h =
    rw (no_bad_ports profile r fits, some_combination profile r fits, not_too_many profile (length before) r fits h, no_bad_types profile r fits) refl
