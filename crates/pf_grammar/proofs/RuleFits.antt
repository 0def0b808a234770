-- The rules that a statement expands to fit.
use Rattle.std.proofs.Common.{◌≡◌, ℕ, ◌≤◌, ◌&&◌, ◌||◌, Bool, true, false, List, [], ◌∷◌, ◌++◌, map, Option, Some, None, refl, sym, ap, subst, ◌∙◌, eqb-true}
use Rattle.std.specs.Prelude.{is_some, is_none, not, flat_map}
use Rattle.std.specs.List.{AllByRecursion, list_any, list_all}
use Rattle.std.proofs.lemmas.Bool.{false≢true}
use Rattle.pf_rules.specs.declared.profile.Profile.{Profile}
use Rattle.pf_tokens.specs.Tokens.{Token}
use Rattle.pf_tokens.specs.Lists.{Elements}
use Rattle.pf_tokens.specs.inner.Shorter.{some_is}
use Rattle.pf_rules.specs.declared.parts.Policy.{Policy}
use Rattle.pf_rules.specs.declared.parts.Policy.TheVariants as policy
use Rattle.pf_addr.specs.declared.addr.Family.{Family}
use Rattle.pf_addr.specs.declared.addr.Family.TheVariants.{Inet, Inet6}
use Rattle.pf_rules.specs.declared.parts.Interface.{Interface}
use Rattle.pf_rules.specs.declared.parts.FlagTest.{FlagTest}
use Rattle.pf_statements.specs.declared.written.WrittenAction.{WrittenAction}
use Rattle.pf_statements.specs.declared.written.WrittenAction.TheVariants.{Pass, Block as Blocks}
use Rattle.pf_statements.specs.declared.conditions.Protocol.{Protocol}
use Rattle.pf_statements.specs.declared.conditions.WrittenPort.{WrittenPort}
use Rattle.pf_statements.specs.declared.conditions.WrittenType.{WrittenType}
use Rattle.pf_rules.specs.Words.{is_interface_name, is_within}
use Rattle.pf_statements.specs.Conditions.{Ends, any_end}
use Rattle.pf_statements.specs.Statements.{Options, no_options, RuleText, has_types}
use Rattle.pf_tokens.specs.ListGrammar.{IsSome}
use Rattle.pf_statements.specs.ConditionGrammar.{IsBehind, Missing, Behind, IsPort, IsPart, PartHosts, PartPorts, IsHosts, NoHosts, AllWord, FromPart, ToPart, FromToParts, IsTypes, TypeAlone, TypeList}
use Rattle.pf_statements.specs.Grammar.{IsOptions, NoOption, FlagsOption, StateOption, TypesOption, IsRule}
use Rattle.pf_expansion.specs.Expansion.{choices, host_family, type_family, with_family, occurring, resolved, keeps_state, tested_flags, Combination, nothing_chosen, number_in, test_in, type_in, rule_flags, rule_with, conditions_with, families, conditions_if, conditions_at, by_type, by_destination_port, by_destination, by_source_port, by_source, by_protocol, by_interface, combined, expanded}
use Rattle.pf_expansion.specs.Causes.{any_listed, all_listed, is_bad_port, has_ports, names_ports, bad_ports, is_bad_type, is_icmp, bad_types}
use Rattle.pf_grammar.proofs.Made.{interface_fits, some_fits, list_fits}
use Rattle.pf_grammar.proofs.PartsFit.{host_fits, port_fits, protocol_fits, type_fits, type_of_fits, flags_fit}
use Rattle.pf_grammar.proofs.ShownTokens.{FitsHost, FitsTest, FitsIf, FitsFlags, FitsState, FitsType, FitsConditions, FitsRule, ported}
use Rattle.pf_rules.specs.declared.rule.Conditions.{Conditions}
use Rattle.pf_statements.specs.Conditions.{ConditionsText}

-- ---- what a written rule is

abbrev pub FitsName : Profile → Interface → Type 0
FitsName profile i = is_interface_name profile i.name ≡ true

abbrev pub FitsPort : WrittenPort → Type 0
FitsPort port = FitsIf FitsTest port.test

abbrev pub FitsNumber : WrittenType → Type 0
FitsNumber t = FitsIf (λ n. n ≤ 255) t.number

abbrev pub AllFit : {X : Type 0} → (X → Type 0) → Elements X → Type 0
AllFit Fits list = AllByRecursion Fits list.items

pub record FitsEnd (profile : Profile) (e : Ends) : Type 0 where
  pub hosts : AllFit (FitsHost profile) e.hosts
  pub ports : FitsIf (AllFit FitsPort) e.ports

pub record FitsOptions (profile : Profile) (o : Options) : Type 0 where
  pub flags : FitsIf FitsFlags o.flags
  pub types : FitsIf (λ list. (has_types profile ≡ true) × AllFit FitsNumber list) o.types

pub record FitsText (profile : Profile) (text : ConditionsText) : Type 0 where
  pub interfaces : FitsIf (AllFit (FitsName profile)) text.common.interfaces
  pub protocols : FitsIf (AllFit (λ (p : Protocol). p.number ≤ 255)) text.common.protocols
  pub source : FitsEnd profile text.common.source
  pub destination : FitsEnd profile text.common.destination
  pub flags : FitsIf FitsFlags text.flags
  pub types : FitsIf (λ list. (has_types profile ≡ true) × AllFit FitsNumber list) text.types

pub behind_fits : {X : Type 0} {word : List ℕ} {Is : List Token → X → Type 0} (P : X → Type 0) → ((ts : List Token) (x : X) → Is ts x → P x) → (ts : List Token) (o : Option X) → IsBehind word Is ts o → FitsIf P o
behind_fits P each _ _ Missing = tt
behind_fits P each _ _ (Behind ts x is) = each ts x is

ports_fit : (profile : Profile) (ts : List Token) (o : Option (Elements WrittenPort)) (word : List ℕ) → IsBehind word (IsSome (IsPort profile)) ts o → FitsIf (AllFit FitsPort) o
ports_fit profile ts o word is = behind_fits (AllFit FitsPort) (some_fits FitsPort (port_fits profile)) ts o is

any_fits : (profile : Profile) → FitsEnd profile any_end
any_fits profile = record { hosts = (tt, tt); ports = tt }

part_fits : (profile : Profile) (ts : List Token) (e : Ends) → IsPart profile ts e → FitsEnd profile e
part_fits profile _ _ (PartHosts ts us hosts ports is_h is_p) = record { hosts = some_fits (FitsHost profile) (host_fits profile) ts hosts is_h; ports = ports_fit profile us ports _ is_p }
part_fits profile _ _ (PartPorts ts ports is) = record { hosts = (tt, tt); ports = some_fits FitsPort (port_fits profile) ts ports is }

pub hosts_fit : (profile : Profile) (ts : List Token) (s d : Ends) → IsHosts profile ts s d → FitsEnd profile s × FitsEnd profile d
hosts_fit profile _ _ _ NoHosts = (any_fits profile, any_fits profile)
hosts_fit profile _ _ _ AllWord = (any_fits profile, any_fits profile)
hosts_fit profile _ _ _ (FromPart ts s is) = (part_fits profile ts s is, any_fits profile)
hosts_fit profile _ _ _ (ToPart ts d is) = (any_fits profile, part_fits profile ts d is)
hosts_fit profile _ _ _ (FromToParts ts us s d is_s is_d) = (part_fits profile ts s is_s, part_fits profile us d is_d)

types_fit : (profile : Profile) (ts : List Token) (list : Elements WrittenType) → IsTypes profile ts list → AllFit FitsNumber list
types_fit profile _ _ (TypeAlone word free) = (type_of_fits word, tt)
types_fit profile _ _ (TypeList ts list is) = list_fits FitsNumber type_fits ts list is

options_fit : (profile : Profile) (o : Options) (ts : List Token) (all : Options) → IsOptions profile o ts all → FitsOptions profile o → FitsOptions profile all
options_fit profile _ _ _ (NoOption o) fits = fits
options_fit profile _ _ _ (FlagsOption o all ts us test none is more) fits = options_fit profile (record o { flags = Some test }) us all more (record { flags = flags_fit ts test is; types = fits.types })
options_fit profile _ _ _ (StateOption o all word us keep none is more) fits = options_fit profile (record o { state = Some keep }) us all more (record { flags = fits.flags; types = fits.types })
options_fit profile _ _ _ (TypesOption o all ts us types has none is more) fits = options_fit profile (record o { types = Some types }) us all more (record { flags = fits.flags; types = (has, types_fit profile ts types is) })

-- a rule of the grammar is such a one
pub text_fits : (profile : Profile) (ts : List Token) (text : RuleText) → IsRule profile ts text → FitsText profile text.conditions
text_fits profile ts text is =
    let common = text.conditions.common in
    let c = is.is_common in
    let hosts = hosts_fit profile c.hosts common.source common.destination c.are_hosts in
    let options = options_fit profile no_options is.options _ is.are_options (record { flags = tt; types = tt }) in
    record {
      interfaces = behind_fits (AllFit (FitsName profile)) (some_fits (FitsName profile) (interface_fits profile)) c.interfaces common.interfaces c.are_interfaces;
      protocols = behind_fits (AllFit (λ (p : Protocol). p.number ≤ 255)) (some_fits (λ (p : Protocol). p.number ≤ 255) protocol_fits) c.protocols common.protocols c.are_protocols;
      source = hosts.0;
      destination = hosts.1;
      flags = options.flags;
      types = options.types;
    }

-- ---- families

family_again : (f : Option Family) (o : Option (Option Family)) (g : Option Family) → with_family f o ≡ Some g → with_family g o ≡ Some g
family_again f None g e = absurd (let h = none f e in cc)
  where
    none : (f : Option Family) → with_family f None ≡ Some g → (let n : Option (Option Family) = None in n) ≡ Some g
    none None e = e
    none (Some Inet) e = e
    none (Some Inet6) e = e
family_again None (Some found) g e = subst (λ (k : Option Family). with_family k (Some found) ≡ Some k) (some_is found g e) (same found)
  where
    same : (k : Option Family) → with_family k (Some k) ≡ Some k
    same None = refl
    same (Some Inet) = refl
    same (Some Inet6) = refl
family_again (Some Inet) (Some None) g e = subst (λ (k : Option Family). with_family k (Some None) ≡ Some k) (some_is (Some Inet) g e) refl
family_again (Some Inet6) (Some None) g e = subst (λ (k : Option Family). with_family k (Some None) ≡ Some k) (some_is (Some Inet6) g e) refl
family_again (Some Inet) (Some (Some Inet)) g e = subst (λ (k : Option Family). with_family k (Some (Some Inet)) ≡ Some k) (some_is (Some Inet) g e) refl
family_again (Some Inet6) (Some (Some Inet6)) g e = subst (λ (k : Option Family). with_family k (Some (Some Inet6)) ≡ Some k) (some_is (Some Inet6) g e) refl
family_again (Some Inet) (Some (Some Inet6)) g e = absurd cc
family_again (Some Inet6) (Some (Some Inet)) g e = absurd cc

-- ---- choices

choices_fit : {X : Type 0} (P : X → Type 0) (o : Option (Elements X)) → FitsIf (AllFit P) o → AllByRecursion (FitsIf P) (choices o)
choices_fit P None fits = (tt, tt)
choices_fit {X} P (Some list) fits = mapped list.items fits
  where
    mapped : (xs : List X) → AllByRecursion P xs → AllByRecursion (FitsIf P) (map (λ x. Some x) xs)
    mapped [] fits = tt
    mapped (x ∷ xs) fits = (fits.0, mapped xs fits.1)

and_parts : (a b : Bool) → (a && b) ≡ true → (a ≡ true) × (b ≡ true)
and_parts true b e = (refl, e)
and_parts false b e = absurd (false≢true e)

all_holds : {X : Type 0} (test : X → Bool) (xs : List X) → list_all test xs ≡ true → AllByRecursion (λ x. test x ≡ true) xs
all_holds test [] e = tt
all_holds test (x ∷ xs) e = let h = and_parts (test x) (list_all test xs) e in (h.0, all_holds test xs h.1)

-- where there is a list each choice passes
abbrev Passes : (Protocol → Bool) → Option Protocol → Type 0
Passes test None = ⊥
Passes test (Some p) = test p ≡ true

choices_pass : (test : Protocol → Bool) (o : Option (Elements Protocol)) → all_listed test o ≡ true → AllByRecursion (Passes test) (choices o)
choices_pass test None e = absurd (false≢true e)
choices_pass test (Some list) e = mapped list.items (all_holds test list.items e)
  where
    mapped : (xs : List Protocol) → AllByRecursion (λ x. test x ≡ true) xs → AllByRecursion (Passes test) (map (λ x. Some x) xs)
    mapped [] fits = tt
    mapped (x ∷ xs) fits = (fits.0, mapped xs fits.1)

-- if something is said each choice passes
choices_if : (said : Bool) (test : Protocol → Bool) (o : Option (Elements Protocol)) → (said && not (all_listed test o)) ≡ false → AllByRecursion (λ c. said ≡ true → Passes test c) (choices o)
choices_if true test o e = weaken (choices o) (choices_pass test o (not_false (all_listed test o) e))
  where
    not_false : (b : Bool) → not b ≡ false → b ≡ true
    not_false true e = refl
    not_false false e = absurd (false≢true (sym e))

    weaken : (cs : List (Option Protocol)) → AllByRecursion (Passes test) cs → AllByRecursion (λ c. true ≡ true → Passes test c) cs
    weaken [] all = tt
    weaken (c ∷ cs) all = (λ h. all.0, weaken cs all.1)
choices_if false test o e = never (choices o)
  where
    never : (cs : List (Option Protocol)) → AllByRecursion (λ c. false ≡ true → Passes test c) cs
    never [] = tt
    never (c ∷ cs) = (λ h. absurd (false≢true h), never cs)

pub all_flat : {X Y : Type 0} (P : Y → Type 0) (Q : X → Type 0) (f : X → List Y) (xs : List X) → AllByRecursion Q xs → ((x : X) → Q x → AllByRecursion P (f x)) → AllByRecursion P (flat_map f xs)
all_flat P Q f [] all each = tt
all_flat {X} {Y} P Q f (x ∷ xs) all each = joined (f x) (flat_map f xs) (each x all.0) (all_flat P Q f xs all.1 each)
  where
    joined : (xs ys : List Y) → AllByRecursion P xs → AllByRecursion P ys → AllByRecursion P (xs ++ ys)
    joined [] ys p q = q
    joined (x ∷ xs) ys p q = (p.0, joined xs ys p.1 q)

all_both : {X : Type 0} (P Q : X → Type 0) (xs : List X) → AllByRecursion P xs → AllByRecursion Q xs → AllByRecursion (λ x. P x × Q x) xs
all_both P Q [] p q = tt
all_both P Q (x ∷ xs) p q = ((p.0, q.0), all_both P Q xs p.1 q.1)

-- what is chosen was said
choices_said : {X : Type 0} (o : Option (Elements X)) → AllByRecursion (λ (c : Option X). is_some c ≡ true → is_some o ≡ true) (choices o)
choices_said None = (λ h. h, tt)
choices_said {X} (Some list) = mapped list.items
  where
    mapped : (xs : List X) → AllByRecursion (λ (c : Option X). is_some c ≡ true → true ≡ true) (map (λ x. Some x) xs)
    mapped [] = tt
    mapped (x ∷ xs) = (λ h. refl, mapped xs)

abbrev FitsTyped : Profile → WrittenType → Type 0
FitsTyped profile t = (has_types profile ≡ true) × FitsNumber t

types_typed : (profile : Profile) (o : Option (Elements WrittenType)) → FitsIf (λ list. (has_types profile ≡ true) × AllFit FitsNumber list) o → FitsIf (AllFit (FitsTyped profile)) o
types_typed profile None fits = tt
types_typed profile (Some list) fits = each list.items fits.1
  where
    each : (xs : List WrittenType) → AllByRecursion FitsNumber xs → AllByRecursion (FitsTyped profile) xs
    each [] all = tt
    each (x ∷ xs) all = ((fits.0, all.0), each xs all.1)

-- ---- one rule

and_not_true : (b : Bool) → (b && not true) ≡ false
and_not_true true = refl
and_not_true false = refl

passes_ported : (n : Option Protocol) (b : Bool) → Passes has_ports n → (b && not (ported (number_in n))) ≡ false
passes_ported None b h = absurd h
passes_ported (Some p) b h = rw h (and_not_true b)

ports_ok : (sp dp : Option WrittenPort) (n : Option Protocol) (named : Bool) → (is_some sp ≡ true → named ≡ true) → (is_some dp ≡ true → named ≡ true) → (named ≡ true → Passes has_ports n) → ((is_some (test_in sp) || is_some (test_in dp)) && not (ported (number_in n))) ≡ false
ports_ok (Some a) dp n named s d h = passes_ported n (is_some (test_in (Some a)) || is_some (test_in dp)) (h (s refl))
ports_ok None (Some b) n named s d h = passes_ported n (is_some (test_in (Some b))) (h (d refl))
ports_ok None None n named s d h = refl

passes_icmp : (n : Option Protocol) → Passes is_icmp n → number_in n ≡ Some 1
passes_icmp None h = absurd h
passes_icmp (Some p) h = ap (λ (k : ℕ). Some k) (eqb-true p.number 1 h)

type_ok : (profile : Profile) (n : Option Protocol) (t : Option WrittenType) → FitsIf (FitsTyped profile) t → (is_some t ≡ true → Passes is_icmp n) → FitsIf (FitsType profile (number_in n)) (type_in t)
type_ok profile n None fits h = tt
type_ok profile n (Some t) fits h = number t.number fits.1
  where
    number : (o : Option ℕ) → FitsIf (λ k. k ≤ 255) o → FitsIf (FitsType profile (number_in n)) o
    number None small = tt
    number (Some k) small = (fits.0, small, passes_icmp n (h refl))

pub flags_ok : (keep : Bool) (o : Option FlagTest) → FitsIf FitsFlags o → FitsFlags (tested_flags keep o)
unfolding is_within
flags_ok keep (Some test) fits = fits
flags_ok true None fits = (refl, refl)
flags_ok false None fits = tt

state_ok : (p : Policy) (a : WrittenAction) (state : Option Bool) → FitsState (resolved p a) (keeps_state a state)
state_ok policy.Drop Pass state = tt
state_ok policy.Return Pass state = tt
state_ok policy.Drop (Blocks None) state = refl
state_ok policy.Return (Blocks None) state = refl
state_ok policy.Drop (Blocks (Some policy.Drop)) state = refl
state_ok policy.Return (Blocks (Some policy.Drop)) state = refl
state_ok policy.Drop (Blocks (Some policy.Return)) state = refl
state_ok policy.Return (Blocks (Some policy.Return)) state = refl

protocol_ok : (n : Option Protocol) → FitsIf (λ (p : Protocol). p.number ≤ 255) n → FitsIf (λ k. k ≤ 255) (number_in n)
protocol_ok None fits = tt
protocol_ok (Some p) fits = fits

port_ok : (o : Option WrittenPort) → FitsIf FitsPort o → FitsIf FitsTest (test_in o)
port_ok None fits = tt
port_ok (Some port) fits = fits

type_family_ok : (t : Option WrittenType) → FitsIf (λ (w : WrittenType). is_some w.number ≡ true) t → type_family (type_in t) ≡ type_family t
type_family_ok None some = refl
type_family_ok (Some t) some = number t.number some
  where
    number : (o : Option ℕ) → is_some o ≡ true → type_family o ≡ Some Inet
    number None e = absurd (false≢true e)
    number (Some k) e = refl

-- what one chosen in each place is
pub record FitsChosen (profile : Profile) (text : ConditionsText) (c : Combination) : Type 0 where
  pub interface : FitsIf (FitsName profile) c.interface
  pub protocol : FitsIf (λ (p : Protocol). p.number ≤ 255) c.protocol
  pub ported : names_ports text ≡ true → Passes has_ports c.protocol
  pub pinged : is_some text.types ≡ true → Passes is_icmp c.protocol
  pub source : FitsHost profile c.source
  pub source_port : FitsIf FitsPort c.source_port
  pub source_said : is_some c.source_port ≡ true → names_ports text ≡ true
  pub destination : FitsHost profile c.destination
  pub destination_port : FitsIf FitsPort c.destination_port
  pub destination_said : is_some c.destination_port ≡ true → names_ports text ≡ true
  pub types : FitsIf (FitsTyped profile) c.icmp_type
  pub typed : is_some c.icmp_type ≡ true → is_some text.types ≡ true
  pub good : FitsIf (λ (w : WrittenType). is_some w.number ≡ true) c.icmp_type

conditions_fit : (profile : Profile) (test : FlagTest) (text : ConditionsText) (c : Combination) (family : Option Family) → FitsFlags test → FitsChosen profile text c → occurring (families text c) ≡ Some family → FitsConditions profile (conditions_with test text c family)
conditions_fit profile test text c family test_fits fits e = record {
  interface = fits.interface;
  protocol = protocol_ok c.protocol fits.protocol;
  source = fits.source;
  source_port = port_ok c.source_port fits.source_port;
  destination = fits.destination;
  destination_port = port_ok c.destination_port fits.destination_port;
  family =
      ap (λ (t : Option Family). occurring (family ∷ host_family c.source ∷ host_family c.destination ∷ t ∷ [])) (type_family_ok c.icmp_type fits.good)
      ∙ family_again text.common.family (occurring (host_family c.source ∷ host_family c.destination ∷ type_family c.icmp_type ∷ [])) family e;
  ports = ports_ok c.source_port c.destination_port c.protocol (names_ports text) fits.source_said fits.destination_said fits.ported;
  types = type_ok profile c.protocol c.icmp_type fits.types (λ h. fits.pinged (fits.typed h));
  flags = test_fits;
}

chosen_fit : (profile : Profile) (test : FlagTest) (text : ConditionsText) (c : Combination) → FitsFlags test → FitsChosen profile text c → AllByRecursion (FitsConditions profile) (conditions_at test text c)
unfolding conditions_at
chosen_fit profile test text c test_fits fits = cases (occurring (families text c)) refl
  where
    cases : (o : Option (Option Family)) → occurring (families text c) ≡ o → AllByRecursion (FitsConditions profile) (conditions_if test text c o)
    cases None e = tt
    cases (Some family) e = (conditions_fit profile test text c family test_fits fits e, tt)

or_false : (a b : Bool) → (a || b) ≡ false → (a ≡ false) × (b ≡ false)
or_false true b e = absurd (false≢true (sym e))
or_false false b e = (refl, e)

none_bad : (o : Option (Elements WrittenType)) → any_listed is_bad_type o ≡ false → AllByRecursion (FitsIf (λ (w : WrittenType). is_some w.number ≡ true)) (choices o)
none_bad None e = (tt, tt)
none_bad (Some list) e = mapped list.items e
  where
    there : (n : Option ℕ) → is_none n ≡ false → is_some n ≡ true
    there None e = absurd (false≢true (sym e))
    there (Some k) e = refl

    each : (x : WrittenType) (xs : List WrittenType) → list_any is_bad_type (x ∷ xs) ≡ false → (is_some x.number ≡ true) × (list_any is_bad_type xs ≡ false)
    each x xs e = let h = or_false (is_bad_type x) (list_any is_bad_type xs) e in (there x.number h.0, h.1)

    mapped : (xs : List WrittenType) → list_any is_bad_type xs ≡ false → AllByRecursion (FitsIf (λ (w : WrittenType). is_some w.number ≡ true)) (map (λ x. Some x) xs)
    mapped [] e = tt
    mapped (x ∷ xs) e = let h = each x xs e in (h.0, mapped xs h.1)

said_first : (a b : Bool) (c : Bool) → (c ≡ true → a ≡ true) → c ≡ true → (a || b) ≡ true
said_first a b c h e = ap (λ (x : Bool). x || b) (h e)

said_second : (a b : Bool) (c : Bool) → (c ≡ true → b ≡ true) → c ≡ true → (a || b) ≡ true
said_second true b c h e = refl
said_second false b c h e = h e

-- the conditions of each combination
pub combined_fit : (profile : Profile) (test : FlagTest) (text : ConditionsText) → FitsFlags test → FitsText profile text → bad_ports text ≡ false → bad_types text ≡ false → AllByRecursion (FitsConditions profile) (combined test text)
unfolding combined by_interface by_protocol by_source by_source_port by_destination by_destination_port by_type bad_ports bad_types
combined_fit profile test text test_fits fits no_bad_ports no_bad_types =
    let ports = (or_false (any_listed is_bad_port text.common.source.ports || any_listed is_bad_port text.common.destination.ports) (names_ports text && not (all_listed has_ports text.common.protocols)) no_bad_ports).1 in
    let types = or_false (any_listed is_bad_type text.types) (is_some text.types && not (all_listed is_icmp text.common.protocols)) no_bad_types in
    let P = FitsConditions profile in
    let ns = all_both _ _ (choices text.common.protocols) (choices_fit (λ (n : Protocol). n.number ≤ 255) text.common.protocols fits.protocols) (all_both _ _ (choices text.common.protocols) (choices_if (names_ports text) has_ports text.common.protocols ports) (choices_if (is_some text.types) is_icmp text.common.protocols types.1)) in
    let sps = all_both _ _ (choices text.common.source.ports) (choices_fit FitsPort text.common.source.ports fits.source.ports) (choices_said text.common.source.ports) in
    let dps = all_both _ _ (choices text.common.destination.ports) (choices_fit FitsPort text.common.destination.ports fits.destination.ports) (choices_said text.common.destination.ports) in
    let ts = all_both _ _ (choices text.types) (choices_fit (FitsTyped profile) text.types (types_typed profile text.types fits.types)) (all_both _ _ (choices text.types) (choices_said text.types) (none_bad text.types types.0)) in
    all_flat P _ (λ i. by_protocol test text (record nothing_chosen { interface = i })) (choices text.common.interfaces) (choices_fit (FitsName profile) text.common.interfaces fits.interfaces) (λ i qi.
    all_flat P _ (λ n. by_source test text (record nothing_chosen { interface = i; protocol = n })) (choices text.common.protocols) ns (λ n qn.
    all_flat P _ (λ s. by_source_port test text (record nothing_chosen { interface = i; protocol = n; source = s })) text.common.source.hosts.items fits.source.hosts (λ s qs.
    all_flat P _ (λ sp. by_destination test text (record nothing_chosen { interface = i; protocol = n; source = s; source_port = sp })) (choices text.common.source.ports) sps (λ sp qsp.
    all_flat P _ (λ d. by_destination_port test text (record nothing_chosen { interface = i; protocol = n; source = s; source_port = sp; destination = d })) text.common.destination.hosts.items fits.destination.hosts (λ d qd.
    all_flat P _ (λ dp. by_type test text (record nothing_chosen { interface = i; protocol = n; source = s; source_port = sp; destination = d; destination_port = dp })) (choices text.common.destination.ports) dps (λ dp qdp.
    all_flat P _ (λ t. conditions_at test text (record nothing_chosen { interface = i; protocol = n; source = s; source_port = sp; destination = d; destination_port = dp; icmp_type = t })) (choices text.types) ts (λ t qt.
    chosen_fit profile test text (record { interface = i; protocol = n; source = s; source_port = sp; destination = d; destination_port = dp; icmp_type = t }) test_fits (record {
      interface = qi;
      protocol = qn.0;
      ported = qn.1.0;
      pinged = qn.1.1;
      source = qs;
      source_port = qsp.0;
      source_said = said_first (is_some text.common.source.ports) (is_some text.common.destination.ports) (is_some sp) qsp.1;
      destination = qd;
      destination_port = qdp.0;
      destination_said = said_second (is_some text.common.source.ports) (is_some text.common.destination.ports) (is_some dp) qdp.1;
      types = qt.0;
      typed = qt.1.0;
      good = qt.1.1;
    }))))))))

with_state : (profile : Profile) (p : Policy) (text : RuleText) (cs : List Conditions) → AllByRecursion (FitsConditions profile) cs → AllByRecursion (FitsRule profile) (map (rule_with p text) cs)
with_state profile p text [] all = tt
with_state profile p text (c ∷ cs) all = (record { conditions = all.0; state = state_ok p text.action text.state }, with_state profile p text cs all.1)

-- each rule that a statement expands to
pub expanded_fit : (profile : Profile) (p : Policy) (text : RuleText) → FitsText profile text.conditions → bad_ports text.conditions ≡ false → bad_types text.conditions ≡ false → AllByRecursion (FitsRule profile) (expanded p text)
unfolding expanded
expanded_fit profile p text fits no_bad_ports no_bad_types =
    with_state profile p text _ (combined_fit profile (rule_flags text) text.conditions (flags_ok (keeps_state text.action text.state) text.conditions.flags fits.flags) fits no_bad_ports no_bad_types)
