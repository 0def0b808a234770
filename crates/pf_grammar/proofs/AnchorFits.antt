-- The anchor rules that a statement expands to fit.
use Rattle.std.proofs.Common.{◌≡◌, ℕ, ◌≤◌, ◌&&◌, Bool, true, false, cond, List, [], ◌∷◌, length, map, Option, Some, None, refl, subst, nat_le}
use Rattle.std.specs.List.{AllByRecursion}
use Rattle.pf_addr.specs.Spelling.{pieces}
use Rattle.pf_addr.specs.declared.addr.Family.{Family}
use Rattle.pf_rules.specs.declared.profile.Profile.{Profile}
use Rattle.pf_rules.specs.Words.{is_anchor_text}
use Rattle.pf_tokens.specs.Tokens.{Token}
use Rattle.pf_tokens.specs.Lists.{Elements}
use Rattle.pf_tokens.specs.inner.Shorter.{bind_some, some_is}
use Rattle.pf_rules.specs.Names.{Name, name_if}
use Rattle.pf_rules.specs.Items.{Target}
use Rattle.pf_rules.specs.declared.parts.FlagTest.{FlagTest}
use Rattle.pf_rules.specs.declared.rule.Conditions.{Conditions}
use Rattle.pf_statements.specs.declared.conditions.Protocol.{Protocol}
use Rattle.pf_statements.specs.declared.conditions.WrittenType.{WrittenType}
use Rattle.pf_statements.specs.Conditions.{ConditionsText}
use Rattle.pf_statements.specs.Targets.{is_star, in_front, names_of, target_with, target_of}
use Rattle.pf_statements.proofs.PiecesSpelled.{if_so_is}
use Rattle.pf_statements.specs.Anchors.{AnchorText, HeadingText, anchor_with}
use Rattle.pf_statements.proofs.AnchorsSpelled.{heading_with as heading_text_with, anchor_heading}
use Rattle.pf_statements.specs.Grammar.{IsTarget, TargetWord, TargetString, IsAnchor, IsHeading, IsOptional, LeftOut, Given}
use Rattle.pf_expansion.specs.Expansion.{choices, Combination, nothing_chosen, conditions_if, conditions_at, families, occurring, by_type, by_destination_port, by_destination, by_source_port, by_source, by_protocol, by_interface, combined}
use Rattle.pf_expansion.specs.Anchors.{anchor_flags, heading_with, headings}
use Rattle.pf_expansion.specs.Causes.{bad_ports, bad_types}
use Rattle.pf_grammar.proofs.Made.{interface_fits, some_fits}
use Rattle.pf_grammar.proofs.PartsFit.{protocol_fits, flags_fit}
use Rattle.pf_grammar.proofs.ShownTokens.{FitsIf, FitsFlags, FitsConditions}
use Rattle.pf_grammar.proofs.RuleFits.{FitsName, AllFit, FitsText, behind_fits, hosts_fit, flags_ok, combined_fit, all_flat}
use Rattle.pf_grammar.proofs.Targets.{AreAnchorNames, FitsTarget}
use Rattle.pf_grammar.proofs.AnchorLine.{FitsHeading}

-- ---- targets

front_fits : (piece : List ℕ) (more : Option (List Name × Bool)) (x : List Name × Bool) → ((y : List Name × Bool) → more ≡ Some y → AreAnchorNames y.0) → in_front (name_if is_anchor_text piece) more ≡ Some x → AreAnchorNames x.0
front_fits piece more x each e = cases (is_anchor_text piece) refl more each e
  where
    cases : (b : Bool) → is_anchor_text piece ≡ b → (o : Option (List Name × Bool)) → ((y : List Name × Bool) → o ≡ Some y → AreAnchorNames y.0) → in_front (cond b (Some piece) None) o ≡ Some x → AreAnchorNames x.0
    cases true good None each e = absurd cc
    cases true good (Some (names, children)) each e = subst (λ (y : List Name × Bool). AreAnchorNames y.0) (some_is (piece ∷ names, children) x e) (good, each (names, children) refl)
    cases false good o each e = absurd cc

names_fit : (ps : List (List ℕ)) (x : List Name × Bool) → names_of ps ≡ Some x → AreAnchorNames x.0
names_fit [] x e = subst (λ (y : List Name × Bool). AreAnchorNames y.0) (some_is ([], false) x e) tt
names_fit (p ∷ ps) x e = cases (is_star (p ∷ ps)) (λ y h. names_fit ps y h) e
  where
    cases : (b : Bool) → ((y : List Name × Bool) → names_of ps ≡ Some y → AreAnchorNames y.0) → cond b (Some ([], true)) (in_front (name_if is_anchor_text p) (names_of ps)) ≡ Some x → AreAnchorNames x.0
    cases true each e = subst (λ (y : List Name × Bool). AreAnchorNames y.0) (some_is ([], true) x e) tt
    cases false each e = front_fits p (names_of ps) x each e

abbrev pub Few : Target → Type 0
Few t = (nat_le 1 (length t.names) && nat_le (length t.names) 8) ≡ true

with_fits : (x : List Name × Bool) (t : Target) → AreAnchorNames x.0 → target_with x ≡ Some t → AreAnchorNames t.names × Few t
with_fits (names, children) t all e =
    let s = if_so_is (nat_le 1 (length names) && nat_le (length names) 8) (record { names = names; children = children }) t e in
    (subst (λ (u : Target). AreAnchorNames u.names) s.1 all, subst Few s.1 s.0)

target_names : (text : List ℕ) (t : Target) → target_of text ≡ Some t → AreAnchorNames t.names × Few t
unfolding target_of
target_names text t e =
    let n = bind_some (names_of (pieces 47 text)) target_with t e in
    with_fits n.0 t (names_fit (pieces 47 text) n.0 n.1) n.2

named : (profile : Profile) (ts : List Token) (t : Target) → IsTarget profile ts t → AreAnchorNames t.names × Few t
named profile _ t (TargetWord text _ free e) = target_names text t e
named profile _ t (TargetString text _ e) = target_names text t e

-- ---- what a written anchor rule is

pub record FitsAnchorText (profile : Profile) (a : AnchorText) : Type 0 where
  pub names : AreAnchorNames a.target.names
  pub few : Few a.target
  pub conditions : FitsText profile a.conditions
  pub no_types : a.conditions.types ≡ None

no_types_fit : {X : Type 0} (P : X → Type 0) (o : Option X) → o ≡ None → FitsIf P o
no_types_fit P None e = tt
no_types_fit P (Some x) e = absurd cc

-- a heading of the grammar with a name is such a one
pub heading_text_fits : (profile : Profile) (ts : List Token) (h : HeadingText) (target : Target) → IsHeading profile ts h → AreAnchorNames target.names → Few target → FitsAnchorText profile (anchor_with h target)
heading_text_fits profile ts h target is names few =
    let common = h.conditions.common in
    let c = is.is_common in
    let hosts = hosts_fit profile c.hosts common.source common.destination c.are_hosts in
    record {
      names = names;
      few = few;
      conditions = record {
        interfaces = behind_fits (AllFit (FitsName profile)) (some_fits (FitsName profile) (interface_fits profile)) c.interfaces common.interfaces c.are_interfaces;
        protocols = behind_fits (AllFit (λ (p : Protocol). p.number ≤ 255)) (some_fits (λ (p : Protocol). p.number ≤ 255) protocol_fits) c.protocols common.protocols c.are_protocols;
        source = hosts.0;
        destination = hosts.1;
        flags = behind_fits FitsFlags flags_fit is.flags h.conditions.flags is.are_flags;
        types = no_types_fit _ h.conditions.types is.no_types;
      };
      no_types = is.no_types;
    }

-- an anchor rule of the grammar is such a one
pub anchor_text_fits : (profile : Profile) (ts : List Token) (a : AnchorText) → IsAnchor profile ts a → FitsAnchorText profile a
anchor_text_fits profile ts a is =
    let target = named profile is.target a.target is.is_target in
    heading_text_fits profile ts (heading_text_with a) a.target (anchor_heading profile ts a is) target.0 target.1

optional_named : (profile : Profile) (ts : List Token) (o : Option Target) (target : Target) → IsOptional (IsTarget profile) ts o → o ≡ Some target → AreAnchorNames target.names × Few target
optional_named profile _ _ target LeftOut e = absurd cc
optional_named profile _ _ target (Given ts x is) e = named profile ts target (subst (IsTarget profile ts) (some_is x target e) is)

-- so is one with the name that is written
pub said_text_fits : (profile : Profile) (ts : List Token) (h : HeadingText) (target : Target) → IsHeading profile ts h → h.target ≡ Some target → FitsAnchorText profile (anchor_with h target)
said_text_fits profile ts h target is e =
    let names = optional_named profile is.target h.target target is.is_target e in
    heading_text_fits profile ts h target is names.0 names.1

-- ---- each combination is without a type of ICMP

abbrev Untyped : Conditions → Type 0
Untyped c = c.icmp_type ≡ None

anything : {X : Type 0} (xs : List X) → AllByRecursion (λ x. Unit {0}) xs
anything [] = tt
anything (x ∷ xs) = (tt, anything xs)

untyped_at : (test : FlagTest) (text : ConditionsText) (c : Combination) → c.icmp_type ≡ None → AllByRecursion Untyped (conditions_at test text c)
unfolding conditions_at
untyped_at test text c none = cases (occurring (families text c))
  where
    cases : (o : Option (Option Family)) → AllByRecursion Untyped (conditions_if test text c o)
    cases None = tt
    cases (Some family) = (rw none refl, tt)

choices_none : (o : Option (Elements WrittenType)) → o ≡ None → AllByRecursion (λ (t : Option WrittenType). t ≡ None) (choices o)
choices_none None e = (refl, tt)
choices_none (Some list) e = absurd cc

untyped : (test : FlagTest) (text : ConditionsText) → text.types ≡ None → AllByRecursion Untyped (combined test text)
unfolding combined by_interface by_protocol by_source by_source_port by_destination by_destination_port by_type
untyped test text none =
    let P = Untyped in
    all_flat P _ (λ i. by_protocol test text (record nothing_chosen { interface = i })) (choices text.common.interfaces) (anything (choices text.common.interfaces)) (λ i qi.
    all_flat P _ (λ n. by_source test text (record nothing_chosen { interface = i; protocol = n })) (choices text.common.protocols) (anything (choices text.common.protocols)) (λ n qn.
    all_flat P _ (λ s. by_source_port test text (record nothing_chosen { interface = i; protocol = n; source = s })) text.common.source.hosts.items (anything text.common.source.hosts.items) (λ s qs.
    all_flat P _ (λ sp. by_destination test text (record nothing_chosen { interface = i; protocol = n; source = s; source_port = sp })) (choices text.common.source.ports) (anything (choices text.common.source.ports)) (λ sp qsp.
    all_flat P _ (λ d. by_destination_port test text (record nothing_chosen { interface = i; protocol = n; source = s; source_port = sp; destination = d })) text.common.destination.hosts.items (anything text.common.destination.hosts.items) (λ d qd.
    all_flat P _ (λ dp. by_type test text (record nothing_chosen { interface = i; protocol = n; source = s; source_port = sp; destination = d; destination_port = dp })) (choices text.common.destination.ports) (anything (choices text.common.destination.ports)) (λ dp qdp.
    all_flat P _ (λ t. conditions_at test text (record nothing_chosen { interface = i; protocol = n; source = s; source_port = sp; destination = d; destination_port = dp; icmp_type = t })) (choices text.types) (choices_none text.types none) (λ t qt.
    untyped_at test text (record { interface = i; protocol = n; source = s; source_port = sp; destination = d; destination_port = dp; icmp_type = t }) qt)))))))

-- ---- the rules

with_target : (profile : Profile) (a : AnchorText) → FitsTarget a.target → (cs : List Conditions) → AllByRecursion (FitsConditions profile) cs → AllByRecursion Untyped cs → AllByRecursion (FitsHeading profile) (map (heading_with a) cs)
with_target profile a target [] all none = tt
with_target profile a target (c ∷ cs) all none = (record { target = target; conditions = all.0; no_type = none.0 }, with_target profile a target cs all.1 none.1)

-- each anchor rule that a statement expands to
pub headings_fit : (profile : Profile) (a : AnchorText) → FitsAnchorText profile a → bad_ports a.conditions ≡ false → bad_types a.conditions ≡ false → AllByRecursion (FitsHeading profile) (headings a)
unfolding headings
headings_fit profile a fits no_bad_ports no_bad_types =
    with_target profile a (record { names = fits.names; few = fits.few }) (combined (anchor_flags a) a.conditions)
    (combined_fit profile (anchor_flags a) a.conditions (flags_ok false a.conditions.flags fits.conditions.flags) fits.conditions no_bad_ports no_bad_types)
    (untyped (anchor_flags a) a.conditions fits.no_types)
