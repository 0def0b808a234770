-- An element that is read exactly where the grammar spells it is an element of lists.
use Rattle.std.proofs.Common.{◌≡◌, Bool, true, false, List, [], ◌++◌, length, Some, refl, sym, ap, subst, ◌∙◌}
use Rattle.std.specs.Prelude.{◌&&◌, not, codes}
use Rattle.std.proofs.lemmas.List.{append-nil}
use Rattle.std.proofs.lemmas.Bool.{false≢true}
use Rattle.pf_rules.specs.declared.profile.Profile.{Profile}
use Rattle.pf_tokens.specs.declared.symbol.Symbol.TheVariants.{Slash, Between, Outside}
use Rattle.pf_tokens.specs.Tokens.{Token}
use Rattle.pf_tokens.specs.Productions.{Read, begins, begins_symbol}
use Rattle.pf_tokens.specs.ListGrammar.{IsReadAs, IsElement}
use Rattle.pf_tokens.proofs.ListsSpelled.{Readable}
use Rattle.pf_statements.specs.Conditions.{host_at, interface_at, interface_name_at, port_at, protocol_at, type_at}
use Rattle.pf_statements.specs.ListElements.{anything, may_follow_host, may_follow_port}
use Rattle.pf_statements.proofs.PiecesSpelled.{Anything, HostEnds, PortEnds, names_readable, interfaces_readable, protocols_readable, hosts_readable, ports_readable}
use Rattle.pf_statements.proofs.FlagsSpelled.{types_readable}

-- what alone is read as an element spells it
spelled : {X : Type 0} {read : List Token → Read X} {Is : List Token → X → Type 0} {Ends : List Token → Type 0} → Readable read Is Ends → (ts : List Token) (x : X) → IsReadAs read ts x → Is ts x
spelled {Is = Is} readable ts x e =
    let t = readable.took ts (x, []) e in subst (λ (us : List Token). Is us x) (sym (t.whole ∙ append-nil t.piece)) t.is

-- what spells an element is alone read as it
alone : {X : Type 0} {read : List Token → Read X} {Is : List Token → X → Type 0} {Ends : List Token → Type 0} → Readable read Is Ends → Ends [] → (ts : List Token) (x : X) → Is ts x → IsReadAs read ts x
alone {read = read} readable none ts x is = sym (ap read (append-nil ts)) ∙ readable.reads ts [] x is none

-- where what may follow is known by its tokens
pub record IsTestFor (Ends : List Token → Type 0) (follows : List Token → Bool) : Type 0 where
  pub sound : (rest : List Token) → follows rest ≡ true → Ends rest
  pub complete : (rest : List Token) → Ends rest → follows rest ≡ true

pub met : {X : Type 0} {read : List Token → Read X} {Is : List Token → X → Type 0} {Ends : List Token → Type 0} {follows : List Token → Bool} → Readable read Is Ends → IsTestFor Ends follows → Ends [] → IsElement read follows
met readable tested none = record {
  front = λ ts rest x e. let t = readable.took ts (x, rest) e in (t.piece, t.whole, alone readable none t.piece x t.is);
  alike = λ ts rest x e f. readable.reads ts rest x (spelled readable ts x e) (tested.sound rest f);
  open_follows = λ rest. tested.complete _ (readable.open_ends rest);
  comma_follows = λ rest. tested.complete _ (readable.comma_ends rest);
  close_follows = λ rest. tested.complete _ (readable.close_ends rest);
  element_follows = λ ts rest x e. let h = readable.heads ts rest x (spelled readable ts x e) in tested.complete _ h.ends;
  no_comma = λ ts rest x e. let h = readable.heads ts rest x (spelled readable ts x e) in h.not_comma;
  plain = λ ts x e. readable.plain ts x (spelled readable ts x e);
  some = λ ts x e. readable.some ts x (spelled readable ts x e);
}

anything_tested : IsTestFor Anything anything
anything_tested = record { sound = λ rest e. tt; complete = λ rest e. refl }

neither : (a b : Bool) → (not a && not b) ≡ true → (a ≡ false) × (b ≡ false)
neither true b e = absurd (false≢true e)
neither false true e = absurd (false≢true e)
neither false false e = (refl, refl)

both_not : (a b : Bool) → a ≡ false → b ≡ false → (not a && not b) ≡ true
both_not true b e f = absurd (false≢true (sym e))
both_not false true e f = absurd (false≢true (sym f))
both_not false false e f = refl

host_tested : IsTestFor HostEnds may_follow_host
host_tested = record {
  sound = λ rest e. let n = neither (begins (codes "-") rest) (begins_symbol Slash rest) e in record { not_hyphen = n.0; not_slash = n.1 };
  complete = λ rest e. both_not (begins (codes "-") rest) (begins_symbol Slash rest) e.not_hyphen e.not_slash;
}

port_tested : IsTestFor PortEnds may_follow_port
port_tested = record {
  sound = λ rest e. let n = neither (begins_symbol Between rest) (begins_symbol Outside rest) e in record { not_between = n.0; not_outside = n.1 };
  complete = λ rest e. both_not (begins_symbol Between rest) (begins_symbol Outside rest) e.not_between e.not_outside;
}

pub names_met : (profile : Profile) → IsElement (interface_name_at profile) anything
names_met profile = met (names_readable profile) anything_tested tt

pub interfaces_met : (profile : Profile) → IsElement (interface_at profile) anything
interfaces_met profile = met (interfaces_readable profile) anything_tested tt

pub protocols_met : (profile : Profile) → IsElement (protocol_at profile) anything
protocols_met profile = met (protocols_readable profile) anything_tested tt

pub types_met : (profile : Profile) → IsElement (type_at profile) anything
types_met profile = met (types_readable profile) anything_tested tt

pub hosts_met : (profile : Profile) → IsElement (host_at profile) may_follow_host
hosts_met profile = met (hosts_readable profile) host_tested (record { not_hyphen = refl; not_slash = refl })

pub ports_met : (profile : Profile) → IsElement (port_at profile) may_follow_port
ports_met profile = met (ports_readable profile) port_tested (record { not_between = refl; not_outside = refl })
