-- What rules and anchor rules have in common is read exactly where the grammar spells it.
use Rattle.std.proofs.Common.{◌≡◌, ℕ, ◌<◌, ◌⊎◌, inl, inr, Bool, true, false, cond, List, [], ◌∷◌, ◌++◌, drop, Option, Some, None, refl, sym, ap, subst, ◌∙◌, append_assoc, arith}
use Rattle.std.specs.Prelude.{codes}
use Rattle.pf_rules.specs.declared.profile.Profile.{Profile}
use Rattle.pf_tokens.specs.declared.symbol.Symbol.TheVariants as mark
use Rattle.pf_tokens.specs.Tokens.{Token, Word}
use Rattle.pf_tokens.specs.Productions.{◌>>=◌, begins}
use Rattle.pf_tokens.specs.Lists.{Elements, some_at}
use Rattle.pf_tokens.specs.inner.Shorter.{bind_some, some_is}
use Rattle.pf_addr.specs.declared.addr.Family.{Family}
use Rattle.pf_addr.specs.declared.addr.Family.TheVariants.{Inet, Inet6}
use Rattle.pf_rules.specs.declared.parts.Host.{Host}
use Rattle.pf_statements.specs.declared.conditions.WrittenPort.{WrittenPort}
use Rattle.pf_statements.specs.Conditions.{family_at, host_at, port_at, ports_at, Ends, any_host, any_end, spec_at, part_at, end_behind, ends_at, interfaces_at, interface_at, protocols_at, protocol_at, CommonText, common_at}
use Rattle.pf_tokens.specs.ListGrammar.{IsSome, One, Listed, Braces}
use Rattle.pf_statements.specs.ConditionGrammar.{key, IsBehind, Missing, Behind, IsFamily, NoFamily, InetWord, Inet6Word, IsHost, IsPort, IsPart, PartHosts, PartPorts, IsHosts, NoHosts, AllWord, FromPart, ToPart, FromToParts, IsInterface, IsProtocol, IsCommon}
use Rattle.pf_tokens.proofs.Fronts.{Took, begins_is}
use Rattle.pf_statements.proofs.Fronts.{rank, not_begun, no_symbol}
use Rattle.pf_tokens.proofs.ListsSpelled.{Spells, some_spells}
use Rattle.pf_statements.proofs.BehindSpelled.{behind_given, behind_took, behind_reads}
use Rattle.pf_statements.proofs.PiecesSpelled.{HostEnds, hosts_readable, host_not_port, PortEnds, ports_readable, Anything, interfaces_readable, protocols_readable}
use Rattle.pf_rules.specs.declared.parts.Interface.{Interface}
use Rattle.pf_statements.specs.declared.conditions.Protocol.{Protocol}

-- ---- what follows a part of a rule

host_ends : (rest : List Token) → 0 < rank rest → HostEnds rest
host_ends rest h = record { not_hyphen = not_begun (codes "-") rest h; not_slash = no_symbol mark.Slash rest (omega arith) h }

port_ends : (rest : List Token) → 0 < rank rest → PortEnds rest
port_ends rest h = record { not_between = no_symbol mark.Between rest (omega arith) h; not_outside = no_symbol mark.Outside rest (omega arith) h }

-- ---- the words at the front

pub on_rank : {X : Type 0} {Is : List Token → X → Type 0} (ts rest : List Token) (x : Option X) → IsBehind (codes "on") Is ts x → 5 < rank rest → 4 < rank (ts ++ rest)
on_rank _ rest _ Missing h = omega (arith, h)
on_rank _ rest _ (Behind ts x is) h = omega arith

pub family_took : (ts : List Token) → Took IsFamily ts (family_at ts)
unfolding family_at
family_took ts = cases (begins (codes "inet") ts) refl (begins (codes "inet6") ts) refl
  where
    cases : (b : Bool) → begins (codes "inet") ts ≡ b → (k : Bool) → begins (codes "inet6") ts ≡ k → Took IsFamily ts (cond b (Some Inet, drop 1 ts) (cond k (Some Inet6, drop 1 ts) (None, ts)))
    cases true four k six = record { piece = key (codes "inet"); whole = begins_is (codes "inet") ts four; is = InetWord }
    cases false four true six = record { piece = key (codes "inet6"); whole = begins_is (codes "inet6") ts six; is = Inet6Word }
    cases false four false six = record { piece = []; whole = refl; is = NoFamily }

pub family_reads : (ts rest : List Token) (x : Option Family) → IsFamily ts x → 6 < rank rest → family_at (ts ++ rest) ≡ (x, rest)
unfolding family_at
family_reads _ rest _ NoFamily h = rw (not_begun (codes "inet") rest h, not_begun (codes "inet6") rest h) refl
family_reads _ rest _ InetWord h = refl
family_reads _ rest _ Inet6Word h = refl

pub family_rank : (ts rest : List Token) (x : Option Family) → IsFamily ts x → 6 < rank rest → 5 < rank (ts ++ rest)
family_rank _ rest _ NoFamily h = omega (arith, h)
family_rank _ rest _ InetWord h = omega arith
family_rank _ rest _ Inet6Word h = omega arith

pub proto_rank : {X : Type 0} {Is : List Token → X → Type 0} (ts rest : List Token) (x : Option X) → IsBehind (codes "proto") Is ts x → 7 < rank rest → 6 < rank (ts ++ rest)
proto_rank _ rest _ Missing h = omega (arith, h)
proto_rank _ rest _ (Behind ts x is) h = omega arith

-- ---- the two ends

hosts_spell : (profile : Profile) → Spells (some_at (host_at profile)) (IsSome (IsHost profile)) HostEnds
hosts_spell profile = some_spells (hosts_readable profile)

ports_spell : (profile : Profile) → Spells (some_at (port_at profile)) (IsSome (IsPort profile)) PortEnds
ports_spell profile = some_spells (ports_readable profile)

part_took : (profile : Profile) (ts : List Token) (x : Ends × List Token) → part_at profile ts ≡ Some x → Took (IsPart profile) ts x
unfolding part_at spec_at ports_at
part_took profile ts x e = cases (begins (codes "port") ts) refl e
  where
    cases : (b : Bool) → begins (codes "port") ts ≡ b → (cond b (Some (any_host, ts)) (some_at (host_at profile) ts) >>= λ hosts. ports_at profile hosts.1 >>= λ ports. Some (record { hosts = hosts.0; ports = ports.0 }, ports.1)) ≡ Some x → Took (IsPart profile) ts x
    cases true begun e =
        let b = bind_some (ports_at profile ts) (λ (ports : Option (Elements WrittenPort) × List Token). Some (record { hosts = any_host; ports = ports.0 }, ports.1)) x e in
        let g = behind_given (codes "port") (ports_spell profile) ts b.0 begun b.1 in
        subst (λ (z : Ends × List Token). Took (IsPart profile) ts z) (some_is _ x b.2) (record {
          piece = Word (codes "port") ∷ g.piece;
          whole = g.whole;
          is = subst (λ (o : Option (Elements WrittenPort)). IsPart profile (Word (codes "port") ∷ g.piece) (record { hosts = any_host; ports = o })) (sym g.value) (PartPorts g.piece g.x g.is);
        })
    cases false begun e =
        let a = bind_some (some_at (host_at profile) ts) (λ (hosts : Elements Host × List Token). ports_at profile hosts.1 >>= λ ports. Some (record { hosts = hosts.0; ports = ports.0 }, ports.1)) x e in
        let b = bind_some (ports_at profile a.0.1) (λ (ports : Option (Elements WrittenPort) × List Token). Some (record { hosts = a.0.0; ports = ports.0 }, ports.1)) x a.2 in
        let t = (hosts_spell profile).took ts a.0 a.1 in
        let u = behind_took (codes "port") (ports_spell profile) a.0.1 b.0 b.1 in
        subst (λ (z : Ends × List Token). Took (IsPart profile) ts z) (some_is _ x b.2) (record {
          piece = t.piece ++ u.piece;
          whole = t.whole ∙ ap (λ (us : List Token). t.piece ++ us) u.whole ∙ sym (append_assoc t.piece u.piece b.0.1);
          is = PartHosts t.piece u.piece a.0.0 b.0.0 t.is u.is;
        })

hosts_not_port : (profile : Profile) (ts rest : List Token) (x : Elements Host) → IsSome (IsHost profile) ts x → begins (codes "port") (ts ++ rest) ≡ false
hosts_not_port profile _ rest _ (One ts x is) = host_not_port profile ts rest x is
hosts_not_port profile _ rest _ (Listed _ _ (Braces within ts xs d e is)) = refl

port_rank : {X : Type 0} {Is : List Token → X → Type 0} (ts rest : List Token) (x : Option X) → IsBehind (codes "port") Is ts x → 9 < rank rest → 0 < rank (ts ++ rest)
port_rank _ rest _ Missing h = omega (arith, h)
port_rank _ rest _ (Behind ts x is) h = omega arith

part_reads : (profile : Profile) (ts rest : List Token) (x : Ends) → IsPart profile ts x → 9 < rank rest → part_at profile (ts ++ rest) ≡ Some (x, rest)
unfolding part_at spec_at ports_at
part_reads profile _ rest _ (PartHosts ts us hosts ports is_h is_p) h =
    rw (
      append_assoc ts us rest,
      hosts_not_port profile ts (us ++ rest) hosts is_h,
      (hosts_spell profile).reads ts (us ++ rest) hosts is_h (host_ends (us ++ rest) (port_rank us rest ports is_p h)),
      behind_reads (codes "port") (ports_spell profile) us rest ports is_p (not_begun (codes "port") rest h) (port_ends rest (omega (arith, h))),
    ) refl
part_reads profile _ rest _ (PartPorts ts ports is) h =
    rw (behind_reads (codes "port") (ports_spell profile) (Word (codes "port") ∷ ts) rest (Some ports) (Behind ts ports is) (not_begun (codes "port") rest h) (port_ends rest (omega (arith, h)))) refl

-- a word and its part, or nothing
record After (profile : Profile) (word : List ℕ) (ts : List Token) (x : Ends × List Token) : Type 0 where
  said : ((us : List Token) × IsPart profile us x.0 × (ts ≡ Word word ∷ (us ++ x.1))) ⊎ ((x.0 ≡ any_end) × (ts ≡ x.1))

after_took : (profile : Profile) (word : List ℕ) (ts : List Token) (x : Ends × List Token) → end_behind profile word ts ≡ Some x → After profile word ts x
unfolding end_behind
after_took profile word ts x e = cases (begins word ts) refl e
  where
    cases : (b : Bool) → begins word ts ≡ b → cond b (part_at profile (drop 1 ts)) (Some (any_end, ts)) ≡ Some x → After profile word ts x
    cases true said e =
        let t = part_took profile (drop 1 ts) x e in
        record { said = inl (t.piece, t.is, begins_is word ts said ∙ ap (λ (us : List Token). Word word ∷ us) t.whole) }
    cases false said e =
        let same = some_is (any_end, ts) x e in
        record { said = inr (ap (λ (y : Ends × List Token). y.0) (sym same), ap (λ (y : Ends × List Token). y.1) same) }

pub record TookHosts (profile : Profile) (ts : List Token) (x : (Ends × Ends) × List Token) : Type 0 where
  pub piece : List Token
  pub whole : ts ≡ piece ++ x.1
  pub is : IsHosts profile piece x.0.0 x.0.1

both_took : (profile : Profile) (ts : List Token) (s d : Ends × List Token) → After profile (codes "from") ts s → After profile (codes "to") s.1 d → TookHosts profile ts ((s.0, d.0), d.1)
both_took profile ts s d a b =
    elim a.said [
      | inl f ↦ elim b.said [
        | inl t ↦ record {
          piece = key (codes "from") ++ (f.0 ++ (key (codes "to") ++ t.0));
          whole = f.2 ∙ ap (λ (us : List Token). Word (codes "from") ∷ (f.0 ++ us)) t.2 ∙ sym (ap (λ (us : List Token). Word (codes "from") ∷ us) (append_assoc f.0 (Word (codes "to") ∷ t.0) d.1));
          is = FromToParts f.0 t.0 s.0 d.0 f.1 t.1;
        }
        | inr n ↦ record {
          piece = key (codes "from") ++ f.0;
          whole = f.2 ∙ ap (λ (us : List Token). Word (codes "from") ∷ (f.0 ++ us)) n.1;
          is = subst (λ (h : Ends). IsHosts profile (key (codes "from") ++ f.0) s.0 h) (sym n.0) (FromPart f.0 s.0 f.1);
        }
      ]
      | inr m ↦ elim b.said [
        | inl t ↦ record {
          piece = key (codes "to") ++ t.0;
          whole = m.1 ∙ t.2;
          is = subst (λ (h : Ends). IsHosts profile (key (codes "to") ++ t.0) h d.0) (sym m.0) (ToPart t.0 d.0 t.1);
        }
        | inr n ↦ record {
          piece = [];
          whole = m.1 ∙ n.1;
          is = subst (λ (h : Ends). IsHosts profile [] h d.0) (sym m.0) (subst (λ (h : Ends). IsHosts profile [] any_end h) (sym n.0) NoHosts);
        }
      ]
    ]

pub hosts_took : (profile : Profile) (ts : List Token) (x : (Ends × Ends) × List Token) → ends_at profile ts ≡ Some x → TookHosts profile ts x
unfolding ends_at
hosts_took profile ts x e = cases (begins (codes "all") ts) refl e
  where
    cases : (b : Bool) → begins (codes "all") ts ≡ b → cond b (Some ((any_end, any_end), drop 1 ts)) (end_behind profile (codes "from") ts >>= λ s. end_behind profile (codes "to") s.1 >>= λ d. Some ((s.0, d.0), d.1)) ≡ Some x → TookHosts profile ts x
    cases true all e = subst (λ (z : (Ends × Ends) × List Token). TookHosts profile ts z) (some_is ((any_end, any_end), drop 1 ts) x e) (record { piece = key (codes "all"); whole = begins_is (codes "all") ts all; is = AllWord })
    cases false all e =
        let a = bind_some (end_behind profile (codes "from") ts) (λ (s : Ends × List Token). end_behind profile (codes "to") s.1 >>= λ d. Some ((s.0, d.0), d.1)) x e in
        let b = bind_some (end_behind profile (codes "to") a.0.1) (λ (d : Ends × List Token). Some ((a.0.0, d.0), d.1)) x a.2 in
        subst (λ (z : (Ends × Ends) × List Token). TookHosts profile ts z) (some_is _ x b.2) (both_took profile ts a.0 b.0 (after_took profile (codes "from") ts a.0 a.1) (after_took profile (codes "to") a.0.1 b.0 b.1))

pub hosts_read : (profile : Profile) (ts rest : List Token) (s d : Ends) → IsHosts profile ts s d → 10 < rank rest → ends_at profile (ts ++ rest) ≡ Some ((s, d), rest)
unfolding ends_at end_behind
hosts_read profile _ rest _ _ NoHosts h = rw (not_begun (codes "all") rest (omega (arith, h)), not_begun (codes "from") rest (omega (arith, h)), not_begun (codes "to") rest h) refl
hosts_read profile _ rest _ _ AllWord h = refl
hosts_read profile _ rest _ _ (FromPart ts s is) h = rw (part_reads profile ts rest s is (omega (arith, h)), not_begun (codes "to") rest h) refl
hosts_read profile _ rest _ _ (ToPart ts d is) h = rw (part_reads profile ts rest d is (omega (arith, h))) refl
hosts_read profile _ rest _ _ (FromToParts ts us s d is_s is_d) h =
    let split : (key (codes "from") ++ (ts ++ (key (codes "to") ++ us))) ++ rest ≡ Word (codes "from") ∷ (ts ++ (Word (codes "to") ∷ (us ++ rest))) = ap (λ (vs : List Token). Word (codes "from") ∷ vs) (append_assoc ts (Word (codes "to") ∷ us) rest) in
    rw (split, part_reads profile ts (Word (codes "to") ∷ (us ++ rest)) s is_s (omega arith), part_reads profile us rest d is_d (omega (arith, h))) refl

pub hosts_rank : (profile : Profile) (ts rest : List Token) (s d : Ends) → IsHosts profile ts s d → 10 < rank rest → 7 < rank (ts ++ rest)
hosts_rank profile _ rest _ _ NoHosts h = omega (arith, h)
hosts_rank profile _ rest _ _ AllWord h = omega arith
hosts_rank profile _ rest _ _ (FromPart ts s is) h = omega arith
hosts_rank profile _ rest _ _ (ToPart ts d is) h = omega arith
hosts_rank profile _ rest _ _ (FromToParts ts us s d is_s is_d) h = omega arith

pub four_parts : (a b c d rest : List Token) → (a ++ (b ++ (c ++ d))) ++ rest ≡ a ++ (b ++ (c ++ (d ++ rest)))
four_parts a b c d rest =
    append_assoc a (b ++ (c ++ d)) rest
    ∙ ap (λ (us : List Token). a ++ us) (append_assoc b (c ++ d) rest ∙ ap (λ (us : List Token). b ++ us) (append_assoc c d rest))

common_split : (profile : Profile) (ts rest : List Token) (c : CommonText) (is : IsCommon profile ts c) → ts ++ rest ≡ is.interfaces ++ (is.family ++ (is.protocols ++ (is.hosts ++ rest)))
common_split profile ts rest c is = ap (λ (us : List Token). us ++ rest) is.whole ∙ four_parts is.interfaces is.family is.protocols is.hosts rest

interfaces_spell : (profile : Profile) → Spells (some_at (interface_at profile)) (IsSome (IsInterface profile)) Anything
interfaces_spell profile = some_spells (interfaces_readable profile)

protocols_spell : (profile : Profile) → Spells (some_at (protocol_at profile)) (IsSome IsProtocol) Anything
protocols_spell profile = some_spells (protocols_readable profile)

interfaces_took : (profile : Profile) (ts : List Token) (x : Option (Elements Interface) × List Token) → interfaces_at profile ts ≡ Some x → Took (IsBehind (codes "on") (IsSome (IsInterface profile))) ts x
unfolding interfaces_at
interfaces_took profile ts x e = behind_took (codes "on") (interfaces_spell profile) ts x e

interfaces_read : (profile : Profile) (ts rest : List Token) (x : Option (Elements Interface)) → IsBehind (codes "on") (IsSome (IsInterface profile)) ts x → 5 < rank rest → interfaces_at profile (ts ++ rest) ≡ Some (x, rest)
unfolding interfaces_at
interfaces_read profile ts rest x is h = behind_reads (codes "on") (interfaces_spell profile) ts rest x is (not_begun (codes "on") rest h) tt

protocols_took : (profile : Profile) (ts : List Token) (x : Option (Elements Protocol) × List Token) → protocols_at profile ts ≡ Some x → Took (IsBehind (codes "proto") (IsSome IsProtocol)) ts x
unfolding protocols_at
protocols_took profile ts x e = behind_took (codes "proto") (protocols_spell profile) ts x e

protocols_read : (profile : Profile) (ts rest : List Token) (x : Option (Elements Protocol)) → IsBehind (codes "proto") (IsSome IsProtocol) ts x → 7 < rank rest → protocols_at profile (ts ++ rest) ≡ Some (x, rest)
unfolding protocols_at
protocols_read profile ts rest x is h = behind_reads (codes "proto") (protocols_spell profile) ts rest x is (not_begun (codes "proto") rest h) tt

-- ---- all of it

-- what is in a rule before its options
pub common_rank : (profile : Profile) (ts rest : List Token) (c : CommonText) → IsCommon profile ts c → 10 < rank rest → 4 < rank (ts ++ rest)
common_rank profile ts rest c is h =
    let r7 = hosts_rank profile is.hosts rest c.source c.destination is.are_hosts h in
    let r6 = proto_rank is.protocols (is.hosts ++ rest) c.protocols is.are_protocols r7 in
    let r5 = family_rank is.family (is.protocols ++ (is.hosts ++ rest)) c.family is.is_family r6 in
    let r4 = on_rank is.interfaces (is.family ++ (is.protocols ++ (is.hosts ++ rest))) c.interfaces is.are_interfaces r5 in
    subst (λ (us : List Token). 4 < rank us) (sym (common_split profile ts rest c is)) r4

pub common_reads : (profile : Profile) (ts rest : List Token) (c : CommonText) → IsCommon profile ts c → 10 < rank rest → common_at profile (ts ++ rest) ≡ Some (c, rest)
unfolding common_at
common_reads profile ts rest c is h =
    let t7 = is.hosts ++ rest in
    let t6 = is.protocols ++ t7 in
    let t5 = is.family ++ t6 in
    let r7 = hosts_rank profile is.hosts rest c.source c.destination is.are_hosts h in
    let r6 = proto_rank is.protocols t7 c.protocols is.are_protocols r7 in
    let r5 = family_rank is.family t6 c.family is.is_family r6 in
    rw (
      common_split profile ts rest c is,
      interfaces_read profile is.interfaces t5 c.interfaces is.are_interfaces r5,
      family_reads is.family t6 c.family is.is_family r6,
      protocols_read profile is.protocols t7 c.protocols is.are_protocols r7,
      hosts_read profile is.hosts rest c.source c.destination is.are_hosts h,
    ) refl

pub common_took : (profile : Profile) (ts : List Token) (x : CommonText × List Token) → common_at profile ts ≡ Some x → Took (IsCommon profile) ts x
unfolding common_at
common_took profile ts x e =
    let i = bind_some (interfaces_at profile ts) _ x e in
    let interfaces = interfaces_took profile ts i.0 i.1 in
    let family = family_took i.0.1 in
    let p = bind_some (protocols_at profile (family_at i.0.1).1) _ x i.2 in
    let protocols = protocols_took profile _ p.0 p.1 in
    let h = bind_some (ends_at profile p.0.1) _ x p.2 in
    let hosts = hosts_took profile p.0.1 h.0 h.1 in
    subst (Took (IsCommon profile) ts) (some_is _ x h.2) (record {
      piece = interfaces.piece ++ (family.piece ++ (protocols.piece ++ hosts.piece));
      whole = interfaces.whole ∙ ap (λ (us : List Token). interfaces.piece ++ us) (family.whole ∙ ap (λ (us : List Token). family.piece ++ us) (protocols.whole ∙ ap (λ (us : List Token). protocols.piece ++ us) hosts.whole)) ∙ sym (four_parts interfaces.piece family.piece protocols.piece hosts.piece h.0.1);
      is = record {
        interfaces = interfaces.piece;
        family = family.piece;
        protocols = protocols.piece;
        hosts = hosts.piece;
        whole = refl;
        are_interfaces = interfaces.is;
        is_family = family.is;
        are_protocols = protocols.is;
        are_hosts = hosts.is;
      };
    })
