-- Which alternatives hold: one of two lists joined exactly if one of each.
use Rattle.std.proofs.Common.{◌≡◌, ◌==◌, Bool, true, false, ◌&&◌, ◌||◌, List, [], ◌∷◌, ◌++◌, Option, Some, None, refl, sym, ap, ◌∙◌, arith, inl, inr}
use Rattle.std.specs.Prelude.{not}
use Rattle.std.specs.List.{list_any, list_all, flat_map}
use Rattle.std.proofs.lemmas.Bool.{cases_eq, eq-eqb, ne_eqb}
use Rattle.std.proofs.lemmas.Bool.Decides.{nat_tests}
use Rattle.std.proofs.lemmas.List.Folds.{list_any-append, list_all-append}
use Rattle.pf_addr.specs.declared.addr.Addr.{Addr}
use Rattle.pf_addr.specs.declared.addr.Addr.TheVariants.{V4, V6}
use Rattle.pf_addr.specs.declared.addr.Family.{Family}
use Rattle.pf_addr.specs.declared.addr.Family.TheVariants.{Inet, Inet6}
use Rattle.pf_eval.specs.Packets.{PacketValue}
use Rattle.pf_eval.specs.Matching.{of_family}
use Rattle.nft_rules.specs.Subset.{Match, NamedSet}
use Rattle.nft_rules.specs.Evaluation.{holds}
use Rattle.nft_rules.specs.Alternatives.{Protocol, AnyProtocol, Only, NotTcp, Alternative, family_matches, protocol_matches, matches_of, both_families, both_protocols, made, joined, both}

-- ---- what an alternative asks

abbrev pub family_holds : PacketValue → Option Family → Bool
family_holds k None = true
family_holds k (Some f) = of_family k.source f

abbrev pub protocol_holds : PacketValue → Protocol → Bool
protocol_holds k AnyProtocol = true
protocol_holds k (Only n) = k.protocol == n
protocol_holds k NotTcp = not (k.protocol == 6)

abbrev pub parts_hold : List NamedSet → PacketValue → Option Family → Protocol → List Match → Bool
parts_hold sets k f q tests = family_holds k f && (protocol_holds k q && list_all (holds sets k) tests)

abbrev pub choice_holds : List NamedSet → PacketValue → Alternative → Bool
choice_holds sets k a = parts_hold sets k a.family a.protocol a.tests

abbrev pub any_holds : List NamedSet → PacketValue → List Alternative → Bool
any_holds sets k xs = list_any (choice_holds sets k) xs

matches_hold : (sets : List NamedSet) (k : PacketValue) (f : Option Family) (q : Protocol) (tests : List Match) →
    list_all (holds sets k) (family_matches f ++ (protocol_matches q ++ tests)) ≡ parts_hold sets k f q tests
unfolding holds
matches_hold sets k None AnyProtocol tests = refl
matches_hold sets k None (Only n) tests = refl
matches_hold sets k None NotTcp tests = refl
matches_hold sets k (Some f) AnyProtocol tests = refl
matches_hold sets k (Some f) (Only n) tests = refl
matches_hold sets k (Some f) NotTcp tests = refl

-- its matches all hold
pub all_matches : (sets : List NamedSet) (k : PacketValue) (a : Alternative) → list_all (holds sets k) (matches_of a) ≡ choice_holds sets k a
all_matches sets k a = matches_hold sets k a.family a.protocol a.tests

-- ---- tests

and_same : (b : Bool) → b ≡ (b && b)
and_same true = refl
and_same false = refl

and_true : (b : Bool) → b ≡ (b && true)
and_true true = refl
and_true false = refl

pub and_false : (b : Bool) → (b && false) ≡ false
and_false true = refl
and_false false = refl

shuffled : (a b c d e f : Bool) → ((a && b) && ((c && d) && (e && f))) ≡ ((a && (c && e)) && (b && (d && f)))
shuffled false b c d e f = refl
shuffled true false c d e f = sym (and_false (c && e))
shuffled true true false d e f = refl
shuffled true true true false e f = sym (and_false e)
shuffled true true true true e f = refl

spread : (a b c : Bool) → ((a && b) || (a && c)) ≡ (a && (b || c))
spread true b c = refl
spread false b c = refl

gathered : (a b c : Bool) → ((a && c) || (b && c)) ≡ ((a || b) && c)
gathered true true true = refl
gathered true true false = refl
gathered true false true = refl
gathered true false false = refl
gathered false b c = refl

-- ---- what both ask

-- what they ask holds exactly if this does
abbrev FamilyIs : PacketValue → Bool → Option (Option Family) → Type 0
FamilyIs k v None = v ≡ false
FamilyIs k v (Some f) = family_holds k f ≡ v

abbrev ProtocolIs : PacketValue → Bool → Option Protocol → Type 0
ProtocolIs k v None = v ≡ false
ProtocolIs k v (Some q) = protocol_holds k q ≡ v

one_family : (a : Addr) → ((of_family a Inet && of_family a Inet6) ≡ false) × ((of_family a Inet6 && of_family a Inet) ≡ false)
one_family (V4 bits) = (refl, refl)
one_family (V6 bits) = (refl, refl)

families_both : (k : PacketValue) (f g : Option Family) → FamilyIs k (family_holds k f && family_holds k g) (both_families f g)
families_both k None None = refl
families_both k None (Some g) = refl
families_both k (Some f) None = and_true (of_family k.source f)
families_both k (Some Inet) (Some Inet) = and_same (of_family k.source Inet)
families_both k (Some Inet6) (Some Inet6) = and_same (of_family k.source Inet6)
families_both k (Some Inet) (Some Inet6) = (one_family k.source).0
families_both k (Some Inet6) (Some Inet) = (one_family k.source).1

protocols_both : (k : PacketValue) (p q : Protocol) → ProtocolIs k (protocol_holds k p && protocol_holds k q) (both_protocols p q)
protocols_both k AnyProtocol AnyProtocol = refl
protocols_both k AnyProtocol (Only m) = refl
protocols_both k AnyProtocol NotTcp = refl
protocols_both k (Only n) AnyProtocol = and_true (k.protocol == n)
protocols_both k (Only n) (Only m) = elim (cases_eq n m) [
  | inl e ↦ rw (eq-eqb n m e) (grind (arith, nat_tests))
  | inr e ↦ rw (ne_eqb n m e) (grind (arith, nat_tests))
]
protocols_both k (Only n) NotTcp = elim (cases_eq n 6) [
  | inl e ↦ rw (eq-eqb n 6 e) (grind (arith, nat_tests))
  | inr e ↦ rw (ne_eqb n 6 e) (grind (arith, nat_tests))
]
protocols_both k NotTcp AnyProtocol = and_true (not (k.protocol == 6))
protocols_both k NotTcp (Only n) = elim (cases_eq n 6) [
  | inl e ↦ rw (eq-eqb n 6 e) (grind (arith, nat_tests))
  | inr e ↦ rw (ne_eqb n 6 e) (grind (arith, nat_tests))
]
protocols_both k NotTcp NotTcp = and_same (not (k.protocol == 6))

made_hold : (sets : List NamedSet) (k : PacketValue) (v w : Bool) (f : Option (Option Family)) (q : Option Protocol) (tests : List Match) → FamilyIs k v f → ProtocolIs k w q →
    any_holds sets k (made f q tests) ≡ (v && (w && list_all (holds sets k) tests))
made_hold sets k v w None q tests e h = rw e refl
made_hold sets k v w (Some f) None tests e h = rw h (sym (and_false v))
made_hold sets k v w (Some f) (Some q) tests e h = rw (e, h) (elim (v && (w && list_all (holds sets k) tests)) as (λ b. (b || false) ≡ b) [ true ↦ refl | false ↦ refl ])

joined_hold : (sets : List NamedSet) (k : PacketValue) (a b : Alternative) → any_holds sets k (joined a b) ≡ (choice_holds sets k a && choice_holds sets k b)
joined_hold sets k a b =
    made_hold sets k (family_holds k a.family && family_holds k b.family) (protocol_holds k a.protocol && protocol_holds k b.protocol)
    (both_families a.family b.family) (both_protocols a.protocol b.protocol) (a.tests ++ b.tests)
    (families_both k a.family b.family) (protocols_both k a.protocol b.protocol)
    ∙ ap (λ v. (family_holds k a.family && family_holds k b.family) && ((protocol_holds k a.protocol && protocol_holds k b.protocol) && v)) (list_all-append (holds sets k) a.tests b.tests)
    ∙ shuffled (family_holds k a.family) (family_holds k b.family) (protocol_holds k a.protocol) (protocol_holds k b.protocol) (list_all (holds sets k) a.tests) (list_all (holds sets k) b.tests)

one_hold : (sets : List NamedSet) (k : PacketValue) (a : Alternative) (ys : List Alternative) → any_holds sets k (flat_map (joined a) ys) ≡ (choice_holds sets k a && any_holds sets k ys)
one_hold sets k a [] = sym (and_false (choice_holds sets k a))
one_hold sets k a (y ∷ ys) =
    list_any-append (choice_holds sets k) (joined a y) (flat_map (joined a) ys)
    ∙ ap (λ v. v || any_holds sets k (flat_map (joined a) ys)) (joined_hold sets k a y)
    ∙ ap (λ v. (choice_holds sets k a && choice_holds sets k y) || v) (one_hold sets k a ys)
    ∙ spread (choice_holds sets k a) (choice_holds sets k y) (any_holds sets k ys)

-- one of these and one of those
pub both_hold : (sets : List NamedSet) (k : PacketValue) (xs ys : List Alternative) → any_holds sets k (both xs ys) ≡ (any_holds sets k xs && any_holds sets k ys)
unfolding both
both_hold sets k [] ys = refl
both_hold sets k (x ∷ xs) ys =
    list_any-append (choice_holds sets k) (flat_map (joined x) ys) (both xs ys)
    ∙ ap (λ v. v || any_holds sets k (both xs ys)) (one_hold sets k x ys)
    ∙ ap (λ v. (choice_holds sets k x && any_holds sets k ys) || v) (both_hold sets k xs ys)
    ∙ gathered (choice_holds sets k x) (any_holds sets k xs) (any_holds sets k ys)
