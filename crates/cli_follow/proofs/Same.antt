-- Members are the same exactly where their test says so.
use Rattle.std.proofs.Common.{◌≡◌, ◌∙◌, ℕ, ◌==◌, Bool, true, false, List, [], ◌∷◌, refl, sym, ap}
use Rattle.std.specs.Prelude.{not, ◌↔◌}
use Rattle.std.specs.Bool.{Decides}
use Rattle.std.specs.Cmp.Lexicographic.{pointwise}
use Rattle.std.proofs.lemmas.Bool.{and_parts, eq-eqb, eqb-true, false≢true, true≢false}
use Rattle.std.proofs.lemmas.Slice.Eq.{slice_eq-Decides}
use Rattle.pf_addr.specs.declared.addr.Addr.{Addr}
use Rattle.pf_addr.specs.declared.addr.Addr.TheVariants.{V4, V6}
use Rattle.nft_rules.specs.declared.guard.Member.{Member}
use Rattle.pf_eval.specs.PacketTexts.{same_family}
use Rattle.nft_rules.specs.Guard.{same_addr}
use Rattle.cli_follow.specs.Output.{same_member, same_members}
use Rattle.nft_rules.specs.contracts.guard.MemberPartialEq.TheImpl.{eq-value}

abbrev member : Addr → ℕ → Member
member a p = record { address = a; port = p }

abbrev bits_of : Addr → ℕ
bits_of (V4 x) = x
bits_of (V6 x) = x

itself : (n : ℕ) → (n == n) ≡ true
itself n = eq-eqb n n refl

by_parts : (a b : Addr) (p q : ℕ) → Decides (eq-value.it (member a p) (member b q)) (member a p ≡ member b q)
by_parts (V4 x) (V4 y) p q = (
  λ e. let both = and_parts (x == y) (p == q) e in let s = eqb-true x y both.0 in let t = eqb-true p q both.1 in rw (s, t) refl,
  λ e. let s : x ≡ y = ap (λ (m : Member). bits_of m.address) e in let t : p ≡ q = ap (λ (m : Member). m.port) e in rw (s, t, itself y, itself q) refl,
)
by_parts (V6 x) (V6 y) p q = (
  λ e. let both = and_parts (x == y) (p == q) e in let s = eqb-true x y both.0 in let t = eqb-true p q both.1 in rw (s, t) refl,
  λ e. let s : x ≡ y = ap (λ (m : Member). bits_of m.address) e in let t : p ≡ q = ap (λ (m : Member). m.port) e in rw (s, t, itself y, itself q) refl,
)
by_parts (V4 x) (V6 y) p q = (λ e. absurd (false≢true e), λ e. let s : V4 x ≡ V6 y = ap (λ (m : Member). m.address) e in absurd cc)
by_parts (V6 x) (V4 y) p q = (λ e. absurd (false≢true e), λ e. let s : V6 x ≡ V4 y = ap (λ (m : Member). m.address) e in absurd cc)

decides : (a b : Member) → Decides (eq-value.it a b) (a ≡ b)
decides a b = by_parts a.address b.address a.port b.port

not_false : (b : Bool) → not b ≡ false → b ≡ true
not_false true e = refl
not_false false e = absurd (true≢false e)

-- what `!=` answers of two lists of members
pub differ : (xs ys : List Member) (r : Bool) → r ≡ not (pointwise eq-value.it xs ys) → (r ≡ false → xs ≡ ys) × (xs ≡ ys → r ≡ false)
differ xs ys r h =
    let d = slice_eq-Decides decides xs ys (pointwise eq-value.it xs ys) refl in
    (λ e. d.0 (not_false (pointwise eq-value.it xs ys) (sym h ∙ e)), λ e. h ∙ ap not (d.1 e))

-- ---- by the definition's test

family_same : (a b : Addr) → same_addr a b ≡ true → a ≡ b
family_same (V4 x) (V4 y) h = ap V4 (eqb-true x y (and_parts (same_family (V4 x) (V4 y)) (x == y) h).1)
family_same (V6 x) (V6 y) h = ap V6 (eqb-true x y (and_parts (same_family (V6 x) (V6 y)) (x == y) h).1)
family_same (V4 x) (V6 y) h = absurd (false≢true h)
family_same (V6 x) (V4 y) h = absurd (false≢true h)

addr_itself : (a : Addr) → same_addr a a ≡ true
addr_itself (V4 x) = itself x
addr_itself (V6 x) = itself x

member_same : (a b : Member) → same_member a b ≡ true → a ≡ b
member_same a b h =
    let both = and_parts (same_addr a.address b.address) (a.port == b.port) h in
    ap (λ (x : Addr). member x a.port) (family_same a.address b.address both.0) ∙ ap (λ (p : ℕ). member b.address p) (eqb-true a.port b.port both.1)

member_itself : (a : Member) → same_member a a ≡ true
member_itself a = rw (addr_itself a.address, itself a.port) refl

members_same : (xs ys : List Member) → same_members xs ys ≡ true → xs ≡ ys
members_same [] [] h = refl
members_same [] (y ∷ ys) h = absurd (false≢true h)
members_same (x ∷ xs) [] h = absurd (false≢true h)
members_same (x ∷ xs) (y ∷ ys) h =
    let both = and_parts (same_member x y) (same_members xs ys) h in
    ap (λ (m : Member). m ∷ xs) (member_same x y both.0) ∙ ap (λ (ms : List Member). y ∷ ms) (members_same xs ys both.1)

members_itself : (xs : List Member) → same_members xs xs ≡ true
members_itself [] = refl
members_itself (x ∷ xs) = rw (member_itself x, members_itself xs) refl

by_cases : (xs ys : List Member) (r b : Bool) → same_members xs ys ≡ b → (r ≡ false → xs ≡ ys) → (xs ≡ ys → r ≡ false) → r ≡ not b
by_cases xs ys r true e f g = g (members_same xs ys e)
by_cases xs ys true false e f g = refl
by_cases xs ys false false e f g = absurd (false≢true (sym e ∙ ap (λ (ms : List Member). same_members xs ms) (sym (f refl)) ∙ members_itself xs))

-- what is answered of other members is what the definition tests
pub other_members : (xs ys : List Member) (r : Bool) → (r ≡ false ↔ xs ≡ ys) → r ≡ not (same_members xs ys)
other_members xs ys r h = by_cases xs ys r (same_members xs ys) refl h.0 h.1
