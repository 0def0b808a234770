-- Lists among lists, and what a wire is handed again.
use Rattle.std.proofs.Common.{◌≡◌, ◌∙◌, ℕ, zero, suc, ◌+◌, ◌<◌, ◌≤◌, ◌⊎◌, List, [], ◌∷◌, ◌++◌, Some, length, slice_get, ap, subst, inl, inr, arith}
use Rattle.std.proofs.lemmas.Option.{slice_get_within}
use Rattle.px_model.proofs.Basics.{among_left, among_right, among_cases, among_get}
use Rattle.px_model.specs.Law.{Among}
use Rattle.px_transport.specs.Wires.{WireEvent, Handed, Adds, IsQuiet}
use Rattle.px_transport.proofs.Traffic as traffic
use Rattle.px_transport.proofs.Traffic.{adds_none}
use Rattle.node_loop.specs.Again.{Addressed, AreAmong, HandsAgain, HandsFor, HandsShort, HandsFirst, HandsAt}

pub among_all : {X : Type 0} (xs : List X) → AreAmong xs xs
among_all xs x h = h

pub among_then : {X : Type 0} (xs ys zs : List X) → AreAmong xs ys → AreAmong ys zs → AreAmong xs zs
among_then xs ys zs a b x h = b x (a x h)

-- the same list
pub among_is : {X : Type 0} (xs ys : List X) → xs ≡ ys → AreAmong xs ys
among_is xs ys e x h = subst (λ (zs : List _). Among zs x) e h

-- no list
pub among_none : {X : Type 0} (ys : List X) → AreAmong [] ys
among_none ys x h = absurd h

pub among_front : {X : Type 0} (xs ys zs : List X) → AreAmong xs ys → AreAmong xs (ys ++ zs)
among_front xs ys zs a x h = among_left ys zs x (a x h)

pub among_back : {X : Type 0} (xs ys zs : List X) → AreAmong xs zs → AreAmong xs (ys ++ zs)
among_back xs ys zs a x h = among_right ys zs x (a x h)

pub among_both : {X : Type 0} (xs ys zs : List X) → AreAmong xs zs → AreAmong ys zs → AreAmong (xs ++ ys) zs
among_both xs ys zs a b x h = elim (among_cases xs ys x h) [ inl p ↦ a x p | inr q ↦ b x q ]

-- one more of each
pub among_sides : {X : Type 0} (xs ys vs ws : List X) → AreAmong xs vs → AreAmong ys ws → AreAmong (xs ++ ys) (vs ++ ws)
among_sides xs ys vs ws a b = among_both xs ys (vs ++ ws) (among_front xs vs ws a) (among_back ys vs ws b)

-- ---- what is handed over again

pub hands_none : (kept : List Addressed) (old new : List WireEvent → Type 0) → IsQuiet old new → HandsAgain kept old new
hands_none kept old new q = ([], among_none kept, adds_none old new q)

pub hands_then : (kept : List Addressed) (old mid new : List WireEvent → Type 0) → HandsAgain kept old mid → HandsAgain kept mid new →
    HandsAgain kept old new
hands_then kept old mid new (xs, a, g) (ys, b, h) = (xs ++ ys, among_both xs ys kept a b, traffic.hands_then old mid new xs ys g h)

-- of more that is kept
pub hands_more : (few many : List Addressed) (old new : List WireEvent → Type 0) → AreAmong few many → HandsAgain few old new →
    HandsAgain many old new
hands_more few many old new a (xs, b, g) = (xs, among_then xs few many b a, g)

-- ---- for one member

pub for_again : (m : ℕ) (kept : List Addressed) (old new : List WireEvent → Type 0) → HandsFor m kept old new → HandsAgain kept old new
for_again m kept old new (again, a, g, to) = (again, a, g)

pub for_none : (m : ℕ) (kept : List Addressed) (old new : List WireEvent → Type 0) → IsQuiet old new → HandsFor m kept old new
for_none m kept old new q = ([], among_none kept, adds_none old new q, λ d h. absurd h)

pub for_one : (m : ℕ) (kept : List Addressed) (d : Addressed) (old new : List WireEvent → Type 0) → d.0 ≡ m → Among kept d →
    Adds old new (Handed d.0 d.1 ∷ []) → HandsFor m kept old new
for_one m kept d old new to a g = (
  d ∷ [],
  λ x h. elim h [ inl e ↦ subst (λ (y : Addressed). Among kept y) e a | inr n ↦ absurd n ],
  g,
  λ x h. elim h [ inl e ↦ subst (λ (y : Addressed). y.0 ≡ m) e to | inr n ↦ absurd n ],
)

pub for_then : (m : ℕ) (kept : List Addressed) (old mid new : List WireEvent → Type 0) → HandsFor m kept old mid → HandsFor m kept mid new →
    HandsFor m kept old new
for_then m kept old mid new (xs, a, g, to) (ys, b, h, too) = (
  xs ++ ys,
  among_both xs ys kept a b,
  traffic.hands_then old mid new xs ys g h,
  λ d is. elim (among_cases xs ys d is) [ inl p ↦ to d p | inr q ↦ too d q ],
)

pub for_more : (m : ℕ) (few many : List Addressed) (old new : List WireEvent → Type 0) → AreAmong few many → HandsFor m few old new →
    HandsFor m many old new
for_more m few many old new a (xs, b, g, to) = (xs, among_then xs few many b a, g, to)

-- ---- which of them

pub at_again : (i : ℕ) (kept : List Addressed) (old new : List WireEvent → Type 0) → HandsAt i kept old new → HandsAgain kept old new
at_again i kept old new (again, a, g, all) = (again, λ d h. among_get kept i d (a d h), g)

-- none is handed over, since none is there or it is too long
pub at_none : (i : ℕ) (kept : List Addressed) (old new : List WireEvent → Type 0) → IsQuiet old new →
    ((d : Addressed) → slice_get kept i ≡ Some d → length d.1 ≤ 1200 → ⊥) → HandsAt i kept old new
at_none i kept old new q never = ([], λ d none. absurd none, adds_none old new q, λ d at short. absurd (never d at short))

pub at_one : (i : ℕ) (kept : List Addressed) (d : Addressed) (old new : List WireEvent → Type 0) →
    slice_get kept i ≡ Some d → Adds old new (Handed d.0 d.1 ∷ []) → HandsAt i kept old new
at_one i kept d old new at g = (
  d ∷ [],
  λ x h. elim h [ inl e ↦ subst (λ (y : Addressed). slice_get kept i ≡ Some y) e at | inr n ↦ absurd n ],
  g,
  λ x is short. inl (cc),
)

pub first_none : (kept : List Addressed) (old : List WireEvent → Type 0) → HandsFirst 0 kept old old
first_none kept old = ([], among_none kept, adds_none old old (λ es h. h), λ k d less at short. absurd (omega (arith, less)))

first_at : (n k : ℕ) (kept : List Addressed) (d : Addressed) (xs ys : List Addressed) → k < n + 1 →
    ((k : ℕ) (d : Addressed) → k < n → slice_get kept k ≡ Some d → length d.1 ≤ 1200 → Among xs d) →
    ((d : Addressed) → slice_get kept n ≡ Some d → length d.1 ≤ 1200 → Among ys d) →
    slice_get kept k ≡ Some d → length d.1 ≤ 1200 → (k < n) ⊎ (k ≡ n) → Among (xs ++ ys) d
first_at n k kept d xs ys less a b at short (inl before) = among_left xs ys d (a k d before at short)
first_at n k kept d xs ys less a b at short (inr here) =
    among_right xs ys d (b d (subst (λ (i : ℕ). slice_get kept i ≡ Some d) here at) short)

less_or : (k n : ℕ) → k < n + 1 → (k < n) ⊎ (k ≡ n)
less_or k zero less = inr (omega (arith, less))
less_or zero (suc n) less = inl (omega arith)
less_or (suc k) (suc n) less =
    elim (less_or k n (omega (arith, less))) [ inl a ↦ inl (omega (arith, a)) | inr e ↦ inr (ap suc e) ]

pub first_more : (n : ℕ) (kept : List Addressed) (old mid new : List WireEvent → Type 0) → HandsFirst n kept old mid → HandsAt n kept mid new →
    HandsFirst (n + 1) kept old new
first_more n kept old mid new (xs, a, g, some) (ys, b, h, one) = (
  xs ++ ys,
  among_both xs ys kept a (λ d m. among_get kept n d (b d m)),
  traffic.hands_then old mid new xs ys g h,
  λ k d less at short. first_at n k kept d xs ys less some one at short (less_or k n less),
)

place_of : (kept : List Addressed) (d : Addressed) → Among kept d → (k : ℕ) × (slice_get kept k ≡ Some d)
place_of [] d h = absurd h
place_of (e ∷ xs) d (inl is) = (zero, ap Some is)
place_of (e ∷ xs) d (inr later) = let r = place_of xs d later in (suc r.0, r.1)

-- all of them
pub first_short : (kept : List Addressed) (old new : List WireEvent → Type 0) → HandsFirst (length kept) kept old new → HandsShort kept old new
first_short kept old new (again, a, g, some) = (
  again,
  a,
  g,
  λ d h short. (let r = place_of kept d h in some r.0 d (slice_get_within kept r.0 d r.1) r.1 short),
)

pub first_again : (n : ℕ) (kept : List Addressed) (old new : List WireEvent → Type 0) → HandsFirst n kept old new → HandsAgain kept old new
first_again n kept old new (again, a, g, some) = (again, a, g)
