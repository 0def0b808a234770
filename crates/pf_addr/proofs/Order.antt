-- The order of prefixes.
use Rattle.std.proofs.Common.{◌≡◌, ℕ, true, false, Ordering, refl, sym, ap, ◌∙◌, arith}
use Rattle.std.specs.declared.cmp.Ordering.TheVariants.{Less, Equal, Greater}
use Rattle.std.specs.Ordering.{is_lt, is_eq, nat_cmp, ordering_reverse, ordering_then}
use Rattle.std.specs.Cmp.{IsTotalOrder}
use Rattle.std.proofs.lemmas.Cmp.{nat_cmp_total, on_total, then_total, tied_itself, ranked}
use Rattle.pf_addr.specs.declared.addr.Addr.{Addr}
use Rattle.pf_addr.specs.declared.addr.Addr.TheVariants.{V4, V6}
use Rattle.pf_addr.specs.Blocks.{Block}
use Rattle.pf_addr.specs.Order.{version, bits_of, prefix_cmp}

pub total : IsTotalOrder prefix_cmp
unfolding prefix_cmp
total = then_total (on_total (λ (p : Block). version p.base) nat_cmp_total) (then_total (on_total (λ (p : Block). p.len) nat_cmp_total) (on_total (λ (p : Block). bits_of p.base) nat_cmp_total))

pub is_less : (o : Ordering) → is_lt o ≡ true → o ≡ Less
is_less Less h = refl
is_less Equal h = cc
is_less Greater h = cc

pub is_equal : (o : Ordering) → is_eq o ≡ true → o ≡ Equal
is_equal Less h = cc
is_equal Equal h = refl
is_equal Greater h = cc

-- ---- one prefix before another

pub never : (p : Block) → is_lt (prefix_cmp p p) ≡ false
never p = ap is_lt (tied_itself total p)

pub itself : (p : Block) → is_eq (prefix_cmp p p) ≡ true
itself p = ap is_eq (tied_itself total p)

pub chain : (p q r : Block) → is_lt (prefix_cmp p q) ≡ true → is_lt (prefix_cmp q r) ≡ true → is_lt (prefix_cmp p r) ≡ true
chain p q r h k = ap is_lt (total.trans p q r (is_less _ h) (is_less _ k))

-- a greater one is before, seen from the other side
pub turned : (p q : Block) → prefix_cmp p q ≡ Greater → prefix_cmp q p ≡ Less
turned p q h = total.antisymm q p ∙ ap ordering_reverse h

pub turned_less : (p q : Block) → prefix_cmp p q ≡ Less → prefix_cmp q p ≡ Greater
turned_less p q h = total.antisymm q p ∙ ap ordering_reverse h

both_equal : (o e : Ordering) → ordering_then o e ≡ Equal → (o ≡ Equal) × (e ≡ Equal)
both_equal Less e h = cc
both_equal Equal e h = (refl, h)
both_equal Greater e h = cc

nat_same : (x y : ℕ) → nat_cmp x y ≡ Equal → x ≡ y
nat_same x y h = ranked x y Equal (sym h)

same_addr : (a b : Addr) → version a ≡ version b → bits_of a ≡ bits_of b → a ≡ b
same_addr (V4 x) (V4 y) h k = ap V4 k
same_addr (V6 x) (V6 y) h k = ap V6 k
same_addr (V4 x) (V6 y) h k = absurd (omega (arith, h))
same_addr (V6 x) (V4 y) h k = absurd (omega (arith, h))

-- prefixes that tie are one prefix
pub same : (p q : Block) → prefix_cmp p q ≡ Equal → p ≡ q
unfolding prefix_cmp
same p q h =
    let outer = both_equal _ _ h in
    let inner = both_equal _ _ outer.1 in
    let e : p.base ≡ q.base = same_addr p.base q.base (nat_same _ _ outer.0) (nat_same _ _ inner.1) in
    let f : p.len ≡ q.len = nat_same _ _ inner.0 in
    ap {B = Block} (λ (b : Addr). record { base = b; len = p.len }) e ∙ ap {B = Block} (λ (l : ℕ). record { base = q.base; len = l }) f
