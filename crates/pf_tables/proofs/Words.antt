-- Words of 64 bits: one bit set, a mask of the high bits, four words at once, a row of them.
use Rattle.std.proofs.Common.{◌≡◌, ℕ, ◌+◌, ◌-◌, ◌*◌, ◌/◌, ◌%◌, ◌^◌, ◌<◌, ◌≤◌, length, get_or, List, [], ◌∷◌, ◌++◌, inl, inr, refl, sym, ap, ◌∙◌, arith, min, bit_and, bit_or, subst}
use Rattle.std.specs.Int.{bit_at, w64, trailing_zeros}
use Rattle.std.proofs.Math.ListN.{get_or-append}
use Rattle.std.proofs.Math.Seq.{get_or-append_seam}
use Rattle.std.proofs.lemmas.Bool.{cases_lt, cases_eq}
use Rattle.std.proofs.lemmas.Nat.{mod_below, and_le_r}
use Rattle.std.proofs.lemmas.Nat.Bits.{bit_at_set_same, bit_at_set_other, ones_shl, bit_at_mask_inside, bit_at_mask_below, bit_at_ones, bit_at_and, bit_at-lt, bit_at-zero, bit_at-trailing_zeros}
use Rattle.pf_tables.specs.Rows.{HasBit}

-- ---- a word that is made bit by bit

-- once the bit at a place is set, all up to there are that have to be
pub with_bit : (word place k : ℕ) → place < 64 → k < place + 1 → (k < place → bit_at word k ≡ 1) → bit_at (bit_or word (1 * 2 ^ place % 2 ^ 64)) k ≡ 1
with_bit word place k small below before = elim (cases_eq k place) [
  | inl e ↦ subst (λ n. bit_at (bit_or word (1 * 2 ^ place % 2 ^ 64)) n ≡ 1) (sym e) (bit_at_set_same w64 word place small)
  | inr e ↦ bit_at_set_other w64 word place small k e ∙ before (omega (arith, below, e))
]

-- ---- masks

-- the mask of the bits from a place of a word on
abbrev pub mask_from : ℕ → ℕ
mask_from from = 18446744073709551615 * 2 ^ (from % 64) % 18446744073709551616

mask_is : (from : ℕ) → mask_from from ≡ 2 ^ 64 - 2 ^ (from % 64)
mask_is from = ones_shl 64 (from % 64) (omega arith)

pub mask_fits : (from : ℕ) → mask_from from < 18446744073709551616
mask_fits from = mod_below (18446744073709551615 * 2 ^ (from % 64)) 18446744073709551616 (omega arith)

pub mask_wanted : (from k : ℕ) → k < 64 → from ≤ 64 * (from / 64) + k → bit_at (mask_from from) k ≡ 1
mask_wanted from k small past = ap (λ m. bit_at m k) (mask_is from) ∙ bit_at_mask_inside (from % 64) 64 k (omega (arith, past)) small

pub mask_others : (from k : ℕ) → k < 64 → 64 * (from / 64) + k < from → bit_at (mask_from from) k ≡ 0
mask_others from k small before = ap (λ m. bit_at m k) (mask_is from) ∙ bit_at_mask_below (from % 64) 64 k (omega (arith, before))

pub ones_wanted : (k : ℕ) → k < 64 → bit_at 18446744073709551615 k ≡ 1
ones_wanted k small = bit_at_ones 64 k small

-- ---- four words at once

abbrev pub four : (a b c m : ℕ) → ℕ
four a b c m = bit_and (bit_and (bit_and a b) c) m

four_bits : (a b c m k : ℕ) → bit_at (four a b c m) k ≡ min (min (min (bit_at a k) (bit_at b k)) (bit_at c k)) (bit_at m k)
four_bits a b c m k =
    bit_at_and (bit_and (bit_and a b) c) m k ∙ ap (λ n. min n (bit_at m k)) (bit_at_and (bit_and a b) c k ∙ ap (λ n. min n (bit_at c k)) (bit_at_and a b k))

pub four_set : (a b c m k : ℕ) → bit_at a k ≡ 1 → bit_at b k ≡ 1 → bit_at c k ≡ 1 → bit_at m k ≡ 1 → bit_at (four a b c m) k ≡ 1
four_set a b c m k ha hb hc hm = four_bits a b c m k ∙ rw (ha, hb, hc, hm) refl

least : (a b c d : ℕ) → a < 2 → b < 2 → c < 2 → d < 2 → min (min (min a b) c) d ≡ 1 → (a ≡ 1) × (b ≡ 1) × (c ≡ 1) × (d ≡ 1)
least a b c d ha hb hc hd h = (omega (arith, ha, hb, hc, hd, h), omega (arith, ha, hb, hc, hd, h), omega (arith, ha, hb, hc, hd, h), omega (arith, ha, hb, hc, hd, h))

pub four_parts : (a b c m k : ℕ) → bit_at (four a b c m) k ≡ 1 → (bit_at a k ≡ 1) × (bit_at b k ≡ 1) × (bit_at c k ≡ 1) × (bit_at m k ≡ 1)
four_parts a b c m k h = least (bit_at a k) (bit_at b k) (bit_at c k) (bit_at m k) (bit_at-lt a k) (bit_at-lt b k) (bit_at-lt c k) (bit_at-lt m k) (sym (four_bits a b c m k) ∙ h)

one_or_zero : (n : ℕ) → n ≡ 0 → n ≡ 1 → ⊥
one_or_zero n h k = absurd (omega (arith, h, k))

pub no_bit : (word k : ℕ) → word ≡ 0 → bit_at word k ≡ 1 → ⊥
no_bit word k e h = one_or_zero (bit_at word k) (ap (λ n. bit_at n k) e ∙ bit_at-zero k) h

pub clear : (word k : ℕ) → bit_at word k ≡ 0 → bit_at word k ≡ 1 → ⊥
clear word k e h = one_or_zero (bit_at word k) e h

-- ---- rows

pub bit_in_front : (row : List ℕ) (w i : ℕ) → i < 64 * length row → HasBit row i → HasBit (row ++ w ∷ []) i
bit_in_front row w i h e = ap (λ n. bit_at n (i % 64)) (get_or-append row (w ∷ []) 0 (i / 64) (omega (arith, h))) ∙ e

pub bit_behind : (row : List ℕ) (w i : ℕ) → 64 * length row ≤ i → i < 64 * length row + 64 → bit_at w (i - 64 * length row) ≡ 1 → HasBit (row ++ w ∷ []) i
bit_behind row w i low high e =
    let at : i / 64 ≡ length row = omega (arith, low, high) in
    let in_word : i % 64 ≡ i - 64 * length row = omega (arith, low, high) in
    ap (λ k. bit_at (get_or (row ++ w ∷ []) k 0) (i % 64)) at ∙ ap (λ n. bit_at n (i % 64)) (get_or-append_seam row w [] 0) ∙ ap (bit_at w) in_word ∙ e

-- the word and the bit of a place
pub bit_of : (row : List ℕ) (i at k : ℕ) → i / 64 ≡ at → i % 64 ≡ k → HasBit row i → bit_at (get_or row at 0) k ≡ 1
bit_of row i at k a b h = ap (λ n. bit_at (get_or row n 0) k) (sym a) ∙ ap (bit_at (get_or row (i / 64) 0)) (sym b) ∙ h

pub bit_to : (row : List ℕ) (i at k : ℕ) → i / 64 ≡ at → i % 64 ≡ k → bit_at (get_or row at 0) k ≡ 1 → HasBit row i
bit_to row i at k a b h = ap (λ n. bit_at (get_or row n 0) (i % 64)) a ∙ ap (bit_at (get_or row at 0)) b ∙ h

-- ---- three rows

abbrev pub HasAll : (a b c : List ℕ) → ℕ → Type 0
HasAll a b c i = HasBit a i × HasBit b i × HasBit c i

-- the bits of three rows under a mask
abbrev pub word_at : (a b c : List ℕ) → (at m : ℕ) → ℕ
word_at a b c at m = four (get_or a at 0) (get_or b at 0) (get_or c at 0) m

-- the mask has the bits of the places from the wanted one on
abbrev pub IsMask : (from at m : ℕ) → Type 0
IsMask from at m = ((k : ℕ) → k < 64 → from ≤ 64 * at + k → bit_at m k ≡ 1) × ((k : ℕ) → k < 64 → 64 * at + k < from → bit_at m k ≡ 0)

-- a place in the word has its bit there
in_word : (a b c : List ℕ) (from at m i : ℕ) → IsMask from at m → from ≤ i → 64 * at ≤ i → i < 64 * at + 64 → HasAll a b c i → bit_at (word_at a b c at m) (i - 64 * at) ≡ 1
in_word a b c from at m i mask low past near h =
    let word : i / 64 ≡ at = omega (arith, past, near) in
    let bit : i % 64 ≡ i - 64 * at = omega (arith, past, near) in
    four_set (get_or a at 0) (get_or b at 0) (get_or c at 0) m (i - 64 * at) (bit_of a i at (i - 64 * at) word bit h.0) (bit_of b i at (i - 64 * at) word bit h.1) (bit_of c i at (i - 64 * at) word bit h.2)
    (mask.0 (i - 64 * at) (omega (arith, near, past)) (omega (arith, low, past)))

-- a word that is 0 has no place
pub none_in : (a b c : List ℕ) (from at m : ℕ) → IsMask from at m → ((i : ℕ) → from ≤ i → i < 64 * at → HasAll a b c i → ⊥) → word_at a b c at m ≡ 0 →
    (i : ℕ) → from ≤ i → i < 64 * (at + 1) → HasAll a b c i → ⊥
none_in a b c from at m mask before none i low high h = elim (cases_lt i (64 * at)) [
  | inl early ↦ before i low early h
  | inr past ↦ no_bit (word_at a b c at m) (i - 64 * at) none (in_word a b c from at m i mask low past (omega (arith, high)) h)
]

-- in a word that isn't 0 the lowest bit is the first place
pub first_in : (a b c : List ℕ) (from at m : ℕ) → m < 18446744073709551616 → IsMask from at m → ((i : ℕ) → from ≤ i → i < 64 * at → HasAll a b c i → ⊥) → (word_at a b c at m ≡ 0 → ⊥) →
    let p = at * 64 + trailing_zeros w64 (word_at a b c at m) in (from ≤ p) × HasAll a b c p × ((i : ℕ) → from ≤ i → i < p → HasAll a b c i → ⊥)
first_in a b c from at m fits mask before some =
    let x = get_or a at 0 in
    let y = get_or b at 0 in
    let z = get_or c at 0 in
    let w = word_at a b c at m in
    let t = trailing_zeros w64 w in
    let least : w ≤ m = and_le_r (bit_and (bit_and x y) z) m in
    let lowest = bit_at-trailing_zeros w64 w (omega (arith, some)) (omega (arith, least, fits)) in
    let parts = four_parts x y z m t lowest.1 in
    let word : (at * 64 + t) / 64 ≡ at = omega (arith, lowest.0) in
    let bit : (at * 64 + t) % 64 ≡ t = omega (arith, lowest.0) in (
      elim (cases_lt (at * 64 + t) from) [
        | inl early ↦ absurd (clear m t (mask.1 t lowest.0 (omega (arith, early))) parts.3)
        | inr late ↦ late
      ],
      (bit_to a (at * 64 + t) at t word bit parts.0, bit_to b (at * 64 + t) at t word bit parts.1, bit_to c (at * 64 + t) at t word bit parts.2),
      λ i low high h. elim (cases_lt i (64 * at)) [
        | inl early ↦ before i low early h
        | inr past ↦ clear w (i - 64 * at) (lowest.2 (i - 64 * at) (omega (arith, high, past))) (in_word a b c from at m i mask low past (omega (arith, high, lowest.0)) h)
      ],
    )
