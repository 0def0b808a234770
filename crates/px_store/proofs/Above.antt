-- SQL's `ballot > 0` of a number.
use Rattle.std.proofs.Common.{◌≡◌, inl, inr, ℕ, pos, negsuc, [], ◌∷◌, ◌<◌, Bool, true, false, not, cond, Option, None, Some, nat_eq, Greater, sym, ap, ◌∙◌, arith, refl}
use Rattle.std.proofs.lemmas.Bool.{cases_eq, eq-eqb, ne_eqb}
use Rattle.sqlite.specs.declared.types.Value.{Value}
use Rattle.sqlite_value.specs.Order.{Row, column}
use Rattle.px_model.specs.Node.{Proposal, Slot}
use Rattle.px_model.specs.Spelling.{Bytes}
use Rattle.px_store.specs.Entries.{entry_of}
use Rattle.std.specs.Ordering.{is_gt, int_cmp}
use Rattle.std.proofs.lemmas.Bool.{le-ltb, lt-ltb}
use Rattle.sqlite.specs.declared.types.Value.TheVariants.{Null, Int, Real, Text, Blob}
use Rattle.sqlite_value.proofs.OrderLemmas.{value_cmp-Int}
use Rattle.sqlite.specs.Ops.{binary}
use Rattle.px_store.specs.Seen.{is_above, is_number, number_in, bytes_in, slot_in}
use Rattle.px_store.specs.inner.Seen.{slot_with}
use Rattle.px_store.proofs.Puts.{truth_back}

pub greater : (m n : ℕ) → n < m → is_gt (int_cmp (pos m) (pos n)) ≡ true
greater m n more = let above : int_cmp (pos m) (pos n) ≡ Greater = rw (le-ltb m n (omega (arith, more)), lt-ltb n m more) in rw above refl

pub above : (n : ℕ) → is_above (Int (pos n)) ≡ is_gt (int_cmp (pos n) (pos 0))
unfolding binary
above n = truth_back _ ∙ ap is_gt (value_cmp-Int (pos n) (pos 0))

pub truth_of : (b : ℕ) → is_above (Int (pos b)) ≡ not (nat_eq b 0)
truth_of b = elim (cases_eq b 0) [
  | inl zero ↦ rw (eq-eqb b 0 zero) (rw zero (above 0))
  | inr ne ↦ rw (ne_eqb b 0 ne) (above b ∙ greater b 0 (omega (arith, ne)))
]

pub number_is : (v : Value) → is_number v ≡ true → v ≡ Int (pos (number_in v))
number_is (Int (pos n)) e = refl
number_is (Int (negsuc n)) e = absurd cc
number_is Null e = absurd cc
number_is (Real x) e = absurd cc
number_is (Text t) e = absurd cc
number_is (Blob b) e = absurd cc

abbrev slot : ℕ → Option (Proposal Bytes) → Slot Bytes
slot promised accepted = record { promised = promised; accepted = accepted }

-- one row whose ballot is a number
pub slot_one : (r : Row) → is_number (column r 2) ≡ true → slot_with (number_in (column r 1)) (number_in (column r 2)) (bytes_in (column r 3)) ≡ slot_in (r ∷ [])
slot_one r number =
    let n = number_in (column r 2) in
    let a = number_in (column r 1) in
    let x : Proposal Bytes = record { ballot = n; entry = entry_of (bytes_in (column r 3)) } in
    let is : is_above (column r 2) ≡ not (nat_eq n 0) = ap is_above (number_is (column r 2) number) ∙ truth_of n in
    go a x (nat_eq n 0) ∙ ap (λ (b : Bool). slot a (cond b (Some x) None)) (sym is)
  where
    go : (a : ℕ) (x : Proposal Bytes) (z : Bool) → slot a (cond z None (Some x)) ≡ slot a (cond (not z) (Some x) None)
    go a x true = refl
    go a x false = refl
