use Rattle.std.proofs.Common.{◌≡◌, arith, ◌∙◌, sym, ap, inl, inr, get_or}
use Rattle.pf_tables.specs.inner.Intervals.{meets}
use Rattle.pf_tables.specs.declared.interval.Interval.{Interval}
use Rattle.std.specs.Int.{bit_at}
use Rattle.std.proofs.lemmas.Option.{slice_get_within, get_or_from_slice_get}
use Rattle.std.proofs.lemmas.Bool.{cases_lt, true≢false}
use Rattle.pf_tables.proofs.Words.{with_bit}
use Rattle.pf_tables.proofs.column.word_of.Goals as goal
use Rattle.pf_tables.proofs.column.word_of.Goals.{then-meets, else-meets}

pub loop-place-preserved : goal.loop-place-preserved
loop-place-preserved c k x below at is = elim c.if-meets.branch [
  | then-meets w ↦ ap (λ n. bit_at n k) w.word-is ∙ with_bit c.loop-place.word c.loop-place.place k (omega (arith, c.requires, c.loop-place-test.true)) below (λ h. c.loop-place.invariant k x h at is)
  | else-meets w ↦ elim (cases_lt k c.loop-place.place) [
    | inl h ↦ ap (λ n. bit_at n k) w.word-is ∙ c.loop-place.invariant k x h at is
    | inr h ↦
        let place : c.loop-place.place ≡ k = omega (arith, h, below) in
        let none : Interval = record { first = 0; width = 0 } in
        let got : get_or c.args.intervals.now c.loop-place.place none ≡ x = ap (λ n. get_or c.args.intervals.now n none) place ∙ get_or_from_slice_get c.args.intervals.now k x none at in
        absurd (true≢false (sym is ∙ ap (λ y. meets y c.args.first c.args.last) (sym got) ∙ sym c.meets.ensures ∙ w.if-meets.false))
  ]
]

pub returns : goal.returns
returns c k x at is = c.loop-place.invariant k x (omega (arith, slice_get_within _ k x at, c.loop-place-test.false)) at is
