-- How code that keeps the front, reads the top, keeps lists or compares bytes meets the definitions.
use Rattle.std.proofs.Common.{◌≡◌, ℕ, suc, ◌<◌, ◌≤◌, inl, inr, List, [], ◌∷◌, Option, Some, None, Contains, nat_eq, arith, refl, sym, ◌∙◌}
use Rattle.std.proofs.lemmas.Bool.{cases_order}
use Rattle.std.specs.Cmp.Lexicographic.{pointwise}
use Rattle.std.proofs.lemmas.Bool.Decides.{Decides-eqb}
use Rattle.std.proofs.lemmas.Slice.Eq.{slice_eq-Decides}
use Rattle.px_model.specs.Node.{IsEquality}
use Rattle.px_model.specs.Step.{positions, top, front}
use Rattle.px_model.specs.Law.{Among}
use Rattle.px_model.proofs.Plans.{front_within, below_front, at_front}

-- a number is the front where all below it is learned, and nothing at it
pub front_is : {X : Type 0} (learned : ℕ → Option X) (f : ℕ) → f ≤ positions → ((q : ℕ) → q < f → (x : X) × (learned q ≡ Some x)) → (f < positions → learned f ≡ None) → front learned ≡ f
front_is learned f within below here =
    elim (cases_order (front learned) f) [
      | inl same ↦ same
      | inr apart ↦ (elim apart [
        | inl less ↦ absurd (
            let s = below (front learned) less in
            let e = at_front learned (omega arith) in
            let c : Some s.0 ≡ None = sym s.1 ∙ e in cc)
        | inr more ↦ absurd (
            let w = front_within learned in
            let s = below_front learned f more in
            let e = here (omega arith) in
            let c : Some s.0 ≡ None = sym s.1 ∙ e in cc)
      ])
    ]

-- between `Among` and the library's `Contains`
pub among_contains : {X : Type 0} (xs : List X) (x : X) → Among xs x → Contains xs x
among_contains [] x a = absurd a
among_contains (y ∷ ys) x a =
    elim a [
      | inl is ↦ (0, omega arith, is)
      | inr b ↦ (let c = among_contains ys x b in (suc c.0, (let u = c.1 in omega arith), c.2))
    ]

-- the equality of commands that are lists of bytes, as `==` computes it
pub bytes_equality : IsEquality (pointwise nat_eq)
bytes_equality xs ys = slice_eq-Decides Decides-eqb xs ys (pointwise nat_eq xs ys) refl
