-- Counters of packets that are sent one after another.
use Rattle.std.proofs.Common.{◌≡◌, ◌∙◌, ℕ, ◌+◌, Bool, true, false, List, [], ◌∷◌, length, map, ap, sym, subst, refl, arith}
use Rattle.std.specs.Prelude.{◌==◌, if◌then◌else◌}
use Rattle.std.specs.List.{range_with_len, filter}
use Rattle.std.proofs.lemmas.Bool.{eqb-true, eqb-false}
use Rattle.std.proofs.lemmas.List.{get_or-set_same, get_or-set_other, length-set}
use Rattle.px_transport.specs.Sending.{new_to, to_member, counted, counted_for, counted_all}
use Rattle.px_transport.specs.SendingLaws.{numbers, counters_for, AreForMembers, CountersFollow}

abbrev Follow : (start after : ℕ) → List ℕ → Type 0
Follow start after ns = (ns ≡ range_with_len (start + 1) (length ns)) × (after ≡ start + length ns)

step : (b : Bool) (x start next after : ℕ) (ns : List ℕ) → (b ≡ true → (x ≡ start + 1) × (next ≡ start + 1)) →
    (b ≡ false → next ≡ start) → Follow next after ns → Follow start after (if b then x ∷ ns else ns)
step true x start next after ns t f ih =
    let e = t refl in (
      ap (λ y. y ∷ ns) e.0
          ∙ ap (λ ys. (start + 1) ∷ ys) (ih.0 ∙ ap (λ s. range_with_len (s + 1) (length ns)) e.1),
      omega (arith, ih.1, e.1),
    )
step false x start next after ns t f ih = subst (λ s. Follow s after ns) (f refl) ih

parts : (b : Bool) (n : ℕ × ℕ) (ns : List (ℕ × ℕ)) →
    map (λ n. n.1) (if b then n ∷ ns else ns) ≡ (if b then n.1 ∷ map (λ n. n.1) ns else map (λ n. n.1) ns)
parts true n ns = refl
parts false n ns = refl

pub counters_follow : CountersFollow
counters_follow os [] m l a = (refl, omega arith)
counters_follow os (p ∷ ps) m l a =
    let more = counted (to_member os p.to) in
    let os' = counted_for os p.to in
    let same : length os' ≡ length os = length-set os p.to more in
    let ih = counters_follow os' ps m (omega (arith, l, same)) (subst (λ n. AreForMembers n ps) (sym same) a.1) in
    let x = (to_member os p.to).counter + 1 in
    let ns = filter (λ n. n.0 == m) (numbers os' ps) in
    subst (λ xs. Follow (to_member os m).counter (to_member (counted_all os' ps) m).counter xs)
    (sym (parts (p.to == m) (p.to, x) ns))
    (step (p.to == m) x (to_member os m).counter (to_member os' m).counter
    (to_member (counted_all os' ps) m).counter (counters_for m os' ps)
    (λ e. (
      ap (λ k. (to_member os k).counter + 1) (eqb-true p.to m e),
      subst (λ k. (to_member os' k).counter ≡ (to_member os k).counter + 1) (eqb-true p.to m e)
          (ap (λ o. o.counter) (get_or-set_same os p.to more new_to a.0)),
    ))
    (λ e. ap (λ o. o.counter) (get_or-set_other os p.to m more new_to (λ f. eqb-false p.to m e (sym f)))) ih)
