-- The next of a list of datagrams, as a wire in memory gives it.
use Rattle.std.proofs.Common.{◌≡◌, ◌∙◌, ℕ, suc, zero, ◌+◌, ◌<◌, List, [], ◌∷◌, ◌++◌, Some, ap, refl, arith, map, take, drop, length, sym}
use Rattle.std.proofs.Common.{subst, slice_set, slice_index_or, Bool, true, false, None}
use Rattle.std.specs.Prelude.{IfSome, if◌then◌else◌}
use Rattle.std.proofs.lemmas.List.{take_more_set, map-set, length-map, append-nil}
use Rattle.px_transport.specs.Wires.{WireEvent, Gave, Handed, Adds, given_in, handed_in}
use Rattle.px_transport.proofs.Traffic.{given_append, handed_append}
use Rattle.px_transport.specs.Memory.{IsNext, WentOver, given_of, handed_of, sent_of}
use Rattle.px_transport.specs.declared.memory.MemoryWire.{MemoryWire}

one_on : (i : ℕ) → suc i ≡ i + 1
one_on i = omega arith

pub given_more : {V : Type 0} (f : V → List ℕ) (xs : List V) (i : ℕ) (d : V) (b : List ℕ) → i < length xs → b ≡ f d →
    take (i + 1) (map f (slice_set xs i d)) ≡ take i (map f xs) ++ b ∷ []
given_more f xs i d b h e =
    ap (take (i + 1)) (map-set f xs i d) ∙ take_more_set (map f xs) i (f d) (rw (length-map xs f) h)
    ∙ ap (λ x. take i (map f xs) ++ x ∷ []) (sym e)

next_is : {V : Type 0} (f : V → List ℕ) (xs : List V) (i : ℕ) (d e : V) (room : ℕ) (b : List ℕ) → i < length xs →
    e ≡ slice_index_or xs i e → f d ≡ take room (f e) → b ≡ f d →
    IsNext (drop i (map f xs)) room (Some b) (drop (suc i) (map f (slice_set xs i d)))
next_is f [] i d e room b h g c q = absurd (omega (arith, h))
next_is f (x ∷ xs) zero d e room b h g c q = (ap Some (q ∙ c ∙ ap (λ y. take room (f y)) g), refl)
next_is f (x ∷ xs) (suc i) d e room b h g c q = next_is f xs i d e room b (omega (arith, h)) g c q

pub is_next : {V : Type 0} (f : V → List ℕ) (xs : List V) (i : ℕ) (d e : V) (room : ℕ) (b : List ℕ) → i < length xs →
    e ≡ slice_index_or xs i e → f d ≡ take room (f e) → b ≡ f d →
    IsNext (drop i (map f xs)) room (Some b) (drop (i + 1) (map f (slice_set xs i d)))
is_next f xs i d e room b h g c q =
    let P : ℕ → Type 0 = λ k. IsNext (drop i (map f xs)) room (Some b) (drop k (map f (slice_set xs i d))) in
    subst P (one_on i) (next_is f xs i d e room b h g c q)

-- ---- what went over a wire in memory

given_none : (es : List WireEvent) (to : ℕ) (d : List ℕ) → given_in (es ++ Handed to d ∷ []) ≡ given_in es
given_none es to d = given_append es (Handed to d ∷ []) ∙ append-nil (given_in es)

handed_none : (es : List WireEvent) (d : List ℕ) → handed_in (es ++ Gave d ∷ []) ≡ handed_in es
handed_none es d = handed_append es (Gave d ∷ []) ∙ append-nil (handed_in es)

-- it gave one more
pub went_given : (w w' : MemoryWire) (d : List ℕ) → given_of w' ≡ given_of w ++ d ∷ [] → handed_of w' ≡ handed_of w →
    Adds (WentOver w) (WentOver w') (Gave d ∷ [])
went_given w w' d g h es r = record {
  given = given_append es (Gave d ∷ []) ∙ ap (λ x. x ++ d ∷ []) r.given ∙ sym g;
  handed = subst (λ o. IfSome o (λ all. handed_in (es ++ Gave d ∷ []) ≡ all)) (sym h)
      (subst (λ x. IfSome (handed_of w) (λ all. x ≡ all)) (sym (handed_none es d)) r.handed);
}

kept_more : (b : Bool) (s s' h h' : List (ℕ × List ℕ)) (x : ℕ × List ℕ) → s' ≡ s ++ x ∷ [] → h' ≡ h ++ x ∷ [] →
    IfSome (if b then Some s else None) (λ all. h ≡ all) → IfSome (if b then Some s' else None) (λ all. h' ≡ all)
kept_more true s s' h h' x e f r = f ∙ ap (λ y. y ++ x ∷ []) r ∙ sym e
kept_more false s s' h h' x e f r = r

-- it was handed one more, and has it
pub went_handed : (w w' : MemoryWire) (to : ℕ) (d : List ℕ) → given_of w' ≡ given_of w → w'.is_whole ≡ w.is_whole →
    sent_of w' ≡ sent_of w ++ (to, d) ∷ [] →
    Adds (WentOver w) (WentOver w') (Handed to d ∷ [])
went_handed w w' to d g whole s es r = record {
  given = given_none es to d ∙ r.given ∙ sym g;
  handed = subst (λ b. IfSome (if b then Some (sent_of w') else None)
      (λ all. handed_in (es ++ Handed to d ∷ []) ≡ all)) (sym whole)
      (kept_more w.is_whole _ _ _ _ (to, d) s (handed_append es (Handed to d ∷ [])) r.handed);
}

-- it was handed one more, and has it no longer
pub went_lost : (w w' : MemoryWire) (to : ℕ) (d : List ℕ) → given_of w' ≡ given_of w → w'.is_whole ≡ false →
    Adds (WentOver w) (WentOver w') (Handed to d ∷ [])
went_lost w w' to d g lost es r = record {
  given = given_none es to d ∙ r.given ∙ sym g;
  handed = subst (λ b. IfSome (if b then Some (sent_of w') else None)
      (λ all. handed_in (es ++ Handed to d ∷ []) ≡ all)) (sym lost) tt;
}
