-- What goes over a wire and over the wire below.
use Rattle.std.proofs.Common.{◌≡◌, ◌∙◌, ◌⊎◌, inl, inr, ℕ, Bool, true, false, Option, Some, None, List, [], ◌∷◌, ◌++◌, refl, sym, ap, subst, map, length}
use Rattle.std.specs.Prelude.{nat_le, if◌then◌else◌}
use Rattle.px_transport.specs.Wires.{WireEvent, Gave, Handed, Adds, IsQuiet}
use Rattle.px_transport.specs.Loopback as loop
use Rattle.px_transport.specs.Loopback.{Loop, Keeps, Returns, IsQueue, IsReturned, Looped, me_of, kept_of}
use Rattle.px_transport.specs.Faulty as fault
use Rattle.px_transport.specs.Faulty.{Faulty, Loses, WentFaulty}
use Rattle.px_transport.specs.declared.loopback.LoopbackWire.{LoopbackWire}
use Rattle.px_transport.proofs.Traffic.{adds_none}

-- ---- a wire that keeps a member's datagrams to itself

below_append : (xs ys : List Loop) → loop.below_in (xs ++ ys) ≡ loop.below_in xs ++ loop.below_in ys
below_append [] ys = refl
below_append (loop.Passes e ∷ xs) ys = ap (λ es. e ∷ es) (below_append xs ys)
below_append (Keeps b ∷ xs) ys = below_append xs ys
below_append (Returns b ∷ xs) ys = below_append xs ys

above_append : (me : ℕ) (xs ys : List Loop) → loop.above_in me (xs ++ ys) ≡ loop.above_in me xs ++ loop.above_in me ys
above_append me [] ys = refl
above_append me (loop.Passes e ∷ xs) ys = ap (λ es. e ∷ es) (above_append me xs ys)
above_append me (Keeps b ∷ xs) ys = ap (λ es. Handed me b ∷ es) (above_append me xs ys)
above_append me (Returns b ∷ xs) ys = ap (λ es. Gave b ∷ es) (above_append me xs ys)

queue_then : (xs ys : List Loop) (kept mid later : List (List ℕ)) → IsQueue xs kept mid → IsQueue ys mid later →
    IsQueue (xs ++ ys) kept later
queue_then [] ys kept mid later a b = subst (λ k. IsQueue ys k later) a b
queue_then (loop.Passes e ∷ xs) ys kept mid later a b = queue_then xs ys kept mid later a b
queue_then (Keeps d ∷ xs) ys kept mid later a b = queue_then xs ys (kept ++ d ∷ []) mid later a b
queue_then (Returns d ∷ xs) ys [] mid later a b = absurd a
queue_then (Returns d ∷ xs) ys (k ∷ ks) mid later a b = (a.0, queue_then xs ys ks mid later a.1 b)

-- more goes over both
pub looped_more : {W : Type 0} (b b' : List WireEvent → Type 0) (w w' : LoopbackWire W) (ys : List Loop)
    (more : List WireEvent) → me_of w' ≡ me_of w → IsQueue ys (kept_of w) (kept_of w') → Adds b b' (loop.below_in ys) →
    loop.above_in (me_of w) ys ≡ more → Adds (Looped b w) (Looped b' w') more
looped_more b b' w w' ys more me q a m es r = record {
  loops = r.loops ++ ys;
  below_is = subst b' (sym (below_append r.loops ys)) (a (loop.below_in r.loops) r.below_is);
  above_is = ap (λ x. x ++ more) r.above_is ∙ ap (λ x. loop.above_in (me_of w) r.loops ++ x) (sym m)
      ∙ sym (above_append (me_of w) r.loops ys) ∙ ap (λ n. loop.above_in n (r.loops ++ ys)) (sym me);
  queue = queue_then r.loops ys [] (kept_of w) (kept_of w') r.queue q;
}

abbrev passed : List WireEvent → List Loop
passed es = map loop.Passes es

below_passed : (es : List WireEvent) → loop.below_in (passed es) ≡ es
below_passed [] = refl
below_passed (e ∷ es) = ap (λ x. e ∷ x) (below_passed es)

above_passed : (me : ℕ) (es : List WireEvent) → loop.above_in me (passed es) ≡ es
above_passed me [] = refl
above_passed me (e ∷ es) = ap (λ x. e ∷ x) (above_passed me es)

queue_passed : (es : List WireEvent) (kept later : List (List ℕ)) → later ≡ kept → IsQueue (passed es) kept later
queue_passed [] kept later e = e
queue_passed (x ∷ es) kept later e = queue_passed es kept later e

-- what goes over the wire below goes over it
pub looped_below : {W : Type 0} (b b' : List WireEvent → Type 0) (w w' : LoopbackWire W) (more : List WireEvent) →
    me_of w' ≡ me_of w → kept_of w' ≡ kept_of w → Adds b b' more → Adds (Looped b w) (Looped b' w') more
looped_below b b' w w' more me k a =
    looped_more b b' w w' (passed more) more me (queue_passed more (kept_of w) (kept_of w') k)
    (subst (Adds b b') (sym (below_passed more)) a) (above_passed (me_of w) more)

abbrev or_empty : Option (List ℕ) → List ℕ
or_empty None = []
or_empty (Some b) = b

within_or : (fits : Bool) (b d : List ℕ) → b ≡ (if fits then d else []) → (b ≡ d) ⊎ (b ≡ [])
within_or true b d e = inl e
within_or false b d e = inr e

returned_queue : (ks ks' : List (List ℕ)) (room : ℕ) (b : List ℕ) → IsReturned ks room (Some b) ks' →
    IsQueue (Returns b ∷ []) ks ks'
returned_queue [] ks' room b r = absurd (let e : Some b ≡ None = r.0 in cc)
returned_queue (d ∷ ds) ks' room b r = (within_or (nat_le (length d) room) b d (ap or_empty r.0), r.1)

-- it gives what it kept first
pub looped_returned : {W : Type 0} (b b' : List WireEvent → Type 0) (w w' : LoopbackWire W) (room : ℕ) (d : List ℕ) →
    me_of w' ≡ me_of w → IsReturned (kept_of w) room (Some d) (kept_of w') → IsQuiet b b' →
    Adds (Looped b w) (Looped b' w') (Gave d ∷ [])
looped_returned b b' w w' room d me n q =
    looped_more b b' w w' (Returns d ∷ []) (Gave d ∷ []) me (returned_queue (kept_of w) (kept_of w') room d n)
    (adds_none b b' q) refl

-- it keeps a datagram
pub looped_kept : {W : Type 0} (b b' : List WireEvent → Type 0) (w w' : LoopbackWire W) (to : ℕ) (d : List ℕ) →
    me_of w' ≡ me_of w → to ≡ me_of w → kept_of w' ≡ kept_of w ++ d ∷ [] → IsQuiet b b' →
    Adds (Looped b w) (Looped b' w') (Handed to d ∷ [])
looped_kept b b' w w' to d me own k q =
    looped_more b b' w w' (Keeps d ∷ []) (Handed to d ∷ []) me k (adds_none b b' q) (ap (λ n. Handed n d ∷ []) (sym own))

-- ---- a wire that fails at times

faulty_below : (xs ys : List Faulty) → fault.below_in (xs ++ ys) ≡ fault.below_in xs ++ fault.below_in ys
faulty_below [] ys = refl
faulty_below (fault.Passes e ∷ xs) ys = ap (λ es. e ∷ es) (faulty_below xs ys)
faulty_below (Loses to b ∷ xs) ys = faulty_below xs ys

faulty_above : (xs ys : List Faulty) → fault.above_in (xs ++ ys) ≡ fault.above_in xs ++ fault.above_in ys
faulty_above [] ys = refl
faulty_above (fault.Passes e ∷ xs) ys = ap (λ es. e ∷ es) (faulty_above xs ys)
faulty_above (Loses to b ∷ xs) ys = ap (λ es. Handed to b ∷ es) (faulty_above xs ys)

faulty_more : (b b' : List WireEvent → Type 0) (ys : List Faulty) (more : List WireEvent) →
    Adds b b' (fault.below_in ys) → fault.above_in ys ≡ more → Adds (WentFaulty b) (WentFaulty b') more
faulty_more b b' ys more a m es r = record {
  events = r.events ++ ys;
  below_is = subst b' (sym (faulty_below r.events ys)) (a (fault.below_in r.events) r.below_is);
  above_is = ap (λ x. x ++ more) r.above_is ∙ ap (λ x. fault.above_in r.events ++ x) (sym m)
      ∙ sym (faulty_above r.events ys);
}

below_all : (es : List WireEvent) → fault.below_in (map fault.Passes es) ≡ es
below_all [] = refl
below_all (e ∷ es) = ap (λ x. e ∷ x) (below_all es)

above_all : (es : List WireEvent) → fault.above_in (map fault.Passes es) ≡ es
above_all [] = refl
above_all (e ∷ es) = ap (λ x. e ∷ x) (above_all es)

-- what goes over the wire below goes over it
pub faulty_passes : (b b' : List WireEvent → Type 0) (more : List WireEvent) → Adds b b' more →
    Adds (WentFaulty b) (WentFaulty b') more
faulty_passes b b' more a =
    faulty_more b b' (map fault.Passes more) more (subst (Adds b b') (sym (below_all more)) a) (above_all more)

-- a datagram doesn't reach the wire below
pub faulty_loses : (b b' : List WireEvent → Type 0) (to : ℕ) (d : List ℕ) → IsQuiet b b' →
    Adds (WentFaulty b) (WentFaulty b') (Handed to d ∷ [])
faulty_loses b b' to d q = faulty_more b b' (Loses to d ∷ []) (Handed to d ∷ []) (adds_none b b' q) refl
