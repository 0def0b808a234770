-- Traffic that grows.
use Rattle.std.proofs.Common.{◌≡◌, ℕ, List, [], ◌∷◌, ◌++◌, refl, sym, ap, subst, append_assoc}
use Rattle.std.proofs.lemmas.List.{append-nil, map-append}
use Rattle.px_transport.specs.Wires.{WireEvent, Gave, Handed, Adds, IsQuiet, Moves, given_in, handed_in, hands}

pub adds_then : {X : Type 0} (old mid new : List X → Type 0) (xs ys : List X) → Adds old mid xs → Adds mid new ys →
    Adds old new (xs ++ ys)
adds_then old mid new xs ys a b es h = subst new (append_assoc es xs ys) (b (es ++ xs) (a es h))

pub adds_none : {X : Type 0} (old new : List X → Type 0) → IsQuiet old new → Adds old new []
adds_none old new q es h = subst new (sym (append-nil es)) (q es h)

pub quiet_by : {X : Type 0} (old new : List X → Type 0) → Adds old new [] → IsQuiet old new
quiet_by old new a es h = subst new (append-nil es) (a es h)

pub quiet_adds : {X : Type 0} (old mid new : List X → Type 0) (xs : List X) → IsQuiet old mid → Adds mid new xs →
    Adds old new xs
quiet_adds old mid new xs q a es h = a es (q es h)

pub adds_is : {X : Type 0} (old new : List X → Type 0) (xs ys : List X) → xs ≡ ys → Adds old new xs → Adds old new ys
adds_is old new xs ys e a = subst (Adds old new) e a

-- ---- what is handed over

pub hands_append : (xs ys : List (ℕ × List ℕ)) → hands (xs ++ ys) ≡ hands xs ++ hands ys
hands_append xs ys = map-append (λ d. Handed d.0 d.1) xs ys

pub hands_then : (old mid new : List WireEvent → Type 0) (xs ys : List (ℕ × List ℕ)) → Adds old mid (hands xs) →
    Adds mid new (hands ys) → Adds old new (hands (xs ++ ys))
hands_then old mid new xs ys a b =
    adds_is old new _ _ (sym (hands_append xs ys)) (adds_then old mid new (hands xs) (hands ys) a b)

-- ---- what was given, and what was handed over

pub given_append : (es fs : List WireEvent) → given_in (es ++ fs) ≡ given_in es ++ given_in fs
given_append [] fs = refl
given_append (Gave b ∷ es) fs = ap (λ x. b ∷ x) (given_append es fs)
given_append (Handed to b ∷ es) fs = given_append es fs

pub handed_append : (es fs : List WireEvent) → handed_in (es ++ fs) ≡ handed_in es ++ handed_in fs
handed_append [] fs = refl
handed_append (Gave b ∷ es) fs = handed_append es fs
handed_append (Handed to b ∷ es) fs = ap (λ x. (to, b) ∷ x) (handed_append es fs)

-- ---- moves

pub moves_by : {X : Type 0} (old new : List X → Type 0) (more : List X)
    (how : List X → List X → Type 0) → Adds old new more →
    ((es : List X) → how es (es ++ more)) → Moves old new how
moves_by old new more how a f es h = (es ++ more, a es h, f es)

pub moves_still : {X : Type 0} (old new : List X → Type 0) (how : List X → List X → Type 0) →
    IsQuiet old new → ((es : List X) → how es es) → Moves old new how
moves_still old new how q f es h = (es, q es h, f es)
