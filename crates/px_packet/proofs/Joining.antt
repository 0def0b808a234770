-- Parts of a datagram, put together.
use Rattle.std.proofs.Common.{◌≡◌, ◌∙◌, ℕ, zero, suc, ◌+◌, ◌*◌, ◌/◌, ◌<◌, ◌≤◌, Bool, true, false, List, [], ◌∷◌, ◌++◌, length, take, drop, ap, sym, refl, arith}
use Rattle.std.specs.Prelude.{slice_index_or, ◌&&◌}
use Rattle.std.specs.List.{list_all}
use Rattle.std.proofs.lemmas.Bool.{and_parts, and_from, lt-ltb}
use Rattle.std.proofs.lemmas.List.{take-append-drop, length-take, length-drop, drop-drop, nil_from_length}
use Rattle.px_packet.specs.Pieces.{part_of}
use Rattle.px_packet.specs.Held.{is_present}
use Rattle.px_packet.specs.Reassembling.{joined}
use Rattle.px_packet.specs.PieceLaws.{CutIsJoined}

-- a part of the rest is a part of all
part_of_rest : (m : List ℕ) (k : ℕ) → part_of (drop 1160 m) k ≡ part_of m (suc k)
part_of_rest m k =
    let e : 1160 + 1160 * k ≡ 1160 * suc k = omega arith in
    ap (take 1160) (drop-drop (1160 * k) 1160 m ∙ ap (λ i. drop i m) e)

join : (parts : List (List ℕ)) (m : List ℕ) → length m ≤ 1160 * length parts → 1160 * length parts < length m + 1160 →
    ((k : ℕ) → k < length parts → slice_index_or parts k [] ≡ part_of m k) → joined parts ≡ m
join [] m enough tight same = sym (nil_from_length m (omega (arith, enough)))
join (p ∷ ps) m enough tight same =
    let first : p ≡ take 1160 m = same 0 (omega arith) in
    let rest : joined ps ≡ drop 1160 m =
    join ps (drop 1160 m) (omega (arith, enough, length-drop 1160 m)) (omega (arith, tight, length-drop 1160 m))
    (λ k h. same (suc k) (omega (arith, h)) ∙ sym (part_of_rest m k)) in
    ap (λ x. x ++ joined ps) first ∙ ap (λ x. take 1160 m ++ x) rest ∙ take-append-drop 1160 m

pub cut_is_joined : CutIsJoined
cut_is_joined m parts count same =
    let n : length parts ≡ (length m + 1159) / 1160 = count in
    join parts m (omega (arith, n)) (omega (arith, n)) same

-- each part has come
pub present_at : (parts : List (List ℕ)) (k : ℕ) → list_all is_present parts ≡ true → k < length parts →
    is_present (slice_index_or parts k []) ≡ true
present_at [] k h l = absurd (omega (arith, l))
present_at (p ∷ ps) zero h l = (and_parts (is_present p) (list_all is_present ps) h).0
present_at (p ∷ ps) (suc k) h l =
    present_at ps k (and_parts (is_present p) (list_all is_present ps) h).1 (omega (arith, l))

pub all_present : (parts : List (List ℕ)) →
    ((k : ℕ) → k < length parts → is_present (slice_index_or parts k []) ≡ true) → list_all is_present parts ≡ true
all_present [] h = refl
all_present (p ∷ ps) h =
    and_from (is_present p) (list_all is_present ps) (h 0 (omega arith)) (all_present ps (λ k l. h (suc k) (omega (arith, l))))

-- one that hasn't come
pub one_lacks : (parts : List (List ℕ)) (k : ℕ) → k < length parts → is_present (slice_index_or parts k []) ≡ false →
    list_all is_present parts ≡ false
one_lacks [] k l h = absurd (omega (arith, l))
one_lacks (p ∷ ps) zero l h = ap (λ b. b && list_all is_present ps) h
one_lacks (p ∷ ps) (suc k) l h = both (is_present p) (list_all is_present ps) (one_lacks ps k (omega (arith, l)) h)
  where
    both : (a b : Bool) → b ≡ false → (a && b) ≡ false
    both true b e = e
    both false b e = refl

-- a part within a datagram isn't empty, and has the length of a part
pub some_part : (m : List ℕ) (k : ℕ) → 1160 * k < length m → is_present (part_of m k) ≡ true
some_part m k h = lt-ltb 0 (length (part_of m k))
    (omega (arith, h, length-take 1160 (drop (1160 * k) m), length-drop (1160 * k) m))
