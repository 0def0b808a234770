-- Two spellings with one command.
use Rattle.std.proofs.Common.{Fits, w8, ◌≡◌, ℕ, zero, suc, Bool, true, false, ◌&&◌, List, [], ◌∷◌, ◌++◌, take, drop, length, ◌≤◌, ◌<◌, nat_eq, slice_index_or, refl, arith, ap, sym, length-append, length-take, take-append-drop, ◌∙◌}
use Rattle.std.specs.Cmp.Lexicographic.{pointwise}
use Rattle.std.specs.Int.{to_be_bytes, from_be_bytes, w64}
use Rattle.std.proofs.lemmas.Nat.{be_bytes_8}
use Rattle.std.proofs.Math.Facts.{Fits-lt-pow}
use Rattle.std.proofs.lemmas.Slice.{drop-append-drop}
use Rattle.px_model.specs.Spelling.{command_in, spelled}
use Rattle.px_model.specs.inner.Spelling.{renamed}

-- the format bytes and what is behind the number are compared apart
same_parts : (xs ys : List ℕ) → (pointwise nat_eq (take 1 xs) (take 1 ys) && pointwise nat_eq (drop 10 xs) (drop 10 ys)) ≡ pointwise nat_eq (command_in xs) (command_in ys)
unfolding command_in
same_parts [] [] = refl
same_parts [] (y ∷ ys) = refl
same_parts (x ∷ xs) [] = refl
same_parts (x ∷ xs) (y ∷ ys) = both (nat_eq x y) (pointwise nat_eq (drop 9 xs) (drop 9 ys))
  where
    both : (a b : Bool) → ((a && true) && b) ≡ (a && b)
    both true b = refl
    both false b = refl

pub same_behind : (xs ys : List ℕ) (a : Bool) → a ≡ true → a ≡ pointwise nat_eq (take 1 xs) (take 1 ys) → pointwise nat_eq (drop 10 xs) (drop 10 ys) ≡ pointwise nat_eq (command_in xs) (command_in ys)
same_behind xs ys a is are =
    let e : true ≡ pointwise nat_eq (take 1 xs) (take 1 ys) = cc in
    ap (λ (b : Bool). b && pointwise nat_eq (drop 10 xs) (drop 10 ys)) e ∙ same_parts xs ys

pub other_format : (xs ys : List ℕ) (a : Bool) → a ≡ false → a ≡ pointwise nat_eq (take 1 xs) (take 1 ys) → a ≡ pointwise nat_eq (command_in xs) (command_in ys)
other_format xs ys a is are =
    let e : false ≡ pointwise nat_eq (take 1 xs) (take 1 ys) = cc in
    is ∙ ap (λ (b : Bool). b && pointwise nat_eq (drop 10 xs) (drop 10 ys)) e ∙ same_parts xs ys

-- a spelling under another name is of the same command
pub renamed_command : (bytes : List ℕ) (o k : ℕ) → 10 ≤ length bytes → command_in (renamed bytes o k) ≡ command_in bytes
unfolding command_in renamed
renamed_command [] o k long = absurd (omega arith)
renamed_command (x ∷ xs) o k long = ap (λ (ys : List ℕ). x ∷ ys) (drop-append-drop 9 xs (o ∷ to_be_bytes w64 k) 9 (omega arith) refl)

length_be : (k : ℕ) → length (to_be_bytes w64 k) ≡ 8
length_be k = refl

pub renamed_long : (bytes : List ℕ) (o k : ℕ) → 10 ≤ length bytes → 10 ≤ length (renamed bytes o k)
unfolding renamed
renamed_long [] o k long = absurd (omega arith)
renamed_long (x ∷ xs) o k long = omega (arith, length-append (to_be_bytes w64 k) (drop 9 xs), length_be k)

-- to name it once more the same changes nothing
pub renamed_again : (bytes : List ℕ) (o k : ℕ) → 10 ≤ length bytes → renamed (renamed bytes o k) o k ≡ renamed bytes o k
unfolding renamed
renamed_again [] o k long = absurd (omega arith)
renamed_again (x ∷ xs) o k long = ap (λ (ys : List ℕ). x ∷ o ∷ (to_be_bytes w64 k ++ ys)) (drop-append-drop 9 xs (o ∷ to_be_bytes w64 k) 9 (omega arith) refl)

-- a spelling with its own name is that of its command under this name
pub spelling_is : (bytes : List ℕ) (o k : ℕ) → 10 ≤ length bytes → renamed bytes o k ≡ bytes → bytes ≡ spelled (record { origin = o; number = k; command = command_in bytes })
unfolding renamed spelled command_in
spelling_is [] o k long is = absurd (omega arith)
spelling_is (x ∷ xs) o k long is = sym is

-- eight bytes are those of a number below 2 ^ 64: what is read of a spelling names it as it is
pub read_again : (bytes : List ℕ) (k : ℕ) → 10 ≤ length bytes → ((i : ℕ) → Fits w8 (slice_index_or bytes i 0)) → k ≡ from_be_bytes w64 (take 8 (drop 2 bytes)) → renamed bytes (slice_index_or bytes 1 0) k ≡ bytes
unfolding renamed
read_again [] k long small is = absurd (omega arith)
read_again (x ∷ []) k long small is = absurd (omega arith)
read_again (x ∷ y ∷ zs) k long small is =
    let written = be_bytes_8 (take 8 zs) k (omega (arith, length-take 8 zs)) (λ i. small_front 8 zs (λ j. small (suc (suc j))) i) is in
    ap (λ (bs : List ℕ). x ∷ y ∷ (bs ++ drop 8 zs)) written ∙ ap (λ (bs : List ℕ). x ∷ y ∷ bs) (take-append-drop 8 zs)
  where
    small_front : (n : ℕ) (bs : List ℕ) → ((i : ℕ) → Fits w8 (slice_index_or bs i 0)) → (i : ℕ) → slice_index_or (take n bs) i 0 < 256
    small_front zero bs small i = omega arith
    small_front (suc n) [] small i = omega arith
    small_front (suc n) (b ∷ bs) small zero = Fits-lt-pow {w = w8} (small 0)
    small_front (suc n) (b ∷ bs) small (suc i) = small_front n bs (λ j. small (suc j)) i
