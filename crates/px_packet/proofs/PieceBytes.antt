-- Numbers read from the front of bytes.
use Rattle.std.proofs.Common.{◌≡◌, ◌∙◌, ℕ, ◌+◌, ◌-◌, ◌<◌, ◌≤◌, List, ◌∷◌, ◌++◌, length, take, drop, get_or, ap, sym, arith, subst, inl, inr}
use Rattle.std.specs.Int.{w16, w32, to_be_bytes, from_be_bytes}
use Rattle.std.proofs.lemmas.Bool.{cases_lt}
use Rattle.std.proofs.lemmas.List.{take-append-drop, length-take, get_or-take, get_or-drop, get_or_past, nil_from_length, drop_more, take_rest}
use Rattle.std.proofs.lemmas.Nat.{be_bytes_2, be_bytes_4}

-- each is a byte
abbrev pub AreBytes : List ℕ → Type 0
AreBytes b = (i : ℕ) → get_or b i 0 < 256

pub bytes_in_front : (n : ℕ) (b : List ℕ) → AreBytes b → AreBytes (take n b)
bytes_in_front n b h i =
    let P : ℕ → Type 0 = λ x. x < 256 in
    elim (cases_lt i n) [
      | inl l ↦ subst P (sym (get_or-take n b i 0 l)) (h i)
      | inr g ↦ subst P (sym (get_or_past (take n b) i 0 (omega (arith, length-take n b, g)))) (omega arith)
    ]

pub bytes_dropped : (n : ℕ) (b : List ℕ) → AreBytes b → AreBytes (drop n b)
bytes_dropped n b h i =
    let P : ℕ → Type 0 = λ x. x < 256 in
    subst P (sym (get_or-drop n b i 0)) (h (n + i))

pub four_first : (b : List ℕ) (n : ℕ) → AreBytes b → 4 ≤ length b → n ≡ from_be_bytes w32 (take 4 b) →
    b ≡ to_be_bytes w32 n ++ drop 4 b
four_first b n bytes l e =
    let same : to_be_bytes w32 n ≡ take 4 b =
    be_bytes_4 (take 4 b) n (omega (arith, length-take 4 b)) (bytes_in_front 4 b bytes) e in
    sym (ap (λ x. x ++ drop 4 b) same ∙ take-append-drop 4 b)

pub two_first : (b : List ℕ) (n : ℕ) → AreBytes b → 2 ≤ length b → n ≡ from_be_bytes w16 (take 2 b) →
    b ≡ to_be_bytes w16 n ++ drop 2 b
two_first b n bytes l e =
    let same : to_be_bytes w16 n ≡ take 2 b =
    be_bytes_2 (take 2 b) n (omega (arith, length-take 2 b)) (bytes_in_front 2 b bytes) e in
    sym (ap (λ x. x ++ drop 2 b) same ∙ take-append-drop 2 b)

-- the bytes of two numbers
pub two_words : (b x r y s : List ℕ) (n m : ℕ) → AreBytes b → (x ≡ take 4 b) × (r ≡ drop 4 b) × (length r + 4 ≡ length b) →
    (y ≡ take 4 r) × (s ≡ drop 4 r) × (length s + 4 ≡ length r) → length s ≡ 0 → n ≡ from_be_bytes w32 x →
    m ≡ from_be_bytes w32 y → b ≡ to_be_bytes w32 n ++ to_be_bytes w32 m
two_words b x r y s n m bytes first second none e f =
    let all : AreBytes r = λ i. (let P : List ℕ → Type 0 = λ xs. get_or xs i 0 < 256 in
    subst P (sym first.1) (bytes_dropped 4 b bytes i)) in
    let rest : r ≡ to_be_bytes w32 m ++ drop 4 r =
    four_first r m all (omega (arith, second.2)) (f ∙ ap (from_be_bytes w32) second.0) in
    four_first b n bytes (omega (arith, first.2)) (e ∙ ap (from_be_bytes w32) first.0)
    ∙ ap (λ xs. to_be_bytes w32 n ++ xs) (sym first.1 ∙ rest)
    ∙ ap (λ xs. to_be_bytes w32 n ++ (to_be_bytes w32 m ++ xs)) (sym second.1 ∙ nil_from_length s none)

-- the bytes of a name, a length, a number, and what follows
pub of_piece : (b x r y s : List ℕ) (name size : ℕ) → AreBytes b →
    (x ≡ take 4 b) × (r ≡ drop 4 b) × (length r + 4 ≡ length b) →
    (y ≡ take 2 r) × (s ≡ drop 2 r) × (length s + 2 ≡ length r) → 0 < length s → name ≡ from_be_bytes w32 x →
    size ≡ from_be_bytes w16 y →
    b ≡ to_be_bytes w32 name ++ (to_be_bytes w16 size ++ (get_or s 0 0 ∷ take (length s - 1) (drop 1 s)))
of_piece b x r y s name size bytes first second some e f =
    let all : AreBytes r = λ i. (let P : List ℕ → Type 0 = λ xs. get_or xs i 0 < 256 in
    subst P (sym first.1) (bytes_dropped 4 b bytes i)) in
    let rest : r ≡ to_be_bytes w16 size ++ drop 2 r =
    two_first r size all (omega (arith, second.2)) (f ∙ ap (from_be_bytes w16) second.0) in
    four_first b name bytes (omega (arith, first.2)) (e ∙ ap (from_be_bytes w32) first.0)
    ∙ ap (λ xs. to_be_bytes w32 name ++ xs) (sym first.1 ∙ rest)
    ∙ ap (λ xs. to_be_bytes w32 name ++ (to_be_bytes w16 size ++ xs)) (sym second.1 ∙ front s some)
  where
    front : (xs : List ℕ) → 0 < length xs → xs ≡ get_or xs 0 0 ∷ take (length xs - 1) (drop 1 xs)
    front xs h = drop_more xs 0 0 h ∙ ap (λ ys. get_or xs 0 0 ∷ ys) (sym (take_rest xs 1))
