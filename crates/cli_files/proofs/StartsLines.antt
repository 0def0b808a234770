-- Lines of members.
use Rattle.std.proofs.Common.{◌≡◌, ◌∙◌, ℕ, zero, suc, ◌+◌, ◌-◌, ◌*◌, ◌/◌, ◌<◌, ◌^◌, List, [], ◌∷◌, ◌++◌, length, take, drop, get_or, ap, sym, refl, arith, append_assoc}
use Rattle.std.specs.Prelude.{Ok, Some}
use Rattle.std.specs.Int.{w32, w64, to_be_bytes, from_be_bytes, byte_at, bytes_high_first}
use Rattle.std.proofs.lemmas.List.{length-append, take_at, drop_at, drop-drop, take_more}
use Rattle.std.proofs.lemmas.Nat.{mod_below, from_be_bytes-to_be_bytes_4, from_be_bytes-to_be_bytes_8}
use Rattle.hex.specs.Hex.{encode_lower, lower_digits, decode_sized, IsBytes}
use Rattle.hex.proofs.HexLemmas.{length-encode_with, decode_sized-encode_lower}
use Rattle.cli_files.specs.declared.known.KnownMember.{KnownMember}
use Rattle.cli_files.specs.StartsTexts.{version, known_bytes, line_of, lines_of, starts_text, Fits}

length-digits : (m : KnownMember) → length (encode_lower (known_bytes m)) ≡ 32
length-digits m = length-encode_with lower_digits (known_bytes m)

length-line : (m : KnownMember) → length (line_of m) ≡ 33
length-line m = omega (arith, length-append (encode_lower (known_bytes m)) (10 ∷ []), length-digits m)

pub length-lines : (ms : List KnownMember) → length (lines_of ms) ≡ 33 * length ms
length-lines [] = refl
length-lines (m ∷ ms) =
    omega (arith, length-append (line_of m) (lines_of ms), length-line m, length-lines ms)

-- the digits of the line with this number
pub digits_at : (ms : List KnownMember) (i : ℕ) (d : KnownMember) → i < length ms →
    take 32 (drop (33 * i) (lines_of ms)) ≡ encode_lower (known_bytes (get_or ms i d))
digits_at [] i d h = absurd (omega (arith, h))
digits_at (m ∷ ms) zero d h =
    ap (take 32) (append_assoc (encode_lower (known_bytes m)) (10 ∷ []) (lines_of ms))
    ∙ take_at (encode_lower (known_bytes m)) ((10 ∷ []) ++ lines_of ms) 32 (length-digits m)
digits_at (m ∷ ms) (suc i) d h =
    let e : 33 + 33 * i ≡ 33 * suc i = omega arith in
    ap (take 32) (ap (λ n. drop n (line_of m ++ lines_of ms)) (sym e) ∙ sym (drop-drop (33 * i) 33 (line_of m ++ lines_of ms))
    ∙ ap (drop (33 * i)) (drop_at (line_of m) (lines_of ms) 33 (length-line m)))
    ∙ digits_at ms i d (omega (arith, h))

-- the bytes of a number are bytes
byte_below : (k n : ℕ) → byte_at k n < 256
byte_below zero n = mod_below n 256 (omega arith)
byte_below (suc k) n = mod_below (n / 256 ^ suc k) 256 (omega arith)

number_bytes : (k n : ℕ) → IsBytes (bytes_high_first k n)
number_bytes zero n i = omega arith
number_bytes (suc k) n zero = byte_below k n
number_bytes (suc k) n (suc i) = number_bytes k n i

both_bytes : (a b : List ℕ) → IsBytes a → IsBytes b → IsBytes (a ++ b)
both_bytes [] b p q i = q i
both_bytes (x ∷ a) b p q zero = p 0
both_bytes (x ∷ a) b p q (suc i) = both_bytes a b (λ j. p (suc j)) q i

pub member_bytes : (m : KnownMember) → IsBytes (known_bytes m)
member_bytes m =
    both_bytes (to_be_bytes w32 m.start.number ++ to_be_bytes w32 m.start.salt) (to_be_bytes w64 m.birth)
    (both_bytes (to_be_bytes w32 m.start.number) (to_be_bytes w32 m.start.salt) (number_bytes 4 m.start.number)
    (number_bytes 4 m.start.salt)) (number_bytes 8 m.birth)

-- the digits of a member are decoded to its bytes
pub decoded : (m : KnownMember) (digits : List ℕ) → digits ≡ encode_lower (known_bytes m) →
    decode_sized digits 16 ≡ Ok (known_bytes m)
decoded m digits e =
    ap (λ x. decode_sized x 16) e ∙ decode_sized-encode_lower (known_bytes m) 16 refl (member_bytes m)

-- and those to its numbers
pub number_of : (m : KnownMember) (b : List ℕ) → Fits m → b ≡ known_bytes m →
    from_be_bytes w32 (get_or b 0 0 ∷ get_or b 1 0 ∷ get_or b 2 0 ∷ get_or b 3 0 ∷ []) ≡ m.start.number
number_of m b fits e =
    ap (λ x. from_be_bytes w32 (get_or x 0 0 ∷ get_or x 1 0 ∷ get_or x 2 0 ∷ get_or x 3 0 ∷ [])) e
    ∙ from_be_bytes-to_be_bytes_4 m.start.number fits.number

pub salt_of : (m : KnownMember) (b : List ℕ) → Fits m → b ≡ known_bytes m →
    from_be_bytes w32 (get_or b 4 0 ∷ get_or b 5 0 ∷ get_or b 6 0 ∷ get_or b 7 0 ∷ []) ≡ m.start.salt
salt_of m b fits e =
    ap (λ x. from_be_bytes w32 (get_or x 4 0 ∷ get_or x 5 0 ∷ get_or x 6 0 ∷ get_or x 7 0 ∷ [])) e
    ∙ from_be_bytes-to_be_bytes_4 m.start.salt fits.salt

pub birth_of : (m : KnownMember) (b : List ℕ) → Fits m → b ≡ known_bytes m →
    from_be_bytes w64 (get_or b 8 0 ∷ get_or b 9 0 ∷ get_or b 10 0 ∷ get_or b 11 0 ∷ get_or b 12 0 ∷ get_or b 13 0
    ∷ get_or b 14 0 ∷ get_or b 15 0 ∷ []) ≡ m.birth
birth_of m b fits e =
    ap (λ x. from_be_bytes w64 (get_or x 8 0 ∷ get_or x 9 0 ∷ get_or x 10 0 ∷ get_or x 11 0 ∷ get_or x 12 0
    ∷ get_or x 13 0 ∷ get_or x 14 0 ∷ get_or x 15 0 ∷ [])) e
    ∙ from_be_bytes-to_be_bytes_8 m.birth fits.birth

-- what follows the first line
pub behind : (ms : List KnownMember) (text lines : List ℕ) → lines ≡ drop 13 text → text ≡ starts_text ms → lines ≡ lines_of ms
behind ms text lines cut e = cut ∙ ap (drop 13) e

-- how many lines a string has
pub count_is : (ms : List KnownMember) (lines : List ℕ) → lines ≡ lines_of ms → length lines / 33 ≡ length ms
count_is ms lines e = omega (arith, ap length e, length-lines ms)

-- the digits of a line of a ruleset, as the reader cuts them
pub digits_of : (ms : List KnownMember) (lines : List ℕ) (i : ℕ) (d : KnownMember) → lines ≡ lines_of ms → i < length ms →
    take ((33 * i + 32) - 33 * i) (drop (33 * i) lines) ≡ encode_lower (known_bytes (get_or ms i d))
digits_of ms lines i d e h =
    let long : (33 * i + 32) - 33 * i ≡ 32 = omega arith in
    ap (λ n. take n (drop (33 * i) lines)) long ∙ ap (λ x. take 32 (drop (33 * i) x)) e ∙ digits_at ms i d h

-- a member more
pub one_more : (ms read new : List KnownMember) (i : ℕ) (m d : KnownMember) → i < length ms → read ≡ take i ms →
    new ≡ read ++ m ∷ [] → Some m ≡ Some (get_or ms i d) → new ≡ take (i + 1) ms
one_more ms read new i m d l e f g =
    let same : m ≡ get_or ms i d = cc in
    f ∙ ap (λ xs. xs ++ m ∷ []) e ∙ ap (λ x. take i ms ++ x ∷ []) same ∙ sym (take_more ms i d l)

-- a member of its numbers
abbrev pub member_of : (number salt birth : ℕ) → KnownMember
member_of n z b = record { start = record { number = n; salt = z }; birth = b }

pub made : (m : KnownMember) (n z b : ℕ) → n ≡ m.start.number → z ≡ m.start.salt → b ≡ m.birth → member_of n z b ≡ m
made m n z b p q r =
    ap (λ x. member_of x z b) p ∙ ap (λ x. member_of m.start.number x b) q
    ∙ ap (λ x. member_of m.start.number m.start.salt x) r

-- strings that are the same have equally many members
pub same_count : (ms ns : List KnownMember) → starts_text ms ≡ starts_text ns → length ms ≡ length ns
same_count ms ns e =
    let lines : length (lines_of ms) ≡ length (lines_of ns) =
    omega (arith, ap length e, length-append version (lines_of ms), length-append version (lines_of ns)) in
    omega (arith, lines, length-lines ms, length-lines ns)
