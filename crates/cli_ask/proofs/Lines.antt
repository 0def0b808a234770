-- The lines of arguments without control characters are read as these arguments.
use Rattle.std.proofs.Common.{◌≡◌, ◌==◌, ℕ, ◌+◌, ◌-◌, ◌/◌, ◌%◌, ◌<◌, Bool, true, false, cond, List, [], ◌∷◌, ◌++◌, refl, sym, ap, subst, ◌∙◌, arith}
use Rattle.std.proofs.Common.{length, take, All, get_or}
use Rattle.std.specs.Prelude.{not, nat_lt}
use Rattle.std.specs.Char.{is_control}
use Rattle.std.specs.List.{list_all, list_any, slice_split}
use Rattle.std.specs.Str.Lines as text
use Rattle.std.specs.Str.Lines.{lines_of_parts, strip_carriage_return}
use Rattle.std.specs.Str.{chars, is_utf8}
use Rattle.std.proofs.Math.Utf8.{encode, encodes}
use Rattle.std.proofs.lemmas.Str.{encodes-chars, IsUtf8-from_is_utf8}
use Rattle.std.proofs.lemmas.Bool.{and_parts, and_from, or_parts, eqb-true, false_from_ne_true, not_from_false}
use Rattle.std.proofs.lemmas.Bool.{not-true, true≢false}
use Rattle.std.proofs.lemmas.List.Folds.{list_all-append}
use Rattle.std.proofs.lemmas.List.Sums.{AllPass-from_list_all}
use Rattle.std.proofs.lemmas.List.Splits.{slice_split_at, length-slice_split}
use Rattle.cli_ask.specs.Sending.{has_control, lines_of}

-- ---- none has this control character of ASCII

other : (a b : ℕ) → a < b → (b == a) ≡ false
other a b l = false_from_ne_true (b == a) (λ e. let same : b ≡ a = eqb-true b a e in omega (arith, l, same))

not_this : (t c : ℕ) → is_control t ≡ true → is_control c ≡ false → not (c == t) ≡ true
not_this t c k e =
    not_from_false (c == t) (false_from_ne_true (c == t) (λ same.
    let bad : is_control t ≡ false = subst (λ (n : ℕ). is_control n ≡ false) (eqb-true c t same) e in true≢false (sym k ∙ bad)))

above_this : (t a x : ℕ) → t < a → not (a + x == t) ≡ true
above_this t a x l = not_from_false (a + x == t) (other t (a + x) (omega (arith, l)))

-- the bytes of a character, however many
bytes_clean : (t : ℕ) (x y z : Bool) (c d e f g h i j k : ℕ) → t < 128 → not (c == t) ≡ true →
    list_all (λ b. not (b == t)) (cond x (c ∷ []) (cond y ((192 + d) ∷ (128 + e) ∷ [])
    (cond z ((224 + f) ∷ (128 + g) ∷ (128 + h) ∷ []) ((240 + i) ∷ (128 + j) ∷ (128 + k) ∷ (128 + h) ∷ [])))) ≡ true
bytes_clean t true y z c d e f g h i j k l n = and_from (not (c == t)) true n refl
bytes_clean t false true z c d e f g h i j k l n =
    and_from _ _ (above_this t 192 d (omega (arith, l))) (and_from _ _ (above_this t 128 e l) refl)
bytes_clean t false false true c d e f g h i j k l n =
    and_from _ _ (above_this t 224 f (omega (arith, l))) (and_from _ _ (above_this t 128 g l)
    (and_from _ _ (above_this t 128 h l) refl))
bytes_clean t false false false c d e f g h i j k l n =
    and_from _ _ (above_this t 240 i (omega (arith, l))) (and_from _ _ (above_this t 128 j l)
    (and_from _ _ (above_this t 128 k l) (and_from _ _ (above_this t 128 h l) refl)))

char_clean : (t c : ℕ) → t < 128 → is_control t ≡ true → is_control c ≡ false → list_all (λ b. not (b == t)) (encode c) ≡ true
unfolding encode
char_clean t c l k e =
    bytes_clean t (nat_lt c 128) (nat_lt c 2048) (nat_lt c 65536) c (c / 64) (c % 64) (c / 4096) ((c / 64) % 64) (c % 64) (c / 262144) ((c / 4096) % 64) ((c / 64) % 64)
    l (not_this t c k e)

chars_clean : (t : ℕ) (cs : List ℕ) → t < 128 → is_control t ≡ true → list_any is_control cs ≡ false → list_all (λ b. not (b == t)) (encodes cs) ≡ true
chars_clean t [] l k e = refl
chars_clean t (c ∷ cs) l k e =
    let a = or_parts (is_control c) (list_any is_control cs) e in
    list_all-append (λ b. not (b == t)) (encode c) (encodes cs) ∙
    and_from (list_all (λ b. not (b == t)) (encode c)) (list_all (λ b. not (b == t)) (encodes cs)) (char_clean t c l k a.0) (chars_clean t cs l k a.1)

word_clean : (t : ℕ) (w : List ℕ) → t < 128 → is_control t ≡ true → is_utf8 w ≡ true → has_control w ≡ false → list_all (λ b. not (b == t)) w ≡ true
word_clean t w l k u e =
    subst (λ (x : List ℕ). list_all (λ b. not (b == t)) x ≡ true) (encodes-chars w (IsUtf8-from_is_utf8 w u)) (chars_clean t (chars w) l k e)

lacks : (t : ℕ) (w : List ℕ) → list_all (λ b. not (b == t)) w ≡ true → All (λ b. (b == t) ≡ false) w
lacks t w e = λ k d l. not-true (get_or w k d == t) (AllPass-from_list_all (λ b. not (b == t)) w e k d l)

-- no carriage return is at its end
whole : (w : List ℕ) → All (λ b. (b == 13) ≡ false) w → strip_carriage_return w ≡ w
whole [] h = refl
whole (b ∷ bs) h =
    ap (λ q. cond q (take (length (b ∷ bs) - 1) (b ∷ bs)) (b ∷ bs)) (h (length (b ∷ bs) - 1) 0 (omega arith))

one_more : (x : List ℕ) (parts : List (List ℕ)) → 0 < length parts → lines_of_parts (x ∷ parts) ≡ strip_carriage_return x ∷ lines_of_parts parts
one_more x [] l = absurd (omega (arith, l))
one_more x (y ∷ more) l = refl

text_line : (w rest : List ℕ) → All (λ b. (b == 10) ≡ false) w → All (λ b. (b == 13) ≡ false) w → text.lines (w ++ 10 ∷ rest) ≡ w ∷ text.lines rest
text_line w rest n r =
    let p = λ (b : ℕ). b == 10 in
    ap lines_of_parts (slice_split_at p w 10 rest n refl)
    ∙ one_more w (slice_split p rest) (omega (arith, length-slice_split p rest))
    ∙ ap (λ (x : List ℕ). x ∷ text.lines rest) (whole w r)

pub words_read : (ws : List (List ℕ)) → list_all is_utf8 ws ≡ true → list_any has_control ws ≡ false → text.lines (lines_of ws) ≡ ws
words_read [] u e = refl
words_read (w ∷ ws) u e =
    let a = and_parts (is_utf8 w) (list_all is_utf8 ws) u in
    let b = or_parts (has_control w) (list_any has_control ws) e in
    text_line w (lines_of ws) (lacks 10 w (word_clean 10 w (omega arith) refl a.0 b.0)) (lacks 13 w (word_clean 13 w (omega arith) refl a.0 b.0))
    ∙ ap (λ (r : List (List ℕ)). w ∷ r) (words_read ws a.1 b.1)
