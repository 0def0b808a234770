-- Lines of hexadecimal digits.
use Rattle.std.proofs.Common.{◌≡◌, ◌==◌, ℕ, suc, ◌/◌, ◌%◌, ◌<◌, true, false, List, [], ◌∷◌, ◌++◌, append_assoc}
use Rattle.std.proofs.Common.{Some, None, slice_index, refl, sym, ap, ◌∙◌, arith}
use Rattle.std.proofs.lemmas.Bool.{eqb-true}
use Rattle.hex.specs.Hex.{IsBytes, encode_with, encode_lower, lower_digits, hex_digit_value}
use Rattle.hex.proofs.HexLemmas.{IsDigits-lower_digits}
use Rattle.pf_scripts.specs.Lines.{ScriptLine, lines}

-- a digit is no newline
digit_at_newline : (d : ℕ) → d < 16 → slice_index lower_digits d ≡ 10 → ⊥
digit_at_newline d h same =
    let v : hex_digit_value 10 ≡ Some d = ap hex_digit_value (sym same) ∙ IsDigits-lower_digits d h in
    let none : None ≡ Some d = v in cc

no_newline : (d : ℕ) → d < 16 → (slice_index lower_digits d == 10) ≡ false
no_newline d h =
    (elim (slice_index lower_digits d == 10) as (λ q. (slice_index lower_digits d == 10) ≡ q → q ≡ false) [
      | true ↦ λ e. absurd (digit_at_newline d h (eqb-true (slice_index lower_digits d) 10 e))
      | false ↦ λ e. refl
    ]) refl

-- a line that a newline ends
abbrev pub line_of : List ℕ → ScriptLine
line_of content = record { content = content; has_newline = true }

-- two bytes that are no newlines, before a line
two_before : (x y : ℕ) (text content : List ℕ) (ls : List ScriptLine) → (x == 10) ≡ false → (y == 10) ≡ false →
    lines text ≡ line_of content ∷ ls → lines (x ∷ y ∷ text) ≡ line_of (x ∷ y ∷ content) ∷ ls
two_before x y text content ls e f is = rw (e, f, is) refl

-- digits and a newline are a line, whatever follows
pub lines_encoded : (b rest : List ℕ) → IsBytes b →
    lines (encode_lower b ++ (10 ∷ rest)) ≡ line_of (encode_lower b) ∷ lines rest
unfolding encode_with
lines_encoded [] rest h = refl
lines_encoded (x ∷ b) rest h =
    let fits : x < 256 = h 0 in
    two_before (slice_index lower_digits (x / 16)) (slice_index lower_digits (x % 16)) (encode_lower b ++ (10 ∷ rest))
    (encode_lower b) (lines rest) (no_newline (x / 16) (omega arith)) (no_newline (x % 16) (omega arith))
    (lines_encoded b rest (λ k. h (suc k)))

-- what follows a string is cut into lines as if it stood alone
abbrev pub IsWhole : List ℕ → Type 0
IsWhole text = (rest : List ℕ) → lines (text ++ rest) ≡ lines text ++ lines rest

pub whole_nothing : IsWhole []
whole_nothing rest = refl

pub lines_more : (text b : List ℕ) → IsBytes b → IsWhole text →
    lines (text ++ (encode_lower b ++ (10 ∷ []))) ≡ lines text ++ (line_of (encode_lower b) ∷ [])
lines_more text b h w = w (encode_lower b ++ (10 ∷ [])) ∙ ap (λ (ls : List ScriptLine). lines text ++ ls) (lines_encoded b [] h)

pub whole_more : (text b : List ℕ) → IsBytes b → IsWhole text → IsWhole (text ++ (encode_lower b ++ (10 ∷ [])))
whole_more text b h w rest =
    let d = encode_lower b in
    let n : List ℕ = 10 ∷ [] in
    let behind : lines ((d ++ n) ++ rest) ≡ line_of d ∷ lines rest = ap lines (append_assoc d n rest) ∙ lines_encoded b rest h in
    ap lines (append_assoc text (d ++ n) rest)
    ∙ w ((d ++ n) ++ rest)
    ∙ ap (λ (ls : List ScriptLine). lines text ++ ls) behind
    ∙ sym (append_assoc (lines text) (line_of d ∷ []) (lines rest))
    ∙ ap (λ (ls : List ScriptLine). ls ++ lines rest) (sym (lines_more text b h w))
