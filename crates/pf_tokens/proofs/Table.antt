-- The bits of the bytes that words have, and sources without a backslash.
use Rattle.std.proofs.Common.{◌≡◌, ℕ, ◌<◌, ◌==◌, ◌||◌, ◌/◌, ◌%◌, ◌^◌, Bool, true, false, List, [], ◌∷◌, map, get_or, refl, sym, ap, ◌∙◌, arith}
use Rattle.std.specs.List.{list_any, range_with_len}
use Rattle.std.proofs.lemmas.List.FromFn.{get_or-map-range_with_len}
use Rattle.std.proofs.lemmas.Bool.{false≢true}
use Rattle.pf_tokens.specs.Tokens.{is_word_byte}
use Rattle.pf_tokens.specs.inner.Joined.{is_continued}

-- whether the bit of the byte is set in the number
abbrev pub bit_of : ℕ → ℕ → Bool
bit_of n b = (n / 2 ^ b) % 2 == 1

-- a bit is what is in the table of all bits
pub looked_up : (n b : ℕ) → b < 128 → map (bit_of n) (range_with_len 0 128) ≡ map is_word_byte (range_with_len 0 128) → bit_of n b ≡ is_word_byte b
looked_up n b small same =
    sym (get_or-map-range_with_len (bit_of n) 0 128 b b false (omega (arith, small)) (omega arith))
    ∙ ap (λ (xs : List Bool). get_or xs b false) same
    ∙ get_or-map-range_with_len is_word_byte 0 128 b b false (omega (arith, small)) (omega arith)

-- a line is continued by a backslash
pub not_continued : (text : List ℕ) → list_any (λ c. c == 92) text ≡ false → is_continued text ≡ false
not_continued [] e = refl
not_continued (b ∷ []) e = refl
not_continued (b ∷ c ∷ bytes) e = cases (not_continued (c ∷ bytes)) (b == 92) refl e
  where
    cases : (list_any (λ d. d == 92) (c ∷ bytes) ≡ false → is_continued (c ∷ bytes) ≡ false) → (k : Bool) → (b == 92) ≡ k → (k || list_any (λ d. d == 92) (c ∷ bytes)) ≡ false → is_continued (b ∷ c ∷ bytes) ≡ false
    cases more true h e = absurd (false≢true (sym e))
    cases more false h e = rw h (more e)
