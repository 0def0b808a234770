-- Arguments with blanks between them are read as these arguments, where each is of ASCII's graphic characters.
use Rattle.std.proofs.Common.{◌≡◌, ◌∙◌, ◌==◌, ℕ, Bool, true, false, List, [], ◌∷◌, ◌++◌, refl, ap, arith}
use Rattle.std.specs.Prelude.{not}
use Rattle.std.specs.Char.{is_ascii_graphic}
use Rattle.std.specs.List.{list_all}
use Rattle.std.proofs.lemmas.Bool.{and_parts, and_from, not-true}
use Rattle.std.proofs.lemmas.Bool.Decides.{nat_tests}
use Rattle.std.proofs.lemmas.List.Folds.{list_all-append}
use Rattle.pf_eval.specs.PacketTexts.{Word, is_blank, words}
use Rattle.pf_eval.specs.PacketGrammar.{IsWord, LastBlank, AreSpaced, LastWord, MoreWords}
use Rattle.pf_eval.proofs.Spaces.{words_are}
use Rattle.pf_scripts.specs.Lines.{lines, at_front, spaced}

-- an argument that isn't empty, of graphic characters alone
abbrev pub is_graphic : Word → Bool
is_graphic [] = false
is_graphic (b ∷ bytes) = list_all is_ascii_graphic (b ∷ bytes)

-- ---- bytes

no_blank : (b : ℕ) → is_ascii_graphic b ≡ true → not (is_blank b) ≡ true
no_blank b h = grind (arith, nat_tests, h)

no_newline : (b : ℕ) → is_ascii_graphic b ≡ true → not (b == 10) ≡ true
no_newline b h = grind (arith, nat_tests, h)

-- what holds of each graphic byte holds of all
each : (p : ℕ → Bool) → ((b : ℕ) → is_ascii_graphic b ≡ true → p b ≡ true) → (w : Word) → list_all is_ascii_graphic w ≡ true → list_all p w ≡ true
each p f [] e = refl
each p f (b ∷ bs) e =
    let a = and_parts (is_ascii_graphic b) (list_all is_ascii_graphic bs) e in
    and_from (p b) (list_all p bs) (f b a.0) (each p f bs a.1)

-- ---- arguments

is_word : (w : Word) → is_graphic w ≡ true → IsWord w
is_word [] e = cc
is_word (b ∷ bs) e = record { some = λ none. cc; plain = each (λ b. not (is_blank b)) no_blank (b ∷ bs) e }

are_spaced : (w : Word) (ws : List Word) → list_all is_graphic (w ∷ ws) ≡ true → AreSpaced (spaced (w ∷ ws)) (w ∷ ws)
are_spaced w [] e = LastWord w (is_word w ((and_parts (is_graphic w) true e).0))
are_spaced w (v ∷ ws) e =
    let a = and_parts (is_graphic w) (list_all is_graphic (v ∷ ws)) e in
    MoreWords w (32 ∷ []) (spaced (v ∷ ws)) (v ∷ ws) (is_word w a.0) (LastBlank 32 refl) (are_spaced v ws a.1)

pub words_read : (args : List Word) → list_all is_graphic args ≡ true → words (spaced args) ≡ args
words_read [] e = refl
words_read (w ∷ ws) e = words_are (spaced (w ∷ ws)) (w ∷ ws) (are_spaced w ws e)

-- ---- lines

word_ends : (w : Word) → is_graphic w ≡ true → list_all (λ b. not (b == 10)) w ≡ true
word_ends [] e = refl
word_ends (b ∷ bs) e = each (λ b. not (b == 10)) no_newline (b ∷ bs) e

no_newlines : (args : List Word) → list_all is_graphic args ≡ true → list_all (λ b. not (b == 10)) (spaced args) ≡ true
no_newlines [] e = refl
no_newlines (w ∷ []) e = word_ends w ((and_parts (is_graphic w) true e).0)
no_newlines (w ∷ v ∷ ws) e =
    let a = and_parts (is_graphic w) (list_all is_graphic (v ∷ ws)) e in
    list_all-append (λ b. not (b == 10)) w (32 ∷ spaced (v ∷ ws)) ∙
    and_from (list_all (λ b. not (b == 10)) w) (list_all (λ b. not (b == 10)) (32 ∷ spaced (v ∷ ws)))
    (word_ends w a.0) (no_newlines (v ∷ ws) a.1)

first_line : (line text : List ℕ) → list_all (λ b. not (b == 10)) line ≡ true →
    lines (line ++ 10 ∷ text) ≡ record { content = line; has_newline = true } ∷ lines text
first_line [] text e = refl
first_line (b ∷ bs) text e =
    let a = and_parts (not (b == 10)) (list_all (λ b. not (b == 10)) bs) e in
    let n : (b == 10) ≡ false = not-true (b == 10) a.0 in
    rw n (ap (at_front b) (first_line bs text a.1))

-- the arguments in the first of some lines
pub line_read : (args : List Word) (text : List ℕ) → list_all is_graphic args ≡ true →
    lines (spaced args ++ 10 ∷ text) ≡ record { content = spaced args; has_newline = true } ∷ lines text
line_read args text e = first_line (spaced args) text (no_newlines args e)
