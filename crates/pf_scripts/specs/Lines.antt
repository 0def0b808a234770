-- Scripts: lines, and the arguments of a line.
use Rattle.std.specs.Prelude.{ℕ, Bool, true, false, List, [], ◌∷◌, ◌++◌, ◌==◌, ◌||◌, ◌&&◌}
use Rattle.std.specs.Prelude.{Option, Some, None, codes, decimal, if◌then◌else◌, bytes_eq}
use Rattle.std.specs.List.{list_all}
use Rattle.std.specs.Str.{is_utf8}
use Rattle.pf_eval.specs.PacketTexts.{words}

-- a line, and whether a newline ends it, which the last one may lack
pub record ScriptLine : Type 0 where
  pub content : List ℕ
  pub has_newline : Bool

-- a byte at the front of what follows
abbrev pub at_front : ℕ → List ScriptLine → List ScriptLine
at_front b [] = record { content = b ∷ []; has_newline = false } ∷ []
at_front b (l ∷ ls) = record { content = b ∷ l.content; has_newline = l.has_newline } ∷ ls

-- the lines of a script
abbrev pub lines : List ℕ → List ScriptLine
lines [] = []
lines (b ∷ bytes) = if b == 10 then record { content = []; has_newline = true } ∷ lines bytes
    else at_front b (lines bytes)

-- the bytes of a line, with its newline
abbrev pub bytes_of : ScriptLine → List ℕ
bytes_of l = if l.has_newline then l.content ++ 10 ∷ [] else l.content

-- the arguments, if each is UTF-8
abbrev pub words_if : List (List ℕ) → Option (List (List ℕ))
words_if words = if list_all is_utf8 words then Some words else None

-- the arguments of a line, none where one of them isn't UTF-8
unfoldable pub words_in : List ℕ → Option (List (List ℕ))
words_in line = words_if (words line)

-- ---- what is printed

-- a string and a newline
abbrev pub line : List ℕ → List ℕ
line text = text ++ 10 ∷ []

-- a refusal: its number, and the line of a refused text
-- Example: refused 12 line 3.
abbrev pub refused_line : ℕ → ℕ → List ℕ
refused_line code at =
    if at == 0 then line (codes "refused " ++ decimal code)
    else line (codes "refused " ++ decimal code ++ codes " line " ++ decimal at)

-- arguments with a blank between them
abbrev pub spaced : List (List ℕ) → List ℕ
spaced [] = []
spaced (w ∷ []) = w
spaced (w ∷ v ∷ ws) = w ++ 32 ∷ spaced (v ∷ ws)

-- the first argument is this one, and the next the other
abbrev pub begins_pair : List ℕ → List ℕ → List (List ℕ) → Bool
begins_pair a b [] = false
begins_pair a b (w ∷ []) = false
begins_pair a b (w ∷ v ∷ ws) = bytes_eq w a && bytes_eq v b

-- one argument is directly before the other
abbrev pub are_adjacent : List ℕ → List ℕ → List (List ℕ) → Bool
are_adjacent a b [] = false
are_adjacent a b (w ∷ ws) = begins_pair a b (w ∷ ws) || are_adjacent a b ws
