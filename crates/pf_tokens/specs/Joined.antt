-- A source without the backslashes and newlines that join its lines, and how its lines are counted then.
use Rattle.std.specs.Prelude.{ℕ, ◌+◌, List, [], ◌∷◌, nat_le}
use Rattle.std.specs.List.{prefix_len}
use Rattle.std.specs.Cow.{cow_slice_items}
use Rattle.pf_tokens.specs.declared.text.Text.{Text}
use Rattle.pf_tokens.specs.Tokens.{Letter, Placed, line_after, tokens_behind}

-- how many of them are before the byte at this place
abbrev pub passed : ℕ → List ℕ → ℕ
passed at steps = prefix_len (λ s. nat_le s at) steps

-- the bytes that stay with their lines in the text as given, that many bytes standing before them
abbrev pub letters_at : ℕ → ℕ → List ℕ → List ℕ → List Letter
letters_at line at steps [] = []
letters_at line at steps (b ∷ bytes) = record { byte = b; line = line + passed at steps } ∷
    letters_at (line_after line b) (at + 1) steps bytes

-- the tokens of a source that has been joined
unfoldable pub text_tokens : Text → List Placed
text_tokens text = tokens_behind 0 (letters_at 1 0 text.steps.items (cow_slice_items text.bytes))
