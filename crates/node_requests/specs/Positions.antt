-- The lines of a log.
use Rattle.std.specs.Prelude.{ℕ, zero, suc, List, [], ◌∷◌, ◌++◌, ◌-◌, Option, Some, None, codes, decimal}
use Rattle.px_model.specs.Node as node
use Rattle.px_model.specs.Node.{Log}
use Rattle.px_model.specs.Spelling.{Bytes, spelled}
use Rattle.pf_entry.specs.Entry as entries
use Rattle.pf_entry.specs.Reading.{reading}
use Rattle.pf_command.specs.Arguments.{command_words}
use Rattle.node_requests.specs.Outcomes.{kept_line}

-- an entry that spells no command has no arguments
abbrev pub words_read : Option entries.Entry → List ℕ
words_read None = []
words_read (Some e) = codes " " ++ command_words e.command

-- the outcome is behind the arguments; a line without one ends so
abbrev pub behind_words : List ℕ → List ℕ
behind_words [] = codes "\n"
behind_words (b ∷ outcome) = 32 ∷ b ∷ outcome

-- POSITION ORIGIN.NUMBER WORDS OUTCOME
-- Example: 411 0.17 -t bad -T add 203.0.113.9 ok 1 0; 0 0.1 -f - (5) ok, of a load of pass and a newline.
abbrev pub entry_line : ℕ → node.Entry Bytes → List ℕ → List ℕ
entry_line p e outcome =
    decimal p ++ codes " " ++ decimal e.origin ++ codes "." ++ decimal e.number ++ words_read (reading (spelled e))
    ++ behind_words outcome

-- the line of what a position has, nothing where it has no entry
abbrev pub line_of : ℕ → Option (node.Entry Bytes) → List ℕ → List ℕ
line_of p None outcome = []
line_of p (Some e) outcome = entry_line p e outcome

-- the line of a log's position, with what came of its command as far as that is kept
abbrev pub log_line : Log Bytes → (applied kept p : ℕ) → List ℕ
log_line log applied kept p = line_of p (log p) (kept_line log applied kept p)

-- the lines of the last n positions before an end
abbrev pub lines_before : Log Bytes → (applied kept end n : ℕ) → List ℕ
lines_before log applied kept end zero = []
lines_before log applied kept end (suc n) =
    log_line log applied kept (end - suc n) ++ lines_before log applied kept end n
