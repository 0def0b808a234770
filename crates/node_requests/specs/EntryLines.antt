-- Lines of a log: what its commands did, or its entries.
use Rattle.std.specs.Prelude.{ℕ, zero, suc, List, [], ◌++◌, ◌+◌, ◌-◌, length, min, nat_lt, Option, Some, None}
use Rattle.std.specs.Prelude.{codes, unwrap_or, option_map, if◌then◌else◌}
use Rattle.hex.specs.Hex.{encode_lower}
use Rattle.px_model.specs.Node.{Log}
use Rattle.px_model.specs.Spelling.{Bytes, spelled}
use Rattle.px_records.specs.declared.records.Records.{Ghosts}
use Rattle.pf_node.specs.Nodes.{learned_by, applied_of, kept_of}
use Rattle.pf_node.specs.declared.state.Node.{Node}
use Rattle.node_requests.specs.Answers.{AnswerValue, shown}
use Rattle.node_requests.specs.Positions.{log_line}
use Rattle.node_requests.specs.declared.entries.Show.{Show}
use Rattle.node_requests.specs.declared.entries.Show.TheVariants.{Command, Entry}

-- the lines of the last n positions before an end, behind a string: once it has that many bytes, no further one
abbrev pub lines_before : (line : ℕ → List ℕ) → (end n : ℕ) → List ℕ → List ℕ
lines_before line end zero text = text
lines_before line end (suc n) text =
    if nat_lt (length text) 262144 then lines_before line end n (text ++ line (end - suc n)) else text

-- ---- what the commands did

-- from a position on 1,000 lines at most, of those that are applied
-- Example: with 412 applied and no from: 392 to 411.
abbrev pub lines_from : Log Bytes → (applied kept first : ℕ) → List ℕ
lines_from log applied kept first =
    let end = min applied (first + 1000) in lines_before (log_line log applied kept) end (end - first) []

-- where no first position is given, the last 20
abbrev pub log_answer : {R : Type 0} {G : Ghosts R} → Node R G → Option ℕ → AnswerValue
log_answer n from =
    shown (lines_from (learned_by n) (applied_of n) (kept_of n) (unwrap_or from (applied_of n - 20)))

-- ---- the entries

-- an entry's bytes in hexadecimal digits
abbrev pub digits_line : Option (List ℕ) → List ℕ
digits_line None = []
digits_line (Some bytes) = encode_lower bytes ++ codes "\n"

-- the line of the entry learned at a position, nothing where none is
abbrev pub entry_line : Log Bytes → (p : ℕ) → List ℕ
entry_line log p = digits_line (option_map spelled (log p))

-- the lines of the last n positions before an end, behind a string
abbrev pub entries_before : Log Bytes → (end n : ℕ) → List ℕ → List ℕ
entries_before log end n text = lines_before (entry_line log) end n text

-- from a position on that many lines, 1,000 at most, of those that are applied
-- Example: with 412 applied, from 410 on: two lines.
abbrev pub entries_from : Log Bytes → (applied first count : ℕ) → List ℕ
entries_from log applied first count =
    let end = min applied (first + min count 1000) in entries_before log end (end - first) []

-- the lines from a position on, 0 where it isn't given, and that many, 1,000 where that isn't given
abbrev pub entries_answer : {R : Type 0} {G : Ghosts R} → Node R G → (from count : Option ℕ) → AnswerValue
entries_answer n from count =
    shown (entries_from (learned_by n) (applied_of n) (unwrap_or from 0) (unwrap_or count 1000))

-- ---- what is shown of a position

abbrev pub line_shown : {R : Type 0} {G : Ghosts R} → Show → Node R G → (p : ℕ) → List ℕ
line_shown Command n p = log_line (learned_by n) (applied_of n) (kept_of n) p
line_shown Entry n p = entry_line (learned_by n) p
