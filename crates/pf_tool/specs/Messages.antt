-- The messages on standard error.
use Rattle.std.specs.Prelude.{ℕ, Bool, true, false, List, [], ◌∷◌, ◌++◌, Option, Some, None}
use Rattle.std.specs.Prelude.{codes, decimal, slice_get, if◌then◌else◌}
use Rattle.std.specs.List.{flat_map}
use Rattle.std.specs.Str.{trim_end}
use Rattle.clap.specs.Words.{Row, Text, first_of}
use Rattle.cli_io.specs.declared.paragraph.Explanation.{Explanation}
use Rattle.cli_io.specs.Explained.{row_of, remark}
use Rattle.cli_io.specs.Shown as shown
use Rattle.cli_io.specs.Written.{line}
use Rattle.pf_rules.specs.Items.{AnyRule}
use Rattle.pf_show.specs.Shown.{shown_items}
use Rattle.pf_config.specs.Map.{Configuration, Path, rules_at}
use Rattle.pf_eval.specs.Verdicts.{Judgement, Skipped, Decided}
use Rattle.pf_eval.specs.Seen.{verdict_text}
use Rattle.pf_tool.specs.declared.reporting.Level.{Level}
use Rattle.pf_tool.specs.declared.reporting.Level.TheVariants.{Silent, Refusals, Rules}
use Rattle.pf_tool.specs.Options.{is_given}

-- A refusal of a source, at its line where the refusal names one. Or the rule that decides, for the packet with this
-- number, from 1.
pub data Message : Type 0 where
  Refuses : (source : Text) → (line : Option ℕ) → (code : ℕ) → Message
  Decides : (n : ℕ) → (configuration : Configuration) → (verdict : Judgement) → Message

-- ---- which messages there are

-- -v is given with the subcommand
abbrev pub is_verbose : Option (Text × List Row) → Bool
is_verbose None = false
is_verbose (Some (subcommand, rows)) = is_given (first_of (codes "verbose") rows)

-- with -v the refusals and the rules that decide; else, where standard error is a terminal, the refusals
abbrev pub level_of : (verbose terminal : Bool) → Level
level_of verbose terminal = if verbose then Rules else (if terminal then Refusals else Silent)

-- this level has refusals
abbrev pub has_refusals : Level → Bool
has_refusals Silent = false
has_refusals Refusals = true
has_refusals Rules = true

-- this level has the rules that decide
abbrev pub has_rules : Level → Bool
has_rules Silent = false
has_rules Refusals = false
has_rules Rules = true

-- ---- how they are written

-- a refusal's short name
abbrev pub name_of : Option Explanation → List ℕ
name_of None = codes "refused"
name_of (Some row) = row.name.now

-- SOURCE:LINE: NAME (CODE)
-- Example: stdin:3: syntax error (12).
abbrev pub refusal_text : List Explanation → (source : Text) → (line : Option ℕ) → (code : ℕ) → List ℕ
refusal_text table source at code = remark (shown.shown source) at (name_of (row_of table code)) code

-- a rule in its line, nothing where there is none
abbrev pub rule_text : Option AnyRule → List ℕ
rule_text None = []
rule_text (Some rule) = shown_items (rule ∷ [])

-- the rule with this index at a path, in its line
abbrev pub rule_at : Configuration → Path → (index : ℕ) → List ℕ
rule_at c path index = rule_text (slice_get (rules_at c path) index)

-- the rule that decides, in its line, or why none does
abbrev pub shown_rule : Configuration → Judgement → List ℕ
shown_rule c Skipped = codes "the interface is skipped"
shown_rule c (Decided None) = codes "no rule matches"
shown_rule c (Decided (Some s)) = rule_at c s.path s.index

-- packet N: VERDICT: RULE
-- Example: packet 1: block drop @0: block drop all.
unfoldable pub decided_line : Configuration → (n : ℕ) → Judgement → List ℕ
decided_line c n j = codes "packet " ++ (decimal n ++ (codes ": " ++ (verdict_text j
    ++ (codes ": " ++ trim_end (shown_rule c j)))))

-- the line of a message, empty where this level doesn't have it
abbrev pub message_line : Level → List Explanation → Message → List ℕ
message_line level table (Refuses source at code) =
    if has_refusals level then line (refusal_text table source at code) else []
message_line level table (Decides n c verdict) = if has_rules level then line (decided_line c n verdict) else []

-- the lines of messages
abbrev pub message_lines : Level → List Explanation → List Message → List ℕ
message_lines level table messages = flat_map (message_line level table) messages
