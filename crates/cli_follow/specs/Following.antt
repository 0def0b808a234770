-- What a control socket's lines of entries do to a configuration.
use Rattle.std.specs.Prelude.{◌≡◌, ℕ, ◌+◌, ◌≤◌, ◌||◌, ◌⊎◌, Bool, true, false, List, [], ◌∷◌, Option, Some, None, Result}
use Rattle.std.specs.Prelude.{Ok, Err, nat_lt, option_map, if◌then◌else◌}
use Rattle.std.specs.List.{fold}
use Rattle.hex.specs.Hex.{IsBytes, decode_of}
use Rattle.hex.specs.declared.error.FromHexError.{FromHexError}
use Rattle.px_model.specs.Node.{Entry, Log}
use Rattle.px_model.specs.Step.{front}
use Rattle.px_model.specs.Spelling.{Bytes, spelled}
use Rattle.pf_config.specs.Map.{Configuration}
use Rattle.pf_command.specs.Effect.{Effect, RefusedCommand, effect}
use Rattle.pf_entry.specs.Entry as entries
use Rattle.pf_entry.specs.Reading.{reading}
use Rattle.pf_scripts.specs.Lines.{ScriptLine, lines}
use Rattle.pf_node.specs.Applied.{after, after_read}
use Rattle.node_requests.specs.EntryLines.{entries_from}
use Rattle.cli_follow.specs.declared.followed_configuration.FollowedConfiguration.{FollowedConfiguration}

-- the configuration after the entry whose bytes were decoded, if they were
abbrev pub after_decoded : Configuration → Result (List ℕ) FromHexError → Configuration
after_decoded c (Ok bytes) = after_read c (reading bytes)
after_decoded c (Err e) = c

-- after the entry of a line
abbrev pub after_line : Configuration → ScriptLine → Configuration
after_line c l = after_decoded c (decode_of l.content)

-- after those of all lines of a string
abbrev pub after_lines : Configuration → List ℕ → Configuration
after_lines c text = fold after_line c (lines text)

-- ---- what is kept of a log

-- The configuration after a log's first entries, how many they are, and whether a command was done since what it gives
-- was written.
pub record Followed : Type 0 where
  pub configuration : Configuration
  pub position : ℕ
  pub is_moved : Bool

-- what a followed configuration has of it
abbrev pub followed_of : FollowedConfiguration → Followed
followed_of f = record { configuration = f.config; position = f.position; is_moved = f.is_moved }

-- a command that isn't refused
abbrev pub is_done : Result Effect RefusedCommand → Bool
is_done (Ok e) = true
is_done (Err refused) = false

-- whether the command that was read is done at this configuration, if one was read
abbrev pub does : Configuration → Option entries.Entry → Bool
does c None = false
does c (Some e) = is_done (effect c e.command)

-- after one entry more; none where the line isn't an entry's, or a position has no 32 bits
abbrev pub next_of : Followed → Result (List ℕ) FromHexError → Option Followed
next_of f (Err e) = None
next_of f (Ok bytes) = if nat_lt f.position 4294967295 then Some (record {
  configuration = after_read f.configuration (reading bytes);
  position = f.position + 1;
  is_moved = f.is_moved || does f.configuration (reading bytes);
}) else None

-- after the lines up to the first that isn't taken, and whether all are
pub record LinesApplied : Type 0 where
  pub followed : Followed
  pub is_whole : Bool

-- where a line isn't taken it ends there
abbrev pub or_ends : Followed → Option LinesApplied → LinesApplied
or_ends f None = record { followed = f; is_whole = false }
or_ends f (Some t) = t

-- Example: three lines of which the second has an odd digit: one is accepted.
abbrev pub lines_applied : Followed → List ScriptLine → LinesApplied
lines_applied f [] = record { followed = f; is_whole = true }
lines_applied f (l ∷ ls) = or_ends f (option_map (λ g. lines_applied g ls) (next_of f (decode_of l.content)))

-- Lines were taken one after the other up to one that wasn't, or to the last: the configuration is then that after the
-- lines before it, and its position is higher by their number.
-- Example: of three lines at 7: at 7, 8, 9 or 10.
abbrev pub StopsIn : (old new : Configuration) → (from to : ℕ) → List ScriptLine → Type 0
StopsIn old new from to [] = (new ≡ old) × (to ≡ from)
StopsIn old new from to (l ∷ ls) =
    ((new ≡ old) × (to ≡ from)) ⊎ StopsIn (after_line old l) new (from + 1) to ls

-- each entry of a log is spelled in bytes
abbrev pub AreBytes : Log Bytes → Type 0
AreBytes log = (p : ℕ) (e : Entry Bytes) → log p ≡ Some e → IsBytes (spelled e)

-- Where a configuration is that of a log's first entries, and a string is what a control socket answers of this log
-- from there on, it is afterwards that of the log's first entries up to its position then.
-- Example: at 3, with two lines: after five entries.
abbrev pub Follows : (old new : Configuration) → (from to : ℕ) → (text : List ℕ) → Type 0
Follows old new from to text = (log : Log Bytes) (applied count : ℕ) → AreBytes log → applied ≤ front log →
    after log from ≡ Some old → text ≡ entries_from log applied from count → after log to ≡ Some new
