-- What is written of a configuration and of a log.
use Rattle.std.specs.Prelude.{◌≡◌, ℕ, Bool, true, false, List, [], ◌∷◌, ◌++◌, ◌+◌, ◌-◌, min, Option, Some, None}
use Rattle.std.specs.Prelude.{Result, Ok, Err, unwrap_or, codes, decimal}
use Rattle.clap.specs.Words.{Text}
use Rattle.px_model.specs.Node.{Log}
use Rattle.px_model.specs.Spelling.{Bytes}
use Rattle.px_model.specs.Step.{positions}
use Rattle.pf_config.specs.Map.{Configuration}
use Rattle.pf_eval.specs.Seen.{verdict_for}
use Rattle.pf_scripts.specs.Lines.{line, refused_line}
use Rattle.cli_nft.specs.Outputs as kernel
use Rattle.node_requests.specs.Positions.{lines_before}
use Rattle.cli_show.specs.declared.shown.Shown.{Shown}

-- the bytes, and whether they are a refusal
pub record ShownValue : Type 0 where
  pub bytes : List ℕ
  pub refused : Bool

-- bytes that are no refusal
abbrev pub written : List ℕ → ShownValue
written bytes = record { bytes = bytes; refused = false }

-- the line of a refusal: the number, and a line of a ruleset where it isn't 0
-- Example: refused 40 0 is the line refused 40.
abbrev pub refused : ℕ → ℕ → ShownValue
refused code at = record { bytes = refused_line code at; refused = true }

-- ---- listings

-- what is listed, or the number of its refusal
-- Example: pfctl -t bad -T show without such a table is refused 20.
abbrev pub answered : Result (List ℕ) ℕ → ShownValue
answered (Ok output) = written output
answered (Err code) = refused code 0

-- ---- packets

-- a string before what is shown
abbrev pub behind : List ℕ → ShownValue → ShownValue
behind text later = record { bytes = text ++ later.bytes; refused = later.refused }

-- a verdict before what follows; a string that is no packet ends it
abbrev pub put_verdict : Option (List ℕ) → ShownValue → ShownValue
put_verdict None later = refused 30 0
put_verdict (Some verdict) later = behind (line verdict) later

-- a line for each packet's text in turn
-- Example: two packets and the text x: two verdicts, then refused 30.
abbrev pub verdicts : Configuration → List Text → ShownValue
verdicts c [] = written []
verdicts c (packet ∷ packets) = put_verdict (verdict_for c packet) (verdicts c packets)

-- ---- the log

-- where the lines begin
abbrev pub first_of : ℕ → Option ℕ → Option ℕ → ℕ
first_of applied None count = applied - unwrap_or count 20
first_of applied (Some from) count = min from applied

-- and where they end
-- Example: of 30, from 5 and 3 lines: 5 and 8; without either 10 and 30.
abbrev pub end_of : ℕ → ℕ → Option ℕ → ℕ
end_of applied first None = applied
end_of applied first (Some count) = min applied (first + count)

-- from a position on, of those that are applied
abbrev pub lines_from : Log Bytes → (applied kept first end : ℕ) → List ℕ
lines_from log applied kept first end = lines_before log applied kept end (end - first)

-- the lines of the log that are asked for
abbrev pub log_shown : Log Bytes → (applied kept : ℕ) → Option ℕ → Option ℕ → ShownValue
log_shown log applied kept from count =
    let first = first_of applied from count in written (lines_from log applied kept first (end_of applied first count))

-- ---- figures

-- how many positions are applied, and how many the log has left
-- Example: applied 412 left 999588.
abbrev pub figures : ℕ → ShownValue
figures k = written (codes "applied " ++ decimal k ++ codes " left " ++ decimal (positions - k) ++ codes "\n")

-- ---- rules for nft(8)

-- what is written for a kernel, as what is shown
-- Example: without a list of interfaces refused 89.
abbrev pub of_kernel : kernel.Written → ShownValue
of_kernel w = record { bytes = w.text; refused = w.refused }

-- ---- the code's values

-- what is shown, of the code's value
abbrev pub shown_value : Shown → ShownValue
shown_value s = record { bytes = s.bytes.items; refused = s.refused }

-- ---- what gives the configuration

-- no script, or no rulesets, give the configuration
abbrev pub none_shown : ShownValue
none_shown = refused 91 0

-- what is shown is that, or that there is none, where there is none
abbrev pub OrNone : Shown → (gives : List ℕ → Type 0) → (is_there : Type 0) → Type 0
OrNone s gives is_there = (s.refused ≡ false → gives s.bytes.items)
    × (s.refused ≡ true → (shown_value s ≡ none_shown) × (is_there → ⊥))
