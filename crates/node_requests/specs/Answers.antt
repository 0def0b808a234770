-- What is answered: HTTP's status and a body.
use Rattle.std.specs.Prelude.{ℕ, Bool, List, [], ◌∷◌, ◌++◌, ◌==◌, ◌||◌, Option, Some, None, string_bytes}
use Rattle.std.specs.Prelude.{Result, Ok, Err, if◌then◌else◌}
use Rattle.clap.specs.Words.{Text}
use Rattle.pf_config.specs.Map.{Configuration}
use Rattle.pf_eval.specs.Seen.{verdict_for}
use Rattle.pf_scripts.specs.Lines.{line, refused_line}
use Rattle.node_requests.specs.declared.answer.Answer.{Answer}

-- HTTP's status, and the body's bytes
pub record AnswerValue : Type 0 where
  pub code : ℕ
  pub body : List ℕ

-- nothing is accepted: all positions are used, or the store failed
-- Source: RFC 9110, 15. Example: 20 is 404, 40 is 400.
abbrev pub is_unavailable : ℕ → Bool
is_unavailable code = (code == 62) || (code == 70) || (code == 72) || (code == 80)

-- HTTP's status for the number of a refusal
abbrev pub status_of : ℕ → ℕ
status_of code =
    if code == 20 then 404
    else if code == 41 then 413
    else if code == 60 then 429
    else if is_unavailable code then 503
    else 400

-- 200 and a body
abbrev pub shown : List ℕ → AnswerValue
shown body = record { code = 200; body = body }

-- the status for a refusal, and its line: the number, and a line of a ruleset where it isn't 0
-- Example: refused 12 3 is 400 and refused 12 line 3.
abbrev pub refused : ℕ → ℕ → AnswerValue
refused code at = record { code = status_of code; body = refused_line code at }

-- what is listed, or the number of its refusal
-- Example: pfctl -t bad -T show without such a table is 404 and refused 20.
abbrev pub answered : Result (List ℕ) ℕ → AnswerValue
answered (Ok output) = shown output
answered (Err code) = refused code 0

-- ---- packets

-- an answer with a string before its body
-- Example: over nothing, a packet and then a string that is none: 400, pass default and refused 30.
abbrev pub behind : List ℕ → AnswerValue → AnswerValue
behind text later = record { code = later.code; body = text ++ later.body }

-- a verdict before what follows; a string that is no packet ends it
abbrev pub put_verdict : Option (List ℕ) → AnswerValue → AnswerValue
put_verdict None later = refused 30 0
put_verdict (Some verdict) later = behind (line verdict) later

-- a line for each packet's text in turn
abbrev pub verdicts : Configuration → List Text → AnswerValue
verdicts c [] = shown []
verdicts c (packet ∷ packets) = put_verdict (verdict_for c packet) (verdicts c packets)

-- ---- the code's values

-- what an answer of the code stands for
abbrev pub answer_value : Answer → AnswerValue
answer_value a = record { code = a.code; body = string_bytes a.body }
