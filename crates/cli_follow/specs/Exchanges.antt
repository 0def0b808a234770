-- What `follow` asks a node at its control socket, and what is answered.
use Rattle.std.specs.Prelude.{◌≡◌, ◌⊎◌, ℕ, List, ◌++◌, Result, Err, codes, decimal}
use Rattle.cli_ask.specs.Asking.{Answered, answer_value}
use Rattle.cli_ask.specs.declared.exchange.AskFault.{AskFault}
use Rattle.cli_ask.specs.declared.exchange.AskFault.TheVariants as fault
use Rattle.cli_ask.specs.declared.exchange.Reply.{Reply}

-- the entries from a position on, or the node's status
pub data Question : Type 0 where
  Entries : (from : ℕ) → Question
  Status : Question

-- a question and its answer, which may be that there is none
pub record Exchange : Type 0 where
  pub question : Question
  pub answer : Result Reply AskFault

abbrev pub asked : Question → Result Reply AskFault → Exchange
asked question answer = record { question = question; answer = answer }

-- the target under which a node answers a question
-- Example: /v1/entries?from=7, and /v1/status.
abbrev pub target_of : Question → List ℕ
target_of (Entries from) = codes "/v1/entries?from=" ++ decimal from
target_of Status = codes "/v1/status"

-- That was read under the target of the question; or there was no request, when out of memory.
-- Example: what was read from 0 on is no answer to the question for the entries from 7 on.
abbrev pub IsAnswered : (is_read : (target : List ℕ) → Answered → Type 0) → Exchange → Type 0
IsAnswered is_read e =
    is_read (target_of e.question) (answer_value e.answer) ⊎ (e.answer ≡ Err fault.Memory)

-- where these were there so far, those are with these more
-- Example: what is asked twice is there twice.
abbrev pub Adds : {X : Type 0} → (List X → Type 0) → (List X → Type 0) → List X → Type 0
Adds {X} old new more = (es : List X) → old es → new (es ++ more)
