-- The command lines of a batch, and how each ended.
use Rattle.std.specs.Prelude.{◌≡◌, ◌⊎◌, ◌==◌, ℕ, Bool, true, false, not, cond, List, [], ◌∷◌, map, codes}
use Rattle.std.specs.Prelude.{Option, Some, None}
use Rattle.std.specs.List.{All, flat_map, list_all, starts_with}
use Rattle.bstr.specs.Find.{matches}
use Rattle.bstr.specs.Text.{split_at}
use Rattle.cli_io.specs.declared.status.Status.{Status}
use Rattle.cli_io.specs.declared.status.Status.TheVariants as status
use Rattle.pfx.specs.Runs.{RunEvent, Ran}
use Rattle.cli_follow.specs.Exchanges.{Adds}

-- ---- its command lines

abbrev pub behind_first : List (List ℕ) → List (List ℕ)
behind_first [] = []
behind_first (part ∷ parts) = parts

-- what is behind each `==` at the beginning of a line, with the line's input
abbrev pub lines_of : (batch : List ℕ) → List (List ℕ)
lines_of batch = behind_first (split_at batch 3 0 (matches batch (codes "\n==") 0))

-- it is marked as one that must fail
abbrev pub must_fail : (line : List ℕ) → Bool
must_fail line = starts_with (λ a b. a == b) line (codes " !\t")

-- ---- how each ended

-- a command line, the run that was made of it, none where it isn't run, and how it ended
pub data LineEvent : Type 0 where
  Line : (text : List ℕ) → (run : Option RunEvent) → (ending : Status) → LineEvent

abbrev pub text_of : LineEvent → List ℕ
text_of (Line text run ending) = text

abbrev pub list_of : Option RunEvent → List RunEvent
list_of None = []
list_of (Some run) = run ∷ []

abbrev pub run_of : LineEvent → List RunEvent
run_of (Line text run ending) = list_of run

-- it ended as its run did, or what the run wrote couldn't be passed on
abbrev pub EndsAsRun : Option RunEvent → Status → Type 0
EndsAsRun None ending = Unit {0}
EndsAsRun (Some (Ran arguments input old new is_terminal s)) ending =
    (ending ≡ s) ⊎ ((ending ≡ status.Failed) ⊎ (ending ≡ status.Memory))

abbrev pub IsLine : LineEvent → Type 0
IsLine (Line text run ending) = EndsAsRun run ending

abbrev pub is_done : Status → Bool
is_done status.Done = true
is_done ending = false

-- a line ended as it is marked: with Done, but for one that must fail
abbrev pub is_good : (text : List ℕ) → Status → Bool
is_good text ending = cond (must_fail text) (not (is_done ending)) (is_done ending)

abbrev pub is_good_line : LineEvent → Bool
is_good_line (Line text run ending) = is_good text ending

abbrev pub ending_by : (are_as_marked : Bool) → Status
ending_by true = status.Done
ending_by false = status.Refused

-- ---- a batch

-- Between two states of what runs command lines, these lines were run, and nothing else; and the batch ended so: with
-- Done where each ended as it is marked.
pub record RanLines (old new : List RunEvent → Type 0) (lines : List (List ℕ)) (ending : Status) : Type 0 where
  pub ends : List LineEvent
  pub are : map text_of ends ≡ lines
  pub all : All IsLine ends
  pub made : Adds old new (flat_map run_of ends)
  pub ended : ending ≡ ending_by (list_all is_good_line ends)

-- the lines of some batch were run, and each ended as it is marked
abbrev pub RanBatch : (old new : List RunEvent → Type 0) → Type 0
RanBatch old new = (batch : List ℕ) × RanLines old new (lines_of batch) status.Done

-- a line was run between these states, or wasn't, and ended so
abbrev pub RanLine : (old new : List RunEvent → Type 0) → Status → Type 0
RanLine old new ending = (run : Option RunEvent) × EndsAsRun run ending × Adds old new (list_of run)
