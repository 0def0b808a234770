-- A run of `ask` with `--control`, from its arguments to what is written.
use Rattle.std.specs.Prelude.{◌⊎◌, ℕ, List, [], ◌∷◌, Option, Some, None, codes}
use Rattle.clap.specs.Words.{Row, Text, first_of}
use Rattle.cli_io.specs.declared.status.Status.{Status}
use Rattle.cli_io.specs.Written.{IsMisused, RanOut}
use Rattle.cli_ask.specs.Asking.{Event, Directed, Adds}
use Rattle.cli_ask.specs.Outcomes.{Runs, Wrote, refusal}

-- From one state of the peer to another it was directed to the control socket at a path, and then asked what the rows
-- ask for; the run ended so and wrote this.
-- Example: what is asked behind the run, or at another path, isn't among it.
pub record RunsAt {P : Type 0} (answers_at : P → (path : Text) → Type 0) (exchanged : P → List Event → Type 0)
    (before after : P) (path : Text) (rows : List Row) (is_text : Text → List ℕ → Type 0) (ending : Status)
    (old new : Option (List ℕ)) : Type 0 where
  pub directed : P
  pub there : answers_at directed path
  pub alone : Adds (exchanged before) (exchanged directed) (Directed path ∷ [])
  pub ran : Runs (exchanged directed) (exchanged after) rows is_text ending old new

-- the same at the path of `--control`; without one nothing is asked, and 40 is written
abbrev pub RunsBy : {P : Type 0} → (answers_at : P → (path : Text) → Type 0) → (exchanged : P → List Event → Type 0) →
    (before after : P) → (path : Option Text) → List Row → (is_text : Text → List ℕ → Type 0) → Status →
    (old new : Option (List ℕ)) → Type 0
RunsBy answers_at exchanged before after None rows is_text ending old new =
    Adds (exchanged before) (exchanged after) [] × Wrote ending (refusal 40) old new
RunsBy answers_at exchanged before after (Some path) rows is_text ending old new =
    RunsAt answers_at exchanged before after path rows is_text ending old new

-- What a run did that ended so, by what is given with `ask`, between two states of the peer. It is misused only where
-- that is none: arguments that aren't understood. Else it asked what they ask for, and nothing else, or was out of
-- memory before that. Where it is misused or out of memory so, nothing is asked.
abbrev pub Ran : {P : Type 0} → (answers_at : P → (path : Text) → Type 0) → (exchanged : P → List Event → Type 0) →
    (before after : P) → (given : Option (List Row)) → (is_text : Text → List ℕ → Type 0) → Status →
    (old new : Option (List ℕ)) → Type 0
Ran answers_at exchanged before after None is_text ending old new =
    Adds (exchanged before) (exchanged after) [] × IsMisused ending old new
Ran answers_at exchanged before after (Some rows) is_text ending old new =
    (Adds (exchanged before) (exchanged after) [] × RanOut ending old new)
    ⊎ RunsBy answers_at exchanged before after (first_of (codes "control") rows) rows is_text ending old new
