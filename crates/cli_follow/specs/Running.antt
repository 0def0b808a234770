-- A run of `follow`, from its arguments to what is written.
use Rattle.std.specs.Prelude.{◌≡◌, ◌⊎◌, ℕ, List, [], Option, Some, None, codes}
use Rattle.std.specs.Io.KnownBytes.{Appends}
use Rattle.clap.specs.Words.{Row, Text, first_of, one_of}
use Rattle.cli_io.specs.declared.status.Status.{Status}
use Rattle.cli_io.specs.declared.status.Status.TheVariants as status
use Rattle.cli_io.specs.Written.{IsMisused}
use Rattle.cli_follow.specs.Exchanges.{Exchange, Adds}
use Rattle.cli_follow.specs.Files.{Act}
use Rattle.cli_follow.specs.Places.{AreTurns, FollowedBy, IsNoEnding}

-- out of memory before anything was asked or written; Failed where that can't be logged
abbrev pub RanOut : Status → (old new : Option (List ℕ)) → Type 0
RanOut ending old new = ((ending ≡ status.Memory) ⊎ (ending ≡ status.Failed)) × Appends old new []

-- The log of the node at the control socket at a path was followed, with the number of requests for entries that
-- `--turns` asks for. The node was in one state before and in another after, and the run ended so and wrote this.
pub record FollowedAt {P : Type 0} (answers_at : (path : Text) → P → Type 0) (exchanged : P → List Exchange → Type 0)
    (done did : List Act → Type 0) (has : (path text : Text) → Type 0) (path : Text) (rows : List Row)
    (ending : Status) (old new : Option (List ℕ)) : Type 0 where
  pub before : P
  pub after : P
  pub turns : ℕ
  pub there : answers_at path before
  pub counted : AreTurns (one_of (codes "turns") rows) turns
  pub followed : FollowedBy (exchanged before) (exchanged after) done did has rows turns ending old new

-- the same at the path of `--control`; without one it is refused, and nothing is written
abbrev pub FollowedFor : {P : Type 0} → (answers_at : (path : Text) → P → Type 0) →
    (exchanged : P → List Exchange → Type 0) → (done did : List Act → Type 0) →
    (has : (path text : Text) → Type 0) → (path : Option Text) → List Row → Status → (old new : Option (List ℕ)) →
    Type 0
FollowedFor answers_at exchanged done did has None rows ending old new =
    IsNoEnding ending × (Appends old new [] × Adds done did [])
FollowedFor answers_at exchanged done did has (Some path) rows ending old new =
    FollowedAt answers_at exchanged done did has path rows ending old new

-- What a run did that ended so, by what is given with `follow`. It is misused only where that is none: arguments that
-- aren't understood. Else it followed the log as they ask for. In either case it may be out of memory before. Unless it
-- followed the log, it did nothing with files.
abbrev pub Ran : {P : Type 0} → (answers_at : (path : Text) → P → Type 0) → (exchanged : P → List Exchange → Type 0) →
    (done did : List Act → Type 0) → (has : (path text : Text) → Type 0) → (given : Option (List Row)) →
    Status → (old new : Option (List ℕ)) → Type 0
Ran answers_at exchanged done did has None ending old new =
    Adds done did [] × (RanOut ending old new ⊎ IsMisused ending old new)
Ran answers_at exchanged done did has (Some rows) ending old new = (Adds done did [] × RanOut ending old new)
    ⊎ FollowedFor answers_at exchanged done did has (first_of (codes "control") rows) rows ending old new
