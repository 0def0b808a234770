-- A run of `node`, `ask` or `key`, from its arguments to what is written.
use Rattle.std.specs.Prelude.{◌≡◌, ◌⊎◌, ℕ, false, List, [], Option, Some, None, codes}
use Rattle.clap.specs.Words.{Row, Text, first_of}
use Rattle.px_transport.specs.Wires.{WireEvent}
use Rattle.cli_io.specs.Given.{given_in}
use Rattle.cli_io.specs.Written.{RanOut}
use Rattle.cli_io.specs.declared.status.Status.{Status}
use Rattle.cli_node.specs.Outcomes.{Ends}
use Rattle.cli_node.specs.declared.ask.AskArguments.{AskArguments}
use Rattle.cli_node.specs.declared.outcome.Outcome.{Outcome}
use Rattle.cli_node.specs.declared.outcome.Outcome.TheVariants.{Refused}
use Rattle.cli_node.specs.Asked.{AreAskArguments, AsksNode, names_node}
use Rattle.cli_node.specs.Doing.{FileEvent}
use Rattle.cli_node.specs.Keeping.{IsNewKey}
use Rattle.cli_node.specs.Places.{has_place}

-- ---- what each subcommand gives

abbrev pub KeyGives : (gives : (key : List ℕ) → Type 0) → (made : List FileEvent → Type 0) → List Row → Outcome → Type 0
KeyGives gives made rows outcome = IsNewKey gives made (first_of (codes "file") rows) outcome

-- 40 where an option is missing or too large
abbrev pub AskGives : {W : Type 0} → (traffic : W → List WireEvent → Type 0) → (reaches : (to : List ℕ) → W → Type 0) →
    (is_unreached : (to : List ℕ) → Type 0) → (went : List WireEvent → Type 0) →
    (is_text : (name text : List ℕ) → Type 0) → List Row → Outcome → Type 0
AskGives traffic reaches is_unreached went is_text rows outcome =
    ((names_node rows ≡ false) × (went [] × (outcome ≡ Refused 40)))
    ⊎ ((w : AskArguments) × (AreAskArguments rows w
    × AsksNode traffic reaches is_unreached went is_text rows w (has_place w.node w.members) outcome))

-- ---- a run

-- the outcome of the subcommand that is given, none of another one; only `node` runs or checks a node, only `ask` asks
-- one, and only `key` makes a file
abbrev pub OutcomeBy : (runs_none asks_none makes_none : Type 0) → (node key ask : List Row → Outcome → Type 0) →
    (of_node of_key of_ask : Option (List Row)) → Option Outcome → Type 0
OutcomeBy runs_none asks_none makes_none node key ask (Some rows) of_key of_ask (Some outcome) =
    (asks_none × makes_none) × node rows outcome
OutcomeBy runs_none asks_none makes_none node key ask None (Some rows) of_ask (Some outcome) =
    (runs_none × asks_none) × key rows outcome
OutcomeBy runs_none asks_none makes_none node key ask None None (Some rows) (Some outcome) =
    (runs_none × makes_none) × ask rows outcome
OutcomeBy runs_none asks_none makes_none node key ask None None None None = runs_none × (asks_none × makes_none)
OutcomeBy runs_none asks_none makes_none node key ask of_node of_key of_ask outcome = ⊥

abbrev pub IsOutcome : (runs_none asks_none makes_none : Type 0) → (node key ask : List Row → Outcome → Type 0) →
    (subcommand : Option (Text × List Row)) → Option Outcome → Type 0
IsOutcome runs_none asks_none makes_none node key ask subcommand outcome =
    OutcomeBy runs_none asks_none makes_none node key ask
    (given_in (codes "node") subcommand) (given_in (codes "key") subcommand) (given_in (codes "ask") subcommand) outcome

-- What a run did that ended so, by the subcommand that is given. It is misused only where that is none: arguments that
-- aren't understood. Else it wrote what the subcommand gave, or was out of memory before that.
abbrev pub Ran : (runs_none asks_none makes_none : Type 0) → (node key ask : List Row → Outcome → Type 0) →
    (subcommand : Option (Text × List Row)) → Status → (old new : Option (List ℕ)) → Type 0
Ran runs_none asks_none makes_none node key ask subcommand ending old new =
    ((runs_none × (asks_none × makes_none)) × RanOut ending old new)
    ⊎ ((outcome : Option Outcome) × (IsOutcome runs_none asks_none makes_none node key ask subcommand outcome
    × Ends ending outcome old new))
