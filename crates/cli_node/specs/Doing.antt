-- What a run did: the nodes that it ran or checked, how its wires were left, and the files that it made.
use Rattle.std.specs.Prelude.{ℕ, List, ◌++◌}
use Rattle.px_transport.specs.Wires.{WireEvent}
use Rattle.cli_node.specs.declared.node.NodeArguments.{NodeArguments}
use Rattle.cli_node.specs.declared.outcome.Outcome.{Outcome}

-- a node with these arguments was run or checked, and gave this
pub data NodeEvent : Type 0 where
  Ran : (w : NodeArguments) → (outcome : Outcome) → NodeEvent
  Checked : (w : NodeArguments) → (outcome : Outcome) → NodeEvent

-- a new file with this text was made at a path, or none
pub data FileEvent : Type 0 where
  Written : (path text : List ℕ) → FileEvent
  Unwritten : (path : List ℕ) → FileEvent

-- where these came so far, those came with these more
-- Example: of a node that is run twice there are two events.
abbrev pub Adds : {E : Type 0} → (old new : List E → Type 0) → (more : List E) → Type 0
Adds {E} old new more = (es : List E) → old es → new (es ++ more)

-- a node that was run gave such an outcome, and one that was checked
abbrev pub GaveSo : (ran checked : NodeArguments → Outcome → Type 0) → NodeEvent → Type 0
GaveSo ran checked (Ran w outcome) = ran w outcome
GaveSo ran checked (Checked w outcome) = checked w outcome

-- all that came and went over a wire is that
abbrev pub IsLeft : {W : Type 0} → (traffic : W → List WireEvent → Type 0) → (went : List WireEvent → Type 0) → W →
    Type 0
IsLeft traffic went wire = (es : List WireEvent) → traffic wire es → went es
