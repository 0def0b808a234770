-- What only code and proofs use beside `Labs`.
use Rattle.std.specs.Prelude.{◌≡◌, List, []}
use Rattle.px_model.specs.Node.{Answer}
use Rattle.px_model.specs.Node.Answer.{Refused, Planned}
use Rattle.px_model.specs.World.{NodeState, follows}
use Rattle.px_model.specs.Spelling.{Bytes}
use Rattle.px_wire.specs.Message.{Group}
use Rattle.px_replica.specs.Spelled.{AreSpelled}
use Rattle.px_replica.specs.declared.datagram.Datagram.{Datagram}
use Rattle.px_replica.specs.declared.fault.NodeFault.{NodeFault}
use Rattle.px_replica.specs.declared.fault.NodeFault.TheVariants as fault

-- a member did what the model answers: nothing where it refuses, else the plan
abbrev pub IsAnswered : Group → Answer Bytes → (s t : NodeState Bytes) → List Datagram → Type 0
IsAnswered g (Refused code) s t out = (t ≡ s) × (out ≡ [])
IsAnswered g (Planned plan) s t out = (t ≡ follows s plan) × AreSpelled g plan.sends out

-- what a node over a record in memory is refused with
abbrev pub IsLabs : NodeFault → Type 0
IsLabs fault.Memory = Unit {0}
IsLabs fault.Full = Unit {0}
IsLabs fault.BallotsSpent = Unit {0}
IsLabs fault.PositionsSpent = Unit {0}
IsLabs fault.TooLong = ⊥
IsLabs fault.Store = ⊥
IsLabs fault.BadStore = ⊥
IsLabs fault.Failed = ⊥
