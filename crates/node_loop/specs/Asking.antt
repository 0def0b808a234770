-- What arrives at a member from members asks nothing.
use Rattle.std.specs.Prelude.{◌≢◌, ℕ, List, Result}
use Rattle.px_model.specs.Node.Message.{Ask}
use Rattle.px_model.specs.Spelling.{Bytes}
use Rattle.px_records.specs.declared.records.Records.{Ghosts}
use Rattle.px_replica.specs.Calls.{IsHandled}
use Rattle.px_replica.specs.declared.datagram.Datagram.{Datagram}
use Rattle.px_replica.specs.declared.fault.NodeFault.{NodeFault}
use Rattle.px_replica.specs.declared.receiving.Received.{Received}
use Rattle.px_replica.specs.declared.state.Replica.{Replica}

-- What is accepted from a sender other than 255 is no ask.
abbrev pub MembersAskNothing : {R : Type 0} → Ghosts R → Type 0
MembersAskNothing {R} G =
    (s t : Replica R G) (bytes : Bytes) (old new : List Datagram) (result : Result Received NodeFault) →
    (it : IsHandled s t bytes old new result) → it.sender ≢ 255 →
    (token : ℕ) (command : Bytes) → it.message ≢ Ask token command
