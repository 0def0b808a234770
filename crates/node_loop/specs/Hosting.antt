-- What a running node does, one thing after another: turns, and asks between them.
use Rattle.std.specs.Prelude.{◌≡◌, ◌⊎◌, ◌≤◌, ℕ, zero, suc, [], Option, Some, None}
use Rattle.px_model.specs.Node.Input.{Asks}
use Rattle.px_model.specs.Spelling.{Bytes}
use Rattle.px_records.specs.declared.records.Records.{Ghosts}
use Rattle.px_replica.specs.Calls.{Call}
use Rattle.px_replica.specs.declared.fault.NodeFault.{NodeFault}
use Rattle.px_replica.specs.declared.state.Replica.{Replica}
use Rattle.pf_node.specs.Nodes.{replica_of}
use Rattle.pf_node.specs.declared.state.Node.{Node}
use Rattle.node_loop.specs.Turns.{LoopState, Served}

-- the member is asked to accept a command, whatever it answers
abbrev pub AskedOnce : {R : Type 0} {G : Ghosts R} → (s t : Replica R G) → Type 0
AskedOnce s t = (command : Bytes) × (answered : Option NodeFault) × Call s t (Asks command) [] [] answered

-- n commands are asked of it, one after the other, and nothing else is done
abbrev pub AskedTimes : {R : Type 0} {G : Ghosts R} → (n : ℕ) → (s t : Replica R G) → Type 0
AskedTimes zero s t = t ≡ s
AskedTimes {R} {G} (suc n) s u = (t : Replica R G) × AskedTimes n s t × AskedOnce t u

-- commands are asked of it, as many at most, or none
abbrev pub AsksUpTo : {R : Type 0} {G : Ghosts R} → (most : ℕ) → (s t : Node R G) → Type 0
AsksUpTo most s t = (n : ℕ) × (n ≤ most) × AskedTimes n (replica_of s) (replica_of t)

-- a command is asked of the member, and its wire and its buffers are left alone
pub record AskedAt {R : Type 0} {G : Ghosts R} (x y : LoopState G) : Type 0 where
  pub asked : AskedOnce x.replica y.replica
  pub rest : y ≡ record x { replica = y.replica }

-- turns without a fault, or one command that is asked
abbrev pub Goes : {R : Type 0} {G : Ghosts R} → (x y : LoopState G) → Type 0
Goes x y = Served x y None ⊎ AskedAt x y

-- n of these, one after another
abbrev pub Steps : {R : Type 0} {G : Ghosts R} → (n : ℕ) → (x y : LoopState G) → Type 0
Steps zero x y = y ≡ x
Steps {G = G} (suc n) x z = (y : LoopState G) × Steps n x y × Goes y z

-- nothing more is done, or last turns end with the fault
abbrev pub Stops : {R : Type 0} {G : Ghosts R} → (x y : LoopState G) → (answered : Option NodeFault) → Type 0
Stops x y None = y ≡ x
Stops x y (Some e) = Served x y (Some e)

-- Turns of the node, and commands that are asked of it between them, lead from one to the other, and nothing else; a
-- fault is that of the last turns.
pub record Hosted {R : Type 0} {G : Ghosts R} (x z : LoopState G) (answered : Option NodeFault) : Type 0 where
  pub steps : ℕ
  pub then : LoopState G
  pub made : Steps steps x then
  pub last : Stops then z answered
