-- What requests do to a node between two of its rounds, and how its run ends.
use Rattle.std.specs.Prelude.{◌≡◌, ◌⊎◌, ◌≤◌, ◌+◌, ◌*◌, ℕ, Bool, true, false, List, ◌∷◌, ◌++◌, None, Result, Ok, Err}
use Rattle.px_records.specs.declared.records.Records.{Ghosts}
use Rattle.px_replica.specs.declared.fault.NodeFault.{NodeFault}
use Rattle.px_replica.specs.declared.fault.NodeFault.TheVariants as fault
use Rattle.pf_node.specs.Nodes.{replica_of}
use Rattle.node_loop.specs.Hosting.{AskedTimes}
use Rattle.px_transport.specs.Wires.{Adds}
use Rattle.node_loop.specs.Timing.{TimerEvent, LooksTimes, looks_in}
use Rattle.node_loop.specs.Turns.{LoopState, Served}
use Rattle.node_loop.specs.declared.ended.Ended.{Ended}
use Rattle.node_loop.specs.declared.ended.Ended.TheVariants.{Front, Stopped, Fault, NoControlSocket, NoPort}
use Rattle.node_control.specs.declared.service.HttpService.{HttpService}

-- commands were asked of the node, and for each of them one fewer may be asked before its next round
pub record AsksWithin {R : Type 0} {G : Ghosts R} (c d : HttpService R G) : Type 0 where
  pub asked : ℕ
  pub fits : asked + d.changes_left ≤ c.changes_left
  pub times : AskedTimes asked (replica_of c.handler.node) (replica_of d.handler.node)

-- turns without a fault, and then commands that were asked, as many at most
abbrev pub AsksAfterTurns : {R : Type 0} {G : Ghosts R} → (most : ℕ) → (x z : LoopState G) → Type 0
AsksAfterTurns {G = G} most x z =
    (y : LoopState G) × Served x y None × (n : ℕ) × (n ≤ most) × AskedTimes n y.replica z.replica

-- where figures alone are served nothing was asked and nothing changed, and no more is served there afterwards
pub record ServesFigures {R : Type 0} {G : Ghosts R} (c d : HttpService R G) : Type 0 where
  pub still : c.is_scraped ≡ true → d.handler ≡ c.handler
  pub scraped : d.is_scraped ≡ c.is_scraped

-- ---- how a run ends

-- rounds were made, one at least for each 65 turns unless an operator asked for the end
abbrev pub MakesRounds : (is_stopped : Bool) → (turns : ℕ) → (before after : List TimerEvent → Type 0) → Type 0
MakesRounds is_stopped turns before after =
    (n : ℕ) × (is_stopped ≡ false → turns ≤ 65 * n) × LooksTimes n before after

-- The same, and then the node accepts no more commands, and rounds are made until none waits to be proposed, or 30 at
-- least.
abbrev pub Finishes : (is_stopped : Bool) → (turns waiting : ℕ) → (before after : List TimerEvent → Type 0) → Type 0
Finishes is_stopped turns waiting before after =
    (rounds : List TimerEvent) × (last : List TimerEvent) × Adds before after (rounds ++ TimerEvent.Ends ∷ last) ×
    (is_stopped ≡ false → turns ≤ 65 * looks_in rounds) × ((waiting ≡ 0) ⊎ (30 ≤ looks_in last))

-- with its turns, as an operator asked, or with a fault
abbrev pub ended_as : (front applied : ℕ) → (is_stopped : Result Bool NodeFault) → Ended
ended_as n k (Ok false) = Front n k
ended_as n k (Ok true) = Stopped n k
ended_as n k (Err e) = Fault e

-- there is no control socket or no port for figures, or it was out of memory for them
abbrev pub IsSocketless : Ended → Type 0
IsSocketless ended = (ended ≡ NoControlSocket) ⊎ ((ended ≡ NoPort) ⊎ (ended ≡ Fault fault.Memory))
