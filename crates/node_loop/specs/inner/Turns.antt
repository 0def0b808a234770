-- What only code and proofs use beside `Turns`.
use Rattle.std.specs.Prelude.{◌≡◌, Bool, true, false}
use Rattle.px_records.specs.declared.records.Records.{Ghosts}
use Rattle.node_loop.specs.Counting.{CountsOne}
use Rattle.node_loop.specs.Progress.{SawOne}
use Rattle.node_loop.specs.Turns.{LoopState, Same}
use Rattle.node_loop.specs.declared.counts.RoundCounts.{RoundCounts}
use Rattle.node_loop.specs.declared.peer_progress.PeerProgress.{PeerProgress}

-- a datagram was taken or passed over, or none had come
abbrev pub SawIf : {R : Type 0} {G : Ghosts R} → Bool → (x y : LoopState G) → (s t : PeerProgress) → Type 0
SawIf true x y s t = SawOne x y s t
SawIf false x y s t = Same x y × (t ≡ s)

-- what was counted of it
abbrev pub CountsIf : {R : Type 0} {G : Ghosts R} → Bool → (x y : LoopState G) → (c d : RoundCounts) → Type 0
CountsIf true x y c d = CountsOne x y c d
CountsIf false x y c d = Same x y × (d ≡ c)
