-- What was counted of what went over the wire in a round.
use Rattle.std.specs.Prelude.{◌≡◌, ◌⊎◌, ℕ, zero, suc, Bool, true, false, Option, None, length}
use Rattle.px_records.specs.declared.records.Records.{Ghosts}
use Rattle.px_replica.specs.Replicas.{membership_of}
use Rattle.px_replica.specs.declared.fault.NodeFault.{NodeFault}
use Rattle.px_wire.specs.Message.{group}
use Rattle.node_loop.specs.Counts.{PassedOver, all_out, but_unsent, nothing_of, one_in}
use Rattle.node_loop.specs.Turns.{LoopState, Took, Passed, Resent, Ticked, Same}
use Rattle.node_loop.specs.declared.counts.RoundCounts.{RoundCounts}

-- a datagram was taken: it is counted, and so is what the node sent for it
pub record CountsTook {R : Type 0} {G : Ghosts R} (x y : LoopState G) (c d : RoundCounts) : Type 0 where
  pub took : Took x y None
  pub counts : but_unsent d ≡ all_out took.out (but_unsent (one_in (length took.bytes) c))

-- a datagram that is known was passed over: it is counted, but not what was sent again for it
pub record CountsPassed {R : Type 0} {G : Ghosts R} (x y : LoopState G) (c d : RoundCounts) : Type 0 where
  pub passed : Passed x y
  pub counts : PassedOver (group (membership_of x.replica)) (membership_of x.replica).me x.hears_asks x.requests
      passed.bytes (one_in (length passed.bytes) c) d

abbrev pub CountsOne : {R : Type 0} {G : Ghosts R} → (x y : LoopState G) → (c d : RoundCounts) → Type 0
CountsOne x y c d = CountsTook x y c d ⊎ CountsPassed x y c d

-- n datagrams were taken or passed over, one after the other
abbrev pub CountsAll : {R : Type 0} {G : Ghosts R} → (datagrams : ℕ) → (x y : LoopState G) → (c d : RoundCounts) →
    Type 0
CountsAll zero x y c d = Same x y × (d ≡ c)
CountsAll {G = G} (suc n) x z c e =
    (y : LoopState G) × (d : RoundCounts) × CountsAll n x y c d × CountsOne y z d e

-- the clock ticked: what the node sent then is counted
pub record CountsTicked {R : Type 0} {G : Ghosts R} (x y : LoopState G) (answered : Option NodeFault)
    (c d : RoundCounts) : Type 0 where
  pub ticked : Ticked x y answered
  pub counts : but_unsent d ≡ all_out ticked.out (but_unsent c)

-- the clock ticked if that was due
abbrev pub CountsTickedIf : {R : Type 0} {G : Ghosts R} → Bool → (x y : LoopState G) → (c d : RoundCounts) → Type 0
CountsTickedIf true x y c d = CountsTicked x y None c d
CountsTickedIf false x y c d = Same x y × (d ≡ c)

-- A round of this member: datagrams were taken or passed over; then some of what is kept was sent again, which isn't
-- counted; and then the clock ticked if that was due.
pub record CountsRound {R : Type 0} {G : Ghosts R} (me : ℕ) (x z : LoopState G) (d : RoundCounts) : Type 0 where
  pub datagrams : ℕ
  pub then : LoopState G
  pub counted : RoundCounts
  pub came : CountsAll datagrams x then (nothing_of me) counted
  pub next : LoopState G
  pub again : Resent then next
  pub is_due : Bool
  pub sent : CountsTickedIf is_due next z counted d
