-- What is seen of the other members' progress. The timer is given the time, the node's state, and this; so a
-- datagram that is nobody's changes nothing of it.
use Rattle.std.specs.Prelude.{◌≡◌, ◌⊎◌, ℕ, zero, suc, ◌+◌, ◌-◌, ◌==◌, ◌&&◌, true, false, nat_le, nat_lt}
use Rattle.std.specs.Prelude.{List, Option, Some, None, min, max, replicate, slice_get, slice_set, if◌then◌else◌}
use Rattle.px_model.specs.Spelling.{Bytes}
use Rattle.px_records.specs.declared.records.Records.{Ghosts}
use Rattle.px_wire.specs.Message.{Message, group, DatagramBytes}
use Rattle.px_wire.specs.Heads.{head_of, learned_below}
use Rattle.px_wire.specs.declared.head.Head.{Head}
use Rattle.px_wire.specs.declared.kind.Kind.{Kind}
use Rattle.px_wire.specs.declared.kind.Kind.TheVariants as kinds
use Rattle.px_replica.specs.Replicas.{membership_of, IsUnspelled}
use Rattle.px_replica.specs.declared.state.Replica.{Replica}
use Rattle.node_loop.specs.Turns.{LoopState, IsHeard, Took, Passed, Same}
use Rattle.node_loop.specs.declared.turn_buffers.TurnBuffers.{TurnBuffers}
use Rattle.node_loop.specs.declared.counts.RoundCounts.{RoundCounts}
use Rattle.node_loop.specs.declared.peer_progress.PeerProgress.{PeerProgress}

-- a datagram spells no message for this member: it is of another cluster or list of members, for another member, or no
-- message at all
abbrev pub IsNobodys : {R : Type 0} {G : Ghosts R} → Replica R G → Bytes → Type 0
IsNobodys s bytes = IsUnspelled (group (membership_of s)) (membership_of s).me bytes

-- a datagram spells this message of that sender for this member
abbrev pub IsFrom : {R : Type 0} {G : Ghosts R} → Replica R G → ℕ → Message → Bytes → Type 0
IsFrom s from message bytes = DatagramBytes (group (membership_of s)) from (membership_of s).me message bytes

-- what was seen so far
abbrev pub seen_in : TurnBuffers → PeerProgress
seen_in buffers = buffers.peer_progress

-- the heads of the messages that were taken last
abbrev pub heads_in : TurnBuffers → List Head
heads_in buffers = buffers.heads.items

-- what went over the wire in the last round
abbrev pub counts_in : TurnBuffers → RoundCounts
counts_in buffers = buffers.counts

-- the position from which on a member is to be sent what it lacks, where it lacks any below the front
abbrev pub lacked_at : (front : ℕ) → Option ℕ → Option ℕ
lacked_at front None = None
lacked_at front (Some next) = if nat_lt 0 next && nat_le next front then Some (next - 1) else None

abbrev pub lacked : (member front : ℕ) → PeerProgress → Option ℕ
lacked member front s = lacked_at front (slice_get s.lacking member)

-- ---- what a message shows of its sender

-- it has learned all below this position
abbrev pub reaching : (position : ℕ) → PeerProgress → PeerProgress
reaching p s = record {
  reached = max s.reached p;
  has_learned = s.has_learned;
  accepting = s.accepting;
  lacking = s.lacking;
}

-- it lacks the positions from one less than this on
abbrev pub lacking : (from next : ℕ) → PeerProgress → PeerProgress
lacking from next s = record {
  reached = s.reached;
  has_learned = s.has_learned;
  accepting = s.accepting;
  lacking = slice_set s.lacking from next;
}

-- an entry came that this member had asked for
abbrev pub with_learned : PeerProgress → PeerProgress
with_learned s = record { reached = s.reached; has_learned = true; accepting = s.accepting; lacking = s.lacking }

-- an accept request came for the position before this one
abbrev pub accepting : (next : ℕ) → PeerProgress → PeerProgress
accepting next s = record {
  reached = s.reached;
  has_learned = s.has_learned;
  accepting = max s.accepting next;
  lacking = s.lacking;
}

-- what a message about this position shows beside how far its sender is, in 32 bits: a member that asks for promises
-- lacks the position, and a member that needs its entry is answered with that and lacks the next one; an accept request
-- counts where another member sent it
abbrev pub noted_by : Kind → (from to position : ℕ) → PeerProgress → PeerProgress
noted_by kinds.Prepare from to p s = lacking from (min (p + 1) 4294967295) s
noted_by kinds.PrepareAll from to p s = lacking from (min (p + 1) 4294967295) s
noted_by kinds.Need from to p s = lacking from (min (p + 2) 4294967295) s
noted_by kinds.Accept from to p s = if from == to then s else accepting (min (p + 1) 4294967295) s
noted_by kinds.Learned from to p s = with_learned s
noted_by kinds.Vote from to p s = s
noted_by kinds.Promise from to p s = s
noted_by kinds.PromiseAll from to p s = s
noted_by kinds.Nack from to p s = s
noted_by kinds.Ask from to p s = s
noted_by kinds.Asked from to p s = s
noted_by kinds.AskRefused from to p s = s

-- the same of a message with this head
abbrev pub noted : Head → (position : ℕ) → PeerProgress → PeerProgress
noted h p s = noted_by h.kind h.from h.to p s

-- the same, if it is about a position
abbrev pub noted_if : Head → (position : Option ℕ) → PeerProgress → PeerProgress
noted_if h None s = s
noted_if h (Some p) s = noted h p s

-- what is seen once a message with this head has come: how far its sender is, and what it shows besides
abbrev pub shown_by : Head → PeerProgress → PeerProgress
shown_by h s = noted_if h h.position (reaching (learned_below h) s)

-- what was seen, once it was looked at: how far others are stays
abbrev pub looked : PeerProgress → PeerProgress
looked s = record { reached = s.reached; has_learned = false; accepting = 0; lacking = replicate 15 0 }

-- ---- what is seen as datagrams are taken

-- A datagram was taken. Where it is nobody's, the member is as it was, and nothing more is seen; else what its message
-- shows.
pub record Saw {R : Type 0} {G : Ghosts R} (x y : LoopState G) (s t : PeerProgress) : Type 0 where
  pub took : Took x y None
  pub still : IsNobodys x.replica took.bytes → y.replica ≡ x.replica
  pub unseen : IsNobodys x.replica took.bytes → t ≡ s
  pub shown : (from : ℕ) (message : Message) → IsFrom x.replica from message took.bytes →
      t ≡ shown_by (head_of from (membership_of x.replica).me message) s
  pub members : IsHeard x (Some took.bytes)

-- a datagram was taken, or passed over, of which nothing is seen
abbrev pub SawOne : {R : Type 0} {G : Ghosts R} → (x y : LoopState G) → (s t : PeerProgress) → Type 0
SawOne x y s t = Saw x y s t ⊎ (Passed x y × (t ≡ s))

-- n datagrams were taken or passed over, one after the other
abbrev pub SawAll : {R : Type 0} {G : Ghosts R} → (datagrams : ℕ) → (x y : LoopState G) → (s t : PeerProgress) → Type 0
SawAll zero x y s t = Same x y × (t ≡ s)
SawAll {G = G} (suc n) x z s u = (y : LoopState G) × (t : PeerProgress) × SawAll n x y s t × SawOne y z t u
