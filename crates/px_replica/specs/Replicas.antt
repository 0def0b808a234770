-- What a replica stands for.
use Rattle.std.specs.Prelude.{ℕ, Bool}
use Rattle.px_model.specs.Node.{Log}
use Rattle.px_model.specs.World.{NodeState}
use Rattle.px_model.specs.Spelling.{Bytes}
use Rattle.px_records.specs.declared.records.Records.{Ghosts}
use Rattle.px_wire.specs.declared.membership.Membership.{Membership}
use Rattle.px_wire.specs.Message as datagrams
use Rattle.px_wire.specs.Message.{Group, DatagramBytes}
use Rattle.px_replica.specs.Made.{running}
use Rattle.px_replica.specs.Members.{volatile_of, log_of, group_of}
use Rattle.px_replica.specs.declared.state.Replica.{Replica}
use Rattle.px_replica.specs.declared.receiving.Received.{Received}
use Rattle.px_replica.specs.declared.receiving.Received.TheVariants as received

-- its record
abbrev pub records_of : {R : Type 0} {G : Ghosts R} → Replica R G → R
records_of r = r.records

-- what it learned
abbrev pub learned_by : {R : Type 0} {G : Ghosts R} → Replica R G → Log Bytes
learned_by r = log_of r.member

-- the cluster, how many members it has, and which one this is
abbrev pub membership_of : {R : Type 0} {G : Ghosts R} → Replica R G → Membership
membership_of r = group_of r.member

-- a call on the record has failed
abbrev pub has_failed : {R : Type 0} {G : Ghosts R} → Replica R G → Bool
has_failed r = r.is_failed

-- the member of the world that it is
abbrev pub state_in : {R : Type 0} {G : Ghosts R} → Replica R G → NodeState Bytes
state_in {R} {G} r = running (G.stored r.records) (volatile_of r.member)

-- ---- datagrams

-- nobody's message to this member
abbrev pub IsUnspelled : Group → (me : ℕ) → Bytes → Type 0
IsUnspelled g me bytes = (from : ℕ) (x : datagrams.Message) → DatagramBytes g from me x bytes → ⊥

-- what holds for a datagram that was done, and for one that was ignored
abbrev pub MatchReceived : Received → (done ignored : Type 0) → Type 0
MatchReceived received.Done done ignored = done
MatchReceived (received.Ignored fault) done ignored = ignored
