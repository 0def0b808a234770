-- What a node shows of itself: a member with its record, and the configuration of the first entries that it learned.
use Rattle.std.specs.Prelude.{ℕ, Bool, length}
use Rattle.px_model.specs.Node.{Log}
use Rattle.px_model.specs.World.{NodeState}
use Rattle.px_model.specs.Spelling.{Bytes}
use Rattle.px_records.specs.declared.records.Records.{Ghosts}
use Rattle.px_wire.specs.declared.membership.Membership.{Membership}
use Rattle.px_replica.specs.Replicas as replicas
use Rattle.px_replica.specs.declared.state.Replica.{Replica}
use Rattle.pf_config.specs.Map.{Configuration}
use Rattle.pf_node.specs.declared.state.Node.{Node}

-- the member with its record
abbrev pub replica_of : {R : Type 0} {G : Ghosts R} → Node R G → Replica R G
replica_of n = n.replica

-- its record
abbrev pub records_of : {R : Type 0} {G : Ghosts R} → Node R G → R
records_of n = replicas.records_of n.replica

-- what it learned
abbrev pub learned_by : {R : Type 0} {G : Ghosts R} → Node R G → Log Bytes
learned_by n = replicas.learned_by n.replica

-- the cluster, how many members it has, and which one this is
abbrev pub membership_of : {R : Type 0} {G : Ghosts R} → Node R G → Membership
membership_of n = replicas.membership_of n.replica

-- a call on the record has failed
abbrev pub has_failed : {R : Type 0} {G : Ghosts R} → Node R G → Bool
has_failed n = replicas.has_failed n.replica

-- the member of the world that it is
abbrev pub state_in : {R : Type 0} {G : Ghosts R} → Node R G → NodeState Bytes
state_in n = replicas.state_in n.replica

-- its configuration
abbrev pub config_of : {R : Type 0} {G : Ghosts R} → Node R G → Configuration
config_of n = n.config

-- how many positions are applied
abbrev pub applied_of : {R : Type 0} {G : Ghosts R} → Node R G → ℕ
applied_of n = n.applied

-- of how many of the last positions that are applied it keeps what came of them
abbrev pub kept_of : {R : Type 0} {G : Ghosts R} → Node R G → ℕ
kept_of n = length n.outcomes.kept.items
