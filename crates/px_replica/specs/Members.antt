-- What a member with its group stands for: the volatile part, what it learned, and its plans.
use Rattle.px_model.specs.Node.{Volatile, Log}
use Rattle.px_model.specs.Spelling.{Bytes}
use Rattle.px_wire.specs.declared.membership.Membership.{Membership}
use Rattle.px_core.specs.Planning.{state_of}
use Rattle.px_replica.specs.declared.member.Member.{Member}

-- the volatile part of the member
abbrev pub volatile_of : Member → Volatile Bytes
volatile_of m = (state_of m.core).volatile

-- what the member has learned
abbrev pub log_of : Member → Log Bytes
log_of m = (state_of m.core).learned

-- its cluster, how many members that has, and which of them it is
abbrev pub group_of : Member → Membership
group_of m = m.group
