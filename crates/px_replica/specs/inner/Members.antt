-- What only code and proofs use beside `Members`.
use Rattle.std.specs.Prelude.{option_map}
use Rattle.px_model.specs.Node as node
use Rattle.px_model.specs.Spelling.{Bytes}
use Rattle.px_model.specs.Seen.{change_of}
use Rattle.px_wire.specs.Sent.{is_command}
use Rattle.px_core.specs.declared.plan.Plan.{Plan}
use Rattle.px_core.specs.Seen.{sends_of}
use Rattle.px_core.specs.Planning.{state_of, volatile_after, planned, IsFor}
use Rattle.px_core.specs.Fitting.{PlanFits}
use Rattle.px_replica.specs.declared.member.Member.{Member}

-- the plan of the definitions that the member's plan is
abbrev pub planned_by : Member → Plan → node.Plan Bytes
planned_by m plan = record {
  change = option_map change_of plan.change;
  volatile = volatile_after m.core plan;
  sends = sends_of m.group.members m.group.me plan.sends;
}

-- The plan is one of the member as it is, and what it keeps when it has settled can be spelled.
pub record IsReady (plan : Plan) (m : Member) : Type 0 where
  pub is_for : IsFor plan m.core
  pub fits : PlanFits is_command (state_of m.core) (planned m.core plan)
