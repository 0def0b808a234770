-- an empty record can be told
use Rattle.std.proofs.Common.{ap}
use Rattle.px_wire.specs.declared.membership.Membership.{Membership}
use Rattle.pf_node.specs.Nodes.{state_in, membership_of}
use Rattle.pf_lab.proofs.Taking.{begun_sound}
use Rattle.pf_lab.proofs.lab_events.host.Goals as goal

pub invariant_of-result : goal.invariant_of-result
invariant_of-result c =
    let n = c.in-Ok.node in
    record {
      works = c.in-Ok.ensures.works;
      sound = begun_sound c.in-Some.group.members (membership_of n).members (state_in n) _ (ap (λ (m : Membership). m.members) c.in-Ok.ensures.membership) (c.in-Ok.ensures.state tt) c.new-records.ensures.empty;
    }
