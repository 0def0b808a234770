-- what arrives at a member that runs happens in the world; nothing arrives at one that is stopped
use Rattle.std.proofs.Common.{rules, ◌≡◌, ◌++◌, List, Result, Ok, Err, sym, subst}
use Rattle.std.proofs.Math.ListN.{set}
use Rattle.px_model.specs.World.{happens}
use Rattle.px_model.specs.World.Event.{Runs}
use Rattle.px_replica.specs.Made.{same}
use Rattle.px_replica.specs.Spelled.{AreSpelled, for_members}
use Rattle.px_replica.specs.declared.datagram.Datagram.{Datagram}
use Rattle.pf_lab.specs.Coming.{action_of}
use Rattle.pf_lab.specs.Labs.{HostsAre}
use Rattle.pf_lab.specs.declared.event.LabFault.{LabFault}
use Rattle.pf_lab.specs.declared.event.Outcome.{Outcome}
use Rattle.pf_lab.proofs.Following.{stopped}
use Rattle.pf_lab.proofs.Outcomes.{down_reported, takes_at, err_reported, none_reported}
use Rattle.pf_lab.proofs.Taking.{lent, none_lent, came_as, inside, is_up_at, stays_at, held, nobody_at, runs_at, same_at}
use Rattle.pf_lab.proofs.state.Lab.run.Goals as goal

pub returns-in_err-host-clause-reported : goal.returns-in_err-host-clause-reported
returns-in_err-host-clause-reported c g w world =
    let hosts = c.args.self.now.hosts.items in
    let sent = c.args.self.now.sent.items in
    let a = action_of c.args.action.now in
    let m = c.in_ok-m.m in
    let kept : c.as_slice.result.now ≡ sent = search (rules, c.as_slice.ensures.value, c.reserve.ensures.items) in
    let spelled = subst (λ (ds : List Datagram). AreSpelled g w.sent ds) (sym kept) world.is_spelled in
    let came = came_as g w a c.what_comes.result m c.in_ok-m.what (search rules) (c.what_comes.ensures.came g w spelled) in
    let over = none_lent hosts m c.get_mut.result (search rules) c.get_mut.ensures.item in
    none_reported c.from_residual-in_err-host.result _ _ (search rules) (nobody_at hosts g m w a c.in_ok-m.what sent world came over)

pub returns-then-not-host-clause-happens : goal.returns-then-not-host-clause-happens
returns-then-not-host-clause-happens c g w world =
    let hosts = c.args.self.now.hosts.items in
    let sent = c.args.self.now.sent.items in
    let a = action_of c.args.action.now in
    let m = c.in_ok-m.m in
    let kept : c.as_slice.result.now ≡ sent = search (rules, c.as_slice.ensures.value, c.reserve.ensures.items) in
    let spelled = subst (λ (ds : List Datagram). AreSpelled g w.sent ds) (sym kept) world.is_spelled in
    let came = came_as g w a c.what_comes.result m c.in_ok-m.what (search rules) (c.what_comes.ensures.came g w spelled) in
    let y = c.in_ok-host.host.now in
    let at = lent hosts m c.in_ok-host.host c.get_mut.result (search rules) c.get_mut.ensures.item in
    let down = is_up_at hosts g m w y sent _ world at c.if-not-host.true in
    let still : c.reserve.new.self.items ≡ sent = search (rules, c.reserve.ensures.items) in
    subst (λ (ds : List Datagram). HostsAre (set hosts m y) g ds (happens same g.members w (Runs a))) (sym still)
    (stays_at hosts g m w _ y sent world at (stopped g.members m w a came.input came.comes down))

pub returns-then-not-host-clause-reported : goal.returns-then-not-host-clause-reported
returns-then-not-host-clause-reported c g w world =
    let hosts = c.args.self.now.hosts.items in
    let sent = c.args.self.now.sent.items in
    let a = action_of c.args.action.now in
    let m = c.in_ok-m.m in
    let kept : c.as_slice.result.now ≡ sent = search (rules, c.as_slice.ensures.value, c.reserve.ensures.items) in
    let spelled = subst (λ (ds : List Datagram). AreSpelled g w.sent ds) (sym kept) world.is_spelled in
    let came = came_as g w a c.what_comes.result m c.in_ok-m.what (search rules) (c.what_comes.ensures.came g w spelled) in
    let y = c.in_ok-host.host.now in
    let at = lent hosts m c.in_ok-host.host c.get_mut.result (search rules) c.get_mut.ensures.item in
    let down = is_up_at hosts g m w y sent _ world at c.if-not-host.true in
    down_reported g.members m w a came.input came.comes (inside hosts g m w y sent world at) down

pub returns-in_err-outcome-clause-reported : goal.returns-in_err-outcome-clause-reported
returns-in_err-outcome-clause-reported c g w world =
    err_reported c.from_residual-in_err-outcome.result _ _ (search (rules, c.in_err-outcome.ensures.memory))

pub returns-in_err-outcome-clause-stays : goal.returns-in_err-outcome-clause-stays
returns-in_err-outcome-clause-stays c g w world =
    let hosts = c.args.self.now.hosts.items in
    let sent = c.args.self.now.sent.items in
    let m = c.in_ok-m.m in
    let y = c.in_ok-host.host.now in
    let at = lent hosts m c.in_ok-host.host c.get_mut.result (search rules) c.get_mut.ensures.item in
    let still : c.reserve.new.self.items ≡ sent = search (rules, c.reserve.ensures.items) in
    let r : Result Outcome LabFault = Err c.in_err-outcome.field-0.0 in
    held c.from_residual-in_err-outcome.result
    (subst (λ (ds : List Datagram). HostsAre (set hosts m c.take.new.self) g ds w) (sym still)
    (same_at r hosts g m w y c.take.new.self sent world at c.if-not-host.false c.take.ensures.up c.take.ensures.group c.in_err-outcome.ensures.stays))

pub returns-clause-happens : goal.returns-clause-happens
returns-clause-happens c g w world =
    let hosts = c.args.self.now.hosts.items in
    let sent = c.args.self.now.sent.items in
    let a = action_of c.args.action.now in
    let m = c.in_ok-m.m in
    let kept : c.as_slice.result.now ≡ sent = search (rules, c.as_slice.ensures.value, c.reserve.ensures.items) in
    let spelled = subst (λ (ds : List Datagram). AreSpelled g w.sent ds) (sym kept) world.is_spelled in
    let came = came_as g w a c.what_comes.result m c.in_ok-m.what (search rules) (c.what_comes.ensures.came g w spelled) in
    let y = c.in_ok-host.host.now in
    let at = lent hosts m c.in_ok-host.host c.get_mut.result (search rules) c.get_mut.ensures.item in
    let r : Result Outcome LabFault = Ok c.in_ok-outcome.outcome in
    let joined : c.send_on.new.sent.items ≡ sent ++ for_members c.take.new.out.items = search (rules, c.send_on.ensures, c.reserve.ensures.items) in
    subst (λ (ds : List Datagram). HostsAre (set hosts m c.take.new.self) g ds (happens same g.members w (Runs a))) (sym joined)
    (runs_at r hosts g m w a c.in_ok-m.what y c.take.new.self sent c.take.new.out.items world at c.if-not-host.false c.take.ensures.up c.take.ensures.group came c.in_ok-outcome.ensures.went)

pub returns-clause-reported : goal.returns-clause-reported
returns-clause-reported c g w world =
    let hosts = c.args.self.now.hosts.items in
    let sent = c.args.self.now.sent.items in
    let a = action_of c.args.action.now in
    let m = c.in_ok-m.m in
    let kept : c.as_slice.result.now ≡ sent = search (rules, c.as_slice.ensures.value, c.reserve.ensures.items) in
    let spelled = subst (λ (ds : List Datagram). AreSpelled g w.sent ds) (sym kept) world.is_spelled in
    let came = came_as g w a c.what_comes.result m c.in_ok-m.what (search rules) (c.what_comes.ensures.came g w spelled) in
    let y = c.in_ok-host.host.now in
    let at = lent hosts m c.in_ok-host.host c.get_mut.result (search rules) c.get_mut.ensures.item in
    let r : Result Outcome LabFault = Ok c.in_ok-outcome.outcome in
    takes_at r hosts g m w a c.in_ok-m.what y sent world at c.if-not-host.false came tt c.in_ok-outcome.ensures.reported
