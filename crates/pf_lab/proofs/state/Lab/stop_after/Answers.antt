-- what is recorded stays, and the rest is lost
use Rattle.std.proofs.Common.{rules, ◌≡◌, List, Result, Err, sym, subst}
use Rattle.px_replica.specs.Spelled.{AreSpelled}
use Rattle.px_replica.specs.declared.datagram.Datagram.{Datagram}
use Rattle.pf_lab.specs.Coming.{action_of}
use Rattle.pf_lab.specs.declared.event.LabFault.{LabFault}
use Rattle.pf_lab.specs.declared.event.Outcome.{Outcome}
use Rattle.pf_lab.proofs.Following.{stays_after}
use Rattle.pf_lab.proofs.Outcomes.{down_after, up_after, err_reported, none_reported}
use Rattle.pf_lab.proofs.Taking.{lent, none_lent, came_as, inside, is_up_at, stays_at, held, nobody_at, stops_at, same_at}
use Rattle.pf_lab.proofs.state.Lab.stop_after.Goals as goal

pub returns-in_err-host-clause-reported : goal.returns-in_err-host-clause-reported
returns-in_err-host-clause-reported c g w world =
    let hosts = c.args.self.now.hosts.items in
    let sent = c.args.self.now.sent.items in
    let a = action_of c.args.action.now in
    let m = c.in_ok-m.m in
    let kept : c.as_slice.result.now ≡ sent = c.as_slice.ensures.value in
    let spelled = subst (λ (ds : List Datagram). AreSpelled g w.sent ds) (sym kept) world.is_spelled in
    let came = came_as g w a c.what_comes.result m c.in_ok-m.what (search rules) (c.what_comes.ensures.came g w spelled) in
    let over = none_lent hosts m c.get_mut.result (search rules) c.get_mut.ensures.item in
    none_reported c.from_residual-in_err-host.result _ _ (search rules) (nobody_at hosts g m w a c.in_ok-m.what sent world came over)

pub returns-then-not-host-clause-happens : goal.returns-then-not-host-clause-happens
returns-then-not-host-clause-happens c g w world =
    let hosts = c.args.self.now.hosts.items in
    let sent = c.args.self.now.sent.items in
    let a = action_of c.args.action.now in
    let m = c.in_ok-m.m in
    let kept : c.as_slice.result.now ≡ sent = c.as_slice.ensures.value in
    let spelled = subst (λ (ds : List Datagram). AreSpelled g w.sent ds) (sym kept) world.is_spelled in
    let came = came_as g w a c.what_comes.result m c.in_ok-m.what (search rules) (c.what_comes.ensures.came g w spelled) in
    let y = c.in_ok-host.host.now in
    let at = lent hosts m c.in_ok-host.host c.get_mut.result (search rules) c.get_mut.ensures.item in
    let down = is_up_at hosts g m w y sent _ world at c.if-not-host.true in
    stays_at hosts g m w _ y sent world at (stays_after g.members m w a came.input came.comes down)

pub returns-then-not-host-clause-reported : goal.returns-then-not-host-clause-reported
returns-then-not-host-clause-reported c g w world =
    let hosts = c.args.self.now.hosts.items in
    let sent = c.args.self.now.sent.items in
    let a = action_of c.args.action.now in
    let m = c.in_ok-m.m in
    let kept : c.as_slice.result.now ≡ sent = c.as_slice.ensures.value in
    let spelled = subst (λ (ds : List Datagram). AreSpelled g w.sent ds) (sym kept) world.is_spelled in
    let came = came_as g w a c.what_comes.result m c.in_ok-m.what (search rules) (c.what_comes.ensures.came g w spelled) in
    let y = c.in_ok-host.host.now in
    let at = lent hosts m c.in_ok-host.host c.get_mut.result (search rules) c.get_mut.ensures.item in
    let down = is_up_at hosts g m w y sent _ world at c.if-not-host.true in
    down_after g.members m w a came.input came.comes (inside hosts g m w y sent world at) down

pub returns-in_err-_outcome-clause-reported : goal.returns-in_err-_outcome-clause-reported
returns-in_err-_outcome-clause-reported c g w world =
    err_reported c.from_residual-in_err-_outcome.result _ _ (search (rules, c.in_err-_outcome.ensures.memory))

pub returns-in_err-_outcome-clause-stays : goal.returns-in_err-_outcome-clause-stays
returns-in_err-_outcome-clause-stays c g w world =
    let hosts = c.args.self.now.hosts.items in
    let sent = c.args.self.now.sent.items in
    let m = c.in_ok-m.m in
    let y = c.in_ok-host.host.now in
    let at = lent hosts m c.in_ok-host.host c.get_mut.result (search rules) c.get_mut.ensures.item in
    let r : Result Outcome LabFault = Err c.in_err-_outcome.field-0.0 in
    held c.from_residual-in_err-_outcome.result
    (same_at r hosts g m w y c.take.new.self sent world at c.if-not-host.false c.take.ensures.up c.take.ensures.group c.in_err-_outcome.ensures.stays)

pub returns-clause-happens : goal.returns-clause-happens
returns-clause-happens c g w world =
    let hosts = c.args.self.now.hosts.items in
    let sent = c.args.self.now.sent.items in
    let a = action_of c.args.action.now in
    let m = c.in_ok-m.m in
    let kept : c.as_slice.result.now ≡ sent = c.as_slice.ensures.value in
    let spelled = subst (λ (ds : List Datagram). AreSpelled g w.sent ds) (sym kept) world.is_spelled in
    let came = came_as g w a c.what_comes.result m c.in_ok-m.what (search rules) (c.what_comes.ensures.came g w spelled) in
    let y = c.in_ok-host.host.now in
    let at = lent hosts m c.in_ok-host.host c.get_mut.result (search rules) c.get_mut.ensures.item in
    stops_at hosts g m w a c.in_ok-m.what y c.take.new.self c.empty.new.self sent c.take.new.out.items world at c.if-not-host.false
    c.take.ensures.up c.take.ensures.group c.empty.ensures.group c.empty.ensures.state came c.in_ok-_outcome.ensures.went

pub returns-clause-reported : goal.returns-clause-reported
returns-clause-reported c g w world =
    let hosts = c.args.self.now.hosts.items in
    let sent = c.args.self.now.sent.items in
    let a = action_of c.args.action.now in
    let m = c.in_ok-m.m in
    let kept : c.as_slice.result.now ≡ sent = c.as_slice.ensures.value in
    let spelled = subst (λ (ds : List Datagram). AreSpelled g w.sent ds) (sym kept) world.is_spelled in
    let came = came_as g w a c.what_comes.result m c.in_ok-m.what (search rules) (c.what_comes.ensures.came g w spelled) in
    let y = c.in_ok-host.host.now in
    let at = lent hosts m c.in_ok-host.host c.get_mut.result (search rules) c.get_mut.ensures.item in
    let up = is_up_at hosts g m w y sent _ world at c.if-not-host.false in
    up_after g.members m w a came.input came.comes (inside hosts g m w y sent world at) up
