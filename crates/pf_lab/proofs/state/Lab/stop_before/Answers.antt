-- a member that runs is emptied; one that is stopped stays
use Rattle.std.proofs.Common.{rules, ◌≡◌, List, sym, subst}
use Rattle.std.proofs.Math.ListN.{set}
use Rattle.px_model.specs.World.{World}
use Rattle.px_model.specs.Spelling.{Bytes}
use Rattle.px_replica.specs.Spelled.{AreSpelled}
use Rattle.px_replica.specs.declared.datagram.Datagram.{Datagram}
use Rattle.pf_lab.specs.Coming.{action_of}
use Rattle.pf_lab.specs.Labs.{HostsAre, state_of, group_of}
use Rattle.pf_lab.proofs.Following.{stays_before, stops_before, lab_emptied}
use Rattle.pf_lab.proofs.Outcomes.{down_before, up_before, none_reported}
use Rattle.pf_lab.proofs.Taking.{lent, none_lent, came_as, inside, is_up_at, stays_at, nobody_at}
use Rattle.pf_lab.proofs.state.Lab.stop_before.Goals as goal

pub returns-in_err-host-clause-reported : goal.returns-in_err-host-clause-reported
returns-in_err-host-clause-reported c g w world =
    let hosts = c.args.self.now.hosts.items in
    let sent = c.args.self.now.sent.items in
    let a = action_of c.args.action.now in
    let m = c.in_ok-m.m in
    let kept : c.as_slice.result.now ≡ sent = c.as_slice.ensures.value in
    let spelled = subst (λ (ds : List Datagram). AreSpelled g w.sent ds) (sym kept) world.is_spelled in
    let came = came_as g w a c.what_comes.result m c.in_ok-m.field-0-1 (search rules) (c.what_comes.ensures.came g w spelled) in
    let over = none_lent hosts m c.get_mut.result (search rules) c.get_mut.ensures.item in
    none_reported c.from_residual-in_err-host.result _ _ (search rules) (nobody_at hosts g m w a c.in_ok-m.field-0-1 sent world came over)

pub returns-then-not-host-clause-happens : goal.returns-then-not-host-clause-happens
returns-then-not-host-clause-happens c g w world =
    let hosts = c.args.self.now.hosts.items in
    let sent = c.args.self.now.sent.items in
    let a = action_of c.args.action.now in
    let m = c.in_ok-m.m in
    let kept : c.as_slice.result.now ≡ sent = c.as_slice.ensures.value in
    let spelled = subst (λ (ds : List Datagram). AreSpelled g w.sent ds) (sym kept) world.is_spelled in
    let came = came_as g w a c.what_comes.result m c.in_ok-m.field-0-1 (search rules) (c.what_comes.ensures.came g w spelled) in
    let y = c.in_ok-host.host.now in
    let at = lent hosts m c.in_ok-host.host c.get_mut.result (search rules) c.get_mut.ensures.item in
    let down = is_up_at hosts g m w y sent _ world at c.if-not-host.true in
    stays_at hosts g m w _ y sent world at (stays_before g.members m w a came.input came.comes down)

pub returns-then-not-host-clause-reported : goal.returns-then-not-host-clause-reported
returns-then-not-host-clause-reported c g w world =
    let hosts = c.args.self.now.hosts.items in
    let sent = c.args.self.now.sent.items in
    let a = action_of c.args.action.now in
    let m = c.in_ok-m.m in
    let kept : c.as_slice.result.now ≡ sent = c.as_slice.ensures.value in
    let spelled = subst (λ (ds : List Datagram). AreSpelled g w.sent ds) (sym kept) world.is_spelled in
    let came = came_as g w a c.what_comes.result m c.in_ok-m.field-0-1 (search rules) (c.what_comes.ensures.came g w spelled) in
    let y = c.in_ok-host.host.now in
    let at = lent hosts m c.in_ok-host.host c.get_mut.result (search rules) c.get_mut.ensures.item in
    let down = is_up_at hosts g m w y sent _ world at c.if-not-host.true in
    down_before g.members m w a came.input came.comes (inside hosts g m w y sent world at) down

pub returns-clause-happens : goal.returns-clause-happens
returns-clause-happens c g w world =
    let hosts = c.args.self.now.hosts.items in
    let sent = c.args.self.now.sent.items in
    let a = action_of c.args.action.now in
    let m = c.in_ok-m.m in
    let kept : c.as_slice.result.now ≡ sent = c.as_slice.ensures.value in
    let spelled = subst (λ (ds : List Datagram). AreSpelled g w.sent ds) (sym kept) world.is_spelled in
    let came = came_as g w a c.what_comes.result m c.in_ok-m.field-0-1 (search rules) (c.what_comes.ensures.came g w spelled) in
    let y = c.in_ok-host.host.now in
    let at = lent hosts m c.in_ok-host.host c.get_mut.result (search rules) c.get_mut.ensures.item in
    let up = is_up_at hosts g m w y sent _ world at c.if-not-host.false in
    subst (λ (z : World Bytes). HostsAre (set hosts m c.empty.new.self) g sent z) (sym (stops_before g.members m w a came.input came.comes (inside hosts g m w y sent world at) up))
    (lab_emptied hosts state_of group_of g m w y c.empty.new.self _ sent world at c.empty.ensures.state c.empty.ensures.group)

pub returns-clause-reported : goal.returns-clause-reported
returns-clause-reported c g w world =
    let hosts = c.args.self.now.hosts.items in
    let sent = c.args.self.now.sent.items in
    let a = action_of c.args.action.now in
    let m = c.in_ok-m.m in
    let kept : c.as_slice.result.now ≡ sent = c.as_slice.ensures.value in
    let spelled = subst (λ (ds : List Datagram). AreSpelled g w.sent ds) (sym kept) world.is_spelled in
    let came = came_as g w a c.what_comes.result m c.in_ok-m.field-0-1 (search rules) (c.what_comes.ensures.came g w spelled) in
    let y = c.in_ok-host.host.now in
    let at = lent hosts m c.in_ok-host.host c.get_mut.result (search rules) c.get_mut.ensures.item in
    let up = is_up_at hosts g m w y sent _ world at c.if-not-host.false in
    up_before g.members m w a came.input came.comes (inside hosts g m w y sent world at) up
