-- the member is empty in the lab and in the world
use Rattle.std.proofs.Common.{rules, sym, subst}
use Rattle.std.proofs.Math.ListN.{set}
use Rattle.px_model.specs.World.{World}
use Rattle.px_model.specs.Spelling.{Bytes}
use Rattle.pf_lab.specs.Labs.{HostsAre, state_of, group_of}
use Rattle.pf_lab.proofs.Outcomes.{restart_reported, none_reported}
use Rattle.pf_lab.proofs.Following.{restarts, lab_emptied}
use Rattle.pf_lab.proofs.Taking.{lent, none_lent, inside, past_at}
use Rattle.pf_lab.proofs.state.Lab.restart.Goals as goal

pub returns-in_err-host-clause-reported : goal.returns-in_err-host-clause-reported
returns-in_err-host-clause-reported c g w world =
    let hosts = c.args.self.now.hosts.items in
    let over = none_lent hosts c.args.m c.get_mut.result (search rules) c.get_mut.ensures.item in
    none_reported c.from_residual.result _ _ (search rules) (past_at hosts g c.args.m w c.args.self.now.sent.items world over)

pub returns-clause-happens : goal.returns-clause-happens
returns-clause-happens c g w world =
    let hosts = c.args.self.now.hosts.items in
    let sent = c.args.self.now.sent.items in
    let y = c.in_ok-host.host.now in
    let at = lent hosts c.args.m c.in_ok-host.host c.get_mut.result (search rules) c.get_mut.ensures.item in
    subst (λ (z : World Bytes). HostsAre (set hosts c.args.m c.empty.new.self) g sent z) (sym (restarts g.members c.args.m w (inside hosts g c.args.m w y sent world at)))
    (lab_emptied hosts state_of group_of g c.args.m w y c.empty.new.self _ sent world at c.empty.ensures.state c.empty.ensures.group)

pub returns-clause-reported : goal.returns-clause-reported
returns-clause-reported c g w world =
    let hosts = c.args.self.now.hosts.items in
    let sent = c.args.self.now.sent.items in
    let y = c.in_ok-host.host.now in
    let at = lent hosts c.args.m c.in_ok-host.host c.get_mut.result (search rules) c.get_mut.ensures.item in
    restart_reported g.members c.args.m w (inside hosts g c.args.m w y sent world at)
