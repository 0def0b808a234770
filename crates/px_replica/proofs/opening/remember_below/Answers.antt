-- a row that is bad there was bad before
use Rattle.std.proofs.Common.{◌<◌, subst, rules}
use Rattle.px_wire.specs.declared.membership.Membership.{Membership}
use Rattle.px_replica.specs.Calls.{IsBadEntry}
use Rattle.px_replica.specs.Members.{group_of}
use Rattle.px_replica.proofs.BadRows.{bad_at_before}
use Rattle.px_replica.proofs.opening.remember_below.Goals as goal

pub returns-in_err-remember_at-clause-bad : goal.returns-in_err-remember_at-clause-bad
returns-in_err-remember_at-clause-bad g c honest e =
    let l = c.loop-position in
    let lt : l.position < c.args.end = search rules in
    bad_at_before g.R.Records c.args.records.now l.records (group_of c.args.member.now).members
    (c.remember_at.ensures.read.was honest) l.invariant.works l.invariant.read l.position c.args.end lt
    (subst (λ (m : Membership). IsBadEntry g.R.Records l.records m.members l.position) l.invariant.group
    (c.remember_at.ensures.bad honest (search (rules, e, c.in_err-remember_at, c.from_residual.ensures))))
