-- what was read of the record refuses it
use Rattle.std.proofs.Common.{ℕ, subst, sym, ap, ◌≡◌}
use Rattle.px_wire.specs.declared.membership.Membership.{Membership}
use Rattle.px_replica.specs.Calls.{HasBadEntry}
use Rattle.px_replica.specs.Members.{group_of}
use Rattle.px_replica.specs.Seen.{IsSound}
use Rattle.px_replica.proofs.Called.{open_refused}
use Rattle.px_replica.proofs.state.Replica.open.Goals as goal

pub returns-in-Err-read_kept-clause-refused : goal.returns-in-Err-read_kept-clause-refused
returns-in-Err-read_kept-clause-refused g c =
    let e = c.in-Err-read_kept.ensures in
    let n : (group_of c.in-Ok.member).members ≡ c.args.m.members = ap (λ (m : Membership). m.members) c.in-Ok.ensures.group in
    open_refused g.R.Records c.args.m.members c.args.records c.read_kept.new.records c.in-Err-read_kept.fault c.store_fault.result
    c.store_fault.ensures.value e.read e.counts
    (λ honest h. subst (λ (k : ℕ). HasBadEntry g.R.Records c.args.records k) n (e.bad honest h))
    (λ honest sound h. e.why honest (subst (λ (k : ℕ). IsSound k (g.R.Records.stored c.args.records)) (sym n) sound) h)
    e.same
