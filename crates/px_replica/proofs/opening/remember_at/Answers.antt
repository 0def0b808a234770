-- the entry that was read is the bad row
use Rattle.std.proofs.Common.{ℕ, subst, ap, ◌∙◌}
use Rattle.px_replica.specs.Calls.{IsBadEntry}
use Rattle.px_wire.specs.declared.membership.Membership.{Membership}
use Rattle.px_replica.proofs.Steps.{bad_row}
use Rattle.px_replica.proofs.opening.remember_at.Goals as goal

pub returns-in-Err-clause-bad : goal.returns-in-Err-clause-bad
returns-in-Err-clause-bad g c honest e =
    subst (λ (n : ℕ). IsBadEntry g.R.Records c.args.records.now n c.args.position)
    (c.members.ensures ∙ ap (λ (m : Membership). m.members) c.group.ensures.group)
    (c.in-Err.ensures.bad honest (bad_row c.in-Err.fault e))
