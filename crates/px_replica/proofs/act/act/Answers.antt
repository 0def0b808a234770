-- what was read makes the member's answer; what was committed, settled and spelled is the plan's
use Rattle.std.proofs.Common.{rules, ◌≡◌, ◌∙◌, sym, ap, subst, inl, inr, Err}
use Rattle.std.specs.Prelude.{IfSome}
use Rattle.px_model.specs.Node.{Record}
use Rattle.px_model.specs.Step.{commit}
use Rattle.px_model.specs.Spelling.{Bytes}
use Rattle.px_model.specs.Seen.{input_of}
use Rattle.px_model.specs.declared.message.Reads.{Reads}
use Rattle.px_core.specs.Seen.{sends_of}
use Rattle.px_records.specs.Records as records
use Rattle.px_wire.specs.Message.{group}
use Rattle.px_wire.specs.declared.membership.Membership.{Membership}
use Rattle.px_replica.specs.Made.{running}
use Rattle.px_replica.specs.Members.{volatile_of, group_of}
use Rattle.px_replica.specs.inner.Members.{planned_by}
use Rattle.px_replica.specs.Seen.{IsSound}
use Rattle.px_replica.specs.inner.Seen.{IsSeen}
use Rattle.px_replica.specs.Spelled.{AreSpelled}
use Rattle.px_replica.proofs.Sending.{few_handed_out}
use Rattle.px_replica.proofs.Steps.{none_failed, plan_rises, commit_sound, why_failed}
use Rattle.px_replica.proofs.act.act.Goals as goal

pub commit_change-requires-clause-rises : goal.commit_change-requires-clause-rises
commit_change-requires-clause-rises g c honest =
    let m = c.args.member.now in
    let d = g.R.Records.stored c.args.records.now in
    let stays = c.look.ensures.read.stays honest (none_failed (g.R.Records.failed c.look.new.records) c.in-Ok.seen c.in-Ok.ensures.counts) in
    let seen = subst (λ (r : Reads). IsSeen d r c.in-Ok.seen) c.reads.ensures (c.in-Ok.ensures.ok honest) in
    let steps = c.in-Ok-plan.ensures.answer d (c.requires.agrees (c.look.ensures.read.was honest)) seen in
    let plan = planned_by c.plan.new.self c.in-Ok-plan.plan in
    let rises = plan_rises (group_of m).members (group_of m).me (running d (volatile_of m)) (input_of c.args.event.now) plan steps in
    subst (λ (r : Record Bytes). IfSome plan.change (λ x. records.Rises x r)) (sym stays) rises

pub returns-in-Err-commit_change-clause-stop : goal.returns-in-Err-commit_change-clause-stop
returns-in-Err-commit_change-clause-stop g c honest left h =
    let d = g.R.Records.stored c.args.records.now in
    let was = c.commit_change.ensures.was honest in
    let stays = c.look.ensures.read.stays was (none_failed (g.R.Records.failed c.look.new.records) c.in-Ok.seen c.in-Ok.ensures.counts) in
    let seen = subst (λ (r : Reads). IsSeen d r c.in-Ok.seen) c.reads.ensures (c.in-Ok.ensures.ok was) in
    let steps = c.in-Ok-plan.ensures.answer d (c.requires.agrees (c.look.ensures.read.was was)) seen in
    let plan = planned_by c.plan.new.self c.in-Ok-plan.plan in
    elim (c.commit_change.ensures.stop honest left h) [
      | inl k ↦ inl (g.met.R.Records.settled c.args.records.now (c.look.ensures.read.was was) c.requires.works left (c.look.ensures.read.leaves was left k))
      | inr q ↦ inr (plan, steps, q ∙ ap (commit plan.change) stays)
    ]

pub returns-in-Err-commit_change-clause-why : goal.returns-in-Err-commit_change-clause-why
returns-in-Err-commit_change-clause-why g c honest sound fault =
    why_failed c.in-Err-commit_change.fault c.store_fault-in-Err-commit_change.result c.store_fault-in-Err-commit_change.ensures.value
    (λ e. c.commit_change.ensures.why (c.in-Err-commit_change.is ∙ ap Err e))
    (λ e. c.commit_change.ensures.bad (c.in-Err-commit_change.is ∙ ap Err e))
    fault

pub returns-clause-made : goal.returns-clause-made
returns-clause-made g c honest =
    let m = c.args.member.now in
    let d = g.R.Records.stored c.args.records.now in
    let was = c.commit_change.ensures.was honest in
    let stays = c.look.ensures.read.stays was (none_failed (g.R.Records.failed c.look.new.records) c.in-Ok.seen c.in-Ok.ensures.counts) in
    let seen = subst (λ (r : Reads). IsSeen d r c.in-Ok.seen) c.reads.ensures (c.in-Ok.ensures.ok was) in
    let steps = c.in-Ok-plan.ensures.answer d (c.requires.agrees (c.look.ensures.read.was was)) seen in
    let plan = planned_by c.plan.new.self c.in-Ok-plan.plan in
    let recorded : g.R.Records.stored c.commit_change.new.records ≡ commit plan.change d = c.in_default.ensures.ok honest ∙ ap (commit plan.change) stays in
    let sends = c.in-Ok-plan.plan.sends in
    let ours = subst (λ (z : Membership). AreSpelled (group z) (sends_of z.members z.me sends) c.in-Ok-spelled.staged.items) c.group-m.ensures.group c.in-Ok-spelled.ensures in
    record {
      plan = plan;
      steps = steps;
      follows = ap (λ (r : Record Bytes). running r (volatile_of c.settle-sends.new.self)) recorded ∙ ap (running (commit plan.change d)) c.settle-sends.ensures.volatile;
      added = c.in-Ok-spelled.staged.items;
      handed = search (rules, c.hand_out.ensures, c.reserve.ensures.items);
      spelled = subst (λ (z : Membership). AreSpelled (group (group_of m)) (sends_of z.members z.me sends) c.in-Ok-spelled.staged.items) (sym c.plan.ensures.group) ours;
    }

pub returns-clause-stop : goal.returns-clause-stop
returns-clause-stop g c honest left h =
    let d = g.R.Records.stored c.args.records.now in
    let was = c.commit_change.ensures.was honest in
    let stays = c.look.ensures.read.stays was (none_failed (g.R.Records.failed c.look.new.records) c.in-Ok.seen c.in-Ok.ensures.counts) in
    let seen = subst (λ (r : Reads). IsSeen d r c.in-Ok.seen) c.reads.ensures (c.in-Ok.ensures.ok was) in
    let steps = c.in-Ok-plan.ensures.answer d (c.requires.agrees (c.look.ensures.read.was was)) seen in
    let plan = planned_by c.plan.new.self c.in-Ok-plan.plan in
    elim (c.commit_change.ensures.stop honest left h) [
      | inl k ↦ inl (g.met.R.Records.settled c.args.records.now (c.look.ensures.read.was was) c.requires.works left (c.look.ensures.read.leaves was left k))
      | inr q ↦ inr (plan, steps, q ∙ ap (commit plan.change) stays)
    ]

pub returns-clause-sound : goal.returns-clause-sound
returns-clause-sound g c honest sound =
    let m = c.args.member.now in
    let d = g.R.Records.stored c.args.records.now in
    let was = c.commit_change.ensures.was honest in
    let stays = c.look.ensures.read.stays was (none_failed (g.R.Records.failed c.look.new.records) c.in-Ok.seen c.in-Ok.ensures.counts) in
    let seen = subst (λ (r : Reads). IsSeen d r c.in-Ok.seen) c.reads.ensures (c.in-Ok.ensures.ok was) in
    let steps = c.in-Ok-plan.ensures.answer d (c.requires.agrees (c.look.ensures.read.was was)) seen in
    let plan = planned_by c.plan.new.self c.in-Ok-plan.plan in
    let rises = plan_rises (group_of m).members (group_of m).me (running d (volatile_of m)) (input_of c.args.event.now) plan steps in
    let kept = commit_sound (group_of m).members d plan.change sound c.in-Ok-plan.ensures.change rises in
    subst (λ (r : Record Bytes). IsSound (group_of m).members r) (sym (c.in_default.ensures.ok honest ∙ ap (commit plan.change) stays)) kept

pub returns-clause-few : goal.returns-clause-few
returns-clause-few g c =
    let z = c.group-m.result in
    few_handed_out (group z) z.members z.me c.in-Ok-plan.plan.sends c.in-Ok-spelled.staged.items c.args.out.now.items c.hand_out.new.out.items c.group-m.ensures.few c.in-Ok-spelled.ensures (search (rules, c.hand_out.ensures, c.reserve.ensures.items))
