-- what is learned is the record's, before and after
use Rattle.std.proofs.Common.{◌∙◌, sym, refl}
use Rattle.std.proofs.lemmas.Bool.{false_from_ne_true}
use Rattle.px_wire.specs.Message.{group}
use Rattle.px_replica.specs.Replicas.{membership_of, state_in, has_failed}
use Rattle.px_replica.proofs.Heard.{tick_learned}
use Rattle.px_replica.proofs.state.Replica.tick.Goals as goal

pub returns-in-Ok-clause-log : goal.returns-in-Ok-clause-log
returns-in-Ok-clause-log g c honest =
    let m = membership_of c.args.self.now in
    let call = c.in-Ok.ensures.call in
    let same = tick_learned (group m) m.me (state_in c.args.self.now) (state_in c.step.new.self) c.args.out.now.items c.step.new.out.items (call.made honest refl) in
    let works = false_from_ne_true (has_failed c.step.new.self) (λ e. (call.fails c.if-self.false).0 e) in
    sym (c.step.new.self.agrees works honest) ∙ same ∙ c.args.self.now.agrees c.if-self.false (call.was honest)
