use Rattle.std.proofs.Common.{◌≤◌, ◌<◌, ℕ, sym, ap, subst, ◌∙◌}
use Rattle.px_model.specs.Node as node
use Rattle.px_model.specs.Step.{front}
use Rattle.px_model.specs.Spelling.{Bytes}
use Rattle.px_core.specs.Planning.{state_of}
use Rattle.px_core.specs.Seen.{log_in}
use Rattle.px_core.proofs.Front.{learning_below, learning_rises}
use Rattle.px_core.proofs.state.Core.settle.Goals as goal

pub returns-clause-front : goal.returns-clause-front
unfolding state_of
returns-clause-front c =
    subst (λ (log : node.Log Bytes). front (log_in c.args.self.now) ≤ front log) (sym c.take_over.ensures.learned) (learning_rises c.args.plan.next (log_in c.args.self.now))

pub returns-clause-below : goal.returns-clause-below
unfolding state_of
returns-clause-below c p less =
    ap (λ (log : node.Log Bytes). log p) c.take_over.ensures.learned
    ∙ learning_below c.args.plan.next c.args.self.now c.requires.room p (subst (λ (k : ℕ). p < k) c.args.self.now.learner.front_is less)
