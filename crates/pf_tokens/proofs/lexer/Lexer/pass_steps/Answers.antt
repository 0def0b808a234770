use Rattle.std.proofs.Common.{◌≡◌, ◌∙◌, ◌+◌, sym, ap, List, ℕ}
use Rattle.pf_tokens.specs.Left.{tokens_left}
use Rattle.pf_tokens.specs.Tokens.{tokens_behind}
use Rattle.pf_tokens.specs.Joined.{letters_at}
use Rattle.pf_tokens.proofs.Joining.{step_passed}
use Rattle.pf_tokens.proofs.lexer.Lexer.pass_steps.Goals as goal

pub loop-first-preserved : goal.loop-first-preserved
unfolding tokens_left
loop-first-preserved c =
    let here = c.loop-first.self in
    let step : letters_at here.line here.at here.steps.now here.rest.now ≡ letters_at (here.line + 1) here.at c.in-Some.others.now here.rest.now =
    ap (λ (steps : List ℕ). letters_at here.line here.at steps here.rest.now) c.in-Some.ensures.cases.0 ∙ step_passed here.line here.at c.in-Some.first.now c.in-Some.others.now here.rest.now c.if-first-self.false in
    record {
      left = sym (ap (tokens_behind 0) step) ∙ c.loop-first.invariant.left;
      rest = c.loop-first.invariant.rest;
    }
