use Rattle.std.proofs.Common.{◌≡◌, ◌∙◌, ◌<◌, sym, arith, rules, true, option_map, ap, length, List, ℕ}
use Rattle.pf_tokens.specs.declared.lexeme.Lexeme.{Lexeme}
use Rattle.pf_tokens.specs.Left.{tokens_left}
use Rattle.pf_tokens.proofs.Lexing.{step_is, front_within}
use Rattle.pf_tokens.proofs.lexer.Lexer.step.Goals as goal

some_left : (old new : List ℕ) → 0 < length old → new ≡ old → 0 < length new
some_left old new some e = omega (arith, some, ap (λ (bytes : List ℕ). length bytes) e)

pub split_at-requires : goal.split_at-requires
split_at-requires c =
    let here = c.pass_steps.new.self in
    (front_within here.rest.now c.front-len.result.0 c.front-len.result.1 (some_left _ _ c.requires c.pass_steps.ensures.rest) c.front-len.ensures).1

pub returns-clause-left : goal.returns-clause-left
unfolding tokens_left
returns-clause-left c =
    let here = c.pass_steps.new.self in
    let made : c.map.result ≡ option_map (λ (l : Lexeme). record { lexeme = l; line = here.line; written = true }) c.front-len.result.0 = search rules in
    let step = step_is here.line c.line_after-next.result here.at c.front-len.result.1 here.steps.now here.rest.now c.front-len.result.0 (some_left _ _ c.requires c.pass_steps.ensures.rest) c.pass_steps.ensures.passed c.front-len.ensures c.line_after-next.ensures in
    sym c.pass_steps.ensures.left ∙ rw (made, c.split_at.ensures.back) step

pub returns-clause-shorter : goal.returns-clause-shorter
returns-clause-shorter c =
    let here = c.pass_steps.new.self in
    let within = front_within here.rest.now c.front-len.result.0 c.front-len.result.1 (some_left _ _ c.requires c.pass_steps.ensures.rest) c.front-len.ensures in
    omega (arith, within.0, within.1, c.split_at.ensures.back_len, ap (λ (bytes : List ℕ). length bytes) c.pass_steps.ensures.rest)
