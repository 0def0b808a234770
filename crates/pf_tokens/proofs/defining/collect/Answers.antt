use Rattle.std.proofs.Common.{◌≡◌, ◌∙◌, ◌<◌, ap, List, length, arith}
use Rattle.pf_tokens.specs.Lexed.{token_of}
use Rattle.pf_tokens.specs.Macros.{Definition}
use Rattle.pf_tokens.specs.Defining.{item_of}
use Rattle.pf_tokens.specs.inner.Defining.{len_with}
use Rattle.pf_tokens.specs.Parsing.{definitions, left}
use Rattle.pf_tokens.proofs.Collecting.{too_long_there}
use Rattle.pf_tokens.proofs.defining.collect.Goals as goal

pub returns-then-len_with-gt-TEXT_MAX-clause-items : goal.returns-then-len_with-gt-TEXT_MAX-clause-items
returns-then-len_with-gt-TEXT_MAX-clause-items c =
    let kept = c.loop-lexeme.invariant in
    let item = c.in-Some-item.item.now in
    let counted : c.len.result ≡ length c.loop-lexeme.text.items = omega (arith, c.len.ensures, c.loop-lexeme.text.ok.0) in
    let over : 4096 < len_with c.loop-lexeme.some (length c.loop-lexeme.text.items) (length item) = omega (arith, c.if-len_with-gt-TEXT_MAX.true, c.len_with.ensures, ap (λ n. len_with c.loop-lexeme.some n (length item)) counted) in
    too_long_there (definitions c.args.parser.now) c.loop-lexeme.some c.loop-lexeme.text.items item (left c.loop-lexeme.parser) (token_of c.in-Some.lexeme) _ _ kept.text c.in-Some.ensures
    (c.in-Some-item.ensures ∙ ap (λ (ds : List Definition). item_of ds (token_of c.in-Some.lexeme)) kept.macros) kept.empty over
