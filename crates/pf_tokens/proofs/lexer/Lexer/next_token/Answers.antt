use Rattle.std.proofs.Common.{◌≡◌, ◌∙◌, ap, sym, drop, [], eqb-true}
use Rattle.std.proofs.lemmas.List.{nil_from_length}
use Rattle.pf_tokens.specs.Left.{tokens_left}
use Rattle.pf_tokens.specs.Tokens.{first, tokens_behind}
use Rattle.pf_tokens.specs.Joined.{letters_at}
use Rattle.pf_tokens.proofs.lexer.Lexer.next_token.Goals as goal
use Rattle.pf_tokens.proofs.lexer.Lexer.next_token.Goals.{After-loop-self}

-- nothing is left in the end
ended : (c : After-loop-self) → tokens_left c.args.self.now ≡ []
unfolding tokens_left
ended c =
    let none = nil_from_length c.loop-self.self.rest.now (eqb-true _ _ (sym c.is_empty.ensures ∙ c.loop-self-test.false)) in
    sym c.loop-self.invariant ∙ ap (λ bytes. tokens_behind 0 (letters_at c.loop-self.self.line c.loop-self.self.at c.loop-self.self.steps.now bytes)) none

pub returns-clause-token : goal.returns-clause-token
returns-clause-token c = sym (ap first (ended c))

pub returns-clause-left : goal.returns-clause-left
returns-clause-left c = c.loop-self.invariant ∙ ended c ∙ sym (ap (drop 1) (ended c))
