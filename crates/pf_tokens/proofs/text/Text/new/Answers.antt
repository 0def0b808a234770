use Rattle.std.proofs.Common.{◌∙◌, ap, sym}
use Rattle.pf_tokens.specs.Joined.{text_tokens}
use Rattle.pf_tokens.specs.Tokens.{tokens_behind}
use Rattle.pf_tokens.proofs.Joining.{letters_given, letters_joined}
use Rattle.pf_tokens.proofs.text.Text.new.Goals as goal

pub returns-then-not-is_continued : goal.returns-then-not-is_continued
unfolding text_tokens
returns-then-not-is_continued c = rw c.new-steps.ensures.items (ap (tokens_behind 0) (letters_given 1 0 c.args.text.now (sym c.is_continued.ensures ∙ c.if-not-is_continued.true)))

pub returns : goal.returns
unfolding text_tokens
returns c = rw (c.in_ok-bytes.ensures.0, c.in_ok-bytes.ensures.1) (ap (tokens_behind 0) (letters_joined 1 0 c.args.text.now))
