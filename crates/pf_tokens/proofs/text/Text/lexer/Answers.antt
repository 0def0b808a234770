use Rattle.std.proofs.Common.{refl}
use Rattle.pf_tokens.specs.Joined.{text_tokens}
use Rattle.pf_tokens.proofs.text.Text.lexer.Goals as goal

pub returns : goal.returns
unfolding text_tokens
returns c = rw (c.joined.ensures, c.deref.ensures.value, c.deref-2.ensures.value) refl
