use Rattle.std.proofs.Common.{refl}
use Rattle.pf_tokens.proofs.Table.{looked_up}
use Rattle.pf_tokens.proofs.lexeme.is_word_byte.Goals as goal

-- the number has the answer for each byte
pub returns-then-b-lt128 : goal.returns-then-b-lt128
returns-then-b-lt128 c = looked_up _ c.args.b c.if-b-lt128.true refl
