use Rattle.std.proofs.Common.{arith}
use Rattle.std.proofs.lemmas.Grind.{common_steps}
use Rattle.nft_text.specs.Texts.{match_text}
use Rattle.nft_text.proofs.labels.Whole.push_match.Goals as goal

pub returns-in-WithFlags : goal.returns-in-WithFlags
unfolding match_text
returns-in-WithFlags c = rw (c.in-WithFlags.is) (grind (arith, common_steps))
