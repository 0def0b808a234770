use Rattle.std.proofs.Common.{◌≡◌, drop}
use Rattle.nft_text.specs.Texts.{are_short}
use Rattle.nft_text.proofs.rule_lines.are_short.Given as goal

abbrev pub invariant-loop-name : goal.invariant-loop-name
invariant-loop-name l = are_short l.left (drop l.name-index l.path) ≡ are_short l.fn.room l.fn.path
