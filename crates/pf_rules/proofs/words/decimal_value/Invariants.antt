use Rattle.std.proofs.Common.{◌≡◌, ◌<◌, ◌^◌, take}
use Rattle.pf_rules.specs.Words.{decimal_value}
use Rattle.pf_rules.proofs.words.decimal_value.Given as goal

-- the number of the digits so far
abbrev pub invariant-loop-digit : goal.invariant-loop-digit
invariant-loop-digit l = (l.value ≡ decimal_value (take l.digit-index l.text)) × (l.value < 10 ^ l.digit-index)
