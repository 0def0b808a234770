use Rattle.std.proofs.Common.{◌≡◌, map}
use Rattle.pf_expansion.specs.Expansion.{rule_with}
use Rattle.pf_statements.specs.Seen.{text_of}
use Rattle.pf_expansion.proofs.rules.rules_with.Given as goal

-- a rule of each that was passed
abbrev pub invariant-loop-conditions : goal.invariant-loop-conditions
invariant-loop-conditions l = l.rules.items ≡ map (rule_with l.policy (text_of l.text)) l.yielded
