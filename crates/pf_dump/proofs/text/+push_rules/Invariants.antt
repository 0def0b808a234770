use Rattle.std.proofs.Common.{◌≡◌, ◌≤◌, ◌++◌, ◌-◌, ◌+◌, map, take, drop, true, string_bytes}
use Rattle.pf_rules.specs.Seen.{rule_of}
use Rattle.pf_dump.specs.Written.{rules_behind, rules_text}
use Rattle.pf_dump.proofs.text.+push_rules.Given as goal

abbrev pub decreases-push_rules : goal.decreases-push_rules
decreases-push_rules l = l.depth

-- the rules so far are written, and those that are left come behind them
abbrev pub invariant-loop-at : goal.invariant-loop-at
invariant-loop-at l = record {
  text : string_bytes l.out ++ rules_behind (rules_text (l.depth - 1) true l.config) l.config l.path l.is_hidden (map rule_of (take l.at l.items)) l.number (map rule_of (drop l.at l.items))
      ≡ string_bytes l.fn.out ++ rules_text l.depth l.is_hidden l.config l.path;
  few : l.number ≤ l.at + 1;
}
