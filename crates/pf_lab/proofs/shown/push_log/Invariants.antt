use Rattle.std.proofs.Common.{◌≡◌, ◌++◌, string_bytes}
use Rattle.pf_node.specs.Nodes.{learned_by}
use Rattle.pf_lab.specs.Shown.{log_lines}
use Rattle.pf_lab.proofs.shown.push_log.Given as goal

-- what the positions so far print
abbrev pub invariant-loop-position : goal.invariant-loop-position
invariant-loop-position l = string_bytes l.out ≡ string_bytes l.fn.out ++ log_lines (learned_by l.node) l.position
