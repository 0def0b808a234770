use Rattle.std.proofs.Common.{◌≡◌, ◌+◌, ◌++◌, drop, string_bytes}
use Rattle.pf_tool.specs.Tool.{refusals_in}
use Rattle.pf_tool.specs.inner.Output.{reported}
use Rattle.pf_tool.proofs.reporting.Reporter.refusals_in.Given as goal

-- the messages so far, and those of the marks that are left
abbrev pub invariant-loop-i : goal.invariant-loop-i
invariant-loop-i l = string_bytes l.messages ++ reported l.self (refusals_in (l.i + 1) (drop l.i l.marks)) ≡ reported l.self (refusals_in 1 l.marks)
