use Rattle.std.proofs.Common.{◌≡◌, ◌+◌, drop, map, string_bytes}
use Rattle.pf_tool.specs.Tool.{verdict_lines}
use Rattle.pf_tool.specs.declared.output.Ending.TheVariants.{Done}
use Rattle.pf_tool.specs.inner.Output.{after, rendered}
use Rattle.pf_tool.proofs.reporting.Reporter.verdict_lines.Given as goal

-- the lines so far, and those of the packets that are left
abbrev pub invariant-loop-i : goal.invariant-loop-i
invariant-loop-i l = (after (string_bytes l.all.text) (string_bytes l.all.messages) (rendered l.self (verdict_lines l.config (l.i + 1) (map (λ p. p.now) (drop l.i l.packets)))) ≡ rendered l.self (verdict_lines l.config 1 (map (λ p. p.now) l.packets))) × (l.all.ending ≡ Done)
