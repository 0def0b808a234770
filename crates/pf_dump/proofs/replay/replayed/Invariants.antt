use Rattle.std.proofs.Common.{◌≡◌, None, length, option_map}
use Rattle.pf_command.specs.Effect.{empty}
use Rattle.pf_scripts.specs.Lines.{lines}
use Rattle.pf_scripts.specs.inner.Seen.{waiting_of}
use Rattle.pf_dump.specs.Scripts.{after_lines}
use Rattle.pf_dump.specs.Done.{lines_done}
use Rattle.pf_dump.proofs.replay.replayed.Given as goal

-- the lines that are left lead from here to where all of them lead
abbrev pub invariant-loop-line : goal.invariant-loop-line
invariant-loop-line l = record {
  after : after_lines l.config (option_map waiting_of l.waiting) (lines l.left) ≡ after_lines empty None (lines l.script);
  done : lines_done l.config (option_map waiting_of l.waiting) (lines l.left) ≡ lines_done empty None (lines l.script);
}

abbrev pub decreases-loop-line : goal.decreases-loop-line
decreases-loop-line l = length l.left
