use Rattle.std.proofs.Common.{◌≡◌, ◌+◌, ℕ, false, length}
use Rattle.pf_config.specs.Map.{Configuration}
use Rattle.pf_scripts.specs.Lines.{lines}
use Rattle.cli_follow.specs.Following.{after_lines, StopsIn, lines_applied}
use Rattle.cli_follow.specs.Following.{followed_of}
use Rattle.cli_follow.proofs.followed_configuration.FollowedConfiguration.take.Given as goal

-- what was taken so far, with what the lines that are left lead to
abbrev pub invariant-loop-line : goal.invariant-loop-line
invariant-loop-line l = record {
  config : after_lines l.self.config l.left ≡ after_lines l.fn.self.config l.fn.text;
  position : l.self.position + length (lines l.left) ≡ l.fn.self.position + length (lines l.fn.text);
  still : l.self.is_moved ≡ false → l.self.config ≡ l.fn.self.config;
  stops : (c : Configuration) (p : ℕ) → StopsIn l.self.config c l.self.position p (lines l.left) →
      StopsIn l.fn.self.config c l.fn.self.position p (lines l.fn.text);
  lines_applied : lines_applied (followed_of l.self) (lines l.left) ≡ lines_applied (followed_of l.fn.self) (lines l.fn.text);
  before : l.self.is_moved ≡ false → l.fn.self.is_moved ≡ false;
}

abbrev pub decreases-loop-line : goal.decreases-loop-line
decreases-loop-line l = length l.left
