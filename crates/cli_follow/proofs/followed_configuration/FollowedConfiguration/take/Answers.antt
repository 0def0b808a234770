-- what is left is nothing, so all was taken
use Rattle.std.proofs.Common.{◌≡◌, ◌+◌, ℕ, List, [], length, sym, ap, ◌∙◌, arith}
use Rattle.pf_scripts.specs.Lines.{lines}
use Rattle.cli_follow.specs.Following.{after_lines}
use Rattle.cli_follow.proofs.Following.{followed}
use Rattle.cli_follow.proofs.followed_configuration.FollowedConfiguration.take.Goals as goal

pub returns-clause-follows : goal.returns-clause-follows
returns-clause-follows c =
    let nothing : c.loop-line.left.now ≡ [] = c.in_default.ensures.end in
    let none : length (lines c.loop-line.left.now) ≡ 0 = ap (λ (t : List ℕ). length (lines t)) nothing in
    let sums = c.loop-line.invariant.position in
    let place : c.loop-line.self.position ≡ c.args.self.now.position + length (lines c.args.text.now) =
    omega (arith, none, sums) in
    followed c.args.self.now.config c.loop-line.self.config c.args.self.now.position c.loop-line.self.position
    c.args.text.now place
    (ap (λ (t : List ℕ). after_lines c.loop-line.self.config t) (sym nothing) ∙ c.loop-line.invariant.config)
