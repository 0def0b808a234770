use Rattle.std.proofs.Common.{◌≡◌, ◌≤◌, nat_eq}
use Rattle.px_model.specs.Step.{count, keep}
use Rattle.px_core.specs.Cells.{kept_in}
use Rattle.px_core.proofs.votes.Votes.would_agree.Given as goal

abbrev pub invariant-loop-member : goal.invariant-loop-member
invariant-loop-member l = record {
  counted : l.votes ≡ count l.member (λ m. nat_eq (keep (kept_in l.self.front l.self.cells.items) l.position l.voter l.ballot l.position m) l.ballot);
  few : l.votes ≤ l.member;
}
