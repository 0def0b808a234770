use Rattle.px_core.proofs.Kept.{kept_none}
use Rattle.px_core.proofs.votes.Votes.forget.Goals as goal

pub returns-clause-kept : goal.returns-clause-kept
returns-clause-kept c =
    let v = c.args.self.now in
    kept_none v.front _ c.fill.new.self.items (c.fill.ensures.items (λ y is. is))
