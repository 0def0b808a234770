-- what is kept is what the test keeps
use Rattle.std.proofs.Common.{rules, ◌≡◌}
use Rattle.std.proofs.lemmas.Fn.{filter_same}
use Rattle.px_replica.specs.Spelled.{for_members}
use Rattle.pf_lab.proofs.lab_events.send_on.Goals as goal

pub returns : goal.returns
returns c =
    let kept : c.retain.new.self.items ≡ for_members c.args.out.now.items = filter_same _ _ _ (λ x b f' k. search rules) _ _ c.retain.ensures.filtered in
    search (rules, kept)
