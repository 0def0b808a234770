use Rattle.std.proofs.Common.{ap, ◌∙◌, List, map, rules}
use Rattle.std.proofs.lemmas.Fn.{filter_same}
use Rattle.px_model.specs.Entries.{entry_of}
use Rattle.px_model.specs.declared.entry.Entry.{Entry}
use Rattle.px_core.proofs.Waiting.{without_filter}
use Rattle.px_core.proofs.state.Proposer.let_go.Goals as goal

pub returns-then-is_some_and-clause-waiting : goal.returns-then-is_some_and-clause-waiting
returns-then-is_some_and-clause-waiting c =
    ap (λ (l : List Entry). map entry_of l) (filter_same _ _ _ (λ x b f' k. search rules) _ _ c.retain.ensures.filtered)
    ∙ without_filter (entry_of c.args.entry.now) c.args.self.now.waiting.items

pub returns-else-is_some_and-clause-waiting : goal.returns-else-is_some_and-clause-waiting
returns-else-is_some_and-clause-waiting c =
    ap (λ (l : List Entry). map entry_of l) (filter_same _ _ _ (λ x b f' k. search rules) _ _ c.retain.ensures.filtered)
    ∙ without_filter (entry_of c.args.entry.now) c.args.self.now.waiting.items
