use Rattle.std.proofs.Common.{Some, sym, ap, ◌∙◌}
use Rattle.pf_rules.specs.Items.{values_of}
use Rattle.pf_rules.specs.Seen.{items_of}
use Rattle.pf_expansion.specs.Blocks.{Path}
use Rattle.pf_expansion.specs.inner.Numbers.{walk}
use Rattle.pf_expansion.proofs.Stepping.{is_none_from}
use Rattle.pf_expansion.proofs.Looking.{not_carried, carried_itself, carried_within}
use Rattle.pf_expansion.proofs.block_paths.+values.Goals as goal

pub is_carried-returns-in_default : goal.is_carried-returns-in_default
is_carried-returns-in_default t c =
    not_carried c.args.numbers.now.steps c.args.set.now c.args.from c.args.heading.now.target.names.items (values_of (items_of c.args.items.now)) (ap (λ (names : Path). walk c.args.numbers.now.steps (Some c.args.from) names) (sym c.deref.ensures.value) ∙ sym c.in_ok-at.ensures ∙ is_none_from c.in_ok-at.field-0 c.in_default.not-Some)

pub is_carried-returns-then-contains : goal.is_carried-returns-then-contains
is_carried-returns-then-contains t c =
    carried_itself c.args.numbers.now.steps c.args.set.now c.args.from c.in-Some.at c.args.heading.now.target.names.items (values_of (items_of c.args.items.now)) (ap (λ (names : Path). walk c.args.numbers.now.steps (Some c.args.from) names) (sym c.deref.ensures.value) ∙ sym c.in_ok-at.ensures ∙ c.in-Some.is) (sym c.if-contains.ensures)

pub is_carried-returns : goal.is_carried-returns
is_carried-returns t c =
    carried_within c.args.numbers.now.steps c.args.set.now c.args.from c.in-Some.at c.args.heading.now.target.names.items (values_of (items_of c.args.items.now)) c.in_ok-found.found (ap (λ (names : Path). walk c.args.numbers.now.steps (Some c.args.from) names) (sym c.deref.ensures.value) ∙ sym c.in_ok-at.ensures ∙ c.in-Some.is) (sym c.if-contains.ensures) c.in_ok-found.ensures
