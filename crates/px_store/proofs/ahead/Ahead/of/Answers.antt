use Rattle.std.proofs.Common.{◌≡◌, List, rules, sym, subst, true}
use Rattle.sqlite_value.specs.Order.{Row}
use Rattle.px_store.specs.inner.Ahead.{rises, IsAhead}
use Rattle.px_store.proofs.Turns.{held}
use Rattle.px_store.proofs.ahead.Ahead.of.Goals as goal

pub returns-then-not-are_rising : goal.returns-then-not-are_rising
returns-then-not-are_rising c = λ table same. c.none.ensures table

pub returns : goal.returns
returns c = λ table same.
    let up = subst (λ (rows : List Row). rises c.args.first rows ≡ true) c.as_slice.ensures.value (c.are_rising.ensures (search rules)) in
    subst (IsAhead c.args.first c.args.end table) (sym c.from_vec.ensures.items) (held c.args.first c.args.end table c.args.rows.items up same)
