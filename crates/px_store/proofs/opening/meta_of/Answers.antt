use Rattle.std.proofs.Common.{refl}
use Rattle.sqlite.specs.Held.{state}
use Rattle.px_store.specs.inner.Judging.{rows_in}
use Rattle.px_store.proofs.Adopts.{meta_shown}
use Rattle.px_store.proofs.opening.meta_of.Goals as goal

pub returns-in-Ok-clause-rows : goal.returns-in-Ok-clause-rows
returns-in-Ok-clause-rows g c = λ clean began.
    let id = c.args.identity in
    meta_shown id.cluster id.members id.node c.in-Ok.numbers.round c.in-Ok.numbers.number ((state g.S.Store c.args.conn.now).now.trees 0) (rows_in c.in_ok-rows.rows) (c.in_ok-rows.ensures.rows clean began) (rw c.rows_in.ensures at c.in-Ok.ensures.value)

pub returns-in-Ok-clause-still : goal.returns-in-Ok-clause-still
returns-in-Ok-clause-still g c = λ clean began. c.in_ok-rows.ensures.still clean began refl
