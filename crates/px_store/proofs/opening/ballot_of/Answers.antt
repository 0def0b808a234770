use Rattle.std.proofs.Common.{refl}
use Rattle.sqlite.specs.Held.{state}
use Rattle.px_store.specs.inner.Judging.{rows_in}
use Rattle.px_store.proofs.Adopts.{floor_shown}
use Rattle.px_store.proofs.opening.ballot_of.Goals as goal

pub returns-in-Ok-clause-rows : goal.returns-in-Ok-clause-rows
returns-in-Ok-clause-rows g c = λ clean began.
    floor_shown c.in-Ok.ballot ((state g.S.Store c.args.conn.now).now.trees 2) (rows_in c.in_ok-rows.rows) (c.in_ok-rows.ensures.rows clean began) (rw c.rows_in.ensures at c.in-Ok.ensures.value)

pub returns-in-Ok-clause-still : goal.returns-in-Ok-clause-still
returns-in-Ok-clause-still g c = λ clean began. c.in_ok-rows.ensures.still clean began refl
