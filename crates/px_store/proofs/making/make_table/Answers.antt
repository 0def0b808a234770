use Rattle.sqlite.specs.Held.{state}
use Rattle.px_store.proofs.Makes.{grows}
use Rattle.px_store.proofs.making.make_table.Goals as goal

pub returns-clause-made : goal.returns-clause-made
returns-clause-made g c = λ clean inside has.
    let one = rw c.text.ensures at c.in_ok-execute.ensures.runs clean inside in
    grows c.args.table (state g.S.Store c.args.tx.now.conn.now) (state g.S.Store c.execute.new.self.conn.now) c.in_ok-execute.field-0 has one.0 one.1.mode
