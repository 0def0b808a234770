use Rattle.std.proofs.Common.{rules}
use Rattle.sqlite.specs.Held.{state}
use Rattle.px_store.proofs.Adopts.{brought_more}
use Rattle.px_store.proofs.making.make_anew.Goals as goal

pub returns-clause-stop : goal.returns-clause-stop
returns-clause-stop g c = λ clean has. brought_more _ _ _ (state g.S.Store c.set_row.new.tx.conn.now).now.trees (search rules) (record {
  meta_is = search rules;
  slots_be = search rules;
  floor_be = search rules;
  learned_be = search rules;
})
