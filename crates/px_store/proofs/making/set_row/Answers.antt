use Rattle.std.proofs.Common.{Ok, rules}
use Rattle.sqlite.specs.State.{ExecutesInside}
use Rattle.sqlite.specs.Held.{state}
use Rattle.px_store.specs.inner.Tables.{put_meta, meta_params}
use Rattle.px_store.specs.Seen.{meta_columns, meta_row}
use Rattle.px_store.proofs.Texts.{meta_terms, meta_put}
use Rattle.px_store.proofs.Puts.{inside}
use Rattle.px_store.proofs.Kept.{goes_meta}
use Rattle.px_store.proofs.making.set_row.Goals as goal

pub returns-clause-put : goal.returns-clause-put
returns-clause-put g c = λ clean within has.
    let id = c.args.identity in
    let one : ExecutesInside 0 put_meta (meta_params id.cluster id.members id.node c.args.round c.args.number) (state g.S.Store c.args.tx.now.conn.now) (state g.S.Store c.execute.new.self.conn.now) (Ok c.in_ok-execute.field-0) = search rules in
    let it = inside put_meta 0 8 meta_terms meta_put (meta_params id.cluster id.members id.node c.args.round c.args.number) 0 1 meta_columns (meta_row 3 id.cluster id.members id.node c.args.round c.args.number) (goes_meta id.cluster id.members id.node c.args.round c.args.number) (state g.S.Store c.args.tx.now.conn.now) has (state g.S.Store c.execute.new.self.conn.now) c.in_ok-execute.field-0 one.0 in
    record { put = it.0; schema = it.1; inside = one.1.mode }
