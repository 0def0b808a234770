-- why its owner isn't known
use Rattle.std.proofs.Common.{rules, ◌≡◌, ◌∙◌, ap, Err}
use Rattle.cli_show.specs.Stores.{closed_by}
use Rattle.sqlite.specs.Held.{state}
use Rattle.px_store.specs.Tables.{schema_3}
use Rattle.px_store.specs.declared.formats.Format.TheVariants.{Three}
use Rattle.cli_show.proofs.store.member_in.Goals as goal

pub returns-in-Err-clause-none : goal.returns-in-Err-clause-none
returns-in-Err-clause-none g c = λ clean. record {
  fault = c.in-Err.fault;
  numbered = c.closed_by-in-Err.ensures ∙ ap closed_by c.code-in-Err.ensures;
  judged = λ began verdict. c.in-Err.ensures.refused clean Three began verdict;
  unread = λ began failed. c.in-Err.ensures.unread clean began.auto (ap Err failed);
  other = λ none.
      let is : (state g.S.Store c.args.conn.now).now.schema ≡ schema_3 = search rules in
      absurd (none is);
}
