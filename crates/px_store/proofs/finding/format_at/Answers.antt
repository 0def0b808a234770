use Rattle.std.proofs.Common.{rules, ◌≡◌}
use Rattle.sqlite.specs.Held.{state}
use Rattle.px_store.specs.Formats.{schema_at}
use Rattle.px_store.proofs.finding.format_at.Goals as goal

pub returns-in-Some-clause-unknown : goal.returns-in-Some-clause-unknown
returns-in-Some-clause-unknown g c = λ auto unknown.
    let is : (state g.S.Store c.args.conn.now).now.schema ≡ schema_at c.in-Some.format = search rules in
    absurd (unknown c.in-Some.format is)
