use Rattle.std.proofs.Common.{map, rules}
use Rattle.pf_scripts.proofs.Rows.{rows_accepted, rows_refused}
use Rattle.pf_scripts.proofs.pfctl.matches_in.Goals as goal

pub returns-in-Ok : goal.returns-in-Ok
returns-in-Ok c = rows_accepted _ (map (λ w. w.now) c.args.words.now) c.in-Ok.matches c.in_ok-command.ensures c.in-Ok.ensures.kinds c.in-Ok.ensures.matches

pub returns-else-eq : goal.returns-else-eq
returns-else-eq c = rows_refused _ (map (λ w. w.now) c.args.words.now) c.in-Err.error c.in_ok-command.ensures c.in-Err.ensures.kinds (search rules)
