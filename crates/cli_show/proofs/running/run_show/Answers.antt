-- what the run gave is written where the arguments are understood
use Rattle.std.proofs.Common.{◌∙◌, map, sym}
use Rattle.clap.specs.Words.{found_of, rows_of}
use Rattle.cli_show.proofs.Misuse.{given_parsed, given_refused, written}
use Rattle.cli_show.proofs.running.run_show.Goals as goal

pub returns-in-Err : goal.returns-in-Err
returns-in-Err g c =
    let arguments = map g.S.AsStr.text c.args.arguments.now in
    given_refused (g.RT.Stores.answers c.args.rt.now) (g.RT.Sources.has c.args.rt.now) _ arguments c.in-Err.error c.misused.result _ _ c.in-Ok.ensures c.in-Err.ensures.kinds c.misused.ensures.ran c.misused.ensures.memory
    c.misused.ensures.failed

pub returns : goal.returns
returns g c =
    let arguments = map g.S.AsStr.text c.args.arguments.now in
    let matches = c.in-Ok-try_get_matches_from in
    let e = given_parsed _ arguments matches.matches c.in-Ok.ensures matches.ensures.kinds matches.ensures.matches ∙ sym c.in-Some.ensures in
    written (g.RT.Stores.answers c.args.rt.now) (g.RT.Sources.has c.args.rt.now) _ (rows_of (found_of c.in-Some.inner.now)) c.outcome_of.result _ _ _ e c.outcome_of.ensures c.write_outcome.ensures

-- another subcommand
pub returns-in_default-given_in : goal.returns-in_default-given_in
returns-in_default-given_in g c =
    let arguments = map g.S.AsStr.text c.args.arguments.now in
    let matches = c.in-Ok-try_get_matches_from in
    let e = given_parsed _ arguments matches.matches c.in-Ok.ensures matches.ensures.kinds matches.ensures.matches ∙ sym c.in_default-given_in.ensures in
    rw e tt
