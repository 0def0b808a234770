use Rattle.std.proofs.Common.{◌∙◌, map, sym}
use Rattle.clap.specs.Words.{found_of, rows_of}
use Rattle.cli_ask.proofs.Misuse.{given_parsed, given_refused, nowhere, at_path}
use Rattle.cli_ask.proofs.Series.{adds_nothing}
use Rattle.cli_ask.proofs.running.run_control_ask.Goals as goal

-- the arguments are refused
pub returns-in-Err : goal.returns-in-Err
returns-in-Err g c =
    let arguments = map g.S.AsStr.text c.args.arguments.now in
    given_refused g.C.Direct.answers_at g.C.Control.exchanged c.args.peer.now _ arguments c.in-Err.error _ c.misused.result _ _ c.in-Ok.ensures c.in-Err.ensures.kinds c.misused.ensures.ran
    c.misused.ensures.memory c.misused.ensures.failed

-- another subcommand
pub returns-in_default-given_in : goal.returns-in_default-given_in
returns-in_default-given_in g c =
    let arguments = map g.S.AsStr.text c.args.arguments.now in
    let matches = c.in-Ok-try_get_matches_from in
    let e = given_parsed _ arguments matches.matches c.in-Ok.ensures matches.ensures.kinds matches.ensures.matches ∙ sym c.in_default-given_in.ensures in
    rw e (adds_nothing (g.C.Control.exchanged c.args.peer.now), tt)

pub returns-in_default-value_in : goal.returns-in_default-value_in
returns-in_default-value_in g c =
    let arguments = map g.S.AsStr.text c.args.arguments.now in
    let matches = c.in-Ok-try_get_matches_from in
    let e = given_parsed _ arguments matches.matches c.in-Ok.ensures matches.ensures.kinds matches.ensures.matches ∙ sym c.in-Some.ensures in
    nowhere g.C.Direct.answers_at g.C.Control.exchanged c.args.peer.now _ (rows_of (found_of c.in-Some.inner.now)) _ _ _ _ _ e (sym c.in_default-value_in.ensures) c.refused.ensures
    c.write_outcome.ensures

-- the peer is directed to the path, and asked
pub returns : goal.returns
returns g c =
    let arguments = map g.S.AsStr.text c.args.arguments.now in
    let matches = c.in-Ok-try_get_matches_from in
    let e = given_parsed _ arguments matches.matches c.in-Ok.ensures matches.ensures.kinds matches.ensures.matches ∙ sym c.in-Some.ensures in
    at_path g.C.Direct.answers_at g.C.Control.exchanged c.args.peer.now c.direct.new.self c.run.new.control _ (rows_of (found_of c.in-Some.inner.now)) c.in-Some-value_in.path.now _ _ _ _ e
    (sym c.in-Some-value_in.ensures) c.direct.ensures.there c.direct.ensures.alone c.run.ensures
