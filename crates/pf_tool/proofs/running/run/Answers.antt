use Rattle.std.proofs.Common.{◌∙◌, ap, sym, map}
use Rattle.pf_tool.specs.Messages.{is_verbose, level_of}
use Rattle.pf_tool.proofs.Calls.{call_entered, call_refused, misnamed_over, other_over, kinds_of_program, passes_program, rows_of_program, misused_unreported, misnamed_unreported, reported_as}
use Rattle.pf_tool.proofs.running.run.Goals as goal

-- the subcommand is another crate's
pub returns-then-names_other-clause-ran : goal.returns-then-names_other-clause-ran
returns-then-names_other-clause-ran g c =
    other_over (g.T.Sources.has c.args.rt.now) _ (map g.S.AsStr.text c.args.arguments.now) _ _ _ (sym c.names_other.ensures ∙ c.if-names_other.true)

-- the arguments are refused
pub returns-in-Err-clause-ran : goal.returns-in-Err-clause-ran
returns-in-Err-clause-ran g c =
    let arguments = map g.S.AsStr.text c.args.arguments.now in
    let own = sym c.names_other.ensures ∙ c.if-names_other.false in
    let kinds = kinds_of_program _ arguments c.in-Err.error c.in-Ok.ensures c.in-Err.ensures.kinds in
    call_refused (g.T.Sources.has c.args.rt.now) _ c.misused.result arguments c.in-Err.error _ _ _ c.misused.ensures.ran own kinds c.misused.ensures.memory c.misused.ensures.failed

-- a subcommand is named
pub returns-in-Some-clause-ran : goal.returns-in-Some-clause-ran
returns-in-Some-clause-ran g c =
    let arguments = map g.S.AsStr.text c.args.arguments.now in
    let matches = c.in-Ok-try_get_matches_from in
    let own = sym c.names_other.ensures ∙ c.if-names_other.false in
    let free = passes_program _ arguments c.in-Ok.ensures matches.ensures.kinds in
    let rows = rows_of_program _ arguments matches.matches c.in-Ok.ensures matches.ensures.matches in
    let e = call_entered _ arguments matches.matches own free rows ∙ sym c.in-Some.ensures in
    rw e c.answer.ensures.ran

-- the arguments ask for nothing
pub returns-clause-ran : goal.returns-clause-ran
returns-clause-ran g c =
    let arguments = map g.S.AsStr.text c.args.arguments.now in
    let matches = c.in-Ok-try_get_matches_from in
    let own = sym c.names_other.ensures ∙ c.if-names_other.false in
    let free = passes_program _ arguments c.in-Ok.ensures matches.ensures.kinds in
    let rows = rows_of_program _ arguments matches.matches c.in-Ok.ensures matches.ensures.matches in
    let e = call_entered _ arguments matches.matches own free rows ∙ sym c.in-None.ensures in
    rw e (misnamed_over (g.T.Sources.has c.args.rt.now) _ _ _ _ _ c.misnamed.ensures)

-- ---- the messages

-- the arguments are refused
pub returns-in-Err-clause-reported : goal.returns-in-Err-clause-reported
returns-in-Err-clause-reported g c =
    misused_unreported (g.T.Sources.has c.args.rt.now) _ _ c.misused.result _ _ _ _ _ _ _ c.misused.ensures.ran

-- a subcommand is named
pub returns-in-Some-clause-reported : goal.returns-in-Some-clause-reported
returns-in-Some-clause-reported g c =
    let arguments = map g.S.AsStr.text c.args.arguments.now in
    let matches = c.in-Ok-try_get_matches_from in
    let own = sym c.names_other.ensures ∙ c.if-names_other.false in
    let free = passes_program _ arguments c.in-Ok.ensures matches.ensures.kinds in
    let rows = rows_of_program _ arguments matches.matches c.in-Ok.ensures matches.ensures.matches in
    let call = call_entered _ arguments matches.matches own free rows ∙ sym c.in-Some.ensures in
    let verbose = c.is_verbose.ensures ∙ ap is_verbose rows in
    let level = c.level_of-level.ensures ∙ ap (λ v. level_of v c.args.is_terminal) verbose in
    reported_as (g.T.Sources.has c.args.rt.now) _ _ _ _ _ _ _ _ _ _ _ level (sym call) c.answer.ensures.reported

-- the arguments ask for nothing
pub returns-clause-reported : goal.returns-clause-reported
returns-clause-reported g c = misnamed_unreported (g.T.Sources.has c.args.rt.now) _ _ _ _ _ _ _ _ c.misnamed.ensures
