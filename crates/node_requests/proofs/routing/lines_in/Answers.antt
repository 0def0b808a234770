use Rattle.std.proofs.Common.{◌≡◌, map, Ok, rules}
use Rattle.std.specs.declared.alloc.AllocError.{AllocError}
use Rattle.std.specs.Str.Lines.{lines}
use Rattle.std.proofs.lemmas.Iterator.Consumers.{map_from_collect}
use Rattle.std.proofs.lemmas.Iterator.Splits.{YieldsList-from_lines}
use Rattle.node_requests.proofs.BodyLines.{some_lines, no_lines}
use Rattle.node_requests.proofs.routing.lines_in.Goals as goal

pub returns-in_ok-collect-in-Ok : goal.returns-in_ok-collect-in-Ok
returns-in_ok-collect-in-Ok c =
    let found : map (λ w. w.now) c.in_ok-collect-in-Ok.field-0.items ≡ lines c.in-Ok.text.now = map_from_collect {E = AllocError} (Ok c.in_ok-collect-in-Ok.field-0) c.in_ok-collect-in-Ok.ensures.ran (YieldsList-from_lines c.in-Ok.text.now c.lines.ensures.rest) in
    some_lines c.args.body.now c.in-Ok.text.now _ (search rules) (search rules) found

pub returns-in-Err : goal.returns-in-Err
returns-in-Err c = no_lines c.args.body.now (search rules)
