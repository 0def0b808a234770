use Rattle.std.proofs.Common.{◌≡◌, ◌≤◌, ◌-◌, [], string_bytes}
use Rattle.node_requests.specs.EntryLines.{line_shown, lines_before}
use Rattle.node_requests.proofs.handler.RequestHandler.lines_from.Given as goal

-- the lines so far, and those that are left
abbrev pub invariant-loop-left : goal.invariant-loop-left
invariant-loop-left g l = record {
  rest : lines_before (line_shown l.show l.self.node) l.end l.left (string_bytes l.body)
      ≡ lines_before (line_shown l.show l.self.node) l.end (l.end - l.first) [];
  within : l.left ≤ l.end;
}

abbrev pub decreases-loop-left : goal.decreases-loop-left
decreases-loop-left g l = l.left
