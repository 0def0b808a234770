use Rattle.std.proofs.Common.{◌≡◌, ◌-◌, ◌+◌, ◌<◌, [], min, length, string_bytes, List, ℕ, ap, sym, ◌∙◌, arith, rules}
use Rattle.node_requests.specs.EntryLines.{line_shown, lines_before}
use Rattle.node_requests.proofs.Logged.{lines_step, lines_end, capped}
use Rattle.pf_node.specs.Nodes.{applied_of}
use Rattle.node_requests.specs.Answers.{shown}
use Rattle.node_requests.proofs.handler.RequestHandler.lines_from.Goals as goal
use Rattle.node_requests.proofs.handler.RequestHandler.lines_from.Goals.{then-loop-left-test+else-as_bytes-lt-ENTRIES_BYTES, else-loop-left-test}

-- one line more
pub loop-left-preserved : goal.loop-left-preserved
loop-left-preserved g c =
    let line = line_shown c.args.show c.args.self.now.node in
    let end = c.min-end.result in
    let text = string_bytes c.loop-left.body in
    let n = c.loop-left.left in
    let some : 0 < n = omega (arith, c.loop-left-test.true) in
    let same : length c.as_bytes.result.now ≡ length text = ap length c.as_bytes.ensures.value in
    let room : length text < 262144 = omega (arith, same, c.if-as_bytes-lt-ENTRIES_BYTES.true) in
    record {
      rest = ap (λ (t : List ℕ). lines_before line end (n - 1) t) c.in_ok-push_shown.ensures
          ∙ sym (lines_step line end n text some room) ∙ c.loop-left.invariant.rest;
      within = omega (arith, some, c.loop-left.invariant.within);
    }

-- no line more
pub returns : goal.returns
returns g c =
    let line = line_shown c.args.show c.args.self.now.node in
    let end = c.min-end.result in
    let text = string_bytes c.loop-left.body in
    let n = c.loop-left.left in
    let full : lines_before line end n text ≡ text = elim c.loop-left-test.branch [
      | then-loop-left-test+else-as_bytes-lt-ENTRIES_BYTES w ↦
          (let same : length w.as_bytes.result.now ≡ length text = ap length w.as_bytes.ensures.value in
          lines_end line end n text (λ some less. omega (arith, same, less, w.if-as_bytes-lt-ENTRIES_BYTES.false)))
      | else-loop-left-test w ↦ lines_end line end n text (λ some less. omega (arith, some, w.loop-left-test.false))
    ] in
    let all : string_bytes c.loop-left.body ≡ lines_before line end (end - c.args.first) [] = sym full ∙ c.loop-left.invariant.rest in
    let within : end ≡ min (applied_of c.args.self.now.node) (c.args.first + c.args.most) =
    c.min-end.ensures ∙ ap (λ n. min c.applied.result n) c.saturating_add.ensures ∙ capped c.applied.result (c.args.first + c.args.most) (search rules)
    ∙ ap (λ n. min n (c.args.first + c.args.most)) c.applied.ensures.applied in
    c.shown.ensures ∙ ap shown (all ∙ ap (λ e. lines_before line e (e - c.args.first) []) within)
