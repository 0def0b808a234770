-- a counter is fresh where it is above the last of its rest, and not behind the window
use Rattle.std.proofs.Common.{rules, arith, refl, sym, ◌+◌, ◌%◌, ◌<◌, ◌≤◌}
use Rattle.px_packet.specs.Windows.{top_of, last_of}
use Rattle.px_packet.proofs.Windows.{read_last, repeated, kept, fresh, set_last}
use Rattle.px_packet.proofs.window.Window.accept.Goals as goal

pub returns-then-counter-index-clause-fresh : goal.returns-then-counter-index-clause-fresh
returns-then-counter-index-clause-fresh c ns h =
    let n = c.args.counter in
    let last = read_last ns c.args.self.now n c.index.result.now c.index.ensures h in
    let below : n ≤ last_of (n % 2048) ns = omega (arith, last, c.if-counter-index.true) in
    sym (repeated ns n below)

pub returns-then-counter-index-clause-after : goal.returns-then-counter-index-clause-after
returns-then-counter-index-clause-after c ns h =
    let n = c.args.counter in
    let last = read_last ns c.args.self.now n c.index.result.now c.index.ensures h in
    let below : n ≤ last_of (n % 2048) ns = omega (arith, last, c.if-counter-index.true) in
    kept ns n c.args.self.now (repeated ns n below) h

pub returns-clause-fresh : goal.returns-clause-fresh
returns-clause-fresh c ns h =
    let n = c.args.counter in
    let last = read_last ns c.args.self.now n c.index.result.now c.index.ensures h in
    let above : last_of (n % 2048) ns < n = omega (arith, last, c.if-counter-index.false) in
    let inside : top_of ns < n + 2048 =
    omega (arith, h.top_is, c.saturating_sub.ensures, c.if-saturating_sub-ge-WINDOW.false) in
    sym (fresh ns n above inside)

pub returns-clause-after : goal.returns-clause-after
returns-clause-after c ns h =
    let n = c.args.counter in
    let last = read_last ns c.args.self.now n c.index.result.now c.index.ensures h in
    let above : last_of (n % 2048) ns < n = omega (arith, last, c.if-counter-index.false) in
    let inside : top_of ns < n + 2048 =
    omega (arith, h.top_is, c.saturating_sub.ensures, c.if-saturating_sub-ge-WINDOW.false) in
    set_last ns n (n % 2048) c.args.self.now _ refl above inside (search rules) (search rules) h
