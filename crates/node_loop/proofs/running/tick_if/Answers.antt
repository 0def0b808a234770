-- a turn of the clock, or none
use Rattle.std.proofs.Common.{◌≡◌, Bool, refl, true, false, ap, sym, subst}
use Rattle.px_records.specs.declared.records.Records.{Ghosts}
use Rattle.node_loop.specs.Counting.{CountsTickedIf}
use Rattle.node_loop.specs.Progress.{counts_in}
use Rattle.node_loop.specs.Timing.{is_tick}
use Rattle.node_loop.specs.Turns.{LoopState, TickedIf, in_loop}
use Rattle.node_loop.specs.declared.counts.RoundCounts.{RoundCounts}
use Rattle.node_loop.proofs.Chains.{served_none, same_all, turned_by_clock}
use Rattle.node_loop.proofs.Given.{over_turn}
use Rattle.node_loop.proofs.running.tick_if.Goals as goal

-- whether the clock ticked, by what the timer returned
ticked_so : {R : Type 0} {G : Ghosts R} (b k : Bool) (x y : LoopState G) → b ≡ k → TickedIf k x y → TickedIf b x y
ticked_so {R} {G} b k x y e h = subst (λ (a : Bool). TickedIf {G = G} a x y) (sym e) h

counted_so : {R : Type 0} {G : Ghosts R} (b k : Bool) (x y : LoopState G) (c d : RoundCounts) → b ≡ k →
    CountsTickedIf k x y c d → CountsTickedIf b x y c d
counted_so {R} {G} b k x y c d e h = subst (λ (a : Bool). CountsTickedIf {G = G} a x y c d) (sym e) h

pub returns-in-Ok-clause-served : goal.returns-in-Ok-clause-served
returns-in-Ok-clause-served g c =
    over_turn (g.W.Wire.traffic c.args.wire.now) (g.W.Wire.traffic c.tick_now.new.wire)
    (λ es. in_loop c.args.node.now es c.args.buffers.now) (λ es. in_loop c.tick_now.new.node es c.tick_now.new.buffers) _
    (λ es t. let r = c.in-Ok.ensures.ticked es t in (r.0, r.1, turned_by_clock _ _ _ r.2))

pub returns-in-Ok-clause-ticked : goal.returns-in-Ok-clause-ticked
returns-in-Ok-clause-ticked g c es t = let r = c.in-Ok.ensures.ticked es t in (
  r.0,
  r.1,
  ticked_so (is_tick c.args.action) true (in_loop c.args.node.now es c.args.buffers.now) (in_loop c.tick_now.new.node r.0 c.tick_now.new.buffers) (ap is_tick c.in-Tick.is) r.2,
)

pub returns-in-Err-clause-served : goal.returns-in-Err-clause-served
returns-in-Err-clause-served g c =
    over_turn (g.W.Wire.traffic c.args.wire.now) (g.W.Wire.traffic c.tick_now.new.wire)
    (λ es. in_loop c.args.node.now es c.args.buffers.now) (λ es. in_loop c.tick_now.new.node es c.tick_now.new.buffers) _
    (λ es t. let r = c.in-Err.ensures.ticked es t in (r.0, r.1, turned_by_clock _ _ _ r.2))

pub returns-then-not-has_own-clause-served : goal.returns-then-not-has_own-clause-served
returns-then-not-has_own-clause-served g c es t = (es, t, served_none _ _ (same_all _))

pub returns-then-not-has_own-clause-ticked : goal.returns-then-not-has_own-clause-ticked
returns-then-not-has_own-clause-ticked g c es t =
    (es, t, ticked_so (is_tick c.args.action) false (in_loop c.args.node.now es c.args.buffers.now) (in_loop c.args.node.now es c.args.buffers.now) (ap is_tick c.in-Wait.is) (same_all _))

pub returns-else-handled-eq0-clause-served : goal.returns-else-handled-eq0-clause-served
returns-else-handled-eq0-clause-served g c es t = (es, t, served_none _ _ (same_all _))

pub returns-else-handled-eq0-clause-ticked : goal.returns-else-handled-eq0-clause-ticked
returns-else-handled-eq0-clause-ticked g c es t =
    (es, t, ticked_so (is_tick c.args.action) false (in_loop c.args.node.now es c.args.buffers.now) (in_loop c.args.node.now es c.args.buffers.now) (ap is_tick c.in-Wait.is) (same_all _))

pub returns-then-not-has_own-clause-counts : goal.returns-then-not-has_own-clause-counts
returns-then-not-has_own-clause-counts g c es t = (
  es,
  t,
  counted_so (is_tick c.args.action) false (in_loop c.args.node.now es c.args.buffers.now) (in_loop c.args.node.now es c.args.buffers.now) (counts_in c.args.buffers.now) (counts_in c.args.buffers.now)
      (ap is_tick c.in-Wait.is) (same_all _, refl),
)

pub returns-else-handled-eq0-clause-counts : goal.returns-else-handled-eq0-clause-counts
returns-else-handled-eq0-clause-counts g c es t = (
  es,
  t,
  counted_so (is_tick c.args.action) false (in_loop c.args.node.now es c.args.buffers.now) (in_loop c.args.node.now es c.args.buffers.now) (counts_in c.args.buffers.now) (counts_in c.args.buffers.now)
      (ap is_tick c.in-Wait.is) (same_all _, refl),
)

pub returns-in-Ok-clause-counts : goal.returns-in-Ok-clause-counts
returns-in-Ok-clause-counts g c es t = let r = c.in-Ok.ensures.counts es t in (
  r.0,
  r.1,
  counted_so (is_tick c.args.action) true (in_loop c.args.node.now es c.args.buffers.now) (in_loop c.tick_now.new.node r.0 c.tick_now.new.buffers) (counts_in c.args.buffers.now) (counts_in c.tick_now.new.buffers)
      (ap is_tick c.in-Tick.is) r.2,
)
