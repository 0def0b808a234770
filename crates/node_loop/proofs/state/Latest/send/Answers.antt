-- the one at this place, unless it is long and it is too early
use Rattle.std.proofs.Common.{refl, arith}
use Rattle.std.proofs.lemmas.Option.{slice_get_read}
use Rattle.node_loop.proofs.Kept.{only_at, none_at, long_at}
use Rattle.node_loop.proofs.state.Latest.send.Goals as goal

pub returns-in_default-clause-again : goal.returns-in_default-clause-again
returns-in_default-clause-again g c =
    none_at (λ k. (k.to, k.bytes.items)) c.deref.result.now c.args.self.now.kept.items c.args.i (g.W.Wire.traffic c.args.wire.now)
    (g.W.Wire.traffic c.args.wire.now) c.deref.ensures.value c.in_default.ensures.lookup.3 (λ es h. h)

pub returns-then-not-is_large_due-clause-again : goal.returns-then-not-is_large_due-clause-again
returns-then-not-is_large_due-clause-again g c =
    long_at (λ k. (k.to, k.bytes.items)) c.deref.result.now c.args.self.now.kept.items c.args.i c.in-Some.kept.now
    (g.W.Wire.traffic c.args.wire.now) (g.W.Wire.traffic c.args.wire.now) c.deref.ensures.value
    (slice_get_read c.deref.result.now _ c.args.i c.in-Some.kept.now refl c.in-Some.ensures.lookup.3.0 c.in-Some.ensures.lookup.1)
    (omega (arith, c.len-length.ensures, c.if-length-gt-PACKET.true, c.in-Some.kept.now.bytes.ok.0)) (λ es h. h)

pub returns-clause-again : goal.returns-clause-again
returns-clause-again g c =
    only_at (λ k. (k.to, k.bytes.items)) c.deref.result.now c.args.self.now.kept.items c.args.i c.in-Some.kept.now c.as_slice.result.now
    (g.W.Wire.traffic c.args.wire.now) (g.W.Wire.traffic c.send-sent.new.self) c.deref.ensures.value
    (slice_get_read c.deref.result.now _ c.args.i c.in-Some.kept.now refl c.in-Some.ensures.lookup.3.0 c.in-Some.ensures.lookup.1)
    c.as_slice.ensures.value c.send-sent.ensures.handed
