-- the one at this place
use Rattle.std.proofs.Common.{refl, arith}
use Rattle.std.proofs.lemmas.Option.{slice_get_read}
use Rattle.node_loop.proofs.Kept.{hand_at}
use Rattle.node_loop.proofs.state.Votes.hand.Goals as goal

pub returns-then-vote-to-clause-again : goal.returns-then-vote-to-clause-again
returns-then-vote-to-clause-again g c =
    hand_at c.args.to (λ s. (s.to, s.bytes.items)) c.args.self.now.votes.items c.args.self.now.votes.items c.args.i c.in-Some.vote.now c.as_slice.result.now
    (g.W.Wire.traffic c.args.wire.now) (g.W.Wire.traffic c.send-sent.new.self) (omega (arith, c.if-vote-to.true)) refl
    (slice_get_read c.args.self.now.votes.items _ c.args.i c.in-Some.vote.now refl c.in-Some.ensures.item.3.0 c.in-Some.ensures.item.1)
    c.as_slice.ensures.value c.send-sent.ensures.handed
