-- one more of the last proposal, up to all
use Rattle.std.proofs.Common.{◌≡◌, ◌∙◌, ◌++◌, ℕ, refl, ap, subst, length, arith}
use Rattle.node_loop.specs.Again.{HandsAt, HandsFirst}
use Rattle.node_loop.specs.Keeping.{votes_in}
use Rattle.node_loop.specs.Resends.{latest_of}
use Rattle.node_loop.proofs.Among.{among_all, among_front, hands_more, first_none, first_more, first_short, first_again}
use Rattle.node_loop.proofs.resender.Resender.repeat.Goals as goal

pub loop-i-init : goal.loop-i-init
loop-i-init g c = record { first = first_none _ (g.W.Wire.traffic c.args.wire.now); none = λ zero es h. h; latest = refl; kept = refl; requests = refl; me = refl; members = refl; time = refl; same = refl }

pub loop-i-preserved : goal.loop-i-preserved
loop-i-preserved g c = record {
  first = first_more c.loop-i.i _ (g.W.Wire.traffic c.args.wire.now) (g.W.Wire.traffic c.loop-i.wire) (g.W.Wire.traffic c.send.new.wire) c.loop-i.invariant.first
      (subst (λ (k : _). HandsAt c.loop-i.i k (g.W.Wire.traffic c.loop-i.wire) (g.W.Wire.traffic c.send.new.wire)) c.loop-i.invariant.latest c.send.ensures.again);
  none = λ one. absurd (omega (arith, one));
  latest = c.send.ensures.kept ∙ c.loop-i.invariant.latest;
  kept = ap (λ x. x ++ votes_in c.loop-i.self.votes) c.send.ensures.kept ∙ c.loop-i.invariant.kept;
  requests = c.send.ensures.request ∙ c.loop-i.invariant.requests;
  me = c.loop-i.invariant.me;
  members = c.loop-i.invariant.members;
  time = c.loop-i.invariant.time;
  same = c.send.ensures.same ∙ c.loop-i.invariant.same;
}

pub returns-clause-again : goal.returns-clause-again
returns-clause-again g c = hands_more _ _ (g.W.Wire.traffic c.args.wire.now) (g.W.Wire.traffic c.loop-i.wire) (among_front _ _ _ (among_all _))
    (first_again c.loop-i.i _ (g.W.Wire.traffic c.args.wire.now) (g.W.Wire.traffic c.loop-i.wire) c.loop-i.invariant.first)

pub returns-clause-all : goal.returns-clause-all
returns-clause-all g c le =
    let is : c.loop-i.i ≡ length (latest_of c.args.self.now) = omega (arith, c.count-i-end.ensures.all le) in
    first_short _ (g.W.Wire.traffic c.args.wire.now) (g.W.Wire.traffic c.loop-i.wire)
    (subst (λ (n : ℕ). HandsFirst n (latest_of c.args.self.now) (g.W.Wire.traffic c.args.wire.now) (g.W.Wire.traffic c.loop-i.wire)) is c.loop-i.invariant.first)

pub returns-clause-none : goal.returns-clause-none
returns-clause-none g c less =
    let is : c.loop-i.i ≡ 0 = omega (arith, c.count-i-end.ensures.none less) in
    c.loop-i.invariant.none is

pub returns-clause-of : goal.returns-clause-of
returns-clause-of g c = (c.loop-i.invariant.me, c.loop-i.invariant.members)

pub returns-clause-time : goal.returns-clause-time
returns-clause-time g c = c.loop-i.invariant.time
