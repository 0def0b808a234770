-- it is opened, turns are made, and it is given back
use Rattle.std.proofs.Common.{refl, inl, inr}
use Rattle.node_control.proofs.member.run_member.Goals as goal

pub returns-in-Err-clause-hosted : goal.returns-in-Err-clause-hosted
returns-in-Err-clause-hosted g c es t = (es, t, inl (_, refl, c.in-Err.ensures.refused, refl))

pub returns-in-Err-clause-turns : goal.returns-in-Err-clause-turns
returns-in-Err-clause-turns g c none es t = (es, t, inl (_, refl, c.in-Err.ensures.refused, refl))

pub returns-clause-hosted : goal.returns-clause-hosted
returns-clause-hosted g c es t =
    let r = c.run_at-ended.ensures.hosted es t in (
      r.0,
      r.1,
      inr (record {
        begun = c.in-Ok.node;
        done = c.run_at-ended.result.1;
        membership = c.in-Ok.ensures.membership;
        works = c.in-Ok.ensures.works;
        was = c.in-Ok.ensures.was;
        starts = c.in-Ok.ensures.state;
        stop = c.in-Ok.ensures.stop;
        went = r.2;
        closed = c.close.ensures;
      }),
    )

pub returns-clause-turns : goal.returns-clause-turns
returns-clause-turns g c none es t =
    let r = c.run_at-ended.ensures.turns none es t in (
      r.0,
      r.1,
      inr (record {
        begun = c.in-Ok.node;
        done = c.run_at-ended.result.1;
        membership = c.in-Ok.ensures.membership;
        works = c.in-Ok.ensures.works;
        was = c.in-Ok.ensures.was;
        starts = c.in-Ok.ensures.state;
        stop = c.in-Ok.ensures.stop;
        went = r.2;
        closed = c.close.ensures;
      }),
    )
