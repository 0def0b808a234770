-- the message that was decoded was sent
use Rattle.std.proofs.Common.{inl, inr, refl, sym, subst}
use Rattle.px_model.specs.Seen.{come_of}
use Rattle.px_wire.specs.Fields.{WireFaultAt}
use Rattle.px_wire.specs.Message.{group, DatagramBytes}
use Rattle.px_wire.specs.declared.membership.Membership.{Membership}
use Rattle.px_replica.specs.Replicas.{membership_of, state_in}
use Rattle.px_replica.proofs.Heard.{heard, comes_unrefused}
use Rattle.px_replica.proofs.state.Replica.receive.Goals as goal

pub returns-in-Ok-step : goal.returns-in-Ok-step
returns-in-Ok-step g c =
    let m = membership_of c.args.self.now in
    let h = heard m c.group.result c.in-Ok.sender c.in-Ok.message c.args.bytes.now c.group.ensures.group c.in-Ok.ensures.found c.in-Ok.ensures.fits in
    record {
      received = inr (inr (record {
        works = c.if-self.false;
        sender = c.in-Ok.sender;
        message = come_of c.in-Ok.message;
        passes = h.0;
        spelled = h.1;
        call = c.in-Ok-step.ensures.call;
        answered = refl;
        unrefused = λ honest. tt;
      }));
    }

pub returns : goal.returns
returns g c =
    let m = membership_of c.args.self.now in
    let h = heard m c.group.result c.in-Ok.sender c.in-Ok.message c.args.bytes.now c.group.ensures.group c.in-Ok.ensures.found c.in-Ok.ensures.fits in
    let e = c.in-Err-step.ensures in
    record {
      received = inr (inr (record {
        works = c.if-self.false;
        sender = c.in-Ok.sender;
        message = come_of c.in-Ok.message;
        passes = h.0;
        spelled = h.1;
        call = e.call;
        answered = tt;
        unrefused = λ honest.
            comes_unrefused m.members m.me c.in-Ok.sender (state_in c.args.self.now) (come_of c.in-Ok.message) c.in-Err-step.fault e.own (e.call.refused honest);
      }));
    }

pub returns-in-Err : goal.returns-in-Err
returns-in-Err g c = record {
  received = inr (inl (record {
    works = c.if-self.false;
    unspelled = λ from x spells. c.in-Err.ensures.only from x
        (subst (λ (z : Membership). DatagramBytes (group z) from z.me x c.args.bytes.now) (sym c.group.ensures.group) spells);
    fault = c.in-Err.fault;
    reported = subst (λ (z : Membership). WireFaultAt z c.args.bytes.now c.in-Err.fault.code c.in-Err.fault.offset) c.group.ensures.group
        c.in-Err.ensures.fault;
    answered = refl;
    still = refl;
    silent = refl;
  }));
}
