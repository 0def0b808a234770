-- what came of the packet is given, done and counted
use Rattle.std.proofs.Common.{rules, ◌≡◌, ℕ, List, length, take, ap, subst, refl}
use Rattle.px_transport.specs.declared.coming.Coming.TheVariants as coming
use Rattle.px_transport.specs.Receiving.{Hears}
use Rattle.px_transport.specs.Wiring.{sealer_of, keys_of, state_of, opened, heard_with, given_of, Comes, IsWithin}
use Rattle.px_transport.proofs.Arriving.{heard_then, given_then, takes_given, takes_held, takes_dropped, takes_copy}
use Rattle.px_transport.proofs.Duties.{does_one}
use Rattle.px_transport.proofs.packet_wire.PacketWire.hear.Goals as goal

pub returns-in-Given-clause-fits : goal.returns-in-Given-clause-fits
returns-in-Given-clause-fits g c =
    subst (λ x. IsWithin x c.take_packet.new.into) c.in-Given.is c.take_packet.ensures.fits

pub returns-in-Given-clause-takes : goal.returns-in-Given-clause-takes
returns-in-Given-clause-takes g c hs h es t =
    let w = c.args.self.now in
    let s = sealer_of w in
    let keys = keys_of w in
    let came = take c.args.n w.incoming.items in
    let room = length c.args.into.now in
    let into = c.take_packet.new.into in
    let k = state_of es hs w in
    let r = c.take_packet.ensures.comes s.start hs h in
    let P : List ℕ → Type 0 =
    λ b. Hears s.start (heard_with s.start r.0 hs (opened keys s b) c.args.now) c.take_packet.new.receiver ×
    Comes (opened keys s b) (given_of s.start r.0 hs (opened keys s b) c.args.now) room c.take_packet.result into in
    let e : take c.args.n c.deref.result.now ≡ came = ap (take c.args.n) c.deref.ensures.value in
    let q : P came = subst P e r.1 in
    let comes : Comes (opened keys s came) (given_then keys s c.args.now came r.0 k) room (coming.Given c.in-Given.n) into =
    subst (λ x. Comes (opened keys s came) (given_then keys s c.args.now came r.0 k) room x into) c.in-Given.is q.1 in (
      heard_then keys s c.args.now came r.0 k,
      takes_given keys s c.args.now came r.0 k room c.in-Given.n into w.dropped w.copies comes,
      record { traffic_is = t; outgoing_is = refl; heard_is = q.0; failures_is = refl },
    )

pub returns-in-Held-clause-takes : goal.returns-in-Held-clause-takes
returns-in-Held-clause-takes g c hs h es t =
    let w = c.args.self.now in
    let s = sealer_of w in
    let keys = keys_of w in
    let came = take c.args.n w.incoming.items in
    let room = length c.args.into.now in
    let into = c.take_packet.new.into in
    let k = state_of es hs w in
    let r = c.take_packet.ensures.comes s.start hs h in
    let P : List ℕ → Type 0 =
    λ b. Hears s.start (heard_with s.start r.0 hs (opened keys s b) c.args.now) c.take_packet.new.receiver ×
    Comes (opened keys s b) (given_of s.start r.0 hs (opened keys s b) c.args.now) room c.take_packet.result into in
    let e : take c.args.n c.deref.result.now ≡ came = ap (take c.args.n) c.deref.ensures.value in
    let q : P came = subst P e r.1 in
    let comes : Comes (opened keys s came) (given_then keys s c.args.now came r.0 k) room (coming.Held c.in-Held.member c.in-Held.held) into =
    subst (λ x. Comes (opened keys s came) (given_then keys s c.args.now came r.0 k) room x into) c.in-Held.is q.1 in
    let n = c.pieces_again.ensures.does (heard_then keys s c.args.now came r.0 k).heard q.0 es t in (
      n.0,
      takes_held keys s c.args.now came r.0 k n.0 room c.in-Held.member c.in-Held.held into w.dropped
          c.pieces_again.new.self.dropped w.copies c.pieces_again.new.self.copies comes
          (does_one s c.args.now _ _ _ n.1) c.pieces_again.ensures.count.dropped_is
          c.pieces_again.ensures.count.copies_is,
      n.2,
    )

pub returns-in-Dropped-clause-takes : goal.returns-in-Dropped-clause-takes
returns-in-Dropped-clause-takes g c hs h es t =
    let w = c.args.self.now in
    let s = sealer_of w in
    let keys = keys_of w in
    let came = take c.args.n w.incoming.items in
    let room = length c.args.into.now in
    let into = c.take_packet.new.into in
    let k = state_of es hs w in
    let r = c.take_packet.ensures.comes s.start hs h in
    let P : List ℕ → Type 0 =
    λ b. Hears s.start (heard_with s.start r.0 hs (opened keys s b) c.args.now) c.take_packet.new.receiver ×
    Comes (opened keys s b) (given_of s.start r.0 hs (opened keys s b) c.args.now) room c.take_packet.result into in
    let e : take c.args.n c.deref.result.now ≡ came = ap (take c.args.n) c.deref.ensures.value in
    let q : P came = subst P e r.1 in
    let comes : Comes (opened keys s came) (given_then keys s c.args.now came r.0 k) room (coming.Dropped) into =
    subst (λ x. Comes (opened keys s came) (given_then keys s c.args.now came r.0 k) room x into) c.in-Dropped.is q.1 in (
      heard_then keys s c.args.now came r.0 k,
      takes_dropped keys s c.args.now came r.0 k room into w.dropped c.saturating_add-self.result w.copies comes
          (search rules),
      record { traffic_is = t; outgoing_is = refl; heard_is = q.0; failures_is = refl },
    )

pub returns-in-OtherMachine-clause-takes : goal.returns-in-OtherMachine-clause-takes
returns-in-OtherMachine-clause-takes g c hs h es t =
    let w = c.args.self.now in
    let s = sealer_of w in
    let keys = keys_of w in
    let came = take c.args.n w.incoming.items in
    let room = length c.args.into.now in
    let into = c.take_packet.new.into in
    let k = state_of es hs w in
    let r = c.take_packet.ensures.comes s.start hs h in
    let P : List ℕ → Type 0 =
    λ b. Hears s.start (heard_with s.start r.0 hs (opened keys s b) c.args.now) c.take_packet.new.receiver ×
    Comes (opened keys s b) (given_of s.start r.0 hs (opened keys s b) c.args.now) room c.take_packet.result into in
    let e : take c.args.n c.deref.result.now ≡ came = ap (take c.args.n) c.deref.ensures.value in
    let q : P came = subst P e r.1 in
    let comes : Comes (opened keys s came) (given_then keys s c.args.now came r.0 k) room (coming.OtherMachine) into =
    subst (λ x. Comes (opened keys s came) (given_then keys s c.args.now came r.0 k) room x into) c.in-OtherMachine.is q.1 in (
      heard_then keys s c.args.now came r.0 k,
      takes_copy keys s c.args.now came r.0 k room into w.dropped c.saturating_add-self-in-OtherMachine.result w.copies
          c.saturating_add-self-in-OtherMachine-2.result comes (search rules) (search rules),
      record { traffic_is = t; outgoing_is = refl; heard_is = q.0; failures_is = refl },
    )
