-- what is due is done, and what came is taken
use Rattle.std.proofs.Common.{rules, ◌≡◌, ℕ, take, length, ◌∙◌, ◌++◌, ap, sym, subst, refl, Option, Some, None}
use Rattle.std.specs.Prelude.{option_map}
use Rattle.px_transport.specs.Wires.{gives}
use Rattle.px_packet.specs.Keyed as keyed
use Rattle.px_transport.specs.Senders as senders
use Rattle.px_transport.specs.Wiring.{inner_of, sealer_of, keys_of, state_of, Receive, TakesAny}
use Rattle.px_transport.proofs.Duties.{receives_from, hears_below, call_adds}
use Rattle.px_transport.proofs.packet_wire.PacketWire.receive.Goals as goal

pub returns-in_err-n-clause-receives : goal.returns-in_err-n-clause-receives
returns-in_err-n-clause-receives g c hs h es t =
    let w0 = c.args.self.now in
    let w1 = c.keep_up.new.self in
    let w2 = c.receive_below.new.self in
    let up = c.keep_up.ensures in
    let below = c.receive_below.ensures in
    let came = option_map (λ n. take n w2.incoming.items) c.receive_below.result in
    let d = up.does hs h es t in
    let heard = hears_below d.0.heard w1 w2 below.sender below.receiver d.2.heard_is in
    let k = state_of (d.0.traffic ++ gives came) d.0.heard w2 in
    let none : c.receive_below.result ≡ None = search rules in
    let given = option_map (λ n. take n c.args.into.now) c.from_residual.result in
    let returned : c.from_residual.result ≡ None = search rules in
    let nothing : given ≡ None = ap (option_map (λ n. take n c.args.into.now)) returned in
    let P : Option ℕ → Type 0 =
    λ x. TakesAny (keys_of w2) (sealer_of w2) c.now-now.result (option_map (λ n. take n w2.incoming.items) x)
    (length c.args.into.now) given k k w2.dropped w2.dropped w2.copies w2.copies in (
      k,
      receives_from (g.W.Wire.traffic (inner_of w1)) (g.W.Wire.traffic (inner_of w2)) (g.W.Wire.traffic (inner_of w2))
          (state_of es hs w0) d.0 k (length c.args.into.now) given w0 w1 w2 w2 c.now-now.result came d.1 d.2 up.member up.count
          below.sender below.rises below.count (subst P (sym none) (nothing, refl, refl, refl)),
      record {
        traffic_is = below.gave d.0.traffic d.2.traffic_is;
        outgoing_is = refl;
        heard_is = heard;
        failures_is = refl;
      },
    )

pub returns-in_err-n-clause-gave : goal.returns-in_err-n-clause-gave
returns-in_err-n-clause-gave g c =
    let w0 = c.args.self.now in
    let w2 = c.receive_below.new.self in
    let up = c.keep_up.ensures.member in
    let below = c.receive_below.ensures.sender in
    call_adds (g.W.Wire.traffic (inner_of w0)) (g.W.Wire.traffic (inner_of w2)) w0 w2 _
    (record {
      sealer_is = ap senders.sealer_of below ∙ up.sealer_is;
      keys_is = ap (λ s. keyed.keys_of s.keys) below ∙ up.keys_is;
    })
    (λ hs h es t. let r = returns-in_err-n-clause-receives g c hs h es t in (r.0, Receive _ _ _ _ _ _ r.1 refl, r.2))

pub returns-clause-receives : goal.returns-clause-receives
returns-clause-receives g c hs h es t =
    let w0 = c.args.self.now in
    let w1 = c.keep_up.new.self in
    let w2 = c.receive_below.new.self in
    let w3 = c.hear.new.self in
    let up = c.keep_up.ensures in
    let below = c.receive_below.ensures in
    let came = option_map (λ n. take n w2.incoming.items) c.receive_below.result in
    let d = up.does hs h es t in
    let r = c.hear.ensures.takes d.0.heard (hears_below d.0.heard w1 w2 below.sender below.receiver d.2.heard_is)
    (d.0.traffic ++ gives came) (below.gave d.0.traffic d.2.traffic_is) in
    let some : c.receive_below.result ≡ Some c.in_ok-n.n = search rules in
    let P : Option ℕ → Type 0 =
    λ x. TakesAny (keys_of w2) (sealer_of w2) c.now-now.result (option_map (λ n. take n w2.incoming.items) x)
    (length c.args.into.now) (Some (take c.hear.result c.hear.new.into)) (state_of (d.0.traffic ++ gives came) d.0.heard w2)
    r.0 w2.dropped w3.dropped w2.copies w3.copies in (
      r.0,
      receives_from (g.W.Wire.traffic (inner_of w1)) (g.W.Wire.traffic (inner_of w2)) (g.W.Wire.traffic (inner_of w3))
          (state_of es hs w0) d.0 r.0 (length c.args.into.now) (Some (take c.hear.result c.hear.new.into)) w0 w1 w2 w3
          c.now-now.result came d.1 d.2 up.member up.count below.sender below.rises below.count (subst P (sym some) r.1),
      r.2,
    )

pub returns-clause-gave : goal.returns-clause-gave
returns-clause-gave g c =
    let w0 = c.args.self.now in
    let w3 = c.hear.new.self in
    let up = c.keep_up.ensures.member in
    let below = c.receive_below.ensures.sender in
    let came = c.hear.ensures.member in
    call_adds (g.W.Wire.traffic (inner_of w0)) (g.W.Wire.traffic (inner_of w3)) w0 w3 _
    (record {
      sealer_is = came.sealer_is ∙ ap senders.sealer_of below ∙ up.sealer_is;
      keys_is = came.keys_is ∙ ap (λ s. keyed.keys_of s.keys) below ∙ up.keys_is;
    })
    (λ hs h es t. let r = returns-clause-receives g c hs h es t in (r.0, Receive _ _ _ _ _ _ r.1 refl, r.2))
