-- a member more
use Rattle.std.proofs.Common.{rules, ◌≡◌, ◌∙◌, ℕ, suc, ◌+◌, ap, sym, arith, true, false}
use Rattle.std.specs.Prelude.{min}
use Rattle.px_transport.specs.Sending.{is_other, next_state, to_member}
use Rattle.px_transport.specs.Wiring.{sealer_of, outgoing_of, start_of, state_due, due_of_first}
use Rattle.px_transport.proofs.Entries.{chosen, passed_over}
use Rattle.px_transport.proofs.packet_wire.PacketWire.next_due.Goals as goal
use Rattle.px_transport.proofs.packet_wire.PacketWire.next_due.Goals.{then-is_other, else-is_other}

pub loop-member-preserved : goal.loop-member-preserved
loop-member-preserved g c hs h =
    let w = c.args.self.now in
    let m = c.loop-member.member in
    let s = sealer_of w in
    let o = to_member (outgoing_of w) m in
    let first = due_of_first s (outgoing_of w) hs in
    let one : suc m ≡ m + 1 = omega arith in
    let never : ℕ = 18446744073709551615 in
    let least : c.min-due.result ≡ min c.loop-member.due c.if-is_other.state = search rules in
    let state : c.if-is_other.state ≡ state_due s (outgoing_of w) hs m = elim c.if-is_other.branch [
      | then-is_other x ↦
          let other : is_other s m ≡ true = search rules in
          let due : x.due-state.result ≡ next_state o (start_of hs m) =
          x.due-state.ensures ∙ ap (next_state o) (x.start_of.ensures _ hs h) in
          x.state-is ∙ due ∙ sym (chosen (is_other s m) (next_state o (start_of hs m)) never other)
      | else-is_other x ↦
          let own : is_other s m ≡ false = search rules in
          x.state-is ∙ sym (passed_over (is_other s m) (next_state o (start_of hs m)) never own)
    ] in
    least ∙ ap (λ x. min x c.if-is_other.state) (c.loop-member.invariant hs h) ∙ ap (min (first m)) state ∙ ap first one
