-- what was opened is taken
use Rattle.std.proofs.Common.{rules, ◌≡◌, ◌∙◌, ℕ, List, length, drop, ap, sym, tests, Some, None}
use Rattle.px_packet.specs.declared.header.Header.{Header}
use Rattle.px_packet.specs.Headers.{header_in}
use Rattle.px_packet.specs.Keyed.{keys_of}
use Rattle.px_packet.specs.Packets.{front_of, packet_fault}
use Rattle.px_transport.specs.declared.coming.Coming.TheVariants as coming
use Rattle.px_transport.specs.Wires.{within}
use Rattle.px_transport.specs.Receiving.{given_by, seen}
use Rattle.px_transport.specs.Senders.{sealer_of}
use Rattle.px_transport.specs.Wiring.{opened, opened_as}
use Rattle.px_transport.proofs.Arriving.{comes_opened, comes_whole, comes_joined, comes_held, comes_nothing, comes_dropped}
use Rattle.px_transport.proofs.Arriving.{comes_copy, not_other}
use Rattle.px_transport.proofs.opening.take_packet.Goals as goal

pub returns-in-Whole-clause-comes : goal.returns-in-Whole-clause-comes
returns-in-Whole-clause-comes c mine hs h =
    let a = c.args in
    let s = a.sender.now in
    let b = a.packet.now in
    let f : packet_fault (keys_of s.keys) s.cluster s.members s.me b ≡ None = search rules in
    let x : c.in-Ok.header ≡ header_in (front_of b) = search rules in
    let y : c.in-Ok.body.now ≡ drop 37 (front_of b) = search rules in
    let o : opened (keys_of s.keys) (sealer_of s) b ≡ Some (c.in-Ok.header, c.in-Ok.body.now) =
    ap (λ f. opened_as f b) f ∙ ap (λ h. Some (h, drop 37 (front_of b))) (sym x)
    ∙ ap (λ m. Some (c.in-Ok.header, m)) (sym y) in
    let p : Header × List ℕ = (c.in-Ok.header, c.in-Ok.body.now) in
    let r = c.take.ensures mine hs h in
    let given = given_by mine r.0 hs p.0 p.1 a.now in
    comes_opened mine r.0 hs (opened (keys_of s.keys) (sealer_of s) b) p a.now c.take.new.self (length a.into.now)
    (coming.Given c.put_whole.result) c.put_whole.new.into o r.1
    (comes_whole p given c.in-Whole.datagram.now (length a.into.now) c.put_whole.result c.put_whole.new.into
    (sym (ap seen c.in-Whole.is) ∙ r.2) c.put_whole.ensures.fits c.put_whole.ensures.written)

pub returns-in-Joined-clause-comes : goal.returns-in-Joined-clause-comes
returns-in-Joined-clause-comes c mine hs h =
    let a = c.args in
    let s = a.sender.now in
    let b = a.packet.now in
    let f : packet_fault (keys_of s.keys) s.cluster s.members s.me b ≡ None = search rules in
    let x : c.in-Ok.header ≡ header_in (front_of b) = search rules in
    let y : c.in-Ok.body.now ≡ drop 37 (front_of b) = search rules in
    let o : opened (keys_of s.keys) (sealer_of s) b ≡ Some (c.in-Ok.header, c.in-Ok.body.now) =
    ap (λ f. opened_as f b) f ∙ ap (λ h. Some (h, drop 37 (front_of b))) (sym x)
    ∙ ap (λ m. Some (c.in-Ok.header, m)) (sym y) in
    let p : Header × List ℕ = (c.in-Ok.header, c.in-Ok.body.now) in
    let r = c.take.ensures mine hs h in
    let given = given_by mine r.0 hs p.0 p.1 a.now in
    comes_opened mine r.0 hs (opened (keys_of s.keys) (sealer_of s) b) p a.now c.take.new.self (length a.into.now)
    (coming.Given c.put_whole-in-Joined.result) c.put_whole-in-Joined.new.into o r.1
    (comes_joined p given c.in-Joined.datagram.items (length a.into.now) c.put_whole-in-Joined.result
    c.put_whole-in-Joined.new.into (sym (ap seen c.in-Joined.is) ∙ r.2) c.put_whole-in-Joined.ensures.fits
    (c.put_whole-in-Joined.ensures.written ∙ ap (within (length a.into.now)) c.as_slice.ensures.value))

pub returns-in-Held-clause-comes : goal.returns-in-Held-clause-comes
returns-in-Held-clause-comes c mine hs h =
    let a = c.args in
    let s = a.sender.now in
    let b = a.packet.now in
    let f : packet_fault (keys_of s.keys) s.cluster s.members s.me b ≡ None = search rules in
    let x : c.in-Ok.header ≡ header_in (front_of b) = search rules in
    let y : c.in-Ok.body.now ≡ drop 37 (front_of b) = search rules in
    let o : opened (keys_of s.keys) (sealer_of s) b ≡ Some (c.in-Ok.header, c.in-Ok.body.now) =
    ap (λ f. opened_as f b) f ∙ ap (λ h. Some (h, drop 37 (front_of b))) (sym x)
    ∙ ap (λ m. Some (c.in-Ok.header, m)) (sym y) in
    let p : Header × List ℕ = (c.in-Ok.header, c.in-Ok.body.now) in
    let r = c.take.ensures mine hs h in
    let given = given_by mine r.0 hs p.0 p.1 a.now in
    comes_opened mine r.0 hs (opened (keys_of s.keys) (sealer_of s) b) p a.now c.take.new.self (length a.into.now)
    (coming.Held c.in-Ok.header.from c.in-Held.held) a.into.now o r.1
    (comes_held p given c.in-Held.held (length a.into.now) a.into.now (sym (ap seen c.in-Held.is) ∙ r.2))

pub returns-in-Nothing-clause-comes : goal.returns-in-Nothing-clause-comes
returns-in-Nothing-clause-comes c mine hs h =
    let a = c.args in
    let s = a.sender.now in
    let b = a.packet.now in
    let f : packet_fault (keys_of s.keys) s.cluster s.members s.me b ≡ None = search rules in
    let x : c.in-Ok.header ≡ header_in (front_of b) = search rules in
    let y : c.in-Ok.body.now ≡ drop 37 (front_of b) = search rules in
    let o : opened (keys_of s.keys) (sealer_of s) b ≡ Some (c.in-Ok.header, c.in-Ok.body.now) =
    ap (λ f. opened_as f b) f ∙ ap (λ h. Some (h, drop 37 (front_of b))) (sym x)
    ∙ ap (λ m. Some (c.in-Ok.header, m)) (sym y) in
    let p : Header × List ℕ = (c.in-Ok.header, c.in-Ok.body.now) in
    let r = c.take.ensures mine hs h in
    let given = given_by mine r.0 hs p.0 p.1 a.now in
    comes_opened mine r.0 hs (opened (keys_of s.keys) (sealer_of s) b) p a.now c.take.new.self (length a.into.now)
    (coming.Given 0) a.into.now o r.1
    (comes_nothing p given (length a.into.now) a.into.now (sym (ap seen c.in-Nothing.is) ∙ r.2))

pub returns-in-Dropped-OtherMachine-clause-comes : goal.returns-in-Dropped-OtherMachine-clause-comes
returns-in-Dropped-OtherMachine-clause-comes c mine hs h =
    let a = c.args in
    let s = a.sender.now in
    let b = a.packet.now in
    let f : packet_fault (keys_of s.keys) s.cluster s.members s.me b ≡ None = search rules in
    let x : c.in-Ok.header ≡ header_in (front_of b) = search rules in
    let y : c.in-Ok.body.now ≡ drop 37 (front_of b) = search rules in
    let o : opened (keys_of s.keys) (sealer_of s) b ≡ Some (c.in-Ok.header, c.in-Ok.body.now) =
    ap (λ f. opened_as f b) f ∙ ap (λ h. Some (h, drop 37 (front_of b))) (sym x)
    ∙ ap (λ m. Some (c.in-Ok.header, m)) (sym y) in
    let p : Header × List ℕ = (c.in-Ok.header, c.in-Ok.body.now) in
    let r = c.take.ensures mine hs h in
    let given = given_by mine r.0 hs p.0 p.1 a.now in
    comes_opened mine r.0 hs (opened (keys_of s.keys) (sealer_of s) b) p a.now c.take.new.self (length a.into.now)
    coming.OtherMachine a.into.now o r.1
    (comes_copy p given c.in-Dropped-OtherMachine.field-0 (length a.into.now) a.into.now
    (sym (ap seen c.in-Dropped-OtherMachine.is) ∙ r.2) (search (rules, tests)))

pub returns-in-Dropped-clause-comes : goal.returns-in-Dropped-clause-comes
returns-in-Dropped-clause-comes c mine hs h =
    let a = c.args in
    let s = a.sender.now in
    let b = a.packet.now in
    let f : packet_fault (keys_of s.keys) s.cluster s.members s.me b ≡ None = search rules in
    let x : c.in-Ok.header ≡ header_in (front_of b) = search rules in
    let y : c.in-Ok.body.now ≡ drop 37 (front_of b) = search rules in
    let o : opened (keys_of s.keys) (sealer_of s) b ≡ Some (c.in-Ok.header, c.in-Ok.body.now) =
    ap (λ f. opened_as f b) f ∙ ap (λ h. Some (h, drop 37 (front_of b))) (sym x)
    ∙ ap (λ m. Some (c.in-Ok.header, m)) (sym y) in
    let p : Header × List ℕ = (c.in-Ok.header, c.in-Ok.body.now) in
    let r = c.take.ensures mine hs h in
    let given = given_by mine r.0 hs p.0 p.1 a.now in
    comes_opened mine r.0 hs (opened (keys_of s.keys) (sealer_of s) b) p a.now c.take.new.self (length a.into.now)
    coming.Dropped a.into.now o r.1
    (comes_dropped p given c.in-Dropped.field-0 (length a.into.now) a.into.now (sym (ap seen c.in-Dropped.is) ∙ r.2)
    (search (rules, tests, not_other)))
