-- Packets that are opened.
use Rattle.std.proofs.Common.{◌≡◌, ◌∙◌, ℕ, ◌<◌, Bool, true, false, List, ◌++◌, take, drop, ap, sym, refl, arith, subst, inl, inr, Option, Some, None}
use Rattle.std.specs.Prelude.{if◌then◌else◌}
use Rattle.std.proofs.lemmas.Bool.{cases_lt}
use Rattle.std.proofs.lemmas.List.{get_or-take, get_or_past, length-take}
use Rattle.px_packet.specs.declared.fault.PacketFault.{PacketFault}
use Rattle.px_packet.specs.Headers.{header_bytes, header_fault, header_in}
use Rattle.px_packet.specs.Packets.{sealed, front_of, is_authentic}
use Rattle.px_packet.specs.PacketLaws.{AreBytes, PacketOpens, OpenedWasSealed}
use Rattle.px_packet.proofs.Sealing.{front_is, sealed_is, authentic, sealer}
use Rattle.px_packet.proofs.Headers.{header_is_read, header_is_written}

pub packet_opens : PacketOpens
packet_opens keys key cluster members me h body among fits for =
    let m = header_bytes h ++ body in
    let front = front_is key m in
    let read = header_is_read cluster members me h body fits for in (
      at (is_authentic keys (sealed key m)) (header_fault cluster members me (front_of (sealed key m))) _
          (authentic keys key (sealed key m) among (sealed_is key m))
          (ap (header_fault cluster members me) front ∙ read.0),
      ap header_in front ∙ read.1,
      ap (drop 37) front ∙ read.2,
    )
  where
    at : (b : Bool) (x y : Option PacketFault) → b ≡ true → x ≡ None → (if b then x else y) ≡ None
    at true x y e f = f
    at false x y e f = absurd cc

bytes_before : (b : List ℕ) (n : ℕ) → AreBytes b → AreBytes (take n b)
bytes_before b n h i =
    let P : ℕ → Type 0 = λ x. x < 256 in
    elim (cases_lt i n) [
      | inl l ↦ subst P (sym (get_or-take n b i 0 l)) (h i)
      | inr g ↦ subst P (sym (get_or_past (take n b) i 0 (omega (arith, length-take n b, g)))) (omega arith)
    ]

both : (b : Bool) (x : Option PacketFault) (f : PacketFault) → (if b then x else Some f) ≡ None → (b ≡ true) × (x ≡ None)
both true x f e = (refl, e)
both false x f e = absurd cc

pub opened_was_sealed : OpenedWasSealed
opened_was_sealed keys cluster members me b bytes e =
    let parts = both (is_authentic keys b) (header_fault cluster members me (front_of b)) _ e in
    let by = sealer keys b parts.0 in
    let read = header_is_written cluster members me (front_of b) (bytes_before b _ bytes) parts.1 in
    (by.0, by.1, by.2 ∙ ap (sealed by.0) read.0, read.1)
