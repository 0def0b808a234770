-- A datagram without a fault is the spelling of its message.
use Rattle.std.proofs.Common.{◌≡◌, ℕ, ◌^◌, ◌≤◌, true, cond, leb, eqb, List, ◌∷◌, ◌++◌, drop, Some, None, sym, ap, subst, ◌∙◌}
use Rattle.std.specs.Prelude.{◌&&◌, ◌||◌, not, IfOk, Result, Ok, Err}
use Rattle.std.specs.Int.{w32, to_be_bytes}
use Rattle.std.proofs.lemmas.Bool.{leb-true, eqb-true}
use Rattle.pf_entry.proofs.Takes.{IsBytes, wide32, both_true}
use Rattle.px_wire.specs.declared.membership.Membership.{Membership}
use Rattle.px_wire.specs.declared.fault.WireFault.{WireFault}
use Rattle.px_wire.specs.Message as messages
use Rattle.px_wire.specs.Message.{group, Message, is_party, is_kind, HasSpelling, DatagramBytes, spelling}
use Rattle.px_wire.specs.Fields.{Field, field, first_fault, fields, body, value, datagram, u8, u32}
use Rattle.px_wire.specs.Seen.{Answers}
use Rattle.px_wire.proofs.Slices.{clear_field, cut, cut8, option_map_ok}
use Rattle.px_wire.proofs.Bodies.{body_law}

kind_range : (from to k : ℕ) → is_kind from to k ≡ true → (1 ≤ k) × (k ≤ 12)
kind_range from to k h =
    let a = both_true (leb 1 k && leb k 12 && cond (eqb k 8) (eqb from 255) (not (eqb from 255))) (cond (eqb k 9 || eqb k 10) (eqb to 255) (not (eqb to 255))) h in
    let b = both_true (leb 1 k && leb k 12) (cond (eqb k 8) (eqb from 255) (not (eqb from 255))) a.0 in
    let c = both_true (leb 1 k) (leb k 12) b.0 in
    (leb-true _ _ c.0, leb-true _ _ c.1)

pub datagram_law : (m : Membership) (bytes : List ℕ) (from : ℕ) (message : Message) → IsBytes bytes → first_fault (fields m bytes) 0 bytes ≡ None → datagram bytes ≡ Some (from, message) → DatagramBytes (group m) from m.me message bytes
datagram_law m bytes from message fits clear is =
    let v = option_map_ok (λ v. (u8 10 bytes, v)) (value (u8 12 bytes) bytes) (from, message) is in
    let from_is : u8 10 bytes ≡ from = ap (λ (p : ℕ × Message). p.0) v.2 in
    let message_is : v.0 ≡ message = ap (λ (p : ℕ × Message). p.1) v.2 in
    let rest6 : List Field = body m (u8 10 bytes) (u8 12 bytes) bytes in
    let f6 : Field = field 12 1 55 (is_kind (u8 10 bytes) m.me (u8 12 bytes)) in
    let f5 : Field = field 11 1 54 (eqb (u8 11 bytes) m.me) in
    let f4 : Field = field 10 1 54 (is_party (group m) (u8 10 bytes)) in
    let f3 : Field = field 9 1 54 (eqb (u8 9 bytes) m.members) in
    let f2 : Field = field 5 4 53 (eqb (u32 5 bytes) m.cluster) in
    let f1 : Field = field 4 1 52 (eqb (u8 4 bytes) 1) in
    let f0 : Field = field 0 4 51 (eqb (u32 0 bytes) 0x50465852) in
    let s0 = clear_field f0 (f1 ∷ f2 ∷ f3 ∷ f4 ∷ f5 ∷ f6 ∷ rest6) 0 bytes clear in
    let s1 = clear_field f1 (f2 ∷ f3 ∷ f4 ∷ f5 ∷ f6 ∷ rest6) 4 bytes s0.2 in
    let s2 = clear_field f2 (f3 ∷ f4 ∷ f5 ∷ f6 ∷ rest6) 5 bytes s1.2 in
    let s3 = clear_field f3 (f4 ∷ f5 ∷ f6 ∷ rest6) 9 bytes s2.2 in
    let s4 = clear_field f4 (f5 ∷ f6 ∷ rest6) 10 bytes s3.2 in
    let s5 = clear_field f5 (f6 ∷ rest6) 11 bytes s4.2 in
    let s6 = clear_field f6 rest6 12 bytes s5.2 in
    let range = kind_range (u8 10 bytes) m.me (u8 12 bytes) s6.1 in
    let b = body_law m (u8 10 bytes) (u8 12 bytes) bytes v.0 range.0 range.1 fits s6.2 v.1 in
    let d12 : drop 12 bytes ≡ messages.kind v.0 ∷ messages.body v.0 = cut8 12 bytes fits s6.0 ∙ ap (λ (t : List ℕ). u8 12 bytes ∷ t) b.body_is ∙ ap (λ (k : ℕ). k ∷ messages.body v.0) (sym b.kind_is) in
    let d11 : drop 11 bytes ≡ m.me ∷ (messages.kind v.0 ∷ messages.body v.0) = cut8 11 bytes fits s5.0 ∙ ap (λ (t : List ℕ). u8 11 bytes ∷ t) d12 ∙ ap (λ (k : ℕ). k ∷ (messages.kind v.0 ∷ messages.body v.0)) (eqb-true (u8 11 bytes) m.me s5.1) in
    let d10 : drop 10 bytes ≡ u8 10 bytes ∷ (m.me ∷ (messages.kind v.0 ∷ messages.body v.0)) = cut8 10 bytes fits s4.0 ∙ ap (λ (t : List ℕ). u8 10 bytes ∷ t) d11 in
    let t10 : List ℕ = u8 10 bytes ∷ (m.me ∷ (messages.kind v.0 ∷ messages.body v.0)) in
    let d9 : drop 9 bytes ≡ m.members ∷ t10 = cut8 9 bytes fits s3.0 ∙ ap (λ (t : List ℕ). u8 9 bytes ∷ t) d10 ∙ ap (λ (k : ℕ). k ∷ t10) (eqb-true (u8 9 bytes) m.members s3.1) in
    let d5 : drop 5 bytes ≡ to_be_bytes w32 m.cluster ++ (m.members ∷ t10) = cut w32 (2 ^ 32) wide32 5 bytes fits s2.0 ∙ ap (λ (t : List ℕ). to_be_bytes w32 (u32 5 bytes) ++ t) d9 ∙ ap (λ (k : ℕ). to_be_bytes w32 k ++ (m.members ∷ t10)) (eqb-true (u32 5 bytes) m.cluster s2.1) in
    let t5 : List ℕ = to_be_bytes w32 m.cluster ++ (m.members ∷ t10) in
    let d4 : drop 4 bytes ≡ 1 ∷ t5 = cut8 4 bytes fits s1.0 ∙ ap (λ (t : List ℕ). u8 4 bytes ∷ t) d5 ∙ ap (λ (k : ℕ). k ∷ t5) (eqb-true (u8 4 bytes) 1 s1.1) in
    let d0 : bytes ≡ to_be_bytes w32 0x50465852 ++ (1 ∷ t5) = cut w32 (2 ^ 32) wide32 0 bytes fits s0.0 ∙ ap (λ (t : List ℕ). to_be_bytes w32 (u32 0 bytes) ++ t) d4 ∙ ap (λ (k : ℕ). to_be_bytes w32 k ++ (1 ∷ t5)) (eqb-true (u32 0 bytes) 0x50465852 s0.1) in
    let made : DatagramBytes (group m) (u8 10 bytes) m.me v.0 bytes = record { fits = record { sender = s4.1; addressee = m.placed; kind = ap (is_kind (u8 10 bytes) m.me) b.kind_is ∙ s6.1; body = b.allowed }; spelled = d0 } in
    subst (λ (p : ℕ × Message). DatagramBytes (group m) p.0 m.me p.1 bytes) v.2 made

-- ---- what `decode` answers

pub found_is : {V : Type 0} (view : V → ℕ × Message) (m : Membership) (bytes : List ℕ) (r : Result V WireFault) → IsBytes bytes → Answers (λ x. Some (view x)) r (first_fault (fields m bytes) 0 bytes) (datagram bytes) → IfOk r (λ x. DatagramBytes (group m) (view x).0 m.me (view x).1 bytes)
found_is view m bytes (Ok x) fits e = datagram_law m bytes (view x).0 (view x).1 fits e.0 (sym e.1)
found_is view m bytes (Err f) fits e = tt
