-- Bodies that are read.
use Rattle.std.proofs.Common.{◌≡◌, ◌∙◌, ℕ, ◌*◌, ◌^◌, ◌<◌, ◌≤◌, Bool, true, false, List, length, ap, sym, refl, arith, Some, None}
use Rattle.std.specs.Prelude.{◌==◌, ◌&&◌, nat_le, nat_lt, if◌then◌else◌}
use Rattle.std.specs.Int.{w16, w32, to_be_bytes, from_be_bytes}
use Rattle.std.proofs.lemmas.Bool.{and_parts, leb-true, ltb-true, eqb-true, and_from, le-leb, lt-ltb, eq-eqb, both_ways}
use Rattle.std.proofs.lemmas.Nat.{from_be_bytes-to_be_bytes_2, from_be_bytes-to_be_bytes_4}
use Rattle.px_packet.specs.Headers.{number}
use Rattle.px_packet.specs.Pieces.{Piece, IsFormed, piece_bytes, part_length}
use Rattle.px_packet.specs.Held.{held_bytes}
use Rattle.px_packet.specs.declared.held.PiecesHeld.{PiecesHeld}
use Rattle.px_transport.specs.Bodies.{is_formed, fields_in, piece_in, held_in}

-- ---- whether the fields of a piece fit together

formed : (p : Piece) → IsFormed p → is_formed p ≡ true
formed p f =
    and_from _ _ (le-leb p.size 33640 f.short) (and_from _ _ (lt-ltb (1160 * p.index) p.size f.inside)
    (eq-eqb (length p.part) (part_length p.size p.index) f.long))

pub is_formed_is : (p : Piece) → is_formed p ≡ true → IsFormed p
is_formed_is p h =
    let a = and_parts (nat_le p.size 33640)
    (nat_lt (1160 * p.index) p.size && (length p.part == part_length p.size p.index)) h in
    let b = and_parts (nat_lt (1160 * p.index) p.size) (length p.part == part_length p.size p.index) a.1 in
    record {
      short = leb-true p.size 33640 a.0;
      inside = ltb-true (1160 * p.index) p.size b.0;
      long = eqb-true (length p.part) (part_length p.size p.index) b.1;
    }

-- ---- the fields that are written are read

abbrev made : (name size index : ℕ) → (part : List ℕ) → Piece
made n s i part = record { name = n; size = s; index = i; part = part }

fields_read : (p : Piece) → p.name < 2 ^ 32 → p.size < 2 ^ 16 → fields_in (piece_bytes p) ≡ p
unfolding number
fields_read p n s =
    ap (λ x. made x (from_be_bytes w16 (to_be_bytes w16 p.size)) p.index p.part) (from_be_bytes-to_be_bytes_4 p.name n)
    ∙ ap (λ x. made p.name x p.index p.part) (from_be_bytes-to_be_bytes_2 p.size s)

piece_at : (p q : Piece) → p ≡ q → is_formed q ≡ true → (if is_formed p then Some p else None) ≡ Some q
piece_at p q e h = at (is_formed p) refl
  where
    at : (b : Bool) → is_formed p ≡ b → (if b then Some p else None) ≡ Some q
    at true f = ap Some e
    at false f = let g : true ≡ false = sym h ∙ ap is_formed (sym e) ∙ f in absurd cc

pub piece_read : (p : Piece) → p.name < 2 ^ 32 → IsFormed p → piece_in (piece_bytes p) ≡ Some p
piece_read p n f =
    let short : p.size ≤ 33640 = f.short in
    piece_at (fields_in (piece_bytes p)) p (fields_read p n (omega (arith, short))) (formed p f)

-- ---- which pieces are held

abbrev held_of : (name bits : ℕ) → PiecesHeld
held_of n b = record { name = n; bits = b }

held_at : (b : List ℕ) (h : PiecesHeld) (c : Bool) → (length b == 8) ≡ c → length b ≡ 8 →
    held_of (number w32 0 b) (number w32 4 b) ≡ h →
    (if c then Some (held_of (number w32 0 b) (number w32 4 b)) else None) ≡ Some h
held_at b h true e l same = ap Some same
held_at b h false e l same = let t : (length b == 8) ≡ true = eq-eqb (length b) 8 l in absurd (both_ways (length b == 8) e t)

held_fields : (h : PiecesHeld) → h.name < 2 ^ 32 → h.bits < 2 ^ 32 →
    held_of (number w32 0 (held_bytes h)) (number w32 4 (held_bytes h)) ≡ h
unfolding number
held_fields h n b =
    ap (λ x. held_of x (from_be_bytes w32 (to_be_bytes w32 h.bits))) (from_be_bytes-to_be_bytes_4 h.name n)
    ∙ ap (held_of h.name) (from_be_bytes-to_be_bytes_4 h.bits b)

pub held_read : (b : List ℕ) (h : PiecesHeld) → h.name < 2 ^ 32 → h.bits < 2 ^ 32 → b ≡ held_bytes h → held_in b ≡ Some h
held_read b h n k e =
    ap held_in e ∙ held_at (held_bytes h) h (length (held_bytes h) == 8) refl refl (held_fields h n k)
