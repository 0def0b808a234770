-- Pieces that have the same bytes.
use Rattle.std.proofs.Common.{◌≡◌, ◌∙◌, ℕ, List, take, drop, get_or, ap, sym}
use Rattle.std.specs.Int.{w16, w32, from_be_bytes}
use Rattle.std.proofs.lemmas.Nat.{from_be_bytes-to_be_bytes_2, from_be_bytes-to_be_bytes_4}
use Rattle.px_packet.specs.Pieces.{Piece}
use Rattle.px_packet.specs.PieceLaws.{PiecesDiffer}

abbrev made : (name size index : ℕ) → (part : List ℕ) → Piece
made name size index part = record { name = name; size = size; index = index; part = part }

pub pieces_differ : PiecesDiffer
pieces_differ p q a b c d e =
    let name : p.name ≡ q.name =
    sym (from_be_bytes-to_be_bytes_4 p.name a) ∙ ap (λ x. from_be_bytes w32 (take 4 x)) e
    ∙ from_be_bytes-to_be_bytes_4 q.name b in
    let size : p.size ≡ q.size =
    sym (from_be_bytes-to_be_bytes_2 p.size c) ∙ ap (λ x. from_be_bytes w16 (take 2 (drop 4 x))) e
    ∙ from_be_bytes-to_be_bytes_2 q.size d in
    let index : p.index ≡ q.index = ap (λ x. get_or x 6 0) e in
    let part : p.part ≡ q.part = ap (drop 7) e in
    same p q name size index part
  where
    same : (p q : Piece) → p.name ≡ q.name → p.size ≡ q.size → p.index ≡ q.index → p.part ≡ q.part → p ≡ q
    same p q a b c d =
        ap (λ x. made x p.size p.index p.part) a ∙ ap (λ x. made q.name x p.index p.part) b
        ∙ ap (λ x. made q.name q.size x p.part) c ∙ ap (λ x. made q.name q.size q.index x) d
