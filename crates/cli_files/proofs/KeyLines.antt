-- A key's text is read as it was written.
use Rattle.std.proofs.Common.{◌≡◌, ℕ, ◌-◌, List, [], ◌∷◌, ◌++◌, length, slice_index, arith, refl}
use Rattle.std.proofs.lemmas.List.{length-append}
use Rattle.std.proofs.Math.Seq.{take-append_seam, get_or-append_seam}
use Rattle.hex.specs.Hex.{encode_lower}
use Rattle.hex.proofs.HexLemmas.{decode_sized-encode_lower}
use Rattle.px_packet.specs.Texts.{line}
use Rattle.cli_files.specs.KeyTexts.{WrittenIsRead}

-- what is before the last
front-of : (t : List ℕ) → length (t ++ 10 ∷ []) - 1 ≡ length t
front-of t = omega (arith, length-append t (10 ∷ []))

-- a newline at the end is left out
line-newline : (t : List ℕ) → line (t ++ 10 ∷ []) ≡ t
line-newline t =
    let last : slice_index (t ++ 10 ∷ []) (length t) ≡ 10 = get_or-append_seam t 10 [] _ in
    rw (front-of t, last, take-append_seam) refl

pub written_is_read : WrittenIsRead
written_is_read k n b = rw (line-newline (encode_lower k)) (decode_sized-encode_lower k 32 n b)
