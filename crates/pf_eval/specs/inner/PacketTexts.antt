-- What only code and proofs use beside `PacketTexts`.
use Rattle.std.specs.Prelude.{Bool, true, false, List, [], ◌∷◌}
use Rattle.pf_eval.specs.PacketTexts.{Word}

-- ---- reading from the front: a value and the tokens after it, or none

abbrev pub is_empty : List Word → Bool
is_empty [] = true
is_empty (w ∷ ws) = false
