-- What only code and proofs use beside `Spelling`.
use Rattle.std.specs.Prelude.{ℕ, [], ◌∷◌, ◌++◌, take, drop}
use Rattle.std.specs.Int.{to_be_bytes, w64}
use Rattle.px_model.specs.Spelling.{Bytes}

-- the spelling of the same command, asked by o as its request k
unfoldable pub renamed : Bytes → (o k : ℕ) → Bytes
renamed bytes o k = ((take 1 bytes ++ o ∷ []) ++ to_be_bytes w64 k) ++ drop 10 bytes
