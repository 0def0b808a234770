-- A key's text.
use Rattle.std.specs.Prelude.{◌≡◌, ℕ, List, [], ◌∷◌, ◌++◌, length, Ok, IsOk}
use Rattle.hex.specs.Hex.{encode_lower, decode_sized, IsBytes}
use Rattle.px_packet.specs.Texts.{line}

-- 64 digits and a newline
abbrev pub key_text : List ℕ → List ℕ
key_text k = encode_lower k ++ 10 ∷ []

-- the text is 64 hexadecimal digits, with a newline at most behind them, and these are its bytes
abbrev pub IsKey : (text k : List ℕ) → Type 0
IsKey text k = decode_sized (line text) 32 ≡ Ok k

-- the text is no key's
abbrev pub IsNoKey : (text : List ℕ) → Type 0
IsNoKey text = IsOk (decode_sized (line text) 32) → ⊥

-- the text of a key is read as that key
abbrev pub WrittenIsRead : Type 0
WrittenIsRead = (k : List ℕ) → length k ≡ 32 → IsBytes k → IsKey (key_text k) k
