-- What is known of a key.
use Rattle.std.specs.Prelude.{ℕ, List}
use Rattle.px_packet.specs.declared.hmac_key.HmacKey.{HmacKey}

-- the block of the key
abbrev pub block_of : HmacKey → List ℕ
block_of k = k.block
