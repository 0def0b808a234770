-- What is known of keys of packets.
use Rattle.std.specs.Prelude.{ℕ, List, [], ◌∷◌, Option, Some, None, option_map}
use Rattle.px_packet.specs.HmacKeyed as hmac
use Rattle.px_packet.specs.declared.key.PacketKey.{PacketKey}
use Rattle.px_packet.specs.declared.keys.PacketKeys.{PacketKeys}

-- the block of a key
abbrev pub block_of : PacketKey → List ℕ
block_of k = hmac.block_of k.key

-- a key, and another where there is one
abbrev pub and_key : List ℕ → Option (List ℕ) → List (List ℕ)
and_key key None = key ∷ []
and_key key (Some other) = key ∷ other ∷ []

-- the key that packets are sealed with
abbrev pub key_of : PacketKeys → List ℕ
key_of k = block_of k.key

-- the keys of packets that are opened
abbrev pub keys_of : PacketKeys → List (List ℕ)
keys_of k = and_key (block_of k.key) (option_map block_of k.other)
