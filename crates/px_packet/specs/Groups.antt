-- The key of a cluster's tags: made of its secret, its number, and where its members listen.
use Rattle.std.specs.Prelude.{ℕ, List, [], ◌∷◌, ◌++◌, length}
use Rattle.std.specs.Int.{w32, w64, to_be_bytes}
use Rattle.px_packet.specs.Hmac.{hmac_sha256}

-- each text behind its length, of 8 bytes
abbrev pub sized : List (List ℕ) → List ℕ
sized [] = []
sized (text ∷ texts) = to_be_bytes w64 (length text) ++ (text ++ sized texts)

-- the cluster's number, of 4 bytes, and the members' addresses
abbrev pub group_bytes : (cluster : ℕ) → (members : List (List ℕ)) → List ℕ
group_bytes cluster members = to_be_bytes w32 cluster ++ sized members

-- the secret's tag of those
abbrev pub group_key : (secret : List ℕ) → (cluster : ℕ) → (members : List (List ℕ)) → List ℕ
group_key secret cluster members = hmac_sha256 secret (group_bytes cluster members)
