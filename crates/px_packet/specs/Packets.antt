-- Sealed packets. A key is given as its block of HMAC.
use Rattle.std.specs.Prelude.{◌≡◌, ◌⊎◌, ℕ, ◌-◌, Bool, true, false, List, [], ◌∷◌, ◌++◌, length, take, drop, bytes_eq}
use Rattle.std.specs.Prelude.{Option, Some, if◌then◌else◌}
use Rattle.px_packet.specs.Hmac.{hmac_sha256, tag_under}
use Rattle.px_packet.specs.declared.fault.PacketFault.{PacketFault}
use Rattle.px_packet.specs.declared.fault.PacketFault.TheVariants as faults
use Rattle.px_packet.specs.Headers.{header_fault}

-- the key of packets that a cluster's key makes: its tag of `PFXS` and 2
abbrev pub packet_key : List ℕ → List ℕ
packet_key cluster_key = hmac_sha256 cluster_key (80 ∷ 70 ∷ 88 ∷ 83 ∷ 2 ∷ [])

-- the tag of a packet: the first 16 bytes of HMAC-SHA-256
abbrev pub tag_of : (key front : List ℕ) → List ℕ
tag_of key front = take 16 (tag_under key front)

-- header and body, and their tag
abbrev pub sealed : (key front : List ℕ) → List ℕ
sealed key front = front ++ tag_of key front

-- all but the last 16 bytes, none where there are fewer
abbrev pub front_of : List ℕ → List ℕ
front_of b = take (length b - 16) b

-- the last 16 bytes, or all where there are fewer
abbrev pub tail_of : List ℕ → List ℕ
tail_of b = drop (length b - 16) b

-- whether the last 16 bytes are the tag of those before them
abbrev pub is_sealed : (key : List ℕ) → List ℕ → Bool
is_sealed key b = bytes_eq (tail_of b) (tag_of key (front_of b))

-- whether they are that under one of the keys
abbrev pub is_authentic : (keys : List (List ℕ)) → List ℕ → Bool
is_authentic [] b = false
is_authentic (key ∷ keys) b = if is_sealed key b then true else is_authentic keys b

-- the key is one of these
abbrev pub Among : (keys : List (List ℕ)) → List ℕ → Type 0
Among [] key = ⊥
Among (k ∷ keys) key = (key ≡ k) ⊎ Among keys key

-- the first fault of a packet for this member of a cluster
abbrev pub packet_fault : (keys : List (List ℕ)) → (cluster members me : ℕ) → List ℕ → Option PacketFault
packet_fault keys cluster members me b =
    if is_authentic keys b then header_fault cluster members me (front_of b) else Some faults.Tag
