-- The key of a cluster, in a file.
use Rattle.std.specs.Prelude.{◌≡◌, ℕ, List, Option, IfSome, bit_and}
use Rattle.px_packet.specs.Groups.{group_key}
use Rattle.cli_files.specs.KeyTexts.{IsKey}

-- nobody but the owner may do anything with a file of this mode
abbrev pub IsPrivate : (mode : ℕ) → Type 0
IsPrivate mode = bit_and mode 0o077 ≡ 0

-- this is the key of a cluster's datagrams that a secret's text makes with the cluster's number and the members'
-- addresses
abbrev pub IsClusterKey : (text : List ℕ) → (cluster : ℕ) → (members : List (List ℕ)) → (key : List ℕ) → Type 0
IsClusterKey text cluster members key =
    (secret : List ℕ) × IsKey text secret × (key ≡ group_key secret cluster members)

-- the same of what is left to read of some file
abbrev pub IsKeyOfFile : {F : Type 0} → (remaining : F → Option (List ℕ)) → (cluster : ℕ) →
    (members : List (List ℕ)) → (key : List ℕ) → Type 0
IsKeyOfFile {F} remaining cluster members key =
    (file : F) × IfSome (remaining file) (λ text. IsClusterKey text cluster members key)
