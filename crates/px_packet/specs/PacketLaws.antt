-- Laws of packets.
use Rattle.std.specs.Prelude.{◌≡◌, ◌≢◌, ℕ, ◌<◌, ◌^◌, List, ◌++◌, get_or, drop, None}
use Rattle.px_packet.specs.declared.header.Header.{Header}
use Rattle.px_packet.specs.Headers.{header_bytes, header_fault, header_in}
use Rattle.px_packet.specs.Packets.{Among, sealed, front_of, packet_fault}

-- the header's numbers have room in its fields
pub record HeaderFits (h : Header) : Type 0 where
  pub cluster : h.cluster < 2 ^ 32
  pub start_number : h.start.number < 2 ^ 32
  pub start_salt : h.start.salt < 2 ^ 32
  pub echo_number : h.echo.number < 2 ^ 32
  pub echo_salt : h.echo.salt < 2 ^ 32
  pub counter : h.counter < 2 ^ 64

-- it is for this member of a cluster, from another, with a start and a counter that are not 0
pub record IsFor (cluster members me : ℕ) (h : Header) : Type 0 where
  pub cluster_is : h.cluster ≡ cluster
  pub members_is : h.members ≡ members
  pub sender : h.from < members
  pub not_me : h.from ≢ me
  pub receiver : h.to ≡ me
  pub start : h.start.number ≢ 0
  pub counter : h.counter ≢ 0

abbrev pub AreBytes : List ℕ → Type 0
AreBytes b = (i : ℕ) → get_or b i 0 < 256

abbrev pub HeaderIsRead : Type 0
HeaderIsRead = (cluster members me : ℕ) (h : Header) (body : List ℕ) → HeaderFits h → IsFor cluster members me h →
    (header_fault cluster members me (header_bytes h ++ body) ≡ None) ×
    (header_in (header_bytes h ++ body) ≡ h) × (drop 37 (header_bytes h ++ body) ≡ body)

abbrev pub HeaderIsWritten : Type 0
HeaderIsWritten = (cluster members me : ℕ) (b : List ℕ) → AreBytes b → header_fault cluster members me b ≡ None →
    (b ≡ header_bytes (header_in b) ++ drop 37 b) × IsFor cluster members me (header_in b)

abbrev pub PacketOpens : Type 0
PacketOpens = (keys : List (List ℕ)) (key : List ℕ) (cluster members me : ℕ) (h : Header) (body : List ℕ) →
    Among keys key → HeaderFits h → IsFor cluster members me h →
    let b = sealed key (header_bytes h ++ body) in
    (packet_fault keys cluster members me b ≡ None) × (header_in (front_of b) ≡ h) × (drop 37 (front_of b) ≡ body)

abbrev pub OpenedWasSealed : Type 0
OpenedWasSealed = (keys : List (List ℕ)) (cluster members me : ℕ) (b : List ℕ) → AreBytes b →
    packet_fault keys cluster members me b ≡ None →
    (key : List ℕ) × Among keys key × (b ≡ sealed key (header_bytes (header_in (front_of b)) ++ drop 37 (front_of b))) ×
    IsFor cluster members me (header_in (front_of b))

-- what is in front of the tag of a packet is what was sealed
abbrev pub FrontWasSealed : Type 0
FrontWasSealed = (key front : List ℕ) → front_of (sealed key front) ≡ front
