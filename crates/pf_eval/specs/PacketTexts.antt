-- How a packet record is spelled: tokens between blanks, in a fixed order.
use Rattle.std.specs.Prelude.{ℕ, ◌-◌, ◌==◌, ◌&&◌, ◌||◌, Bool, true, false, List, [], ◌∷◌}
use Rattle.std.specs.Prelude.{◌++◌, drop, length, Option, Some, None, is_some, not, nat_le, bytes_eq, codes, get_or}
use Rattle.std.specs.Prelude.{if◌then◌else◌}
use Rattle.std.specs.Result.{result_ok}
use Rattle.pf_addr.specs.declared.addr.Addr.{Addr}
use Rattle.pf_addr.specs.declared.addr.Addr.TheVariants.{V4, V6}
use Rattle.pf_addr.specs.Spelling.{addr_of}
use Rattle.pf_rules.specs.declared.parts.Direction.{Direction}
use Rattle.pf_rules.specs.declared.parts.Direction.TheVariants.{In, Out}
use Rattle.pf_rules.specs.declared.flags.TcpFlags.{TcpFlags}
use Rattle.pf_rules.specs.declared.profile.Profile.TheVariants.{One}
use Rattle.pf_rules.specs.Words.{is_interface_name, protocol_of, number_of, flags_of, no_flags}
use Rattle.pf_eval.specs.Packets.{PacketValue}

-- ---- tokens

-- the bytes of a token
abbrev pub Word : Type 0
Word = List ℕ

-- space and tab
abbrev pub is_blank : ℕ → Bool
is_blank b = b == 32 || b == 9

-- a token, unless it is empty
abbrev pub ended : Word → List Word
ended [] = []
ended (b ∷ bytes) = (b ∷ bytes) ∷ []

-- the tokens in a string of which this token has begun: each longest run of bytes that are no blanks
abbrev pub words_from : Word → List ℕ → List Word
words_from begun [] = ended begun
words_from begun (b ∷ bytes) = if is_blank b then ended begun ++ words_from [] bytes
    else words_from (begun ++ b ∷ []) bytes

-- the tokens in a string: its longest runs of bytes that are no blanks, in their order
abbrev pub words : List ℕ → List Word
words text = words_from [] text

-- the first or the last byte is a blank
abbrev pub has_outer_blank : List ℕ → Bool
has_outer_blank text = is_blank (get_or text 0 0) || is_blank (get_or text (length text - 1) 0)

-- ---- reading from the front: a value and the tokens after it, or none

-- a value read from the front of tokens, and the tokens after it; or none
abbrev pub Read : Type 0 → Type 0
Read X = Option (X × List Word)

infixl 10 ◌>>=◌
-- what a second reading makes of the first one's value; none where either is none
abbrev pub ◌>>=◌ : {A B : Type 0} → Option A → (A → Option B) → Option B
(Some x) >>= f = f x
None >>= f = None

-- whether this keyword comes next
abbrev pub begins : Word → List Word → Bool
begins key [] = false
begins key (w ∷ ws) = bytes_eq w key

-- the next token
abbrev pub word_at : List Word → Read Word
word_at [] = None
word_at (w ∷ ws) = Some (w, ws)

-- KEY WORD
unfoldable pub word_after : Word → List Word → Read Word
word_after key ws = if begins key ws then word_at (drop 1 ws) else None

-- the next token, read by this function
unfoldable pub value : {X : Type 0} → (Word → Option X) → List Word → Read X
value read ws = do
  word ← word_at ws
  x ← read word.0
  Some (x, word.1)

-- KEY VALUE
unfoldable pub keyed : {X : Type 0} → Word → (Word → Option X) → List Word → Read X
keyed key read ws = do
  word ← word_after key ws
  x ← read word.0
  Some (x, word.1)

-- [KEY VALUE]
unfoldable pub optional : {X : Type 0} → Word → (Word → Option X) → List Word → Read (Option X)
optional key read ws = if begins key ws then (keyed key read ws >>= λ r. Some (Some r.0, r.1)) else Some (None, ws)

-- ---- the parts of a packet

-- "in" | "out"
abbrev pub direction_of : Word → Option Direction
direction_of w = if bytes_eq w (codes "in") then Some In else (if bytes_eq w (codes "out") then Some Out else None)

-- IFNAME, which is no word reserved in profile One
abbrev pub name_of : Word → Option Word
name_of w = if is_interface_name One w then Some w else None

-- ADDR
abbrev pub address_of : Word → Option Addr
address_of w = result_ok (addr_of w)

-- 0 to 65535 in one to five digits
abbrev pub port_number_of : Word → Option ℕ
port_number_of w = number_of 5 65535 w

-- 0 to 255 in one to three digits
abbrev pub type_number_of : Word → Option ℕ
type_number_of w = number_of 3 255 w

-- a name before those read behind it; none where these can't be read
abbrev pub put_name : Word → Read (List Word) → Read (List Word)
put_name name None = None
put_name name (Some r) = Some (name ∷ r.0, r.1)

-- {"group" IFNAME}
abbrev pub groups_at : List Word → Read (List Word)
groups_at [] = Some ([], [])
groups_at (w ∷ []) = if bytes_eq w (codes "group") then None else Some ([], w ∷ [])
groups_at (w ∷ v ∷ ws) =
    if bytes_eq w (codes "group") then (name_of v >>= λ name. put_name name (groups_at ws))
    else Some ([], w ∷ v ∷ ws)

-- an address and its port
pub record End : Type 0 where
  pub addr : Addr
  pub port : Option ℕ

-- KEY ADDR ["port" N]
unfoldable pub end_at : Word → List Word → Read End
end_at key ws = do
  addr ← keyed key address_of ws
  port ← optional (codes "port") port_number_of addr.1
  Some (record { addr = addr.0; port = port.0 }, port.1)

-- ---- what has to hold between them

-- both addresses are of one family
abbrev pub same_family : Addr → Addr → Bool
same_family (V4 a) (V4 b) = true
same_family (V6 a) (V6 b) = true
same_family (V4 a) (V6 b) = false
same_family (V6 a) (V4 b) = false

-- tcp and udp have ports
abbrev pub has_ports : ℕ → Bool
has_ports protocol = protocol == 6 || protocol == 17

-- a value is there exactly if it has to be
abbrev pub is_there_if : {X : Type 0} → Bool → Option X → Bool
is_there_if true o = is_some o
is_there_if false o = not (is_some o)

-- a value is there only if it may be
abbrev pub only_if : {X : Type 0} → Bool → Option X → Bool
only_if true o = true
only_if false o = not (is_some o)

-- the ends are of one family; ports are there for tcp and udp and for no other; flags are for tcp alone, types for icmp
-- alone; there are at most 16 groups
unfoldable pub agrees : List Word → ℕ → End → End → Option TcpFlags → Option ℕ → Bool
agrees groups protocol source destination flags icmp_type =
    nat_le (length groups) 16
    && same_family source.addr destination.addr
    && is_there_if (has_ports protocol) source.port && is_there_if (has_ports protocol) destination.port
    && only_if (protocol == 6) flags
    && only_if (protocol == 1) icmp_type

-- flags that aren't given are not set
abbrev pub said_flags : Option TcpFlags → TcpFlags
said_flags None = no_flags
said_flags (Some flags) = flags

-- ---- the whole

-- the value, if its parts agree and no token is left after it
abbrev pub at_end : {X : Type 0} → Bool → X → List Word → Option X
at_end true x [] = Some x
at_end true x (w ∷ ws) = None
at_end false x ws = None

-- in|out on IFNAME {group IFNAME} proto PROTO from ADDR [port N] to ADDR [port N] [flags LETTERS] [icmp-type N]
unfoldable pub packet_at : List Word → Option PacketValue
packet_at ws = do
  direction ← value direction_of ws
  interface ← keyed (codes "on") name_of direction.1
  groups ← groups_at interface.1
  protocol ← keyed (codes "proto") protocol_of groups.1
  source ← end_at (codes "from") protocol.1
  destination ← end_at (codes "to") source.1
  flags ← optional (codes "flags") flags_of destination.1
  icmp_type ← optional (codes "icmp-type") type_number_of flags.1
  at_end (agrees groups.0 protocol.0 source.0 destination.0 flags.0 icmp_type.0) (record {
    direction = direction.0;
    interface = interface.0;
    groups = groups.0;
    protocol = protocol.0;
    source = source.0.addr;
    source_port = source.0.port;
    destination = destination.0.addr;
    destination_port = destination.0.port;
    flags = said_flags flags.0;
    icmp_type = icmp_type.0;
  }) icmp_type.1

-- what a string spells, as a packet; no blank is at either end
-- Example: in on em0 proto tcp from 10.1.2.3 port 4000 to 192.0.2.1 port 22 flags A.
abbrev pub packet_of : List ℕ → Option PacketValue
packet_of text = if has_outer_blank text then None else packet_at (words text)
