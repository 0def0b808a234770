-- The grammar of packets in text form, production by production: which text spells which packet. It knows nothing of
-- how a string is read.
use Rattle.std.specs.Prelude.{◌≡◌, ◌≢◌, ℕ, true, List, [], ◌∷◌, ◌++◌, Option, Some, None, codes}
use Rattle.std.specs.Prelude.{not}
use Rattle.std.specs.List.{list_all}
use Rattle.pf_addr.specs.declared.addr.Addr.{Addr}
use Rattle.pf_rules.specs.declared.parts.Direction.{Direction}
use Rattle.pf_rules.specs.declared.parts.Direction.TheVariants.{In, Out}
use Rattle.pf_rules.specs.Names.{Name}
use Rattle.pf_rules.specs.declared.flags.TcpFlags.{TcpFlags}
use Rattle.pf_rules.specs.declared.profile.Profile.TheVariants.{One}
use Rattle.pf_rules.specs.Words.{is_interface_name, protocol_of, flags_of}
use Rattle.pf_eval.specs.Packets.{PacketValue}
use Rattle.pf_eval.specs.PacketTexts.{Word, is_blank, name_of, address_of, port_number_of, type_number_of, End, agrees}
use Rattle.pf_eval.specs.PacketTexts.{said_flags}

-- ---- tokens between blanks

-- some bytes, of which none is a blank
pub record IsWord (word : Word) : Type 0 where
  pub some : word ≢ []
  pub plain : list_all (λ b. not (is_blank b)) word ≡ true

-- one blank or more
pub data AreBlanks : List ℕ → Type 0 where
  LastBlank : (b : ℕ) → is_blank b ≡ true → AreBlanks (b ∷ [])
  MoreBlanks : (b : ℕ) (bs : List ℕ) → is_blank b ≡ true → AreBlanks bs → AreBlanks (b ∷ bs)

-- tokens with blanks between them, and none at either end
pub data AreSpaced : List ℕ → List Word → Type 0 where
  LastWord : (word : Word) → IsWord word → AreSpaced word (word ∷ [])
  MoreWords : (word blanks text : List ℕ) (words : List Word) → IsWord word → AreBlanks blanks →
      AreSpaced text words → AreSpaced (word ++ (blanks ++ text)) (word ∷ words)

-- ---- the parts of a packet

-- KEY VALUE
pub data IsKeyed {X : Type 0} (key : Word) (read : Word → Option X) : List Word → X → Type 0 where
  Keyed : (word : Word) (x : X) → read word ≡ Some x → IsKeyed key read (key ∷ word ∷ []) x

-- [KEY VALUE]
pub data IsOptional {X : Type 0} (key : Word) (read : Word → Option X) : List Word → Option X → Type 0 where
  Missing : IsOptional key read [] None
  Present : (ws : List Word) (x : X) → IsKeyed key read ws x → IsOptional key read ws (Some x)

-- "in" | "out"
pub data IsDirection : List Word → Direction → Type 0 where
  InWord : IsDirection (codes "in" ∷ []) In
  OutWord : IsDirection (codes "out" ∷ []) Out

-- {"group" IFNAME}
pub data AreGroups : List Word → List Name → Type 0 where
  NoGroup : AreGroups [] []
  OneGroup : (name : Name) (ws : List Word) (names : List Name) → is_interface_name One name ≡ true →
      AreGroups ws names → AreGroups (codes "group" ∷ name ∷ ws) (name ∷ names)

-- KEY ADDR ["port" N]
pub data IsEnd (key : Word) : List Word → End → Type 0 where
  EndOf : (ws us : List Word) (addr : Addr) (port : Option ℕ) → IsKeyed key address_of ws addr →
      IsOptional (codes "port") port_number_of us port → IsEnd key (ws ++ us) (record { addr = addr; port = port })

-- ---- the whole

-- in|out "on" IFNAME {"group" IFNAME} "proto" PROTO "from" ADDR ["port" N] "to" ADDR ["port" N] ["flags" LETTERS]
-- ["icmp-type" N], whose parts go together
pub record IsPacket (words : List Word) (k : PacketValue) : Type 0 where
  pub direction : List Word
  pub interface : List Word
  pub groups : List Word
  pub protocol : List Word
  pub source : List Word
  pub destination : List Word
  pub flags : List Word
  pub icmp_type : List Word
  pub said : Option TcpFlags
  pub whole : words ≡ direction ++
      (interface ++ (groups ++ (protocol ++ (source ++ (destination ++ (flags ++ icmp_type))))))
  pub is_direction : IsDirection direction k.direction
  pub is_interface : IsKeyed (codes "on") name_of interface k.interface
  pub are_groups : AreGroups groups k.groups
  pub is_protocol : IsKeyed (codes "proto") protocol_of protocol k.protocol
  pub is_source : IsEnd (codes "from") source (record { addr = k.source; port = k.source_port })
  pub is_destination : IsEnd (codes "to") destination (record { addr = k.destination; port = k.destination_port })
  pub are_flags : IsOptional (codes "flags") flags_of flags said
  pub flags_said : said_flags said ≡ k.flags
  pub is_type : IsOptional (codes "icmp-type") type_number_of icmp_type k.icmp_type
  pub agree : agrees k.groups k.protocol (record { addr = k.source; port = k.source_port })
      (record { addr = k.destination; port = k.destination_port }) said k.icmp_type ≡ true

-- the text of a packet
pub record IsPacketText (text : List ℕ) (k : PacketValue) : Type 0 where
  pub words : List Word
  pub are_words : AreSpaced text words
  pub is_packet : IsPacket words k
