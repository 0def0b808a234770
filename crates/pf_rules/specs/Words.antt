-- Tokens that stand for numbers, for flags and for names.
use Rattle.std.specs.Prelude.{ℕ, ◌+◌, ◌*◌, ◌-◌, ◌&&◌, ◌||◌, ◌==◌, Bool, true, false, List, []}
use Rattle.std.specs.Prelude.{◌∷◌, length, Option, Some, None, nat_le, nat_lt, not, bytes_eq, codes, fold}
use Rattle.std.specs.Prelude.{if◌then◌else◌}
use Rattle.std.specs.List.{list_all, list_any}
use Rattle.std.specs.Char.{is_ascii_digit, is_ascii_alphabetic, is_ascii_alphanumeric}
use Rattle.pf_rules.specs.declared.flags.TcpFlags.{TcpFlags}
use Rattle.pf_rules.specs.declared.profile.Profile.{Profile}
use Rattle.pf_rules.specs.declared.profile.Profile.TheVariants.{One, Two}

-- ---- numbers

-- the number with these decimal digits
abbrev pub decimal_value : List ℕ → ℕ
decimal_value digits = fold (λ n d. 10 * n + (d - 48)) 0 digits

-- one to that many digits
abbrev pub is_decimal : ℕ → List ℕ → Bool
is_decimal most text = nat_lt 0 (length text) && nat_le (length text) most && list_all is_ascii_digit text

-- one to that many digits, whose number is at most this; leading zeros may be among the digits
unfoldable pub number_of : ℕ → ℕ → List ℕ → Option ℕ
number_of digits most text = if is_decimal digits text && nat_le (decimal_value text) most
    then Some (decimal_value text) else None

-- ---- numbers with names

-- a name and its number
abbrev pub Named : Type 0
Named = List ℕ × ℕ

-- the number of the name in the table
abbrev pub named : List Named → List ℕ → Option ℕ
named [] text = None
named (row ∷ rows) text = if bytes_eq text row.0 then Some row.1 else named rows text

-- the first number if there is one, else the other, if there is one
abbrev pub or_else : Option ℕ → Option ℕ → Option ℕ
or_else (Some n) other = Some n
or_else None other = other

-- protocols(5), those that have a name here
abbrev pub protocols : List Named
protocols =
    (codes "icmp", 1) ∷ (codes "igmp", 2) ∷ (codes "tcp", 6) ∷ (codes "udp", 17) ∷ (codes "gre", 47) ∷
    (codes "esp", 50)
    ∷ (codes "ah", 51) ∷ (codes "icmp6", 58) ∷ (codes "ospf", 89) ∷ (codes "carp", 112) ∷
    (codes "pfsync", 240) ∷ []

-- a protocol: 0 to 255 in one to three digits, or a name
abbrev pub protocol_of : List ℕ → Option ℕ
protocol_of text = or_else (named protocols text) (number_of 3 255 text)

-- services(5), those that have a name here
abbrev pub services : List Named
services =
    (codes "ftp", 21) ∷ (codes "ssh", 22) ∷ (codes "telnet", 23) ∷ (codes "smtp", 25) ∷ (codes "domain", 53)
    ∷ (codes "www", 80) ∷ (codes "http", 80) ∷ (codes "pop3", 110) ∷ (codes "ntp", 123) ∷ (codes "imap", 143)
    ∷ (codes "snmp", 161) ∷ (codes "bgp", 179) ∷ (codes "ldap", 389) ∷ (codes "https", 443) ∷
    (codes "submission", 587) ∷ []

-- a port: 0 to 65535 in one to five digits, or a name
abbrev pub port_of : List ℕ → Option ℕ
port_of text = or_else (named services text) (number_of 5 65535 text)

-- RFC 792, the types that have a name here
abbrev pub icmp_types : List Named
icmp_types = (codes "echoreq", 8) ∷ (codes "echorep", 0) ∷ []

-- a type: 0 to 255 in one to three digits, or a name
abbrev pub icmp_type_of : List ℕ → Option ℕ
icmp_type_of text = or_else (named icmp_types text) (number_of 3 255 text)

-- ---- flags of TCP (RFC 9293, 3.1), each by its letter

-- whether the letter occurs
abbrev pub has : ℕ → List ℕ → Bool
has letter text = list_any (λ c. c == letter) text

-- the byte is the letter of a flag, one of FSRPAUEW
unfoldable pub is_letter : ℕ → Bool
is_letter b = has b (codes "FSRPAUEW")

-- one or more letters of FSRPAUEW
abbrev pub are_letters : List ℕ → Bool
are_letters text = nat_lt 0 (length text) && list_all is_letter text

-- the flags whose letters occur in the text; other bytes count for nothing
abbrev pub flags_with : List ℕ → TcpFlags
flags_with text = record {
  fin = has 70 text;
  syn = has 83 text;
  rst = has 82 text;
  psh = has 80 text;
  ack = has 65 text;
  urg = has 85 text;
  ece = has 69 text;
  cwr = has 87 text;
}

-- LETTERS: the flags whose letters occur
-- Example: tcp is 6.
unfoldable pub flags_of : List ℕ → Option TcpFlags
flags_of text = if are_letters text then Some (flags_with text) else None

-- ---- names

-- the reserved words of both profiles
abbrev pub common_reserved : List (List ℕ)
common_reserved =
    codes "pass" ∷ codes "block" ∷ codes "drop" ∷ codes "return" ∷ codes "in" ∷ codes "out" ∷
    codes "log" ∷ codes "quick"
    ∷ codes "on" ∷ codes "inet" ∷ codes "inet6" ∷ codes "proto" ∷ codes "all" ∷ codes "any" ∷
    codes "from" ∷ codes "to"
    ∷ codes "port" ∷ codes "flags" ∷ codes "no" ∷ codes "keep" ∷ codes "state" ∷ codes "set" ∷
    codes "skip"
    ∷ codes "block-policy" ∷ codes "table" ∷ codes "persist" ∷ codes "const" ∷ codes "counters" ∷
    codes "anchor" ∷ []

-- the text is one of these words
abbrev pub is_among : List (List ℕ) → List ℕ → Bool
is_among words text = list_any (λ word. bytes_eq text word) words

-- profile Two reserves one word more
unfoldable pub is_reserved : Profile → List ℕ → Bool
is_reserved One text = is_among common_reserved text
is_reserved Two text = is_among common_reserved text || bytes_eq text (codes "icmp-type")

-- letters, digits, and _ -
abbrev pub is_table_byte : ℕ → Bool
is_table_byte b = is_ascii_alphanumeric b || (b == 95 || b == 45)

-- letters, digits, and _ - .
abbrev pub is_anchor_byte : ℕ → Bool
is_anchor_byte b = is_table_byte b || b == 46

-- the first byte is a letter of ASCII; an empty text has none
abbrev pub begins_with_letter : List ℕ → Bool
begins_with_letter [] = false
begins_with_letter (b ∷ bytes) = is_ascii_alphabetic b

-- a letter, and up to 14 letters, digits, _ - .
unfoldable pub is_interface_text : List ℕ → Bool
is_interface_text text = begins_with_letter text && nat_le (length text) 15 && list_all is_anchor_byte text

-- IFNAME: of that form, and not a reserved word
unfoldable pub is_interface_name : Profile → List ℕ → Bool
is_interface_name profile text = is_interface_text text && not (is_reserved profile text)

-- 1 to 31 letters, digits, _ -
unfoldable pub is_table_text : List ℕ → Bool
is_table_text text = nat_lt 0 (length text) && nat_le (length text) 31 && list_all is_table_byte text

-- TNAME: of that form, and not a reserved word
unfoldable pub is_table_name : Profile → List ℕ → Bool
is_table_name profile text = is_table_text text && not (is_reserved profile text)

-- a name of an anchor's path: 1 to 63 letters, digits, _ - . but not . and ..
unfoldable pub is_anchor_text : List ℕ → Bool
is_anchor_text text =
    nat_lt 0 (length text) && nat_le (length text) 63 && list_all is_anchor_byte text
    && not (bytes_eq text (codes ".")) && not (bytes_eq text (codes ".."))

-- no flag is set
abbrev pub no_flags : TcpFlags
no_flags = record {
  fin = false;
  syn = false;
  rst = false;
  psh = false;
  ack = false;
  urg = false;
  ece = false;
  cwr = false;
}

-- a flag of the first is one of the second
abbrev pub implies : Bool → Bool → Bool
implies true b = b
implies false b = true

-- each flag of the first is one of the second
unfoldable pub is_within : TcpFlags → TcpFlags → Bool
is_within set of =
    implies set.fin of.fin && implies set.syn of.syn && implies set.rst of.rst && implies set.psh of.psh
    && implies set.ack of.ack && implies set.urg of.urg && implies set.ece of.ece && implies set.cwr of.cwr
