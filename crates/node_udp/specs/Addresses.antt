-- The address of a member: an IP address, a colon, and a port.
use Rattle.std.specs.Prelude.{◌≡◌, ◌⊎◌, ⊤, ℕ, Bool, false, not, ◌==◌, ◌&&◌, ◌||◌, ◌+◌, List, [], ◌∷◌, length, take, drop}
use Rattle.std.specs.Prelude.{Option, Some, None, Result, Ok, Err, if◌then◌else◌, slice_index, codes, decimal, ◌++◌}
use Rattle.std.specs.List.{prefix_len, list_all}
use Rattle.std.specs.Char.{is_ascii_alphabetic, is_ascii_alphanumeric}
use Rattle.pf_addr.specs.declared.addr.Addr.{Addr}
use Rattle.pf_addr.specs.declared.addr.Addr.TheVariants.{V4, V6}
use Rattle.pf_addr.specs.declared.fault.AddrFault.{AddrFault}
use Rattle.pf_addr.specs.Shown.{shown_addr}
use Rattle.pf_addr.specs.Spelling.{addr_of}
use Rattle.pf_rules.specs.Words.{number_of}
use Rattle.node_udp.specs.declared.address.Address.{Address}

-- any byte but `:`
abbrev pub is_no_colon : ℕ → Bool
is_no_colon b = not (b == 58)

-- any byte but `]`
abbrev pub is_no_bracket : ℕ → Bool
is_no_bracket b = not (b == 93)

-- an IPv4 address, none where it is IPv6 or a fault
abbrev pub four_in : Result Addr AddrFault → Option Addr
four_in (Ok (V4 bits)) = Some (V4 bits)
four_in (Ok (V6 bits)) = None
four_in (Err fault) = None

-- an IPv6 address, none where it is IPv4 or a fault
abbrev pub six_in : Result Addr AddrFault → Option Addr
six_in (Ok (V4 bits)) = None
six_in (Ok (V6 bits)) = Some (V6 bits)
six_in (Err fault) = None

-- both are there, and the port isn't 0
abbrev pub joined : Option Addr → Option ℕ → Option Address
joined None port = None
joined (Some ip) None = None
joined (Some ip) (Some port) = if port == 0 then None else Some (record { ip = ip; port = port })

-- the port behind the colon at this place: one to five digits
abbrev pub port_behind : ℕ → List ℕ → Option ℕ
port_behind colon text = number_of 5 65535 (drop (colon + 1) text)

-- an IPv4 address parted from its port at the first colon
unfoldable pub four_of : List ℕ → Option Address
four_of text =
    let colon = prefix_len is_no_colon text in
    if colon == length text then None else joined (four_in (addr_of (take colon text))) (port_behind colon text)

-- what is behind an opening bracket: an IPv6 address up to the closing one, which a colon follows (RFC 3986, 3.2.2)
unfoldable pub six_of : List ℕ → Option Address
six_of text =
    let end = prefix_len is_no_bracket text in
    if slice_index text (end + 1) == 58 then joined (six_in (addr_of (take end text))) (port_behind (end + 1) text)
    else None

-- an IPv6 address is in brackets
unfoldable pub address_of : List ℕ → Option Address
address_of text = if slice_index text 0 == 91 then six_of (drop 1 text) else four_of text

-- how an IP address is shown where a colon follows
abbrev pub shown_ip : Addr → List ℕ
shown_ip (V4 bits) = shown_addr (V4 bits)
shown_ip (V6 bits) = codes "[" ++ (shown_addr (V6 bits) ++ codes "]")

-- an address as it is shown: IP address, colon, port
abbrev pub shown_address : Address → List ℕ
shown_address a = shown_ip a.ip ++ (codes ":" ++ decimal a.port)

-- ---- host names

-- letters, digits, - and .
abbrev pub is_host_byte : ℕ → Bool
is_host_byte b = is_ascii_alphanumeric b || (b == 45 || b == 46)

-- a letter and more of those (RFC 952)
abbrev pub is_host : List ℕ → Bool
is_host [] = false
is_host (b ∷ bytes) = is_ascii_alphabetic b && list_all is_host_byte bytes

-- a port that isn't 0
abbrev pub used_port : Option ℕ → Option ℕ
used_port None = None
used_port (Some port) = if port == 0 then None else Some port

-- the port of a host's name, a colon and a port
unfoldable pub host_port : List ℕ → Option ℕ
host_port text =
    let colon = prefix_len is_no_colon text in
    if colon == length text then None
    else if is_host (take colon text) then used_port (port_behind colon text)
    else None

-- the host's name before the colon
abbrev pub host_of : List ℕ → List ℕ
host_of text = take (prefix_len is_no_colon text) text

-- the address that the text is, or an IP address by which the host that it names is known, with its port
abbrev pub IsFound : (is_known : (host : List ℕ) → Addr → Type 0) → List ℕ → Address → Type 0
IsFound is_known text a =
    (address_of text ≡ Some a)
    ⊎ ((address_of text ≡ None) × (host_port text ≡ Some a.port) × is_known (host_of text) a.ip)

-- each of the strings, in order
abbrev pub AreFound : (is_known : (host : List ℕ) → Addr → Type 0) → List (List ℕ) → List Address → Type 0
AreFound is_known [] [] = Unit {0}
AreFound is_known [] (a ∷ rest) = ⊥
AreFound is_known (text ∷ texts) [] = ⊥
AreFound is_known (text ∷ texts) (a ∷ rest) = IsFound is_known text a × AreFound is_known texts rest

-- the same where nothing says by which IP addresses a host is known, as nothing does of the system
abbrev pub AreAddresses : List (List ℕ) → List Address → Type 0
AreAddresses = AreFound (λ host ip. ⊤)

-- the text is no address, and no name of a known host with a port
abbrev pub IsUnfound : (is_unknown : (host : List ℕ) → Type 0) → (text : List ℕ) → Type 0
IsUnfound is_unknown text = (address_of text ≡ None) × ((host_port text ≡ None) ⊎ is_unknown (host_of text))
