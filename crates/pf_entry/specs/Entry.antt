-- Entries, and the one spelling of each. Numbers are unsigned, the highest byte first.
use Rattle.std.specs.Prelude.{◌≡◌, ℕ, ◌<◌, ◌≤◌, ◌^◌, ◌/◌, ◌%◌, ◌==◌, ◌&&◌}
use Rattle.std.specs.Prelude.{◌||◌, Bool, true, false, nat_le, nat_lt, List, [], ◌∷◌, ◌++◌, length}
use Rattle.std.specs.Prelude.{IsTrue}
use Rattle.std.specs.List.{flat_map, list_all}
use Rattle.std.specs.Int.{w16, w32, w64, to_be_bytes}
use Rattle.pf_addr.specs.declared.addr.Addr.{Addr}
use Rattle.pf_addr.specs.declared.addr.Addr.TheVariants.{V4, V6}
use Rattle.pf_addr.specs.Blocks.{Block, is_block}
use Rattle.pf_rules.specs.declared.profile.Profile.{Profile}
use Rattle.pf_rules.specs.Words.{is_table_name}
use Rattle.pf_rules.specs.Names.{is_path_name}
use Rattle.pf_rules.specs.declared.profile.Profile.TheVariants.{One, Two}

-- a prefix, or what isn't in it
pub record Address : Type 0 where
  pub negated : Bool
  pub prefix : Block

-- a command, each with its path
pub data Command : Type 0 where
  load : (path : List (List ℕ)) → (profile : Profile) → (text : List ℕ) → Command
  flush_rules : (path : List (List ℕ)) → Command
  flush_tables : (path : List (List ℕ)) → Command
  flush_all : (path : List (List ℕ)) → Command
  add : (path : List (List ℕ)) → (table : List ℕ) → (addresses : List Address) → Command
  delete : (path : List (List ℕ)) → (table : List ℕ) → (addresses : List Address) → Command
  replace : (path : List (List ℕ)) → (table : List ℕ) → (addresses : List Address) → Command
  flush_table : (path : List (List ℕ)) → (table : List ℕ) → Command

-- a command, who asked for it, and its number there
pub record Entry : Type 0 where
  pub origin : ℕ
  pub number : ℕ
  pub command : Command

-- ---- the spelling

-- a length of one byte, and the bytes
abbrev pub counted : List ℕ → List ℕ
counted bytes = length bytes ∷ bytes

-- how many names, and each of them
abbrev pub path : List (List ℕ) → List ℕ
path names = length names ∷ flat_map counted names

-- 1 for an address that is negated, else 0
abbrev pub sign : Bool → ℕ
sign false = 0
sign true = 1

-- 4 for IPv4, 6 for IPv6
abbrev pub family : Addr → ℕ
family (V4 bits) = 4
family (V6 bits) = 6

-- 16 bytes, as two halves
unfoldable pub halves : ℕ → List ℕ
halves n = to_be_bytes w64 (n / 2 ^ 64) ++ to_be_bytes w64 (n % 2 ^ 64)

-- 4 bytes, or 16
abbrev pub bits : Addr → List ℕ
bits (V4 n) = to_be_bytes w32 n
bits (V6 n) = halves n

-- sign, family, length, bits
abbrev pub address : Address → List ℕ
address a = sign a.negated ∷ family a.prefix.base ∷ a.prefix.len ∷ bits a.prefix.base

-- how many addresses, in two bytes, and each of them
abbrev pub addresses : List Address → List ℕ
addresses list = to_be_bytes w16 (length list) ++ flat_map address list

-- 2 for a ruleset of the second profile, else 1
abbrev pub format : Command → ℕ
format (load p Two text) = 2
format (load p One text) = 1
format (flush_rules p) = 1
format (flush_tables p) = 1
format (flush_all p) = 1
format (add p table list) = 1
format (delete p table list) = 1
format (replace p table list) = 1
format (flush_table p table) = 1

-- the number of a command's kind, 1 to 8
abbrev pub kind : Command → ℕ
kind (load p profile text) = 1
kind (flush_rules p) = 2
kind (flush_tables p) = 3
kind (flush_all p) = 4
kind (add p table list) = 5
kind (delete p table list) = 6
kind (replace p table list) = 7
kind (flush_table p table) = 8

-- the path of a command
abbrev pub path_of : Command → List (List ℕ)
path_of (load p profile text) = p
path_of (flush_rules p) = p
path_of (flush_tables p) = p
path_of (flush_all p) = p
path_of (add p table list) = p
path_of (delete p table list) = p
path_of (replace p table list) = p
path_of (flush_table p table) = p

-- what follows the path
abbrev pub rest : Command → List ℕ
rest (load p profile text) = to_be_bytes w32 (length text) ++ text
rest (flush_rules p) = []
rest (flush_tables p) = []
rest (flush_all p) = []
rest (add p table list) = counted table ++ addresses list
rest (delete p table list) = counted table ++ addresses list
rest (replace p table list) = counted table ++ addresses list
rest (flush_table p table) = counted table

-- format, origin, number, kind, path, rest
abbrev pub spelling : Entry → List ℕ
spelling e =
    format e.command ∷ e.origin ∷ to_be_bytes w64 e.number
    ++ kind e.command ∷ path (path_of e.command)
    ++ rest e.command

-- ---- what has a spelling

-- a name of a path, which is no unnamed block's
abbrev pub is_name : List ℕ → Bool
is_name name = is_path_name name

-- a table's name, which is no word that both profiles reserve
abbrev pub is_table : List ℕ → Bool
is_table name = is_table_name One name

-- a member's number, or 255 for who is none
abbrev pub is_origin : ℕ → Bool
is_origin origin = nat_le origin 14 || origin == 255

-- 8 names at most, each one that a path may have
abbrev pub are_names : List (List ℕ) → Bool
are_names names = nat_le (length names) 8 && list_all is_name names

-- a number of the family
abbrev pub in_family : Addr → Bool
in_family (V4 n) = nat_lt n (2 ^ 32)
in_family (V6 n) = nat_lt n (2 ^ 128)

-- the host bits are cleared
abbrev pub is_address : Address → Bool
is_address a = in_family a.prefix.base && is_block a.prefix.base a.prefix.len

-- at least that many addresses, and at most 4096
abbrev pub are_addresses : ℕ → List Address → Bool
are_addresses least list = nat_le least (length list) && nat_le (length list) 4096 && list_all is_address list

-- beside the path a table and addresses have to fit: 1 to 4096 of these, for replace 0 to 4096
abbrev pub rest_fits : Command → Bool
rest_fits (load p profile text) = true
rest_fits (flush_rules p) = true
rest_fits (flush_tables p) = true
rest_fits (flush_all p) = true
rest_fits (add p table list) = is_table table && are_addresses 1 list
rest_fits (delete p table list) = is_table table && are_addresses 1 list
rest_fits (replace p table list) = is_table table && are_addresses 0 list
rest_fits (flush_table p table) = is_table table

-- the entry has a spelling
pub record Fits (e : Entry) : Type 0 where
  pub origin : IsTrue (is_origin e.origin)
  pub number : e.number < 2 ^ 48
  pub names : IsTrue (are_names (path_of e.command))
  pub rest : IsTrue (rest_fits e.command)
  pub whole : length (spelling e) ≤ 32768

-- the bytes spell the entry
pub record EntryBytes (e : Entry) (bytes : List ℕ) : Type 0 where
  pub fits : Fits e
  pub spelled : bytes ≡ spelling e
