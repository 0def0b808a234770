-- Where a node's status shows that its members listen.
use Rattle.std.specs.Prelude.{◌≡◌, ◌≤◌, ℕ, List, [], ◌∷◌, ◌++◌, Option, Some, None, codes, bytes_eq, option_and_then}
use Rattle.std.specs.Prelude.{map}
use Rattle.std.specs.Prelude.{length, if◌then◌else◌}
use Rattle.std.specs.List.{AllByRecursion}
use Rattle.pf_addr.specs.Blocks.{FitsAddr}
use Rattle.node_udp.specs.declared.address.Address.{Address}
use Rattle.node_udp.specs.Addresses.{shown_address}
use Rattle.pf_scripts.specs.Lines.{ScriptLine, lines, words_in, spaced}
use Rattle.nft_rules.specs.declared.guard.Member.{Member}
use Rattle.cli_nft.specs.Options.{member_at, members_in}

-- strings, if there are some
abbrev pub some_texts : List (List ℕ) → Option (List (List ℕ))
some_texts [] = None
some_texts (text ∷ texts) = Some (text ∷ texts)

-- the strings behind `members`, if these are the arguments of a line that begins with it
abbrev pub texts_on : List (List ℕ) → Option (List (List ℕ))
texts_on [] = None
texts_on (first ∷ texts) = if bytes_eq first (codes "members") then some_texts texts else None

-- the members at these addresses; where there are no such strings, those of further lines
abbrev pub members_or : Option (List (List ℕ)) → Option (List Member) → Option (List Member)
members_or None further = further
members_or (Some texts) further = members_in texts

-- the members of the first of these lines that is `members ADDRESS:PORT..`; none where no line is, or where it names
-- what are no members of a cluster
abbrev pub members_among : List ScriptLine → Option (List Member)
members_among [] = None
members_among (l ∷ ls) = members_or (option_and_then texts_on (words_in l.content)) (members_among ls)

-- the same of a status
unfoldable pub members_reported : List ℕ → Option (List Member)
members_reported status = members_among (lines status)

-- ---- what a node writes is read

-- a number of its family's bits, and a port of 1 to 65535
abbrev pub IsAddress : Address → Type 0
IsAddress a = FitsAddr a.ip × (1 ≤ a.port) × (a.port ≤ 65535)

-- members ADDRESS:PORT ..
abbrev pub members_line : List Address → List ℕ
members_line addresses = spaced (codes "members" ∷ map shown_address addresses)

-- Behind the line of these addresses, at which 1 to 15 members listen, whatever follows: these members are
-- read.
abbrev pub AreRead : List Address → Type 0
AreRead addresses = AllByRecursion IsAddress addresses → 1 ≤ length addresses → length addresses ≤ 15 →
    (text : List ℕ) → members_reported (members_line addresses ++ 10 ∷ text) ≡ Some (map member_at addresses)
