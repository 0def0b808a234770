-- The arguments `check --nft`, and which members they name.
use Rattle.std.specs.Prelude.{ℕ, List, [], ◌∷◌, Option, Some, None, length, nat_lt, codes}
use Rattle.std.specs.Prelude.{unwrap_or, if◌then◌else◌}
use Rattle.clap.specs.Words.{App, Row, Text, new_app, all_of}
use Rattle.px_wire.specs.declared.limits.TheConstants.{MEMBERS}
use Rattle.node_udp.specs.declared.address.Address.{Address}
use Rattle.node_udp.specs.Addresses.{address_of}
use Rattle.nft_rules.specs.declared.guard.Member.{Member}
use Rattle.cli_io.specs.Given.{program_of, given_with}
use Rattle.cli_io.specs.Numbers.{number_at}
use Rattle.cli_io.specs.Options.{flag_rule, needed_rule, u32_rule, values_rule, with_rules}

-- ---- members

-- the member that listens at an address
abbrev pub member_at : Address → Member
member_at a = record { address = a.ip; port = a.port }

-- a member in front of the others, if there are both
abbrev pub and_member : Option Address → Option (List Member) → Option (List Member)
and_member None more = None
and_member (Some a) None = None
and_member (Some a) (Some ms) = Some (member_at a ∷ ms)

-- the members at these addresses, none where a string is no address with a port of 1 to 65535
abbrev pub members_at : List Text → Option (List Member)
members_at [] = Some []
members_at (text ∷ texts) = and_member (address_of text) (members_at texts)

-- the same of a cluster, which has 15 members at most
unfoldable pub members_in : List Text → Option (List Member)
members_in texts = if nat_lt MEMBERS (length texts) then None else members_at texts

-- ---- arguments

-- check --nft --interfaces FILE [--members ADDRESS:PORT..] [--position N]
abbrev pub check_app : App
check_app = with_rules (new_app (codes "check")) (flag_rule (codes "nft") ∷ needed_rule (codes "interfaces")
    ∷ values_rule (codes "members") ∷ u32_rule (codes "position") ∷ [])

-- the program with this subcommand, which has to be given
abbrev pub nft_app : App
nft_app = program_of check_app

-- what is given with `check --nft`, the program's name first; none where the arguments aren't understood
-- Example: of `pfx check --nft` none, since `--interfaces` is missing.
abbrev pub given_of : (arguments : List Text) → Option (List Row)
given_of arguments = given_with nft_app (codes "check") arguments

-- the members that are given; without --members there are none; none where they are no members of a cluster
abbrev pub members_named : List Row → Option (List Member)
members_named rows = members_in (unwrap_or (all_of (codes "members") rows) [])

-- the position that is given, 0 without one
-- Source: pfx(8), check. Example: --position 3 is 3.
abbrev pub position_named : List Row → ℕ
position_named rows = unwrap_or (number_at rows (codes "position")) 0
