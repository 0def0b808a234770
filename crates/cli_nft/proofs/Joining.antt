-- One member more.
use Rattle.std.proofs.Common.{◌≡◌, List, ◌∷◌, [], ◌++◌, Option, Some, None, option_map, refl, ap, append_assoc}
use Rattle.node_udp.specs.declared.address.Address.{Address}
use Rattle.nft_rules.specs.declared.guard.Member.{Member}
use Rattle.cli_nft.specs.Options.{member_at, and_member}

-- members that were read, before those that are still to be read
abbrev pub with_front : List Member → Option (List Member) → Option (List Member)
with_front ms rest = option_map (λ (more : List Member). ms ++ more) rest

pub one_more : (ms : List Member) (a : Address) (rest : Option (List Member)) →
    with_front (ms ++ member_at a ∷ []) rest ≡ with_front ms (and_member (Some a) rest)
one_more ms a None = refl
one_more ms a (Some more) = ap (λ (all : List Member). Some all) (append_assoc ms (member_at a ∷ []) more)
