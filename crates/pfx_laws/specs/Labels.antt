-- Names of chains and sets that are in a ruleset of nftables.
use Rattle.std.specs.Prelude.{Bool}
use Rattle.std.specs.List.{list_any}
use Rattle.nft_rules.specs.Evaluation.{is_chain, is_set}
use Rattle.nft_rules.specs.Subset.{ChainName, SetName, NftRuleset}

-- the ruleset has a chain of that name
abbrev pub has_chain : NftRuleset → ChainName → Bool
has_chain r name = list_any (is_chain name) r.chains

-- the ruleset has a set of that name
abbrev pub has_set : NftRuleset → SetName → Bool
has_set r name = list_any (is_set name) r.sets
