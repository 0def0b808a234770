-- What only code and proofs use beside `Rendering`.
use Rattle.std.specs.Prelude.{ℕ, Bool, List, not}
use Rattle.pf_rules.specs.Names.{begins_below}
use Rattle.pf_config.specs.Trees.{last_name}
use Rattle.pf_rules.specs.Items.{AnyRule}
use Rattle.pf_rules.specs.declared.parts.Direction.{Direction}
use Rattle.pf_config.specs.Map.{Configuration, Path}
use Rattle.nft_rules.specs.Subset.{Pass, Forward, Backward, Chain, NftRule}
use Rattle.nft_rules.specs.Rendering.{Machine, forward_rule, backward_rule, forward_rules, backward_rules}
use Rattle.nft_rules.specs.Rendering.{forward_chain, backward_chain}

-- ---- rules

-- an anchor that is no unnamed block
abbrev pub is_member : Path → Bool
is_member q = not (begins_below (last_name q))

-- ---- either pass

abbrev pub rule_in : Pass → Configuration → Machine → Direction → Path → ℕ → AnyRule → List NftRule
rule_in Forward = forward_rule
rule_in Backward = backward_rule

abbrev pub rules_in : Pass → (ℕ → AnyRule → List NftRule) → ℕ → List AnyRule → List NftRule
rules_in Forward = forward_rules
rules_in Backward = backward_rules

abbrev pub chain_in : Pass → Configuration → Machine → Direction → Path → Chain
chain_in Forward = forward_chain
chain_in Backward = backward_chain
