-- What is loaded of a configuration.
use Rattle.std.specs.Prelude.{ℕ, Bool, List, Result, Ok, Err, string_bytes}
use Rattle.pf_rules.specs.declared.parts.Direction.TheVariants.{In, Out}
use Rattle.pf_config.specs.Map.{Configuration}
use Rattle.nft_rules.specs.Subset.{NftRuleset}
use Rattle.nft_rules.specs.Rendering.{Machine}
use Rattle.nft_rules.specs.declared.guard.Member.{Member}
use Rattle.nft_rules.specs.declared.rendering.RenderFault.{RenderFault}
use Rattle.nft_rules.specs.Refusing.{render}
use Rattle.nft_text.specs.Texts.{TransactionsValue, lines}
use Rattle.nft_text.specs.States.{some_keep_state}
use Rattle.nft_text.specs.declared.loading.Transactions.{Transactions}

-- the code's
abbrev pub transactions_value : Transactions → TransactionsValue
transactions_value l = record { load = string_bytes l.load; end = string_bytes l.end }

-- the lines of two rulesets, if there are both
abbrev pub both_lines : ℕ → Bool → List Member → Result NftRuleset RenderFault → Result NftRuleset RenderFault →
    Result TransactionsValue RenderFault
both_lines position keeps ms (Err fault) outward = Err fault
both_lines position keeps ms (Ok inward) (Err fault) = Err fault
both_lines position keeps ms (Ok inward) (Ok outward) = Ok (lines position keeps ms inward outward)

-- the three lines of a configuration behind the guard of these members, none where the list is empty; or why there are
-- none
unfoldable pub rendered_lines : Configuration → Machine → List Member → ℕ → Result TransactionsValue RenderFault
rendered_lines c m ms position = both_lines position (some_keep_state c) ms (render c m In) (render c m Out)
