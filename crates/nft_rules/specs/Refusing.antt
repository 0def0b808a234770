-- Which configurations are rendered.
use Rattle.std.specs.Prelude.{◌≡◌, ◌⊎◌, ℕ, zero, suc, ◌+◌, Bool, List, [], ◌∷◌, Option, Some, None, Result, Ok, Err}
use Rattle.std.specs.Prelude.{find, nat_lt, if◌then◌else◌}
use Rattle.pf_config.specs.Map.{Configuration}
use Rattle.pf_rules.specs.declared.parts.Direction.{Direction}
use Rattle.nft_rules.specs.Subset.{ChainName, Base, Statement, Ends, Jump, NftRule, NftRuleset}
use Rattle.nft_rules.specs.Evaluation.{is_chain, rules_in}
use Rattle.nft_rules.specs.Rendering.{Machine, rendered}
use Rattle.nft_rules.specs.Deciding.{some_leads_back}
-- a rule leads back to the anchor that holds it; a packet would be asked of too many rules; out of memory
pub use Rattle.nft_rules.specs.declared.rendering.RenderFault.{RenderFault}
pub use Rattle.nft_rules.specs.declared.rendering.RenderFault.TheVariants.{LeadsBack, Costly, Memory}

-- ---- work a packet

-- a rule, and those to which it jumps
-- Example: two rules that jump to a chain of three: 8.
abbrev pub asked_by : (ChainName → ℕ) → Statement → ℕ
asked_by jumped (Ends decision) = 1
asked_by jumped (Jump chain) = 1 + jumped chain

-- of how many rules a packet is asked at most from these on: each counts one, and a jump also all that its chain asks
abbrev pub asked_in : (ChainName → ℕ) → List NftRule → ℕ
asked_in jumped [] = 0
asked_in jumped (rule ∷ rules) = asked_by jumped rule.statement + asked_in jumped rules

-- of how many rules a packet is asked at most from a chain on, where jumps nest less deep than this
unfoldable pub most_asked : (depth : ℕ) → NftRuleset → ChainName → ℕ
most_asked zero r name = 0
most_asked (suc depth) r name = asked_in (most_asked depth r) (rules_in (find (is_chain name) r.chains))

-- from the hook on; jumps nest less than 10 deep
abbrev pub is_costly : NftRuleset → Bool
is_costly r = nat_lt 100000 (most_asked 10 r Base)

-- ---- what is rendered

-- the ruleset, or a refusal where a packet may be asked of more than 100000 rules
-- Example: 100,000 rules aren't too many.
abbrev pub unless_costly : NftRuleset → Result NftRuleset RenderFault
unless_costly r = if is_costly r then Err Costly else Ok r

-- the whole ruleset, or a refusal
unfoldable pub render : Configuration → Machine → Direction → Result NftRuleset RenderFault
render c m d = if some_leads_back c then Err LeadsBack else unless_costly (rendered c m d)

-- what a call answers: this, or out of memory
abbrev pub Renders : {R S : Type 0} → (R → S) → Result R RenderFault → Result S RenderFault → Type 0
Renders seen (Ok r) answer = answer ≡ Ok (seen r)
Renders seen (Err fault) answer = (fault ≡ Memory) ⊎ (answer ≡ Err fault)

-- the number of a refusal; none when out of memory
abbrev pub fault_code : RenderFault → Option ℕ
fault_code LeadsBack = Some 87
fault_code Costly = Some 88
fault_code Memory = None
