-- The bound of the verdicts that an operator asks a running node for.
use Rattle.std.specs.Prelude.{ℕ, zero, suc, ◌+◌, ◌/◌, ◌==◌, ◌++◌, Bool, List, [], ◌∷◌, length, take, map, max, nat_le}
use Rattle.std.specs.Prelude.{if◌then◌else◌}
use Rattle.clap.specs.Words.{Text}
use Rattle.pf_rules.specs.Names.{begins_below}
use Rattle.pf_rules.specs.Items.{AnyRule, FilterRule, AnchorRule, Target}
use Rattle.pf_config.specs.Map.{Configuration, Path, rules_at, kids, followed_by}
use Rattle.pf_config.specs.Trees.{last_name}
use Rattle.node_requests.specs.Answers.{AnswerValue, refused, verdicts}

-- a rule counts one, and an anchor rule also all that its target has
abbrev pub met_by : (within : Target → ℕ) → AnyRule → ℕ
met_by within (FilterRule r) = 1
met_by within (AnchorRule a) = 1 + within a.target

-- the same of several
abbrev pub met_in : (within : Target → ℕ) → List AnyRule → ℕ
met_in within [] = 0
met_in within (rule ∷ rules) = met_by within rule + met_in within rules

-- what an anchor has, nothing where its path is deeper than 8 names
-- Example: main with 16 rules anchor "a", and a with 16 rules: 272.
abbrev pub met_at : (Path → ℕ) → Path → ℕ
met_at at p = if nat_le (length p) 8 then at p else 0

-- an attached anchor counts one, and what it has, but for an unnamed block
abbrev pub met_member : (Path → ℕ) → Path → ℕ
met_member at p = 1 + (if begins_below (last_name p) then 0 else met_at at p)

-- the same of several
abbrev pub met_members : (Path → ℕ) → List Path → ℕ
met_members at [] = 0
met_members at (p ∷ ps) = met_member at p + met_members at ps

-- what is met at a path, or in the anchors that are attached to it
abbrev pub met_called : (Path → ℕ) → Configuration → Path → (children : Bool) → ℕ
met_called at c p children = if children then met_members at (map (followed_by p) (kids c p)) else met_at at p

-- what the target of an anchor rule at a path has
abbrev pub met_target : (Path → ℕ) → Configuration → Path → Target → ℕ
met_target at c p t = met_called at c (p ++ t.names) t.children

-- how many rules, and anchors attached to another, a verdict meets at most from a path on, where anchor rules nest less
-- deep than this
unfoldable pub most_met : (depth : ℕ) → Configuration → Path → ℕ
most_met zero c p = 0
most_met (suc depth) c p = met_in (met_target (most_met depth c) c p) (rules_at c p)

-- how many verdicts meet at most 10000 rules together
-- Example: where a verdict meets 4,000, two packets are answered.
abbrev pub fitting : Configuration → ℕ
fitting c = 10000 / max (most_met 9 c []) 1

-- a line for each packet's text in turn, as far as they fit: the others are to be asked again, and it is 88 where not
-- even one fits
abbrev pub verdicts_within : Configuration → List Text → AnswerValue
verdicts_within c packets = if fitting c == 0 then refused 88 0 else verdicts c (take (fitting c) packets)
