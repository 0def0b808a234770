-- What an anchor rule with a block gives, and why one is refused.
use Rattle.std.specs.Prelude.{ℕ, ◌+◌, ◌&&◌, ◌||◌, Bool, true, false, List, [], ◌∷◌, ◌++◌, length, map, min}
use Rattle.std.specs.Prelude.{Option, Some, None, is_none, nat_lt, bytes_eq, if◌then◌else◌}
use Rattle.std.specs.List.{list_any}
use Rattle.pf_rules.specs.Names.{Name, begins_below}
use Rattle.pf_rules.specs.Items.{Target, Heading, ItemValue, ItemValues, Filters, Anchors, Blocks, no_items, one_more}
use Rattle.pf_rules.specs.Items.{values_of}
use Rattle.pf_rules.specs.declared.parts.FlagTest.{FlagTest}
use Rattle.pf_rules.specs.declared.parts.Policy.{Policy}
use Rattle.pf_rules.specs.declared.rule.Rule.{Rule}
use Rattle.pf_statements.specs.Conditions.{ConditionsText}
use Rattle.pf_statements.specs.Anchors.{AnchorText, HeadingText, anchor_with}
use Rattle.pf_statements.specs.Statements.{ItemText, RuleItem, AnchorItem, BlockItem, ItemTexts, no_texts, one_text}
use Rattle.pf_expansion.specs.declared.judged.Judged.{Judged}
use Rattle.pf_expansion.specs.declared.cause.Cause.{Cause}
use Rattle.pf_expansion.specs.declared.cause.Cause.TheVariants.{Ports, NoCombination, Reserved, Twice}
use Rattle.pf_expansion.specs.declared.cause.Cause.TheVariants.{TooMany, IcmpType}
use Rattle.pf_expansion.specs.Expansion.{combined, tested_flags, rule_flags, expanded}
use Rattle.pf_expansion.specs.Causes.{bad_ports, bad_types, has_deep_list, has_no_combination, is_too_wide}
use Rattle.pf_expansion.specs.Anchors.{anchor_flags, given_name, headings, is_misnamed, is_reserved}

-- ---- the names of unnamed blocks

-- the target of the k-th unnamed block: its name alone
abbrev pub given_target : ℕ → Target
given_target k = record { names = given_name k ∷ []; children = false }

-- one more unnamed block; no more than 65,535 are distinguished, since a statement has no more tokens
abbrev pub next_unnamed : ℕ → ℕ
next_unnamed unnamed = if nat_lt unnamed 65535 then unnamed + 1 else 65535

-- behind that many unnamed blocks
abbrev pub target_or_given : ℕ → Option Target → Target
target_or_given unnamed None = given_target (next_unnamed unnamed)
target_or_given unnamed (Some target) = target

-- the rule with its name
abbrev pub named : ℕ → HeadingText → AnchorText
named unnamed h = anchor_with h (target_or_given unnamed h.target)

-- how many unnamed blocks there are with this rule
abbrev pub unnamed_after : ℕ → ItemText → ℕ
unnamed_after unnamed (RuleItem rule) = unnamed
unnamed_after unnamed (AnchorItem anchor) = unnamed
unnamed_after unnamed (BlockItem h block) = if is_none h.target then next_unnamed unnamed else unnamed

-- ---- what it gives

-- of the anchor rules of one text the first carries the block
abbrev pub carried : List Heading → ItemValues → List ItemValue
carried [] block = []
carried (h ∷ hs) block = Blocks h block ∷ map (λ (h : Heading). Anchors h) hs

-- the rules of a ruleset behind that many unnamed blocks of its ruleset, a plain `block` being the policy's
abbrev mutual
  pub item_values : Policy → ℕ → ItemText → List ItemValue
  item_values policy unnamed (RuleItem rule) = map (λ (r : Rule). Filters r) (expanded policy rule)
  item_values policy unnamed (AnchorItem anchor) = map (λ (h : Heading). Anchors h) (headings anchor)
  item_values policy unnamed (BlockItem h block) =
      carried (headings (named unnamed h)) (values_of (block_values policy 0 block))

  pub block_values : Policy → ℕ → ItemTexts → List ItemValue
  block_values policy unnamed no_texts = []
  block_values policy unnamed (one_text item items) =
      item_values policy unnamed item ++ block_values policy (unnamed_after unnamed item) items

-- ---- what is wrong with its rules (13, 14, 18, 19)

-- nothing is wrong, and there is no rule
abbrev pub nothing_wrong : Judged
nothing_wrong = record { ports = false; combination = false; many = false; types = false; rules = 0 }

-- what is wrong with either; no more than 1,025 rules are distinguished
abbrev pub both : Judged → Judged → Judged
both a b = record {
  ports = a.ports || b.ports;
  combination = a.combination || b.combination;
  many = a.many || b.many;
  types = a.types || b.types;
  rules = min (a.rules + b.rules) 1025;
}

-- how many rules conditions give, where they aren't refused for their width
unfoldable pub rule_count : FlagTest → ConditionsText → ℕ
rule_count test text = if is_too_wide text then 0 else length (combined test text)

-- what is wrong with conditions, and how many rules they give
unfoldable pub conditions_judged : FlagTest → ConditionsText → Judged
conditions_judged test text = record {
  ports = bad_ports text;
  combination = has_no_combination test text;
  many = is_too_wide text || has_deep_list text;
  types = bad_types text;
  rules = rule_count test text;
}

-- a ruleset has 1,024 rules at most
abbrev pub ruleset_judged : Judged → Judged
ruleset_judged j = record {
  ports = j.ports;
  combination = j.combination;
  many = j.many || nat_lt 1024 j.rules;
  types = j.types;
  rules = 0;
}

-- what is wrong with a rule or with one in its block; of rules one after another, behind those that were judged before
abbrev mutual
  pub item_judged : ItemText → Judged
  item_judged (RuleItem rule) = conditions_judged (rule_flags rule) rule.conditions
  item_judged (AnchorItem anchor) = conditions_judged (anchor_flags anchor) anchor.conditions
  item_judged (BlockItem h block) = both (conditions_judged (tested_flags false h.conditions.flags) h.conditions)
      (ruleset_judged (block_judged nothing_wrong block))

  pub block_judged : Judged → ItemTexts → Judged
  block_judged before no_texts = before
  block_judged before (one_text item items) = block_judged (both before (item_judged item)) items

-- ---- names that unnamed blocks have (15)

-- a target is written, and a name in it begins with _
abbrev pub is_reserved_name : Option Target → Bool
is_reserved_name None = false
is_reserved_name (Some target) = is_reserved target

-- a rule or one in its block is misnamed, behind that many unnamed blocks of its ruleset; of rules one after another
abbrev mutual
  pub item_misnamed : ℕ → ItemText → Bool
  item_misnamed unnamed (RuleItem rule) = false
  item_misnamed unnamed (AnchorItem anchor) = is_misnamed unnamed anchor.target
  item_misnamed unnamed (BlockItem h block) = is_reserved_name h.target || block_misnamed 0 block

  pub block_misnamed : ℕ → ItemTexts → Bool
  block_misnamed unnamed no_texts = false
  block_misnamed unnamed (one_text item items) =
      item_misnamed unnamed item || block_misnamed (unnamed_after unnamed item) items

-- ---- paths of blocks (16)

-- the names of blocks, each within the one before, from the text's root on
abbrev pub Path : Type 0
Path = List Name

-- the paths of all blocks, at each depth, counted from the text's root
abbrev mutual
  pub item_paths : Path → ℕ → ItemText → List Path
  item_paths path unnamed (RuleItem rule) = []
  item_paths path unnamed (AnchorItem anchor) = []
  item_paths path unnamed (BlockItem h block) =
      block_paths (path ++ (target_or_given unnamed h.target).names) 0 block ++
      (path ++ (target_or_given unnamed h.target).names) ∷ []

  pub block_paths : Path → ℕ → ItemTexts → List Path
  block_paths path unnamed no_texts = []
  block_paths path unnamed (one_text item items) =
      item_paths path unnamed item ++ block_paths path (unnamed_after unnamed item) items

-- the same of rules that are before
abbrev mutual
  pub paths_in : Path → ItemValue → List Path
  paths_in path (Filters rule) = []
  paths_in path (Anchors h) = []
  paths_in path (Blocks h block) = paths_within (path ++ h.target.names) block ++ (path ++ h.target.names) ∷ []

  pub paths_within : Path → ItemValues → List Path
  paths_within path no_items = []
  paths_within path (one_more item items) = paths_in path item ++ paths_within path items

-- both paths have the same names, in order
abbrev pub same_path : Path → Path → Bool
same_path [] [] = true
same_path [] (n ∷ ns) = false
same_path (m ∷ ms) [] = false
same_path (m ∷ ms) (n ∷ ns) = bytes_eq m n && same_path ms ns

-- a path comes again
abbrev pub comes_again : List Path → Bool
comes_again [] = false
comes_again (p ∷ ps) = list_any (same_path p) ps || comes_again ps

-- ---- the rules that are before

-- the name of an unnamed block, and nothing else
abbrev pub is_unnamed : List Name → Bool
is_unnamed [] = false
is_unnamed (name ∷ []) = begins_below name
is_unnamed (name ∷ other ∷ names) = false

-- how many unnamed blocks there are with this rule; whether its block is one shows in its name
abbrev pub unnamed_with : ℕ → ItemValue → ℕ
unnamed_with unnamed (Filters rule) = unnamed
unnamed_with unnamed (Anchors h) = unnamed
unnamed_with unnamed (Blocks h block) = if is_unnamed h.target.names then next_unnamed unnamed else unnamed

-- how many unnamed blocks these rules carry
abbrev pub unnamed_in : ℕ → List ItemValue → ℕ
unnamed_in unnamed [] = unnamed
unnamed_in unnamed (item ∷ items) = unnamed_in (unnamed_with unnamed item) items

-- ---- causes

-- one of the paths is among the others
abbrev pub any_among : List Path → List Path → Bool
any_among others paths = list_any (λ p. list_any (same_path p) others) paths

-- a path of a block in this rule is that of another one, or of one in the rules that are before
-- Example: anchor "x" {} twice: 16.
unfoldable pub is_twice : List ItemValue → ItemText → Bool
is_twice before item =
    let paths = item_paths [] (unnamed_in 0 before) item in
    any_among (paths_within [] (values_of before)) paths || comes_again paths

-- each cause with its test, the lowest first, where these rules are before
abbrev pub block_causes : List ItemValue → ItemText → List (Bool × Cause)
block_causes before item =
    let j = item_judged item in
    (j.ports, Ports) ∷ (j.combination, NoCombination) ∷ (item_misnamed (unnamed_in 0 before) item, Reserved) ∷
    (is_twice before item, Twice) ∷ (j.many || nat_lt 1024 (length before + j.rules), TooMany) ∷
    (j.types, IcmpType) ∷ []
