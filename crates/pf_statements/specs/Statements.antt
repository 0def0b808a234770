-- A statement, production by production (pf.conf(5), GRAMMAR).
use Rattle.std.specs.Prelude.{ℕ, zero, suc, ◌&&◌, Bool, true, false, List, [], ◌∷◌, drop, length}
use Rattle.std.specs.Prelude.{Option, Some, None, is_some, codes, if◌then◌else◌}
use Rattle.pf_rules.specs.declared.profile.Profile.{Profile}
use Rattle.pf_rules.specs.declared.profile.Profile.TheVariants.{One, Two}
use Rattle.pf_tokens.specs.declared.symbol.Symbol.TheVariants as mark
use Rattle.pf_tokens.specs.Tokens.{Token, is_newline}
use Rattle.pf_tokens.specs.Productions.{Read, ◌>>=◌, is_end, begins, begins_symbol, starts, option_at}
use Rattle.pf_tokens.specs.Lists.{Elements, some_at}
use Rattle.pf_rules.specs.declared.parts.Policy.{Policy}
use Rattle.pf_rules.specs.declared.parts.Policy.TheVariants as policy
use Rattle.pf_rules.specs.declared.parts.FlagTest.{FlagTest}
use Rattle.pf_statements.specs.declared.written.WrittenAction.{WrittenAction}
use Rattle.pf_statements.specs.declared.written.WrittenAction.TheVariants.{Pass, Block as Blocks}
use Rattle.pf_statements.specs.declared.conditions.WrittenType.{WrittenType}
use Rattle.pf_rules.specs.Names.{Name}
use Rattle.pf_statements.specs.Conditions.{if_so, interface_name_at, flags_at, types_at, common_at, ConditionsText}
use Rattle.pf_statements.specs.Options.{is_over, until_over}
use Rattle.pf_statements.specs.Directions.{direction_at}
use Rattle.pf_statements.specs.Anchors.{AnchorText, HeadingText, anchor_with, heading_at}
use Rattle.pf_rules.specs.Items.{Target}
use Rattle.pf_statements.specs.Tables.{TableText, table_of}

-- ---- options

-- the options of a rule that are read: flags, state and types of ICMP, each where it was given
pub record Options : Type 0 where
  pub flags : Option FlagTest
  pub state : Option Bool
  pub types : Option (Elements WrittenType)

-- no option was given
abbrev pub no_options : Options
no_options = record { flags = None; state = None; types = None }

-- flags, given once
unfoldable pub flags_option : Options → List Token → Read Options
flags_option o ts = if is_some o.flags then None else (flags_at ts >>= λ test. Some (
  record o { flags = Some test.0 },
  test.1,
))

-- ("no" | "keep") "state", given once
unfoldable pub state_option : Options → Bool → List Token → Read Options
state_option o keep ts = if is_some o.state then None
    else if_so (begins (codes "state") ts) (record o { state = Some keep }, drop 1 ts)

-- "icmp-type" types, given once
unfoldable pub types_option : Profile → Options → List Token → Read Options
types_option profile o ts = if is_some o.types then None
    else (types_at profile ts >>= λ types. Some (record o { types = Some types.0 }, types.1))

-- profile Two has types of ICMP
abbrev pub has_types : Profile → Bool
has_types One = false
has_types Two = true

-- option = flags | "no" "state" | "keep" "state" | "icmp-type" types
unfoldable pub option_with : Profile → Options → List Token → Read Options
option_with profile o ts =
    if begins (codes "flags") ts then flags_option o (drop 1 ts)
    else (if begins (codes "no") ts then state_option o false (drop 1 ts)
    else (if begins (codes "keep") ts then state_option o true (drop 1 ts)
    else (if has_types profile && begins (codes "icmp-type") ts then types_option profile o (drop 1 ts)
    else None)))

-- {option} up to where the rule is over; no more than n are read
abbrev pub options_at : ℕ → Profile → Options → List Token → Read Options
options_at n profile o ts = until_over (option_with profile) n o ts

-- ---- rules

-- ["drop" | "return"]
unfoldable pub policy_at : List Token → Option Policy × List Token
policy_at ts = if begins (codes "drop") ts then (Some policy.Drop, drop 1 ts)
    else (if begins (codes "return") ts then (Some policy.Return, drop 1 ts) else (None, ts))

-- action = "pass" | "block" ["drop" | "return"]
unfoldable pub action_at : List Token → Read WrittenAction
action_at ts =
    if begins (codes "pass") ts then Some (Pass, drop 1 ts)
    else (if begins (codes "block") ts then (let said = policy_at (drop 1 ts) in Some (Blocks said.0, said.1))
    else None)

-- a rule as it is written
pub record RuleText : Type 0 where
  pub action : WrittenAction
  pub quick : Bool
  pub conditions : ConditionsText
  pub state : Option Bool

-- a block rule keeps no state
abbrev pub may_keep : WrittenAction → Option Bool → Bool
may_keep Pass state = true
may_keep (Blocks said) (Some true) = false
may_keep (Blocks said) (Some false) = true
may_keep (Blocks said) None = true

-- rule = action [way] ["log"] ["quick"] common {option}
unfoldable pub rule_at : Profile → List Token → Read RuleText
rule_at profile ts = do
  action ← action_at ts
  let direction = direction_at action.1
  let log = option_at (codes "log") direction.1
  let quick = option_at (codes "quick") log.1
  common ← common_at profile quick.1
  options ← options_at (suc (length common.1)) profile no_options common.1
  if_so (may_keep action.0 options.0.state) (
    record {
      action = action.0;
      quick = quick.0;
      conditions = record {
        direction = direction.0;
        common = common.0;
        flags = options.0.flags;
        types = options.0.types;
      };
      state = options.0.state;
    },
    options.1,
  )

-- ---- blocks

mutual
  -- a filter rule, an anchor rule without a block, or one with its block, as they are written
  pub data ItemText : Type 0 where
    RuleItem : (rule : RuleText) → ItemText
    AnchorItem : (anchor : AnchorText) → ItemText
    BlockItem : (heading : HeadingText) → (block : ItemTexts) → ItemText

  -- the rules of a block
  pub data ItemTexts : Type 0 where
    no_texts : ItemTexts
    one_text : (item : ItemText) → (items : ItemTexts) → ItemTexts

-- a list of rules as those of a block, in order
abbrev pub texts_of : List ItemText → ItemTexts
texts_of [] = no_texts
texts_of (item ∷ items) = one_text item (texts_of items)

-- `/*` is behind the name
abbrev pub is_wild : Option Target → Bool
is_wild None = false
is_wild (Some target) = target.children

-- an anchor rule without a block: it has a name
abbrev pub anchor_item : HeadingText → List Token → Read ItemText
anchor_item h ts = h.target >>= λ target. if_so (is_over ts) (AnchorItem (anchor_with h target), ts)

-- an anchor rule behind its block
abbrev pub block_item : HeadingText → ItemTexts × List Token → Read ItemText
block_item h block = if_so (is_over block.1) (BlockItem h block.0, block.1)

-- an anchor rule behind its heading, where a block is read so behind its brace
unfoldable pub anchor_behind : (List Token → Read ItemTexts) → HeadingText → List Token → Read ItemText
anchor_behind block h ts =
    if begins_symbol mark.Open ts then (if is_wild h.target then None else (block (drop 1 ts) >>= block_item h))
    else anchor_item h ts

-- a filter rule that was read, as a rule of any kind
abbrev pub as_rule : RuleText × List Token → Read ItemText
as_rule rule = Some (RuleItem rule.0, rule.1)

-- a filter rule
abbrev pub rule_item_at : Profile → List Token → Read ItemText
rule_item_at profile ts = rule_at profile ts >>= as_rule

-- item = "anchor" heading [block] | rule, where a block is read so behind its brace
unfoldable pub item_with : (List Token → Read ItemTexts) → Profile → List Token → Read ItemText
item_with block profile ts =
    if begins (codes "anchor") ts then (heading_at profile (drop 1 ts) >>= λ h. anchor_behind block h.0 h.1)
    else rule_item_at profile ts

-- a rule in front of those that were read behind it in its block
abbrev pub put_text : ItemText → ItemTexts × List Token → Read ItemTexts
put_text item more = Some (one_text item more.0, more.1)

-- block = "{" {NL} [item {NL {NL} item} {NL}] "}", behind the brace that opens it; an item ends where it is over. No
-- more than n steps are made, of which each takes a token.
-- Example: anchor { pass newline block }.
unfoldable pub items_at : ℕ → Profile → List Token → Read ItemTexts
items_at zero profile ts = None
items_at (suc n) profile ts =
    if starts is_newline ts then items_at n profile (drop 1 ts)
    else (if begins_symbol mark.Close ts then Some (no_texts, drop 1 ts)
    else (item_with (items_at n profile) profile ts >>= λ item. items_at n profile item.1 >>= put_text item.0))

-- a rule of any kind, with no more than n steps in each block
unfoldable pub item_at : ℕ → Profile → List Token → Read ItemText
item_at n profile ts = item_with (items_at n profile) profile ts

-- ---- set

-- what is set: what a plain block does, or the interfaces that are skipped
pub data Setting : Type 0 where
  SetPolicy : (policy : Policy) → Setting
  SetSkip : (names : Elements Name) → Setting

-- what was read, if no token is left behind it
abbrev pub all_read : {X : Type 0} → Read X → Option X
all_read None = None
all_read (Some (x, ts)) = if_so (is_end ts) x

-- "block-policy" ("drop" | "return")
abbrev pub policy_set : (Option Policy × List Token) → Option Setting
policy_set (None, ts) = None
policy_set (Some said, ts) = if_so (is_end ts) (SetPolicy said)

-- "on" (IFNAME | list(IFNAME))
unfoldable pub skip_set : Profile → List Token → Option Setting
skip_set profile ts =
    if begins (codes "on") ts then (all_read (some_at (interface_name_at profile) (drop 1 ts)) >>= λ names.
    Some (SetSkip names)) else None

-- set = "set" "block-policy" .. | "set" "skip" "on" .., after the first keyword
unfoldable pub setting_of : Profile → List Token → Option Setting
setting_of profile ts =
    if begins (codes "block-policy") ts then policy_set (policy_at (drop 1 ts))
    else (if begins (codes "skip") ts then skip_set profile (drop 1 ts) else None)

-- ---- statements

-- a statement that defines no macro: set, a table, a filter rule, an anchor rule without a block or with one
pub data Statement : Type 0 where
  Sets : (setting : Setting) → Statement
  Tables : (table : TableText) → Statement
  Rules : (rule : RuleText) → Statement
  Anchors : (anchor : AnchorText) → Statement
  AnchorBlocks : (heading : HeadingText) → (block : ItemTexts) → Statement

-- what is set as a statement, if it was read
abbrev pub as_setting : Option Setting → Option Statement
as_setting None = None
as_setting (Some setting) = Some (Sets setting)

-- a table as a statement, if it was read
abbrev pub as_table : Option TableText → Option Statement
as_table None = None
as_table (Some table) = Some (Tables table)

-- a rule of any kind as a statement
abbrev pub statement_with : ItemText → Statement
statement_with (RuleItem rule) = Rules rule
statement_with (AnchorItem anchor) = Anchors anchor
statement_with (BlockItem heading block) = AnchorBlocks heading block

-- the rule, where it is all of the statement
abbrev pub as_item : Read ItemText → Option Statement
as_item None = None
as_item (Some (item, ts)) = if_so (is_end ts) (statement_with item)

-- the value of a statement that defines no macro, none where the grammar doesn't spell it
unfoldable pub value_of : Profile → List Token → Option Statement
value_of profile ts =
    if begins (codes "set") ts then as_setting (setting_of profile (drop 1 ts))
    else (if begins (codes "table") ts then as_table (table_of profile (drop 1 ts))
    else as_item (item_at (length ts) profile ts))
