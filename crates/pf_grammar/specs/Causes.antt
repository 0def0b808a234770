-- Why a statement is refused.
use Rattle.std.specs.Prelude.{Bool, true, false, List, [], ◌∷◌, length, Option, Some, None}
use Rattle.pf_tokens.specs.declared.fault.ReadingFault.{ReadingFault}
use Rattle.pf_tokens.specs.declared.fault.ReadingFault.TheVariants as reading
use Rattle.pf_expansion.specs.declared.cause.Cause.{Cause}
use Rattle.pf_expansion.specs.declared.cause.Cause.TheVariants.{Lexical, Macro, Syntax, SetHere, TooMany}
use Rattle.pf_expansion.specs.Causes.{is_deep, lowest, rule_causes}
use Rattle.pf_grammar.specs.declared.place.Place.{Place}
use Rattle.pf_grammar.specs.declared.place.Place.TheVariants.{Main, Anchor}
use Rattle.pf_statements.specs.Statements.{Statement, Sets, Rules, Setting, SetPolicy, SetSkip, Tables, Anchors}
use Rattle.pf_statements.specs.Statements.{AnchorBlocks, BlockItem}
use Rattle.pf_expansion.specs.Blocks.{block_causes, unnamed_in}
use Rattle.pf_rules.specs.Items.{ItemValue}
use Rattle.pf_expansion.specs.Anchors.{anchor_causes}
use Rattle.pf_expansion.specs.Tables.{table_causes}
use Rattle.pf_rules.specs.Rulesets.{TableValue}

-- a fault while a statement is read
abbrev pub cause_of : ReadingFault → Cause
cause_of reading.Lexical = Lexical
cause_of reading.UnknownMacro = Macro
cause_of reading.TooMany = TooMany

-- the text is for an anchor, not for the main ruleset
abbrev pub is_anchor : Place → Bool
is_anchor Main = false
is_anchor Anchor = true

-- in the interfaces to skip more than 8 lists are in one another
abbrev pub is_deep_setting : Setting → Bool
is_deep_setting (SetPolicy policy) = false
is_deep_setting (SetSkip names) = is_deep names

-- each cause with its test, the lowest first
abbrev pub setting_causes : Place → Setting → List (Bool × Cause)
setting_causes place setting = (is_anchor place, SetHere) ∷ (is_deep_setting setting, TooMany) ∷ []

-- the cause that refuses a statement, if one does; these tables and rules are before it
-- Example: set skip in a source for an anchor is refused.
abbrev pub statement_cause : Place → List TableValue → List ItemValue → Option Statement → Option Cause
statement_cause place tables before None = Some Syntax
statement_cause place tables before (Some (Sets setting)) = lowest (setting_causes place setting)
statement_cause place tables before (Some (Tables table)) = lowest (table_causes tables table)
statement_cause place tables before (Some (Rules text)) = lowest (rule_causes (length before) text)
statement_cause place tables before (Some (Anchors text)) =
    lowest (anchor_causes (length before) (unnamed_in 0 before) text)
statement_cause place tables before (Some (AnchorBlocks heading block)) =
    lowest (block_causes before (BlockItem heading block))
