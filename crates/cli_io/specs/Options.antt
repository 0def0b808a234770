-- The options of subcommands, as `clap` has them.
use Rattle.std.specs.Prelude.{ℕ, Bool, true, List, [], ◌∷◌, Some, pos}
use Rattle.clap.specs.Lexer.{usize_max}
use Rattle.clap.specs.Words.{App, Rule, Text, new_rule, with_rule}
use Rattle.clap.specs.declared.builder.action.ArgAction.{ArgAction}
use Rattle.clap.specs.declared.builder.action.ArgAction.TheVariants.{Append, Set, SetTrue}
use Rattle.clap.specs.declared.builder.value_parser.ValueParser.TheVariants.{Signed, Unsigned}
use Rattle.cli_io.specs.declared.options.Argument.{Argument}
use Rattle.cli_io.specs.declared.options.Argument.TheVariants as argument

-- --NAME, and what it does
abbrev pub long_rule : Text → ArgAction → Rule
long_rule name action = record (new_rule name) { long = Some name; action = Some action }

-- --NAME
abbrev pub flag_rule : Text → Rule
flag_rule name = long_rule name SetTrue

-- --NAME VALUE
abbrev pub value_rule : Text → Rule
value_rule name = long_rule name Set

-- an option that has to be given, or needn't be
abbrev pub needed_if : Bool → Rule → Rule
needed_if is_needed rule = record rule { required = is_needed }

-- --NAME VALUE, which has to be given
abbrev pub needed_rule : Text → Rule
needed_rule name = needed_if true (value_rule name)

-- -L in place of --NAME
abbrev pub lettered : ℕ → Rule → Rule
lettered letter rule = record rule { short = Some letter }

-- --NAME VALUE.., once or more often
abbrev pub values_rule : Text → Rule
values_rule name = record (long_rule name Append) {
  range = Some (record { start_inclusive = 1; end_inclusive = usize_max });
}

-- --NAME N, from one number up to another
abbrev pub number_rule : Text → (least most : ℕ) → Rule
number_rule name least most = record (value_rule name) { parser = Some (Unsigned least most) }

-- --NAME N, of 8 and of 32 bits
abbrev pub u8_rule : Text → Rule
u8_rule name = record (value_rule name) { parser = Some (Signed (pos 0) (pos 255)) }

abbrev pub u32_rule : Text → Rule
u32_rule name = record (value_rule name) { parser = Some (Signed (pos 0) (pos 4294967295)) }

-- one argument behind the options, or none
abbrev pub single_rule : Text → Rule
single_rule name = record (new_rule name) { action = Some Set }

-- any number of arguments behind the options
abbrev pub several_rule : Text → Rule
several_rule name = record (new_rule name) {
  action = Some Append;
  range = Some (record { start_inclusive = 0; end_inclusive = usize_max });
}

-- the rule of an argument
abbrev pub rule_by : Argument → Rule
rule_by (argument.Flag name help) = flag_rule name.now
rule_by (argument.ShortFlag name help letter) = lettered letter (flag_rule name.now)
rule_by (argument.Value name help) = value_rule name.now
rule_by (argument.ShortValue name help letter) = lettered letter (value_rule name.now)
rule_by (argument.Needed name help) = needed_rule name.now
rule_by (argument.NeededIf name help is_needed) = needed_if is_needed (value_rule name.now)
rule_by (argument.Values name help) = values_rule name.now
rule_by (argument.Number name help least most) = number_rule name.now least most
rule_by (argument.U8 name help is_needed) = needed_if is_needed (u8_rule name.now)
rule_by (argument.U32 name help is_needed) = needed_if is_needed (u32_rule name.now)
rule_by (argument.Single name help) = single_rule name.now
rule_by (argument.Several name help) = several_rule name.now

-- a command with these rules more, in their order
abbrev pub with_rules : App → List Rule → App
with_rules app [] = app
with_rules app (rule ∷ rules) = with_rules (with_rule app rule) rules
