-- The options of pfctl (pfctl(8)), as a command line has them.
use Rattle.std.specs.Prelude.{ℕ, Some, codes, List}
use Rattle.clap.specs.Words.{App, Rule, Text, new_app, new_rule, with_rule, matches_of, Row}
use Rattle.clap.specs.declared.builder.action.ArgAction.TheVariants.{Append, Set, SetTrue}
use Rattle.clap.specs.Lexer.{usize_max}

-- one letter, and a value
abbrev pub value_rule : Text → ℕ → Rule
value_rule id letter = record (new_rule id) { short = Some letter; action = Some Set }

-- one letter
abbrev pub flag_rule : Text → ℕ → Rule
flag_rule id letter = record (new_rule id) { short = Some letter; action = Some SetTrue }

-- any number of arguments
abbrev pub address_rule : Rule
address_rule = record (new_rule (codes "address")) {
  action = Some Append;
  range = Some (record { start_inclusive = 0; end_inclusive = usize_max });
}

-- -a PATH -f FILE -n -F WHAT
abbrev pub with_anchor : App → App
with_anchor app =
    let path = with_rule app (value_rule (codes "path") 97) in
    let file = with_rule path (value_rule (codes "file") 102) in
    let check = with_rule file (flag_rule (codes "check") 110) in
    with_rule check (value_rule (codes "flush") 70)

-- -t TABLE -T CHANGE -s WHAT ADDRESS..
abbrev pub with_table : App → App
with_table app =
    let table = with_rule app (value_rule (codes "table") 116) in
    let change = with_rule table (value_rule (codes "change") 84) in
    let show = with_rule change (value_rule (codes "show") 115) in
    with_rule show address_rule

-- all options of pfctl
abbrev pub with_pfctl : App → App
with_pfctl app = with_table (with_anchor app)

-- pfctl by itself
abbrev pub pfctl_app : App
pfctl_app = with_pfctl (new_app (codes "pfctl"))
