-- Parts as they are in a line, one behind another.
use Rattle.std.specs.Prelude.{ℕ, Bool, true, false, List, [], ◌∷◌, ◌++◌, Option, Some, None}
use Rattle.pf_rules.specs.declared.parts.Host.{Host}
use Rattle.pf_rules.specs.declared.parts.Host.TheVariants as host
use Rattle.pf_rules.specs.declared.parts.PortTest.{PortTest}
use Rattle.pf_rules.specs.declared.item.Item.{Item}
use Rattle.pf_rules.specs.Seen.{item_of, rule_of}
use Rattle.pf_rules.specs.Names.{Name}
use Rattle.pf_show.specs.Shown.{Part, rule_parts, line, table_parts, any_rule_line, shown_item}
use Rattle.pf_rules.specs.declared.ruleset.TableDef.{TableDef}
use Rattle.pf_rules.specs.Rulesets.{table_of}

-- each part behind a blank
abbrev pub spaced : List Part → List ℕ
spaced [] = []
spaced (part ∷ parts) = 32 ∷ (part ++ spaced parts)

-- parts between blanks
abbrev pub joined : List Part → List ℕ
joined [] = []
joined (part ∷ parts) = part ++ spaced parts

-- the text, if it is wanted
abbrev pub text_if : Bool → List ℕ → List ℕ
text_if true text = text
text_if false text = []

-- any host, at any port
abbrev pub is_any_end : Host → Option PortTest → Bool
is_any_end host.Any None = true
is_any_end host.Any (Some test) = false
is_any_end (host.In set) port = false
is_any_end (host.NotIn set) port = false

-- the line of an item without its block
abbrev pub item_line : Item → List ℕ
item_line item = any_rule_line (rule_of item)

-- the lines of an item with its block
abbrev pub item_text : Item → List ℕ
item_text item = shown_item (item_of item)

-- a name behind a slash
abbrev pub slash_name : Name → List ℕ
slash_name name = 47 ∷ name

-- the line of a table
abbrev pub table_line : TableDef → List ℕ
table_line t = line (table_parts (table_of t))
