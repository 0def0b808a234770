-- The text of a path, and the script of a configuration, as they are written.
use Rattle.std.specs.Prelude.{ℕ, zero, suc, Bool, true, false, ◌==◌, ◌&&◌, not, nat_le, List, [], ◌∷◌, ◌++◌, ◌+◌, ◌-◌}
use Rattle.std.specs.Prelude.{length, take, drop, map, Option, Some, None, codes, decimal, bytes_eq}
use Rattle.std.specs.Prelude.{if◌then◌else◌}
use Rattle.std.specs.List.{flat_map, list_any}
use Rattle.std.specs.Str.{trim_end}
use Rattle.pf_rules.specs.Names.{Name}
use Rattle.pf_rules.specs.Items.{Target, Heading, AnyRule, FilterRule, AnchorRule}
use Rattle.pf_rules.specs.Rulesets as rulesets
use Rattle.pf_rules.specs.declared.ruleset.TableEntry.{TableEntry}
use Rattle.pf_tables.specs.Tables.{TableValue}
use Rattle.pf_show.specs.Shown.{any_rule_line, line, skip_line, spaced_entry, table_parts}
use Rattle.pf_config.specs.Map.{Configuration, Path, path_eq, rules_at, table_names, table_at}
use Rattle.pf_entry.specs.Entry.{Command, load}
use Rattle.pf_command.specs.Arguments.{path_words, table_words, command_words}
use Rattle.pf_dump.specs.Texts.{Text, text_paths}

-- ---- tables

-- a table of this name as a line defines it, with these entries
abbrev pub defined : Name → TableValue → (entries : Option (List TableEntry)) → rulesets.TableValue
defined name t entries = record { name = name; persist = t.persist; is_const = t.is_const; entries = entries }

-- the line that defines a table
-- Example: table <t> persist { 10.0.0.0/8 }
abbrev pub table_text : (listed : Bool) → Name → TableValue → List ℕ
table_text listed name t = line (table_parts (defined name t (if listed then Some t.entries else None)))

abbrev pub table_text_if : (listed : Bool) → Name → Option TableValue → List ℕ
table_text_if listed name None = []
table_text_if listed name (Some t) = table_text listed name t

-- the lines that define the tables of a path
abbrev pub tables_text : (listed : Bool) → Configuration → Path → List ℕ
tables_text listed c p = flat_map (λ (n : Name). table_text_if listed n (table_at c p n)) (table_names c p)

-- ---- rules

-- the anchor rule that a rule is
abbrev pub heading_in : AnyRule → Option Heading
heading_in (FilterRule r) = None
heading_in (AnchorRule h) = Some h

abbrev pub names_in : Option Heading → Path
names_in None = []
names_in (Some h) = h.target.names

-- the name, if it is that of the unnamed block of this number
abbrev pub name_if : List Name → (number : ℕ) → Option Name
name_if [] k = None
name_if (n ∷ []) k = if bytes_eq n (codes "_" ++ decimal k) then Some n else None
name_if (n ∷ m ∷ ns) k = None

abbrev pub block_name : Target → (number : ℕ) → Option Name
block_name t k = if t.children then None else name_if t.names k

-- an anchor rule on these names themselves
abbrev pub is_on : Path → Option Heading → Bool
is_on names None = false
is_on names (Some h) = not h.target.children && path_eq h.target.names names

-- one of the rules is
abbrev pub has_target : Path → List AnyRule → Bool
has_target names rules = list_any (λ (r : AnyRule). is_on names (heading_in r)) rules

abbrev pub has_rules : List AnyRule → Bool
has_rules [] = false
has_rules (r ∷ rs) = true

-- below an unnamed block the first rule on an anchor with rules carries them
abbrev pub carries : Configuration → Path → (hidden : Bool) → (before : List AnyRule) → Target → Bool
carries c p hidden before t =
    hidden && not t.children && not (has_target t.names before) && has_rules (rules_at c (p ++ t.names))

-- what a rule opens: nothing, or a block that no command names, of an unnamed one with its name
pub data Opens : Type 0 where
  Closed : Opens
  Block : (unnamed : Option Name) → Opens

abbrev pub opens_if : Option Name → (carries : Bool) → Opens
opens_if (Some n) carries = Block (Some n)
opens_if None true = Block None
opens_if None false = Closed

-- a rule behind others, where the next unnamed block has this number
abbrev pub opens : Configuration → Path → (hidden : Bool) → (before : List AnyRule) → (number : ℕ) → Option Heading →
    Opens
opens c p hidden before k None = Closed
opens c p hidden before k (Some h) = opens_if (block_name h.target k) (carries c p hidden before h.target)

-- how many unnamed blocks it opens
abbrev pub unnamed_in : Opens → ℕ
unnamed_in Closed = 0
unnamed_in (Block None) = 0
unnamed_in (Block (Some n)) = 1

-- an anchor rule up to its conditions
abbrev pub anchor_front : Name → List ℕ
anchor_front name = codes "anchor \"" ++ name ++ codes "\""

-- the line of an anchor rule without its name
abbrev pub without_name : Name → List ℕ → List ℕ
without_name name text =
    if bytes_eq (take (length (anchor_front name)) text) (anchor_front name)
    then codes "anchor" ++ drop (length (anchor_front name)) text else text

-- an anchor rule's line, of an unnamed block without the name
abbrev pub heading_text : (unnamed : Option Name) → List ℕ → List ℕ
heading_text None text = text
heading_text (Some n) text = without_name n text

-- a rule's line, with the rules of the block that it opens in braces
abbrev pub rule_text : Opens → (line block : List ℕ) → List ℕ
rule_text Closed line block = line
rule_text (Block unnamed) line block =
    heading_text unnamed (trim_end line) ++ codes " {\n" ++ block ++ codes "}\n"

-- rules behind others, with the blocks that they open
abbrev pub rules_behind : (block : Path → List ℕ) → Configuration → Path → (hidden : Bool) →
    (before : List AnyRule) → (number : ℕ) → List AnyRule → List ℕ
rules_behind block c p hidden before k [] = []
rules_behind block c p hidden before k (r ∷ rs) =
    let o = opens c p hidden before k (heading_in r) in
    rule_text o (any_rule_line r) (block (p ++ names_in (heading_in r))) ++
    rules_behind block c p hidden (before ++ (r ∷ [])) (k + unnamed_in o) rs

-- the rules of a path, with their blocks down to a depth; hidden are the paths below an unnamed block
unfoldable pub rules_text : (depth : ℕ) → (hidden : Bool) → Configuration → Path → List ℕ
rules_text zero hidden c p = []
rules_text (suc d) hidden c p = rules_behind (rules_text d true c) c p hidden [] 1 (rules_at c p)

-- ---- the text of a path

abbrev pub skip_at : Configuration → Path → List ℕ
skip_at c [] = skip_line c.skip
skip_at c (n ∷ p) = []

-- the skipped interfaces of main, the tables, with their entries if they are listed, and the rules
abbrev pub path_text : (listed : Bool) → Configuration → Path → List ℕ
path_text listed c p = skip_at c p ++ (tables_text listed c p ++ rules_text 10 false c p)

-- one for each path that a command may load, with the entries of the tables
abbrev pub text_at : Configuration → Path → Text
text_at c p = record { path = p; text = path_text true c p }

abbrev pub texts_of : Configuration → List Text
texts_of c = map (text_at c) (text_paths c)

-- ---- a script

-- the last byte isn't a newline
abbrev pub is_open_after : Bool → List ℕ → Bool
is_open_after pending [] = pending
is_open_after pending (b ∷ bs) = is_open_after (not (b == 10)) bs

-- a newline where the text has none at its end
abbrev pub text_end : List ℕ → List ℕ
text_end text = if is_open_after false text then codes "\n" else []

-- a load, its text, and a line `.`
abbrev pub load_lines : Path → List ℕ → List ℕ
load_lines p text = codes "pfctl " ++ path_words p ++ codes "-f -\n" ++ text ++ text_end text ++ codes ".\n"

-- any other command
abbrev pub words_line : Command → List ℕ
words_line command = codes "pfctl " ++ command_words command ++ codes "\n"

-- a command as a line of a script, a load with its text
abbrev pub change_lines : Command → List ℕ
change_lines (load p profile text) = load_lines p text
change_lines command = words_line command

-- a command on a table up to its addresses
abbrev pub table_command : Path → Name → (word : List ℕ) → List ℕ
table_command p name word = codes "pfctl " ++ table_words p name word

-- addresses, of which a command has room for some more; then another one adds
abbrev pub addresses_text : Path → Name → (room : ℕ) → List TableEntry → List ℕ
addresses_text p name room [] = codes "\n"
addresses_text p name zero (e ∷ es) =
    codes "\n" ++ table_command p name (codes "add") ++ spaced_entry e ++ addresses_text p name 1599 es
addresses_text p name (suc room) (e ∷ es) = spaced_entry e ++ addresses_text p name room es

-- the commands that give a table its entries: a replacement, and where they are too many additions
abbrev pub entries_lines : Path → Name → List TableEntry → List ℕ
entries_lines p name entries = table_command p name (codes "replace") ++ addresses_text p name 1600 entries

abbrev pub entries_lines_if : Path → Name → Option TableValue → List ℕ
entries_lines_if p name None = []
entries_lines_if p name (Some t) = entries_lines p name t.entries

abbrev pub all_entries_lines : Configuration → Path → List ℕ
all_entries_lines c p = flat_map (λ (n : Name). entries_lines_if p n (table_at c p n)) (table_names c p)

-- the lines of a path: its load, and before it the entries of its tables where the text would be too long with them
abbrev pub path_lines : Configuration → Path → List ℕ
path_lines c p =
    if nat_le (length (path_text true c p)) 32000 then load_lines p (path_text true c p)
    else all_entries_lines c p ++ load_lines p (path_text false c p)

-- the script of a configuration, main last
abbrev pub script_of : Configuration → List ℕ
script_of c = flat_map (path_lines c) (text_paths c)
