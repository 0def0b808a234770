-- How a ruleset is shown: a line for each part, its tokens between single blanks.
use Rattle.std.specs.Prelude.{ℕ, Bool, true, false, List, [], ◌∷◌, ◌++◌, Option, Some, None, codes, decimal}
use Rattle.std.specs.Prelude.{map, if◌then◌else◌}
use Rattle.pf_addr.specs.Shown.{shown_addr, shown_prefix}
use Rattle.pf_rules.specs.declared.rule.Action.{Action}
use Rattle.pf_rules.specs.declared.rule.Action.TheVariants.{Pass, Drop, Return}
use Rattle.pf_rules.specs.declared.parts.Direction.{Direction}
use Rattle.pf_rules.specs.declared.parts.Direction.TheVariants.{In, Out}
use Rattle.pf_addr.specs.declared.addr.Family.{Family}
use Rattle.pf_addr.specs.declared.addr.Family.TheVariants.{Inet, Inet6}
use Rattle.pf_rules.specs.declared.parts.Interface.{Interface}
use Rattle.pf_rules.specs.declared.parts.Addresses.{Addresses}
use Rattle.pf_rules.specs.declared.parts.Addresses.TheVariants.{Prefix, Range, Table}
use Rattle.pf_rules.specs.declared.parts.Host.{Host}
use Rattle.pf_rules.specs.declared.parts.Host.TheVariants as host
use Rattle.pf_rules.specs.declared.parts.PortTest.{PortTest}
use Rattle.pf_rules.specs.declared.parts.PortTest.TheVariants.{Equal, NotEqual, Less, LessEqual, Greater}
use Rattle.pf_rules.specs.declared.parts.PortTest.TheVariants.{GreaterEqual, FromTo, Between, Outside}
use Rattle.pf_rules.specs.declared.flags.TcpFlags.{TcpFlags}
use Rattle.pf_rules.specs.declared.parts.FlagTest.{FlagTest}
use Rattle.pf_rules.specs.declared.parts.FlagTest.TheVariants as flags
use Rattle.pf_rules.specs.declared.rule.Conditions.{Conditions}
use Rattle.pf_rules.specs.declared.rule.Rule.{Rule}
use Rattle.pf_rules.specs.Items.{Target, Heading, AnyRule, FilterRule, AnchorRule, ItemValue, Filters}
use Rattle.pf_rules.specs.Items.{Anchors, Blocks}
use Rattle.pf_rules.specs.Items.{ItemValues, no_items, one_more}
use Rattle.pf_rules.specs.Names.{Name, begins_below}
use Rattle.pf_rules.specs.Rulesets.{RulesetValue, TableValue}
use Rattle.pf_rules.specs.declared.ruleset.TableEntry.{TableEntry}

-- a token of a line: its bytes, without a blank between them
abbrev pub Part : Type 0
Part = List ℕ

-- ---- the parts of a rule

-- pass, block drop or block return
abbrev pub action_parts : Action → List Part
action_parts Pass = codes "pass" ∷ []
action_parts Drop = codes "block" ∷ codes "drop" ∷ []
action_parts Return = codes "block" ∷ codes "return" ∷ []

-- in or out; nothing where a rule is for both
abbrev pub direction_parts : Option Direction → List Part
direction_parts None = []
direction_parts (Some In) = codes "in" ∷ []
direction_parts (Some Out) = codes "out" ∷ []

-- quick, if the rule is
abbrev pub quick_parts : Bool → List Part
quick_parts true = codes "quick" ∷ []
quick_parts false = []

-- `!` directly before what is negated
abbrev pub negated_part : Bool → Part → Part
negated_part true part = 33 ∷ part
negated_part false part = part

-- the part whose first byte gets `!`
abbrev pub negated_parts : List Part → List Part
negated_parts [] = []
negated_parts (part ∷ parts) = (33 ∷ part) ∷ parts

-- on and the interface's name, if there is one, `!` directly before it where it is negated
abbrev pub interface_parts : Option Interface → List Part
interface_parts None = []
interface_parts (Some i) = codes "on" ∷ negated_part i.negated i.name ∷ []

-- inet or inet6; nothing where a rule is for both
abbrev pub family_parts : Option Family → List Part
family_parts None = []
family_parts (Some Inet) = codes "inet" ∷ []
family_parts (Some Inet6) = codes "inet6" ∷ []

-- proto and the protocol's number, if there is one
abbrev pub protocol_parts : Option ℕ → List Part
protocol_parts None = []
protocol_parts (Some n) = codes "proto" ∷ decimal n ∷ []

-- <t>
abbrev pub table_sign : Name → Part
table_sign name = 60 ∷ (name ++ 62 ∷ [])

-- a prefix, a - b, or <t>
abbrev pub addresses_parts : Addresses → List Part
addresses_parts (Prefix block) = shown_prefix block ∷ []
addresses_parts (Table name) = table_sign name ∷ []
addresses_parts (Range span) = shown_addr span.first ∷ codes "-" ∷ shown_addr span.last ∷ []

-- any, or addresses, `!` directly before them where they are negated
abbrev pub host_parts : Host → List Part
host_parts host.Any = codes "any" ∷ []
host_parts (host.In set) = addresses_parts set
host_parts (host.NotIn set) = negated_parts (addresses_parts set)

-- an operator and a port, a:b, or two ports with >< or <> between them
abbrev pub test_parts : PortTest → List Part
test_parts (Equal n) = codes "=" ∷ decimal n ∷ []
test_parts (NotEqual n) = codes "!=" ∷ decimal n ∷ []
test_parts (Less n) = codes "<" ∷ decimal n ∷ []
test_parts (LessEqual n) = codes "<=" ∷ decimal n ∷ []
test_parts (Greater n) = codes ">" ∷ decimal n ∷ []
test_parts (GreaterEqual n) = codes ">=" ∷ decimal n ∷ []
test_parts (FromTo a b) = (decimal a ++ 58 ∷ decimal b) ∷ []
test_parts (Between a b) = decimal a ∷ codes "><" ∷ decimal b ∷ []
test_parts (Outside a b) = decimal a ∷ codes "<>" ∷ decimal b ∷ []

-- port and its test, if there is one
abbrev pub port_parts : Option PortTest → List Part
port_parts None = []
port_parts (Some test) = codes "port" ∷ test_parts test

-- the keyword from or to, the host, and the port, if there is a test of it
abbrev pub end_parts : List ℕ → Host → Option PortTest → List Part
end_parts word h port = word ∷ (host_parts h ++ port_parts port)

-- `all` where both hosts are any, without ports
abbrev pub ends_parts : Host → Option PortTest → Host → Option PortTest → List Part
ends_parts host.Any None host.Any None = codes "all" ∷ []
ends_parts source source_port destination destination_port =
    end_parts (codes "from") source source_port ++ end_parts (codes "to") destination destination_port

-- icmp-type and the type's number, if there is one
abbrev pub type_parts : Option ℕ → List Part
type_parts None = []
type_parts (Some n) = codes "icmp-type" ∷ decimal n ∷ []

-- the letter of a flag, if it is set
abbrev pub letter : Bool → ℕ → List ℕ
letter true b = b ∷ []
letter false b = []

-- the letters of the flags that are set, in the order FSRPAUEW
abbrev pub letters : TcpFlags → List ℕ
letters f =
    letter f.fin 70 ++ (letter f.syn 83 ++ (letter f.rst 82 ++ (letter f.psh 80
    ++ (letter f.ack 65 ++ (letter f.urg 85 ++ (letter f.ece 69 ++ letter f.cwr 87))))))

-- any, or the letters of the flags that must be set, a slash, and those of all that are checked
abbrev pub flags_text : FlagTest → List ℕ
flags_text flags.Any = codes "any"
flags_text (flags.Just set of) = letters set ++ 47 ∷ letters of

-- a pass rule always shows its flags, another one only where something is checked
abbrev pub flags_parts : Action → FlagTest → List Part
flags_parts Pass test = codes "flags" ∷ flags_text test ∷ []
flags_parts Drop flags.Any = []
flags_parts Drop (flags.Just set of) = codes "flags" ∷ flags_text (flags.Just set of) ∷ []
flags_parts Return flags.Any = []
flags_parts Return (flags.Just set of) = codes "flags" ∷ flags_text (flags.Just set of) ∷ []

-- keep state or no state in a pass rule; nothing in another one
abbrev pub state_parts : Action → Bool → List Part
state_parts Pass true = codes "keep" ∷ codes "state" ∷ []
state_parts Pass false = codes "no" ∷ codes "state" ∷ []
state_parts Drop keep = []
state_parts Return keep = []

-- interface, family, protocol, both ends, and type of ICMP
unfoldable pub condition_parts : Conditions → List Part
condition_parts c =
    interface_parts c.interface ++ (family_parts c.family ++ (protocol_parts c.protocol
    ++ (ends_parts c.source c.source_port c.destination c.destination_port ++ type_parts c.icmp_type)))

-- a filter rule: its action, direction, quick, conditions, flags and state
unfoldable pub rule_parts : Rule → List Part
rule_parts r =
    action_parts r.action ++ (direction_parts r.conditions.direction ++ (quick_parts r.quick
    ++ (condition_parts r.conditions ++ (flags_parts r.action r.conditions.flags ++
    state_parts r.action r.keeps_state))))

-- ---- lines

-- each part behind a blank, and a newline
abbrev pub more_parts : List Part → List ℕ
more_parts [] = 10 ∷ []
more_parts (part ∷ parts) = 32 ∷ (part ++ more_parts parts)

-- parts between blanks, and a newline
abbrev pub line : List Part → List ℕ
line [] = 10 ∷ []
line (part ∷ parts) = part ++ more_parts parts

-- ---- anchor rules

-- names between slashes
abbrev pub slashed : List Name → List ℕ
slashed [] = []
slashed (name ∷ []) = name
slashed (name ∷ other ∷ names) = name ++ 47 ∷ slashed (other ∷ names)

-- `/*` stands for the anchors directly attached
abbrev pub children_text : Bool → List ℕ
children_text true = codes "/*"
children_text false = []

-- the names between slashes, and /* where it means the anchors directly attached
abbrev pub target_text : Target → List ℕ
target_text t = slashed t.names ++ children_text t.children

-- the target between quotes
abbrev pub target_part : Target → Part
target_part t = 34 ∷ (target_text t ++ 34 ∷ [])

-- what is behind the target; flags only where something is checked
unfoldable pub heading_parts : Heading → List Part
heading_parts h =
    direction_parts h.conditions.direction ++ (quick_parts h.quick
    ++ (condition_parts h.conditions ++ flags_parts Drop h.conditions.flags))

-- an anchor rule without a block, with its target
-- Example: pass in on em0 inet proto 6 from 10.0.0.0/8 to any port = 53 flags S/SA keep state.
unfoldable pub anchor_parts : Heading → List Part
anchor_parts h = codes "anchor" ∷ target_part h.target ∷ heading_parts h

-- the name that an unnamed block has: one that begins with _
abbrev pub is_unnamed : List Name → Bool
is_unnamed [] = false
is_unnamed (name ∷ []) = begins_below name
is_unnamed (name ∷ other ∷ names) = false

-- the target of a rule that carries a block, which is left out where the block is unnamed
abbrev pub block_target : Target → List Part
block_target t = if is_unnamed t.names then [] else target_part t ∷ []

-- an anchor rule up to the brace that opens its block
unfoldable pub block_parts : Heading → List Part
block_parts h = codes "anchor" ∷ (block_target h.target ++ (heading_parts h ++ codes "{" ∷ []))

-- ---- rules

-- the line of a rule, without the block that it may carry and with every name
abbrev pub any_rule_line : AnyRule → List ℕ
any_rule_line (FilterRule r) = line (rule_parts r)
any_rule_line (AnchorRule h) = line (anchor_parts h)

-- a line for each rule, without blocks and with every name
-- Example: anchor "_1" all.
abbrev pub shown_items : List AnyRule → List ℕ
shown_items [] = []
shown_items (rule ∷ rules) = any_rule_line rule ++ shown_items rules

-- a rule on its line; where it carries a block, a brace ends the line, the block's rules follow, and a brace on a line
abbrev mutual
  pub shown_item : ItemValue → List ℕ
  shown_item (Filters r) = line (rule_parts r)
  shown_item (Anchors h) = line (anchor_parts h)
  shown_item (Blocks h block) = line (block_parts h) ++ (shown_block block ++ codes "}\n")

  pub shown_block : ItemValues → List ℕ
  shown_block no_items = []
  shown_block (one_more item items) = shown_item item ++ shown_block items

-- rules one after another, each with the block that it may carry
abbrev pub shown_rules : List ItemValue → List ℕ
shown_rules [] = []
shown_rules (item ∷ items) = shown_item item ++ shown_rules items

-- set skip on { a b }, unless there is nothing to skip
abbrev pub skip_line : List Name → List ℕ
skip_line [] = []
skip_line (name ∷ names) = line (codes "set" ∷ codes "skip" ∷ codes "on" ∷ codes "{" ∷
    ((name ∷ names) ++ codes "}" ∷ []))

-- ---- tables

-- `!` directly before what is negated
abbrev pub entry_part : TableEntry → Part
entry_part e = negated_part e.negated (shown_prefix e.prefix)

-- an entry behind a blank
abbrev pub spaced_entry : TableEntry → List ℕ
spaced_entry e = 32 ∷ entry_part e

-- { e e }, where there is a list
abbrev pub entries_parts : Option (List TableEntry) → List Part
entries_parts None = []
entries_parts (Some entries) = codes "{" ∷ (map entry_part entries ++ codes "}" ∷ [])

-- the keyword, if it is given
abbrev pub word_parts : Bool → List ℕ → List Part
word_parts true word = word ∷ []
word_parts false word = []

-- a table: its name, persist and const where they are given, and its entries where they are listed
unfoldable pub table_parts : TableValue → List Part
table_parts t = codes "table" ∷ table_sign t.name ∷ (word_parts t.persist (codes "persist") ++
    (word_parts t.is_const (codes "const") ++ entries_parts t.entries))

-- a line for each table
abbrev pub table_lines : List TableValue → List ℕ
table_lines [] = []
table_lines (t ∷ tables) = line (table_parts t) ++ table_lines tables

-- ---- rulesets

-- a ruleset
unfoldable pub shown : RulesetValue → List ℕ
shown r = skip_line r.skip ++ (table_lines r.tables ++ shown_rules r.items)
