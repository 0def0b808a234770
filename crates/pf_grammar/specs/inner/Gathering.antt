-- What the code keeps of the statements so far, and what one more changes.
use Rattle.std.specs.Prelude.{◌≡◌, [], ◌∷◌, ◌++◌, map, Result, Ok, Err}
use Rattle.pf_tokens.specs.Defined.{definition_of}
use Rattle.pf_tokens.specs.Known.{definitions_of}
use Rattle.pf_grammar.specs.declared.fault.ParseFault.{ParseFault}
use Rattle.pf_grammar.specs.declared.fault.ParseFault.TheVariants as faults
use Rattle.pf_grammar.specs.declared.fault.Refusal.{Refusal}
use Rattle.pf_grammar.specs.declared.gathered.Change.{Change}
use Rattle.pf_grammar.specs.declared.gathered.Change.TheVariants as changes
use Rattle.pf_grammar.specs.declared.gathered.Gathered.{Gathered}
use Rattle.pf_rules.specs.declared.rule.Rule.{Rule}
use Rattle.pf_rules.specs.Items.{Anchors, Filters, Heading}
use Rattle.pf_rules.specs.Seen.{heading_of, items_of}
use Rattle.pf_grammar.specs.Reading.{Sofar, with_skip, with_table, with_items}
use Rattle.pf_rules.specs.Rulesets.{RulesetValue, table_of}
use Rattle.pf_expansion.specs.Defined.{tables_of}

abbrev pub ruleset_in : Gathered → RulesetValue
ruleset_in g = record { skip = g.skip.items; tables = tables_of g.tables; items = items_of g.items.items }

abbrev pub sofar_of : Gathered → Sofar
sofar_of g = record {
  macros = definitions_of g.macros;
  policy = g.policy;
  content = ruleset_in g;
}

abbrev pub with_change : Sofar → Change → Sofar
with_change sofar (changes.Defines made) = record sofar { macros = sofar.macros ++ definition_of made ∷ [] }
with_change sofar (changes.Sets said) = record sofar { policy = said }
with_change sofar (changes.Skips names) = with_skip sofar names.items
with_change sofar (changes.Tables table) = with_table sofar (table_of table)
with_change sofar (changes.Adds rules) =
    with_items sofar (map (λ (r : Rule). Filters r) rules.items)
with_change sofar (changes.AddsAnchors headings) =
    with_items sofar (map (λ (h : Heading). Anchors h) (map heading_of headings.items))
with_change sofar (changes.AddsItems items) = with_items sofar (items_of items.items)

-- what the statement changes, or its refusal; unless out of memory
abbrev pub Judges : Sofar → Result Change ParseFault → Result Sofar Refusal → Type 0
Judges sofar (Ok change) read = read ≡ Ok (with_change sofar change)
Judges sofar (Err faults.Memory) read = Unit {0}
Judges sofar (Err (faults.Refused refusal)) read = read ≡ Err refusal
