use Rattle.std.proofs.Common.{drop, ◌≡◌, ◌++◌, map, string_bytes}
use Rattle.std.specs.List.{flat_map}
use Rattle.pf_rules.specs.Names.{Name}
use Rattle.pf_config.specs.Map.{table_at}
use Rattle.pf_dump.specs.Written.{table_text_if, tables_text}
use Rattle.pf_dump.proofs.text.push_tables.Given as goal

abbrev pub invariant-loop-name : goal.invariant-loop-name
invariant-loop-name l = string_bytes l.out ++ flat_map (λ (n : Name). table_text_if l.is_listed n (table_at l.config l.path n)) (map (λ x. x.now) (drop l.name-index l.name-items)) ≡ string_bytes l.fn.out ++ tables_text l.is_listed l.config l.path
