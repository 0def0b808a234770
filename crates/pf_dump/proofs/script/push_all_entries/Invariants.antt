use Rattle.std.proofs.Common.{drop, ◌≡◌, ◌++◌, map}
use Rattle.std.specs.List.{flat_map}
use Rattle.pf_rules.specs.Names.{Name}
use Rattle.pf_config.specs.Map.{table_at}
use Rattle.pf_dump.specs.Written.{entries_lines_if, all_entries_lines}
use Rattle.pf_dump.proofs.script.push_all_entries.Given as goal

abbrev pub invariant-loop-name : goal.invariant-loop-name
invariant-loop-name l = l.script.items ++ flat_map (λ (n : Name). entries_lines_if l.path n (table_at l.config l.path n)) (map (λ x. x.now) (drop l.name-index l.name-items)) ≡ l.fn.script.items ++ all_entries_lines l.config l.path
