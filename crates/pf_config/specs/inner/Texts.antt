-- What a ruleset defines.
use Rattle.std.specs.Prelude.{List, filter}
use Rattle.std.specs.Str.{bytes_eq}
use Rattle.pf_rules.specs.Names.{Name}
use Rattle.pf_rules.specs.declared.ruleset.TableDef.{TableDef}
use Rattle.pf_rules.specs.Rulesets.{table_of}
use Rattle.pf_config.specs.Changes.{Definition}

abbrev pub definition_of : TableDef → Definition
definition_of d = table_of d

-- those of that name
abbrev pub of_name : Name → List Definition → List Definition
of_name n ds = filter (λ (d : Definition). bytes_eq d.name n) ds
