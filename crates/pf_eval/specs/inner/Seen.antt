-- What only code and proofs use beside `Seen`.
use Rattle.std.specs.Prelude.{Option, Some, None}
use Rattle.std.specs.Borrow.{Bor}
use Rattle.pf_config.specs.Map.{Configuration, Path, table_for}
use Rattle.pf_eval.specs.declared.scope.Scope.{Scope}
use Rattle.pf_eval.specs.Matching.{Tables}

-- the tables that rules at a path may name, where there is a configuration
abbrev pub tables_at : Option (Bor Configuration) → Path → Tables
tables_at None p name = None
tables_at (Some c) p name = table_for c.now p name

-- the tables that the rules of a scope may name
unfoldable pub tables_of : Scope → Tables
tables_of s name = tables_at s.config s.path.now name
