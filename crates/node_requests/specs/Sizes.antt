-- How large a configuration is.
use Rattle.std.specs.Prelude.{ℕ, ◌+◌, fold, min, length, List, Option, Some, None}
use Rattle.pf_tables.specs.Tables.{TableValue}
use Rattle.pf_rules.specs.Names.{Name}
use Rattle.pf_config.specs.Map.{Configuration, Path, rules_at, table_at, table_names}

-- the sum of f over a list, or 2^64 - 1 where it is above that
abbrev pub total : {X : Type 0} → (X → ℕ) → List X → ℕ
total f xs = fold (λ n x. min (n + f x) 18446744073709551615) 0 xs

-- the entries of a table, none where it isn't there
abbrev pub entries_of : Option TableValue → ℕ
entries_of None = 0
entries_of (Some t) = length t.entries

-- the entries of these tables at a path
abbrev pub entries_at : Configuration → Path → List Name → ℕ
entries_at c p names = total (λ name. entries_of (table_at c p name)) names

-- rules, tables and entries at these paths
abbrev pub rules_below : Configuration → List Path → ℕ
rules_below c paths = total (λ p. length (rules_at c p)) paths

abbrev pub tables_below : Configuration → List Path → ℕ
tables_below c paths = total (λ p. length (table_names c p)) paths

abbrev pub entries_below : Configuration → List Path → ℕ
entries_below c paths = total (λ p. entries_at c p (table_names c p)) paths
