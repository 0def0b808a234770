-- What only code and proofs use beside `Seen`.
use Rattle.std.specs.Prelude.{ℕ}
use Rattle.pf_rules.specs.declared.parts.PortTest.{PortTest}
use Rattle.pf_rules.specs.declared.parts.PortTest.TheVariants as tests
use Rattle.pf_tokens.specs.declared.symbol.Symbol.{Symbol}
use Rattle.pf_tokens.specs.declared.symbol.Symbol.TheVariants as mark
use Rattle.pf_statements.specs.declared.conditions.End as written
use Rattle.pf_statements.specs.Conditions.{Ends}
use Rattle.pf_statements.specs.ConditionsSeen.{ends_of}

-- the test of an operator
abbrev pub compared : Symbol → ℕ → PortTest
compared mark.NotEqual = tests.NotEqual
compared mark.Less = tests.Less
compared mark.LessEqual = tests.LessEqual
compared mark.Greater = tests.Greater
compared mark.GreaterEqual = tests.GreaterEqual
compared _ = tests.Equal

-- the test of an operator between two ports, or of those from one to the other
abbrev pub joining : Symbol → ℕ → ℕ → PortTest
joining mark.Between = tests.Between
joining mark.Outside = tests.Outside
joining _ = tests.FromTo

abbrev pub pair_of : (written.End × written.End) → Ends × Ends
pair_of ends = (ends_of ends.0, ends_of ends.1)
