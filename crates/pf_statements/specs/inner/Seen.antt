-- What only code and proofs use beside `Seen`.
use Rattle.pf_statements.specs.declared.written.RuleOptions as options
use Rattle.pf_statements.specs.Statements.{Options}
use Rattle.pf_statements.specs.ConditionsSeen.{list_of}

abbrev pub options_of : options.RuleOptions → Options
options_of o = record { flags = o.flags; state = o.state; types = list_of o.types }
