-- The combination that the code's choices stand for.
use Rattle.std.specs.Prelude.{List}
use Rattle.std.specs.Option.{option_copied}
use Rattle.pf_rules.specs.declared.parts.FlagTest.{FlagTest}
use Rattle.pf_rules.specs.declared.rule.Conditions.{Conditions}
use Rattle.pf_expansion.specs.declared.expand.Chosen.{Chosen}
use Rattle.pf_expansion.specs.Expansion.{Combination}
use Rattle.pf_statements.specs.Conditions.{ConditionsText}
use Rattle.pf_statements.specs.ConditionsSeen.{conditions_of}

abbrev pub combination_of : Chosen → Combination
combination_of c = record {
  interface = option_copied c.interface;
  protocol = c.protocol;
  source = c.source.now;
  source_port = c.source_port;
  destination = c.destination.now;
  destination_port = c.destination_port;
  icmp_type = c.icmp_type;
}

-- the conditions that go on from the choices
abbrev pub given_by : (FlagTest → ConditionsText → Combination → List Conditions) → Chosen → List Conditions
given_by going c = going c.test (conditions_of c.text.now) (combination_of c)
