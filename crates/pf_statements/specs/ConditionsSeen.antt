-- What the code's written conditions stand for.
use Rattle.std.specs.Prelude.{Option, Some, None}
use Rattle.pf_tokens.specs.declared.lists.Listed.{Listed}
use Rattle.pf_tokens.specs.Lists.{Elements, elements_of}
use Rattle.pf_statements.specs.declared.conditions.End as written
use Rattle.pf_statements.specs.declared.conditions.Common as common
use Rattle.pf_statements.specs.declared.conditions.WrittenConditions.{WrittenConditions}
use Rattle.pf_statements.specs.Conditions.{Ends, CommonText, ConditionsText}

-- the elements that a list in code stands for, if there is one
abbrev pub list_of : {X : Type 0} → Option (Listed X) → Option (Elements X)
list_of None = None
list_of (Some list) = Some (elements_of list)

-- the hosts and ports, as they are written, that an end in code stands for
abbrev pub ends_of : written.End → Ends
ends_of e = record { hosts = elements_of e.hosts; ports = list_of e.ports }

-- the same of what rules and anchor rules have in common
abbrev pub common_of : common.Common → CommonText
common_of c = record {
  interfaces = list_of c.interfaces;
  family = c.family;
  protocols = list_of c.protocols;
  source = ends_of c.source;
  destination = ends_of c.destination;
}

-- the same of all conditions of a rule or an anchor rule on packets
abbrev pub conditions_of : WrittenConditions → ConditionsText
conditions_of c = record {
  direction = c.direction;
  common = common_of c.common;
  flags = c.flags;
  types = list_of c.types;
}
