use Rattle.pf_statements.proofs.ElementsMet.{names_met, interfaces_met, protocols_met, types_met, hosts_met, ports_met}
use Rattle.pf_statements.proofs.condition_laws.elements_of_lists.Goals as goal

pub returns-clause-names : goal.returns-clause-names
returns-clause-names c = names_met

pub returns-clause-interfaces : goal.returns-clause-interfaces
returns-clause-interfaces c = interfaces_met

pub returns-clause-protocols : goal.returns-clause-protocols
returns-clause-protocols c = protocols_met

pub returns-clause-types : goal.returns-clause-types
returns-clause-types c = types_met

pub returns-clause-hosts : goal.returns-clause-hosts
returns-clause-hosts c = hosts_met

pub returns-clause-ports : goal.returns-clause-ports
returns-clause-ports c = ports_met
