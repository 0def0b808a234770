-- what is lent is the members'
use Rattle.std.proofs.Common.{List, sym, subst}
use Rattle.px_model.specs.Law.{world_after}
use Rattle.px_replica.specs.Made.{same}
use Rattle.pf_lab.specs.Ever.{ever_of, IsEver, IsAgreed}
use Rattle.pf_lab.specs.declared.host.Host.{Host}
use Rattle.pf_lab.proofs.Learnings.{is_ever, is_agreed}
use Rattle.pf_lab.proofs.state.Lab.ever_learned.Goals as goal

pub returns-clause-ever : goal.returns-clause-ever
returns-clause-ever c n some few events world =
    subst (λ (xs : List Host). IsEver (ever_of xs) (world_after same n events)) (sym c.as_slice-hosts.ensures.value)
    (is_ever n few events c.args.self.now world)

pub returns-clause-agreed : goal.returns-clause-agreed
returns-clause-agreed c n some few events world =
    subst (λ (xs : List Host). IsAgreed n (world_after same n events) (ever_of xs)) (sym c.as_slice-hosts.ensures.value)
    (is_agreed n few events c.args.self.now world)
