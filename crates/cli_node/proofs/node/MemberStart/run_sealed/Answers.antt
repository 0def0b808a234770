-- the packets can't be sealed
use Rattle.std.proofs.Common.{◌≡◌, Bool, false, inl, inr, subst}
use Rattle.std.specs.Prelude.{is_some}
use Rattle.cli_node.specs.Endings.{is_beyond}
use Rattle.cli_node.proofs.Beyond.{controlled_or_not, keyed_or_not}
use Rattle.cli_node.proofs.Endings.{unsealed, refused_as}
use Rattle.cli_node.proofs.node.MemberStart.run_sealed.Goals as goal

pub returns-in-Err-clause-store : goal.returns-in-Err-clause-store
returns-in-Err-clause-store g c =
    unsealed c.sealing_for.result c.in-Err.outcome c.in-Err.is c.sealing_for.ensures.refused

pub returns-in-Err-clause-ran : goal.returns-in-Err-clause-ran
returns-in-Err-clause-ran g c =
    inr (refused_as 95 c.sealing_for.result c.in-Err.outcome c.in-Err.is c.sealing_for.ensures.refused)

pub returns-in-Ok-clause-ran : goal.returns-in-Ok-clause-ran
returns-in-Ok-clause-ran g c = inl (c.in-Ok.sealing, c.in-Ok.ensures.keys, c.in-Ok.ensures.start, c.run_on.ensures.ran)

pub returns-in-Ok-clause-beyond : goal.returns-in-Ok-clause-beyond
returns-in-Ok-clause-beyond g c = keyed_or_not (is_some c.args.self.now.start.arguments.key) (is_some c.args.self.now.start.arguments.control) c.run_on.result c.run_on.ensures.beyond

pub returns-in-Err-clause-beyond : goal.returns-in-Err-clause-beyond
returns-in-Err-clause-beyond g c =
    controlled_or_not (is_some c.args.self.now.start.arguments.key) (is_some c.args.self.now.start.arguments.control) c.in-Err.outcome
    (subst (λ (k : Bool). is_beyond k false c.in-Err.outcome ≡ false) c.requires.keyed c.in-Err.ensures.beyond)
