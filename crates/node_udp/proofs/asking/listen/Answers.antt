-- one wait
use Rattle.std.proofs.Common.{rules, ◌≡◌, ◌++◌, Some, None, take, refl, subst, sym}
use Rattle.px_transport.specs.Wires.{gives}
use Rattle.px_wire.specs.Message.{group}
use Rattle.node_udp.specs.Asking.{Answers}
use Rattle.node_udp.proofs.asking.listen.Goals as goal

pub returns-clause-heard : goal.returns-clause-heard
returns-clause-heard g c es t = (
  es ++ gives (Some (take c.in_ok-n.n c.recv.new.into)),
  c.in_ok-n.ensures.gave es t,
  (Some (take c.in_ok-n.n c.recv.new.into), refl, search rules),
)

pub returns-in_err-n-clause-heard : goal.returns-in_err-n-clause-heard
returns-in_err-n-clause-heard g c es t =
    let none : c.from_residual.result ≡ None = search rules in (
      es ++ gives None,
      c.in_err-n.ensures.gave es t,
      (None, refl, subst (λ a. Answers (group c.args.m.now) c.args.node None a) (sym none) tt),
    )
