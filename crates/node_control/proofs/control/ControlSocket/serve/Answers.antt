-- as many changes may be asked as between two rounds, and clients are served
use Rattle.std.proofs.Common.{refl}
use Rattle.node_control.proofs.Asking.{serves_same, serves_then, service_same}
use Rattle.node_control.proofs.control.ControlSocket.serve.Goals as goal

pub returns-then-serve_figures-clause-serves : goal.returns-then-serve_figures-clause-serves
returns-then-serve_figures-clause-serves g c =
    serves_then _ _ _ (serves_same c.args.service.now _ (service_same _ _ refl refl refl)) c.serve_figures.ensures.serves

pub returns-else-serve_figures-clause-serves : goal.returns-else-serve_figures-clause-serves
returns-else-serve_figures-clause-serves g c =
    serves_then _ _ _ (serves_then _ _ _ (serves_same c.args.service.now _ (service_same _ _ refl refl refl))
    c.serve_figures.ensures.serves) c.serve.ensures.serves

pub returns-then-serve-clause-serves : goal.returns-then-serve-clause-serves
returns-then-serve-clause-serves g c =
    serves_then _ _ _ (serves_same c.args.service.now _ (service_same _ _ refl refl refl)) c.serve-2.ensures.serves

pub returns-else-serve-clause-serves : goal.returns-else-serve-clause-serves
returns-else-serve-clause-serves g c =
    serves_then _ _ _ (serves_then _ _ _ (serves_same c.args.service.now _ (service_same _ _ refl refl refl))
    c.serve-2.ensures.serves) c.serve_figures-else-serve.ensures.serves
