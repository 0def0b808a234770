-- A run at a socket, with keys or without.
use Rattle.std.proofs.Common.{◌≡◌, ℕ, Bool, List, Option, subst}
use Rattle.px_records.specs.declared.records.Records.{Ghosts}
use Rattle.px_transport.specs.Sending.{Sealer}
use Rattle.px_wire.specs.declared.membership.Membership.{Membership}
use Rattle.node_udp.specs.Sockets.{SocketEvent}
use Rattle.node_control.specs.Sockets.{RunsSealedHearing}
use Rattle.cli_node.specs.declared.sealing.Sealing.{Sealing}
use Rattle.cli_node.specs.MemberRuns.{RunsWith}

-- the wire's keys and its sealer are these
pub as_sealed : {R : Type 0} (G : Ghosts R) (m : Membership) (hears : Bool) (given back : R) (events : List SocketEvent)
    (route : List (List ℕ) × ℕ) (ks ks' : List (List ℕ)) (s s' : Sealer) → ks ≡ ks' → s ≡ s' →
    RunsSealedHearing G m hears route ks s given back events → RunsSealedHearing G m hears route ks' s' given back events
as_sealed G m hears given back events route ks ks' s s' e f r =
    subst (λ (x : Sealer). RunsSealedHearing G m hears route ks' x given back events) f
    (subst (λ (x : List (List ℕ)). RunsSealedHearing G m hears route x s given back events) e r)

-- asks are heard where this says so, and packets are sealed with these keys
pub hearing_is : {R : Type 0} (G : Ghosts R) (m : Membership) (s s' : Option Sealing) (given back : R) (events : List SocketEvent)
    (hears hears' : Bool) (x y : List (List ℕ) × ℕ) → s' ≡ s → hears ≡ hears' → x ≡ y → RunsWith G m s hears x given back events →
    RunsWith G m s' hears' y given back events
hearing_is G m s s' given back events hears hears' x y e f d r =
    rw e (subst (λ (b : Bool). RunsWith G m s b y given back events) f
    (subst (λ (z : List (List ℕ) × ℕ). RunsWith G m s hears z given back events) d r))
