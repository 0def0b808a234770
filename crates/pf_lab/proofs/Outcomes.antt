-- What becomes of an event.
use Rattle.std.proofs.Common.{◌≡◌, ◌∙◌, ap, sym, subst, refl, ℕ, ◌<◌, Bool, true, false, nat_lt, Option, Some, None, Result, Ok, Err, OnErr, IfOk, ◌&&◌, List, slice_get, arith}
use Rattle.std.proofs.lemmas.Bool.{lt-leb, le-ltb, leb-true, cond-true, cond-false}
use Rattle.std.proofs.lemmas.Option.{slice_get_within}
use Rattle.px_model.specs.Node.{Input}
use Rattle.px_model.specs.World.{World, NodeState, Action, Event, comes_to, at_member, happens, step_in, step_of, emptied}
use Rattle.px_model.specs.World.Event.{Runs, StopBefore, StopAfter, Restart}
use Rattle.px_model.specs.Spelling.{Bytes}
use Rattle.px_wire.specs.Message.{Group, group}
use Rattle.px_replica.specs.Made.{same, answer}
use Rattle.px_replica.specs.declared.datagram.Datagram.{Datagram}
use Rattle.pf_node.specs.Nodes.{state_in}
use Rattle.pf_lab.specs.inner.Coming.{Came, IsInput}
use Rattle.pf_lab.specs.Labs.{HostsAre, state_of, group_of}
use Rattle.pf_lab.specs.declared.coming.What.{What}
use Rattle.pf_lab.specs.declared.host.Host.{Host}
use Rattle.pf_lab.proofs.Taking.{input_here}
use Rattle.pf_lab.specs.declared.event.LabFault.{LabFault}
use Rattle.pf_lab.specs.declared.event.LabFault.TheVariants as fault
use Rattle.pf_lab.specs.declared.event.Outcome.{Outcome}
use Rattle.pf_lab.specs.declared.event.Outcome.TheVariants as outcome
use Rattle.pf_lab.specs.Outcomes.{is_nobodys, is_unknown, outcome_of, outcome_at, outcome_in, Reports}

-- somebody is addressed
pub addressed : (n m : ℕ) (w : World Bytes) (a : Action Bytes) (x : Input Bytes) → comes_to w a ≡ Some (m, x) → m < n → is_nobodys n (comes_to w a) ≡ false
addressed n m w a x come below = ap (is_nobodys n) come ∙ lt-leb n m below

pub outcome_up : (w : World Bytes) (m : ℕ) (a : Action Bytes) (x : Input Bytes) (does : ℕ → Input Bytes → Outcome) → comes_to w a ≡ Some (m, x) → (w.nodes m).is_up ≡ true → outcome_at w (comes_to w a) does ≡ does m x
outcome_up w m a x does come up = ap (λ (t : Option (ℕ × Input Bytes)). outcome_at w t does) come ∙ cond-true _ (does m x) outcome.Stopped up

pub outcome_down : (w : World Bytes) (m : ℕ) (a : Action Bytes) (x : Input Bytes) (does : ℕ → Input Bytes → Outcome) → comes_to w a ≡ Some (m, x) → (w.nodes m).is_up ≡ false → outcome_at w (comes_to w a) does ≡ outcome.Stopped
outcome_down w m a x does come down = ap (λ (t : Option (ℕ × Input Bytes)). outcome_at w t does) come ∙ cond-false _ (does m x) outcome.Stopped down

-- what a member that runs answers
pub takes_reported : (r : Result Outcome LabFault) (bad : Bool) (o p : Outcome) → OnErr r (r ≡ Err fault.Memory) → IfOk r (λ q. q ≡ o) → bad ≡ false → o ≡ p → Reports r bad p
takes_reported (Ok q) bad o p e h k l = (k, h ∙ l)
takes_reported (Err fault.Memory) bad o p e h k l = tt
takes_reported (Err fault.BadEvent) bad o p e h k l = absurd cc

-- an action happens at a member that runs
pub runs_reported : (r : Result Outcome LabFault) (n m : ℕ) (w : World Bytes) (s : NodeState Bytes) (a : Action Bytes) (x : Input Bytes) →
    comes_to w a ≡ Some (m, x) → m < n → w.nodes m ≡ s → s.is_up ≡ true → OnErr r (r ≡ Err fault.Memory) →
    IfOk r (λ q. q ≡ outcome_of s.stored.meta x (answer n m s x)) → Reports r (is_unknown n w (Runs a)) (outcome_in n w (Runs a))
unfolding outcome_in
runs_reported r n m w s a x come below here up e h =
    let D : NodeState Bytes → Outcome = λ z. outcome_of z.stored.meta x (step_of same n m z x) in
    takes_reported r _ (outcome_of s.stored.meta x (answer n m s x)) _ e h (addressed n m w a x come below)
    (sym (outcome_up w m a x (λ k y. outcome_of (w.nodes k).stored.meta y (step_in same n w k y)) come (ap (λ (z : NodeState Bytes). z.is_up) here ∙ up) ∙ ap D here))

-- one that is stopped
pub down_reported : (n m : ℕ) (w : World Bytes) (a : Action Bytes) (x : Input Bytes) → comes_to w a ≡ Some (m, x) → m < n → (w.nodes m).is_up ≡ false →
    Reports (Ok outcome.Stopped) (is_unknown n w (Runs a)) (outcome_in n w (Runs a))
unfolding outcome_in
down_reported n m w a x come below down = (addressed n m w a x come below, sym (outcome_down w m a x _ come down))

pub down_before : (n m : ℕ) (w : World Bytes) (a : Action Bytes) (x : Input Bytes) → comes_to w a ≡ Some (m, x) → m < n → (w.nodes m).is_up ≡ false →
    Reports (Ok outcome.Stopped) (is_unknown n w (StopBefore a)) (outcome_in n w (StopBefore a))
unfolding outcome_in
down_before n m w a x come below down = (addressed n m w a x come below, sym (outcome_down w m a x _ come down))

pub down_after : (n m : ℕ) (w : World Bytes) (a : Action Bytes) (x : Input Bytes) → comes_to w a ≡ Some (m, x) → m < n → (w.nodes m).is_up ≡ false →
    Reports (Ok outcome.Stopped) (is_unknown n w (StopAfter a)) (outcome_in n w (StopAfter a))
unfolding outcome_in
down_after n m w a x come below down = (addressed n m w a x come below, sym (outcome_down w m a x _ come down))

-- a stop of one that runs
pub up_before : (n m : ℕ) (w : World Bytes) (a : Action Bytes) (x : Input Bytes) → comes_to w a ≡ Some (m, x) → m < n → (w.nodes m).is_up ≡ true →
    Reports (Ok outcome.Nothing) (is_unknown n w (StopBefore a)) (outcome_in n w (StopBefore a))
unfolding outcome_in
up_before n m w a x come below up = (addressed n m w a x come below, sym (outcome_up w m a x _ come up))

pub up_after : (n m : ℕ) (w : World Bytes) (a : Action Bytes) (x : Input Bytes) → comes_to w a ≡ Some (m, x) → m < n → (w.nodes m).is_up ≡ true →
    Reports (Ok outcome.Nothing) (is_unknown n w (StopAfter a)) (outcome_in n w (StopAfter a))
unfolding outcome_in
up_after n m w a x come below up = (addressed n m w a x come below, sym (outcome_up w m a x _ come up))

-- an event that addresses nobody leaves the world as it is
nowhere : (n : ℕ) (w : World Bytes) (t : Option (ℕ × Input Bytes)) (does : ℕ → Input Bytes → World Bytes) → is_nobodys n t ≡ true → at_member n w t does ≡ w
nowhere n w None does h = refl
nowhere n w (Some t) does h =
    cond-false _ (does t.0 t.1) w (beyond (nat_lt t.0 n) (w.nodes t.0).is_up (le-ltb t.0 n (leb-true n t.0 h)))
  where
    beyond : (b c : Bool) → b ≡ false → (b && c) ≡ false
    beyond true c e = absurd cc
    beyond false c e = refl

pub unknown_stays : (n : ℕ) (w : World Bytes) (e : Event Bytes) → is_unknown n w e ≡ true → happens same n w e ≡ w
unfolding happens
unknown_stays n w (Runs a) h = nowhere n w (comes_to w a) _ h
unknown_stays n w (StopBefore a) h = nowhere n w (comes_to w a) _ h
unknown_stays n w (StopAfter a) h = nowhere n w (comes_to w a) _ h
unknown_stays n w (Restart m) h = cond-false _ (emptied w m true) w (le-ltb m n (leb-true n m h))

pub restart_reported : (n m : ℕ) (w : World Bytes) → m < n → Reports (Ok outcome.Nothing) (is_unknown n w (Restart m)) (outcome_in n w (Restart m))
unfolding outcome_in
restart_reported n m w below = (lt-leb n m below, refl)

-- ---- in the lab

pub err_reported : (r : Result Outcome LabFault) (bad : Bool) (o : Outcome) → r ≡ Err fault.Memory → Reports r bad o
err_reported r bad o is = subst (λ (q : Result Outcome LabFault). Reports q bad o) (sym is) tt

-- nobody is addressed
pub none_reported : (r : Result Outcome LabFault) (bad : Bool) (o : Outcome) → r ≡ Err fault.BadEvent → bad ≡ true → Reports r bad o
none_reported r bad o is h = subst (λ (q : Result Outcome LabFault). Reports q bad o) (sym is) h

-- what arrives at one of the members that runs
pub takes_at : (r : Result Outcome LabFault) (hosts : List Host) (g : Group) (m : ℕ) (w : World Bytes) (a : Action Bytes) (what : What) (y : Host) (sent : List Datagram) →
    HostsAre hosts g sent w → slice_get hosts m ≡ Some y → y.is_up ≡ true → Came g w a m what → OnErr r (r ≡ Err fault.Memory) →
    ((x : Input Bytes) → IsInput (group (group_of y)) (group_of y).me what x →
    IfOk r (λ o. o ≡ outcome_of (state_in y.node).stored.meta x (answer (group_of y).members (group_of y).me (state_in y.node) x))) →
    Reports r (is_unknown g.members w (Runs a)) (outcome_in g.members w (Runs a))
takes_at r hosts g m w a what y sent world at up came memory reported =
    let host = world.hosts m y at in
    let p = group_of y in
    let x = came.input in
    let S = state_in y.node in
    let within = slice_get_within hosts m y at in
    let inside : m < g.members = omega (arith, within, world.count) in
    let e : p.members ≡ g.members = ap (λ (h : Group). h.members) host.group in
    let here = reported x (input_here g m p what x host.group host.me came.is_spelled) in
    let mine = subst (λ (j : ℕ). IfOk r (λ (o : Outcome). o ≡ outcome_of S.stored.meta x (answer p.members j S x))) host.me here in
    let all = subst (λ (k : ℕ). IfOk r (λ (o : Outcome). o ≡ outcome_of S.stored.meta x (answer k m S x))) e mine in
    runs_reported r g.members m w (state_of y) a x came.comes inside host.here up memory all
