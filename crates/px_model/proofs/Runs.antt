-- Every event keeps the invariant, so it holds of every world that is reached.
use Rattle.std.proofs.Common.{◌≡◌, ℕ, ◌<◌, ◌≤◌, Bool, true, false, ◌&&◌, List, [], ◌∷◌, ◌++◌, Option, Some, None, slice_get, refl, subst, ltb, ltb-true}
use Rattle.std.proofs.lemmas.Bool.{cond_both, and_parts}
use Rattle.px_model.specs.Node.{IsEquality, Message, Envelope, Input, Answer, client}
use Rattle.px_model.specs.Node.Input.{Asks, Ticks, Comes}
use Rattle.px_model.specs.Node.Answer.{Refused, Planned}
use Rattle.px_model.specs.Node as node
use Rattle.px_model.specs.Node.Message.{Prepare, Promise, PrepareAll, PromiseAll, Accept, Vote, Nack, Need, Learned, Asked, AskRefused}
use Rattle.px_model.specs.Step.{step, nothing_volatile}
use Rattle.px_model.specs.World.{World, Action, Event, start, delivered, comes_to, step_in, goes_on, emptied, stops_after, at_member, happens, run}
use Rattle.px_model.specs.World.Action.{Ask, AskFrom, Tick, Deliver}
use Rattle.px_model.specs.World.Event.{Runs, StopBefore, StopAfter, Restart}
use Rattle.px_model.specs.Law.{Among, HasSent, Agree, Kept, Once}
use Rattle.px_model.proofs.Basics.{among_get}
use Rattle.px_model.proofs.Backed.{Acceptance}
use Rattle.px_model.proofs.Agreement.{agree}
use Rattle.px_model.proofs.Invariant.{Inv}
use Rattle.px_model.proofs.Once.{grounds, once}
use Rattle.px_model.proofs.Moves.{history_by, keeps}
use Rattle.px_model.proofs.Plans.{idle_ok, none_sent, volatile_nothing}
use Rattle.px_model.proofs.Acceptor.{prepare_ok, prepare_all_ok, accept_ok}
use Rattle.px_model.proofs.Learner.{vote_ok, learned_ok, need_ok}
use Rattle.px_model.proofs.Proposer.{nack_seen_ok, promise_all_ok}
use Rattle.px_model.proofs.Ticks.{AnswerOk, ask_ok, ask_answered_ok, tick_ok}

-- some history goes with the world
abbrev pub Good : {C : Type 0} → ℕ → World C → Type 0
Good {C} n w = (h : List (Acceptance C)) × Inv n w h

-- a message comes only if a member sent it, but for an asking from outside
abbrev MayCome : {C : Type 0} → World C → ℕ → Message C → Type 0
MayCome w from (node.Message.Ask token c) = Unit {0}
MayCome w from (Prepare b p) = HasSent w from (Prepare b p)
MayCome w from (Promise b p a) = HasSent w from (Promise b p a)
MayCome w from (PrepareAll b p) = HasSent w from (PrepareAll b p)
MayCome w from (PromiseAll b p t a) = HasSent w from (PromiseAll b p t a)
MayCome w from (Accept b p e) = HasSent w from (Accept b p e)
MayCome w from (Vote b p e) = HasSent w from (Vote b p e)
MayCome w from (Nack b p q) = HasSent w from (Nack b p q)
MayCome w from (Need p) = HasSent w from (Need p)
MayCome w from (Learned p e) = HasSent w from (Learned p e)
MayCome w from (Asked t k) = HasSent w from (Asked t k)
MayCome w from (AskRefused t k) = HasSent w from (AskRefused t k)

may_come : {C : Type 0} (w : World C) (from : ℕ) (x : Message C) → HasSent w from x → MayCome w from x
may_come w from (node.Message.Ask token c) s = tt
may_come w from (Prepare b p) s = s
may_come w from (Promise b p a) s = s
may_come w from (PrepareAll b p) s = s
may_come w from (PromiseAll b p t a) s = s
may_come w from (Accept b p e) s = s
may_come w from (Vote b p e) s = s
may_come w from (Nack b p q) s = s
may_come w from (Need p) s = s
may_come w from (Learned p e) s = s
may_come w from (Asked t k) s = s
may_come w from (AskRefused t k) s = s

abbrev InputOk : {C : Type 0} → World C → Input C → Type 0
InputOk w (Asks c) = Unit {0}
InputOk w Ticks = Unit {0}
InputOk w (Comes from x) = MayCome w from x

abbrev InputOf : {C : Type 0} → World C → Option (ℕ × Input C) → Type 0
InputOf w None = Unit {0}
InputOf w (Some t) = InputOk w t.1

module _ {C : Type 0} (same : C → C → Bool) (exact : IsEquality same) (n : ℕ) (small : n ≤ 15) where
  step_ok : (w : World C) (h : List (Acceptance C)) (m : ℕ) (inv : Inv n w h) (input : Input C) → InputOk w input → AnswerOk n w h m input (step_in same n w m input)
  unfolding step
  step_ok w h m inv (Asks c) ok = ask_ok n w h m inv c
  step_ok w h m inv Ticks ok = tick_ok n w h m inv Ticks
  step_ok w h m inv (Comes from (Prepare b p)) ok = prepare_ok n w h m _ inv from b p
  step_ok w h m inv (Comes from (Promise b p a)) ok = idle_ok n w h m _ (w.nodes m).volatile (inv.volatile m)
  step_ok w h m inv (Comes from (PrepareAll b p)) ok = prepare_all_ok n w h m _ inv from b p
  step_ok w h m inv (Comes from (PromiseAll b p t a)) ok = promise_all_ok n w h m _ inv from b p t a (inv.members from (PromiseAll b p t a) ok) (inv.sent from (PromiseAll b p t a) ok)
  step_ok w h m inv (Comes from (Accept b p e)) ok = accept_ok n w h m _ inv from b p e ok
  step_ok w h m inv (Comes from (Vote b p e)) ok = vote_ok same exact n w h m _ inv from b p e ok
  step_ok w h m inv (Comes from (Nack b p q)) ok = nack_seen_ok n w h m _ inv b p q
  step_ok w h m inv (Comes from (Need p)) ok = need_ok same exact n w h m _ inv from p
  step_ok w h m inv (Comes from (Learned p e)) ok = learned_ok same exact n w h m _ inv p e (inv.sent from (Learned p e) ok)
  step_ok w h m inv (Comes from (node.Message.Ask t c)) ok = ask_answered_ok n w h m inv from t c
  step_ok w h m inv (Comes from (Asked t k)) ok = idle_ok n w h m _ (w.nodes m).volatile (inv.volatile m)
  step_ok w h m inv (Comes from (AskRefused t k)) ok = idle_ok n w h m _ (w.nodes m).volatile (inv.volatile m)

  emptied_ok : (w : World C) (h : List (Acceptance C)) → Inv n w h → (m : ℕ) → m < n → (up : Bool) → Good n (emptied w m up)
  emptied_ok w h inv m member up = (h, keeps n w h m Ticks None up nothing_volatile [] (Need 0) small inv member tt (none_sent m (Need 0)) tt tt (volatile_nothing n _ h m))

  goes_on_ok : (w : World C) (h : List (Acceptance C)) → Inv n w h → (m : ℕ) → m < n → (input : Input C) (a : Answer C) → AnswerOk n w h m input a → Good n (goes_on w m input a)
  goes_on_ok w h inv m member input (Refused code) g = (h, inv)
  goes_on_ok w h inv m member input (Planned plan) g =
      (history_by m plan.change ++ h, keeps n w h m input plan.change true plan.volatile plan.sends g.message small inv member g.change g.all g.new g.fresh g.volatile)

  stops_after_ok : (w : World C) (h : List (Acceptance C)) → Inv n w h → (m : ℕ) → m < n → (input : Input C) (a : Answer C) → AnswerOk n w h m input a → Good n (stops_after w m input a)
  stops_after_ok w h inv m member input (Refused code) g = emptied_ok w h inv m member false
  stops_after_ok w h inv m member input (Planned plan) g =
      (history_by m plan.change ++ h, keeps n w h m input plan.change false nothing_volatile [] (Need 0) small inv member g.change (none_sent m (Need 0)) tt tt (volatile_nothing n _ _ m))

  at_member_ok : (w : World C) → Good n w → (o : Option (ℕ × Input C)) (does : ℕ → Input C → World C) → ((m : ℕ) (input : Input C) → o ≡ Some (m, input) → m < n → Good n (does m input)) → Good n (at_member n w o does)
  at_member_ok w good None does each = good
  at_member_ok w good (Some t) does each =
      cond_both (ltb t.0 n && (w.nodes t.0).is_up) (does t.0 t.1) w (λ (z : World C). Good n z)
      (λ both. each t.0 t.1 refl (ltb-true t.0 n (and_parts (ltb t.0 n) (w.nodes t.0).is_up both).0))
      (λ f. good)

  delivered_ok : (w : World C) (o : Option (Envelope C)) → ((x : Envelope C) → o ≡ Some x → Among w.sent x) → (m : ℕ) (input : Input C) → delivered o ≡ Some (m, input) → InputOk w input
  delivered_ok w None sent m input is = absurd (cc)
  delivered_ok w (Some x) sent m input is = subst (λ (o : Option (ℕ × Input C)). InputOf w o) is (may_come w x.sender x.message (x.addressee, sent x refl))

  comes_ok : (w : World C) (a : Action C) (m : ℕ) (input : Input C) → comes_to w a ≡ Some (m, input) → InputOk w input
  comes_ok w (Ask k c) m input is = subst (λ (o : Option (ℕ × Input C)). InputOf w o) is tt
  comes_ok w (AskFrom k t c) m input is = subst (λ (o : Option (ℕ × Input C)). InputOf w o) is tt
  comes_ok w (Tick k) m input is = subst (λ (o : Option (ℕ × Input C)). InputOf w o) is tt
  comes_ok w (Deliver k) m input is = delivered_ok w (slice_get w.sent k) (λ x e. among_get w.sent k x e) m input is

  pub happens_ok : (w : World C) → Good n w → (e : Event C) → Good n (happens same n w e)
  unfolding happens
  happens_ok w good (Runs a) = at_member_ok w good (comes_to w a) _ (λ m input is member. goes_on_ok w good.0 good.1 m member input (step_in same n w m input) (step_ok w good.0 m good.1 input (comes_ok w a m input is)))
  happens_ok w good (StopBefore a) = at_member_ok w good (comes_to w a) _ (λ m input is member. emptied_ok w good.0 good.1 m member false)
  happens_ok w good (StopAfter a) = at_member_ok w good (comes_to w a) _ (λ m input is member. stops_after_ok w good.0 good.1 m member input (step_in same n w m input) (step_ok w good.0 m good.1 input (comes_ok w a m input is)))
  happens_ok w good (Restart m) =
      cond_both (ltb m n) (emptied w m true) w (λ (z : World C). Good n z)
      (λ t. emptied_ok w good.0 good.1 m (ltb-true m n t) true)
      (λ f. good)

  start_ok : Good n (start {C = C})
  start_ok = (
    [],
    record {
      stored = λ m. record {
        slots = λ p. record { highest = λ c e a. absurd a; real = tt };
        learned = λ p e is. absurd (cc);
      };
      volatile = λ m. volatile_nothing n _ _ m;
      members = λ m x s. absurd s.1;
      sent = λ m x s. absurd s.1;
      unique = λ m k b p e f s t. absurd s.1;
      history = λ m p b e a. absurd a;
      learned = λ m p e a. absurd a;
      recorded = λ m p e a. absurd a;
      noted = λ m p e is. absurd (cc);
      asked = λ e a. absurd a;
      named_once = tt;
    },
  )

  run_ok : (es : List (Event C)) (w : World C) → Good n w → Good n (run same n es w)
  run_ok [] w good = good
  run_ok (e ∷ es) w good = run_ok es (happens same n w e) (happens_ok w good e)

  pub always_good : (es : List (Event C)) → Good n (run same n es start)
  always_good es = run_ok es start start_ok

  pub always_agree : (es : List (Event C)) → Agree n (run same n es start)
  always_agree es = let g = always_good es in agree n (run same n es start) g.0 (grounds n (run same n es start) g.0 g.1)

  pub always_once : (es : List (Event C)) → Once (run same n es start)
  always_once es = let g = always_good es in once n (run same n es start) g.0 g.1

  pub always_kept : (es : List (Event C)) → Kept (run same n es start)
  always_kept es = let g = always_good es in record { is_recorded = g.1.recorded; was_learned = g.1.noted }
