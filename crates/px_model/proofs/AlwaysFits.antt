-- In every world that is reached each member fits, and so does every message ever sent, where what is asked fits.
use Rattle.std.proofs.Common.{◌≡◌, ℕ, ◌<◌, ◌≤◌, Bool, true, false, ◌&&◌, inl, inr, List, [], ◌∷◌, Option, Some, None, slice_get, arith, refl, sym, subst, ltb, ltb-true}
use Rattle.std.proofs.lemmas.Bool.{cond_both, and_parts}
use Rattle.px_model.specs.Node.{Record, Change, Volatile, Envelope, Input, Answer}
use Rattle.px_model.specs.Node.Input.{Ticks}
use Rattle.px_model.specs.Node.Answer.{Refused, Planned}
use Rattle.px_model.specs.Step.{commit, nothing_volatile, front}
use Rattle.px_model.specs.World.{World, NodeState, Action, Event, nothing_stored, start, started, delivered, comes_to, step_in, to_members, moved, goes_on, emptied, stops_after, at_member, happens, run}
use Rattle.px_model.specs.World.Action.{Ask, AskFrom, Tick, Deliver}
use Rattle.px_model.specs.World.Event.{Runs, StopBefore, StopAfter, Restart}
use Rattle.px_model.specs.Law.{Among}
use Rattle.px_model.specs.Fits.{EnvelopeFits, InputFits, RecordFits, VolatileFits, NodeFits, SendsFit, AnswerFits, ActionFits, EventFits, WorldFits}
use Rattle.px_model.proofs.Basics.{among_cases, among_get, among_to_members, put_all}
use Rattle.px_model.proofs.Fits.{step_fits}

module _ {C : Type 0} (S : C → Type 0) (n : ℕ) where
  -- a member's first record
  pub nothing_fits : RecordFits S n (nothing_stored {C = C})
  nothing_fits = record {
    meta = record { round = omega arith; number = omega arith; floor = inl refl };
    slots = λ p. record { promised = inl refl; accepted = tt };
    last = λ p over. refl;
    learned = λ p e is. absurd (cc);
  }

  -- a volatile part that is empty fits any record
  pub empty_fits : (me k : ℕ) → VolatileFits S n me k nothing_volatile
  empty_fits me k = record { room = omega arith; waiting = λ e a. absurd a; attempt = tt; lead = tt; seen = omega arith }

  pub started_fits : (me : ℕ) (d : Record C) → RecordFits S n d → NodeFits S n me (started d)
  started_fits me d g = record { stored = g; volatile = empty_fits me (front d.learned) }

module _ {C : Type 0} (S : C → Type 0) (same : C → C → Bool) (n : ℕ) (small : n ≤ 15) where
  start_fits : WorldFits S n (start {C = C})
  start_fits = record { nodes = λ m lt. started_fits S n m nothing_stored (nothing_fits S n); sent = λ x a. absurd a }

  moved_fits : (w : World C) → WorldFits S n w → (m : ℕ) (input : Input C) (ch : Option (Change C)) (up : Bool) (v : Volatile C) (sends : List (Envelope C)) → NodeFits S n m (record { is_up = up; stored = commit ch (w.nodes m).stored; volatile = v }) → SendsFit S n m sends → WorldFits S n (moved w m input ch up v sends)
  moved_fits w g m input ch up v sends fits sent = record {
    nodes = put_all (λ (k : ℕ) (z : NodeState C). k < n → NodeFits S n k z) w.nodes m _ (λ lt. fits) (λ k ne lt. g.nodes k lt);
    sent = λ x a. elim (among_cases w.sent (to_members sends) x a) [ inl old ↦ g.sent x old | inr new ↦ (sent x (among_to_members sends x new)).1 ];
  }

  goes_on_fits : (w : World C) → WorldFits S n w → (m : ℕ) (input : Input C) (a : Answer C) → AnswerFits S n m (w.nodes m) a → WorldFits S n (goes_on w m input a)
  goes_on_fits w g m input (Refused code) fits = g
  goes_on_fits w g m input (Planned plan) fits =
      moved_fits w g m input plan.change true plan.volatile plan.sends (record { stored = fits.state.stored; volatile = fits.state.volatile }) fits.sends

  emptied_fits : (w : World C) → WorldFits S n w → (m : ℕ) (up : Bool) → m < n → WorldFits S n (emptied w m up)
  emptied_fits w g m up lt =
      moved_fits w g m Ticks None up nothing_volatile [] (record { stored = (g.nodes m lt).stored; volatile = empty_fits S n m (front (w.nodes m).stored.learned) }) (λ x a. absurd a)

  stops_fits : (w : World C) → WorldFits S n w → (m : ℕ) → m < n → (input : Input C) (a : Answer C) → AnswerFits S n m (w.nodes m) a → WorldFits S n (stops_after w m input a)
  stops_fits w g m lt input (Refused code) fits = emptied_fits w g m false lt
  stops_fits w g m lt input (Planned plan) fits =
      moved_fits w g m input plan.change false nothing_volatile [] (record { stored = fits.state.stored; volatile = empty_fits S n m _ }) (λ x a. absurd a)

  -- ---- what arrives at a member

  abbrev ComesFit : Option (ℕ × Input C) → Type 0
  ComesFit None = Unit {0}
  ComesFit (Some t) = InputFits S n t.0 t.1

  abbrev ComesToMember : Option (ℕ × Input C) → Type 0
  ComesToMember None = Unit {0}
  ComesToMember (Some t) = t.0 < n

  delivered_fits : (o : Option (Envelope C)) → ((x : Envelope C) → o ≡ Some x → EnvelopeFits S n x) → ComesFit (delivered o)
  delivered_fits None fits = tt
  delivered_fits (Some x) fits = fits x refl

  comes_fit : (w : World C) → WorldFits S n w → (a : Action C) → ActionFits S a → (m : ℕ) → m < n → (input : Input C) → comes_to w a ≡ Some (m, input) → InputFits S n m input
  comes_fit w g (Ask k c) fits m lt input is = subst (λ (o : Option (ℕ × Input C)). ComesFit o) is fits
  comes_fit w g (AskFrom k token c) fits m lt input is =
      subst (λ (o : Option (ℕ × Input C)). ComesFit o) is (record { between = (refl, subst (λ (o : Option (ℕ × Input C)). ComesToMember o) (sym is) lt); message = fits })
  comes_fit w g (Tick k) fits m lt input is = subst (λ (o : Option (ℕ × Input C)). ComesFit o) is tt
  comes_fit w g (Deliver k) fits m lt input is =
      subst (λ (o : Option (ℕ × Input C)). ComesFit o) is (delivered_fits (slice_get w.sent k) (λ x e. g.sent x (among_get w.sent k x e)))

  -- a member's step, whatever it receives
  in_step : (w : World C) → WorldFits S n w → (a : Action C) → ActionFits S a → (m : ℕ) → m < n → (input : Input C) → comes_to w a ≡ Some (m, input) → AnswerFits S n m (w.nodes m) (step_in same n w m input)
  in_step w g a fits m lt input is = step_fits S n small m lt (w.nodes m) (g.nodes m lt) same input (comes_fit w g a fits m lt input is)

  at_member_fits : (w : World C) → WorldFits S n w → (o : Option (ℕ × Input C)) (does : ℕ → Input C → World C) → ((m : ℕ) (input : Input C) → o ≡ Some (m, input) → m < n → WorldFits S n (does m input)) → WorldFits S n (at_member n w o does)
  at_member_fits w g None does each = g
  at_member_fits w g (Some t) does each =
      cond_both (ltb t.0 n && (w.nodes t.0).is_up) (does t.0 t.1) w (λ (z : World C). WorldFits S n z)
      (λ both. each t.0 t.1 refl (ltb-true t.0 n (and_parts (ltb t.0 n) (w.nodes t.0).is_up both).0))
      (λ f. g)

  pub happens_fits : (w : World C) → WorldFits S n w → (e : Event C) → EventFits S e → WorldFits S n (happens same n w e)
  unfolding happens
  happens_fits w g (Runs a) fits = at_member_fits w g (comes_to w a) _ (λ m input is lt. goes_on_fits w g m input (step_in same n w m input) (in_step w g a fits m lt input is))
  happens_fits w g (StopBefore a) fits = at_member_fits w g (comes_to w a) _ (λ m input is lt. emptied_fits w g m false lt)
  happens_fits w g (StopAfter a) fits = at_member_fits w g (comes_to w a) _ (λ m input is lt. stops_fits w g m lt input (step_in same n w m input) (in_step w g a fits m lt input is))
  happens_fits w g (Restart m) fits =
      cond_both (ltb m n) (emptied w m true) w (λ (z : World C). WorldFits S n z)
      (λ t. emptied_fits w g m true (ltb-true m n t))
      (λ f. g)

  pub run_fits : (es : List (Event C)) → ((e : Event C) → Among es e → EventFits S e) → (w : World C) → WorldFits S n w → WorldFits S n (run same n es w)
  run_fits [] fits w g = g
  run_fits (e ∷ es) fits w g = run_fits es (λ f a. fits f (inr a)) (happens same n w e) (happens_fits w g e (fits e (inl refl)))

  pub always_fits : (es : List (Event C)) → ((e : Event C) → Among es e → EventFits S e) → WorldFits S n (run same n es start)
  always_fits es fits = run_fits es fits start start_fits

  -- so whatever fits and arrives at a member then, its answer fits, what it answers a client too
  pub always_answers : (es : List (Event C)) → ((e : Event C) → Among es e → EventFits S e) → (m : ℕ) → m < n → (input : Input C) → InputFits S n m input → AnswerFits S n m ((run same n es start).nodes m) (step_in same n (run same n es start) m input)
  always_answers es fits m lt input comes =
      let w = run same n es start in
      step_fits S n small m lt (w.nodes m) ((always_fits es fits).nodes m lt) same input comes
