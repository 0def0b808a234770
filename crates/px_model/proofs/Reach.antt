-- Each step keeps the log in reach of the front.
use Rattle.std.proofs.Common.{◌≡◌, ℕ, ◌+◌, ◌^◌, ◌<◌, ◌≤◌, Bool, true, false, ◌&&◌, inl, inr, List, [], ◌∷◌, length, Option, Some, None, is_none, arith, refl, subst, sym, ◌∙◌, ltb, ltb-true, nat_lt, nat_le, nat_eq}
use Rattle.std.proofs.lemmas.Bool.{cond_both, cases_lt, and_parts}
use Rattle.px_model.specs.Node.{Entry, Proposal, Slot, Meta, Log, Record, Change, Phase, Attempt, Lead, Volatile, Input, Plan, Answer}
use Rattle.px_model.specs.Node.Change.{NewRound, NewNumber, NewFloor, NewPromise, NewAccepted, NewLearned}
use Rattle.px_model.specs.Node.Phase.{Preparing, Accepting}
use Rattle.px_model.specs.Node.Message.{Prepare, Promise, PrepareAll, PromiseAll, Accept, Vote, Nack, Need, Learned, Ask, Asked, AskRefused}
use Rattle.px_model.specs.Node.Input.{Asks, Ticks, Comes}
use Rattle.px_model.specs.Node.Answer.{Refused, Planned}
use Rattle.px_model.specs.Step.{put, positions, front, in_window, is_majority, promised_at, commit, on_ask, ask_answered, next_round, new_round, use_lead, propose, tick_for, on_tick, on_prepare, on_prepare_all, on_accept, better, choice, phase_two, gathered, promise_in, promise_to, on_promise_all, learn, keep, with_vote, on_vote, on_learned, need_of, on_need, on_nack, step}
use Rattle.px_model.specs.Step.{top, nothing_volatile, position_of}
use Rattle.px_model.specs.Node.{Envelope}
use Rattle.px_model.specs.World.{World, NodeState, Event, start, comes_to, step_in, moved, goes_on, emptied, stops_after, at_member, happens, run}
use Rattle.px_model.specs.World.Event.{Runs, StopBefore, StopAfter, Restart}
use Rattle.px_model.specs.Reach.{IsInReach, TicksLearnNothing, FrontsStay}
use Rattle.px_model.proofs.Basics.{put_all}
use Rattle.px_model.proofs.Plans.{front_within, below_front, at_front}

-- the front never falls
pub front_grows : {X : Type 0} (learned : ℕ → Option X) (p : ℕ) (x : X) → front learned ≤ front (put learned p (Some x))
front_grows {X} learned p x =
    let k = front (put learned p (Some x)) in
    elim (cases_lt k (front learned)) [
      | inl less ↦ absurd (
          let was = below_front learned k less in
          let open_ = at_front (put learned p (Some x)) (let u = front_within learned in omega arith) in
          put_all (λ (q : ℕ) (o : Option X). learned q ≡ Some was.0 → o ≡ None → ⊥) learned p (Some x)
          (λ is nil. let c : Some x ≡ None = nil in cc)
          (λ q ne is nil. let c : Some was.0 ≡ None = sym is ∙ nil in cc)
          k was.1 open_)
      | inr more ↦ more
    ]

pub in_reach_put : {X : Type 0} (learned : ℕ → Option X) (p : ℕ) (x : X) → IsInReach learned → in_window (front learned) p ≡ true → IsInReach (put learned p (Some x))
in_reach_put {X} learned p x reach window q y is =
    let g = front_grows learned p x in
    put_all (λ (j : ℕ) (o : Option X). o ≡ Some y → (j < front (put learned p (Some x)) + 64) × (j < positions)) learned p (Some x)
    (λ e.
    let b = and_parts (nat_lt p (front learned + 64)) (nat_lt p positions) (and_parts (nat_le (front learned) p) (nat_lt p (front learned + 64) && nat_lt p positions) window).1 in
    let u : p < front learned + 64 = ltb-true p (front learned + 64) b.0 in
    let v : p < positions = ltb-true p positions b.1 in
    (omega arith, v))
    (λ j ne e. let r = reach j y e in let u = r.0 in (omega arith, r.1))
    q is

-- ---- a step learns in the window alone

-- what an answer learns is in the window of this log
abbrev Within : {C : Type 0} → Log C → Option (Change C) → Type 0
Within log None = Unit {0}
Within log (Some (NewLearned p e)) = in_window (front log) p ≡ true
Within log (Some (NewRound r)) = Unit {0}
Within log (Some (NewNumber k)) = Unit {0}
Within log (Some (NewFloor b)) = Unit {0}
Within log (Some (NewPromise p b)) = Unit {0}
Within log (Some (NewAccepted p b e)) = Unit {0}

abbrev WithinPlan : {C : Type 0} → Log C → Plan C → Type 0
WithinPlan log plan = Within log plan.change

abbrev WithinAnswer : {C : Type 0} → Log C → Answer C → Type 0
WithinAnswer log (Refused code) = Unit {0}
WithinAnswer log (Planned plan) = Within log plan.change

module _ {C : Type 0} (same : C → C → Bool) (n me : ℕ) (meta : Meta) (log : Log C) where
  ask_within : (v : Volatile C) (c : C) → WithinAnswer log (on_ask me meta log v c)
  unfolding on_ask
  ask_within v c =
      cond_both (nat_le 64 (length v.waiting)) _ _ (λ (z : Answer C). WithinAnswer log z) (λ t. tt)
      (λ f. cond_both (nat_eq (front log) positions) _ _ (λ (z : Answer C). WithinAnswer log z) (λ t. tt)
      (λ g. cond_both (nat_le (2 ^ 48) meta.number) _ _ (λ (z : Answer C). WithinAnswer log z) (λ t. tt) (λ h. tt)))

  ask_answered_within : (t k : ℕ) (v : Volatile C) (a : Answer C) → WithinAnswer log a → WithinPlan log (ask_answered me t k v a)
  ask_answered_within t k v (Refused code) g = tt
  ask_answered_within t k v (Planned plan) g = g

  round_within : (f : ℕ) (v : Volatile C) → WithinAnswer log (new_round n me meta f v)
  unfolding new_round
  round_within f v = cond_both (nat_lt (next_round meta v) (2 ^ 48)) _ _ (λ (z : Answer C). WithinAnswer log z) (λ t. tt) (λ g. tt)

  propose_within : (f : ℕ) (v : Volatile C) (e : Entry C) (l : Option Lead) → WithinAnswer log (propose n me meta f v e l)
  unfolding use_lead
  propose_within f v e None = round_within f v
  propose_within f v e (Some lead) = cond_both (nat_le lead.from f) _ _ (λ (z : Answer C). WithinAnswer log z) (λ t. tt) (λ g. round_within f v)

  waiting_within : (f : ℕ) (v : Volatile C) (es : List (Entry C)) → WithinAnswer log (tick_for n me meta f v es)
  waiting_within f v [] = tt
  waiting_within f v (e ∷ rest) = propose_within f v e v.lead

  tick_within : (v : Volatile C) → WithinAnswer log (on_tick n me meta log v)
  unfolding on_tick
  tick_within v = cond_both (nat_eq (front log) positions) _ _ (λ (z : Answer C). WithinAnswer log z) (λ t. tt) (λ g. waiting_within (front log) v v.waiting)

  learn_within : (v : Volatile C) (p : ℕ) (e : Entry C) → in_window (front log) p ≡ true → WithinPlan log (learn same log v p e)
  unfolding learn
  learn_within v p e t = t

  vote_within : (v : Volatile C) (from b p : ℕ) (e : Entry C) → WithinPlan log (on_vote same n log v from b p e)
  unfolding on_vote with_vote
  vote_within v from b p e =
      cond_both (is_none (log p) && in_window (front log) p) _ _ (λ (z : Plan C). WithinPlan log z)
      (λ t. cond_both (is_majority n (λ m. nat_eq (keep v.kept p from b p m) b)) _ _ (λ (z : Plan C). WithinPlan log z)
      (λ maj. learn_within (record v { kept = keep v.kept p from b }) p e (and_parts (is_none (log p)) (in_window (front log) p) t).1) (λ g. tt))
      (λ f. tt)

  learned_within : (v : Volatile C) (p : ℕ) (e : Entry C) → WithinPlan log (on_learned same log v p e)
  unfolding on_learned
  learned_within v p e =
      cond_both (is_none (log p) && in_window (front log) p) _ _ (λ (z : Plan C). WithinPlan log z)
      (λ t. learn_within v p e (and_parts (is_none (log p)) (in_window (front log) p) t).1) (λ f. tt)

  need_within : (v : Volatile C) (from p : ℕ) (o : Option (Entry C)) → WithinPlan log (need_of me v from p o)
  need_within v from p None = tt
  need_within v from p (Some e) = tt

  phase_within : (v : Volatile C) (b p from : ℕ) (o : Option (Entry C)) → WithinPlan log (phase_two n me v b p from o)
  phase_within v b p from None = tt
  phase_within v b p from (Some e) = tt

  in_within : (v : Volatile C) (from b p t : ℕ) (a : Option (Proposal C)) (ph : Phase C) → WithinPlan log (promise_in n me v from b p t a ph)
  unfolding gathered
  in_within v from b p t a (Accepting e) = tt
  in_within v from b p t a (Preparing counted top best) =
      cond_both (is_majority n (put counted from true)) _ _ (λ (z : Plan C). WithinPlan log z)
      (λ maj. phase_within v b p _ (choice (better best a) v.waiting)) (λ f. tt)

  promise_within : (v : Volatile C) (from b p t : ℕ) (a : Option (Proposal C)) (o : Option (Attempt C)) → WithinPlan log (promise_to n me v from b p t a o)
  promise_within v from b p t a None = tt
  promise_within v from b p t a (Some x) =
      cond_both (nat_eq x.ballot b && nat_eq x.position p) _ _ (λ (z : Plan C). WithinPlan log z) (λ yes. in_within v from b p t a x.phase) (λ f. tt)

  pub step_within : (slot : Slot C) (top : ℕ) (v : Volatile C) (input : Input C) → WithinAnswer log (step same n me meta slot top log v input)
  unfolding step on_prepare on_prepare_all on_accept on_promise_all on_nack on_need
  step_within slot top v (Asks c) = ask_within v c
  step_within slot top v Ticks = tick_within v
  step_within slot top v (Comes from (Prepare b p)) = cond_both (nat_lt (promised_at meta slot) b) _ _ (λ (z : Plan C). WithinPlan log z) (λ t. tt) (λ f. tt)
  step_within slot top v (Comes from (Promise b p a)) = tt
  step_within slot top v (Comes from (PrepareAll b p)) = cond_both (nat_lt (promised_at meta slot) b) _ _ (λ (z : Plan C). WithinPlan log z) (λ t. tt) (λ f. tt)
  step_within slot top v (Comes from (PromiseAll b p k a)) = promise_within v from b p k a v.attempt
  step_within slot top v (Comes from (Accept b p e)) = cond_both (nat_le (promised_at meta slot) b) _ _ (λ (z : Plan C). WithinPlan log z) (λ t. tt) (λ f. tt)
  step_within slot top v (Comes from (Vote b p e)) = vote_within v from b p e
  step_within slot top v (Comes from (Nack b p q)) = tt
  step_within slot top v (Comes from (Need p)) = need_within v from p (log p)
  step_within slot top v (Comes from (Learned p e)) = learned_within v p e
  step_within slot top v (Comes from (Ask t c)) = ask_answered_within t meta.number v (on_ask me meta log v c) (ask_within v c)
  step_within slot top v (Comes from (Asked t k)) = tt
  step_within slot top v (Comes from (AskRefused t k)) = tt

-- a change that was made so keeps the record's log in reach
pub commit_in_reach : {C : Type 0} (d : Record C) (ch : Option (Change C)) → Within d.learned ch → IsInReach d.learned → IsInReach (commit ch d).learned
commit_in_reach d None t r = r
commit_in_reach d (Some (NewRound k)) t r = r
commit_in_reach d (Some (NewNumber k)) t r = r
commit_in_reach d (Some (NewFloor b)) t r = r
commit_in_reach d (Some (NewPromise p b)) t r = r
commit_in_reach d (Some (NewAccepted p b e)) t r = r
commit_in_reach d (Some (NewLearned p e)) t r = in_reach_put d.learned p e r t

-- ---- every world that is reached

abbrev pub ReachWorld : {C : Type 0} → World C → Type 0
ReachWorld w = (m : ℕ) → IsInReach (w.nodes m).stored.learned

module _ {C : Type 0} (same : C → C → Bool) (n : ℕ) where
  moved_reach : (w : World C) (m : ℕ) (input : Input C) (ch : Option (Change C)) (up : Bool) (v : Volatile C) (sends : List (Envelope C)) → ReachWorld w → Within (w.nodes m).stored.learned ch → ReachWorld (moved w m input ch up v sends)
  moved_reach w m input ch up v sends r t =
      put_all (λ (k : ℕ) (x : NodeState C). IsInReach x.stored.learned) w.nodes m _ (commit_in_reach (w.nodes m).stored ch t (r m)) (λ k ne. r k)

  goes_on_reach : (w : World C) (m : ℕ) (input : Input C) (a : Answer C) → ReachWorld w → WithinAnswer (w.nodes m).stored.learned a → ReachWorld (goes_on w m input a)
  goes_on_reach w m input (Refused code) r t = r
  goes_on_reach w m input (Planned plan) r t = moved_reach w m input plan.change true plan.volatile plan.sends r t

  emptied_reach : (w : World C) (m : ℕ) (up : Bool) → ReachWorld w → ReachWorld (emptied w m up)
  emptied_reach w m up r = moved_reach w m Ticks None up nothing_volatile [] r tt

  stops_reach : (w : World C) (m : ℕ) (input : Input C) (a : Answer C) → ReachWorld w → WithinAnswer (w.nodes m).stored.learned a → ReachWorld (stops_after w m input a)
  stops_reach w m input (Refused code) r t = emptied_reach w m false r
  stops_reach w m input (Planned plan) r t = moved_reach w m input plan.change false nothing_volatile [] r t

  in_step : (w : World C) (m : ℕ) (input : Input C) → WithinAnswer (w.nodes m).stored.learned (step_in same n w m input)
  in_step w m input =
      step_within same n m (w.nodes m).stored.meta (w.nodes m).stored.learned ((w.nodes m).stored.slots (position_of input)) (top (w.nodes m).stored.slots) (w.nodes m).volatile input

  at_reach : (w : World C) (o : Option (ℕ × Input C)) (does : ℕ → Input C → World C) → ReachWorld w → ((m : ℕ) (input : Input C) → ReachWorld (does m input)) → ReachWorld (at_member n w o does)
  at_reach w None does r each = r
  at_reach w (Some t) does r each = cond_both (ltb t.0 n && (w.nodes t.0).is_up) (does t.0 t.1) w (λ (z : World C). ReachWorld z) (λ both. each t.0 t.1) (λ f. r)

  happens_reach : (w : World C) (e : Event C) → ReachWorld w → ReachWorld (happens same n w e)
  unfolding happens
  happens_reach w (Runs a) r = at_reach w (comes_to w a) _ r (λ m input. goes_on_reach w m input (step_in same n w m input) r (in_step w m input))
  happens_reach w (StopBefore a) r = at_reach w (comes_to w a) _ r (λ m input. emptied_reach w m false r)
  happens_reach w (StopAfter a) r = at_reach w (comes_to w a) _ r (λ m input. stops_reach w m input (step_in same n w m input) r (in_step w m input))
  happens_reach w (Restart m) r = cond_both (ltb m n) (emptied w m true) w (λ (z : World C). ReachWorld z) (λ t. emptied_reach w m true r) (λ f. r)

  run_reach : (es : List (Event C)) (w : World C) → ReachWorld w → ReachWorld (run same n es w)
  run_reach [] w r = r
  run_reach (e ∷ es) w r = run_reach es (happens same n w e) (happens_reach w e r)

  -- at every moment of every run, each member's log is in reach of its front
  pub always_in_reach : (es : List (Event C)) → ReachWorld (run same n es start)
  always_in_reach es = run_reach es start (λ m p x is. absurd (cc))

-- ---- ticks

-- the answer's change learns nothing
abbrev QuietAnswer : {C : Type 0} → Record C → Answer C → Type 0
QuietAnswer d (Refused code) = Unit {0}
QuietAnswer d (Planned plan) = (commit plan.change d).learned ≡ d.learned

module _ {C : Type 0} (n me : ℕ) (d : Record C) where
  round_quiet : (f : ℕ) (v : Volatile C) → QuietAnswer d (new_round n me d.meta f v)
  unfolding new_round
  round_quiet f v = cond_both (nat_lt (next_round d.meta v) (2 ^ 48)) _ _ (λ (a : Answer C). QuietAnswer d a) (λ yes. refl) (λ not. tt)

  propose_quiet : (f : ℕ) (v : Volatile C) (e : Entry C) (o : Option Lead) → QuietAnswer d (propose n me d.meta f v e o)
  unfolding use_lead
  propose_quiet f v e None = round_quiet f v
  propose_quiet f v e (Some lead) = cond_both (nat_le lead.from f) _ _ (λ (a : Answer C). QuietAnswer d a) (λ yes. refl) (λ not. round_quiet f v)

  for_quiet : (f : ℕ) (v : Volatile C) (ws : List (Entry C)) → QuietAnswer d (tick_for n me d.meta f v ws)
  for_quiet f v [] = refl
  for_quiet f v (e ∷ rest) = propose_quiet f v e v.lead

  tick_quiet : (v : Volatile C) → QuietAnswer d (on_tick n me d.meta d.learned v)
  unfolding on_tick
  tick_quiet v = cond_both (nat_eq (front d.learned) positions) _ _ (λ (a : Answer C). QuietAnswer d a) (λ yes. refl) (λ not. for_quiet (front d.learned) v v.waiting)

pub ticks_learn_nothing : {C : Type 0} → TicksLearnNothing C
unfolding step
ticks_learn_nothing {C} same n m s plan is = subst (λ (a : Answer C). QuietAnswer s.stored a) is (tick_quiet n m s.stored s.volatile)

pub fronts_stay : {C : Type 0} → FrontsStay C
fronts_stay {C} None d = omega arith
fronts_stay {C} (Some (NewRound r)) d = omega arith
fronts_stay {C} (Some (NewNumber k)) d = omega arith
fronts_stay {C} (Some (NewFloor b)) d = omega arith
fronts_stay {C} (Some (NewPromise p b)) d = omega arith
fronts_stay {C} (Some (NewAccepted p b e)) d = omega arith
fronts_stay {C} (Some (NewLearned p e)) d = front_grows d.learned p e
