-- Each step's change goes beyond the record.
use Rattle.std.proofs.Common.{◌≡◌, ℕ, ◌^◌, ◌<◌, Bool, true, false, ◌&&◌, List, [], ◌∷◌, length, Option, Some, None, IfSome, is_none, arith, refl, subst, ltb-true, leb-true, nat_lt, nat_le, nat_eq}
use Rattle.std.proofs.lemmas.Bool.{cond_both, and_parts}
use Rattle.px_model.specs.Node.{Entry, Proposal, Record, Phase, Attempt, Lead, Volatile, Input, Plan, Answer}
use Rattle.px_model.specs.Node.Phase.{Preparing, Accepting}
use Rattle.px_model.specs.Node.Message.{Prepare, Promise, PrepareAll, PromiseAll, Accept, Vote, Nack, Need, Learned, Ask, Asked, AskRefused}
use Rattle.px_model.specs.Node.Input.{Asks, Ticks, Comes}
use Rattle.px_model.specs.Node.Answer.{Refused, Planned}
use Rattle.px_model.specs.Step.{put, positions, front, in_window, is_majority, promised_at, on_ask, ask_answered, next_round, new_round, use_lead, propose, tick_for, on_tick, on_prepare, on_prepare_all, on_accept, better, choice, phase_two, gathered, promise_in, promise_to, on_promise_all, learn, keep, with_vote, on_vote, on_learned, need_of, on_need, on_nack, step, top, position_of}
use Rattle.px_model.specs.Rising.{Rises, StepsRise}

abbrev RisesPlan : {C : Type 0} → Record C → Plan C → Type 0
RisesPlan d plan = IfSome plan.change (λ x. Rises d x)

abbrev RisesAnswer : {C : Type 0} → Record C → Answer C → Type 0
RisesAnswer d (Refused code) = Unit {0}
RisesAnswer d (Planned plan) = RisesPlan d plan

open_none : {X : Type 0} (o : Option X) → is_none o ≡ true → o ≡ None
open_none None is = refl
open_none (Some x) is = absurd (let c : false ≡ true = is in cc)

module _ {C : Type 0} (same : C → C → Bool) (n me : ℕ) (d : Record C) where
  ask_rises : (v : Volatile C) (c : C) → RisesAnswer d (on_ask me d.meta d.learned v c)
  unfolding on_ask
  ask_rises v c =
      cond_both (nat_le 64 (length v.waiting)) _ _ (λ (z : Answer C). RisesAnswer d z) (λ t. tt)
      (λ f. cond_both (nat_eq (front d.learned) positions) _ _ (λ (z : Answer C). RisesAnswer d z) (λ t. tt)
      (λ g. cond_both (nat_le (2 ^ 48) d.meta.number) _ _ (λ (z : Answer C). RisesAnswer d z) (λ t. tt) (λ h. refl)))

  ask_answered_rises : (t k : ℕ) (v : Volatile C) (a : Answer C) → RisesAnswer d a → RisesPlan d (ask_answered me t k v a)
  ask_answered_rises t k v (Refused code) g = tt
  ask_answered_rises t k v (Planned plan) g = g

  round_rises : (f : ℕ) (v : Volatile C) → RisesAnswer d (new_round n me d.meta f v)
  unfolding new_round
  round_rises f v = cond_both (nat_lt (next_round d.meta v) (2 ^ 48)) _ _ (λ (z : Answer C). RisesAnswer d z) (λ t. let above : d.meta.round < next_round d.meta v = omega arith in above) (λ g. tt)

  propose_rises : (f : ℕ) (v : Volatile C) (e : Entry C) (l : Option Lead) → RisesAnswer d (propose n me d.meta f v e l)
  unfolding use_lead
  propose_rises f v e None = round_rises f v
  propose_rises f v e (Some lead) = cond_both (nat_le lead.from f) _ _ (λ (z : Answer C). RisesAnswer d z) (λ t. tt) (λ g. round_rises f v)

  waiting_rises : (f : ℕ) (v : Volatile C) (es : List (Entry C)) → RisesAnswer d (tick_for n me d.meta f v es)
  waiting_rises f v [] = tt
  waiting_rises f v (e ∷ rest) = propose_rises f v e v.lead

  tick_rises : (v : Volatile C) → RisesAnswer d (on_tick n me d.meta d.learned v)
  unfolding on_tick
  tick_rises v = cond_both (nat_eq (front d.learned) positions) _ _ (λ (z : Answer C). RisesAnswer d z) (λ t. tt) (λ g. waiting_rises (front d.learned) v v.waiting)

  learn_rises : (v : Volatile C) (p : ℕ) (e : Entry C) → is_none (d.learned p) ≡ true → RisesPlan d (learn same d.learned v p e)
  unfolding learn
  learn_rises v p e t = open_none (d.learned p) t

  vote_rises : (v : Volatile C) (from b p : ℕ) (e : Entry C) → RisesPlan d (on_vote same n d.learned v from b p e)
  unfolding on_vote with_vote
  vote_rises v from b p e =
      cond_both (is_none (d.learned p) && in_window (front d.learned) p) _ _ (λ (z : Plan C). RisesPlan d z)
      (λ t. cond_both (is_majority n (λ m. nat_eq (keep v.kept p from b p m) b)) _ _ (λ (z : Plan C). RisesPlan d z)
      (λ maj. learn_rises (record v { kept = keep v.kept p from b }) p e (and_parts (is_none (d.learned p)) (in_window (front d.learned) p) t).0) (λ g. tt))
      (λ f. tt)

  learned_rises : (v : Volatile C) (p : ℕ) (e : Entry C) → RisesPlan d (on_learned same d.learned v p e)
  unfolding on_learned
  learned_rises v p e =
      cond_both (is_none (d.learned p) && in_window (front d.learned) p) _ _ (λ (z : Plan C). RisesPlan d z)
      (λ t. learn_rises v p e (and_parts (is_none (d.learned p)) (in_window (front d.learned) p) t).0) (λ f. tt)

  need_rises : (v : Volatile C) (from p : ℕ) (o : Option (Entry C)) → RisesPlan d (need_of me v from p o)
  need_rises v from p None = tt
  need_rises v from p (Some e) = tt

  phase_rises : (v : Volatile C) (b p from : ℕ) (o : Option (Entry C)) → RisesPlan d (phase_two n me v b p from o)
  phase_rises v b p from None = tt
  phase_rises v b p from (Some e) = tt

  in_rises : (v : Volatile C) (from b p t : ℕ) (a : Option (Proposal C)) (ph : Phase C) → RisesPlan d (promise_in n me v from b p t a ph)
  unfolding gathered
  in_rises v from b p t a (Accepting e) = tt
  in_rises v from b p t a (Preparing counted top best) =
      cond_both (is_majority n (put counted from true)) _ _ (λ (z : Plan C). RisesPlan d z)
      (λ maj. phase_rises v b p _ (choice (better best a) v.waiting)) (λ f. tt)

  promise_rises : (v : Volatile C) (from b p t : ℕ) (a : Option (Proposal C)) (o : Option (Attempt C)) → RisesPlan d (promise_to n me v from b p t a o)
  promise_rises v from b p t a None = tt
  promise_rises v from b p t a (Some x) =
      cond_both (nat_eq x.ballot b && nat_eq x.position p) _ _ (λ (z : Plan C). RisesPlan d z) (λ yes. in_rises v from b p t a x.phase) (λ f. tt)

  step_rises : (t : ℕ) (v : Volatile C) (input : Input C) → RisesAnswer d (step same n me d.meta (d.slots (position_of input)) t d.learned v input)
  unfolding step on_prepare on_prepare_all on_accept on_promise_all on_nack on_need
  step_rises t v (Asks c) = ask_rises v c
  step_rises t v Ticks = tick_rises v
  step_rises t v (Comes from (Prepare b p)) = cond_both (nat_lt (promised_at d.meta (d.slots p)) b) _ _ (λ (z : Plan C). RisesPlan d z) (λ is. ltb-true (promised_at d.meta (d.slots p)) b is) (λ f. tt)
  step_rises t v (Comes from (Promise b p a)) = tt
  step_rises t v (Comes from (PrepareAll b p)) = cond_both (nat_lt (promised_at d.meta (d.slots p)) b) _ _ (λ (z : Plan C). RisesPlan d z) (λ is. let l = ltb-true (promised_at d.meta (d.slots p)) b is in let above : d.meta.floor < b = omega arith in above) (λ f. tt)
  step_rises t v (Comes from (PromiseAll b p k a)) = promise_rises v from b p k a v.attempt
  step_rises t v (Comes from (Accept b p e)) = cond_both (nat_le (promised_at d.meta (d.slots p)) b) _ _ (λ (z : Plan C). RisesPlan d z) (λ is. leb-true (promised_at d.meta (d.slots p)) b is) (λ f. tt)
  step_rises t v (Comes from (Vote b p e)) = vote_rises v from b p e
  step_rises t v (Comes from (Nack b p q)) = tt
  step_rises t v (Comes from (Need p)) = need_rises v from p (d.learned p)
  step_rises t v (Comes from (Learned p e)) = learned_rises v p e
  step_rises t v (Comes from (Ask k c)) = ask_answered_rises k d.meta.number v (on_ask me d.meta d.learned v c) (ask_rises v c)
  step_rises t v (Comes from (Asked k j)) = tt
  step_rises t v (Comes from (AskRefused k j)) = tt

pub steps_rise : {C : Type 0} → StepsRise C
steps_rise {C} same n m s input plan is = subst (λ (a : Answer C). RisesAnswer s.stored a) is (step_rises same n m s.stored (top s.stored.slots) s.volatile input)
