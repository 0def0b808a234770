-- Runs that accept nothing from position 10 on compute: the top is then found in the first ten positions, and the
-- million needn't be gone through.
use Rattle.std.proofs.Common.{◌≡◌, ℕ, zero, suc, ◌≤◌, Bool, true, false, ◌&&◌, inl, inr, List, [], ◌∷◌, Option, Some, None, arith, refl, ap, subst, ◌∙◌, nat_lt, ltb, if◌then◌else◌, ltb-true}
use Rattle.std.proofs.lemmas.Bool.{cond_both, and_parts, cases_lt}
use Rattle.px_model.specs.Node.{Slot, Record, Change, Volatile, Envelope, Input, Answer}
use Rattle.px_model.specs.Node.Change.{NewRound, NewNumber, NewFloor, NewPromise, NewAccepted, NewLearned}
use Rattle.px_model.specs.Node.Input.{Ticks}
use Rattle.px_model.specs.Node.Answer.{Refused, Planned}
use Rattle.px_model.specs.Step.{commit, positions, top_below, top, nothing_volatile, position_of, step}
use Rattle.px_model.specs.World.{World, NodeState, Event, start, comes_to, step_in, moved, goes_on, emptied, stops_after, at_member, happens, run}
use Rattle.px_model.specs.World.Event.{Runs, StopBefore, StopAfter, Restart}
use Rattle.px_model.proofs.Basics.{put_all}
use Rattle.px_model.proofs.Backed.{record_of}
use Rattle.px_model.proofs.Plans.{top_none}

-- nothing is accepted from position 10 on
abbrev IsLow : {C : Type 0} → (ℕ → Slot C) → Type 0
IsLow slots = (q : ℕ) → 10 ≤ q → (slots q).accepted ≡ None

top_up_to : {C : Type 0} (slots : ℕ → Slot C) → IsLow slots → (n : ℕ) → 10 ≤ n → top_below slots n ≡ top_below slots 10
top_up_to slots low zero over = absurd (omega arith)
top_up_to slots low (suc n) over =
    elim (cases_lt n 10) [
      | inl under ↦ (let same : 10 ≡ suc n = omega arith in subst (λ (k : ℕ). top_below slots k ≡ top_below slots 10) same refl)
      | inr more ↦ top_none slots n (low n more) ∙ top_up_to slots low n more
    ]

top_low : {C : Type 0} (slots : ℕ → Slot C) → IsLow slots → top slots ≡ top_below slots 10
unfolding top
top_low slots low = top_up_to slots low positions (omega arith)

abbrev LowWorld : {C : Type 0} → World C → Type 0
LowWorld w = (m : ℕ) → IsLow (record_of w m).slots

abbrev low_change : {C : Type 0} → Option (Change C) → Bool
low_change (Some (NewAccepted p b e)) = nat_lt p 10
low_change _ = true

low_commit : {C : Type 0} (d : Record C) (ch : Option (Change C)) → IsLow d.slots → low_change ch ≡ true → IsLow (commit ch d).slots
low_commit d None low t = low
low_commit d (Some (NewRound r)) low t = low
low_commit d (Some (NewNumber r)) low t = low
low_commit d (Some (NewFloor r)) low t = low
low_commit d (Some (NewLearned p e)) low t = low
low_commit {C} d (Some (NewPromise p b)) low t = put_all (λ (q : ℕ) (s : Slot C). 10 ≤ q → s.accepted ≡ None) d.slots p _ (low p) (λ q ne. low q)
low_commit {C} d (Some (NewAccepted p b e)) low t =
    put_all (λ (q : ℕ) (s : Slot C). 10 ≤ q → s.accepted ≡ None) d.slots p _
    (λ over. absurd (let u = ltb-true p 10 t in omega arith))
    (λ q ne. low q)

low_moved : {C : Type 0} (w : World C) (m : ℕ) (input : Input C) (ch : Option (Change C)) (up : Bool) (v : Volatile C) (sends : List (Envelope C)) → LowWorld w → low_change ch ≡ true → LowWorld (moved w m input ch up v sends)
low_moved {C} w m input ch up v sends low t =
    put_all (λ (k : ℕ) (x : NodeState C). IsLow x.stored.slots) w.nodes m _ (low_commit (record_of w m) ch (low m) t) (λ k ne. low k)

-- ---- the run with the top of the first ten positions

module _ {C : Type 0} (same : C → C → Bool) (n : ℕ) where
  abbrev pub small_step : World C → (m : ℕ) → Input C → Answer C
  small_step w m input =
      step same n m (w.nodes m).stored.meta ((w.nodes m).stored.slots (position_of input)) (top_below (w.nodes m).stored.slots 10)
      (w.nodes m).stored.learned (w.nodes m).volatile input

  abbrev pub small_happens : World C → Event C → World C
  small_happens w (Runs a) = at_member n w (comes_to w a) (λ m input. goes_on w m input (small_step w m input))
  small_happens w (StopBefore a) = at_member n w (comes_to w a) (λ m input. emptied w m false)
  small_happens w (StopAfter a) = at_member n w (comes_to w a) (λ m input. stops_after w m input (small_step w m input))
  small_happens w (Restart m) = if nat_lt m n then emptied w m true else w

  abbrev pub small_run : List (Event C) → World C → World C
  small_run [] w = w
  small_run (e ∷ es) w = small_run es (small_happens w e)

  -- no step accepts anything from position 10 on
  abbrev low_answer : Answer C → Bool
  low_answer (Refused code) = true
  low_answer (Planned plan) = low_change plan.change

  abbrev low_at : World C → Option (ℕ × Input C) → Bool
  low_at w None = true
  low_at w (Some t) = low_answer (small_step w t.0 t.1)

  abbrev low_event : World C → Event C → Bool
  low_event w (Runs a) = low_at w (comes_to w a)
  low_event w (StopBefore a) = true
  low_event w (StopAfter a) = low_at w (comes_to w a)
  low_event w (Restart m) = true

  abbrev pub low_run : List (Event C) → World C → Bool
  low_run [] w = true
  low_run (e ∷ es) w = low_event w e && low_run es (small_happens w e)

  same_step : (w : World C) → LowWorld w → (m : ℕ) (input : Input C) → step_in same n w m input ≡ small_step w m input
  same_step w low m input =
      ap (λ (t : ℕ). step same n m (w.nodes m).stored.meta ((w.nodes m).stored.slots (position_of input)) t (w.nodes m).stored.learned (w.nodes m).volatile input)
      (top_low (record_of w m).slots (low m))

  same_at : (w : World C) (o : Option (ℕ × Input C)) (does did : ℕ → Input C → World C) → ((m : ℕ) (input : Input C) → does m input ≡ did m input) → at_member n w o does ≡ at_member n w o did
  same_at w None does did each = refl
  same_at w (Some t) does did each = ap (λ (z : World C). if nat_lt t.0 n && (w.nodes t.0).is_up then z else w) (each t.0 t.1)

  same_happens : (w : World C) → LowWorld w → (e : Event C) → happens same n w e ≡ small_happens w e
  unfolding happens
  same_happens w low (Runs a) = same_at w (comes_to w a) _ _ (λ m input. ap (λ (z : Answer C). goes_on w m input z) (same_step w low m input))
  same_happens w low (StopBefore a) = refl
  same_happens w low (StopAfter a) = same_at w (comes_to w a) _ _ (λ m input. ap (λ (z : Answer C). stops_after w m input z) (same_step w low m input))
  same_happens w low (Restart m) = refl

  low_goes_on : (w : World C) → LowWorld w → (m : ℕ) (input : Input C) (a : Answer C) → low_answer a ≡ true → LowWorld (goes_on w m input a)
  low_goes_on w low m input (Refused code) t = low
  low_goes_on w low m input (Planned plan) t = low_moved w m input plan.change true plan.volatile plan.sends low t

  low_emptied : (w : World C) → LowWorld w → (m : ℕ) (up : Bool) → LowWorld (emptied w m up)
  low_emptied w low m up = low_moved w m Ticks None up nothing_volatile [] low refl

  low_stops : (w : World C) → LowWorld w → (m : ℕ) (input : Input C) (a : Answer C) → low_answer a ≡ true → LowWorld (stops_after w m input a)
  low_stops w low m input (Refused code) t = low_emptied w low m false
  low_stops w low m input (Planned plan) t = low_moved w m input plan.change false nothing_volatile [] low t

  low_at_member : (w : World C) → LowWorld w → (o : Option (ℕ × Input C)) (does : ℕ → Input C → World C) → low_at w o ≡ true → ((m : ℕ) (input : Input C) → low_answer (small_step w m input) ≡ true → LowWorld (does m input)) → LowWorld (at_member n w o does)
  low_at_member w low None does t each = low
  low_at_member w low (Some x) does t each =
      cond_both (ltb x.0 n && (w.nodes x.0).is_up) (does x.0 x.1) w (λ (z : World C). LowWorld z) (λ both. each x.0 x.1 t) (λ f. low)

  low_before : (w : World C) → LowWorld w → (o : Option (ℕ × Input C)) → LowWorld (at_member n w o (λ m input. emptied w m false))
  low_before w low None = low
  low_before w low (Some x) =
      cond_both (ltb x.0 n && (w.nodes x.0).is_up) (emptied w x.0 false) w (λ (z : World C). LowWorld z) (λ both. low_emptied w low x.0 false) (λ f. low)

  low_happens : (w : World C) → LowWorld w → (e : Event C) → low_event w e ≡ true → LowWorld (small_happens w e)
  low_happens w low (Runs a) t = low_at_member w low (comes_to w a) _ t (λ m input at. low_goes_on w low m input (small_step w m input) at)
  low_happens w low (StopBefore a) t = low_before w low (comes_to w a)
  low_happens w low (StopAfter a) t = low_at_member w low (comes_to w a) _ t (λ m input at. low_stops w low m input (small_step w m input) at)
  low_happens w low (Restart m) t = cond_both (ltb m n) (emptied w m true) w (λ (z : World C). LowWorld z) (λ yes. low_emptied w low m true) (λ f. low)

  run_same : (es : List (Event C)) (w : World C) → LowWorld w → low_run es w ≡ true → run same n es w ≡ small_run es w
  run_same [] w low t = refl
  run_same (e ∷ es) w low t =
      let parts = and_parts (low_event w e) (low_run es (small_happens w e)) t in
      ap (λ (z : World C). run same n es z) (same_happens w low e) ∙ run_same es (small_happens w e) (low_happens w low e parts.0) parts.1

  pub small : (es : List (Event C)) → low_run es start ≡ true → run same n es start ≡ small_run es start
  small es t = run_same es start (λ m q over. refl) t
