-- Members that learned the same positions make the same state of them, at whatever moments.
use Rattle.std.proofs.Common.{◌≡◌, ℕ, zero, suc, ◌≤◌, Bool, true, ◌&&◌, List, [], ◌∷◌, ◌++◌, Option, Some, None, refl, sym, ap, subst, ltb, ◌∙◌}
use Rattle.std.proofs.lemmas.Bool.{cond_both}
use Rattle.px_model.specs.Node.{IsEquality, Entry, Log, Envelope, Input, Answer}
use Rattle.px_model.specs.Node.Answer.{Refused, Planned}
use Rattle.px_model.specs.World.{World, Event, start, comes_to, step_in, to_members, goes_on, emptied, stops_after, at_member, happens, run}
use Rattle.px_model.specs.World.Event.{Runs, StopBefore, StopAfter, Restart}
use Rattle.px_model.specs.Law.{Among, Chosen, learned_of, next_state, state_after}
use Rattle.px_model.proofs.Basics.{among_left}
use Rattle.px_model.proofs.Agreement.{one_chosen}
use Rattle.px_model.proofs.Once.{grounds}
use Rattle.px_model.proofs.Runs.{always_good}

-- ---- what was sent stays sent, so what was chosen stays chosen

module _ {C : Type 0} (same : C → C → Bool) (n : ℕ) (x : Envelope C) where
  goes_on_sent : (w : World C) (m : ℕ) (input : Input C) (a : Answer C) → Among w.sent x → Among (goes_on w m input a).sent x
  goes_on_sent w m input (Refused code) s = s
  goes_on_sent w m input (Planned plan) s = among_left w.sent (to_members plan.sends) x s

  stops_after_sent : (w : World C) (m : ℕ) (input : Input C) (a : Answer C) → Among w.sent x → Among (stops_after w m input a).sent x
  stops_after_sent w m input (Refused code) s = among_left w.sent [] x s
  stops_after_sent w m input (Planned plan) s = among_left w.sent [] x s

  at_member_sent : (w : World C) (o : Option (ℕ × Input C)) (does : ℕ → Input C → World C) → ((m : ℕ) (input : Input C) → Among (does m input).sent x) → Among w.sent x → Among (at_member n w o does).sent x
  at_member_sent w None does each s = s
  at_member_sent w (Some t) does each s =
      cond_both (ltb t.0 n && (w.nodes t.0).is_up) (does t.0 t.1) w (λ (z : World C). Among z.sent x) (λ both. each t.0 t.1) (λ f. s)

  happens_sent : (w : World C) (e : Event C) → Among w.sent x → Among (happens same n w e).sent x
  unfolding happens
  happens_sent w (Runs a) s = at_member_sent w (comes_to w a) _ (λ m input. goes_on_sent w m input (step_in same n w m input) s) s
  happens_sent w (StopBefore a) s = at_member_sent w (comes_to w a) _ (λ m input. among_left w.sent [] x s) s
  happens_sent w (StopAfter a) s = at_member_sent w (comes_to w a) _ (λ m input. stops_after_sent w m input (step_in same n w m input) s) s
  happens_sent w (Restart m) s = cond_both (ltb m n) (emptied w m true) w (λ (z : World C). Among z.sent x) (λ t. among_left w.sent [] x s) (λ f. s)

  run_sent : (es : List (Event C)) (w : World C) → Among w.sent x → Among (run same n es w).sent x
  run_sent [] w s = s
  run_sent (e ∷ es) w s = run_sent es (happens same n w e) (happens_sent w e s)

module _ {C : Type 0} (same : C → C → Bool) (n : ℕ) where
  chosen_run : (es : List (Event C)) (w : World C) (p : ℕ) (e : Entry C) → Chosen n w p e → Chosen n (run same n es w) p e
  chosen_run es w p e c = record {
    ballot = c.ballot;
    quorum = c.quorum;
    majority = c.majority;
    votes = λ m lt q. (let s = c.votes m lt q in (s.0, run_sent same n _ es w s.1));
  }

  pub run_append : (xs ys : List (Event C)) (w : World C) → run same n (xs ++ ys) w ≡ run same n ys (run same n xs w)
  run_append [] ys w = refl
  run_append (e ∷ xs) ys w = run_append xs ys (happens same n w e)

-- ---- equal entries make equal states

module _ {C S : Type 0} (f : S → Entry C → S) (s : S) where
  stepped_parts : (o : Option S) (e : Option (Entry C)) (x : S) → next_state f o e ≡ Some x → (t : S) × (u : Entry C) × (o ≡ Some t) × (e ≡ Some u) × (f t u ≡ x)
  stepped_parts None e x is = absurd (cc)
  stepped_parts (Some t) None x is = absurd (cc)
  stepped_parts (Some t) (Some u) x is = (t, u, refl, refl, cc)

  states_same : (a b : Log C) → ((p : ℕ) (e u : Entry C) → a p ≡ Some e → b p ≡ Some u → e ≡ u) → (k : ℕ) (x y : S) → state_after f s a k ≡ Some x → state_after f s b k ≡ Some y → x ≡ y
  states_same a b one zero x y ix iy = cc
  states_same a b one (suc k) x y ix iy =
      let p = stepped_parts (state_after f s a k) (a k) x ix in
      let q = stepped_parts (state_after f s b k) (b k) y iy in
      let state : p.0 ≡ q.0 = states_same a b one k p.0 q.0 p.2 q.2 in
      let entry : p.1 ≡ q.1 = one k p.1 q.1 p.3 q.3 in
      sym p.4 ∙ (ap (λ (z : S). f z p.1) state ∙ (ap (λ (z : Entry C). f q.0 z) entry ∙ q.4))

pub always_same_state : {C S : Type 0} (same : C → C → Bool) (exact : IsEquality same) (n : ℕ) → n ≤ 15 → (before after : List (Event C)) (f : S → Entry C → S) (s : S) (k m j : ℕ) (x y : S) → state_after f s (learned_of (run same n before start) m) k ≡ Some x → state_after f s (learned_of (run same n (before ++ after) start) j) k ≡ Some y → x ≡ y
always_same_state {C} {S} same exact n small before after f s k m j x y ix iy =
    let early = run same n before start in
    let late = run same n (before ++ after) start in
    let g = always_good same exact n small before in
    let l = always_good same exact n small (before ++ after) in
    states_same f s (learned_of early m) (learned_of late j)
    (λ p e u ie iu.
    let c : Chosen n late p e = subst (λ (z : World C). Chosen n z p e) (sym (run_append same n before after start)) (chosen_run same n after early p e ((g.1.stored m).learned p e ie)) in
    one_chosen n late l.0 (grounds n late l.0 l.1) p e u c ((l.1.stored j).learned p u iu))
    k x y ix iy

-- the same of two members at one moment
pub same_state_now : {C S : Type 0} (same : C → C → Bool) (exact : IsEquality same) (n : ℕ) → n ≤ 15 → (events : List (Event C)) (f : S → Entry C → S) (s : S) (k m j : ℕ) (x y : S) → state_after f s (learned_of (run same n events start) m) k ≡ Some x → state_after f s (learned_of (run same n events start) j) k ≡ Some y → x ≡ y
same_state_now same exact n small events f s k m j x y ix iy =
    let w = run same n events start in
    let g = always_good same exact n small events in
    states_same f s (learned_of w m) (learned_of w j)
    (λ p e u ie iu. one_chosen n w g.0 (grounds n w g.0 g.1) p e u ((g.1.stored m).learned p e ie) ((g.1.stored j).learned p u iu))
    k x y ix iy
