-- A member that waits for nothing learns what it has missed, position by position.
use Rattle.std.proofs.Common.{◌≡◌, ℕ, zero, suc, ◌+◌, ◌-◌, ◌*◌, ◌<◌, ◌≤◌, Bool, true, ◌&&◌, inl, inr, List, [], ◌∷◌, length, Option, Some, None, is_none, arith, refl, sym, ap, subst, ◌∙◌, eqb, ltb, leb, ne_eqb, eq-eqb, eqb-true, lt-ltb, le-leb}
use Rattle.std.proofs.lemmas.Bool.{cond_both, cases_lt, and_from}
use Rattle.px_model.specs.Node.{IsEquality, Entry, Log, Message, Input, Plan, Answer, Volatile, Record}
use Rattle.px_model.specs.Node.Change.{NewLearned}
use Rattle.px_model.specs.Node.Input.{Ticks, Comes}
use Rattle.px_model.specs.Node.Message.{Need, Learned}
use Rattle.px_model.specs.Node.Answer.{Refused, Planned}
use Rattle.px_model.specs.Step.{without, positions, front, in_window, to_all, answered, tick_for, on_tick, need_of, on_need, learn, on_learned, step}
use Rattle.px_model.specs.World.{World, NodeState, Learning, Event, learned_by, comes_to, step_in, goes_on, emptied, stops_after, at_member, happens, run, moved}
use Rattle.px_model.specs.World.Event.{Runs, StopBefore, StopAfter, Restart}
use Rattle.px_model.specs.Law.{Among, learned_of, world_after}
use Rattle.px_model.specs.Progress.{CatchesUp, pair, only}
use Rattle.px_model.proofs.Basics.{put_all, among_right, put_same}
use Rattle.px_model.proofs.Backed.{record_of}
use Rattle.px_model.proofs.Plans.{after, at_front, front_within, below_front}
use Rattle.px_model.proofs.Runs.{always_good}
use Rattle.px_model.proofs.Going.{Live, Reaches, IsFresh, all_new, live_run, already, weaker, then, tick, deliver}
use Rattle.px_model.proofs.Replies.{learning_plan, yes_no, if_true, if_false}
use Rattle.px_model.proofs.Attempts.{now, sent_all, sent_one, stored_stays, volatile_stays}

-- ---- what is learned stays

pub record Keeps {C : Type 0} (w w' : World C) : Type 0 where
  pub learned : (k p : ℕ) (x : Entry C) → learned_of w k p ≡ Some x → learned_of w' k p ≡ Some x

module _ {C : Type 0} (same : C → C → Bool) (n : ℕ) (x : Learning C) where
  goes_on_learned : (w : World C) (m : ℕ) (input : Input C) (a : Answer C) → Among w.learned x → Among (goes_on w m input a).learned x
  goes_on_learned w m input (Refused code) s = s
  goes_on_learned w m input (Planned plan) s = among_right (learned_by m plan.change) w.learned x s

  stops_learned : (w : World C) (m : ℕ) (input : Input C) (a : Answer C) → Among w.learned x → Among (stops_after w m input a).learned x
  stops_learned w m input (Refused code) s = s
  stops_learned w m input (Planned plan) s = among_right (learned_by m plan.change) w.learned x s

  at_member_learned : (w : World C) (o : Option (ℕ × Input C)) (does : ℕ → Input C → World C) → ((m : ℕ) (input : Input C) → Among (does m input).learned x) → Among w.learned x → Among (at_member n w o does).learned x
  at_member_learned w None does every s = s
  at_member_learned w (Some t) does every s =
      cond_both (ltb t.0 n && (w.nodes t.0).is_up) (does t.0 t.1) w (λ (z : World C). Among z.learned x) (λ both. every t.0 t.1) (λ f. s)

  happens_learned : (w : World C) (e : Event C) → Among w.learned x → Among (happens same n w e).learned x
  unfolding happens
  happens_learned w (Runs a) s = at_member_learned w (comes_to w a) _ (λ m input. goes_on_learned w m input (step_in same n w m input) s) s
  happens_learned w (StopBefore a) s = at_member_learned w (comes_to w a) _ (λ m input. s) s
  happens_learned w (StopAfter a) s = at_member_learned w (comes_to w a) _ (λ m input. stops_learned w m input (step_in same n w m input) s) s
  happens_learned w (Restart m) s = cond_both (ltb m n) (emptied w m true) w (λ (z : World C). Among z.learned x) (λ t. s) (λ f. s)

  run_learned : (es : List (Event C)) (w : World C) → Among w.learned x → Among (run same n es w).learned x
  run_learned [] w s = s
  run_learned (e ∷ es) w s = run_learned es (happens same n w e) (happens_learned w e s)

-- a position is before the front, if everything up to it is learned
pub before_front : {X : Type 0} (learned : ℕ → Option X) (p : ℕ) → p < positions → ((q : ℕ) → q ≤ p → (x : X) × (learned q ≡ Some x)) → p < front learned
before_front {X} learned p under full =
    elim (cases_lt p (front learned)) [
      | inl less ↦ less
      | inr le ↦
          let s = full (front learned) le in
          let open_ = at_front learned (omega arith) in
          let c : Some s.0 ≡ None = sym s.1 ∙ open_ in
          absurd (cc)
    ]

pub front_kept : {C : Type 0} (w w' : World C) → Keeps w w' → (m p : ℕ) → p < front (learned_of w m) → p < front (learned_of w' m)
front_kept w w' k m p under =
    let within = front_within (learned_of w m) in
    before_front (learned_of w' m) p (omega arith) (λ q le. (let s = below_front (learned_of w m) q (omega arith) in (s.0, k.learned m q s.0 s.1)))

pub front_stays : {C : Type 0} (w w' : World C) → Keeps w w' → (m goal : ℕ) → goal ≤ front (learned_of w m) → goal ≤ front (learned_of w' m)
front_stays w w' k m zero le = omega arith
front_stays w w' k m (suc p) le = (let u = front_kept w w' k m p (omega arith) in omega arith)

-- the front rises, if the position there is learned
pub front_passed : {C : Type 0} (w w' : World C) → Keeps w w' → (m : ℕ) (x : Entry C) → front (learned_of w m) < positions → learned_of w' m (front (learned_of w m)) ≡ Some x → front (learned_of w m) < front (learned_of w' m)
front_passed {C} w w' k m x under is =
    let f = front (learned_of w m) in
    before_front (learned_of w' m) f under (λ q le. elim (cases_lt q f) [
      | inl less ↦ (let s = below_front (learned_of w m) q less in (s.0, k.learned m q s.0 s.1))
      | inr over ↦ (let at : f ≡ q = omega arith in (x, subst (λ (j : ℕ). learned_of w' m j ≡ Some x) at is))
    ])

module _ {C : Type 0} (same : C → C → Bool) (exact : IsEquality same) (n : ℕ) (small : n ≤ 15) (since : ℕ) (clocks members : ℕ → Bool) where
  pub keeping : (w : World C) (k : ℕ) (P : World C → Type 0) → Live n since members w → Reaches same n since clocks members w k P → Reaches same n since clocks members w k (λ w'. P w' × Keeps w w')
  keeping w k P l g =
      let w' = run same n g.events w in
      let l' = live_run same exact n small since clocks members g.events w g.within l in
      record {
        events = g.events;
        few = g.few;
        within = g.within;
        reached = (g.reached, record { learned = λ j p x is. l'.good.1.recorded j p x (run_learned same n _ g.events w (l.good.1.noted j p x is)) });
      }

-- ---- what is missing is asked for

module _ {C : Type 0} (same : C → C → Bool) (n : ℕ) (w : World C) where
  asks : (m : ℕ) → (w.nodes m).volatile.waiting ≡ [] → front (learned_of w m) < positions → step_in same n w m Ticks ≡ Planned (record { change = None; volatile = (w.nodes m).volatile; sends = to_all n m (Need (front (learned_of w m))) })
  unfolding step on_tick
  asks m idle_ under =
      let p = front (learned_of w m) in
      if_false (eqb p positions) _ _ (ne_eqb p positions (λ is. omega arith)) ∙
      ap (λ (ws : List (Entry C)). tick_for n m (record_of w m).meta p (w.nodes m).volatile ws) idle_

  tells : (m from p : ℕ) (x : Entry C) → learned_of w m p ≡ Some x → step_in same n w m (Comes from (Need p)) ≡ Planned (answered None (w.nodes m).volatile m from (Learned p x))
  unfolding step on_need
  tells m from p x is = ap (λ (o : Option (Entry C)). Planned (need_of m (w.nodes m).volatile from p o)) is

  step_learns : (m from p : ℕ) (x : Entry C) → learned_of w m p ≡ None → front (learned_of w m) ≡ p → p < positions → step_in same n w m (Comes from (Learned p x)) ≡ Planned (learning_plan same (learned_of w m) (w.nodes m).volatile p x)
  unfolding step on_learned learn
  step_learns m from p x none at under =
      let log = learned_of w m in
      ap (λ (z : Plan C). Planned z) (if_true (is_none (log p) && in_window (front log) p) _ _
      (and_from (is_none (log p)) (in_window (front log) p)
      (ap (λ (o : Option (Entry C)). is_none o) none)
      (and_from (leb (front log) p) (ltb p (front log + 64) && ltb p positions) (le-leb (front log) p (omega arith))
      (and_from (ltb p (front log + 64)) (ltb p positions) (lt-ltb p (front log + 64) (omega arith)) (lt-ltb p positions under)))))

-- ---- one position

-- j learned x at the position p, and nothing else was recorded
pub record LearnedAt {C : Type 0} (w w' : World C) (j p : ℕ) (x : Entry C) : Type 0 where
  pub slots : (i : ℕ) → (record_of w' i).slots ≡ (record_of w i).slots
  pub meta : (i : ℕ) → (record_of w' i).meta ≡ (record_of w i).meta
  pub seen : (i : ℕ) → (w'.nodes i).volatile.seen ≡ (w.nodes i).volatile.seen
  pub waiting : (w'.nodes j).volatile.waiting ≡ []
  pub learned : learned_of w' j p ≡ Some x

there : {C : Type 0} (a b : Log C) (p : ℕ) (o : Option (Entry C)) → a ≡ b → b p ≡ o → a p ≡ o
there {C} a b p o is at = ap (λ (z : Log C). z p) is ∙ at

module _ {C : Type 0} (w : World C) (j : ℕ) (input : Input C) (v : Volatile C) (p : ℕ) (x : Entry C) where
  -- what stays where j learns
  pub learns : v.waiting ≡ [] → v.seen ≡ (w.nodes j).volatile.seen → LearnedAt w (moved w j input (Some (NewLearned p x)) true v []) j p x
  learns idle_ seen =
      let is = now w j input (Some (NewLearned p x)) v [] in
      record {
        slots = put_all (λ (i : ℕ) (z : NodeState C). z.stored.slots ≡ (record_of w i).slots) w.nodes j _ refl (λ i ne. refl);
        meta = put_all (λ (i : ℕ) (z : NodeState C). z.stored.meta ≡ (record_of w i).meta) w.nodes j _ refl (λ i ne. refl);
        seen = put_all (λ (i : ℕ) (z : NodeState C). z.volatile.seen ≡ (w.nodes i).volatile.seen) w.nodes j _ seen (λ i ne. refl);
        waiting = ap (λ (z : NodeState C). z.volatile.waiting) is ∙ idle_;
        learned = ap (λ (z : NodeState C). z.stored.learned p) is ∙ put_same (learned_of w j) p (Some x);
      }

learned_later : {C : Type 0} (w w1 w2 : World C) (j p : ℕ) (x : Entry C) → ((i : ℕ) → record_of w1 i ≡ record_of w i) → ((i : ℕ) → (w1.nodes i).volatile ≡ (w.nodes i).volatile) → LearnedAt w1 w2 j p x → LearnedAt w w2 j p x
learned_later {C} w w1 w2 j p x stored volatile t = record {
  slots = λ i. t.slots i ∙ ap (λ (d : Record C). d.slots) (stored i);
  meta = λ i. t.meta i ∙ ap (λ (d : Record C). d.meta) (stored i);
  seen = λ i. t.seen i ∙ ap (λ (v : Volatile C). v.seen) (volatile i);
  waiting = t.waiting;
  learned = t.learned;
}

module _ {C : Type 0} (same : C → C → Bool) (exact : IsEquality same) (n : ℕ) (small : n ≤ 15) (since : ℕ) (clocks members : ℕ → Bool) (m : ℕ) (member : m < n) (belongs : members m ≡ true) (j : ℕ) (lt : j < n) (q : members j ≡ true) (clock : clocks j ≡ true) where
  -- m's answer comes
  answered_ : (w : World C) → Live n since members w → (w.nodes j).volatile.waiting ≡ [] → (x : Entry C) → front (learned_of w j) < positions → IsFresh since w.sent (record { sender = m; addressee = j; message = Learned (front (learned_of w j)) x }) → Reaches same n since clocks members w 1 (λ z. LearnedAt w z j (front (learned_of w j)) x)
  answered_ w l idle_ x under sent =
      let p = front (learned_of w j) in
      let v = (w.nodes j).volatile in
      let back : Input C = Comes m (Learned p x) in
      let learning = learning_plan same (learned_of w j) v p x in
      let w' = after w j back learning in
      deliver same exact n small since clocks members w m j (Learned p x) learning 0 (λ z. LearnedAt w z j p x) l lt belongs q sent (step_learns same n w j m p x (at_front (learned_of w j) under) refl under) (λ l'.
      already same exact n small since clocks members w' 0 (λ z. LearnedAt w z j p x) (learns w j back learning.volatile p x (ap (λ (ws : List (Entry C)). without same x ws) idle_) refl))

  -- m is asked
  asked_ : (w : World C) → Live n since members w → (w.nodes j).volatile.waiting ≡ [] → (x : Entry C) → learned_of w m (front (learned_of w j)) ≡ Some x → front (learned_of w j) < positions → IsFresh since w.sent (record { sender = j; addressee = m; message = Need (front (learned_of w j)) }) → Reaches same n since clocks members w 2 (λ z. LearnedAt w z j (front (learned_of w j)) x)
  asked_ w l idle_ x known under sent =
      let p = front (learned_of w j) in
      let v = (w.nodes m).volatile in
      let come : Input C = Comes j (Need p) in
      let saying : Message C = Learned p x in
      let answer = answered None v m j saying in
      let w' = after w m come answer in
      let stored = stored_stays w m come v answer.sends in
      let volatile = volatile_stays w m come None answer.sends in
      let at : learned_of w' j ≡ learned_of w j = ap (λ (d : Record C). d.learned) (stored j) in
      let front_at : front (learned_of w' j) ≡ p = ap (λ (z : Log C). front z) at in
      deliver same exact n small since clocks members w j m (Need p) answer 1 (λ z. LearnedAt w z j p x) l member q belongs sent (tells same n w m j p x known) (λ l'.
      weaker same exact n small since clocks members w' 1 1 (λ z. LearnedAt w' z j (front (learned_of w' j)) x) (λ z. LearnedAt w z j p x) (omega arith)
      (λ z t. learned_later w w' z j p x stored volatile (subst (λ (k : ℕ). LearnedAt w' z j k x) front_at t))
      (answered_ w' l' (ap (λ (z : Volatile C). z.waiting) (volatile j) ∙ idle_) x (omega arith)
      (subst (λ (k : ℕ). IsFresh since w'.sent (record { sender = m; addressee = j; message = Learned k x })) (sym front_at) (sent_one w m come n small since l.sent None v saying j lt))))

  -- j's clock ticks
  pub learned_next : (w : World C) → Live n since members w → (w.nodes j).volatile.waiting ≡ [] → (x : Entry C) → learned_of w m (front (learned_of w j)) ≡ Some x → front (learned_of w j) < positions → Reaches same n since clocks members w 3 (λ z. LearnedAt w z j (front (learned_of w j)) x)
  learned_next w l idle_ x known under =
      let p = front (learned_of w j) in
      let v = (w.nodes j).volatile in
      let asking : Message C = Need p in
      let plan : Plan C = record { change = None; volatile = v; sends = to_all n j asking } in
      let w' = after w j Ticks plan in
      let stored = stored_stays w j Ticks v plan.sends in
      let volatile = volatile_stays w j Ticks None plan.sends in
      let at : learned_of w' j ≡ learned_of w j = ap (λ (d : Record C). d.learned) (stored j) in
      let front_at : front (learned_of w' j) ≡ p = ap (λ (z : Log C). front z) at in
      let known' : learned_of w' m (front (learned_of w' j)) ≡ Some x = subst (λ (k : ℕ). learned_of w' m k ≡ Some x) (sym front_at) (there (learned_of w' m) (learned_of w m) p (Some x) (ap (λ (d : Record C). d.learned) (stored m)) known) in
      tick same exact n small since clocks members w j plan 2 (λ z. LearnedAt w z j p x) l lt q clock (asks same n w j idle_ under) (λ l'.
      weaker same exact n small since clocks members w' 2 2 (λ z. LearnedAt w' z j (front (learned_of w' j)) x) (λ z. LearnedAt w z j p x) (omega arith)
      (λ z t. learned_later w w' z j p x stored volatile (subst (λ (k : ℕ). LearnedAt w' z j k x) front_at t))
      (asked_ w' l' (ap (λ (z : Volatile C). z.waiting) (volatile j) ∙ idle_) x known' (omega arith)
      (subst (λ (k : ℕ). IsFresh since w'.sent (record { sender = j; addressee = m; message = Need k })) (sym front_at) (sent_all w j Ticks n small since l.sent None v asking m member))))

  -- ---- position after position

  catches_up : (goal d : ℕ) (w : World C) → Live n since members w → (w.nodes j).volatile.waiting ≡ [] → goal ≤ front (learned_of w j) + d → goal ≤ front (learned_of w m) → Reaches same n since clocks members w (3 * d) (λ z. goal ≤ front (learned_of z j))
  catches_up goal zero w l idle_ far passed = already same exact n small since clocks members w (3 * zero) (λ z. goal ≤ front (learned_of z j)) (omega arith)
  catches_up goal (suc d) w l idle_ far passed =
      let p = front (learned_of w j) in
      let P : World C → Type 0 = λ z. goal ≤ front (learned_of z j) in
      elim (cases_lt p goal) [
        | inr le ↦ already same exact n small since clocks members w (3 * suc d) P le
        | inl less ↦
            let under : p < positions = (let u = front_within (learned_of w m) in omega arith) in
            let known = below_front (learned_of w m) p (omega arith) in
            weaker same exact n small since clocks members w (3 + 3 * d) (3 * suc d) P P (omega arith) (λ z g. g)
            (then same exact n small since clocks members w 3 (3 * d) (λ z. LearnedAt w z j p known.0 × Keeps w z) P l
            (keeping same exact n small since clocks members w 3 (λ z. LearnedAt w z j p known.0) l (learned_next w l idle_ known.0 known.1 under))
            (λ w' l' a.
            let rises = front_passed w w' a.1 j known.0 under a.0.learned in
            catches_up goal d w' l' a.0.waiting (omega arith) (front_stays w w' a.1 m goal passed)))
      ]

  pub all_learned : (w : World C) → Live n since members w → (w.nodes j).volatile.waiting ≡ [] → Reaches same n since clocks members w (3 * (front (learned_of w m) - front (learned_of w j))) (λ z. front (learned_of w m) ≤ front (learned_of z j))
  all_learned w l idle_ = catches_up (front (learned_of w m)) (front (learned_of w m) - front (learned_of w j)) w l idle_ (omega arith) (omega arith)

pub member_catches_up : {C : Type 0} → CatchesUp C
member_catches_up {C} same exact n some small events k m lk lm uk um idle_ =
    let w = world_after same n events in
    let both = pair k m in
    let mine : both k ≡ true = if_true (eqb k k) _ _ (eq-eqb k k refl) in
    let its : both m ≡ true = cond_both (eqb m k) true (eqb m m) (λ (b : Bool). b ≡ true) (λ t. refl) (λ f. eq-eqb m m refl) in
    all_new same n (only k) both w _ _
    (all_learned same exact n small (length w.sent) (only k) both m lm its k lk mine (eq-eqb k k refl) w (record {
      good = always_good same exact n small events;
      up = λ i lt q. elim (yes_no (eqb i k)) [
        | inl t ↦ subst (λ (a : ℕ). (w.nodes a).is_up ≡ true) (sym (eqb-true i k t)) uk
        | inr f ↦ subst (λ (a : ℕ). (w.nodes a).is_up ≡ true) (sym (eqb-true i m (sym (if_false (eqb i k) true (eqb i m) f) ∙ q))) um
      ];
      sent = omega arith;
    }) idle_)
