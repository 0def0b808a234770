-- Going on from a world by ticks and messages within a group: steps one after another, and what stays meanwhile.
use Rattle.std.proofs.Common.{◌≡◌, ℕ, zero, suc, ◌+◌, ◌-◌, ◌*◌, ◌<◌, ◌≤◌, Bool, true, false, cond, ◌&&◌, inl, inr, List, [], ◌∷◌, ◌++◌, length, Option, Some, None, slice_get, arith, refl, sym, ap, subst, ◌∙◌, eqb, ltb, lt-ltb, ltb-true, ltb-false, ne_eqb, length-append}
use Rattle.std.proofs.lemmas.Bool.{cond_both, and_from}
use Rattle.px_model.specs.Node.{IsEquality, Message, Envelope, Input, Plan, Answer, client}
use Rattle.px_model.specs.Node.Input.{Ticks, Comes}
use Rattle.px_model.specs.Node.Answer.{Refused, Planned}
use Rattle.px_model.specs.Step.{to_all}
use Rattle.px_model.specs.World.{World, NodeState, Event, to_members, comes_to, step_in, goes_on, at_member, delivered, happens, run}
use Rattle.px_model.specs.World.Action.{Ask, AskFrom, Tick, Deliver}
use Rattle.px_model.specs.World.Event.{Runs, StopBefore, StopAfter, Restart}
use Rattle.px_model.specs.Law.{Among}
use Rattle.px_model.specs.Progress.{IsExchanged, IsWithin, AreWithin, CanReach}
use Rattle.px_model.proofs.Basics.{among_left, among_right, put_all}
use Rattle.px_model.proofs.Plans.{after}
use Rattle.px_model.proofs.Runs.{Good, happens_ok}
use Rattle.px_model.proofs.States.{run_append}

-- ---- lists

pub get_among : {X : Type 0} (xs : List X) (x : X) → Among xs x → (k : ℕ) × (slice_get xs k ≡ Some x)
get_among [] x a = absurd a
get_among {X} (y ∷ ys) x a =
    elim a [
      | inl is ↦ (0, ap (λ (z : X). Some z) is)
      | inr t ↦ (let r = get_among ys x t in (suc r.0, r.1))
    ]

pub kept_for_members : {C : Type 0} (xs : List (Envelope C)) (x : Envelope C) → (x.addressee ≡ client → ⊥) → Among xs x → Among (to_members xs) x
kept_for_members [] x ne a = absurd a
kept_for_members {C} (y ∷ ys) x ne a =
    elim a [
      | inl is ↦
          let other : eqb y.addressee client ≡ false = subst (λ (z : Envelope C). eqb z.addressee client ≡ false) (sym is) (ne_eqb x.addressee client ne) in
          subst (λ (b : Bool). Among (cond b (to_members ys) (y ∷ to_members ys)) x) (sym other) (inl is)
      | inr t ↦
          let rest = kept_for_members ys x ne t in
          cond_both (eqb y.addressee client) (to_members ys) (y ∷ to_members ys) (λ (zs : List (Envelope C)). Among zs x) (λ e. rest) (λ e. inr rest)
    ]

pub among_all : {C : Type 0} (n m k : ℕ) (x : Message C) → k < n → Among (to_all n m x) (record { sender = m; addressee = k; message = x })
among_all zero m k x lt = absurd (omega arith)
among_all {C} (suc n) m k x lt =
    let last : List (Envelope C) = record { sender = m; addressee = n; message = x } ∷ [] in
    cond_both (ltb k n) true false (λ (b : Bool). Among (to_all n m x ++ last) (record { sender = m; addressee = k; message = x }))
    (λ t. among_left (to_all n m x) last _ (among_all n m k x (ltb-true k n t)))
    (λ f. let is : n ≡ k = (let u = ltb-false k n f in omega arith) in
    among_right (to_all n m x) last _ (inl (ap (λ (j : ℕ). record { sender = m; addressee = j; message = x }) is)))

-- it is in the list, and not among the first `since`
abbrev pub IsFresh : {X : Type 0} → (since : ℕ) → List X → X → Type 0
IsFresh since xs x = (k : ℕ) × (since ≤ k) × (slice_get xs k ≡ Some x)

get_left : {X : Type 0} (xs ys : List X) (k : ℕ) (x : X) → slice_get xs k ≡ Some x → slice_get (xs ++ ys) k ≡ Some x
get_left {X} [] ys k x is = absurd (let c : None ≡ Some x = is in cc)
get_left (y ∷ xs) ys zero x is = is
get_left (y ∷ xs) ys (suc k) x is = get_left xs ys k x is

pub fresh_left : {X : Type 0} (since : ℕ) (xs ys : List X) (x : X) → IsFresh since xs x → IsFresh since (xs ++ ys) x
fresh_left since xs ys x f = (f.0, f.1, get_left xs ys f.0 x f.2)

pub fresh_right : {X : Type 0} (since : ℕ) (xs ys : List X) (x : X) → since ≤ length xs → Among ys x → IsFresh since (xs ++ ys) x
fresh_right since [] ys x le a = let g = get_among ys x a in (g.0, omega arith, g.1)
fresh_right since (y ∷ xs) ys x le a = let r = fresh_right (since - 1) xs ys x (omega arith) a in (suc r.0, (let u = r.1 in omega arith), r.2)

-- ---- a group goes on

-- the invariant holds, these members run, and the first `since` messages were sent
pub record Live {C : Type 0} (n since : ℕ) (members : ℕ → Bool) (w : World C) : Type 0 where
  pub good : Good n w
  pub up : (k : ℕ) → k < n → members k ≡ true → (w.nodes k).is_up ≡ true
  pub sent : since ≤ length w.sent

-- At most `limit` events within a group, which deliver none of the first `since` messages, lead to a world with this
-- property.
pub record Reaches {C : Type 0} (same : C → C → Bool) (n since : ℕ) (clocks members : ℕ → Bool) (w : World C) (limit : ℕ) (Wanted : World C → Type 0) : Type 0 where
  pub events : List (Event C)
  pub few : length events ≤ limit
  pub within : AreWithin same n since clocks members w events
  pub reached : Wanted (run same n events w)

-- none of the messages that were sent before is delivered
pub all_new : {C : Type 0} (same : C → C → Bool) (n : ℕ) (clocks members : ℕ → Bool) (w : World C) (limit : ℕ) (Wanted : World C → Type 0) → Reaches same n (length w.sent) clocks members w limit Wanted → CanReach same n clocks members w limit Wanted
all_new same n clocks members w limit Wanted g = record { events = g.events; few = g.few; within = g.within; reached = g.reached }

module _ {C : Type 0} (same : C → C → Bool) (exact : IsEquality same) (n : ℕ) (small : n ≤ 15) (since : ℕ) (clocks members : ℕ → Bool) where
  abbrev pub Reach : World C → ℕ → (World C → Type 0) → Type 0
  Reach w limit P = Reaches same n since clocks members w limit P

  pub already : (w : World C) (limit : ℕ) (P : World C → Type 0) → P w → Reach w limit P
  already w limit P p = record { events = []; few = omega arith; within = tt; reached = p }

  pub weaker : (w : World C) (j k : ℕ) (P R : World C → Type 0) → j ≤ k → ((w' : World C) → P w' → R w') → Reach w j P → Reach w k R
  weaker w j k P R le more g = record {
    events = g.events;
    few = (let u = g.few in omega arith);
    within = g.within;
    reached = more (run same n g.events w) g.reached;
  }

  within_append : (xs ys : List (Event C)) (w : World C) → AreWithin same n since clocks members w xs → AreWithin same n since clocks members (run same n xs w) ys → AreWithin same n since clocks members w (xs ++ ys)
  within_append [] ys w a b = b
  within_append (e ∷ xs) ys w a b = (a.0, within_append xs ys (happens same n w e) a.1 b)

  -- a member that runs goes on running, unless it is stopped
  goes_on_up : (w : World C) (m : ℕ) (x : Input C) (a : Answer C) (k : ℕ) → (w.nodes k).is_up ≡ true → ((goes_on w m x a).nodes k).is_up ≡ true
  goes_on_up w m x (Refused code) k up = up
  goes_on_up w m x (Planned plan) k up = put_all (λ (j : ℕ) (z : NodeState C). (w.nodes j).is_up ≡ true → z.is_up ≡ true) w.nodes m _ (λ u. refl) (λ j ne u. u) k up

  at_member_up : (w : World C) (o : Option (ℕ × Input C)) (k : ℕ) → (w.nodes k).is_up ≡ true → ((at_member n w o (λ m x. goes_on w m x (step_in same n w m x))).nodes k).is_up ≡ true
  at_member_up w None k up = up
  at_member_up w (Some t) k up =
      cond_both (ltb t.0 n && (w.nodes t.0).is_up) (goes_on w t.0 t.1 (step_in same n w t.0 t.1)) w (λ (z : World C). (z.nodes k).is_up ≡ true)
      (λ both. goes_on_up w t.0 t.1 (step_in same n w t.0 t.1) k up)
      (λ f. up)

  event_up : (w : World C) (e : Event C) (k : ℕ) → IsWithin since clocks members w e → (w.nodes k).is_up ≡ true → ((happens same n w e).nodes k).is_up ≡ true
  unfolding happens
  event_up w (Runs (Tick m)) k in_ up = at_member_up w (comes_to w (Tick m)) k up
  event_up w (Runs (Deliver j)) k in_ up = at_member_up w (comes_to w (Deliver j)) k up
  event_up w (Runs (Ask m c)) k in_ up = absurd in_
  event_up w (Runs (AskFrom m t c)) k in_ up = absurd in_
  event_up w (StopBefore a) k in_ up = absurd in_
  event_up w (StopAfter a) k in_ up = absurd in_
  event_up w (Restart m) k in_ up = absurd in_

  goes_on_sent : (w : World C) (m : ℕ) (x : Input C) (a : Answer C) → since ≤ length w.sent → since ≤ length (goes_on w m x a).sent
  goes_on_sent w m x (Refused code) le = le
  goes_on_sent w m x (Planned plan) le = let s = length-append w.sent (to_members plan.sends) in omega arith

  at_member_sent : (w : World C) (o : Option (ℕ × Input C)) → since ≤ length w.sent → since ≤ length (at_member n w o (λ m x. goes_on w m x (step_in same n w m x))).sent
  at_member_sent w None le = le
  at_member_sent w (Some t) le =
      cond_both (ltb t.0 n && (w.nodes t.0).is_up) (goes_on w t.0 t.1 (step_in same n w t.0 t.1)) w (λ (z : World C). since ≤ length z.sent)
      (λ both. goes_on_sent w t.0 t.1 (step_in same n w t.0 t.1) le)
      (λ f. le)

  event_sent : (w : World C) (e : Event C) → IsWithin since clocks members w e → since ≤ length w.sent → since ≤ length (happens same n w e).sent
  unfolding happens
  event_sent w (Runs (Tick m)) in_ le = at_member_sent w (comes_to w (Tick m)) le
  event_sent w (Runs (Deliver j)) in_ le = at_member_sent w (comes_to w (Deliver j)) le
  event_sent w (Runs (Ask m c)) in_ le = absurd in_
  event_sent w (Runs (AskFrom m t c)) in_ le = absurd in_
  event_sent w (StopBefore a) in_ le = absurd in_
  event_sent w (StopAfter a) in_ le = absurd in_
  event_sent w (Restart m) in_ le = absurd in_

  live_event : (w : World C) (e : Event C) → IsWithin since clocks members w e → Live n since members w → Live n since members (happens same n w e)
  live_event w e in_ l = record {
    good = happens_ok same exact n small w l.good e;
    up = λ k lt q. event_up w e k in_ (l.up k lt q);
    sent = event_sent w e in_ l.sent;
  }

  pub live_run : (es : List (Event C)) (w : World C) → AreWithin same n since clocks members w es → Live n since members w → Live n since members (run same n es w)
  live_run [] w in_ l = l
  live_run (e ∷ es) w in_ l = live_run es (happens same n w e) in_.1 (live_event w e in_.0 l)

  -- one after the other
  pub then : (w : World C) (j k : ℕ) (P R : World C → Type 0) → Live n since members w → Reach w j P → ((w' : World C) → Live n since members w' → P w' → Reach w' k R) → Reach w (j + k) R
  then w j k P R l g more =
      let w' = run same n g.events w in
      let b = more w' (live_run g.events w g.within l) g.reached in
      record {
        events = g.events ++ b.events;
        few = (let u = g.few in let v = b.few in let s = length-append g.events b.events in omega arith);
        within = within_append g.events b.events w g.within b.within;
        reached = subst (λ (z : World C). R z) (sym (run_append same n g.events b.events w)) b.reached;
      }

  one_event : (w w' : World C) (e : Event C) (k : ℕ) (P : World C → Type 0) → Live n since members w → IsWithin since clocks members w e → happens same n w e ≡ w' → (Live n since members w' → Reach w' k P) → Reach w (suc k) P
  one_event w w' e k P l in_ is more =
      let b = subst (λ (z : World C). Live n since members z → Reach z k P) (sym is) more (live_event w e in_ l) in
      record { events = e ∷ b.events; few = (let u = b.few in omega arith); within = (in_, b.within); reached = b.reached }

  -- what arrives at a member that runs
  at_member_is : (w : World C) (m : ℕ) (x : Input C) (plan : Plan C) → m < n → (w.nodes m).is_up ≡ true → step_in same n w m x ≡ Planned plan → at_member n w (Some (m, x)) (λ j y. goes_on w j y (step_in same n w j y)) ≡ after w m x plan
  at_member_is w m x plan lt up is =
      ap (λ (b : Bool). cond b (goes_on w m x (step_in same n w m x)) w) (and_from (ltb m n) (w.nodes m).is_up (lt-ltb m n lt) up) ∙
      ap (λ (a : Answer C). goes_on w m x a) is

  pub tick : (w : World C) (m : ℕ) (plan : Plan C) (k : ℕ) (P : World C → Type 0) → Live n since members w → m < n → members m ≡ true → clocks m ≡ true → step_in same n w m Ticks ≡ Planned plan → (Live n since members (after w m Ticks plan) → Reach (after w m Ticks plan) k P) → Reach w (suc k) P
  unfolding happens
  tick w m plan k P l lt q c is more =
      one_event w (after w m Ticks plan) (Runs (Tick m)) k P l c (at_member_is w m Ticks plan lt (l.up m lt q) is) more

  pub deliver : (w : World C) (from to : ℕ) (x : Message C) (plan : Plan C) (k : ℕ) (P : World C → Type 0) → Live n since members w → to < n → members from ≡ true → members to ≡ true → IsFresh since w.sent (record { sender = from; addressee = to; message = x }) → step_in same n w to (Comes from x) ≡ Planned plan → (Live n since members (after w to (Comes from x) plan) → Reach (after w to (Comes from x) plan) k P) → Reach w (suc k) P
  unfolding happens
  deliver w from to x plan k P l lt qf qt a is more =
      one_event w (after w to (Comes from x) plan) (Runs (Deliver a.0)) k P l
      (a.1, subst (λ (o : Option (Envelope C)). IsExchanged members o) (sym a.2) (qf, qt))
      (ap (λ (o : Option (Envelope C)). at_member n w (delivered o) (λ j y. goes_on w j y (step_in same n w j y))) a.2 ∙ at_member_is w to (Comes from x) plan lt (l.up to lt qt) is)
      more

  -- what holds of the first members is made to hold of all, one after another
  pub each_from : (P : ℕ → World C → Type 0) (limit : ℕ) → ((j : ℕ) → j < n → members j ≡ true → (w : World C) → Live n since members w → P j w → Reach w limit (P (suc j))) → ((j : ℕ) → members j ≡ false → (w : World C) → P j w → P (suc j) w) → (d j : ℕ) → j + d ≡ n → (w : World C) → Live n since members w → P j w → Reach w (limit * d) (P n)
  each_from P limit step_ skip zero j is w l p = already w (limit * 0) (P n) (subst (λ (i : ℕ). P i w) (let u : j ≡ n = omega arith in u) p)
  each_from P limit step_ skip (suc d) j is w l p =
      let rest = each_from P limit step_ skip d (suc j) (omega arith) in
      weaker w (limit + limit * d) (limit * suc d) (P n) (P n) (omega arith) (λ w' z. z)
      (cond_both (members j) true false (λ (b : Bool). Reach w (limit + limit * d) (P n))
      (λ t. then w limit (limit * d) (P (suc j)) (P n) l (step_ j (omega arith) t w l p) (λ w' l' p'. rest w' l' p'))
      (λ f. weaker w (limit * d) (limit + limit * d) (P n) (P n) (omega arith) (λ w' z. z) (rest w l (skip j f w p))))

  pub each : (P : ℕ → World C → Type 0) (limit : ℕ) → ((j : ℕ) → j < n → members j ≡ true → (w : World C) → Live n since members w → P j w → Reach w limit (P (suc j))) → ((j : ℕ) → members j ≡ false → (w : World C) → P j w → P (suc j) w) → (w : World C) → Live n since members w → P 0 w → Reach w (limit * n) (P n)
  each P limit step_ skip w l p = each_from P limit step_ skip n 0 (omega arith) w l p
