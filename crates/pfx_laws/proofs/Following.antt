-- The events of nodes are events of the world.
use Rattle.std.proofs.Common.{◌≡◌, ◌∙◌, sym, ap, subst, refl, ℕ, ◌+◌, ◌<◌, ◌≤◌, true, false, ◌&&◌, nat_lt, nat_eq, List, [], ◌∷◌, ◌++◌, Option, Some, None, lt-ltb, arith, inl, inr}
use Rattle.std.specs.Prelude.{IfSome}
use Rattle.std.proofs.lemmas.Bool.{and_from, cond-true, cond-false, false_from_ne_true, eqb-true, eq-eqb}
use Rattle.std.proofs.lemmas.List.{append-nil}
use Rattle.px_model.specs.Node as node
use Rattle.px_model.specs.Node.{Envelope, Entry, Input, Answer, Plan, Record, Change, client}
use Rattle.px_model.specs.Node.Change.{NewRound, NewNumber, NewFloor, NewPromise, NewAccepted, NewLearned}
use Rattle.px_model.specs.Node.Answer.{Refused, Planned}
use Rattle.px_model.specs.Node.Input.{Asks, Ticks, Comes}
use Rattle.px_model.specs.Node.Message.{Prepare, Promise, PrepareAll, PromiseAll, Accept, Vote, Nack, Need, Learned, Ask, Asked, AskRefused}
use Rattle.px_model.specs.Step.{put, commit}
use Rattle.px_model.specs.World as world
use Rattle.px_model.specs.World.{World, NodeState, Action, Event, comes_to, at_member, goes_on, step_in, step_of, happens, run, to_members, emptied, stops_after, follows, started, start, command_of, asked_by}
use Rattle.px_model.specs.Rising.{Rises}
use Rattle.px_model.proofs.Rising.{steps_rise}
use Rattle.px_model.specs.World.Event.{Runs, StopBefore, StopAfter, Restart}
use Rattle.px_model.specs.Spelling.{Bytes}
use Rattle.px_wire.specs.Message.{Group, DatagramBytes}
use Rattle.px_wire.specs.Members.{as_sent, Passing}
use Rattle.px_replica.specs.Made.{same, answer}
use Rattle.px_replica.specs.Spelled.{AreSpelled}
use Rattle.px_replica.specs.declared.datagram.Datagram.{Datagram}
use Rattle.px_replica.specs.Traces.{stopped}
use Rattle.px_replica.specs.Spelled.{for_members}
use Rattle.px_replica.proofs.Messages.{are_append, are_members, comes_spelled, one_message}
use Rattle.pfx_laws.specs.Clusters as clusters
use Rattle.pfx_laws.specs.Clusters.{Cluster, ClusterEvent, begun, asked_of, WasSent, MayCome, MayHappen, next, after, MayAllHappen}
use Rattle.pfx_laws.specs.Clusters.ClusterEvent.{Calls, Stops, Opens}
use Rattle.pfx_laws.specs.Promised.{IsWorld, IsGroup, IsRun}

-- ---- what arrives at a member is an action of the world

record IsAction (w : World Bytes) (m : ℕ) (x : Input Bytes) : Type 0 where
  action : Action Bytes
  comes : comes_to w action ≡ Some (m, x)

no_client : (n : ℕ) → n ≤ 15 → client < n → ⊥
no_client n few below = omega (arith, few, below)

-- a sender that is no member only asks
asked_from : (g : Group) (w : World Bytes) (m : ℕ) (message : node.Message Bytes) → g.members ≤ 15 →
    Passing g.members client m message → IsAction w m (Comes client message)
asked_from g w m (Ask token c) few p = record { action = world.Action.AskFrom m token c; comes = refl }
asked_from g w m (Prepare b q) few p = absurd (no_client g.members few p.between.0)
asked_from g w m (Promise b q a) few p = absurd (no_client g.members few p.between.0)
asked_from g w m (PrepareAll b q) few p = absurd (no_client g.members few p.between.0)
asked_from g w m (PromiseAll b q t a) few p = absurd (no_client g.members few p.between.0)
asked_from g w m (Accept b q e) few p = absurd (no_client g.members few p.between.0)
asked_from g w m (Vote b q e) few p = absurd (no_client g.members few p.between.0)
asked_from g w m (Nack b q r) few p = absurd (no_client g.members few p.between.0)
asked_from g w m (Need q) few p = absurd (no_client g.members few p.between.0)
asked_from g w m (Learned q e) few p = absurd (no_client g.members few p.between.0)
asked_from g w m (Asked t k) few p = absurd (no_client g.members few p.between.0)
asked_from g w m (AskRefused t k) few p = absurd (no_client g.members few p.between.0)

sent_to : (g : Group) (w : World Bytes) (sent : List Datagram) (m sender : ℕ) (message : node.Message Bytes) →
    AreSpelled g w.sent sent → Passing g.members sender m message → WasSent g sent m sender message →
    IsAction w m (Comes sender message)
sent_to g w sent m sender message spelled_so passes was =
    let d = comes_spelled g w sent was.place was.datagram spelled_so was.there in
    let passes' : Passing g.members d.sender m d.message =
    subst (λ (to : ℕ). Passing g.members d.sender to d.message) was.to_it d.passes in
    let bytes' = subst (λ (to : ℕ). DatagramBytes g d.sender to (as_sent d.message) was.datagram.bytes.items) was.to_it d.bytes in
    let one = one_message g m d.sender sender d.message message was.datagram.bytes.items passes' passes bytes' was.spelled in
    record {
      action = world.Action.Deliver was.place;
      comes = d.comes ∙ ap (λ (to : ℕ). Some (to, Comes d.sender d.message)) was.to_it ∙ ap (λ (x : Input Bytes). Some (m, x)) one;
    }

comes_in : (g : Group) (w : World Bytes) (sent : List Datagram) (m : ℕ) (x : Input Bytes) → g.members ≤ 15 →
    AreSpelled g w.sent sent → MayCome g sent m x → IsAction w m x
comes_in g w sent m (Asks c) few spelled_so may = record { action = world.Action.Ask m c; comes = refl }
comes_in g w sent m Ticks few spelled_so may = record { action = world.Action.Tick m; comes = refl }
comes_in g w sent m (Comes sender message) few spelled_so may = elim may.1 [
  | inl was ↦ sent_to g w sent m sender message spelled_so may.0 was
  | inr is ↦ subst (λ (k : ℕ). IsAction w m (Comes k message)) (sym is)
      (asked_from g w m message few (subst (λ (k : ℕ). Passing g.members k m message) is may.0))
]

-- ---- what is asked

-- no command was accepted where the record's number stays
none_asked : (m : ℕ) (d e : Record Bytes) (command : Option Bytes) → e.meta.number ≡ d.meta.number → asked_of m d e command ≡ []
none_asked m d e None same = refl
none_asked m d e (Some c) same = cond-true (nat_eq e.meta.number d.meta.number) [] _ (eq-eqb e.meta.number d.meta.number same)

-- the command was accepted where the record's number goes up
one_asked : (m k : ℕ) (d : Record Bytes) (command : Option Bytes) → k ≡ d.meta.number + 1 →
    asked_of m d (commit (Some (NewNumber k)) d) command ≡ asked_by m d.meta command (Some (NewNumber k))
one_asked m k d None next = refl
one_asked m k d (Some c) next =
    cond-false (nat_eq k d.meta.number) [] _
    (false_from_ne_true (nat_eq k d.meta.number) (λ e. let same = eqb-true k d.meta.number e in omega (arith, next, same)))

-- what a step adds to what was ever asked is read off the record before and after
asked_same : (m : ℕ) (d : Record Bytes) (change : Option (Change Bytes)) (command : Option Bytes) →
    IfSome change (λ x. Rises d x) → asked_of m d (commit change d) command ≡ asked_by m d.meta command change
asked_same m d None None rises = refl
asked_same m d None (Some c) rises = none_asked m d d (Some c) refl
asked_same m d (Some (NewRound r)) None rises = refl
asked_same m d (Some (NewRound r)) (Some c) rises = none_asked m d (commit (Some (NewRound r)) d) (Some c) refl
asked_same m d (Some (NewNumber k)) command rises = one_asked m k d command rises
asked_same m d (Some (NewFloor b)) None rises = refl
asked_same m d (Some (NewFloor b)) (Some c) rises = none_asked m d (commit (Some (NewFloor b)) d) (Some c) refl
asked_same m d (Some (NewPromise p b)) None rises = refl
asked_same m d (Some (NewPromise p b)) (Some c) rises = none_asked m d (commit (Some (NewPromise p b)) d) (Some c) refl
asked_same m d (Some (NewAccepted p b e)) None rises = refl
asked_same m d (Some (NewAccepted p b e)) (Some c) rises = none_asked m d (commit (Some (NewAccepted p b e)) d) (Some c) refl
asked_same m d (Some (NewLearned p e)) None rises = refl
asked_same m d (Some (NewLearned p e)) (Some c) rises = none_asked m d (commit (Some (NewLearned p e)) d) (Some c) refl

-- ---- one thing that happens

pub record Follows (g : Group) (c : Cluster) (w : World Bytes) : Type 0 where
  pub events : List (Event Bytes)
  pub world : IsWorld g c (run same g.members events w)

tested : (g : Group) (c : Cluster) (w : World Bytes) (m : ℕ) → w.nodes ≡ c.nodes → clusters.Runs g c m →
    (nat_lt m g.members && (w.nodes m).is_up) ≡ true
tested g c w m here runs =
    and_from (nat_lt m g.members) (w.nodes m).is_up (lt-ltb m g.members runs.below)
    (ap (λ (f : ℕ → NodeState Bytes). (f m).is_up) here ∙ runs.is_up)

-- an action that arrives at a member that runs
acts : (n m : ℕ) (w : World Bytes) (a : Action Bytes) (x : Input Bytes) (F : ℕ → Input Bytes → World Bytes) →
    comes_to w a ≡ Some (m, x) → (nat_lt m n && (w.nodes m).is_up) ≡ true → at_member n w (comes_to w a) F ≡ F m x
acts n m w a x F come up = ap (λ (t : Option (ℕ × Input Bytes)). at_member n w t F) come ∙ cond-true _ (F m x) w up

answered : (n m : ℕ) (w : World Bytes) (s : NodeState Bytes) (x : Input Bytes) (plan : Plan Bytes) → w.nodes m ≡ s →
    answer n m s x ≡ Planned plan → step_in same n w m x ≡ Planned plan
answered n m w s x plan here is = ap (λ (z : NodeState Bytes). step_of same n m z x) here ∙ is

-- the call made a step
called : (g : Group) (c : Cluster) (w : World Bytes) (m : ℕ) (x : Input Bytes) (t : NodeState Bytes) (out : List Datagram) →
    g.members ≤ 15 → IsWorld g c w → MayHappen g c (Calls m x t out) → Follows g (next c (Calls m x t out)) w
unfolding happens
called g c w m x t out few is may =
    let n = g.members in
    let makes = may.1.1 in
    let plan = makes.plan in
    let come = comes_in g w c.sent m x few is.sent may.1.0 in
    let here : w.nodes m ≡ c.nodes m = ap (λ (f : ℕ → NodeState Bytes). f m) is.nodes in
    let e : happens same n w (Runs come.action) ≡ goes_on w m x (Planned plan) =
    acts n m w come.action x (λ k y. goes_on w k y (step_in same n w k y)) come.comes (tested g c w m is.nodes may.0)
    ∙ ap (goes_on w m x) (answered n m w (c.nodes m) x plan here makes.steps) in
    let state : follows (w.nodes m) plan ≡ t = ap (λ (z : NodeState Bytes). follows z plan) here ∙ sym makes.follows in
    let d = (c.nodes m).stored in
    let asks = asked_same m d plan.change (command_of x) (steps_rise same n m (c.nodes m) x plan makes.steps) in
    record {
      events = Runs come.action ∷ [];
      world = subst (λ (z : World Bytes). IsWorld g (next c (Calls m x t out)) z) (sym e) (record {
        nodes = ap (λ (f : ℕ → NodeState Bytes). put f m (follows (w.nodes m) plan)) is.nodes ∙ ap (put c.nodes m) state;
        sent = are_append g w.sent (to_members plan.sends) c.sent (for_members out) is.sent
            (are_members g plan.sends out (subst (λ (z : List Datagram). AreSpelled g plan.sends z) (sym makes.handed) makes.spelled));
        asked = ap (λ (z : NodeState Bytes). asked_by m z.stored.meta (command_of x) plan.change ++ w.asked) here
            ∙ ap (λ (z : List (Entry Bytes)). z ++ w.asked) (sym asks)
            ∙ ap (λ (z : NodeState Bytes). asked_of m d z.stored (command_of x) ++ w.asked) (sym makes.follows)
            ∙ ap (λ (z : List (Entry Bytes)). asked_of m d t.stored (command_of x) ++ z) is.asked;
      });
    }

put_down : (c : Cluster) (w : World Bytes) (m : ℕ) (d left : Record Bytes) → w.nodes ≡ c.nodes → d ≡ left →
    put w.nodes m (stopped d) ≡ put c.nodes m (stopped left)
put_down c w m d left here is =
    ap (λ (f : ℕ → NodeState Bytes). put f m (stopped d)) here ∙ ap (λ (z : Record Bytes). put c.nodes m (stopped z)) is

-- the call was cut short
cut_short : (g : Group) (c : Cluster) (w : World Bytes) (m : ℕ) (x : Input Bytes) (left : Record Bytes) →
    g.members ≤ 15 → IsWorld g c w → MayHappen g c (Stops m x left) → Follows g (next c (Stops m x left)) w
unfolding happens
cut_short g c w m x left few is may =
    let n = g.members in
    let come = comes_in g w c.sent m x few is.sent may.1.0 in
    let here : w.nodes m ≡ c.nodes m = ap (λ (f : ℕ → NodeState Bytes). f m) is.nodes in
    let stored : (w.nodes m).stored ≡ (c.nodes m).stored = ap (λ (z : NodeState Bytes). z.stored) here in
    let sent = subst (λ (z : List (Envelope Bytes)). AreSpelled g z c.sent) (sym (append-nil w.sent)) is.sent in
    let up = tested g c w m is.nodes may.0 in
    elim may.1.1 [
      | inl was ↦ (
          let e : happens same n w (StopBefore come.action) ≡ emptied w m false =
          acts n m w come.action x (λ k y. emptied w k false) come.comes up in
          record {
            events = StopBefore come.action ∷ [];
            world = subst (λ (z : World Bytes). IsWorld g (next c (Stops m x left)) z) (sym e) (record {
              nodes = put_down c w m (w.nodes m).stored left is.nodes (stored ∙ sym was);
              sent = sent;
              asked = is.asked ∙ ap (λ (z : List (Entry Bytes)). z ++ c.asked) (sym (none_asked m (c.nodes m).stored left (command_of x)
                  (ap (λ (z : Record Bytes). z.meta.number) was)));
            });
          })
      | inr done ↦ (
          let plan = done.0 in
          let e : happens same n w (StopAfter come.action) ≡ stops_after w m x (Planned plan) =
          acts n m w come.action x (λ k y. stops_after w k y (step_in same n w k y)) come.comes up
          ∙ ap (stops_after w m x) (answered n m w (c.nodes m) x plan here done.1) in
          record {
            events = StopAfter come.action ∷ [];
            world = subst (λ (z : World Bytes). IsWorld g (next c (Stops m x left)) z) (sym e) (record {
              nodes = put_down c w m (commit plan.change (w.nodes m).stored) left is.nodes
                  (ap (commit plan.change) stored ∙ sym done.2);
              sent = sent;
              asked = ap (λ (z : Record Bytes). asked_by m z.meta (command_of x) plan.change ++ w.asked) stored
                  ∙ ap (λ (z : List (Entry Bytes)). z ++ w.asked) (sym (asked_same m (c.nodes m).stored plan.change (command_of x)
                  (steps_rise same n m (c.nodes m) x plan done.1)))
                  ∙ ap (λ (z : Record Bytes). asked_of m (c.nodes m).stored z (command_of x) ++ w.asked) (sym done.2)
                  ∙ ap (λ (z : List (Entry Bytes)). asked_of m (c.nodes m).stored left (command_of x) ++ z) is.asked;
            });
          })
    ]

-- a record is opened
opened : (g : Group) (c : Cluster) (w : World Bytes) (m : ℕ) → IsWorld g c w → m < g.members → Follows g (next c (Opens m)) w
unfolding happens
opened g c w m is below =
    let e : happens same g.members w (Restart m) ≡ emptied w m true = cond-true _ (emptied w m true) w (lt-ltb m g.members below) in
    record {
      events = Restart m ∷ [];
      world = subst (λ (z : World Bytes). IsWorld g (next c (Opens m)) z) (sym e) (record {
        nodes = ap (λ (f : ℕ → NodeState Bytes). put f m (started (f m).stored)) is.nodes;
        sent = subst (λ (z : List (Envelope Bytes)). AreSpelled g z c.sent) (sym (append-nil w.sent)) is.sent;
        asked = is.asked;
      });
    }

one : (g : Group) (c : Cluster) (w : World Bytes) (h : ClusterEvent) → g.members ≤ 15 → IsWorld g c w → MayHappen g c h →
    Follows g (next c h) w
one g c w (Calls m x t out) few is may = called g c w m x t out few is may
one g c w (Stops m x left) few is may = cut_short g c w m x left few is may
one g c w (Opens m) few is may = opened g c w m is may

-- ---- all that happens

run_append : (n : ℕ) (xs ys : List (Event Bytes)) (w : World Bytes) → run same n (xs ++ ys) w ≡ run same n ys (run same n xs w)
run_append n [] ys w = refl
run_append n (e ∷ xs) ys w = run_append n xs ys (happens same n w e)

pub all : (g : Group) (hs : List ClusterEvent) (c : Cluster) (w : World Bytes) → g.members ≤ 15 → IsWorld g c w →
    MayAllHappen g hs c → Follows g (after hs c) w
all g [] c w few is may = record { events = []; world = is }
all g (h ∷ hs) c w few is may =
    let f = one g c w h few is may.0 in
    let rest = all g hs (next c h) (run same g.members f.events w) few f.world may.1 in
    record {
      events = f.events ++ rest.events;
      world = subst (λ (z : World Bytes). IsWorld g (after hs (next c h)) z) (sym (run_append g.members f.events rest.events w)) rest.world;
    }

pub from_start : (g : Group) → IsGroup g → (hs : List ClusterEvent) → MayAllHappen g hs begun → IsRun g (after hs begun)
from_start g group hs may =
    let f = all g hs begun start group.few (record { nodes = refl; sent = tt; asked = refl }) may in
    record { events = f.events; world = f.world }

-- what happens later happens in the world later
pub record Later (g : Group) (c d : Cluster) : Type 0 where
  pub before : List (Event Bytes)
  pub more : List (Event Bytes)
  pub early : IsWorld g c (run same g.members before start)
  pub late : IsWorld g d (run same g.members (before ++ more) start)

pub split : (g : Group) (hs more : List ClusterEvent) (c : Cluster) → MayAllHappen g (hs ++ more) c →
    MayAllHappen g hs c × MayAllHappen g more (after hs c)
split g [] more c may = (tt, may)
split g (h ∷ hs) more c may = let s = split g hs more (next c h) may.1 in ((may.0, s.0), s.1)

pub after_both : (hs more : List ClusterEvent) (c : Cluster) → after (hs ++ more) c ≡ after more (after hs c)
after_both [] more c = refl
after_both (h ∷ hs) more c = after_both hs more (next c h)

pub in_turn : (g : Group) → IsGroup g → (hs more : List ClusterEvent) → MayAllHappen g (hs ++ more) begun →
    Later g (after hs begun) (after (hs ++ more) begun)
in_turn g group hs more may =
    let parts = split g hs more begun may in
    let f = all g hs begun start group.few (record { nodes = refl; sent = tt; asked = refl }) parts.0 in
    let s = all g more (after hs begun) (run same g.members f.events start) group.few f.world parts.1 in
    record {
      before = f.events;
      more = s.events;
      early = f.world;
      late = subst (λ (d : Cluster). IsWorld g d (run same g.members (f.events ++ s.events) start)) (sym (after_both hs more begun))
          (subst (λ (z : World Bytes). IsWorld g (after more (after hs begun)) z) (sym (run_append g.members f.events s.events start)) s.world);
    }
