-- What a run of the world is worth to its nodes.
use Rattle.std.proofs.Common.{◌≡◌, ◌∙◌, sym, ap, subst, refl, ℕ, ◌≤◌, true, ◌&&◌, ltb, List, [], ◌∷◌, ◌++◌, Option, Some, None}
use Rattle.std.proofs.lemmas.Bool.{cond_both}
use Rattle.px_model.specs.Node.{Entry, Log, Input, Answer, IsEquality}
use Rattle.px_model.specs.Node.Answer.{Refused, Planned}
use Rattle.px_model.specs.World.{World, NodeState, Event, Learning, start, run, happens, comes_to, at_member, goes_on, stops_after, emptied, step_in, learned_by}
use Rattle.px_model.specs.World.Event.{Runs, StopBefore, StopAfter, Restart}
use Rattle.px_model.specs.Law as law
use Rattle.px_model.specs.Law.{Among, NoneTwice, learned_of, world_after}
use Rattle.px_model.specs.Spelling.{Bytes}
use Rattle.px_model.proofs.Basics.{among_right}
use Rattle.px_model.proofs.Reading.{bytes_equality}
use Rattle.px_model.proofs.Runs.{always_agree, always_once, always_kept}
use Rattle.px_model.proofs.States.{always_same_state}
use Rattle.px_records.specs.declared.records.Records.{Ghosts}
use Rattle.px_replica.specs.Made.{same}
use Rattle.pf_config.specs.Map.{Configuration}
use Rattle.pf_command.specs.Effect.{empty}
use Rattle.pf_eval.specs.Verdicts.{judgement}
use Rattle.pf_node.specs.Applied.{entry_applied, after}
use Rattle.pf_node.specs.Nodes.{applied_of, config_of}
use Rattle.pf_node.specs.declared.state.Node.{Node}
use Rattle.pfx_laws.specs.Clusters as clusters
use Rattle.pfx_laws.specs.Clusters.{Cluster}
use Rattle.pfx_laws.specs.Promised.{HistoriesAreRuns, NodesAgree, LearnWhatWasAsked, NeverDiffer, EquallyApplied, IsNode, HasLearned}
use Rattle.pfx_laws.proofs.Following.{from_start, in_turn}

same_exact : IsEquality same
same_exact = bytes_equality

pub are_runs : HistoriesAreRuns
are_runs g group history may = from_start g group history may

pub agree : NodesAgree
agree g group history may =
    let r = from_start g group history may in
    let n = g.members in
    (r, always_agree same same_exact n group.few r.events, always_once same same_exact n group.few r.events, always_kept same same_exact n group.few r.events)

pub learn_what_was_asked : LearnWhatWasAsked
learn_what_was_asked g group history may =
    let r = from_start g group history may in
    let n = g.members in
    let agree = always_agree same same_exact n group.few r.events in
    let kept = always_kept same same_exact n group.few r.events in
    let once = always_once same same_exact n group.few r.events in (
      λ m p e has. subst (λ (z : List (Entry Bytes)). Among z e) r.world.asked
          (agree.was_asked m p e (kept.was_learned m p e (ap (λ (f : ℕ → NodeState Bytes). (f m).stored.learned p) r.world.nodes ∙ has))),
      subst NoneTwice r.world.asked once.asked_once,
      λ e f one two. once.one_name e f (subst (λ (z : List (Entry Bytes)). Among z e) (sym r.world.asked) one)
          (subst (λ (z : List (Entry Bytes)). Among z f) (sym r.world.asked) two),
    )

-- ---- what was learned stays learned

module _ (n : ℕ) (x : Learning Bytes) where
  goes_on_learned : (w : World Bytes) (m : ℕ) (input : Input Bytes) (a : Answer Bytes) → Among w.learned x → Among (goes_on w m input a).learned x
  goes_on_learned w m input (Refused code) s = s
  goes_on_learned w m input (Planned plan) s = among_right (learned_by m plan.change) w.learned x s

  stops_after_learned : (w : World Bytes) (m : ℕ) (input : Input Bytes) (a : Answer Bytes) → Among w.learned x → Among (stops_after w m input a).learned x
  stops_after_learned w m input (Refused code) s = s
  stops_after_learned w m input (Planned plan) s = among_right (learned_by m plan.change) w.learned x s

  at_member_learned : (w : World Bytes) (o : Option (ℕ × Input Bytes)) (does : ℕ → Input Bytes → World Bytes) →
      ((m : ℕ) (input : Input Bytes) → Among (does m input).learned x) → Among w.learned x → Among (at_member n w o does).learned x
  at_member_learned w None does each s = s
  at_member_learned w (Some t) does each s =
      cond_both (ltb t.0 n && (w.nodes t.0).is_up) (does t.0 t.1) w (λ (z : World Bytes). Among z.learned x) (λ both. each t.0 t.1) (λ f. s)

  happens_learned : (w : World Bytes) (e : Event Bytes) → Among w.learned x → Among (happens same n w e).learned x
  unfolding happens
  happens_learned w (Runs a) s = at_member_learned w (comes_to w a) _ (λ m input. goes_on_learned w m input (step_in same n w m input) s) s
  happens_learned w (StopBefore a) s = at_member_learned w (comes_to w a) _ (λ m input. s) s
  happens_learned w (StopAfter a) s = at_member_learned w (comes_to w a) _ (λ m input. stops_after_learned w m input (step_in same n w m input) s) s
  happens_learned w (Restart m) s = cond_both (ltb m n) (emptied w m true) w (λ (z : World Bytes). Among z.learned x) (λ t. s) (λ f. s)

  run_learned : (es : List (Event Bytes)) (w : World Bytes) → Among w.learned x → Among (run same n es w).learned x
  run_learned [] w s = s
  run_learned (e ∷ es) w s = run_learned es (happens same n w e) (happens_learned w e s)

run_append : (n : ℕ) (xs ys : List (Event Bytes)) (w : World Bytes) → run same n (xs ++ ys) w ≡ run same n ys (run same n xs w)
run_append n [] ys w = refl
run_append n (e ∷ xs) ys w = run_append n xs ys (happens same n w e)

-- what a member has as learned it learned in the world
learned_in : (n : ℕ) → n ≤ 15 → (events : List (Event Bytes)) (c : Cluster) → (run same n events start).nodes ≡ c.nodes →
    (m p : ℕ) (e : Entry Bytes) → HasLearned c m p e → law.HasLearned (run same n events start) m p e
learned_in n few events c is m p e has =
    (always_kept same same_exact n few events).was_learned m p e
    (ap (λ (f : ℕ → NodeState Bytes). (f m).stored.learned p) is ∙ has)

pub never_differ : NeverDiffer
never_differ g group before more may i j p q e f mine theirs =
    let n = g.members in
    let l = in_turn g group before more may in
    let late = run same n (l.before ++ l.more) start in
    let early = learned_in n group.few l.before (clusters.after before clusters.begun) l.early.nodes i p e mine in
    let first : law.HasLearned late i p e =
    subst (λ (w : World Bytes). law.HasLearned w i p e) (sym (run_append n l.before l.more start))
    (run_learned n _ l.more (run same n l.before start) early) in
    let second = learned_in n group.few (l.before ++ l.more) (clusters.after (before ++ more) clusters.begun) l.late.nodes j q f theirs in (
      (λ at. (always_agree same same_exact n group.few (l.before ++ l.more)).one_learned q e f i j
          (subst (λ (k : ℕ). law.HasLearned late i k e) at first) second),
      (λ is. (always_once same same_exact n group.few (l.before ++ l.more)).one_position f i p j q
          (subst (λ (z : Entry Bytes). law.HasLearned late i p z) is first) second),
    )

-- ---- configurations

-- a node's configuration is that of what it learned in the world
configured : {R : Type 0} {G : Ghosts R} (x : Node R G) (c : Cluster) (w : World Bytes) (m : ℕ) → w.nodes ≡ c.nodes →
    IsNode x c m → after (learned_of w m) (applied_of x) ≡ Some (config_of x)
configured x c w m is node =
    ap (λ (f : ℕ → NodeState Bytes). after (f m).stored.learned (applied_of x)) is
    ∙ ap (λ (z : NodeState Bytes). after z.stored.learned (applied_of x)) node.state
    ∙ ap (λ (l : Log Bytes). after l (applied_of x)) (x.replica.agrees node.works node.honest)
    ∙ x.configured

pub equally_applied : {R Q : Type 0} (G : Ghosts R) (H : Ghosts Q) → EquallyApplied G H
equally_applied G H g group before more may i j x y mine theirs equal =
    let n = g.members in
    let l = in_turn g group before more may in
    let early = run same n l.before start in
    let late = run same n (l.before ++ l.more) start in
    let a = configured x (clusters.after before clusters.begun) early i l.early.nodes mine in
    let b = configured y (clusters.after (before ++ more) clusters.begun) late j l.late.nodes theirs in
    let is : config_of x ≡ config_of y =
    always_same_state same same_exact n group.few l.before l.more entry_applied empty (applied_of x) i j (config_of x) (config_of y) a
    (subst (λ (k : ℕ). after (learned_of late j) k ≡ Some (config_of y)) (sym equal) b) in
    (is, λ p. ap (λ (c : Configuration). judgement c p) is)
