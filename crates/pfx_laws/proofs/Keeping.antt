-- Nothing that a member has as learned is lost, over stops and starts.
use Rattle.std.proofs.Common.{◌≡◌, ◌∙◌, sym, ap, ℕ, nat_eq, List, [], ◌∷◌, Option, Some, None, inl, inr}
use Rattle.std.specs.Prelude.{IfSome}
use Rattle.std.proofs.lemmas.Bool.{cond-false}
use Rattle.std.proofs.lemmas.Bool.Decides.{eqb_tells}
use Rattle.px_model.proofs.Rising.{steps_rise}
use Rattle.px_model.specs.Node.{Record, Input, Entry, Plan, Change}
use Rattle.px_model.specs.Node.Change.{NewRound, NewNumber, NewFloor, NewPromise, NewAccepted, NewLearned}
use Rattle.px_model.specs.Node.Answer.{Planned}
use Rattle.px_model.specs.Rising.{Rises}
use Rattle.px_model.specs.Spelling.{Bytes}
use Rattle.px_model.specs.Step.{commit}
use Rattle.px_model.specs.World.{NodeState, started}
use Rattle.px_wire.specs.Message.{Group}
use Rattle.px_replica.specs.Traces.{TraceEvent, Traced, stopped}
use Rattle.px_replica.specs.Traces.TraceEvent.{Calls, Stops, Opens}
use Rattle.px_replica.specs.Made.{same, answer, LeavesOne}
use Rattle.node_loop.specs.Moves.{LeavesThere}
use Rattle.pfx_laws.specs.Carried.{HasLearned}
use Rattle.pfx_laws.specs.Members.{RunEvent, Run, AreRuns, EverLearned, final_state_from}

-- the record has the entry as learned
abbrev Has : Record Bytes → (position : ℕ) → Entry Bytes → Type 0
Has d p e = d.learned p ≡ Some e

change_keeps : (d : Record Bytes) (c : Option (Change Bytes)) (p : ℕ) (e : Entry Bytes) → IfSome c (λ x. Rises d x) → Has d p e → Has (commit c d) p e
change_keeps d None p e r h = h
change_keeps d (Some (NewRound n)) p e r h = h
change_keeps d (Some (NewNumber n)) p e r h = h
change_keeps d (Some (NewFloor b)) p e r h = h
change_keeps d (Some (NewPromise q b)) p e r h = h
change_keeps d (Some (NewAccepted q b f)) p e r h = h
change_keeps d (Some (NewLearned q f)) p e r h = elim (eqb_tells p q) [
  | inl is ↦ absurd (let none : None ≡ Some e = sym r ∙ ap d.learned (sym is.1) ∙ h in cc)
  | inr other ↦ cond-false (nat_eq p q) (Some f) (d.learned p) other.0 ∙ h
]

plan_keeps : (n me : ℕ) (s : NodeState Bytes) (x : Input Bytes) (plan : Plan Bytes) (p : ℕ) (e : Entry Bytes) →
    answer n me s x ≡ Planned plan → Has s.stored p e → Has (commit plan.change s.stored) p e
plan_keeps n me s x plan p e is h = change_keeps s.stored plan.change p e (steps_rise same n me s x plan is) h

stop_keeps : (n me : ℕ) (s : NodeState Bytes) (x : Input Bytes) (left : Record Bytes) (p : ℕ) (e : Entry Bytes) → LeavesOne n me s x left →
    Has s.stored p e → Has left p e
stop_keeps n me s x left p e (inl same) h = ap (λ (d : Record Bytes). d.learned p) same ∙ h
stop_keeps n me s x left p e (inr (plan, is, change)) h = ap (λ (d : Record Bytes). d.learned p) change ∙ plan_keeps n me s x plan p e is h

pub traced_keeps : (g : Group) (me : ℕ) (s t : NodeState Bytes) (ds : List TraceEvent) (p : ℕ) (e : Entry Bytes) → Traced g me s ds t →
    HasLearned s p e → HasLearned t p e
traced_keeps g me s t [] p e l h = ap (λ (u : NodeState Bytes). u.stored.learned p) l ∙ h
traced_keeps g me s t (Calls x u out ∷ ds) p e l h =
    let made = l.2 in
    traced_keeps g me u t ds p e l.3
    (ap (λ (v : NodeState Bytes). v.stored.learned p) made.follows ∙ plan_keeps g.members me s x made.plan p e made.steps h)
traced_keeps g me s t (Stops x left ∷ ds) p e l h =
    traced_keeps g me (stopped left) t ds p e l.3 (stop_keeps g.members me s x left p e l.2 h)
traced_keeps g me s t (Opens ∷ ds) p e l h = traced_keeps g me (started s.stored) t ds p e l h

-- ---- run after run

-- a run keeps what its record has
abbrev pub KeepsLearned : {K X : Type 0} → (Is : Run K → List X → Type 0) → Type 0
KeepsLearned {K} {X} Is = (r : Run K) (own : List X) (p : ℕ) (e : Entry Bytes) → Is r own → Has r.first p e → HasLearned r.end p e

module _ {K X : Type 0} (g : Group) (m : ℕ) (Is : Run K → List X → Type 0) (keeps : KeepsLearned Is) (p : ℕ) (e : Entry Bytes) where
  then_learned : (IsLeft : Record Bytes → Type 0) (s : NodeState Bytes) (rs : List (Run K)) (events : List (RunEvent K X)) →
      ((d : Record Bytes) → IsLeft d → Has d p e) → AreRuns g m Is IsLeft rs events → HasLearned s p e → HasLearned (final_state_from s rs) p e
  then_learned IsLeft s [] events kept are h = h
  then_learned IsLeft s (r ∷ rs) events kept (left, own, later, is, all, more) h =
      let end = keeps r own p e is (kept r.first left) in
      then_learned (LeavesThere g m r.unanswered r.end) r.end rs later
      (λ d l. stop_keeps g.members m r.end l.0 d p e l.3 end) more end

  -- what it had as learned in the end of a run it has in the end of the last
  pub ever_learned : (IsLeft : Record Bytes → Type 0) (s : NodeState Bytes) (rs : List (Run K)) (events : List (RunEvent K X)) →
      AreRuns g m Is IsLeft rs events → EverLearned rs p e → HasLearned (final_state_from s rs) p e
  ever_learned IsLeft s [] events are (r, among, h) = absurd among
  ever_learned IsLeft s (r ∷ rs) events (left, own, later, is, all, more) (t, inl same, h) =
      let end : HasLearned r.end p e = ap (λ (x : Run K). x.end.stored.learned p) same ∙ h in
      then_learned (LeavesThere g m r.unanswered r.end) r.end rs later
      (λ d l. stop_keeps g.members m r.end l.0 d p e l.3 end) more end
  ever_learned IsLeft s (r ∷ rs) events (left, own, later, is, all, more) (t, inr among, h) =
      ever_learned (LeavesThere g m r.unanswered r.end) r.end rs later more (t, among, h)
