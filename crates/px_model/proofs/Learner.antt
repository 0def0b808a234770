-- The learner's cases keep the invariant.
use Rattle.std.proofs.Common.{◌≡◌, ℕ, ◌<◌, max, Bool, true, false, cond, ◌&&◌, inl, inr, List, [], ◌∷◌, Option, Some, None, is_none, arith, refl, sym, ap, subst, subst₂, ◌∙◌, eqb, ltb, eqb-true, eq-eqb}
use Rattle.std.proofs.lemmas.Bool.{cond_both, cases_lt, and_parts, and_from}
use Rattle.px_model.specs.Node.{IsEquality, same_entry, Entry, Attempt, Volatile, Envelope, Input, Plan}
use Rattle.px_model.specs.Node.Change.{NewLearned}
use Rattle.px_model.specs.Node.Message.{Accept, Vote, Need, Learned}
use Rattle.px_model.specs.Step.{IsMajority, is_majority, put, commit, front, in_window, without, not_below, on_learning, learn, keep, with_vote, on_vote, on_learned, need_of, on_need}
use Rattle.px_model.specs.World.{World, NodeState, moved}
use Rattle.px_model.specs.Law.{Among, Votes, Chosen}
use Rattle.px_model.proofs.Basics.{majority_from, put_same, put_all}
use Rattle.px_model.proofs.Backed.{Acceptance, record_of}
use Rattle.px_model.proofs.Invariant.{AttemptOk, KeptOk, VolatileOk, Inv}
use Rattle.px_model.proofs.Later.{chosen_later, attempt_later, lead_later, kept_later}
use Rattle.px_model.proofs.Moves.{later_moved}
use Rattle.px_model.proofs.Plans.{PlanOk, idle_ok, says_ok, one_sent, none_sent, sent_back}

pub among_without : {C : Type 0} (same : C → C → Bool) (e : Entry C) (ws : List (Entry C)) (x : Entry C) → Among (without same e ws) x → Among ws x × (same_entry same x e ≡ false)
among_without same e [] x a = absurd a
among_without {C} same e (y ∷ ys) x a =
    cond_both (same_entry same y e) (without same e ys) (y ∷ without same e ys) (λ (zs : List (Entry C)). Among zs x → Among (y ∷ ys) x × (same_entry same x e ≡ false))
    (λ t b. let r = among_without same e ys x b in (inr r.0, r.1))
    (λ f b. elim b [
      | inl is ↦ (inl is, subst (λ (z : Entry C). same_entry same z e ≡ false) is f)
      | inr c ↦ (let r = among_without same e ys x c in (inr r.0, r.1))
    ]) a

pub same_entry_self : {C : Type 0} (same : C → C → Bool) → IsEquality same → (e : Entry C) → same_entry same e e ≡ true
same_entry_self same exact e =
    and_from (eqb e.origin e.origin) (eqb e.number e.number && same e.command e.command)
    (eq-eqb e.origin e.origin refl)
    (and_from (eqb e.number e.number) (same e.command e.command) (eq-eqb e.number e.number refl) ((exact e.command e.command).1 refl))

attempt_not_below : {C : Type 0} (n : ℕ) (w : World C) (h : List (Acceptance C)) (m k : ℕ) (a : Option (Attempt C)) → AttemptOk n w h m a → AttemptOk n w h m (not_below k a)
attempt_not_below n w h m k None g = tt
attempt_not_below {C} n w h m k (Some x) g = cond_both (ltb x.position k) None (Some x) (λ (z : Option (Attempt C)). AttemptOk n w h m z) (λ t. tt) (λ f. g)

none_from_test : {X : Type 0} (o : Option X) → is_none o ≡ true → o ≡ None
none_from_test None t = refl
none_from_test (Some x) t = absurd (cc)

module _ {C : Type 0} (same : C → C → Bool) (exact : IsEquality same) (n : ℕ) (w : World C) (h : List (Acceptance C)) (m : ℕ) (input : Input C) (inv : Inv n w h) where
  pub learn_ok : (v : Volatile C) (p : ℕ) (e : Entry C) → VolatileOk n w h m v → (record_of w m).learned p ≡ None → Chosen n w p e → PlanOk n w h m input (learn same (record_of w m).learned v p e)
  unfolding learn
  learn_ok v p e g open_ chosen =
      let d = record_of w m in
      let k = front (put d.learned p (Some e)) in
      let v' = on_learning same k e v in
      let w' = moved w m input (Some (NewLearned p e)) true v' [] in
      let l = later_moved n w h m input (Some (NewLearned p e)) true v' [] (open_, chosen) in
      let node : NodeState C = record { is_up = true; stored = commit (Some (NewLearned p e)) d; volatile = v' } in
      let back = sent_back n w h m input (Some (NewLearned p e)) true v' [] (Need 0) (none_sent m (Need 0)) refl in
      record {
        change = (open_, chosen);
        message = Need 0;
        all = none_sent m (Need 0);
        new = tt;
        fresh = tt;
        volatile = record {
          waiting = λ x a.
              let r = among_without same e v.waiting x a in
              let o = g.waiting x r.0 in
              record {
                mine = o.mine;
                asked = l.asked x o.asked;
                unlearned = λ q f is.
                    let here : (record_of w' m).learned q ≡ put d.learned p (Some e) q = ap (λ (z : NodeState C). z.stored.learned q) (put_same w.nodes m node) in
                    put_all (λ (j : ℕ) (u : Option (Entry C)). u ≡ Some f → f ≡ x → ⊥) d.learned p (Some e)
                    (λ is2 fx.
                    let ef : e ≡ f = cc in
                    let t : same_entry same x e ≡ true = subst (λ (z : Entry C). same_entry same z e ≡ true) (ef ∙ fx) (same_entry_self same exact e) in
                    let b : true ≡ false = sym t ∙ r.1 in absurd (cc))
                    (λ j ne is2 fx. o.unlearned j f is2 fx)
                    q (sym here ∙ is);
              };
          attempt = attempt_not_below n w' h m k v.attempt (attempt_later n w w' h h l m v.attempt back g.attempt);
          lead = lead_later n w w' h h l m v.lead back g.lead;
          kept = λ q j.
              cond_both (ltb q k) 0 (v.kept q j) (λ (z : ℕ). 0 < z → (f : Entry C) × Votes w' j q z f)
              (λ t over. absurd (omega arith))
              (λ f over. kept_later n w w' h h l v.kept g.kept q j over);
        };
      }

  vote_positive : (k b p : ℕ) (e : Entry C) → Votes w k p b e → 0 < b
  vote_positive k b p e s =
      let a = inv.history k p b e (inv.sent k (Vote b p e) s) in
      let o = (inv.sent a.0 (Accept b p e) a.1).owned in
      let is = o.is_ballot in
      let pos = o.positive in
      omega arith

  vote_same : (k j b p : ℕ) (e f : Entry C) → Votes w k p b e → Votes w j p b f → e ≡ f
  vote_same k j b p e f s t =
      let a = inv.history k p b e (inv.sent k (Vote b p e) s) in
      let c = inv.history j p b f (inv.sent j (Vote b p f) t) in
      inv.unique a.0 c.0 b p e f a.1 c.1

  keep_ok : (kept : (position member : ℕ) → ℕ) (from b p : ℕ) (e : Entry C) → Votes w from p b e → KeptOk n w kept → KeptOk n w (keep kept p from b)
  keep_ok kept from b p e s g q k =
      cond_both (eqb q p) (cond (eqb k from) (max (kept q k) b) (kept q k)) (kept q k) (λ (z : ℕ). 0 < z → (f : Entry C) × Votes w k q z f)
      (λ tq.
      cond_both (eqb k from) (max (kept q k) b) (kept q k) (λ (z : ℕ). 0 < z → (f : Entry C) × Votes w k q z f)
      (λ tk over.
      elim (cases_lt (kept q k) b) [
        | inl less ↦
            let is : b ≡ max (kept q k) b = omega arith in
            let at : Votes w k q b e = subst₂ (λ (i j : ℕ). Votes w i j b e) (sym (eqb-true k from tk)) (sym (eqb-true q p tq)) s in
            (e, subst (λ (z : ℕ). Votes w k q z e) is at)
        | inr more ↦
            let is : kept q k ≡ max (kept q k) b = omega arith in
            let old = g q k (omega arith) in
            (old.0, subst (λ (z : ℕ). Votes w k q z old.0) is old.1)
      ])
      (λ fk over. g q k over))
      (λ fq over. g q k over)

  chosen_by : (kept : (position member : ℕ) → ℕ) (from b p : ℕ) (e : Entry C) → Votes w from p b e → KeptOk n w kept → IsMajority n (λ k. eqb (kept p k) b) → Chosen n w p e
  chosen_by kept from b p e s g t = record {
    ballot = b;
    quorum = λ k. eqb (kept p k) b;
    majority = t;
    votes = λ k lt at.
        let is : kept p k ≡ b = eqb-true (kept p k) b at in
        let pos = vote_positive from b p e s in
        let old = g p k (omega arith) in
        let mine : Votes w k p b old.0 = subst (λ (z : ℕ). Votes w k p z old.0) is old.1 in
        subst (λ (z : Entry C). Votes w k p b z) (vote_same k from b p old.0 e mine s) mine;
  }

  pub vote_ok : (from b p : ℕ) (e : Entry C) → Votes w from p b e → PlanOk n w h m input (on_vote same n (record_of w m).learned (w.nodes m).volatile from b p e)
  unfolding on_vote with_vote
  vote_ok from b p e s =
      let d = record_of w m in
      let v = (w.nodes m).volatile in
      let g = inv.volatile m in
      let kept = keep v.kept p from b in
      let kept_ok = keep_ok v.kept from b p e s g.kept in
      let v' : Volatile C = record v { kept = kept } in
      let g' : VolatileOk n w h m v' = record { waiting = g.waiting; attempt = g.attempt; lead = g.lead; kept = kept_ok } in
      cond_both (is_none (d.learned p) && in_window (front d.learned) p) _ _ (λ (z : Plan C). PlanOk n w h m input z)
      (λ t.
      cond_both (is_majority n (λ k. eqb (kept p k) b)) _ _ (λ (z : Plan C). PlanOk n w h m input z)
      (λ maj. learn_ok v' p e g' (none_from_test (d.learned p) (and_parts (is_none (d.learned p)) (in_window (front d.learned) p) t).0) (chosen_by kept from b p e s kept_ok (majority_from n (λ k. eqb (kept p k) b) maj)))
      (λ few. idle_ok n w h m input v' g'))
      (λ f. idle_ok n w h m input v g)

  pub learned_ok : (p : ℕ) (e : Entry C) → Chosen n w p e → PlanOk n w h m input (on_learned same (record_of w m).learned (w.nodes m).volatile p e)
  unfolding on_learned
  learned_ok p e chosen =
      let d = record_of w m in
      let v = (w.nodes m).volatile in
      cond_both (is_none (d.learned p) && in_window (front d.learned) p) _ _ (λ (z : Plan C). PlanOk n w h m input z)
      (λ t. learn_ok v p e (inv.volatile m) (none_from_test (d.learned p) (and_parts (is_none (d.learned p)) (in_window (front d.learned) p) t).0) chosen)
      (λ f. idle_ok n w h m input v (inv.volatile m))

  need_in : (from p : ℕ) (o : Option (Entry C)) → (record_of w m).learned p ≡ o → PlanOk n w h m input (need_of m (w.nodes m).volatile from p o)
  need_in from p None is = idle_ok n w h m input (w.nodes m).volatile (inv.volatile m)
  need_in from p (Some e) is =
      let v = (w.nodes m).volatile in
      let sends : List (Envelope C) = record { sender = m; addressee = from; message = Learned p e } ∷ [] in
      says_ok n w h m input None v sends (Learned p e) tt (one_sent m from (Learned p e)) refl (λ q. refl)
      (chosen_later n w (moved w m input None true v sends) h h (later_moved n w h m input None true v sends tt) p e ((inv.stored m).learned p e is))
      (inv.volatile m)

  pub need_ok : (from p : ℕ) → PlanOk n w h m input (on_need m (record_of w m).learned (w.nodes m).volatile from p)
  unfolding on_need
  need_ok from p = need_in from p ((record_of w m).learned p) refl
