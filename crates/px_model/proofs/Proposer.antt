-- The proposer's cases keep the invariant.
use Rattle.std.proofs.Common.{◌≡◌, ℕ, ◌+◌, ◌<◌, ◌≤◌, max, Bool, true, ◌&&◌, inl, inr, List, [], ◌∷◌, Option, Some, None, arith, refl, sym, subst, subst₂, eqb, ltb, eqb-true, ltb-true, ltb-false}
use Rattle.std.proofs.lemmas.Bool.{cond_both, and_parts}
use Rattle.px_model.specs.Node.{Entry, Proposal, Phase, Attempt, Lead, Volatile, Input, Plan}
use Rattle.px_model.specs.Node.Phase.{Preparing, Accepting}
use Rattle.px_model.specs.Node.Message.{Accept}
use Rattle.px_model.specs.Step.{IsMajority, is_majority, put, positions, front, to_all, better, choice, phase_two, gathered, promise_in, promise_to, on_promise_all, use_lead, drop_attempt, drop_lead, on_nack}
use Rattle.px_model.specs.World.{World, moved}
use Rattle.px_model.specs.Law.{Among, HasSent}
use Rattle.px_model.proofs.Basics.{majority_from, put_all}
use Rattle.px_model.proofs.Backed.{Acceptance, record_of, AtMost, Pledge, Known, IsFor, Backed}
use Rattle.px_model.proofs.Invariant.{Owned, Placed, Pledged, WaitsOk, Prepares, PhaseOk, AttemptOk, Leads, LeadOk, VolatileOk, Inv}
use Rattle.px_model.proofs.Later.{backed_later, owned_later, placed_later, waits_later, kept_later, pledge_later}
use Rattle.px_model.proofs.Moves.{later_moved, sent_cases}
use Rattle.px_model.proofs.Plans.{PlanOk, idle_ok, all_sent, learned_back, below_front, front_within}

-- ---- the better of two reports

at_most_left : {C : Type 0} (a b : Option (Proposal C)) (c : ℕ) → AtMost a c → AtMost (better a b) c
at_most_left a None c t = t
at_most_left None (Some y) c t = absurd t
at_most_left {C} (Some x) (Some y) c t = cond_both (ltb x.ballot y.ballot) (Some y) (Some x) (λ (z : Option (Proposal C)). AtMost z c) (λ less. (let u = ltb-true x.ballot y.ballot less in omega arith)) (λ f. t)

at_most_right : {C : Type 0} (a b : Option (Proposal C)) (c : ℕ) → AtMost b c → AtMost (better a b) c
at_most_right a None c t = absurd t
at_most_right None (Some y) c t = t
at_most_right {C} (Some x) (Some y) c t = cond_both (ltb x.ballot y.ballot) (Some y) (Some x) (λ (z : Option (Proposal C)). AtMost z c) (λ less. t) (λ f. (let u = ltb-false x.ballot y.ballot f in omega arith))

known_better : {C : Type 0} (h : List (Acceptance C)) (p b : ℕ) (x y : Option (Proposal C)) → Known h p b x → Known h p b y → Known h p b (better x y)
known_better h p b x None k l = k
known_better h p b None (Some y) k l = l
known_better {C} h p b (Some x) (Some y) k l = cond_both (ltb x.ballot y.ballot) (Some y) (Some x) (λ (z : Option (Proposal C)). Known h p b z) (λ t. l) (λ f. k)

pledged_left : {C : Type 0} (w : World C) (h : List (Acceptance C)) (m b p t u : ℕ) (x y : Option (Proposal C)) → t ≤ u → Pledged w h m b p t x → Pledged w h m b p u (better x y)
pledged_left w h m b p t u x y le g = record {
  here = record { closed = g.here.closed; bounds = λ c e a under. at_most_left x y c (g.here.bounds c e a under) };
  above = λ q over under. g.above q (omega arith) under;
}

pledged_right : {C : Type 0} (w : World C) (h : List (Acceptance C)) (m b p t u : ℕ) (x y : Option (Proposal C)) → t ≤ u → Pledged w h m b p t y → Pledged w h m b p u (better x y)
pledged_right w h m b p t u x y le g = record {
  here = record { closed = g.here.closed; bounds = λ c e a under. at_most_right x y c (g.here.bounds c e a under) };
  above = λ q over under. g.above q (omega arith) under;
}

is_for_choice : {C : Type 0} (best : Option (Proposal C)) (ws : List (Entry C)) (e : Entry C) → choice best ws ≡ Some e → IsFor best e
is_for_choice None ws e is = tt
is_for_choice (Some x) ws e is = cc

drop_attempt_ok : {C : Type 0} (n : ℕ) (w : World C) (h : List (Acceptance C)) (m b p : ℕ) (a : Option (Attempt C)) → AttemptOk n w h m a → AttemptOk n w h m (drop_attempt b p a)
drop_attempt_ok n w h m b p None g = tt
drop_attempt_ok {C} n w h m b p (Some x) g = cond_both (eqb x.ballot b && eqb x.position p) None (Some x) (λ (z : Option (Attempt C)). AttemptOk n w h m z) (λ t. tt) (λ f. g)

drop_lead_ok : {C : Type 0} (n : ℕ) (w : World C) (h : List (Acceptance C)) (m b : ℕ) (a : Option Lead) → LeadOk n w h m a → LeadOk n w h m (drop_lead b a)
drop_lead_ok n w h m b None g = tt
drop_lead_ok n w h m b (Some x) g = cond_both (eqb x.ballot b) None (Some x) (λ (z : Option Lead). LeadOk n w h m z) (λ t. tt) (λ f. g)

module _ {C : Type 0} (n : ℕ) (w : World C) (h : List (Acceptance C)) (m : ℕ) (input : Input C) (inv : Inv n w h) where
  pub nack_seen_ok : (b p q : ℕ) → PlanOk n w h m input (on_nack (w.nodes m).volatile b p q)
  unfolding on_nack
  nack_seen_ok b p q =
      let v = (w.nodes m).volatile in
      let g = inv.volatile m in
      idle_ok n w h m input _ (record {
        waiting = g.waiting;
        attempt = drop_attempt_ok n w h m b p v.attempt g.attempt;
        lead = drop_lead_ok n w h m b v.lead g.lead;
        kept = g.kept;
      })

  -- an entry that waits may be placed where everything below is learned
  waiting_placed : (p : ℕ) (e : Entry C) → WaitsOk w m e → ((q : ℕ) → q < p → (f : Entry C) × ((record_of w m).learned q ≡ Some f)) → Placed w p e
  waiting_placed p e g below q under =
      let s = below q under in
      (s.0, subst (λ (j : ℕ). (record_of w j).learned q ≡ Some s.0) (sym g.mine) s.1, g.unlearned q s.0 s.1)

  -- a proposal at p in m's ballot b, after which the ballot may be used from a later position on
  pub propose_ok : (v : Volatile C) (b p from : ℕ) (e : Entry C) → VolatileOk n w h m v → Owned w m b → Backed n w h p b e → Among w.asked e → Placed w p e → p < from → ((q : ℕ) (f : Entry C) → HasSent w m (Accept b q f) → q < from) → ((f : Entry C) → HasSent w m (Accept b p f) → ⊥) → (quorum : ℕ → Bool) → IsMajority n quorum → ((k : ℕ) → k < n → quorum k ≡ true → (q : ℕ) → from ≤ q → q < positions → Pledge w h k q b None) → PlanOk n w h m input (record { change = None; volatile = record v { attempt = Some (record { position = p; ballot = b; phase = Accepting e }); lead = Some (record { ballot = b; from = from }) }; sends = to_all n m (Accept b p e) })
  propose_ok v b p from e g owned backed asked placed later used fresh quorum majority pledges =
      let v' : Volatile C = record v { attempt = Some (record { position = p; ballot = b; phase = Accepting e }); lead = Some (record { ballot = b; from = from }) } in
      let sends = to_all n m (Accept b p e) in
      let w' = moved w m input None true v' sends in
      let l = later_moved n w h m input None true v' sends tt in
      let all = all_sent n m (Accept b p e) in
      record {
        change = tt;
        message = Accept b p e;
        all = all;
        new = record {
          owned = owned_later n w w' h h l m b owned;
          backed = backed_later n w w' h h l p b e backed;
          asked = l.asked e asked;
          placed = placed_later n w w' h h l p e placed;
        };
        fresh = fresh;
        volatile = record {
          waiting = λ x a. waits_later n w w' h h l m x (learned_back n w h m input None true v' sends (λ q. refl)) (g.waiting x a);
          attempt = tt;
          lead = record {
            owned = owned_later n w w' h h l m b owned;
            unused = λ q f s. elim (sent_cases n w h m input None true v' sends (Accept b p e) all m (Accept b q f) s) [
              | inl old ↦ used q f old
              | inr is ↦ (let eq = is.1 in let same : q ≡ p = cc in omega arith)
            ];
            quorum = quorum;
            majority = majority;
            pledges = λ k lt c q over under. pledge_later n w w' h h l k q b None (pledges k lt c q over under);
          };
          kept = kept_later n w w' h h l v.kept g.kept;
        };
      }

  pub use_lead_ok : (e : Entry C) (rest : List (Entry C)) (lead : Lead) → (w.nodes m).volatile.waiting ≡ e ∷ rest → (w.nodes m).volatile.lead ≡ Some lead → lead.from ≤ front (record_of w m).learned → (front (record_of w m).learned ≡ positions → ⊥) → PlanOk n w h m input (use_lead n m (front (record_of w m).learned) (w.nodes m).volatile e lead)
  unfolding use_lead
  use_lead_ok e rest lead waits leads low within =
      let v = (w.nodes m).volatile in
      let g = inv.volatile m in
      let p = front (record_of w m).learned in
      let inside : p < positions = (let u = front_within (record_of w m).learned in omega arith) in
      let o : Leads n w h m lead.ballot lead.from = subst (λ (z : Option Lead). LeadOk n w h m z) leads g.lead in
      let we : WaitsOk w m e = g.waiting e (subst (λ (z : List (Entry C)). Among z e) (sym waits) (inl refl)) in
      propose_ok v lead.ballot p (p + 1) e g o.owned
      (record {
        quorum = o.quorum;
        majority = o.majority;
        best = None;
        pledges = λ k lt c. o.pledges k lt c p low inside;
        known = tt;
        is_for = tt;
      })
      we.asked
      (waiting_placed p e we (below_front (record_of w m).learned))
      (omega arith)
      (λ q f s. let u = o.unused q f s in omega arith)
      (λ f s. let u = o.unused p f s in omega arith)
      o.quorum o.majority
      (λ k lt c q over under. o.pledges k lt c q (omega arith) under)

  -- what was accepted was asked, and placed
  chosen_entry : (b p : ℕ) (counted : ℕ → Bool) (t : ℕ) (best : Option (Proposal C)) (e : Entry C) → Prepares n w h m b p counted t best → choice best (w.nodes m).volatile.waiting ≡ Some e → Among w.asked e × Placed w p e
  chosen_entry b p counted t best e g is = from_choice best (w.nodes m).volatile.waiting g.known is (inv.volatile m).waiting
    where
      from_choice : (x : Option (Proposal C)) (ws : List (Entry C)) → Known h p b x → choice x ws ≡ Some e → ((f : Entry C) → Among ws f → WaitsOk w m f) → Among w.asked e × Placed w p e
      from_choice (Some x) ws known same waits =
          let s = inv.history known.0 p x.ballot x.entry known.2 in
          let q = inv.sent s.0 (Accept x.ballot p x.entry) s.1 in
          let eq : x.entry ≡ e = cc in
          (subst (λ (z : Entry C). Among w.asked z) eq q.asked, subst (λ (z : Entry C). Placed w p z) eq q.placed)
      from_choice None [] known same waits = absurd (cc)
      from_choice None (f ∷ rest) known same waits =
          let eq : f ≡ e = cc in
          let wf = waits f (inl refl) in
          (subst (λ (z : Entry C). Among w.asked z) eq wf.asked, subst (λ (z : Entry C). Placed w p z) eq (waiting_placed p f wf g.below))

  phase_two_ok : (b p : ℕ) (counted : ℕ → Bool) (t : ℕ) (best : Option (Proposal C)) → Prepares n w h m b p counted t best → IsMajority n counted → (o : Option (Entry C)) → choice best (w.nodes m).volatile.waiting ≡ o → PlanOk n w h m input (phase_two n m (w.nodes m).volatile b p (max (p + 1) t) o)
  phase_two_ok b p counted t best g majority None is =
      idle_ok n w h m input _ (record {
        waiting = (inv.volatile m).waiting;
        attempt = tt;
        lead = record {
          owned = g.owned;
          unused = λ q f s. absurd (g.unused q f s);
          quorum = counted;
          majority = majority;
          pledges = λ k lt c q over under. (g.pledged k lt c).above q (omega arith) under;
        };
        kept = (inv.volatile m).kept;
      })
  phase_two_ok b p counted t best g majority (Some e) is =
      let ce = chosen_entry b p counted t best e g is in
      propose_ok (w.nodes m).volatile b p (max (p + 1) t) e (inv.volatile m) g.owned
      (record {
        quorum = counted;
        majority = majority;
        best = best;
        pledges = λ k lt c. (g.pledged k lt c).here;
        known = g.known;
        is_for = is_for_choice best (w.nodes m).volatile.waiting e is;
      })
      ce.0 ce.1 (omega arith)
      (λ q f s. absurd (g.unused q f s))
      (λ f s. g.unused p f s)
      counted majority
      (λ k lt c q over under. (g.pledged k lt c).above q (omega arith) under)

  gathered_ok : (b p : ℕ) (counted : ℕ → Bool) (t : ℕ) (best : Option (Proposal C)) → Prepares n w h m b p counted t best → PlanOk n w h m input (gathered n m (w.nodes m).volatile b p counted t best)
  unfolding gathered
  gathered_ok b p counted t best g =
      cond_both (is_majority n counted) _ _ (λ (z : Plan C). PlanOk n w h m input z)
      (λ maj. phase_two_ok b p counted t best g (majority_from n counted maj) (choice best (w.nodes m).volatile.waiting) refl)
      (λ few. idle_ok n w h m input _ (record {
        waiting = (inv.volatile m).waiting;
        attempt = g;
        lead = (inv.volatile m).lead;
        kept = (inv.volatile m).kept;
      }))

  -- with what `from` reports, where it keeps to what `from` pledged
  counted_ok : (from b p top u : ℕ) (counted : ℕ → Bool) (best a : Option (Proposal C)) → Prepares n w h m b p counted top best → Known h p b a → top ≤ u → Pledged w h from b p u (better best a) → PlanOk n w h m input (gathered n m (w.nodes m).volatile b p (put counted from true) u (better best a))
  counted_ok from b p top u counted best a g known le mine =
      gathered_ok b p (put counted from true) u (better best a) (record {
        owned = g.owned;
        unused = g.unused;
        below = g.below;
        pledged = λ k lt.
            put_all (λ (j : ℕ) (z : Bool). j < n → z ≡ true → Pledged w h j b p u (better best a)) counted from true
            (λ lt2 yes. mine)
            (λ j ne lt2 yes. pledged_left w h j b p top u best a le (g.pledged j lt2 yes))
            k lt;
        known = known_better h p b best a g.known known;
      })

  promise_in_ok : (from b p t : ℕ) (a : Option (Proposal C)) → from < n → Pledged w h from b p t a × Known h p b a → (x : Phase C) → PhaseOk n w h m b p x → PlanOk n w h m input (promise_in n m (w.nodes m).volatile from b p t a x)
  promise_in_ok from b p t a member said (Accepting e) g = idle_ok n w h m input (w.nodes m).volatile (inv.volatile m)
  promise_in_ok from b p t a member said (Preparing counted top best) g =
      cond_both (counted from) top (max top t) (λ (u : ℕ). PlanOk n w h m input (gathered n m (w.nodes m).volatile b p (put counted from true) u (better best a)))
      (λ again. counted_ok from b p top top counted best a g said.1 (omega arith) (pledged_left w h from b p top top best a (omega arith) (g.pledged from member again)))
      (λ first. counted_ok from b p top (max top t) counted best a g said.1 (omega arith) (pledged_right w h from b p t (max top t) best a (omega arith) said.0))

  promise_to_ok : (from b p t : ℕ) (a : Option (Proposal C)) → from < n → Pledged w h from b p t a × Known h p b a → (x : Option (Attempt C)) → AttemptOk n w h m x → PlanOk n w h m input (promise_to n m (w.nodes m).volatile from b p t a x)
  promise_to_ok from b p t a member said None g = idle_ok n w h m input (w.nodes m).volatile (inv.volatile m)
  promise_to_ok from b p t a member said (Some x) g =
      let v = (w.nodes m).volatile in
      cond_both (eqb x.ballot b && eqb x.position p) _ _ (λ (z : Plan C). PlanOk n w h m input z)
      (λ both.
      let parts = and_parts (eqb x.ballot b) (eqb x.position p) both in
      promise_in_ok from b p t a member said x.phase
      (subst₂ (λ (i j : ℕ). PhaseOk n w h m i j x.phase) (eqb-true x.ballot b parts.0) (eqb-true x.position p parts.1) g))
      (λ other. idle_ok n w h m input v (inv.volatile m))

  pub promise_all_ok : (from b p t : ℕ) (a : Option (Proposal C)) → from < n → Pledged w h from b p t a × Known h p b a → PlanOk n w h m input (on_promise_all n m (w.nodes m).volatile from b p t a)
  unfolding on_promise_all
  promise_all_ok from b p t a member said = promise_to_ok from b p t a member said (w.nodes m).volatile.attempt (inv.volatile m).attempt
