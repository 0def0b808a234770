-- A step of a member whose parts fit sends what fits, and leaves parts that fit.
use Rattle.std.proofs.Common.{◌≡◌, ℕ, ◌+◌, ◌^◌, ◌<◌, ◌≤◌, max, Bool, true, cond, ◌&&◌, inl, inr, List, [], ◌∷◌, length, Option, Some, None, IfSome, is_none, arith, refl, sym, subst, ◌∙◌, eqb, ltb, leb, eqb-true, ltb-true, ltb-false, leb-false}
use Rattle.std.proofs.lemmas.Bool.{cond_both, and_parts, eqb-false}
use Rattle.px_model.specs.Node as node
use Rattle.px_model.specs.Node.{Entry, Proposal, Record, Phase, Attempt, Lead, Volatile, Envelope, Input, Plan, Answer, ballot_of, client}
use Rattle.px_model.specs.Node.Phase.{Preparing, Accepting}
use Rattle.px_model.specs.Node.Message.{Prepare, Promise, PrepareAll, PromiseAll, Accept, Vote, Nack, Need, Learned, Asked, AskRefused}
use Rattle.px_model.specs.Node.Input.{Asks, Ticks, Comes}
use Rattle.px_model.specs.Node.Answer.{Refused, Planned}
use Rattle.px_model.specs.Step.{put, positions, promised_at, top, front, in_window, to_all, entry_for, queued, on_ask, ask_answered, next_round, new_round, use_lead, propose, tick_for, on_tick, on_prepare, on_prepare_all, on_accept, better, choice, phase_two, gathered, promise_in, promise_to, on_promise_all, learn, keep, with_vote, on_vote, on_learned, need_of, on_need, on_nack, is_majority, position_of, step}
use Rattle.px_model.specs.World.{NodeState, step_of}
use Rattle.px_model.specs.Law.{Among}
use Rattle.px_model.specs.Fits.{IsNumber, IsPosition, IsBallot, IsBallotOf, IsPromise, EntryFits, ProposalFits, ReportFits, InputFits, PhaseFits, AttemptFits, LeadFits, VolatileFits, NodeFits, SendsFit, AnswerFits}
use Rattle.px_model.proofs.Basics.{among_cases}
use Rattle.px_model.proofs.Plans.{front_within}
use Rattle.px_model.proofs.Learner.{among_without}
use Rattle.px_model.proofs.Reach.{front_grows}
use Rattle.px_model.proofs.Ranges.{own_ballot, max_promise, promised_ballot, top_within, length_more, without_shorter, better_fits, reported_fits, report_of, choice_fits, attempt_not_below, attempt_dropped, lead_dropped, new_round_fits, new_number_fits, new_floor_fits, new_promise_fits, new_accepted_fits, new_learned_fits, one_fits, all_fit}

module _ {C : Type 0} (S : C → Type 0) (n : ℕ) (small : n ≤ 15) (me : ℕ) (member : me < n) (s : NodeState C) (g : NodeFits S n me s) where
  abbrev d : Record C
  d = s.stored

  abbrev v : Volatile C
  v = s.volatile

  abbrev Fine : Answer C → Type 0
  Fine a = AnswerFits S n me s a

  abbrev FinePlan : Plan C → Type 0
  FinePlan plan = AnswerFits S n me s (Planned plan)

  nothing_sent : SendsFit S n me []
  nothing_sent x a = absurd a

  -- the record stays
  says : (v' : Volatile C) (sends : List (Envelope C)) → VolatileFits S n me (front d.learned) v' → SendsFit S n me sends → FinePlan (record { change = None; volatile = v'; sends = sends })
  says v' sends fits sent = record { change = tt; sends = sent; state = record { stored = g.stored; volatile = fits } }

  idle_fits : (v' : Volatile C) → VolatileFits S n me (front d.learned) v' → FinePlan (record { change = None; volatile = v'; sends = [] })
  idle_fits v' fits = says v' [] fits nothing_sent

  -- ---- the acceptor

  promised_fits : (p : ℕ) → IsPromise n (promised_at d.meta (d.slots p))
  promised_fits p = max_promise n d.meta.floor (d.slots p).promised g.stored.meta.floor (g.stored.slots p).promised

  refuses : (from b p : ℕ) → from < n → IsBallotOf n from b → IsPosition p → b ≤ promised_at d.meta (d.slots p) → FinePlan (record { change = None; volatile = v; sends = record { sender = me; addressee = from; message = Nack b p (promised_at d.meta (d.slots p)) } ∷ [] })
  refuses from b p low is at le =
      says v _ g.volatile
      (one_fits S n me from (Nack b p (promised_at d.meta (d.slots p))) (record {
        between = (member, low);
        message = (is, at, promised_ballot n b _ is.0 (promised_fits p) le, le);
      }))

  prepare_fits : (from b p : ℕ) → from < n → IsBallotOf n from b → IsPosition p → FinePlan (on_prepare me d.meta (d.slots p) v from b p)
  unfolding on_prepare
  prepare_fits from b p low is at =
      cond_both (ltb (promised_at d.meta (d.slots p)) b) _ _ (λ (z : Plan C). FinePlan z)
      (λ t.
      let less : promised_at d.meta (d.slots p) < b = ltb-true _ b t in
      record {
        change = (at, is.0);
        sends = one_fits S n me from (Promise b p (d.slots p).accepted) (record {
          between = (member, low);
          message = (is, at, report_of S n b (d.slots p).promised (d.slots p).accepted (omega arith) (g.stored.slots p).accepted);
        });
        state = record { stored = new_promise_fits S n d g.stored p b is.0 (omega arith); volatile = g.volatile };
      })
      (λ f. refuses from b p low is at (ltb-false _ b f))

  prepare_all_fits : (t from b p : ℕ) → t ≤ positions → from < n → IsBallotOf n from b → IsPosition p → FinePlan (on_prepare_all me d.meta (d.slots p) t v from b p)
  unfolding on_prepare_all
  prepare_all_fits t from b p within low is at =
      cond_both (ltb (promised_at d.meta (d.slots p)) b) _ _ (λ (z : Plan C). FinePlan z)
      (λ yes.
      let less : promised_at d.meta (d.slots p) < b = ltb-true _ b yes in
      record {
        change = is.0;
        sends = one_fits S n me from (PromiseAll b p t (d.slots p).accepted) (record {
          between = (member, low);
          message = (is, at, within, report_of S n b (d.slots p).promised (d.slots p).accepted (omega arith) (g.stored.slots p).accepted);
        });
        state = record { stored = new_floor_fits S n d g.stored b is.0; volatile = g.volatile };
      })
      (λ f. refuses from b p low is at (ltb-false _ b f))

  accept_fits : (from b p : ℕ) (e : Entry C) → from < n → IsBallotOf n from b → IsPosition p → EntryFits S n e → FinePlan (on_accept n me d.meta (d.slots p) v from b p e)
  unfolding on_accept
  accept_fits from b p e low is at fits =
      cond_both (leb (promised_at d.meta (d.slots p)) b) _ _ (λ (z : Plan C). FinePlan z)
      (λ t. record {
        change = (at, is.0, fits);
        sends = all_fit S n me n (Vote b p e) (λ to lt. record { between = (member, lt); message = (is.0, at, fits) });
        state = record { stored = new_accepted_fits S n d g.stored p b e at is.0 fits; volatile = g.volatile };
      })
      (λ f. refuses from b p low is at (let over = leb-false (promised_at d.meta (d.slots p)) b f in omega arith))

  -- ---- the learner

  learn_fits : (same : C → C → Bool) (kept : (position member : ℕ) → ℕ) (p : ℕ) (e : Entry C) → IsPosition p → EntryFits S n e → FinePlan (learn same d.learned (record v { kept = kept }) p e)
  unfolding learn
  learn_fits same kept p e at fits = record {
    change = (at, fits);
    sends = nothing_sent;
    state = record {
      stored = new_learned_fits S n d g.stored p e at fits;
      volatile = record {
        room = (let shorter = without_shorter same e v.waiting in let r = g.volatile.room in omega arith);
        waiting = λ x a. g.volatile.waiting x (among_without same e v.waiting x a).0;
        attempt = attempt_not_below S n me (front d.learned) (front (put d.learned p (Some e))) v.attempt (front_grows d.learned p e) g.volatile.attempt;
        lead = g.volatile.lead;
        seen = g.volatile.seen;
      };
    };
  }

  kept_fits : (kept : (position member : ℕ) → ℕ) → VolatileFits S n me (front d.learned) (record v { kept = kept })
  kept_fits kept = record { room = g.volatile.room; waiting = g.volatile.waiting; attempt = g.volatile.attempt; lead = g.volatile.lead; seen = g.volatile.seen }

  vote_fits : (same : C → C → Bool) (from b p : ℕ) (e : Entry C) → IsPosition p → EntryFits S n e → FinePlan (on_vote same n d.learned v from b p e)
  unfolding on_vote with_vote
  vote_fits same from b p e at fits =
      cond_both (is_none (d.learned p) && in_window (front d.learned) p) _ _ (λ (z : Plan C). FinePlan z)
      (λ t. cond_both (is_majority n (λ m. eqb (keep v.kept p from b p m) b)) _ _ (λ (z : Plan C). FinePlan z)
      (λ maj. learn_fits same (keep v.kept p from b) p e at fits)
      (λ few. idle_fits _ (kept_fits (keep v.kept p from b))))
      (λ f. idle_fits v g.volatile)

  learned_fits : (same : C → C → Bool) (p : ℕ) (e : Entry C) → IsPosition p → EntryFits S n e → FinePlan (on_learned same d.learned v p e)
  unfolding on_learned
  learned_fits same p e at fits =
      cond_both (is_none (d.learned p) && in_window (front d.learned) p) _ _ (λ (z : Plan C). FinePlan z)
      (λ t. learn_fits same v.kept p e at fits)
      (λ f. idle_fits v g.volatile)

  need_in : (from p : ℕ) → from < n → IsPosition p → (o : Option (Entry C)) → d.learned p ≡ o → FinePlan (need_of me v from p o)
  need_in from p low at None is = idle_fits v g.volatile
  need_in from p low at (Some e) is =
      says v _ g.volatile (one_fits S n me from (Learned p e) (record { between = (member, low); message = g.stored.learned p e is }))

  need_fits : (from p : ℕ) → from < n → IsPosition p → FinePlan (on_need me d.learned v from p)
  unfolding on_need
  need_fits from p low at = need_in from p low at (d.learned p) refl

  -- ---- the proposer

  own_waiting : (e : Entry C) → Among v.waiting e → EntryFits S n e
  own_waiting e a = (g.volatile.waiting e a).0

  proposes : (b p from : ℕ) (e : Entry C) → IsBallotOf n me b → IsPosition p → p ≡ front d.learned → from ≤ positions → EntryFits S n e → FinePlan (record { change = None; volatile = record v { attempt = Some (record { position = p; ballot = b; phase = Accepting e }); lead = Some (record { ballot = b; from = from }) }; sends = to_all n me (Accept b p e) })
  proposes b p from e is at here low fits =
      says _ _
      (record {
        room = g.volatile.room;
        waiting = g.volatile.waiting;
        attempt = record { at_front = here; position = at; ballot = is; phase = fits };
        lead = record { ballot = is; from = low };
        seen = g.volatile.seen;
      })
      (all_fit S n me n (Accept b p e) (λ to lt. record { between = (member, lt); message = (is, at, fits) }))

  phase_two_fits : (b p from : ℕ) → IsBallotOf n me b → IsPosition p → p ≡ front d.learned → from ≤ positions → (o : Option (Entry C)) → IfSome o (λ e. EntryFits S n e) → FinePlan (phase_two n me v b p from o)
  phase_two_fits b p from is at here low None fits =
      idle_fits _ (record { room = g.volatile.room; waiting = g.volatile.waiting; attempt = tt; lead = record { ballot = is; from = low }; seen = g.volatile.seen })
  phase_two_fits b p from is at here low (Some e) fits = proposes b p from e is at here low fits

  gathered_fits : (b p : ℕ) (counted : ℕ → Bool) (t : ℕ) (best : Option (Proposal C)) → IsBallotOf n me b → IsPosition p → p ≡ front d.learned → t ≤ positions → IfSome best (λ x. ProposalFits S n x) → FinePlan (gathered n me v b p counted t best)
  unfolding gathered
  gathered_fits b p counted t best is at here low fits =
      cond_both (is_majority n counted) _ _ (λ (z : Plan C). FinePlan z)
      (λ maj. phase_two_fits b p (max (p + 1) t) is at here (omega arith) (choice best v.waiting) (choice_fits S n best v.waiting fits own_waiting))
      (λ few. idle_fits _ (record {
        room = g.volatile.room;
        waiting = g.volatile.waiting;
        attempt = record { at_front = here; position = at; ballot = is; phase = (low, fits) };
        lead = g.volatile.lead;
        seen = g.volatile.seen;
      }))

  promise_in_fits : (from b p t : ℕ) (a : Option (Proposal C)) → IsBallotOf n me b → IsPosition p → p ≡ front d.learned → t ≤ positions → ReportFits S n b a → (x : Phase C) → PhaseFits S n x → FinePlan (promise_in n me v from b p t a x)
  promise_in_fits from b p t a is at here low report (Accepting e) fits = idle_fits v g.volatile
  promise_in_fits from b p t a is at here low report (Preparing counted u best) fits =
      gathered_fits b p (put counted from true) (cond (counted from) u (max u t)) (better best a) is at here
      (cond_both (counted from) u (max u t) (λ (z : ℕ). z ≤ positions) (λ yes. fits.0) (λ f. (let h = fits.0 in omega arith)))
      (better_fits S n best a fits.1 (reported_fits S n b a report))

  promise_to_fits : (from b p t : ℕ) (a : Option (Proposal C)) → IsBallotOf n me b → IsPosition p → t ≤ positions → ReportFits S n b a → (o : Option (Attempt C)) → IfSome o (λ x. AttemptFits S n me (front d.learned) x) → FinePlan (promise_to n me v from b p t a o)
  promise_to_fits from b p t a is at low report None fits = idle_fits v g.volatile
  promise_to_fits from b p t a is at low report (Some x) fits =
      cond_both (eqb x.ballot b && eqb x.position p) _ _ (λ (z : Plan C). FinePlan z)
      (λ both.
      let same : x.position ≡ p = eqb-true x.position p (and_parts (eqb x.ballot b) (eqb x.position p) both).1 in
      promise_in_fits from b p t a is at (sym same ∙ fits.at_front) low report x.phase fits.phase)
      (λ f. idle_fits v g.volatile)

  promise_all_fits : (from b p t : ℕ) (a : Option (Proposal C)) → IsBallotOf n me b → IsPosition p → t ≤ positions → ReportFits S n b a → FinePlan (on_promise_all n me v from b p t a)
  unfolding on_promise_all
  promise_all_fits from b p t a is at low report = promise_to_fits from b p t a is at low report v.attempt g.volatile.attempt

  nack_fits : (b p q : ℕ) → IsBallot n q → FinePlan (on_nack v b p q)
  unfolding on_nack
  nack_fits b p q is =
      idle_fits _ (record {
        room = g.volatile.room;
        waiting = g.volatile.waiting;
        attempt = attempt_dropped S n me (front d.learned) b p v.attempt g.volatile.attempt;
        lead = lead_dropped S n me b v.lead g.volatile.lead;
        seen = (let u = is.round in let w = g.volatile.seen in omega arith);
      })

  -- ---- the clock

  new_round_here : front d.learned < positions → Fine (new_round n me d.meta (front d.learned) v)
  unfolding new_round
  new_round_here at =
      let r = next_round d.meta v in
      let p = front d.learned in
      cond_both (ltb r (2 ^ 48)) _ _ (λ (z : Answer C). Fine z)
      (λ t.
      let low : r < 2 ^ 48 = ltb-true r (2 ^ 48) t in
      let is : IsBallotOf n me (ballot_of r me) = own_ballot n me r member small (omega arith) low in
      record {
        change = low;
        sends = all_fit S n me n (PrepareAll (ballot_of r me) p) (λ to lt. record { between = (member, lt); message = (is, at) });
        state = record {
          stored = new_round_fits S n d g.stored r low;
          volatile = record {
            room = g.volatile.room;
            waiting = g.volatile.waiting;
            attempt = record { at_front = refl; position = at; ballot = is; phase = (omega arith, tt) };
            lead = tt;
            seen = g.volatile.seen;
          };
        };
      })
      (λ f. record { change = tt; sends = nothing_sent; state = g })

  propose_fits : front d.learned < positions → (e : Entry C) → EntryFits S n e → (o : Option Lead) → IfSome o (λ x. LeadFits n me x) → Fine (propose n me d.meta (front d.learned) v e o)
  unfolding use_lead
  propose_fits at e fits None leads = new_round_here at
  propose_fits at e fits (Some lead) leads =
      cond_both (leb lead.from (front d.learned)) _ _ (λ (z : Answer C). Fine z)
      (λ t. proposes lead.ballot (front d.learned) (front d.learned + 1) e leads.ballot at refl (omega arith) fits)
      (λ f. new_round_here at)

  tick_for_fits : front d.learned < positions → (ws : List (Entry C)) → ((e : Entry C) → Among ws e → EntryFits S n e) → Fine (tick_for n me d.meta (front d.learned) v ws)
  tick_for_fits at [] waits =
      says v _ g.volatile (all_fit S n me n (Need (front d.learned)) (λ to lt. record { between = (member, lt); message = at }))
  tick_for_fits at (e ∷ rest) waits = propose_fits at e (waits e (inl refl)) v.lead g.volatile.lead

  tick_fits : Fine (on_tick n me d.meta d.learned v)
  unfolding on_tick
  tick_fits =
      cond_both (eqb (front d.learned) positions) _ _ (λ (z : Answer C). Fine z)
      (λ t. idle_fits v g.volatile)
      (λ f.
      let within = front_within d.learned in
      let ne = eqb-false (front d.learned) positions f in
      tick_for_fits (omega arith) v.waiting own_waiting)

  -- ---- a command is asked

  abbrev FitsAnswered : (token : ℕ) → Answer C → Type 0
  FitsAnswered token a = FinePlan (ask_answered me token d.meta.number v a)

  queued_fits : (c : C) → S c → length v.waiting < 64 → IsNumber d.meta.number → (sends : List (Envelope C)) → SendsFit S n me sends → FinePlan (record { change = (queued me d.meta v c).change; volatile = (queued me d.meta v c).volatile; sends = sends })
  queued_fits c fits room low sends sent = record {
    change = omega arith;
    sends = sent;
    state = record {
      stored = new_number_fits S n d g.stored (d.meta.number + 1) (omega arith);
      volatile = record {
        room = (let more = length_more v.waiting (entry_for me d.meta c) in omega arith);
        waiting = λ x a. elim (among_cases v.waiting (entry_for me d.meta c ∷ []) x a) [
          | inl old ↦ g.volatile.waiting x old
          | inr new ↦ (elim new [
            | inl is ↦ subst (λ (z : Entry C). EntryFits S n z × (z.origin ≡ me)) is (record { origin = member; number = low; command = fits }, refl)
            | inr none ↦ absurd none
          ])
        ];
        attempt = g.volatile.attempt;
        lead = g.volatile.lead;
        seen = g.volatile.seen;
      };
    };
  }

  -- whatever holds of the refusals and of the plan holds of the answer
  ask_cases : (P : Answer C → Type 0) (c : C) → P (Refused 60) → P (Refused 62) → (length v.waiting < 64 → IsNumber d.meta.number → P (Planned (queued me d.meta v c))) → P (on_ask me d.meta d.learned v c)
  unfolding on_ask
  ask_cases P c full spent planned =
      cond_both (leb 64 (length v.waiting)) _ _ P (λ t. full)
      (λ f. cond_both (eqb (front d.learned) positions) _ _ P (λ t. spent)
      (λ f2. cond_both (leb (2 ^ 48) d.meta.number) _ _ P (λ t. spent)
      (λ f3. planned (let a = leb-false 64 (length v.waiting) f in omega arith) (let b = leb-false (2 ^ 48) d.meta.number f3 in omega arith))))

  ask_fits : (c : C) → S c → Fine (on_ask me d.meta d.learned v c)
  ask_fits c fits = ask_cases Fine c (record { change = tt; sends = nothing_sent; state = g }) (record { change = tt; sends = nothing_sent; state = g }) (λ room low. queued_fits c fits room low [] nothing_sent)

  ask_answered_fits : (token : ℕ) (c : C) → IsNumber token → S c → FitsAnswered token (on_ask me d.meta d.learned v c)
  ask_answered_fits token c low fits =
      ask_cases (FitsAnswered token) c
      (says v _ g.volatile (one_fits S n me client (AskRefused token 60) (record { between = (member, refl); message = (low, inl refl) })))
      (says v _ g.volatile (one_fits S n me client (AskRefused token 62) (record { between = (member, refl); message = (low, inr refl) })))
      (λ room number. queued_fits c fits room number _ (one_fits S n me client (Asked token d.meta.number) (record { between = (member, refl); message = (low, number) })))

  -- ---- all cases

  -- whatever top is reported
  pub step_fits_with : (same : C → C → Bool) (t : ℕ) → t ≤ positions → (input : Input C) → InputFits S n me input → Fine (step same n me d.meta (d.slots (position_of input)) t d.learned v input)
  unfolding step
  step_fits_with same t within (Asks c) fits = ask_fits c fits
  step_fits_with same t within Ticks fits = tick_fits
  step_fits_with same t within (Comes from (Prepare b p)) fits = prepare_fits from b p fits.between.0 fits.message.0 fits.message.1
  step_fits_with same t within (Comes from (Promise b p a)) fits = idle_fits v g.volatile
  step_fits_with same t within (Comes from (PrepareAll b p)) fits = prepare_all_fits t from b p within fits.between.0 fits.message.0 fits.message.1
  step_fits_with same t within (Comes from (PromiseAll b p u a)) fits = promise_all_fits from b p u a fits.message.0 fits.message.1 fits.message.2 fits.message.3
  step_fits_with same t within (Comes from (Accept b p e)) fits = accept_fits from b p e fits.between.0 fits.message.0 fits.message.1 fits.message.2
  step_fits_with same t within (Comes from (Vote b p e)) fits = vote_fits same from b p e fits.message.1 fits.message.2
  step_fits_with same t within (Comes from (Nack b p q)) fits = nack_fits b p q fits.message.2
  step_fits_with same t within (Comes from (Need p)) fits = need_fits from p fits.between.0 fits.message
  step_fits_with same t within (Comes from (Learned p e)) fits = learned_fits same p e fits.message.0 fits.message.1
  step_fits_with same t within (Comes from (node.Message.Ask u c)) fits = ask_answered_fits u c fits.message.0 fits.message.1
  step_fits_with same t within (Comes from (Asked u k)) fits = idle_fits v g.volatile
  step_fits_with same t within (Comes from (AskRefused u k)) fits = idle_fits v g.volatile

  pub step_fits : (same : C → C → Bool) (input : Input C) → InputFits S n me input → Fine (step_of same n me s input)
  step_fits same input fits = step_fits_with same (top d.slots) (top_within d.slots) input fits
