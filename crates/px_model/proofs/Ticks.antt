-- A new request and the clock keep the invariant.
use Rattle.std.proofs.Common.{◌≡◌, ℕ, ◌+◌, ◌*◌, ◌^◌, ◌<◌, ◌≤◌, true, false, inl, inr, List, [], ◌∷◌, ◌++◌, length, Option, Some, None, arith, refl, sym, ap, subst, eqb, ltb, leb, leb-true}
use Rattle.std.proofs.lemmas.Bool.{cond_both, eqb-false}
use Rattle.px_model.specs.Node.{Entry, Change, Lead, Volatile, Message, Envelope, Input, Answer, ballot_of, client}
use Rattle.px_model.specs.Node.Change.{NewRound}
use Rattle.px_model.specs.Node.Phase.{Preparing}
use Rattle.px_model.specs.Node.Input.{Asks, Comes}
use Rattle.px_model.specs.Node.Message.{PrepareAll, Accept, Need, Ask, Asked, AskRefused}
use Rattle.px_model.specs.Node.Answer.{Refused, Planned}
use Rattle.px_model.specs.Step.{commit, positions, front, to_all, next_round, new_round, propose, tick_for, on_tick, entry_for, queued, on_ask, ask_answered}
use Rattle.px_model.specs.World.{World, NodeState, moved, command_of, asked_by}
use Rattle.px_model.specs.Law.{Among}
use Rattle.px_model.proofs.Basics.{among_cases, put_same}
use Rattle.px_model.proofs.Invariant.{SentOk, WaitsOk, Inv}
use Rattle.px_model.proofs.Backed.{Acceptance, record_of}
use Rattle.px_model.proofs.Agreement.{chosen_proposed}
use Rattle.px_model.proofs.Once.{grounds}
use Rattle.px_model.proofs.Later.{waits_later, attempt_later, lead_later, kept_later}
use Rattle.px_model.proofs.Moves.{AllAre, later_moved}
use Rattle.px_model.proofs.Plans.{PlanOk, is_accept, fresh_other, idle_ok, says_ok, none_sent, one_sent, all_sent, sent_back, learned_back, below_front}
use Rattle.px_model.proofs.Proposer.{use_lead_ok}

abbrev pub AnswerOk : {C : Type 0} → (n : ℕ) → World C → List (Acceptance C) → (m : ℕ) → Input C → Answer C → Type 0
AnswerOk n w h m input (Refused code) = Unit {0}
AnswerOk n w h m input (Planned plan) = PlanOk n w h m input plan

module _ {C : Type 0} (n : ℕ) (w : World C) (h : List (Acceptance C)) (m : ℕ) (inv : Inv n w h) where
  new_round_ok : (input : Input C) → AnswerOk n w h m input (new_round n m (record_of w m).meta (front (record_of w m).learned) (w.nodes m).volatile)
  unfolding new_round
  new_round_ok input =
      let d = record_of w m in
      let v = (w.nodes m).volatile in
      let g = inv.volatile m in
      let p = front d.learned in
      let r = next_round d.meta v in
      let b = ballot_of r m in
      let v' : Volatile C = record v { attempt = Some (record { position = p; ballot = b; phase = Preparing (λ k. false) 0 None }); lead = None } in
      let ch : Option (Change C) = Some (NewRound r) in
      let said : Message C = PrepareAll b p in
      let sends = to_all n m said in
      let w' = moved w m input ch true v' sends in
      let node : NodeState C = record { is_up = true; stored = commit ch d; volatile = v' } in
      let here : (record_of w' m).meta.round ≡ r = ap (λ (z : NodeState C). z.stored.meta.round) (put_same w.nodes m node) in
      let all = all_sent n m said in
      let back = sent_back n w h m input ch true v' sends said all refl in
      let rises : d.meta.round ≤ r = omega arith in
      let l = later_moved n w h m input ch true v' sends rises in
      cond_both (ltb r (2 ^ 48)) _ _ (λ (z : Answer C). AnswerOk n w h m input z)
      (λ t. record {
        change = rises;
        message = said;
        all = all;
        new = tt;
        fresh = tt;
        volatile = record {
          waiting = λ x a. waits_later n w w' h h l m x (learned_back n w h m input ch true v' sends (λ q. refl)) (g.waiting x a);
          attempt = record {
            owned = record { round = r; is_ballot = refl; positive = omega arith; recorded = omega arith };
            unused = λ q e s.
                let o = (inv.sent m (Accept b q e) (back b q e s)).owned in
                let is : r * 256 + m ≡ o.round * 256 + m = o.is_ballot in
                let low : o.round ≤ d.meta.round = o.recorded in
                let high : d.meta.round < r = omega arith in
                omega arith;
            below = λ q under. (let s = below_front d.learned q under in (s.0, l.learned m q s.0 s.1));
            pledged = λ k lt no. absurd (cc);
            known = tt;
          };
          lead = tt;
          kept = kept_later n w w' h h l v.kept g.kept;
        };
      })
      (λ f. tt)

  propose_ok : (input : Input C) (e : Entry C) (rest : List (Entry C)) → (w.nodes m).volatile.waiting ≡ e ∷ rest → (front (record_of w m).learned ≡ positions → ⊥) → (o : Option Lead) → (w.nodes m).volatile.lead ≡ o → AnswerOk n w h m input (propose n m (record_of w m).meta (front (record_of w m).learned) (w.nodes m).volatile e o)
  propose_ok input e rest waits within None leads = new_round_ok input
  propose_ok input e rest waits within (Some lead) leads =
      let p = front (record_of w m).learned in
      cond_both (leb lead.from p) _ _ (λ (z : Answer C). AnswerOk n w h m input z)
      (λ t. use_lead_ok n w h m input inv e rest lead waits leads (leb-true lead.from p t) within)
      (λ f. new_round_ok input)

  tick_for_ok : (input : Input C) → (front (record_of w m).learned ≡ positions → ⊥) → (ws : List (Entry C)) → (w.nodes m).volatile.waiting ≡ ws → AnswerOk n w h m input (tick_for n m (record_of w m).meta (front (record_of w m).learned) (w.nodes m).volatile ws)
  tick_for_ok input within [] waits =
      let x : Message C = Need (front (record_of w m).learned) in
      says_ok n w h m input None (w.nodes m).volatile (to_all n m x) x tt (all_sent n m x) refl (λ q. refl) tt (inv.volatile m)
  tick_for_ok input within (e ∷ rest) waits = propose_ok input e rest waits within (w.nodes m).volatile.lead refl

  pub tick_ok : (input : Input C) → AnswerOk n w h m input (on_tick n m (record_of w m).meta (record_of w m).learned (w.nodes m).volatile)
  unfolding on_tick
  tick_ok input =
      let d = record_of w m in
      let v = (w.nodes m).volatile in
      cond_both (eqb (front d.learned) positions) _ _ (λ (z : Answer C). AnswerOk n w h m input z)
      (λ t. idle_ok n w h m input v (inv.volatile m))
      (λ f. tick_for_ok input (eqb-false (front d.learned) positions f) v.waiting refl)

  -- what m learned has a number below m's next, where it is m's own
  learned_number : (q : ℕ) (f : Entry C) → (record_of w m).learned q ≡ Some f → f.number < (record_of w f.origin).meta.number
  learned_number q f is =
      let c = (inv.stored m).learned q f is in
      let s = chosen_proposed n w h (grounds n w h inv) q f c in
      inv.asked f (inv.sent s.0 (Accept c.ballot q f) s.1).asked

  -- a request is accepted, and perhaps somebody is answered
  asked_ok : (input : Input C) (c : C) → command_of input ≡ Some c → (sends : List (Envelope C)) (x : Message C) → AllAre m x sends → is_accept x ≡ false → ((w' : World C) (h' : List (Acceptance C)) → SentOk n w' h' m x) → PlanOk n w h m input (record {
    change = (queued m (record_of w m).meta (w.nodes m).volatile c).change;
    volatile = (queued m (record_of w m).meta (w.nodes m).volatile c).volatile;
    sends = sends;
  })
  asked_ok input c asks sends x all nil said =
      let d = record_of w m in
      let v = (w.nodes m).volatile in
      let g = inv.volatile m in
      let e = entry_for m d.meta c in
      let v' : Volatile C = (queued m d.meta v c).volatile in
      let ch : Option (Change C) = (queued m d.meta v c).change in
      let w' = moved w m input ch true v' sends in
      let l = later_moved n w h m input ch true v' sends refl in
      let back = learned_back n w h m input ch true v' sends (λ q. refl) in
      let unsent = sent_back n w h m input ch true v' sends x all nil in
      record {
        change = refl;
        message = x;
        all = all;
        new = said w' h;
        fresh = fresh_other w m x nil;
        volatile = record {
          waiting = λ y a.
              elim (among_cases v.waiting (e ∷ []) y a) [
                | inl old ↦ waits_later n w w' h h l m y back (g.waiting y old)
                | inr new ↦ (elim new [
                  | inl is ↦ subst (λ (z : Entry C). WaitsOk w' m z) is (record {
                    mine = refl;
                    asked = subst (λ (o : Option C). Among (asked_by m d.meta o ch ++ w.asked) e) (sym asks) (inl refl);
                    unlearned = λ q k learned same.
                        let low = learned_number q k (back q k learned) in
                        subst (λ (z : Entry C). z.number < (record_of w z.origin).meta.number → ⊥) (sym same) (λ (u : d.meta.number < d.meta.number). omega arith) low;
                  })
                  | inr none ↦ absurd none
                ])
              ];
          attempt = attempt_later n w w' h h l m v.attempt unsent g.attempt;
          lead = lead_later n w w' h h l m v.lead unsent g.lead;
          kept = kept_later n w w' h h l v.kept g.kept;
        };
      }

  -- whatever holds of the refusals and of the plan holds of the answer
  ask_cases : (P : Answer C → Type 0) (c : C) → ((code : ℕ) → P (Refused code)) → P (Planned (queued m (record_of w m).meta (w.nodes m).volatile c)) → P (on_ask m (record_of w m).meta (record_of w m).learned (w.nodes m).volatile c)
  unfolding on_ask
  ask_cases P c refused planned =
      let d = record_of w m in
      cond_both (leb 64 (length (w.nodes m).volatile.waiting)) _ _ P (λ t. refused 60)
      (λ f. cond_both (eqb (front d.learned) positions) _ _ P (λ t. refused 62)
      (λ f2. cond_both (leb (2 ^ 48) d.meta.number) _ _ P (λ t. refused 62) (λ f3. planned)))

  pub ask_ok : (c : C) → AnswerOk n w h m (Asks c) (on_ask m (record_of w m).meta (record_of w m).learned (w.nodes m).volatile c)
  ask_ok c = ask_cases (λ (z : Answer C). AnswerOk n w h m (Asks c) z) c (λ code. tt)
      (asked_ok (Asks c) c refl [] (Need 0) (none_sent m (Need 0)) refl (λ w' h'. tt))

  pub ask_answered_ok : (from token : ℕ) (c : C) → PlanOk n w h m (Comes from (Ask token c)) (ask_answered m token (record_of w m).meta.number (w.nodes m).volatile (on_ask m (record_of w m).meta (record_of w m).learned (w.nodes m).volatile c))
  ask_answered_ok from token c =
      let input : Input C = Comes from (Ask token c) in
      let v = (w.nodes m).volatile in
      ask_cases (λ (z : Answer C). PlanOk n w h m input (ask_answered m token (record_of w m).meta.number v z)) c
      (λ code. says_ok n w h m input None v _ (AskRefused token code) tt (one_sent m client (AskRefused token code)) refl (λ q. refl) tt (inv.volatile m))
      (asked_ok input c refl _ (Asked token (record_of w m).meta.number) (one_sent m client (Asked token (record_of w m).meta.number)) refl (λ w' h'. tt))
