-- One attempt of a member that waits, among a majority that runs: something is learned at its front.
use Rattle.std.proofs.Common.{◌≡◌, ℕ, suc, ◌+◌, ◌*◌, ◌^◌, ◌<◌, ◌≤◌, max, Bool, true, false, inl, inr, List, [], ◌∷◌, length, Option, Some, None, arith, refl, sym, ap, subst, ◌∙◌}
use Rattle.std.proofs.lemmas.Bool.{cases_lt, cases_eq}
use Rattle.px_model.specs.Node.{IsEquality, Entry, Slot, Log, Record, Change, Lead, Volatile, Message, Envelope, Input, Plan, ballot_of, round_of}
use Rattle.px_model.specs.Node.Change.{NewRound, NewFloor, NewAccepted, NewLearned}
use Rattle.px_model.specs.Node.Phase.{Preparing}
use Rattle.px_model.specs.Node.Input.{Ticks, Comes}
use Rattle.px_model.specs.Node.Message.{PrepareAll, Nack}
use Rattle.px_model.specs.Step.{commit, promised_at, top, positions, front, to_all, answered, next_round, drop_lead}
use Rattle.px_model.specs.World.{World, NodeState, moved, follows}
use Rattle.px_model.specs.Law.{learned_of}
use Rattle.px_model.specs.Progress.{IsUpTo}
use Rattle.px_model.proofs.Basics.{put_same, put_all}
use Rattle.px_model.proofs.Backed.{record_of, promised_in}
use Rattle.px_model.proofs.Plans.{after}
use Rattle.px_model.proofs.Going.{Live, Reaches, IsFresh, fresh_left, fresh_right, already, tick, deliver, each, among_all, kept_for_members}
use Rattle.px_model.proofs.Replies.{NoLead, round_plan, nack_plan, refuses, is_nacked, begins}

-- ---- what a move leaves as it was

module _ {C : Type 0} (w : World C) (k : ℕ) (input : Input C) where
  pub stored_stays : (v : Volatile C) (sends : List (Envelope C)) (j : ℕ) → ((moved w k input None true v sends).nodes j).stored ≡ (w.nodes j).stored
  stored_stays v sends = put_all (λ (j : ℕ) (z : NodeState C). z.stored ≡ (w.nodes j).stored) w.nodes k _ refl (λ j ne. refl)

  pub volatile_stays : (ch : Option (Change C)) (sends : List (Envelope C)) (j : ℕ) → ((moved w k input ch true (w.nodes k).volatile sends).nodes j).volatile ≡ (w.nodes j).volatile
  volatile_stays ch sends = put_all (λ (j : ℕ) (z : NodeState C). z.volatile ≡ (w.nodes j).volatile) w.nodes k _ refl (λ j ne. refl)

  pub log_stays : (ch : Option (Change C)) (v : Volatile C) (sends : List (Envelope C)) → (commit ch (w.nodes k).stored).learned ≡ (w.nodes k).stored.learned → (j : ℕ) → learned_of (moved w k input ch true v sends) j ≡ learned_of w j
  log_stays ch v sends is = put_all (λ (j : ℕ) (z : NodeState C). z.stored.learned ≡ learned_of w j) w.nodes k _ is (λ j ne. refl)

  pub now : (ch : Option (Change C)) (v : Volatile C) (sends : List (Envelope C)) → (moved w k input ch true v sends).nodes k ≡ record { is_up = true; stored = commit ch (w.nodes k).stored; volatile = v }
  now ch v sends = put_same w.nodes k _

  pub sent_all : (n : ℕ) → n ≤ 15 → (since : ℕ) → since ≤ length w.sent → (ch : Option (Change C)) (v : Volatile C) (x : Message C) (to : ℕ) → to < n → IsFresh since (moved w k input ch true v (to_all n k x)).sent (record { sender = k; addressee = to; message = x })
  sent_all n small since le ch v x to lt = fresh_right since w.sent _ _ le (kept_for_members (to_all n k x) (record { sender = k; addressee = to; message = x }) (λ (is : to ≡ 255). omega arith) (among_all n k to x lt))

  pub sent_one : (n : ℕ) → n ≤ 15 → (since : ℕ) → since ≤ length w.sent → (ch : Option (Change C)) (v : Volatile C) (x : Message C) (to : ℕ) → to < n → IsFresh since (moved w k input ch true v (record { sender = k; addressee = to; message = x } ∷ [])).sent (record { sender = k; addressee = to; message = x })
  sent_one n small since le ch v x to lt = fresh_right since w.sent _ _ le (kept_for_members (record { sender = k; addressee = to; message = x } ∷ []) (record { sender = k; addressee = to; message = x }) (λ (is : to ≡ 255). omega arith) (inl refl))

-- ---- how far the members of a group got

abbrev pub AllUpTo : {C : Type 0} → (n : ℕ) → (ℕ → Bool) → (top r : ℕ) → World C → Type 0
AllUpTo n members top r w = (k : ℕ) → k < n → members k ≡ true → IsUpTo top r (w.nodes k)

pub up_to_weaker : {C : Type 0} (top more r s : ℕ) (z : NodeState C) → top ≤ more → r ≤ s → IsUpTo top r z → IsUpTo more s z
up_to_weaker top more r s z lt lr g = record {
  accepted = λ p over under. g.accepted p (omega arith) under;
  promised = λ p. (let u = g.promised p in omega arith);
  used = (let u = g.used in omega arith);
  heard = (let u = g.heard in omega arith);
}

pub up_to_after : {C : Type 0} (n : ℕ) (members : ℕ → Bool) (top r : ℕ) (w : World C) (k : ℕ) (input : Input C) (plan : Plan C) → AllUpTo n members top r w → IsUpTo top r (follows (w.nodes k) plan) → AllUpTo n members top r (after w k input plan)
up_to_after {C} n members top r w k input plan all here =
    put_all (λ (j : ℕ) (z : NodeState C). j < n → members j ≡ true → IsUpTo top r z) w.nodes k _ (λ lt q. here) (λ j ne. all j)

-- the same record, and no round heard of
pub up_to_same : {C : Type 0} (top r : ℕ) (s : NodeState C) (v : Volatile C) → IsUpTo top r s → v.seen ≤ r → IsUpTo top r (record { is_up = true; stored = s.stored; volatile = v })
up_to_same top r s v g le = record { accepted = g.accepted; promised = g.promised; used = g.used; heard = le }

pub up_to_floor : {C : Type 0} (top r : ℕ) (s : NodeState C) (b : ℕ) → IsUpTo top r s → b < (r + 1) * 256 → IsUpTo top r (record { is_up = true; stored = commit (Some (NewFloor b)) s.stored; volatile = s.volatile })
up_to_floor top r s b g lt = record {
  accepted = g.accepted;
  promised = λ p. (let u = g.promised p in omega arith);
  used = g.used;
  heard = g.heard;
}

pub up_to_accepted : {C : Type 0} (top r : ℕ) (s : NodeState C) (p b : ℕ) (e : Entry C) → IsUpTo top r s → p < top → b < (r + 1) * 256 → IsUpTo top r (record { is_up = true; stored = commit (Some (NewAccepted p b e)) s.stored; volatile = s.volatile })
up_to_accepted {C} top r s p b e g low lt = record {
  accepted = put_all (λ (q : ℕ) (z : Slot C). top ≤ q → q < positions → z.accepted ≡ None) s.stored.slots p _ (λ over under. absurd (omega arith)) (λ q ne. g.accepted q);
  promised = put_all (λ (q : ℕ) (z : Slot C). round_of (promised_at s.stored.meta z) ≤ r) s.stored.slots p _ (let u = g.promised p in omega arith) (λ q ne. g.promised q);
  used = g.used;
  heard = g.heard;
}

pub up_to_round : {C : Type 0} (top r : ℕ) (s : NodeState C) (v : Volatile C) (q : ℕ) → IsUpTo top r s → q ≤ r → v.seen ≡ s.volatile.seen → IsUpTo top r (record { is_up = true; stored = commit (Some (NewRound q)) s.stored; volatile = v })
up_to_round top r s v q g le is = record { accepted = g.accepted; promised = g.promised; used = le; heard = (let u = g.heard in omega arith) }

pub up_to_learned : {C : Type 0} (top r : ℕ) (s : NodeState C) (v : Volatile C) (p : ℕ) (e : Entry C) → IsUpTo top r s → v.seen ≡ s.volatile.seen → IsUpTo top r (record { is_up = true; stored = commit (Some (NewLearned p e)) s.stored; volatile = v })
up_to_learned top r s v p e g is = record { accepted = g.accepted; promised = g.promised; used = g.used; heard = (let u = g.heard in omega arith) }

abbrev pub next_of : {C : Type 0} → World C → ℕ → ℕ
next_of w m = next_round (record_of w m).meta (w.nodes m).volatile

-- ---- a round begins

-- m has begun this round, and asked everybody
pub record Begun {C : Type 0} (n since m : ℕ) (log : Log C) (e : Entry C) (rest : List (Entry C)) (q : ℕ) (w : World C) : Type 0 where
  pub log_is : learned_of w m ≡ log
  pub waits : (w.nodes m).volatile.waiting ≡ e ∷ rest
  pub lead : (w.nodes m).volatile.lead ≡ None
  pub round : (record_of w m).meta.round ≡ q
  pub attempt : (w.nodes m).volatile.attempt ≡ Some (record { position = front log; ballot = ballot_of q m; phase = Preparing (λ k. false) 0 None })
  pub asked : (k : ℕ) → k < n → IsFresh since w.sent (record { sender = m; addressee = k; message = PrepareAll (ballot_of q m) (front log) })

module _ {C : Type 0} (same : C → C → Bool) (exact : IsEquality same) (n : ℕ) (small : n ≤ 15) (since : ℕ) (clocks members : ℕ → Bool) (m : ℕ) (member : m < n) (belongs : members m ≡ true) (clock : clocks m ≡ true) (log : Log C) (e : Entry C) (rest : List (Entry C)) (top r : ℕ) where
  pub begin : (w : World C) → Live n since members w → learned_of w m ≡ log → (w.nodes m).volatile.waiting ≡ e ∷ rest → front log < positions → NoLead (front log) (w.nodes m).volatile.lead → next_of w m < 2 ^ 48 → next_of w m ≤ r → AllUpTo n members top r w → (limit : ℕ) (P : World C → Type 0) → ((w' : World C) → Live n since members w' → Begun n since m log e rest (next_of w m) w' → ((k p : ℕ) → promised_in w' k p ≡ promised_in w k p) → AllUpTo n members top r w' → Reaches same n since clocks members w' limit P) → Reaches same n since clocks members w (suc limit) P
  begin w l log_is waits under lead low le up_to limit P more =
      let q = next_of w m in
      let at : front (learned_of w m) ≡ front log = ap (λ (z : Log C). front z) log_is in
      let plan = round_plan n m (record_of w m).meta (front (learned_of w m)) (w.nodes m).volatile in
      let w' = after w m Ticks plan in
      let is = now w m Ticks plan.change plan.volatile plan.sends in
      tick same exact n small since clocks members w m plan limit P l member belongs clock
      (begins same n w m e rest waits (omega arith) low (subst (λ (z : ℕ). NoLead z (w.nodes m).volatile.lead) (sym at) lead))
      (λ l'. more w' l'
      (record {
        log_is = log_stays w m Ticks plan.change plan.volatile plan.sends refl m ∙ log_is;
        waits = ap (λ (z : NodeState C). z.volatile.waiting) is ∙ waits;
        lead = ap (λ (z : NodeState C). z.volatile.lead) is;
        round = ap (λ (z : NodeState C). z.stored.meta.round) is;
        attempt = ap (λ (z : NodeState C). z.volatile.attempt) is ∙ ap (λ (z : ℕ). Some (record { position = z; ballot = ballot_of q m; phase = Preparing (λ k. false) 0 None })) at;
        asked = λ k lt. subst (λ (z : ℕ). IsFresh since w'.sent (record { sender = m; addressee = k; message = PrepareAll (ballot_of q m) z })) at (sent_all w m Ticks n small since l.sent plan.change plan.volatile (PrepareAll (ballot_of q m) (front (learned_of w m))) k lt);
      })
      (λ k p. put_all (λ (j : ℕ) (z : NodeState C). promised_at z.stored.meta (z.stored.slots p) ≡ promised_in w j p) w.nodes m _ refl (λ j ne. refl) k)
      (up_to_after n members top r w m Ticks plan up_to (up_to_round top r (w.nodes m) plan.volatile q (up_to m member belongs) le refl)))

-- ---- refusals report higher rounds

-- m has begun a round, and the first j members of the group promised less than its next, or have reported theirs to it
pub record Refusing {C : Type 0} (n since : ℕ) (members : ℕ → Bool) (m : ℕ) (log : Log C) (e : Entry C) (rest : List (Entry C)) (top r b : ℕ) (j : ℕ) (w : World C) : Type 0 where
  pub log_is : learned_of w m ≡ log
  pub waits : (w.nodes m).volatile.waiting ≡ e ∷ rest
  pub lead : (w.nodes m).volatile.lead ≡ None
  pub is_ballot : b ≡ ballot_of (record_of w m).meta.round m
  pub up_to : AllUpTo n members top r w
  pub asked : (k : ℕ) → k < n → IsFresh since w.sent (record { sender = m; addressee = k; message = PrepareAll b (front log) })
  pub below : (k : ℕ) → k < j → members k ≡ true → promised_in w k (front log) < next_of w m * 256

module _ {C : Type 0} (same : C → C → Bool) (exact : IsEquality same) (n : ℕ) (small : n ≤ 15) (since : ℕ) (clocks members : ℕ → Bool) (m : ℕ) (member : m < n) (belongs : members m ≡ true) (log : Log C) (e : Entry C) (rest : List (Entry C)) (top r : ℕ) where
  refuse_skip : (b j : ℕ) → members j ≡ false → (w : World C) → Refusing n since members m log e rest top r b j w → Refusing n since members m log e rest top r b (suc j) w
  refuse_skip b j out w g = record {
    log_is = g.log_is;
    waits = g.waits;
    lead = g.lead;
    is_ballot = g.is_ballot;
    up_to = g.up_to;
    asked = g.asked;
    below = λ k under q.
        elim (cases_eq k j) [
          | inl is ↦ absurd (let c : true ≡ false = sym q ∙ (ap members is ∙ out) in cc)
          | inr ne ↦ g.below k (omega arith) q
        ];
  }

  refuse_step : (b j : ℕ) → j < n → members j ≡ true → (w : World C) → Live n since members w → Refusing n since members m log e rest top r b j w → Reaches same n since clocks members w 2 (Refusing n since members m log e rest top r b (suc j))
  refuse_step b j lt q w l g =
      let p = front log in
      let P : World C → Type 0 = λ z. Refusing n since members m log e rest top r b (suc j) z in
      let bound = promised_in w j p in
      elim (cases_lt bound b) [
        | inl less ↦ already same exact n small since clocks members w 2 P (record {
          log_is = g.log_is;
          waits = g.waits;
          lead = g.lead;
          is_ballot = g.is_ballot;
          up_to = g.up_to;
          asked = g.asked;
          below = λ k under qk. elim (cases_eq k j) [
            | inl is ↦ subst (λ (i : ℕ). promised_in w i p < next_of w m * 256) (sym is) (let u = g.is_ballot in omega arith)
            | inr ne ↦ g.below k (omega arith) qk
          ];
        })
        | inr ge ↦
            let said : Message C = Nack b p bound in
            let come : Input C = Comes m (PrepareAll b p) in
            let v = (w.nodes m).volatile in
            let vj = (w.nodes j).volatile in
            let plan = answered None vj j m said in
            let w1 = after w j come plan in
            let low = (g.up_to j lt q).promised p in
            let up1 : AllUpTo n members top r w1 = up_to_after n members top r w j come plan g.up_to (up_to_same top r (w.nodes j) vj (g.up_to j lt q) (g.up_to j lt q).heard) in
            deliver same exact n small since clocks members w m j (PrepareAll b p) plan 1 P l lt belongs q (g.asked j lt) (refuses same n w j m b p ge) (λ l1.
            let v1 = (w1.nodes m).volatile in
            let back : Input C = Comes j said in
            let next = nack_plan v1 b p bound in
            let w2 = after w1 m back next in
            let same_v : v1 ≡ v = volatile_stays w j come None plan.sends m in
            let is = now w1 m back None next.volatile [] in
            let stored : (k : ℕ) → record_of w2 k ≡ record_of w k = λ k. stored_stays w1 m back next.volatile [] k ∙ stored_stays w j come vj plan.sends k in
            let seen : (w2.nodes m).volatile.seen ≡ max v.seen (round_of bound) = ap (λ (z : NodeState C). z.volatile.seen) is ∙ ap (λ (z : Volatile C). max z.seen (round_of bound)) same_v in
            let round : (record_of w2 m).meta.round ≡ (record_of w m).meta.round = ap (λ (d : Record C). d.meta.round) (stored m) in
            let promised : (k : ℕ) → promised_in w2 k p ≡ promised_in w k p = λ k. ap (λ (d : Record C). promised_at d.meta (d.slots p)) (stored k) in
            let heard : v1.seen ≤ r = (up1 m member belongs).heard in
            deliver same exact n small since clocks members w1 j m said next 0 P l1 member q belongs (sent_one w j come n small since l.sent None vj said m member) (is_nacked same n w1 m j b p bound) (λ l2. already same exact n small since clocks members w2 0 P (record {
              log_is = log_stays w1 m back None next.volatile [] refl m ∙ (log_stays w j come None vj plan.sends refl m ∙ g.log_is);
              waits = ap (λ (z : NodeState C). z.volatile.waiting) is ∙ (ap (λ (z : Volatile C). z.waiting) same_v ∙ g.waits);
              lead = ap (λ (z : NodeState C). z.volatile.lead) is ∙ ap (λ (o : Option Lead). drop_lead b o) (ap (λ (z : Volatile C). z.lead) same_v ∙ g.lead);
              is_ballot = g.is_ballot ∙ ap (λ (k : ℕ). ballot_of k m) (sym round);
              up_to = up_to_after n members top r w1 m back next up1 (up_to_same top r (w1.nodes m) next.volatile (up1 m member belongs) (omega arith));
              asked = λ k klt. fresh_left since w1.sent _ _ (fresh_left since w.sent _ _ (g.asked k klt));
              below = λ k under qk.
                  let a = promised k in
                  elim (cases_eq k j) [
                    | inl at ↦ (let c : promised_in w k p ≡ bound = ap (λ (i : ℕ). promised_in w i p) at in omega arith)
                    | inr ne ↦ (let c = g.below k (omega arith) qk in omega arith)
                  ];
            })))
      ]

  pub all_refuse : (b : ℕ) (w : World C) → Live n since members w → Refusing n since members m log e rest top r b 0 w → Reaches same n since clocks members w (2 * n) (Refusing n since members m log e rest top r b n)
  all_refuse b w l g = each same exact n small since clocks members (λ (j : ℕ) (z : World C). Refusing n since members m log e rest top r b j z) 2 (λ j lt q z. refuse_step b j lt q z) (λ j out z. refuse_skip b j out z) w l g
