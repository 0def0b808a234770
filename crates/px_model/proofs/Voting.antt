-- The group's members accept what m proposed at its front, and m learns it by their votes.
use Rattle.std.proofs.Common.{◌≡◌, ℕ, suc, ◌+◌, ◌*◌, ◌<◌, ◌≤◌, Bool, true, false, ◌⊎◌, inl, inr, List, [], ◌∷◌, Some, None, nat_eq, arith, refl, sym, ap, subst, ◌∙◌, eq-eqb}
use Rattle.std.proofs.lemmas.Bool.{cases_eq, cases_lt}
use Rattle.px_model.specs.Node.{IsEquality, Entry, Slot, Log, Volatile, Message, Input, Plan}
use Rattle.px_model.specs.Node.Change.{NewAccepted}
use Rattle.px_model.specs.Node.Input.{Comes}
use Rattle.px_model.specs.Node.Message.{Accept, Vote}
use Rattle.px_model.specs.Node.Answer.{Planned}
use Rattle.px_model.specs.Step.{IsMajority, is_majority, put, promised_at, positions, front, to_all, without, keep, idle}
use Rattle.px_model.specs.World.{World, NodeState}
use Rattle.px_model.specs.Law.{learned_of}
use Rattle.px_model.proofs.Basics.{put_same, put_all}
use Rattle.px_model.proofs.Backed.{Acceptance, record_of, promised_in}
use Rattle.px_model.proofs.Invariant.{Inv}
use Rattle.px_model.proofs.Moves.{at_most_real}
use Rattle.px_model.proofs.Plans.{after, at_front}
use Rattle.px_model.proofs.Going.{Live, Reaches, IsFresh, fresh_left, already, deliver, each}
use Rattle.px_model.proofs.Replies.{learning_plan, yes_no, majority_made, accepts, hears, votes_more, votes_done, keep_here, keep_other}
use Rattle.px_model.proofs.Attempts.{volatile_stays, log_stays, now, sent_all, AllUpTo, up_to_after, up_to_accepted, up_to_same, up_to_learned}

-- a vote that is kept isn't above what the voter promised
pub kept_bound : {C : Type 0} (n : ℕ) (w : World C) (h : List (Acceptance C)) → Inv n w h → (m p k : ℕ) → (w.nodes m).volatile.kept p k ≤ promised_in w k p
kept_bound n w h inv m p k =
    let c = (w.nodes m).volatile.kept p k in
    let slot = (record_of w k).slots p in
    elim (cases_lt 0 c) [
      | inl over ↦
          let s = (inv.volatile m).kept p k over in
          let ok = (inv.stored k).slots p in
          at_most_real h k p slot.promised (promised_in w k p) c slot.accepted (omega arith) (ok.highest c s.0 (inv.sent k (Vote c p s.0) s.1)) ok.real
      | inr none ↦ omega arith
    ]

-- m has the votes of the first j members of the group, and they made no majority
pub record Pending {C : Type 0} (n : ℕ) (members : ℕ → Bool) (log : Log C) (e : Entry C) (rest : List (Entry C)) (b j : ℕ) (learned : Log C) (v : Volatile C) : Type 0 where
  pub log_is : learned ≡ log
  pub waits : v.waiting ≡ e ∷ rest
  pub votes : (k : ℕ) → k < j → members k ≡ true → v.kept (front log) k ≡ b
  pub few : (k : ℕ) → k < j → members k ≡ true → is_majority n (λ i. nat_eq (v.kept (front log) i) b) ≡ false

-- x is learned at the front that was
pub record LearnedThere {C : Type 0} (same : C → C → Bool) (log : Log C) (e : Entry C) (rest : List (Entry C)) (x : Entry C) (learned : Log C) (v : Volatile C) : Type 0 where
  pub log_is : learned ≡ put log (front log) (Some x)
  pub waits : v.waiting ≡ without same x (e ∷ rest)

pub record Voting {C : Type 0} (same : C → C → Bool) (n since : ℕ) (members : ℕ → Bool) (m : ℕ) (log : Log C) (e : Entry C) (rest : List (Entry C)) (top r b : ℕ) (x : Entry C) (j : ℕ) (w : World C) : Type 0 where
  pub up_to : AllUpTo n members top r w
  pub asked : (k : ℕ) → k < n → IsFresh since w.sent (record { sender = m; addressee = k; message = Accept b (front log) x })
  pub within : (k : ℕ) → k < n → members k ≡ true → promised_in w k (front log) ≤ b
  pub state : Pending n members log e rest b j (learned_of w m) (w.nodes m).volatile ⊎ LearnedThere same log e rest x (learned_of w m) (w.nodes m).volatile

module _ {C : Type 0} (same : C → C → Bool) (exact : IsEquality same) (n : ℕ) (small : n ≤ 15) (since : ℕ) (clocks members : ℕ → Bool) (m : ℕ) (member : m < n) (belongs : members m ≡ true) (log : Log C) (under : front log < positions) (e : Entry C) (rest : List (Entry C)) (top r b : ℕ) (low : b < (r + 1) * 256) (beyond : front log < top) (x : Entry C) where
  abbrev Votes_ : ℕ → World C → Type 0
  Votes_ j w = Voting same n since members m log e rest top r b x j w

  vote_skip : (j : ℕ) → members j ≡ false → (w : World C) → Votes_ j w → Votes_ (suc j) w
  vote_skip j out w g =
      let before : (k : ℕ) → k < suc j → members k ≡ true → k < j = λ k lt q. elim (cases_eq k j) [
        | inl is ↦ absurd (let c : true ≡ false = sym q ∙ (ap members is ∙ out) in cc)
        | inr ne ↦ omega arith
      ] in
      record {
        up_to = g.up_to;
        asked = g.asked;
        within = g.within;
        state = elim g.state [
          | inl s ↦ inl (record {
            log_is = s.log_is;
            waits = s.waits;
            votes = λ k lt q. s.votes k (before k lt q) q;
            few = λ k lt q. s.few k (before k lt q) q;
          })
          | inr s ↦ inr s
        ];
      }

  -- m hears a vote
  hear : (j : ℕ) (w : World C) → Live n since members w → j < n → members j ≡ true → IsFresh since w.sent (record { sender = j; addressee = m; message = Vote b (front log) x }) → AllUpTo n members top r w → ((k : ℕ) → k < n → IsFresh since w.sent (record { sender = m; addressee = k; message = Accept b (front log) x })) → ((k : ℕ) → k < n → members k ≡ true → promised_in w k (front log) ≤ b) → learned_of w m ≡ log → (w.nodes m).volatile.waiting ≡ e ∷ rest → (w.nodes m).volatile.kept (front log) j ≤ b → ((k : ℕ) → k < j → members k ≡ true → (w.nodes m).volatile.kept (front log) k ≡ b) → Reaches same n since clocks members w 1 (Votes_ (suc j))
  hear j w l lt q sent up_to asked within log_is waits bound votes =
      let p = front log in
      let v = (w.nodes m).volatile in
      let kept = keep v.kept p j b in
      let v' : Volatile C = record v { kept = kept } in
      let said : Message C = Vote b p x in
      let come : Input C = Comes j said in
      let was = learned_of w m in
      let is = hears same n w m j b p x (ap (λ (z : Log C). z p) log_is ∙ at_front log under) (ap (λ (z : Log C). front z) log_is) under in
      elim (yes_no (is_majority n (λ k. nat_eq (kept p k) b))) [
        | inl many ↦
            let plan = learning_plan same was v' p x in
            let w' = after w m come plan in
            let here = now w m come plan.change plan.volatile plan.sends in
            deliver same exact n small since clocks members w j m said plan 0 (Votes_ (suc j)) l member q belongs sent (is ∙ ap (λ (z : Plan C). Planned z) (votes_done same n was v' b p x many)) (λ l'.
            already same exact n small since clocks members w' 0 (Votes_ (suc j)) (record {
              up_to = up_to_after n members top r w m come plan up_to (up_to_learned top r (w.nodes m) plan.volatile p x (up_to m member belongs) refl);
              asked = λ k klt. fresh_left since w.sent _ _ (asked k klt);
              within = put_all (λ (k : ℕ) (z : NodeState C). k < n → members k ≡ true → promised_at z.stored.meta (z.stored.slots p) ≤ b) w.nodes m _ (within m) (λ k ne. within k);
              state = inr (record {
                log_is = ap (λ (z : NodeState C). z.stored.learned) here ∙ ap (λ (z : Log C). put z p (Some x)) log_is;
                waits = ap (λ (z : NodeState C). z.volatile.waiting) here ∙ ap (λ (ws : List (Entry C)). without same x ws) waits;
              });
            }))
        | inr few ↦
            let plan = idle v' in
            let w' = after w m come plan in
            let here = now w m come plan.change plan.volatile plan.sends in
            let kept_now : (w'.nodes m).volatile.kept ≡ kept = ap (λ (z : NodeState C). z.volatile.kept) here in
            let votes' : (k : ℕ) → k < suc j → members k ≡ true → kept p k ≡ b = λ k klt kq. elim (cases_eq k j) [
              | inl at ↦ subst (λ (i : ℕ). kept p i ≡ b) (sym at) (let u = keep_here v.kept p j b in omega arith)
              | inr ne ↦ keep_other v.kept p j b k ne ∙ votes k (omega arith) kq
            ] in
            deliver same exact n small since clocks members w j m said plan 0 (Votes_ (suc j)) l member q belongs sent (is ∙ ap (λ (z : Plan C). Planned z) (votes_more same n was v' b p x few)) (λ l'.
            already same exact n small since clocks members w' 0 (Votes_ (suc j)) (record {
              up_to = up_to_after n members top r w m come plan up_to (up_to_same top r (w.nodes m) v' (up_to m member belongs) (up_to m member belongs).heard);
              asked = λ k klt. fresh_left since w.sent _ _ (asked k klt);
              within = put_all (λ (k : ℕ) (z : NodeState C). k < n → members k ≡ true → promised_at z.stored.meta (z.stored.slots p) ≤ b) w.nodes m _ (within m) (λ k ne. within k);
              state = inl (record {
                log_is = log_stays w m come None v' [] refl m ∙ log_is;
                waits = ap (λ (z : NodeState C). z.volatile.waiting) here ∙ waits;
                votes = λ k klt kq. ap (λ (z : ℕ → ℕ → ℕ). z p k) kept_now ∙ votes' k klt kq;
                few = λ k klt kq. ap (λ (z : ℕ → ℕ → ℕ). is_majority n (λ i. nat_eq (z p i) b)) kept_now ∙ few;
              });
            }))
      ]

  -- the next member accepts, and m hears its vote
  vote_step : (j : ℕ) → j < n → members j ≡ true → (w : World C) → Live n since members w → Votes_ j w → Reaches same n since clocks members w 2 (Votes_ (suc j))
  vote_step j lt q w l g =
      elim g.state [
        | inr s ↦ already same exact n small since clocks members w 2 (Votes_ (suc j)) (record { up_to = g.up_to; asked = g.asked; within = g.within; state = inr s })
        | inl s ↦
            let p = front log in
            let d = record_of w j in
            let come : Input C = Comes m (Accept b p x) in
            let said : Message C = Vote b p x in
            let vj = (w.nodes j).volatile in
            let plan : Plan C = record { change = Some (NewAccepted p b x); volatile = vj; sends = to_all n j said } in
            let w1 = after w j come plan in
            let same_v : (w1.nodes m).volatile ≡ (w.nodes m).volatile = volatile_stays w j come plan.change plan.sends m in
            let slot : Slot C = record { promised = b; accepted = Some (record { ballot = b; entry = x }) } in
            let held : promised_at d.meta (put d.slots p slot p) ≡ promised_at d.meta slot = ap (λ (z : Slot C). promised_at d.meta z) (put_same d.slots p slot) in
            let had : promised_in w j p ≤ b = g.within j lt q in
            let within1 : (k : ℕ) → k < n → members k ≡ true → promised_in w1 k p ≤ b = put_all (λ (k : ℕ) (z : NodeState C). k < n → members k ≡ true → promised_at z.stored.meta (z.stored.slots p) ≤ b) w.nodes j _ (λ klt kq. omega arith) (λ k ne. g.within k) in
            let up1 = up_to_after n members top r w j come plan g.up_to (up_to_accepted top r (w.nodes j) p b x (g.up_to j lt q) beyond low) in
            deliver same exact n small since clocks members w m j (Accept b p x) plan 1 (Votes_ (suc j)) l lt belongs q (g.asked j lt) (accepts same n w j m b p x had) (λ l1.
            hear j w1 l1 lt q (sent_all w j come n small since l.sent plan.change vj said m member) up1
            (λ k klt. fresh_left since w.sent _ _ (g.asked k klt))
            within1
            (log_stays w j come plan.change vj plan.sends refl m ∙ s.log_is)
            (ap (λ (z : Volatile C). z.waiting) same_v ∙ s.waits)
            (let u = kept_bound n w1 l1.good.0 l1.good.1 m p j in let y = within1 j lt q in omega arith)
            (λ k klt kq. ap (λ (z : Volatile C). z.kept p k) same_v ∙ s.votes k klt kq))
      ]

  pub all_vote : (w : World C) → Live n since members w → Votes_ 0 w → Reaches same n since clocks members w (2 * n) (Votes_ n)
  all_vote w l g = each same exact n small since clocks members Votes_ 2 vote_step vote_skip w l g

  -- in the end m has learned it
  pub learned_there : (w : World C) → IsMajority n members → Votes_ n w → LearnedThere same log e rest x (learned_of w m) (w.nodes m).volatile
  learned_there w most g =
      elim g.state [
        | inl s ↦ absurd (majority_made n members (λ i. nat_eq ((w.nodes m).volatile.kept (front log) i) b) most (λ k lt q. eq-eqb _ b (s.votes k lt q)) s.few)
        | inr s ↦ s
      ]
