-- A round above all that the group promised at m's front: its members promise, and m proposes there.
use Rattle.std.proofs.Common.{◌≡◌, ℕ, suc, ◌+◌, ◌*◌, ◌<◌, ◌≤◌, max, Bool, true, false, cond, ◌⊎◌, inl, inr, List, ◌∷◌, Option, Some, None, arith, refl, sym, ap, subst, ◌∙◌}
use Rattle.std.proofs.lemmas.Bool.{cases_eq}
use Rattle.px_model.specs.Node.{IsEquality, Entry, Proposal, Log, Volatile, Message, Input, Plan}
use Rattle.px_model.specs.Node.Change.{NewFloor}
use Rattle.px_model.specs.Node.Phase.{Preparing}
use Rattle.px_model.specs.Node.Input.{Comes}
use Rattle.px_model.specs.Node.Message.{PrepareAll, PromiseAll, Accept}
use Rattle.px_model.specs.Node.Answer.{Planned}
use Rattle.px_model.specs.Step.{IsMajority, is_majority, put, promised_at, top, positions, front, answered, better}
use Rattle.px_model.specs.World.{World, NodeState}
use Rattle.px_model.specs.Law.{learned_of}
use Rattle.px_model.proofs.Basics.{put_all}
use Rattle.px_model.proofs.Backed.{record_of, promised_in}
use Rattle.px_model.proofs.Plans.{after}
use Rattle.px_model.proofs.Going.{Live, Reaches, IsFresh, fresh_left, already, deliver, each}
use Rattle.px_model.proofs.Replies.{counted_plan, proposing_plan, yes_no, majority_made, promises, counts, gathers, proposes, has_choice}
use Rattle.px_model.proofs.Attempts.{volatile_stays, log_stays, now, sent_all, sent_one, AllUpTo, up_to_after, up_to_floor, up_to_same}

-- m has counted the first j members of the group, and they were no majority
pub record Counting {C : Type 0} (n : ℕ) (members : ℕ → Bool) (p top b j : ℕ) (v : Volatile C) : Type 0 where
  pub counted : ℕ → Bool
  pub counted_top : ℕ
  pub best : Option (Proposal C)
  pub attempt : v.attempt ≡ Some (record { position = p; ballot = b; phase = Preparing counted counted_top best })
  pub few : (k : ℕ) → k < j → members k ≡ true → is_majority n counted ≡ false
  pub has : (k : ℕ) → k < j → members k ≡ true → counted k ≡ true
  pub open_ : top ≤ p → best ≡ None

-- m has proposed an entry there, to everybody: its own where nobody had accepted anything
pub record HasProposed {C : Type 0} (n since m p top b : ℕ) (e : Entry C) (w : World C) : Type 0 where
  pub entry : Entry C
  pub sent : (k : ℕ) → k < n → IsFresh since w.sent (record { sender = m; addressee = k; message = Accept b p entry })
  pub own : top ≤ p → entry ≡ e

pub record Gathering {C : Type 0} (n since : ℕ) (members : ℕ → Bool) (m : ℕ) (log : Log C) (e : Entry C) (rest : List (Entry C)) (top r b : ℕ) (j : ℕ) (w : World C) : Type 0 where
  pub log_is : learned_of w m ≡ log
  pub waits : (w.nodes m).volatile.waiting ≡ e ∷ rest
  pub up_to : AllUpTo n members top r w
  pub asked : (k : ℕ) → k < n → IsFresh since w.sent (record { sender = m; addressee = k; message = PrepareAll b (front log) })
  pub within : (k : ℕ) → k < n → members k ≡ true → promised_in w k (front log) ≤ b
  pub below : (k : ℕ) → j ≤ k → k < n → members k ≡ true → promised_in w k (front log) < b
  pub state : Counting n members (front log) top b j (w.nodes m).volatile ⊎ HasProposed n since m (front log) top b e w

none_better : {C : Type 0} (a b : Option (Proposal C)) → a ≡ None → b ≡ None → better a b ≡ None
none_better {C} a b x y = ap (λ (o : Option (Proposal C)). better a o) y ∙ x

module _ {C : Type 0} (same : C → C → Bool) (exact : IsEquality same) (n : ℕ) (small : n ≤ 15) (since : ℕ) (clocks members : ℕ → Bool) (m : ℕ) (member : m < n) (belongs : members m ≡ true) (log : Log C) (under : front log < positions) (e : Entry C) (rest : List (Entry C)) (top_ r b : ℕ) (low : b < (r + 1) * 256) where
  abbrev Gather : ℕ → World C → Type 0
  Gather j w = Gathering n since members m log e rest top_ r b j w

  pub before : (j : ℕ) → members j ≡ false → (k : ℕ) → k < suc j → members k ≡ true → k < j
  before j out k lt q =
      elim (cases_eq k j) [
        | inl is ↦ absurd (let c : true ≡ false = sym q ∙ (ap members is ∙ out) in cc)
        | inr ne ↦ omega arith
      ]

  gather_skip : (j : ℕ) → members j ≡ false → (w : World C) → Gather j w → Gather (suc j) w
  gather_skip j out w g = record {
    log_is = g.log_is;
    waits = g.waits;
    up_to = g.up_to;
    asked = g.asked;
    within = g.within;
    below = λ k over lt q. g.below k (omega arith) lt q;
    state = elim g.state [
      | inl c ↦ inl (record {
        counted = c.counted;
        counted_top = c.counted_top;
        best = c.best;
        attempt = c.attempt;
        few = λ k lt q. c.few k (before j out k lt q) q;
        has = λ k lt q. c.has k (before j out k lt q) q;
        open_ = c.open_;
      })
      | inr p ↦ inr p
    ];
  }

  -- m counts a promise
  heard : (j : ℕ) (w : World C) → Live n since members w → (said : Message C) (reported_top : ℕ) (report : Option (Proposal C)) → j < n → members j ≡ true → IsFresh since w.sent (record { sender = j; addressee = m; message = said }) → learned_of w m ≡ log → (w.nodes m).volatile.waiting ≡ e ∷ rest → AllUpTo n members top_ r w → ((k : ℕ) → k < n → IsFresh since w.sent (record { sender = m; addressee = k; message = PrepareAll b (front log) })) → ((k : ℕ) → k < n → members k ≡ true → promised_in w k (front log) ≤ b) → ((k : ℕ) → suc j ≤ k → k < n → members k ≡ true → promised_in w k (front log) < b) → (old : ℕ → Bool) (old_top : ℕ) (old_best : Option (Proposal C)) → said ≡ PromiseAll b (front log) reported_top report → (w.nodes m).volatile.attempt ≡ Some (record { position = front log; ballot = b; phase = Preparing old old_top old_best }) → (top_ ≤ front log → better old_best report ≡ None) → ((k : ℕ) → k < suc j → members k ≡ true → put old j true k ≡ true) → Reaches same n since clocks members w 1 (Gather (suc j))
  heard j w l said reported_top report lt q sent log_is waits up_to asked within below old old_top old_best saying attempt open_ has =
      let p = front log in
      let v = (w.nodes m).volatile in
      let come : Input C = Comes j (PromiseAll b p reported_top report) in
      let counted = put old j true in
      let counted_top = cond (old j) old_top (max old_top reported_top) in
      let best = better old_best report in
      let is = counts same n w m j b p reported_top old_top report old_best old attempt in
      let arrives : IsFresh since w.sent (record { sender = j; addressee = m; message = PromiseAll b p reported_top report }) = subst (λ (x : Message C). IsFresh since w.sent (record { sender = j; addressee = m; message = x })) saying sent in
      elim (yes_no (is_majority n counted)) [
        | inl many ↦
            let x = has_choice best v.waiting e rest waits in
            let plan = proposing_plan n m v b p (max (p + 1) counted_top) x.0 in
            let w' = after w m come plan in
            deliver same exact n small since clocks members w j m (PromiseAll b p reported_top report) plan 0 (Gather (suc j)) l member q belongs arrives (is ∙ ap (λ (z : Plan C). Planned z) (proposes n m v b p counted counted_top best x.0 many x.1)) (λ l'.
            already same exact n small since clocks members w' 0 (Gather (suc j)) (record {
              log_is = log_stays w m come None plan.volatile plan.sends refl m ∙ log_is;
              waits = ap (λ (z : NodeState C). z.volatile.waiting) (now w m come None plan.volatile plan.sends) ∙ waits;
              up_to = up_to_after n members top_ r w m come plan up_to (up_to_same top_ r (w.nodes m) plan.volatile (up_to m member belongs) (up_to m member belongs).heard);
              asked = λ k klt. fresh_left since w.sent _ _ (asked k klt);
              within = put_all (λ (k : ℕ) (z : NodeState C). k < n → members k ≡ true → promised_at z.stored.meta (z.stored.slots p) ≤ b) w.nodes m _ (within m) (λ k ne. within k);
              below = put_all (λ (k : ℕ) (z : NodeState C). suc j ≤ k → k < n → members k ≡ true → promised_at z.stored.meta (z.stored.slots p) < b) w.nodes m _ (below m) (λ k ne. below k);
              state = inr (record {
                entry = x.0;
                sent = λ k klt. sent_all w m come n small since l.sent None plan.volatile (Accept b p x.0) k klt;
                own = λ over. x.2 (open_ over);
              });
            }))
        | inr few ↦
            let plan = counted_plan v b p counted counted_top best in
            let w' = after w m come plan in
            deliver same exact n small since clocks members w j m (PromiseAll b p reported_top report) plan 0 (Gather (suc j)) l member q belongs arrives (is ∙ ap (λ (z : Plan C). Planned z) (gathers n m v b p counted counted_top best few)) (λ l'.
            already same exact n small since clocks members w' 0 (Gather (suc j)) (record {
              log_is = log_stays w m come None plan.volatile plan.sends refl m ∙ log_is;
              waits = ap (λ (z : NodeState C). z.volatile.waiting) (now w m come None plan.volatile plan.sends) ∙ waits;
              up_to = up_to_after n members top_ r w m come plan up_to (up_to_same top_ r (w.nodes m) plan.volatile (up_to m member belongs) (up_to m member belongs).heard);
              asked = λ k klt. fresh_left since w.sent _ _ (asked k klt);
              within = put_all (λ (k : ℕ) (z : NodeState C). k < n → members k ≡ true → promised_at z.stored.meta (z.stored.slots p) ≤ b) w.nodes m _ (within m) (λ k ne. within k);
              below = put_all (λ (k : ℕ) (z : NodeState C). suc j ≤ k → k < n → members k ≡ true → promised_at z.stored.meta (z.stored.slots p) < b) w.nodes m _ (below m) (λ k ne. below k);
              state = inl (record {
                counted = counted;
                counted_top = counted_top;
                best = best;
                attempt = ap (λ (z : NodeState C). z.volatile.attempt) (now w m come None plan.volatile plan.sends);
                few = λ k klt kq. few;
                has = has;
                open_ = open_;
              });
            }))
      ]

  -- the next member promises, and m counts it
  gather_step : (j : ℕ) → j < n → members j ≡ true → (w : World C) → Live n since members w → Gather j w → Reaches same n since clocks members w 2 (Gather (suc j))
  gather_step j lt q w l g =
      elim g.state [
        | inr proposed ↦ already same exact n small since clocks members w 2 (Gather (suc j)) (record {
          log_is = g.log_is;
          waits = g.waits;
          up_to = g.up_to;
          asked = g.asked;
          within = g.within;
          below = λ k over klt kq. g.below k (omega arith) klt kq;
          state = inr proposed;
        })
        | inl c ↦
            let p = front log in
            let d = record_of w j in
            let come : Input C = Comes m (PrepareAll b p) in
            let reported_top = top d.slots in
            let report = (d.slots p).accepted in
            let said : Message C = PromiseAll b p reported_top report in
            let vj = (w.nodes j).volatile in
            let plan = answered (Some (NewFloor b)) vj j m said in
            let w1 = after w j come plan in
            let less = g.below j (omega arith) lt q in
            let up1 : AllUpTo n members top_ r w1 = up_to_after n members top_ r w j come plan g.up_to (up_to_floor top_ r (w.nodes j) b (g.up_to j lt q) low) in
            let same_v : (w1.nodes m).volatile ≡ (w.nodes m).volatile = volatile_stays w j come plan.change plan.sends m in
            let log1 : learned_of w1 m ≡ log = log_stays w j come plan.change vj plan.sends refl m ∙ g.log_is in
            let waits1 : (w1.nodes m).volatile.waiting ≡ e ∷ rest = ap (λ (z : Volatile C). z.waiting) same_v ∙ g.waits in
            let attempt1 : (w1.nodes m).volatile.attempt ≡ Some (record { position = p; ballot = b; phase = Preparing c.counted c.counted_top c.best }) = ap (λ (z : Volatile C). z.attempt) same_v ∙ c.attempt in
            let within1 : (k : ℕ) → k < n → members k ≡ true → promised_in w1 k p ≤ b = put_all (λ (k : ℕ) (z : NodeState C). k < n → members k ≡ true → promised_at z.stored.meta (z.stored.slots p) ≤ b) w.nodes j _ (λ klt kq. omega arith) (λ k ne. g.within k) in
            let below1 : (k : ℕ) → suc j ≤ k → k < n → members k ≡ true → promised_in w1 k p < b = put_all (λ (k : ℕ) (z : NodeState C). suc j ≤ k → k < n → members k ≡ true → promised_at z.stored.meta (z.stored.slots p) < b) w.nodes j _ (λ over klt kq. absurd (omega arith)) (λ k ne over klt kq. g.below k (omega arith) klt kq) in
            let asked1 : (k : ℕ) → k < n → IsFresh since w1.sent (record { sender = m; addressee = k; message = PrepareAll b p }) = λ k klt. fresh_left since w.sent _ _ (g.asked k klt) in
            let counted = put c.counted j true in
            let best = better c.best report in
            let open1 : top_ ≤ p → best ≡ None = λ over. none_better c.best report (c.open_ over) ((g.up_to j lt q).accepted p over under) in
            let has1 : (k : ℕ) → k < suc j → members k ≡ true → counted k ≡ true = put_all (λ (k : ℕ) (z : Bool). k < suc j → members k ≡ true → z ≡ true) c.counted j true (λ klt kq. refl) (λ k ne klt kq. c.has k (omega arith) kq) in
            deliver same exact n small since clocks members w m j (PrepareAll b p) plan 1 (Gather (suc j)) l lt belongs q (g.asked j lt) (promises same n w j m b p less) (λ l1.
            heard j w1 l1 said reported_top report lt q (sent_one w j come n small since l.sent plan.change vj said m member) log1 waits1 up1 asked1 within1 below1 c.counted c.counted_top c.best refl attempt1 open1 has1)
      ]

  pub all_promise : (w : World C) → IsMajority n members → Live n since members w → Gather 0 w → Reaches same n since clocks members w (2 * n) (Gather n)
  all_promise w most l g = each same exact n small since clocks members Gather 2 gather_step gather_skip w l g

  -- in the end m has proposed
  pub proposed : (w : World C) → IsMajority n members → Gather n w → HasProposed n since m (front log) top_ b e w
  proposed w most g =
      elim g.state [
        | inl c ↦ absurd (majority_made n members c.counted most c.has c.few)
        | inr p ↦ p
      ]
