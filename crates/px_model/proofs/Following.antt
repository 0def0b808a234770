-- When m has learned what it waited for, the others of the group learn it too.
use Rattle.std.proofs.Common.{◌≡◌, ℕ, zero, suc, ◌+◌, ◌-◌, ◌*◌, ◌^◌, ◌<◌, ◌≤◌, max, Bool, true, false, inl, inr, List, [], ◌∷◌, length, Some, arith, refl, sym, ap, subst, subst₂, ◌∙◌, add-mul, mul-add, mul_comm, mul_assoc, mul-le-mul_right}
use Rattle.std.proofs.lemmas.Bool.{cases_lt, cases_eq}
use Rattle.px_model.specs.Node.{IsEquality, Entry, Log, Slot, Meta, round_of}
use Rattle.px_model.specs.Step.{IsMajority, positions, front, promised_at}
use Rattle.px_model.specs.World.{World}
use Rattle.px_model.specs.Law.{learned_of, world_after}
use Rattle.px_model.specs.Progress.{AllHave, AllLearn}
use Rattle.px_model.proofs.Basics.{put_same}
use Rattle.px_model.proofs.Agreement.{one_chosen}
use Rattle.px_model.proofs.Once.{grounds}
use Rattle.px_model.proofs.Plans.{front_within, below_front}
use Rattle.px_model.proofs.Runs.{always_good}
use Rattle.px_model.proofs.Going.{Live, Reaches, all_new, already, weaker, then, each}
use Rattle.px_model.proofs.Attempts.{AllUpTo, up_to_weaker}
use Rattle.px_model.proofs.CatchingUp.{Keeps, keeping, front_kept, front_passed, LearnedAt, learned_next}
use Rattle.px_model.proofs.Finishing.{Attempted, attempt, Finished, finish, learned_low}

-- ---- a member goes one position on

-- a member that learned something got no further in anything else
up_to_one_more : {C : Type 0} (n : ℕ) (members : ℕ → Bool) (top r : ℕ) (w w' : World C) (j p : ℕ) (x : Entry C) → LearnedAt w w' j p x → AllUpTo n members top r w → AllUpTo n members top r w'
up_to_one_more {C} n members top r w w' j p x t all k lt q =
    let g = all k lt q in
    let slots = t.slots k in
    let meta = t.meta k in
    record {
      accepted = λ i over under. ap (λ (s : ℕ → Slot C). (s i).accepted) slots ∙ g.accepted i over under;
      promised = λ i. subst₂ (λ (a : Meta) (s : ℕ → Slot C). round_of (promised_at a (s i)) ≤ r) (sym meta) (sym slots) (g.promised i);
      used = subst (λ (a : Meta). a.round ≤ r) (sym meta) g.used;
      heard = subst (λ (a : ℕ). a ≤ r) (sym (t.seen k)) g.heard;
    }

module _ {C : Type 0} (same : C → C → Bool) (exact : IsEquality same) (n : ℕ) (small : n ≤ 15) (since : ℕ) (members : ℕ → Bool) (most : IsMajority n members) (m : ℕ) (member : m < n) (belongs : members m ≡ true) (top : ℕ) where
  abbrev Goes : World C → ℕ → (World C → Type 0) → Type 0
  Goes w limit P = Reaches same n since members members w limit P

  -- j learned a position
  abbrev At : ℕ → ℕ → ℕ → World C → Type 0
  At j p r w = AllUpTo n members top r w × ((x : Entry C) × (learned_of w j p ≡ Some x))

  -- j waits for nothing: it learns
  hears_it : (j : ℕ) → j < n → members j ≡ true → (r : ℕ) (w : World C) → Live n since members w → (w.nodes j).volatile.waiting ≡ [] → front (learned_of w j) < front (learned_of w m) → AllUpTo n members top r w → Goes w 3 (At j (front (learned_of w j)) r)
  hears_it j lt q r w l idle_ behind up_to =
      let p = front (learned_of w j) in
      let under : p < positions = (let u = front_within (learned_of w m) in omega arith) in
      let known = below_front (learned_of w m) p behind in
      weaker same exact n small since members members w 3 3 (λ z. LearnedAt w z j p known.0) (At j p r) (omega arith)
      (λ z t. (up_to_one_more n members top r w z j p known.0 t up_to, (known.0, t.learned)))
      (learned_next same exact n small since members members m member belongs j lt q q w l idle_ known.0 known.1 under)

  -- j waits: it makes an attempt
  tries : (j : ℕ) → j < n → members j ≡ true → (r : ℕ) (e : Entry C) (rest : List (Entry C)) (w : World C) → Live n since members w → (w.nodes j).volatile.waiting ≡ e ∷ rest → front (learned_of w j) < front (learned_of w m) → AllUpTo n members top r w → r + 2 < 2 ^ 48 → Goes w (6 * n + 3) (At j (front (learned_of w j)) (r + 2))
  tries j lt q r e rest w l waits behind up_to enough =
      let log = learned_of w j in
      let p = front log in
      let under : p < positions = (let u = front_within (learned_of w m) in omega arith) in
      let known = below_front (learned_of w m) p behind in
      let less = learned_low n w l.good.0 l.good.1 members most top r up_to m p known.0 known.1 under in
      weaker same exact n small since members members w (6 * n + 3) (6 * n + 3) (Attempted same n members j log e rest top (r + 2)) (At j p (r + 2)) (omega arith)
      (λ w' a. (
        (λ k klt kq. up_to_weaker (max top (suc p)) top (r + 2) (r + 2) (w'.nodes k) (omega arith) (omega arith) (a.up_to k klt kq)),
        (a.entry, ap (λ (z : Log C). z p) a.log_is ∙ put_same log p (Some a.entry)),
      ))
      (attempt same exact n small since members members most j lt q q log under e rest top r w l refl waits up_to enough)

  advances : (j : ℕ) → j < n → members j ≡ true → (r : ℕ) (ws : List (Entry C)) (w : World C) → Live n since members w → (w.nodes j).volatile.waiting ≡ ws → front (learned_of w j) < front (learned_of w m) → AllUpTo n members top r w → r + 2 < 2 ^ 48 → Goes w (6 * n + 3) (At j (front (learned_of w j)) (r + 2))
  advances j lt q r [] w l waits behind up_to enough =
      weaker same exact n small since members members w 3 (6 * n + 3) (At j (front (learned_of w j)) r) (At j (front (learned_of w j)) (r + 2)) (omega arith)
      (λ w' a. ((λ k klt kq. up_to_weaker top top r (r + 2) (w'.nodes k) (omega arith) (omega arith) (a.0 k klt kq)), a.1))
      (hears_it j lt q r w l waits behind up_to)
  advances j lt q r (e ∷ rest) w l waits behind up_to enough = tries j lt q r e rest w l waits behind up_to enough

  -- ---- up to a position that m has passed

  abbrev Caught : ℕ → ℕ → ℕ → World C → Type 0
  Caught j p r w = AllUpTo n members top r w × (p < front (learned_of w j))

  catches : (j : ℕ) → j < n → members j ≡ true → (p d r : ℕ) (w : World C) → Live n since members w → p < front (learned_of w j) + d → p < front (learned_of w m) → AllUpTo n members top r w → r + 2 * d < 2 ^ 48 → Goes w (d * (6 * n + 3)) (Caught j p (r + 2 * d))
  catches j lt q p zero r w l far passed up_to enough =
      already same exact n small since members members w (zero * (6 * n + 3)) (Caught j p (r + 2 * zero)) ((λ k klt kq. up_to_weaker top top r (r + 2 * zero) (w.nodes k) (omega arith) (omega arith) (up_to k klt kq)), omega arith)
  catches j lt q p (suc d) r w l far passed up_to enough =
      let f = front (learned_of w j) in
      let k = 6 * n + 3 in
      let s = r + 2 * suc d in
      let P : World C → Type 0 = λ z. Caught j p s z in
      elim (cases_lt p f) [
        | inl less ↦ already same exact n small since members members w (suc d * k) P ((λ i klt kq. up_to_weaker top top r s (w.nodes i) (omega arith) (omega arith) (up_to i klt kq)), less)
        | inr over ↦
            let behind : f < front (learned_of w m) = omega arith in
            let under : f < positions = (let u = front_within (learned_of w m) in omega arith) in
            weaker same exact n small since members members w (k + d * k) (suc d * k) P P (let a = add-mul 1 d k in omega arith) (λ w' z. z)
            (then same exact n small since members members w k (d * k) (λ z. At j f (r + 2) z × Keeps w z) P l
            (keeping same exact n small since members members w k (At j f (r + 2)) l (advances j lt q r (w.nodes j).volatile.waiting w l refl behind up_to (omega arith)))
            (λ w' l' a.
            let rises = front_passed w w' a.1 j a.0.1.0 under a.0.1.1 in
            let same_rounds : r + 2 + 2 * d ≡ s = omega arith in
            subst (λ (z : ℕ). Goes w' (d * k) (Caught j p z)) same_rounds
            (catches j lt q p d (r + 2) w' l' (omega arith) (front_kept w w' a.1 m p passed) a.0.0 (omega arith))))
      ]

-- ---- one member after another

-- m has passed the position of e, and so have the first j members of the group
pub record Follows {C : Type 0} (n : ℕ) (members : ℕ → Bool) (m p : ℕ) (e : Entry C) (top r j : ℕ) (w : World C) : Type 0 where
  pub up_to : AllUpTo n members top r w
  pub has : learned_of w m p ≡ Some e
  pub passed : p < front (learned_of w m)
  pub caught : (k : ℕ) → k < j → members k ≡ true → p < front (learned_of w k)

module _ {C : Type 0} (same : C → C → Bool) (exact : IsEquality same) (n : ℕ) (small : n ≤ 15) (since : ℕ) (members : ℕ → Bool) (most : IsMajority n members) (m : ℕ) (member : m < n) (belongs : members m ≡ true) (top p far r : ℕ) (e : Entry C) (near : p < far) (enough : r + n * (far + far) < 2 ^ 48) where
  abbrev Step_ : ℕ → World C → Type 0
  Step_ j w = Follows n members m p e top (r + j * (far + far)) j w

  more_rounds : (j : ℕ) → suc j * (far + far) ≡ j * (far + far) + (far + far)
  more_rounds j = let a = add-mul 1 j (far + far) in let u : suc j ≡ 1 + j = omega arith in ap (λ (k : ℕ). k * (far + far)) u ∙ omega arith

  follow_skip : (j : ℕ) → members j ≡ false → (w : World C) → Step_ j w → Step_ (suc j) w
  follow_skip j out w g = record {
    up_to = λ k lt q. up_to_weaker top top (r + j * (far + far)) (r + suc j * (far + far)) (w.nodes k) (omega arith) (let u = more_rounds j in omega arith) (g.up_to k lt q);
    has = g.has;
    passed = g.passed;
    caught = λ k lt q. elim (cases_eq k j) [
      | inl is ↦ absurd (let c : true ≡ false = sym q ∙ (ap members is ∙ out) in cc)
      | inr ne ↦ g.caught k (omega arith) q
    ];
  }

  follow_step : (j : ℕ) → j < n → members j ≡ true → (w : World C) → Live n since members w → Step_ j w → Reaches same n since members members w (far * (6 * n + 3)) (Step_ (suc j))
  follow_step j lt q w l g =
      let s = r + j * (far + far) in
      let u = more_rounds j in
      let within : suc j * (far + far) ≤ n * (far + far) = mul-le-mul_right (far + far) lt in
      let limit = far * (6 * n + 3) in
      weaker same exact n small since members members w limit limit (λ z. ((AllUpTo n members top (s + 2 * far) z) × (p < front (learned_of z j))) × Keeps w z) (Step_ (suc j)) (omega arith)
      (λ w' a. record {
        up_to = λ k klt kq. up_to_weaker top top (s + 2 * far) (r + suc j * (far + far)) (w'.nodes k) (omega arith) (omega arith) (a.0.0 k klt kq);
        has = a.1.learned m p e g.has;
        passed = front_kept w w' a.1 m p g.passed;
        caught = λ k klt kq. elim (cases_eq k j) [
          | inl is ↦ subst (λ (i : ℕ). p < front (learned_of w' i)) (sym is) a.0.1
          | inr ne ↦ front_kept w w' a.1 k p (g.caught k (omega arith) kq)
        ];
      })
      (keeping same exact n small since members members w limit (λ z. (AllUpTo n members top (s + 2 * far) z) × (p < front (learned_of z j))) l
      (catches same exact n small since members most m member belongs top j lt q p far s w l (omega arith) g.passed g.up_to (omega arith)))

  pub all_follow : (w : World C) → Live n since members w → Step_ 0 w → Reaches same n since members members w (far * (6 * n + 3) * n) (Step_ n)
  all_follow w l g = each same exact n small since members members Step_ (far * (6 * n + 3)) follow_step follow_skip w l g

  -- in the end each has learned e there
  pub all_have : (w : World C) → Live n since members w → Step_ n w → AllHave n members e w
  all_have w l g k lt q =
      let s = below_front (learned_of w k) p (g.caught k lt q) in
      let h = l.good.0 in
      let inv = l.good.1 in
      let is : s.0 ≡ e = one_chosen n w h (grounds n w h inv) p s.0 e ((inv.stored k).learned p s.0 s.1) ((inv.stored m).learned p e g.has) in
      (p, s.1 ∙ ap (λ (z : Entry C). Some z) is)

rounds_sum : (n far : ℕ) → n * (far + far) + 2 * far ≡ 2 * ((n + 1) * far)
rounds_sum n far = let a = mul-add n far far in let b = add-mul n 1 far in omega arith

events_sum : (n a k far : ℕ) → a ≤ far → a * k + far * k * n ≤ (n + 1) * far * k
events_sum n a k far le =
    let x : a * k ≤ far * k = mul-le-mul_right k le in
    let c : far * k * n ≡ n * (far * k) = mul_comm (far * k) n in
    let y : (n + 1) * far * k ≡ (n + 1) * (far * k) = mul_assoc (n + 1) far k in
    let z = add-mul n 1 (far * k) in
    omega arith

pub all_learn : {C : Type 0} → AllLearn C
all_learn {C} same exact n some small events members top r m before e waits low enough =
    let w = world_after same n events in
    let f = front (learned_of w m) in
    let c = waits.majority_runs in
    let end = top + length before in
    let d = end - f in
    let far = end + 1 in
    let k = 6 * n + 3 in
    let s = r + 2 * (d + 1) in
    let sum = rounds_sum n far in
    let since = length w.sent in
    let l : Live n since members w = record { good = always_good same exact n small events; up = c.running; sent = omega arith } in
    all_new same n members members w _ _
    (weaker same exact n small since members members w ((d + 1) * k + far * k * n) ((n + 1) * (end + 1) * k) (AllHave n members e) (AllHave n members e) (events_sum n (d + 1) k far (omega arith)) (λ w' z. z)
    (then same exact n small since members members w ((d + 1) * k) (far * k * n) (Finished n members m e end s) (AllHave n members e) l
    (finish same exact n small since members members c.majority m waits.member waits.belongs waits.belongs e end low d top r before waits.rest w l (omega arith) (omega arith) waits.waiting c.up_to (omega arith))
    (λ w1 l1 g.
    let p = g.position in
    let near : p < far = (let u = g.early in omega arith) in
    let within : s + n * (far + far) < 2 ^ 48 = omega arith in
    weaker same exact n small since members members w1 (far * k * n + 0) (far * k * n) (AllHave n members e) (AllHave n members e) (omega arith) (λ w' z. z)
    (then same exact n small since members members w1 (far * k * n) 0 (λ z. Follows n members m p e (suc end) (s + n * (far + far)) n z) (AllHave n members e) l1
    (all_follow same exact n small since members c.majority m waits.member waits.belongs (suc end) p far s e near within w1 l1 (record {
      up_to = λ i lt q. up_to_weaker (suc end) (suc end) s (s + 0 * (far + far)) (w1.nodes i) (omega arith) (omega arith) (g.up_to i lt q);
      has = g.has;
      passed = g.passed;
      caught = λ i lt q. absurd (omega arith);
    }))
    (λ w2 l2 z. already same exact n small since members members w2 0 (AllHave n members e) (all_have same exact n small since members c.majority m waits.member waits.belongs (suc end) p far s e near within w2 l2 z))))))
