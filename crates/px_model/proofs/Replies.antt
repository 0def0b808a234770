-- What a member answers in an attempt that succeeds, case by case.
use Rattle.std.proofs.Common.{◌≡◌, ℕ, zero, suc, ◌+◌, ◌*◌, ◌^◌, ◌<◌, ◌≤◌, max, Bool, true, false, cond, ◌&&◌, ◌⊎◌, inl, inr, List, [], ◌∷◌, Option, Some, None, is_none, arith, refl, sym, ap, ◌∙◌, eqb, ltb, leb, nat_eq, eq-eqb, ne_eqb, lt-ltb, le-leb, le-ltb}
use borrow.Author.Tests.{lt-leb}
use Rattle.std.proofs.lemmas.Bool.{and_from}
use Rattle.px_model.specs.Node.{Entry, Proposal, Meta, Log, Attempt, Lead, Volatile, Plan, ballot_of, round_of}
use Rattle.px_model.specs.Node.Change.{NewRound, NewFloor, NewAccepted, NewLearned}
use Rattle.px_model.specs.Node.Phase.{Preparing, Accepting}
use Rattle.px_model.specs.Node.Input.{Ticks, Comes}
use Rattle.px_model.specs.Node.Message.{PrepareAll, PromiseAll, Accept, Vote, Nack}
use Rattle.px_model.specs.Node.Answer.{Planned}
use Rattle.px_model.specs.Step.{count, IsMajority, is_majority, put, top, positions, front, in_window, idle, to_all, answered, next_round, new_round, use_lead, propose, tick_for, on_tick, on_prepare_all, on_accept, better, choice, phase_two, gathered, promise_to, on_promise_all, drop_attempt, drop_lead, on_learning, learn, keep, with_vote, on_vote, on_nack, step}
use Rattle.px_model.specs.World.{World, step_in}
use Rattle.px_model.specs.Law.{learned_of}
use Rattle.px_model.proofs.Basics.{majorities_meet}
use Rattle.px_model.proofs.Backed.{record_of, promised_in}

-- ---- tests

pub if_true : {X : Type 0} (b : Bool) (x y : X) → b ≡ true → cond b x y ≡ x
if_true b x y t = ap (λ (c : Bool). cond c x y) t

pub if_false : {X : Type 0} (b : Bool) (x y : X) → b ≡ false → cond b x y ≡ y
if_false b x y f = ap (λ (c : Bool). cond c x y) f

pub yes_no : (b : Bool) → (b ≡ true) ⊎ (b ≡ false)
yes_no true = inl refl
yes_no false = inr refl

pub some_or_none : {X : Type 0} (o : Option X) → (o ≡ None) ⊎ ((x : X) × (o ≡ Some x))
some_or_none None = inl refl
some_or_none (Some x) = inr (x, refl)

more_counted : (p q : Bool) (a b : ℕ) → (p ≡ true → q ≡ true) → a ≤ b → cond p (suc a) a ≤ cond q (suc b) b
more_counted true true a b i le = omega arith
more_counted true false a b i le = absurd (let c : false ≡ true = i refl in cc)
more_counted false true a b i le = omega arith
more_counted false false a b i le = le

pub count_more : (n : ℕ) (P Q : ℕ → Bool) → ((k : ℕ) → k < n → P k ≡ true → Q k ≡ true) → count n P ≤ count n Q
count_more zero P Q i = omega arith
count_more (suc n) P Q i = more_counted (P n) (Q n) (count n P) (count n Q) (i n (omega arith)) (count_more n P Q (λ k lt. i k (omega arith)))

-- a set that has a majority's members is a majority
pub majority_of : (n : ℕ) (P Q : ℕ → Bool) → IsMajority n P → ((k : ℕ) → k < n → P k ≡ true → Q k ≡ true) → is_majority n Q ≡ true
majority_of n P Q m i = lt-ltb n (2 * count n Q) (let u = count_more n P Q i in omega arith)

-- if the members of a majority don't make one, nobody is among them
pub majority_made : (n : ℕ) (P Q : ℕ → Bool) → IsMajority n P → ((k : ℕ) → k < n → P k ≡ true → Q k ≡ true) → ((k : ℕ) → k < n → P k ≡ true → is_majority n Q ≡ false) → ⊥
majority_made n P Q m i few =
    let s = majorities_meet n P P m m in
    let t = majority_of n P Q m i in
    let f = few s.0 s.1 s.2 in
    let c : true ≡ false = sym t ∙ f in
    absurd (cc)

-- ---- plans

-- there is no lead, or none to be used here
abbrev pub NoLead : (front : ℕ) → Option Lead → Type 0
NoLead p None = Unit {0}
NoLead p (Some x) = p < x.from

-- a round begins
abbrev pub round_plan : {C : Type 0} → (n me : ℕ) → Meta → (front : ℕ) → Volatile C → Plan C
round_plan n me meta p v = record {
  change = Some (NewRound (next_round meta v));
  volatile = record v {
    attempt = Some (record { position = p; ballot = ballot_of (next_round meta v) me; phase = Preparing (λ m. false) 0 None });
    lead = None;
  };
  sends = to_all n me (PrepareAll (ballot_of (next_round meta v) me) p);
}

round_is : {C : Type 0} (n me : ℕ) (meta : Meta) (p : ℕ) (v : Volatile C) → next_round meta v < 2 ^ 48 → new_round n me meta p v ≡ Planned (round_plan n me meta p v)
unfolding new_round
round_is n me meta p v low = if_true (ltb (next_round meta v) (2 ^ 48)) _ _ (lt-ltb (next_round meta v) (2 ^ 48) low)

propose_round : {C : Type 0} (n me : ℕ) (meta : Meta) (p : ℕ) (v : Volatile C) (e : Entry C) (o : Option Lead) → NoLead p o → propose n me meta p v e o ≡ new_round n me meta p v
propose_round n me meta p v e None g = refl
propose_round n me meta p v e (Some x) g = if_false (leb x.from p) _ _ (lt-leb x.from p g)

-- a lead is used
abbrev pub lead_plan : {C : Type 0} → (n me front : ℕ) → Volatile C → Entry C → Lead → Plan C
lead_plan n me p v e x = record {
  change = None;
  volatile = record v {
    attempt = Some (record { position = p; ballot = x.ballot; phase = Accepting e });
    lead = Some (record { ballot = x.ballot; from = p + 1 });
  };
  sends = to_all n me (Accept x.ballot p e);
}

-- a refusal is heard
abbrev pub nack_plan : {C : Type 0} → Volatile C → (b p q : ℕ) → Plan C
nack_plan v b p q = idle (record v { attempt = drop_attempt b p v.attempt; lead = drop_lead b v.lead; seen = max v.seen (round_of q) })

-- that many have promised, and they aren't a majority
abbrev pub counted_plan : {C : Type 0} → Volatile C → (b p : ℕ) → (counted : ℕ → Bool) → (top : ℕ) → Option (Proposal C) → Plan C
counted_plan v b p counted top best = idle (record v { attempt = Some (record { position = p; ballot = b; phase = Preparing counted top best }) })

-- a majority has promised
abbrev pub proposing_plan : {C : Type 0} → (n me : ℕ) → Volatile C → (b p from : ℕ) → Entry C → Plan C
proposing_plan n me v b p from e = record {
  change = None;
  volatile = record v {
    attempt = Some (record { position = p; ballot = b; phase = Accepting e });
    lead = Some (record { ballot = b; from = from });
  };
  sends = to_all n me (Accept b p e);
}

-- a majority has voted
abbrev pub learning_plan : {C : Type 0} → (C → C → Bool) → Log C → Volatile C → ℕ → Entry C → Plan C
learning_plan same log v p e = record {
  change = Some (NewLearned p e);
  volatile = on_learning same (front (put log p (Some e))) e v;
  sends = [];
}

pub gathers : {C : Type 0} (n me : ℕ) (v : Volatile C) (b p : ℕ) (counted : ℕ → Bool) (top : ℕ) (best : Option (Proposal C)) → is_majority n counted ≡ false → gathered n me v b p counted top best ≡ counted_plan v b p counted top best
unfolding gathered
gathers n me v b p counted top best few = if_false (is_majority n counted) _ _ few

pub proposes : {C : Type 0} (n me : ℕ) (v : Volatile C) (b p : ℕ) (counted : ℕ → Bool) (top : ℕ) (best : Option (Proposal C)) (e : Entry C) → is_majority n counted ≡ true → choice best v.waiting ≡ Some e → gathered n me v b p counted top best ≡ proposing_plan n me v b p (max (p + 1) top) e
unfolding gathered
proposes {C} n me v b p counted top best e many is =
    if_true (is_majority n counted) _ _ many ∙ ap (λ (o : Option (Entry C)). phase_two n me v b p (max (p + 1) top) o) is

-- something is proposed where something waits: what was reported, or else what waits first
pub has_choice : {C : Type 0} (best : Option (Proposal C)) (ws : List (Entry C)) (e : Entry C) (rest : List (Entry C)) → ws ≡ e ∷ rest → (x : Entry C) × (choice best ws ≡ Some x) × (best ≡ None → x ≡ e)
has_choice {C} (Some y) ws e rest waits = (y.entry, refl, λ none. absurd (let c : Some y ≡ None = none in cc))
has_choice {C} None ws e rest waits = (e, ap (λ (l : List (Entry C)). choice None l) waits, λ none. refl)

pub votes_more : {C : Type 0} (same : C → C → Bool) (n : ℕ) (log : Log C) (v : Volatile C) (b p : ℕ) (e : Entry C) → is_majority n (λ k. nat_eq (v.kept p k) b) ≡ false → with_vote same n log v b p e ≡ idle v
unfolding with_vote
votes_more same n log v b p e few = if_false (is_majority n (λ k. nat_eq (v.kept p k) b)) _ _ few

pub votes_done : {C : Type 0} (same : C → C → Bool) (n : ℕ) (log : Log C) (v : Volatile C) (b p : ℕ) (e : Entry C) → is_majority n (λ k. nat_eq (v.kept p k) b) ≡ true → with_vote same n log v b p e ≡ learning_plan same log v p e
unfolding with_vote learn
votes_done same n log v b p e many = if_true (is_majority n (λ k. nat_eq (v.kept p k) b)) _ _ many

pub keep_here : (kept : (position member : ℕ) → ℕ) (p m b : ℕ) → keep kept p m b p m ≡ max (kept p m) b
keep_here kept p m b = if_true (eqb p p) _ _ (eq-eqb p p refl) ∙ if_true (eqb m m) _ _ (eq-eqb m m refl)

pub keep_other : (kept : (position member : ℕ) → ℕ) (p m b k : ℕ) → (k ≡ m → ⊥) → keep kept p m b p k ≡ kept p k
keep_other kept p m b k ne = if_true (eqb p p) _ _ (eq-eqb p p refl) ∙ if_false (eqb k m) _ _ (ne_eqb k m ne)

-- ---- the acceptor

module _ {C : Type 0} (same : C → C → Bool) (n : ℕ) (w : World C) where
  pub refuses : (k from b p : ℕ) → b ≤ promised_in w k p → step_in same n w k (Comes from (PrepareAll b p)) ≡ Planned (answered None (w.nodes k).volatile k from (Nack b p (promised_in w k p)))
  unfolding step on_prepare_all
  refuses k from b p le = ap (λ (z : Plan C). Planned z) (if_false (ltb (promised_in w k p) b) _ _ (le-ltb (promised_in w k p) b le))

  pub promises : (k from b p : ℕ) → promised_in w k p < b → step_in same n w k (Comes from (PrepareAll b p)) ≡ Planned (answered (Some (NewFloor b)) (w.nodes k).volatile k from (PromiseAll b p (top (record_of w k).slots) ((record_of w k).slots p).accepted))
  unfolding step on_prepare_all
  promises k from b p lt = ap (λ (z : Plan C). Planned z) (if_true (ltb (promised_in w k p) b) _ _ (lt-ltb (promised_in w k p) b lt))

  pub accepts : (k from b p : ℕ) (e : Entry C) → promised_in w k p ≤ b → step_in same n w k (Comes from (Accept b p e)) ≡ Planned (record { change = Some (NewAccepted p b e); volatile = (w.nodes k).volatile; sends = to_all n k (Vote b p e) })
  unfolding step on_accept
  accepts k from b p e le = ap (λ (z : Plan C). Planned z) (if_true (leb (promised_in w k p) b) _ _ (le-leb (promised_in w k p) b le))

  pub is_nacked : (m from b p q : ℕ) → step_in same n w m (Comes from (Nack b p q)) ≡ Planned (nack_plan (w.nodes m).volatile b p q)
  unfolding step on_nack
  is_nacked m from b p q = refl

  -- ---- the proposer

  -- m's tick begins a round, where it waits at its front and has no lead for there
  pub begins : (m : ℕ) (e : Entry C) (rest : List (Entry C)) → (w.nodes m).volatile.waiting ≡ e ∷ rest → front (learned_of w m) < positions → next_round (record_of w m).meta (w.nodes m).volatile < 2 ^ 48 → NoLead (front (learned_of w m)) (w.nodes m).volatile.lead → step_in same n w m Ticks ≡ Planned (round_plan n m (record_of w m).meta (front (learned_of w m)) (w.nodes m).volatile)
  unfolding step on_tick
  begins m e rest waits under low lead =
      let d = record_of w m in
      let v = (w.nodes m).volatile in
      let p = front d.learned in
      if_false (eqb p positions) _ _ (ne_eqb p positions (λ is. omega arith)) ∙
      ap (λ (ws : List (Entry C)). tick_for n m d.meta p v ws) waits ∙
      propose_round n m d.meta p v e v.lead lead ∙
      round_is n m d.meta p v low

  pub leads : (m : ℕ) (e : Entry C) (rest : List (Entry C)) (x : Lead) → (w.nodes m).volatile.waiting ≡ e ∷ rest → front (learned_of w m) < positions → (w.nodes m).volatile.lead ≡ Some x → x.from ≤ front (learned_of w m) → step_in same n w m Ticks ≡ Planned (lead_plan n m (front (learned_of w m)) (w.nodes m).volatile e x)
  unfolding step on_tick use_lead
  leads m e rest x waits under lead le =
      let d = record_of w m in
      let v = (w.nodes m).volatile in
      let p = front d.learned in
      if_false (eqb p positions) _ _ (ne_eqb p positions (λ is. omega arith)) ∙
      ap (λ (ws : List (Entry C)). tick_for n m d.meta p v ws) waits ∙
      ap (λ (o : Option Lead). propose n m d.meta p v e o) lead ∙
      if_true (leb x.from p) _ _ (le-leb x.from p le)

  pub counts : (m from b p t counted_top : ℕ) (a best : Option (Proposal C)) (counted : ℕ → Bool) → (w.nodes m).volatile.attempt ≡ Some (record { position = p; ballot = b; phase = Preparing counted counted_top best }) → step_in same n w m (Comes from (PromiseAll b p t a)) ≡ Planned (gathered n m (w.nodes m).volatile b p (put counted from true) (cond (counted from) counted_top (max counted_top t)) (better best a))
  unfolding step on_promise_all
  counts m from b p t counted_top a best counted is =
      let v = (w.nodes m).volatile in
      ap (λ (o : Option (Attempt C)). Planned (promise_to n m v from b p t a o)) is ∙
      ap (λ (z : Plan C). Planned z) (if_true (eqb b b && eqb p p) _ _ (and_from (eqb b b) (eqb p p) (eq-eqb b b refl) (eq-eqb p p refl)))

  -- ---- the learner

  pub hears : (m from b p : ℕ) (e : Entry C) → learned_of w m p ≡ None → front (learned_of w m) ≡ p → p < positions → step_in same n w m (Comes from (Vote b p e)) ≡ Planned (with_vote same n (learned_of w m) (record (w.nodes m).volatile { kept = keep (w.nodes m).volatile.kept p from b }) b p e)
  unfolding step on_vote
  hears m from b p e none at under =
      let log = learned_of w m in
      ap (λ (z : Plan C). Planned z) (if_true (is_none (log p) && in_window (front log) p) _ _
      (and_from (is_none (log p)) (in_window (front log) p)
      (ap (λ (o : Option (Entry C)). is_none o) none)
      (and_from (leb (front log) p) (ltb p (front log + 64) && ltb p positions) (le-leb (front log) p (omega arith))
      (and_from (ltb p (front log + 64)) (ltb p positions) (lt-ltb p (front log + 64) (omega arith)) (lt-ltb p positions under)))))
