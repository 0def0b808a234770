-- A member that waits learns at its front, and goes on until what it waits for is learned.
use Rattle.std.proofs.Common.{◌≡◌, ℕ, zero, suc, ◌+◌, ◌-◌, ◌*◌, ◌^◌, ◌<◌, ◌≤◌, max, Bool, true, false, ◌&&◌, inl, inr, List, [], ◌∷◌, ◌++◌, length, Option, Some, None, arith, refl, sym, ap, subst, ◌∙◌, eqb, eqb-true, eq-eqb, add-mul}
use Rattle.std.proofs.lemmas.Bool.{cases_lt, and_parts}
use Rattle.px_model.specs.Node.{IsEquality, same_entry, Entry, Proposal, Log, Lead, ballot_of}
use Rattle.px_model.specs.Node.Input.{Ticks}
use Rattle.px_model.specs.Node.Message.{Vote}
use Rattle.px_model.specs.Step.{IsMajority, put, positions, front, without}
use Rattle.px_model.specs.World.{World, NodeState}
use Rattle.px_model.specs.Law.{Chosen, learned_of, world_after}
use Rattle.px_model.specs.Progress.{HasEntry, NeverStuck, positions_left, only}
use Rattle.px_model.proofs.Basics.{majorities_meet, put_same}
use Rattle.px_model.proofs.Backed.{Acceptance, AtMost}
use Rattle.px_model.proofs.Invariant.{Inv}
use Rattle.px_model.proofs.Plans.{after, at_front, front_within, below_front}
use Rattle.px_model.proofs.Reach.{front_grows}
use Rattle.px_model.proofs.Learner.{same_entry_self}
use Rattle.px_model.proofs.Ranges.{without_shorter}
use Rattle.px_model.proofs.Runs.{always_good}
use Rattle.px_model.proofs.Going.{Live, Reaches, all_new, already, weaker, then, tick}
use Rattle.px_model.proofs.Replies.{NoLead, lead_plan, if_true, if_false, yes_no, some_or_none, leads}
use Rattle.px_model.proofs.Attempts.{log_stays, now, AllUpTo, up_to_weaker, up_to_after, up_to_same, next_of, begin, Refusing, all_refuse}
use Rattle.px_model.proofs.Promising.{Gathering, all_promise, proposed}
use Rattle.px_model.proofs.Voting.{Voting, all_vote, learned_there}

-- something is learned at the front that was: m's own entry, where nobody in the group had accepted anything
pub record Attempted {C : Type 0} (same : C → C → Bool) (n : ℕ) (members : ℕ → Bool) (m : ℕ) (log : Log C) (e : Entry C) (rest : List (Entry C)) (top r : ℕ) (w : World C) : Type 0 where
  pub entry : Entry C
  pub log_is : learned_of w m ≡ put log (front log) (Some entry)
  pub waits : (w.nodes m).volatile.waiting ≡ without same entry (e ∷ rest)
  pub up_to : AllUpTo n members (max top (suc (front log))) r w
  pub own : top ≤ front log → entry ≡ e

-- ---- one attempt

module _ {C : Type 0} (same : C → C → Bool) (exact : IsEquality same) (n : ℕ) (small : n ≤ 15) (since : ℕ) (clocks members : ℕ → Bool) (most : IsMajority n members) (m : ℕ) (member : m < n) (belongs : members m ≡ true) (clock : clocks m ≡ true) (log : Log C) (under : front log < positions) (e : Entry C) (rest : List (Entry C)) (top r : ℕ) where
  abbrev Done : World C → Type 0
  Done w = Attempted same n members m log e rest top (r + 2) w

  -- with a ballot above all that the group promised there
  voted : (b : ℕ) → b < (r + 2 + 1) * 256 → (w : World C) → Live n since members w → Gathering n since members m log e rest top (r + 2) b n w → Reaches same n since clocks members w (2 * n) Done
  voted b low w l g =
      let p = proposed same exact n small since clocks members m member belongs log under e rest top (r + 2) b low w most g in
      let far = max top (suc (front log)) in
      let beyond : front log < far = omega arith in
      let start : Voting same n since members m log e rest far (r + 2) b p.entry 0 w = record {
        up_to = λ k lt q. up_to_weaker top far (r + 2) (r + 2) (w.nodes k) (omega arith) (omega arith) (g.up_to k lt q);
        asked = p.sent;
        within = g.within;
        state = inl (record { log_is = g.log_is; waits = g.waits; votes = λ k lt q. absurd (omega arith); few = λ k lt q. absurd (omega arith) });
      } in
      weaker same exact n small since clocks members w (2 * n) (2 * n) (Voting same n since members m log e rest far (r + 2) b p.entry n) Done (omega arith)
      (λ w' v.
      let s = learned_there same exact n small since clocks members m member belongs log under e rest far (r + 2) b low beyond p.entry w' most v in
      record { entry = p.entry; log_is = s.log_is; waits = s.waits; up_to = v.up_to; own = p.own })
      (all_vote same exact n small since clocks members m member belongs log under e rest far (r + 2) b low beyond p.entry w l start)

  gathered : (b : ℕ) → b < (r + 2 + 1) * 256 → (w : World C) → Live n since members w → Gathering n since members m log e rest top (r + 2) b 0 w → Reaches same n since clocks members w (2 * n + 2 * n) Done
  gathered b low w l g =
      then same exact n small since clocks members w (2 * n) (2 * n) (Gathering n since members m log e rest top (r + 2) b n) Done l
      (all_promise same exact n small since clocks members m member belongs log under e rest top (r + 2) b low w most l g)
      (voted b low)

  -- the second round, after the refusals of the first
  second : (b : ℕ) (w : World C) → Live n since members w → r + 2 < 2 ^ 48 → Refusing n since members m log e rest top (r + 1) b n w → Reaches same n since clocks members w (suc (2 * n + 2 * n)) Done
  second b w l enough g =
      let q = next_of w m in
      let c = ballot_of q m in
      let here = g.up_to m member belongs in
      let le : q ≤ r + 2 = (let u = here.used in let v = here.heard in omega arith) in
      begin same exact n small since clocks members m member belongs clock log e rest top (r + 2) w l g.log_is g.waits under (subst (λ (o : Option Lead). NoLead (front log) o) (sym g.lead) tt) (omega arith) le
      (λ k lt k_in. up_to_weaker top top (r + 1) (r + 2) (w.nodes k) (omega arith) (omega arith) (g.up_to k lt k_in))
      (2 * n + 2 * n) Done
      (λ w' l' s promised up_to. gathered c (omega arith) w' l' (record {
        log_is = s.log_is;
        waits = s.waits;
        up_to = up_to;
        asked = s.asked;
        within = λ k lt k_in. (let u = promised k (front log) in let v = g.below k lt k_in in omega arith);
        below = λ k over lt k_in. (let u = promised k (front log) in let v = g.below k lt k_in in omega arith);
        state = inl (record {
          counted = λ k. false;
          counted_top = 0;
          best = None;
          attempt = s.attempt;
          few = λ k lt k_in. absurd (omega arith);
          has = λ k lt k_in. absurd (omega arith);
          open_ = λ over. refl;
        });
      }))

  -- where no lead is to be used
  without_lead : (w : World C) → Live n since members w → learned_of w m ≡ log → (w.nodes m).volatile.waiting ≡ e ∷ rest → NoLead (front log) (w.nodes m).volatile.lead → AllUpTo n members top r w → r + 2 < 2 ^ 48 → Reaches same n since clocks members w (suc (2 * n + suc (2 * n + 2 * n))) Done
  without_lead w l log_is waits lead up_to enough =
      let q = next_of w m in
      let b = ballot_of q m in
      let here = up_to m member belongs in
      let le : q ≤ r + 1 = (let u = here.used in let v = here.heard in omega arith) in
      begin same exact n small since clocks members m member belongs clock log e rest top (r + 1) w l log_is waits under lead (omega arith) le
      (λ k lt k_in. up_to_weaker top top r (r + 1) (w.nodes k) (omega arith) (omega arith) (up_to k lt k_in))
      (2 * n + suc (2 * n + 2 * n)) Done
      (λ w' l' s promised up. then same exact n small since clocks members w' (2 * n) (suc (2 * n + 2 * n)) (Refusing n since members m log e rest top (r + 1) b n) Done l'
      (all_refuse same exact n small since clocks members m member belongs log e rest top (r + 1) b w' l' (record {
        log_is = s.log_is;
        waits = s.waits;
        lead = s.lead;
        is_ballot = ap (λ (k : ℕ). ballot_of k m) (sym s.round);
        up_to = up;
        asked = s.asked;
        below = λ k lt k_in. absurd (omega arith);
      }))
      (λ w2 l2 g. second b w2 l2 enough g))

  with_lead : (w : World C) (x : Lead) → Live n since members w → learned_of w m ≡ log → (w.nodes m).volatile.waiting ≡ e ∷ rest → (w.nodes m).volatile.lead ≡ Some x → AllUpTo n members top r w → r + 2 < 2 ^ 48 → Reaches same n since clocks members w (suc (suc (2 * n + suc (2 * n + 2 * n)))) Done
  with_lead w x l log_is waits lead up_to enough =
      let limit = suc (2 * n + suc (2 * n + 2 * n)) in
      elim (cases_lt (front log) x.from) [
        | inl above ↦ weaker same exact n small since clocks members w limit (suc limit) Done Done (omega arith) (λ w' z. z) (without_lead w l log_is waits (subst (λ (o : Option Lead). NoLead (front log) o) (sym lead) above) up_to enough)
        | inr le ↦
            let at : front (learned_of w m) ≡ front log = ap (λ (z : Log C). front z) log_is in
            let plan = lead_plan n m (front (learned_of w m)) (w.nodes m).volatile e x in
            let is = now w m Ticks plan.change plan.volatile plan.sends in
            let o = up_to m member belongs in
            tick same exact n small since clocks members w m plan limit Done l member belongs clock (leads same n w m e rest x waits (omega arith) lead (omega arith)) (λ l'.
            without_lead (after w m Ticks plan) l'
            (log_stays w m Ticks plan.change plan.volatile plan.sends refl m ∙ log_is)
            (ap (λ (z : NodeState C). z.volatile.waiting) is ∙ waits)
            (subst (λ (z : NodeState C). NoLead (front log) z.volatile.lead) (sym is) (let u : front log < front (learned_of w m) + 1 = omega arith in u))
            (up_to_after n members top r w m Ticks plan up_to (up_to_same top r (w.nodes m) plan.volatile o o.heard))
            enough)
      ]

  pub attempt : (w : World C) → Live n since members w → learned_of w m ≡ log → (w.nodes m).volatile.waiting ≡ e ∷ rest → AllUpTo n members top r w → r + 2 < 2 ^ 48 → Reaches same n since clocks members w (6 * n + 3) Done
  attempt w l log_is waits up_to enough =
      let limit = suc (2 * n + suc (2 * n + 2 * n)) in
      elim (some_or_none (w.nodes m).volatile.lead) [
        | inl none ↦ weaker same exact n small since clocks members w limit (6 * n + 3) Done Done (omega arith) (λ w' z. z) (without_lead w l log_is waits (subst (λ (o : Option Lead). NoLead (front log) o) (sym none) tt) up_to enough)
        | inr some ↦ weaker same exact n small since clocks members w (suc limit) (6 * n + 3) Done Done (omega arith) (λ w' z. z) (with_lead w some.0 l log_is waits some.1 up_to enough)
      ]

-- ---- what a member learned was accepted in the group

pub learned_low : {C : Type 0} (n : ℕ) (w : World C) (h : List (Acceptance C)) → Inv n w h → (members : ℕ → Bool) → IsMajority n members → (top r : ℕ) → AllUpTo n members top r w → (m p : ℕ) (x : Entry C) → learned_of w m p ≡ Some x → p < positions → p < top
learned_low {C} n w h inv members most top r up_to m p x is under =
    elim (cases_lt p top) [
      | inl less ↦ less
      | inr over ↦
          let c : Chosen n w p x = (inv.stored m).learned p x is in
          let s = majorities_meet n members c.quorum most c.majority in
          let v = c.votes s.0 s.1 s.3 in
          let highest = ((inv.stored s.0).slots p).highest c.ballot x (inv.sent s.0 (Vote c.ballot p x) v) in
          let none = (up_to s.0 s.1 s.2).accepted p over under in
          absurd (subst (λ (o : Option (Proposal C)). AtMost o c.ballot) none highest)
    ]

pub front_low : {C : Type 0} (n : ℕ) (w : World C) (h : List (Acceptance C)) → Inv n w h → (members : ℕ → Bool) → IsMajority n members → (top r : ℕ) → AllUpTo n members top r w → top < positions → (m : ℕ) → front (learned_of w m) < positions
front_low n w h inv members most top r up_to low m =
    let log = learned_of w m in
    let within = front_within log in
    elim (cases_lt (front log) positions) [
      | inl less ↦ less
      | inr full ↦
          let s = below_front log top (omega arith) in
          let less = learned_low n w h inv members most top r up_to m top s.0 s.1 low in
          absurd (omega arith)
    ]

pub front_at_most : {C : Type 0} (n : ℕ) (w : World C) (h : List (Acceptance C)) → Inv n w h → (members : ℕ → Bool) → IsMajority n members → (top r : ℕ) → AllUpTo n members top r w → top < positions → (m : ℕ) → front (learned_of w m) ≤ top
front_at_most n w h inv members most top r up_to low m =
    let log = learned_of w m in
    elim (cases_lt top (front log)) [
      | inl more ↦
          let s = below_front log top more in
          let less = learned_low n w h inv members most top r up_to m top s.0 s.1 low in
          absurd (omega arith)
      | inr le ↦ le
    ]

-- the front rises where it is learned
pub front_rises : {X : Type 0} (learned : ℕ → Option X) (x : X) → front learned < positions → front learned < front (put learned (front learned) (Some x))
front_rises {X} learned x under =
    let p = front learned in
    let later = put learned p (Some x) in
    let grows = front_grows learned p x in
    elim (cases_lt p (front later)) [
      | inl less ↦ less
      | inr over ↦
          let same : front later ≡ p = omega arith in
          let open_ : later (front later) ≡ None = at_front later (omega arith) in
          let there : later p ≡ None = subst (λ (k : ℕ). later k ≡ None) same open_ in
          let c : Some x ≡ None = sym (put_same learned p (Some x)) ∙ there in
          absurd (cc)
    ]

pub entries_same : {C : Type 0} (same : C → C → Bool) → IsEquality same → (e f : Entry C) → same_entry same e f ≡ true → e ≡ f
entries_same {C} same exact e f t =
    let a = and_parts (eqb e.origin f.origin) (eqb e.number f.number && same e.command f.command) t in
    let b = and_parts (eqb e.number f.number) (same e.command f.command) a.1 in
    let o : e.origin ≡ f.origin = eqb-true e.origin f.origin a.0 in
    let k : e.number ≡ f.number = eqb-true e.number f.number b.0 in
    let c : e.command ≡ f.command = (exact e.command f.command).0 b.1 in
    let mk : ℕ → ℕ → C → Entry C = λ x y z. record { origin = x; number = y; command = z } in
    ap (λ (x : ℕ). mk x e.number e.command) o ∙ (ap (λ (y : ℕ). mk f.origin y e.command) k ∙ ap (λ (z : C). mk f.origin f.number z) c)

one_more : (d k : ℕ) → k + (d + 1) * k ≤ (suc d + 1) * k
one_more d k = let a = add-mul (suc d) 1 k in let b = add-mul d 1 k in let c = add-mul 1 d k in omega arith

-- ---- what waits before an entry

-- what waits first where these entries wait before e, and what waits behind the first
abbrev first_of : {C : Type 0} → (before : List (Entry C)) → Entry C → Entry C
first_of [] e = e
first_of (y ∷ ys) e = y

abbrev others_of : {C : Type 0} → (before : List (Entry C)) → Entry C → (rest : List (Entry C)) → List (Entry C)
others_of [] e rest = rest
others_of (y ∷ ys) e rest = ys ++ e ∷ rest

parts_of : {C : Type 0} (before : List (Entry C)) (e : Entry C) (rest : List (Entry C)) → before ++ e ∷ rest ≡ first_of before e ∷ others_of before e rest
parts_of [] e rest = refl
parts_of (y ∷ ys) e rest = refl

-- another that is learned leaves e where it is
without_other : {C : Type 0} (same : C → C → Bool) (x : Entry C) (before : List (Entry C)) (e : Entry C) (rest : List (Entry C)) → same_entry same e x ≡ false → without same x (before ++ e ∷ rest) ≡ without same x before ++ e ∷ without same x rest
without_other same x [] e rest other = if_false (same_entry same e x) _ _ other
without_other {C} same x (y ∷ ys) e rest other =
    let r = without_other same x ys e rest other in
    let after_ = e ∷ without same x rest in
    elim (yes_no (same_entry same y x)) [
      | inl yes_ ↦ if_true (same_entry same y x) _ _ yes_ ∙ (r ∙ ap (λ (zs : List (Entry C)). zs ++ after_) (sym (if_true (same_entry same y x) (without same x ys) (y ∷ without same x ys) yes_)))
      | inr no_ ↦ if_false (same_entry same y x) _ _ no_ ∙ (ap (λ (zs : List (Entry C)). y ∷ zs) r ∙ ap (λ (zs : List (Entry C)). zs ++ after_) (sym (if_false (same_entry same y x) (without same x ys) (y ∷ without same x ys) no_)))
    ]

-- where the first is learned, and it isn't e, fewer wait before e
without_first : {C : Type 0} (same : C → C → Bool) → IsEquality same → (x : Entry C) (before : List (Entry C)) (e : Entry C) → x ≡ first_of before e → same_entry same e x ≡ false → suc (length (without same x before)) ≤ length before
without_first {C} same exact x [] e is other =
    let t : same_entry same e x ≡ true = subst (λ (z : Entry C). same_entry same e z ≡ true) (sym is) (same_entry_self same exact e) in
    let c : true ≡ false = sym t ∙ other in
    absurd (cc)
without_first {C} same exact x (y ∷ ys) e is other =
    let t : same_entry same y x ≡ true = subst (λ (z : Entry C). same_entry same y z ≡ true) (sym is) (same_entry_self same exact y) in
    let u : without same x (y ∷ ys) ≡ without same x ys = if_true (same_entry same y x) _ _ t in
    let v : length (without same x (y ∷ ys)) ≡ length (without same x ys) = ap (λ (zs : List (Entry C)). length zs) u in
    let short = without_shorter same x ys in
    omega arith

-- ---- attempt after attempt

-- m has learned e, and each position before it
pub record Finished {C : Type 0} (n : ℕ) (members : ℕ → Bool) (m : ℕ) (e : Entry C) (end r : ℕ) (w : World C) : Type 0 where
  pub position : ℕ
  pub has : learned_of w m position ≡ Some e
  pub early : position ≤ end
  pub passed : position < front (learned_of w m)
  pub up_to : AllUpTo n members (suc end) r w

module _ {C : Type 0} (same : C → C → Bool) (exact : IsEquality same) (n : ℕ) (small : n ≤ 15) (since : ℕ) (clocks members : ℕ → Bool) (most : IsMajority n members) (m : ℕ) (member : m < n) (belongs : members m ≡ true) (clock : clocks m ≡ true) (e : Entry C) (end : ℕ) (low : end < positions) where
  -- the attempt was for e
  ended : (log : Log C) (first : Entry C) (others : List (Entry C)) (top r s : ℕ) → front log < positions → front log ≤ top → top ≤ end → r ≤ s → (w : World C) (a : Attempted same n members m log first others top r w) → a.entry ≡ e → Finished n members m e end s w
  ended log first others top r s under early le more w a is =
      let p = front log in
      let rises = front_rises log a.entry under in
      let moved : front (learned_of w m) ≡ front (put log p (Some a.entry)) = ap (λ (z : Log C). front z) a.log_is in
      record {
        position = p;
        has = ap (λ (z : Log C). z p) a.log_is ∙ (put_same log p (Some a.entry) ∙ ap (λ (z : Entry C). Some z) is);
        early = omega arith;
        passed = omega arith;
        up_to = λ j lt q. up_to_weaker (max top (suc p)) (suc end) r s (w.nodes j) (omega arith) more (a.up_to j lt q);
      }

  pub finish : (d top r : ℕ) (before rest : List (Entry C)) (w : World C) → Live n since members w → top + length before ≤ front (learned_of w m) + d → top + length before ≤ end → (w.nodes m).volatile.waiting ≡ before ++ e ∷ rest → AllUpTo n members top r w → r + 2 * (d + 1) < 2 ^ 48 → Reaches same n since clocks members w ((d + 1) * (6 * n + 3)) (Finished n members m e end (r + 2 * (d + 1)))
  finish zero top r before rest w l far fits waits up_to enough =
      let log = learned_of w m in
      let under = front_low n w l.good.0 l.good.1 members most top r up_to (omega arith) m in
      let early = front_at_most n w l.good.0 l.good.1 members most top r up_to (omega arith) m in
      let first = first_of before e in
      let others = others_of before e rest in
      weaker same exact n small since clocks members w (6 * n + 3) ((zero + 1) * (6 * n + 3)) (Attempted same n members m log first others top (r + 2)) (Finished n members m e end (r + 2 * (zero + 1))) (omega arith)
      (λ w' a. ended log first others top (r + 2) (r + 2 * (zero + 1)) under early (omega arith) (omega arith) w' a
      (elim (yes_no (same_entry same e a.entry)) [
        | inl is ↦ sym (entries_same same exact e a.entry is)
        | inr other ↦ absurd (let fewer = without_first same exact a.entry before e (a.own (omega arith)) other in omega arith)
      ]))
      (attempt same exact n small since clocks members most m member belongs clock log under first others top r w l refl (waits ∙ parts_of before e rest) up_to (omega arith))
  finish (suc d) top r before rest w l far fits waits up_to enough =
      let log = learned_of w m in
      let p = front log in
      let under = front_low n w l.good.0 l.good.1 members most top r up_to (omega arith) m in
      let early = front_at_most n w l.good.0 l.good.1 members most top r up_to (omega arith) m in
      let first = first_of before e in
      let others = others_of before e rest in
      let k = 6 * n + 3 in
      let s = r + 2 * (suc d + 1) in
      let Wanted : World C → Type 0 = λ z. Finished n members m e end s z in
      weaker same exact n small since clocks members w (k + (d + 1) * k) ((suc d + 1) * k) Wanted Wanted (one_more d k) (λ w' z. z)
      (then same exact n small since clocks members w k ((d + 1) * k) (Attempted same n members m log first others top (r + 2)) Wanted l
      (attempt same exact n small since clocks members most m member belongs clock log under first others top r w l refl (waits ∙ parts_of before e rest) up_to (omega arith))
      (λ w' l' a.
      elim (yes_no (same_entry same e a.entry)) [
        | inl is ↦ already same exact n small since clocks members w' ((d + 1) * k) Wanted (ended log first others top (r + 2) s under early (omega arith) (omega arith) w' a (sym (entries_same same exact e a.entry is)))
        | inr other ↦
            let rises = front_rises log a.entry under in
            let moved : front (learned_of w' m) ≡ front (put log p (Some a.entry)) = ap (λ (z : Log C). front z) a.log_is in
            let same_rounds : r + 2 + 2 * (d + 1) ≡ s = omega arith in
            let before' = without same a.entry before in
            let short = without_shorter same a.entry before in
            let waits' : (w'.nodes m).volatile.waiting ≡ before' ++ e ∷ without same a.entry rest =
            a.waits ∙ (ap (λ (ws : List (Entry C)). without same a.entry ws) (sym (parts_of before e rest)) ∙ without_other same a.entry before e rest other) in
            subst (λ (z : ℕ). Reaches same n since clocks members w' ((d + 1) * k) (Finished n members m e end z)) same_rounds
            (elim (cases_lt p top) [
              | inr over ↦
                  let fewer = without_first same exact a.entry before e (a.own over) other in
                  finish d (suc top) (r + 2) before' (without same a.entry rest) w' l' (omega arith) (omega arith) waits'
                  (λ j lt q. up_to_weaker (max top (suc p)) (suc top) (r + 2) (r + 2) (w'.nodes j) (omega arith) (omega arith) (a.up_to j lt q))
                  (omega arith)
              | inl less ↦
                  finish d top (r + 2) before' (without same a.entry rest) w' l' (omega arith) (omega arith) waits'
                  (λ j lt q. up_to_weaker (max top (suc p)) top (r + 2) (r + 2) (w'.nodes j) (omega arith) (omega arith) (a.up_to j lt q))
                  (omega arith)
            ])
      ]))

pub never_stuck : {C : Type 0} → NeverStuck C
never_stuck {C} same exact n some small events members top r m before e waits low enough =
    let w = world_after same n events in
    let f = front (learned_of w m) in
    let c = waits.majority_runs in
    let end = top + length before in
    let limit = positions_left f end * (6 * n + 3) in
    let since = length w.sent in
    all_new same n (only m) members w limit (HasEntry m e)
    (weaker same exact n small since (only m) members w limit limit (Finished n members m e end (r + 2 * (end - f + 1))) (HasEntry m e) (omega arith) (λ w' g. (g.position, g.has))
    (finish same exact n small since (only m) members c.majority m waits.member waits.belongs (eq-eqb m m refl) e end low (end - f) top r before waits.rest w
    (record { good = always_good same exact n small events; up = c.running; sent = omega arith })
    (omega arith) (omega arith) waits.waiting c.up_to enough))
