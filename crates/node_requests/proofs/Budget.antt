-- How many rules a verdict may meet.
use Rattle.std.proofs.Common.{◌≡◌, ℕ, zero, suc, ◌+◌, ◌-◌, ◌<◌, ◌/◌, max, take, Bor, ◌++◌, Bool, true, false, List, [], Option, Some, None, refl, sym, ap, ◌∙◌, arith, inl, inr, rules}
use Rattle.std.specs.Prelude.{nat_le, length, map, option_and_then, if◌then◌else◌}
use Rattle.std.proofs.Math.Nat.{div-eq_of_lt}
use Rattle.std.proofs.lemmas.List.{take-map}
use Rattle.std.proofs.lemmas.Bool.{cases_lt, le-leb, lt-leb}
use Rattle.pf_rules.specs.Items.{AnyRule, FilterRule, AnchorRule, Heading, Target, rule_in}
use Rattle.pf_rules.specs.Seen.{rule_of, heading_of, with_block}
use Rattle.pf_rules.proofs.Carried.{anchor_is}
use Rattle.pf_rules.specs.declared.rule.Rule.{Rule}
use Rattle.pf_rules.specs.declared.item.AnchorRule as anchored
use Rattle.pf_rules.specs.declared.item.Item.{Item}
use Rattle.pf_rules.specs.declared.item.Item as item
use Rattle.pf_config.specs.Map.{Configuration, Path, rules_at, followed_by}
use Rattle.pf_config.specs.Trees.{AnchorTree, tree_at}
use Rattle.pf_eval.specs.inner.TwoWalks.{IsAnchorOf}
use Rattle.pf_eval.proofs.Anchors.{below_names, no_rules_below, no_kids_below}
use Rattle.node_requests.specs.Bounded.{met_by, met_in, met_at, met_members, met_called, met_target, most_met}
use Rattle.node_requests.specs.inner.Left.{minus, within}

-- ---- a budget

pub nothing_less : (n : ℕ) → Some n ≡ minus n 0
nothing_less n = grind arith

pub one_more : (n c : ℕ) → (n ≡ 0 → ⊥) → minus (n - 1) c ≡ minus n (1 + c)
one_more n c h = elim (cases_lt (n - 1) c) [
  | inl less ↦
      (let a : nat_le c (n - 1) ≡ false = lt-leb c (n - 1) less in
      let b : nat_le (1 + c) n ≡ false = lt-leb (1 + c) n (omega (arith, less, h)) in
      rw (a, b) refl)
  | inr more ↦
      (let a : nat_le c (n - 1) ≡ true = le-leb c (n - 1) more in
      let b : nat_le (1 + c) n ≡ true = le-leb (1 + c) n (omega (arith, more, h)) in
      let d : n - 1 - c ≡ n - (1 + c) = omega arith in
      rw (a, b) (ap (λ m. Some m) d))
]

pub one_met : (n : ℕ) → (n ≡ 0 → ⊥) → Some (n - 1) ≡ minus n 1
one_met n h = let b : nat_le 1 n ≡ true = le-leb 1 n (omega (arith, h)) in rw b refl

-- nothing is enough for one
pub none_left : (n c : ℕ) → n ≡ 0 → None ≡ minus n (1 + c)
none_left n c h =
    let b : nat_le (1 + c) 0 ≡ false = lt-leb (1 + c) 0 (omega arith) in
    rw h (rw b refl)

pub no_rule : (n : ℕ) (within : Target → ℕ) (r : AnyRule) → n ≡ 0 → None ≡ minus n (met_by within r)
no_rule n within (FilterRule r) h = none_left n 0 h
no_rule n within (AnchorRule a) h = none_left n (within a.target) h

-- one cost, and then another
pub both_less : (n a b : ℕ) → minus n (a + b) ≡ option_and_then (λ m. minus m b) (minus n a)
both_less n a b = elim (cases_lt n a) [
  | inl less ↦
      (let x : nat_le a n ≡ false = lt-leb a n less in
      let y : nat_le (a + b) n ≡ false = lt-leb (a + b) n (omega (arith, less)) in
      rw (x, y) refl)
  | inr more ↦
      let x : nat_le a n ≡ true = le-leb a n more in
      (elim (cases_lt (n - a) b) [
        | inl less ↦
            (let y : nat_le (a + b) n ≡ false = lt-leb (a + b) n (omega (arith, less, more)) in
            let z : nat_le b (n - a) ≡ false = lt-leb b (n - a) less in
            rw (x, y, z) refl)
        | inr rest ↦
            (let y : nat_le (a + b) n ≡ true = le-leb (a + b) n (omega (arith, rest, more)) in
            let z : nat_le b (n - a) ≡ true = le-leb b (n - a) rest in
            let d : n - (a + b) ≡ n - a - b = omega arith in
            rw (x, y, z) (ap (λ m. Some m) d))
      ])
]

-- what a budget has less is what was met
pub met : (n m cost : ℕ) → Some m ≡ minus n cost → Some (n - m) ≡ within n cost
met n m cost h = elim (cases_lt n cost) [
  | inl less ↦ (let a : nat_le cost n ≡ false = lt-leb cost n less in let k : Some m ≡ None = h ∙ ap (λ q. if q then Some (n - cost) else None) a in cc)
  | inr more ↦
      (let a : nat_le cost n ≡ true = le-leb cost n more in
      let k : Some m ≡ Some (n - cost) = h ∙ ap (λ q. if q then Some (n - cost) else None) a in
      let e : m ≡ n - cost = cc in
      let d : n - m ≡ cost = omega (arith, e, more) in
      rw (a, d) refl)
]

pub met_none : (n cost : ℕ) → None ≡ minus n cost → None ≡ within n cost
met_none n cost h = elim (nat_le cost n) as (λ q. None ≡ (if q then Some (n - cost) else None) → None ≡ (if q then Some cost else None)) [ true ↦ λ k. cc | false ↦ λ k. refl ] h

-- how many fit where not even one does, and where what one meets is known
pub none_fits : (n cost : ℕ) → None ≡ within n cost → 0 ≡ n / max cost 1
none_fits n cost h = elim (cases_lt n cost) [
  | inl less ↦ (let m : n < max cost 1 = omega (arith, less) in sym (div-eq_of_lt m))
  | inr more ↦ (let a : nat_le cost n ≡ true = le-leb cost n more in let k : None ≡ Some cost = h ∙ ap (λ q. if q then Some cost else None) a in cc)
]

pub some_fit : (n cost m : ℕ) → Some m ≡ within n cost → m ≡ cost
some_fit n cost m h = elim (nat_le cost n) as (λ q. Some m ≡ (if q then Some cost else None) → m ≡ cost) [ true ↦ λ k. cc | false ↦ λ k. cc ] h

-- ---- rules

filter_rule : (r : Rule) → rule_of (item.Filter r) ≡ FilterRule r
filter_rule r = search (rules, item.the_lemmas)

head_only : (h : Heading) (o : Option (List _)) → rule_in (with_block h o) ≡ AnchorRule h
head_only h None = refl
head_only h (Some items) = refl

anchor_rule : (a : anchored.AnchorRule) → rule_of (item.Anchor a) ≡ AnchorRule (heading_of a.heading)
anchor_rule a = ap rule_in (anchor_is a) ∙ head_only (heading_of a.heading) _

pub filter_met : (within : Target → ℕ) (r : Rule) (x : Item) → x ≡ item.Filter r → met_by within (rule_of x) ≡ 1
filter_met within r x is = ap (met_by within) (ap rule_of is ∙ filter_rule r)

pub anchor_met : (within : Target → ℕ) (a : anchored.AnchorRule) (x : Item) → x ≡ item.Anchor a →
    met_by within (rule_of x) ≡ 1 + within (heading_of a.heading).target
anchor_met within a x is = ap (met_by within) (ap rule_of is ∙ anchor_rule a)

-- ---- anchors

pub nothing_met : (n : ℕ) (c : Configuration) (p : Path) → n ≡ 0 → most_met n c p ≡ 0
unfolding most_met
nothing_met n c p h = rw h refl

pub most_at : (n : ℕ) (c : Configuration) (p : Path) → (n ≡ 0 → ⊥) →
    most_met n c p ≡ met_in (met_target (most_met (n - 1) c) c p) (rules_at c p)
unfolding most_met
most_at n c p h = let e : n ≡ suc (n - 1) = omega (arith, h) in ap (λ d. most_met d c p) e

-- there are no rules
pub without_rules : (n : ℕ) (c : Configuration) (p : Path) → rules_at c p ≡ [] → most_met n c p ≡ 0
unfolding most_met
without_rules zero c p h = refl
without_rules (suc n) c p h = ap (met_in (met_target (most_met n c) c p)) h

shallow_zero : (at : Path → ℕ) (p : Path) → at p ≡ 0 → met_at at p ≡ 0
shallow_zero at p h = elim (nat_le (length p) 8) as (λ b. (if b then at p else 0) ≡ 0) [ true ↦ h | false ↦ refl ]

-- where no path of the configuration begins so nothing is met
pub none_below : (depth : ℕ) (c : Configuration) (t : AnchorTree) (r : Path) (children : Bool) → IsAnchorOf c t → None ≡ tree_at t r →
    met_called (most_met depth c) c (t.names ++ r) children ≡ 0
none_below depth c t r true h e = ap (λ ns. met_members (most_met depth c) (map (followed_by (t.names ++ r)) ns)) (no_kids_below c t r h e)
none_below depth c t r false h e = shallow_zero (most_met depth c) (t.names ++ r) (without_rules depth c (t.names ++ r) (no_rules_below c t r h e))

-- what is found below is what the target names
pub met_below : (depth : ℕ) (c : Configuration) (t u : AnchorTree) (r : Path) (children : Bool) → IsAnchorOf c t → Some u ≡ tree_at t r →
    met_called (most_met depth c) c u.names children ≡ met_called (most_met depth c) c (t.names ++ r) children
met_below depth c t u r children h e = ap (λ q. met_called (most_met depth c) c q children) (below_names c t u r h e)

-- one, and then another
pub met_then : (n m a b : ℕ) → Some m ≡ minus n a → minus m b ≡ minus n (a + b)
met_then n m a b h = ap (option_and_then (λ k. minus k b)) h ∙ sym (both_less n a b)

pub met_out : (n a b : ℕ) → None ≡ minus n a → None ≡ minus n (a + b)
met_out n a b h = ap (option_and_then (λ k. minus k b)) h ∙ sym (both_less n a b)

-- what the code uses
pub ruleset some_rules = (nothing_met, nothing_less, most_at)

pub ruleset one_member = (none_left, one_more, one_met)

-- the first strings
pub first_read : (n : ℕ) (ps : List (Bor (List ℕ))) → map (λ p. p.now) (take n ps) ≡ take n (map (λ p. p.now) ps)
first_read n ps = sym (take-map (λ p. p.now) n ps)
