-- Which configurations are rendered.
use Rattle.std.proofs.Common.{◌≡◌, ℕ, suc, ◌+◌, ◌-◌, true, false, List, ◌∷◌, Option, Some, None, Ok, Err, refl, sym, ap, ◌∙◌, arith, inl, inr}
use Rattle.std.specs.Prelude.{nat_lt, nat_le, is_none, find, if◌then◌else◌}
use Rattle.std.proofs.lemmas.Bool.{cases_lt, lt-ltb, le-ltb, le-leb, lt-leb}
use Rattle.pf_rules.specs.Items.{AnchorRule}
use Rattle.pf_rules.specs.Seen.{rule_of, heading_of}
use Rattle.pf_rules.specs.declared.rule.Rule.{Rule}
use Rattle.pf_rules.specs.declared.item.AnchorRule as anchored
use Rattle.pf_rules.specs.declared.item.Item.{Item}
use Rattle.pf_rules.specs.declared.item.Item as item
use Rattle.nft_rules.specs.Subset.{ChainName, Statement, Ends, Jump, NftRule, NftRuleset}
use Rattle.nft_rules.specs.Evaluation.{is_chain, rules_in}
use Rattle.pf_rules.specs.declared.parts.Direction.{Direction}
use Rattle.pf_config.specs.Map.{Configuration}
use Rattle.nft_rules.specs.Rendering.{Machine, rendered}
use Rattle.nft_rules.specs.Deciding.{leads_back, some_leads_back}
use Rattle.nft_rules.specs.Refusing.{asked_by, asked_in, most_asked, is_costly, unless_costly, render, LeadsBack, Costly}
use Rattle.nft_rules.specs.inner.Left.{minus, and_then}
use Rattle.nft_rules.proofs.Targeted.{filter_rule, anchor_rule}

-- ---- rules that lead back

pub filter_stays : (r : Rule) (x : Item) → x ≡ item.Filter r → false ≡ leads_back (rule_of x)
filter_stays r x is = ap leads_back (sym (ap rule_of is ∙ filter_rule r))

pub anchor_leads : (a : anchored.AnchorRule) (x : Item) → x ≡ item.Anchor a → leads_back (AnchorRule (heading_of a.heading)) ≡ leads_back (rule_of x)
anchor_leads a x is = ap leads_back (sym (ap rule_of is ∙ anchor_rule a))

-- ---- a budget

pub nothing_less : (n : ℕ) → Some n ≡ minus n 0
nothing_less n = grind arith

pub one_more : (n c : ℕ) → (n ≡ 0 → ⊥) → minus (n - 1) c ≡ minus n (1 + c)
one_more n c h = elim (cases_lt (n - 1) c) [
  | inl less ↦
      (let a : nat_le c (n - 1) ≡ false = lt-leb c (n - 1) less in
      let b : nat_le (1 + c) n ≡ false = lt-leb (1 + c) n (omega (arith, less, h)) in
      rw (a, b) refl)
  | inr more ↦
      (let a : nat_le c (n - 1) ≡ true = le-leb c (n - 1) more in
      let b : nat_le (1 + c) n ≡ true = le-leb (1 + c) n (omega (arith, more, h)) in
      let d : n - 1 - c ≡ n - (1 + c) = omega arith in
      rw (a, b) (ap (λ m. Some m) d))
]

pub one_question : (n : ℕ) → (n ≡ 0 → ⊥) → Some (n - 1) ≡ minus n 1
one_question n h = let b : nat_le 1 n ≡ true = le-leb 1 n (omega (arith, h)) in rw b refl

pub no_question : (n : ℕ) (jumped : ChainName → ℕ) (s : Statement) → n ≡ 0 → None ≡ minus n (asked_by jumped s)
no_question n jumped (Ends decision) h = rw h refl
no_question n jumped (Jump chain) h =
    let b : nat_le (1 + jumped chain) 0 ≡ false = lt-leb (1 + jumped chain) 0 (omega arith) in
    rw h (rw b refl)

-- one cost, and then another
pub both_less : (n a b : ℕ) → minus n (a + b) ≡ and_then (minus n a) (λ m. minus m b)
both_less n a b = elim (cases_lt n a) [
  | inl less ↦
      (let x : nat_le a n ≡ false = lt-leb a n less in
      let y : nat_le (a + b) n ≡ false = lt-leb (a + b) n (omega (arith, less)) in
      rw (x, y) refl)
  | inr more ↦
      let x : nat_le a n ≡ true = le-leb a n more in
      (elim (cases_lt (n - a) b) [
        | inl less ↦
            (let y : nat_le (a + b) n ≡ false = lt-leb (a + b) n (omega (arith, less, more)) in
            let z : nat_le b (n - a) ≡ false = lt-leb b (n - a) less in
            rw (x, y, z) refl)
        | inr rest ↦
            (let y : nat_le (a + b) n ≡ true = le-leb (a + b) n (omega (arith, rest, more)) in
            let z : nat_le b (n - a) ≡ true = le-leb b (n - a) rest in
            let d : n - (a + b) ≡ n - a - b = omega arith in
            rw (x, y, z) (ap (λ m. Some m) d))
      ])
]

pub enough : (n cost : ℕ) (o : Option ℕ) → o ≡ minus n cost → is_none o ≡ nat_lt n cost
enough n cost o h = ap is_none h ∙ (elim (cases_lt n cost) [
  | inl less ↦ (let a : nat_le cost n ≡ false = lt-leb cost n less in let b : nat_lt n cost ≡ true = lt-ltb n cost less in rw (a, b) refl)
  | inr more ↦ (let a : nat_le cost n ≡ true = le-leb cost n more in let b : nat_lt n cost ≡ false = le-ltb n cost more in rw (a, b) refl)
])

-- ---- chains

pub nothing_asked : (n : ℕ) (r : NftRuleset) (name : ChainName) → n ≡ 0 → most_asked n r name ≡ 0
unfolding most_asked
nothing_asked n r name h = rw h refl

pub most_at : (n : ℕ) (r : NftRuleset) (name : ChainName) → (n ≡ 0 → ⊥) →
    most_asked n r name ≡ asked_in (most_asked (n - 1) r) (rules_in (find (is_chain name) r.chains))
unfolding most_asked
most_at n r name h = let e : n ≡ suc (n - 1) = omega (arith, h) in ap (λ d. most_asked d r name) e

-- a rule's questions, and then those of the rules behind it
pub asked_then : (n m : ℕ) (jumped : ChainName → ℕ) (rule : NftRule) (rules : List NftRule) → Some m ≡ minus n (asked_by jumped rule.statement) →
    minus m (asked_in jumped rules) ≡ minus n (asked_in jumped (rule ∷ rules))
asked_then n m jumped rule rules h =
    ap (λ o. and_then o (λ k. minus k (asked_in jumped rules))) h
    ∙ sym (both_less n (asked_by jumped rule.statement) (asked_in jumped rules))

pub asked_out : (n : ℕ) (jumped : ChainName → ℕ) (rule : NftRule) (rules : List NftRule) → None ≡ minus n (asked_by jumped rule.statement) →
    None ≡ minus n (asked_in jumped (rule ∷ rules))
asked_out n jumped rule rules h =
    ap (λ o. and_then o (λ k. minus k (asked_in jumped rules))) h
    ∙ sym (both_less n (asked_by jumped rule.statement) (asked_in jumped rules))

-- what the code uses
pub ruleset one_rule = (no_question, one_question, one_more)

pub ruleset some_rules = (nothing_asked, nothing_less, most_at)

-- ---- a configuration

pub refused_back : (c : Configuration) (m : Machine) (d : Direction) → some_leads_back c ≡ true → render c m d ≡ Err LeadsBack
unfolding render
refused_back c m d h = rw h refl

pub refused_costly : (c : Configuration) (m : Machine) (d : Direction) → some_leads_back c ≡ false → is_costly (rendered c m d) ≡ true → render c m d ≡ Err Costly
unfolding render
refused_costly c m d h costly = ap (λ b. if b then Err LeadsBack else unless_costly (rendered c m d)) h ∙ ap (λ b. if b then Err Costly else Ok (rendered c m d)) costly
