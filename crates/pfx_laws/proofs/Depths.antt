-- Anchor rules nest less than 10 deep, so nothing is cut off at the ninth level.
use Rattle.std.proofs.Common.{◌≡◌, ℕ, zero, suc, ◌+◌, ◌<◌, ◌≤◌, Bool, true, false, cond, List, [], ◌∷◌, ◌++◌, map, length, Some, refl, sym, ap, ◌∙◌, arith, length-append}
use Rattle.std.specs.Prelude.{not, nat_le, filter, if◌then◌else◌}
use Rattle.std.specs.List.{list_all, flat_map}
use Rattle.std.proofs.lemmas.Bool.{leb-true}
use Rattle.pf_rules.specs.Names.{Name, begins_below}
use Rattle.pf_rules.specs.Items.{AnyRule, FilterRule, AnchorRule, Target}
use Rattle.pf_config.specs.Map.{Configuration, AnchorValue, Path, path_eq, anchor_at, rules_in, rules_at, kids, followed_by}
use Rattle.pf_eval.specs.Packets.{PacketValue}
use Rattle.pf_eval.specs.Matching.{Tables, matches}
use Rattle.pf_eval.specs.Verdicts.{Hit, marked, rule_hits, hits_with, not_too_deep, member_hits, target_hits, tables_in, hits, last_spot, judgement, Decided, Skipped, is_skipped}
use Rattle.pf_config.proofs.Treed.{both_true}
use Rattle.pfx_laws.specs.Targets.{has_target, have_targets}
use Rattle.pfx_laws.specs.Walks.{AreHits, judged_by}

-- ---- the rules at a path

rules_found : (p : Path) (anchors : List AnchorValue) → list_all (λ (a : AnchorValue). list_all has_target a.rules) anchors ≡ true → list_all has_target (rules_in (anchor_at p anchors)) ≡ true
rules_found p [] h = refl
rules_found p (a ∷ anchors) h =
    let both = both_true (list_all has_target a.rules) (list_all (λ (b : AnchorValue). list_all has_target b.rules) anchors) h in
    elim (path_eq a.path p) as (λ b. list_all has_target (rules_in (cond b (Some a) (anchor_at p anchors))) ≡ true) [ true ↦ both.0 | false ↦ rules_found p anchors both.1 ]

pub targets_at : (c : Configuration) (p : Path) → have_targets c ≡ true → list_all has_target (rules_at c p) ≡ true
unfolding rules_at
targets_at c p h = rules_found p c.anchors h

-- ---- what rules give, by what their targets give

pub rules_same : (tables : Tables) (f g : Target → List Hit) (k : PacketValue) (p : Path) (i : ℕ) (rules : List AnyRule) → list_all has_target rules ≡ true →
    ((t : Target) → 1 ≤ length t.names → f t ≡ g t) → hits_with tables f k p i rules ≡ hits_with tables g k p i rules
rules_same tables f g k p i [] h same = refl
rules_same tables f g k p i (FilterRule r ∷ rules) h same = ap (λ hs. rule_hits tables f k p i (FilterRule r) ++ hs) (rules_same tables f g k p (i + 1) rules h same)
rules_same tables f g k p i (AnchorRule a ∷ rules) h same =
    let both = both_true (has_target (AnchorRule a)) (list_all has_target rules) h in
    let some = both_true (nat_le 1 (length a.target.names)) (nat_le (length a.target.names) 8) both.0 in
    ap (λ hs. (if matches tables a.conditions k then marked a.quick hs else []) ++ hits_with tables f k p (i + 1) rules) (same a.target (leb-true 1 (length a.target.names) some.0))
    ∙ ap (λ hs. rule_hits tables g k p i (AnchorRule a) ++ hs) (rules_same tables f g k p (i + 1) rules both.1 same)

-- hits at every path of at most 8 names that is longer
abbrev AreSame : ℕ → (Path → List Hit) → (Path → List Hit) → Type 0
AreSame n f g = (q : Path) → n < length q → length q ≤ 8 → f q ≡ g q

shallow_same : (n : ℕ) (f g : Path → List Hit) (q : Path) → AreSame n f g → n < length q → not_too_deep f q ≡ not_too_deep g q
shallow_same n f g q same longer = (elim (nat_le (length q) 8) as (λ v. nat_le (length q) 8 ≡ v → (if v then f q else []) ≡ (if v then g q else [])) [
  | true ↦ λ e. same q longer (leb-true (length q) 8 e)
  | false ↦ λ e. refl
]) refl

all_same : (n : ℕ) (f g : Path → List Hit) (q : Path) (ns : List Name) → AreSame n f g → n ≤ length q →
    flat_map (not_too_deep f) (map (followed_by q) ns) ≡ flat_map (not_too_deep g) (map (followed_by q) ns)
all_same n f g q [] same le = refl
all_same n f g q (m ∷ ms) same le =
    let e : length (followed_by q m) ≡ length q + 1 = length-append q (m ∷ []) in
    ap (λ hs. hs ++ flat_map (not_too_deep f) (map (followed_by q) ms)) (shallow_same n f g (followed_by q m) same (omega (arith, e, le)))
    ∙ ap (λ hs. not_too_deep g (followed_by q m) ++ hs) (all_same n f g q ms same le)

-- a target is deeper than the rule that has it
target_same : (c : Configuration) (f g : Path → List Hit) (p r : Path) (children : Bool) → AreSame (length p) f g → 1 ≤ length r →
    (if children then member_hits f (p ++ r) (kids c (p ++ r)) else not_too_deep f (p ++ r)) ≡ (if children then member_hits g (p ++ r) (kids c (p ++ r)) else not_too_deep g (p ++ r))
target_same c f g p r true same h =
    let e : length (p ++ r) ≡ length p + length r = length-append p r in
    all_same (length p) f g (p ++ r) (filter (λ n. not (begins_below n)) (kids c (p ++ r))) same (omega (arith, e))
target_same c f g p r false same h =
    let e : length (p ++ r) ≡ length p + length r = length-append p r in
    shallow_same (length p) f g (p ++ r) same (omega (arith, e, h))

-- ---- one level less, and none

one_less : (c : Configuration) (k : PacketValue) → have_targets c ≡ true → (n : ℕ) (p : Path) → 9 ≤ n + length p → length p ≤ 8 → hits (suc n) c k p ≡ hits n c k p
unfolding hits rules_at
one_less c k h zero p deep short = absurd (omega (arith, deep, short))
one_less c k h (suc n) p deep short =
    rules_same (tables_in c p) (target_hits (hits (suc n) c k) c p) (target_hits (hits n c k) c p) k p 0 (rules_at c p) (targets_at c p h)
    (λ t e. target_same c (hits (suc n) c k) (hits n c k) p t.names t.children (λ q longer fits. one_less c k h n q (omega (arith, deep, longer)) fits) e)

pub nine_are_all : (c : Configuration) (k : PacketValue) → have_targets c ≡ true → AreHits c k (hits 9 c k)
unfolding hits
nine_are_all c k h = λ p short.
    sym (rules_same (tables_in c p) (target_hits (hits 9 c k) c p) (target_hits (hits 8 c k) c p) k p 0 (rules_at c p) (targets_at c p h)
    (λ t e. target_same c (hits 9 c k) (hits 8 c k) p t.names t.children (λ q longer fits. one_less c k h 8 q (omega (arith, longer)) fits) e))

walk_is : (c : Configuration) (k : PacketValue) (at : Path → List Hit) → have_targets c ≡ true → AreHits c k at → (n : ℕ) (p : Path) → 9 ≤ n + length p → length p ≤ 8 → at p ≡ hits n c k p
unfolding hits
walk_is c k at h walk zero p deep short = absurd (omega (arith, deep, short))
walk_is c k at h walk (suc n) p deep short =
    walk p short
    ∙ rules_same (tables_in c p) (target_hits at c p) (target_hits (hits n c k) c p) k p 0 (rules_at c p) (targets_at c p h)
    (λ t e. target_same c at (hits n c k) p t.names t.children (λ q longer fits. walk_is c k at h walk n q (omega (arith, deep, longer)) fits) e)

pub one_walk : (c : Configuration) (k : PacketValue) (at : Path → List Hit) → have_targets c ≡ true → AreHits c k at → (p : Path) → length p ≤ 8 → at p ≡ hits 9 c k p
one_walk c k at h walk p short = walk_is c k at h walk 9 p (omega arith) short

pub judged_so : (c : Configuration) (k : PacketValue) (at : Path → List Hit) → have_targets c ≡ true → AreHits c k at → judgement c k ≡ judged_by c k at
judged_so c k at h walk = ap (λ hs. if is_skipped c.skip k then Skipped else Decided (last_spot hs)) (sym (one_walk c k at h walk [] (omega arith)))
