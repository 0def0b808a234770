-- The walks' steps, as the code takes them.
use Rattle.std.proofs.Common.{◌≡◌, ℕ, ◌+◌, ◌-◌, ◌<◌, ◌≤◌, zero, suc, Bool, true, false, sub-one, get_or, add-one, drop-cons, List, [], ◌∷◌, length, map, drop, Option, Some, None, refl, sym, subst, ap, ◌∙◌, arith, rules}
use Rattle.std.specs.Prelude.{if◌then◌else◌, nat_le, option_map}
use Rattle.std.specs.declared.rc.Rc.{Rc}
use Rattle.pf_config.specs.Map.{Configuration, Path, or_else, rules_at, kids, followed_by}
use Rattle.pf_config.specs.Trees.{AnchorTree, paths_of, shared}
use Rattle.pf_rules.specs.Items.{AnyRule, FilterRule, AnchorRule, Heading, Target, rule_in}
use Rattle.pf_rules.specs.declared.rule.Rule.{Rule}
use Rattle.pf_rules.specs.declared.item.AnchorRule as anchored
use Rattle.pf_rules.specs.declared.item.Item as item
use Rattle.pf_rules.specs.declared.item.Item.{Item}
use Rattle.pf_rules.specs.Seen.{heading_of, items_of, rule_of, with_block}
use Rattle.pf_rules.proofs.Carried.{anchor_is}
use Rattle.pf_eval.specs.Packets.{PacketValue}
use Rattle.pf_eval.specs.Matching.{Tables, matches}
use Rattle.pf_eval.specs.Verdicts.{Spot, no_tables}
use Rattle.pf_eval.specs.inner.TwoWalks.{first_some, last_some, first_rule, last_rule, in_member, ending, quick_spot, other_spot}
use Rattle.pf_eval.specs.inner.TwoWalks.{called_stop, called_last, rule_stop, rule_last, first_walk, second_walk, stop_at, last_at}
use Rattle.pf_eval.specs.inner.TwoWalks.{flat_stop, flat_last}

-- ---- one depth less

pub second_none : (c : Configuration) (k : PacketValue) (p : Path) → second_walk 0 c k p ≡ None
unfolding second_walk
second_none c k p = refl

pub second_at : (depth : ℕ) (c : Configuration) (k : PacketValue) (p : Path) → 0 < depth → second_walk depth c k p ≡ last_rule (last_at (depth - 1) c k p) 0 (rules_at c p)
unfolding second_walk
second_at zero c k p h = absurd (omega arith)
second_at (suc depth) c k p h = rw sub-one refl

pub first_none : (c : Configuration) (k : PacketValue) (p : Path) → first_walk 0 c k p ≡ None
unfolding first_walk
first_none c k p = refl

pub first_at : (depth : ℕ) (c : Configuration) (k : PacketValue) (p : Path) → 0 < depth → first_walk depth c k p ≡ first_rule (stop_at (depth - 1) c k p) 0 (rules_at c p)
unfolding first_walk
first_at zero c k p h = absurd (omega arith)
first_at (suc depth) c k p h = rw sub-one refl

-- ---- nothing is hit at a path with which none begins

pub second_nothing : (depth : ℕ) (c : Configuration) (k : PacketValue) (p : Path) → rules_at c p ≡ [] → second_walk depth c k p ≡ None
unfolding second_walk
second_nothing zero c k p e = refl
second_nothing (suc depth) c k p e = rw e refl

pub first_nothing : (depth : ℕ) (c : Configuration) (k : PacketValue) (p : Path) → rules_at c p ≡ [] → first_walk depth c k p ≡ None
unfolding first_walk
first_nothing zero c k p e = refl
first_nothing (suc depth) c k p e = rw e refl

pub none_called : (depth : ℕ) (c : Configuration) (k : PacketValue) (q : Path) (children : Bool) → rules_at c q ≡ [] → kids c q ≡ [] → called_last (second_walk depth c k) c q children ≡ None
none_called depth c k q true e f = ap (λ ns. last_some (in_member (second_walk depth c k)) (map (followed_by q) ns)) f
none_called depth c k q false e f = elim (nat_le (length q) 8) as (λ b. (if b then second_walk depth c k q else None) ≡ None) [ true ↦ second_nothing depth c k q e | false ↦ refl ]

none_stops : (depth : ℕ) (c : Configuration) (k : PacketValue) (q : Path) (children : Bool) → rules_at c q ≡ [] → kids c q ≡ [] → called_stop (first_walk depth c k) c q children ≡ None
none_stops depth c k q true e f = ap (λ ns. first_some (in_member (first_walk depth c k)) (map (followed_by q) ns)) f
none_stops depth c k q false e f = elim (nat_le (length q) 8) as (λ b. (if b then first_walk depth c k q else None) ≡ None) [ true ↦ first_nothing depth c k q e | false ↦ refl ]

pub none_ending : (depth : ℕ) (c : Configuration) (k : PacketValue) (q : Path) (children quick : Bool) → rules_at c q ≡ [] → kids c q ≡ [] →
    ending quick (called_stop (first_walk depth c k) c q children) (called_last (second_walk depth c k) c q children) ≡ None
none_ending depth c k q children true e f = ap (λ r. or_else r (called_last (second_walk depth c k) c q children)) (none_stops depth c k q children e f) ∙ none_called depth c k q children e f
none_ending depth c k q children false e f = none_stops depth c k q children e f

-- ---- the rules of the code's items

filter_rule : (r : Rule) → rule_of (item.Filter r) ≡ FilterRule r
filter_rule r = search (rules, item.the_lemmas)

head_only : (h : Heading) (o : Option (List _)) → rule_in (with_block h o) ≡ AnchorRule h
head_only h None = refl
head_only h (Some items) = refl

anchor_rule : (a : anchored.AnchorRule) → rule_of (item.Anchor a) ≡ AnchorRule (heading_of a.heading)
anchor_rule a = ap rule_in (anchor_is a) ∙ head_only (heading_of a.heading) (option_map (λ v. items_of v.value.items) a.block)

pub stop_of_filter : (t u : Tables) (stop last : Target → Option Spot) (k : PacketValue) (p q : Path) (i : ℕ) (r : Rule) (x : Item) → u ≡ t → q ≡ p → x ≡ item.Filter r →
    quick_spot u k q i r ≡ rule_stop t stop last k p i (rule_of x)
stop_of_filter t u stop last k p q i r x e f is =
    ap (λ v. quick_spot v k q i r) e ∙ ap (λ v. quick_spot t k v i r) f ∙ ap (rule_stop t stop last k p i) (sym (ap rule_of is ∙ filter_rule r))

pub last_of_filter : (t u : Tables) (last : Target → Option Spot) (k : PacketValue) (p q : Path) (i : ℕ) (r : Rule) (x : Item) → u ≡ t → q ≡ p → x ≡ item.Filter r →
    other_spot u k q i r ≡ rule_last t last k p i (rule_of x)
last_of_filter t u last k p q i r x e f is =
    ap (λ v. other_spot v k q i r) e ∙ ap (λ v. other_spot t k v i r) f ∙ ap (rule_last t last k p i) (sym (ap rule_of is ∙ filter_rule r))

pub stop_of_anchor : (t : Tables) (stop last : Target → Option Spot) (k : PacketValue) (p : Path) (i : ℕ) (a : anchored.AnchorRule) (x : Item) → x ≡ item.Anchor a →
    rule_stop t stop last k p 0 (AnchorRule (heading_of a.heading)) ≡ rule_stop t stop last k p i (rule_of x)
stop_of_anchor t stop last k p i a x is = ap (rule_stop t stop last k p i) (sym (ap rule_of is ∙ anchor_rule a))

pub last_of_anchor : (t : Tables) (last : Target → Option Spot) (k : PacketValue) (p : Path) (i : ℕ) (a : anchored.AnchorRule) (x : Item) → x ≡ item.Anchor a →
    rule_last t last k p 0 (AnchorRule (heading_of a.heading)) ≡ rule_last t last k p i (rule_of x)
last_of_anchor t last k p i a x is = ap (rule_last t last k p i) (sym (ap rule_of is ∙ anchor_rule a))

-- an anchor rule yields nothing where there is nothing in any anchor

abbrev none : Option Spot
none = None

no_stop : (k : PacketValue) (i : ℕ) (a : Heading) → flat_stop k i (AnchorRule a) ≡ None
no_stop k i a = elim (matches no_tables a.conditions k) as (λ b. (if b then ending a.quick none none else none) ≡ none) [ true ↦ elim (a.quick) as (λ v. ending v none none ≡ none) [ true ↦ refl | false ↦ refl ] | false ↦ refl ]

no_last : (k : PacketValue) (i : ℕ) (a : Heading) → flat_last k i (AnchorRule a) ≡ None
no_last k i a = elim (matches no_tables a.conditions k) as (λ b. (if a.quick then none else (if b then none else none)) ≡ none) [
  | true ↦ elim (a.quick) as (λ v. (if v then none else none) ≡ none) [ true ↦ refl | false ↦ refl ]
  | false ↦ elim (a.quick) as (λ v. (if v then none else none) ≡ none) [ true ↦ refl | false ↦ refl ]
]

pub flat_stop_of_anchor : (k : PacketValue) (i : ℕ) (a : anchored.AnchorRule) (x : Item) → x ≡ item.Anchor a → None ≡ flat_stop k i (rule_of x)
flat_stop_of_anchor k i a x is = sym (ap (flat_stop k i) (ap rule_of is ∙ anchor_rule a) ∙ no_stop k i (heading_of a.heading))

pub flat_last_of_anchor : (k : PacketValue) (i : ℕ) (a : anchored.AnchorRule) (x : Item) → x ≡ item.Anchor a → None ≡ flat_last k i (rule_of x)
flat_last_of_anchor k i a x is = sym (ap (flat_last k i) (ap rule_of is ∙ anchor_rule a) ∙ no_last k i (heading_of a.heading))

-- ---- from the back over rules

-- what is found at the back is found in the whole
rule_deep : (f : ℕ → AnyRule → Option Spot) (j i : ℕ) (items : List Item) (x : Spot) →
    last_rule f (j + i) (map rule_of (drop i items)) ≡ Some x → last_rule f j (map rule_of items) ≡ Some x
rule_deep f j zero items x h = let e : j + 0 ≡ j = omega arith in subst (λ n. last_rule f n (map rule_of items) ≡ Some x) e h
rule_deep f j (suc i) [] x h = h
rule_deep f j (suc i) (y ∷ items) x h =
    let e : j + suc i ≡ j + 1 + i = omega arith in
    ap (λ r. or_else r (f j (rule_of y))) (rule_deep f (j + 1) i items x (subst (λ n. last_rule f n (map rule_of (drop i items)) ≡ Some x) e h))

-- a rule, and those behind it that have no hit
rule_here : (f : ℕ → AnyRule → Option Spot) (i : ℕ) (items : List Item) (item : Item) →
    i < length items → item ≡ get_or items i item → last_rule f (i + 1) (map rule_of (drop (i + 1) items)) ≡ None →
    last_rule f i (map rule_of (drop i items)) ≡ f i (rule_of item)
rule_here f i items item lt is none =
    let split : drop i items ≡ item ∷ drop (i + 1) items = rw add-one (drop-cons items i item lt ∙ ap (λ (x : Item). x ∷ drop (suc i) items) (sym is)) in
    ap (λ xs. last_rule f i (map rule_of xs)) split ∙ ap (λ r. or_else r (f i (rule_of item))) none

rule_found : (f : ℕ → AnyRule → Option Spot) (i : ℕ) (items : List Item) (item : Item) (x : Spot) →
    i < length items → item ≡ get_or items i item → last_rule f (i + 1) (map rule_of (drop (i + 1) items)) ≡ None →
    Some x ≡ f i (rule_of item) → Some x ≡ last_rule f 0 (map rule_of items)
rule_found f i items item x lt is none found =
    let e : i ≡ 0 + i = omega arith in
    sym (rule_deep f 0 i items x (subst (λ n. last_rule f n (map rule_of (drop i items)) ≡ Some x) e (rule_here f i items item lt is none ∙ sym found)))

-- the rule before those that have no hit is the last with one
pub rule_back : (f : ℕ → AnyRule → Option Spot) (left : ℕ) (items : List Item) (item : Item) (x : Spot) →
    0 < left → left ≤ length items → item ≡ get_or items (left - 1) item → last_rule f left (map rule_of (drop left items)) ≡ None →
    Some x ≡ f (left - 1) (rule_of item) → Some x ≡ last_rule f 0 (map rule_of items)
rule_back f left items item x some few is none found =
    let e : left ≡ left - 1 + 1 = omega (arith, some) in
    rule_found f (left - 1) items item x (omega (arith, some, few)) is (subst (λ n. last_rule f n (map rule_of (drop n items)) ≡ None) e none) found

-- ---- from the back over anchors

some_deep : {Z : Type 0} → (f : Path → Option Spot) (i : ℕ) (ks : List (Rc AnchorTree Z)) (x : Spot) → last_some f (paths_of (shared (drop i ks))) ≡ Some x → last_some f (paths_of (shared ks)) ≡ Some x
some_deep f zero ks x h = h
some_deep f (suc i) [] x h = h
some_deep f (suc i) (y ∷ ks) x h = ap (λ r. or_else r (f y.value.names)) (some_deep f i ks x h)

some_here : {Z : Type 0} → (f : Path → Option Spot) (i : ℕ) (ks : List (Rc AnchorTree Z)) (kid : Rc AnchorTree Z) →
    i < length ks → kid ≡ get_or ks i kid → last_some f (paths_of (shared (drop (i + 1) ks))) ≡ None → last_some f (paths_of (shared (drop i ks))) ≡ f kid.value.names
some_here {Z} f i ks kid lt is none =
    let split : drop i ks ≡ kid ∷ drop (i + 1) ks = rw add-one (drop-cons ks i kid lt ∙ ap (λ (x : Rc AnchorTree Z). x ∷ drop (suc i) ks) (sym is)) in
    ap (λ xs. last_some f (paths_of (shared xs))) split ∙ ap (λ r. or_else r (f kid.value.names)) none

-- the anchor before those that have no hit is the last with one
pub kid_back : {Z : Type 0} → (f : Path → Option Spot) (left : ℕ) (ks : List (Rc AnchorTree Z)) (kid : Rc AnchorTree Z) (x : Spot) →
    0 < left → left ≤ length ks → kid ≡ get_or ks (left - 1) kid → last_some f (paths_of (shared (drop left ks))) ≡ None →
    Some x ≡ f kid.value.names → Some x ≡ last_some f (paths_of (shared ks))
kid_back f left ks kid x some few is none found =
    let e : left ≡ left - 1 + 1 = omega (arith, some) in
    let lt : left - 1 < length ks = omega (arith, some, few) in
    sym (some_deep f (left - 1) ks x (some_here f (left - 1) ks kid lt is (subst (λ n. last_some f (paths_of (shared (drop n ks))) ≡ None) e none) ∙ sym found))
