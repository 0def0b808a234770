-- The walks over candidates give what walks over all rules give.
use Rattle.std.proofs.Common.{◌≡◌, ℕ, ◌+◌, ◌-◌, ◌<◌, ◌≤◌, zero, suc, length, get_or, Bool, true, false, List, [], ◌∷◌, ◌++◌, map, reverse, Option, Some, None, refl, sym, subst, ap, ◌∙◌, arith}
use Rattle.std.proofs.lemmas.Bool.{eqb-true}
use Rattle.std.proofs.lemmas.List.{reverse-append}
use Rattle.std.specs.Prelude.{not, ◌==◌, slice_get, if◌then◌else◌}
use Rattle.pf_config.specs.Map.{Configuration, Path, or_else, rules_at, rules_in, anchor_at, kids}
use Rattle.pf_config.specs.Trees.{AnchorTree, tree_at}
use Rattle.pf_config.specs.declared.candidate.Candidate.{Candidate}
use Rattle.pf_config.specs.Orders.{may_stop, is_other, candidate_at, candidates, sieve_of, stops_of, others_of}
use Rattle.pf_rules.specs.Items.{AnyRule, FilterRule, AnchorRule, Heading, Target, conditions_of}
use Rattle.pf_rules.specs.declared.item.Item.{Item}
use Rattle.pf_rules.specs.Seen.{rule_of}
use Rattle.pf_eval.specs.declared.walk.Walk.{Walk}
use Rattle.pf_eval.specs.declared.walk.Walk.TheVariants.{Stops, Others}
use Rattle.pf_eval.specs.Packets.{PacketValue}
use Rattle.pf_eval.specs.Matching.{Tables, matches}
use Rattle.pf_eval.specs.Verdicts.{Spot, tables_in}
use Rattle.pf_eval.specs.inner.Sieves.{key_of, passes}
use Rattle.pf_eval.specs.inner.TwoWalks.{first_some, last_some, first_rule, last_rule, some_rule, candidate_spot, ending, is_quiet, shallow, called_stop, called_last, rule_stop, rule_last}
use Rattle.pf_eval.specs.inner.TwoWalks.{first_walk, second_walk, stop_at, last_at, target_stop, target_last, IsAnchorOf, walked, rule_at, candidates_of}
use Rattle.pf_eval.proofs.Anchors.{own_rules, below_is, below_names, shallow_none, no_rules_below, no_kids_below}
use Rattle.pf_eval.proofs.Sieves.{not_matched}
use Rattle.pf_eval.proofs.Walks.{first_at, second_at, first_none, second_none, none_ending}

-- ---- a rule by its index

item_got : (items : List Item) (i : ℕ) (x : Item) → i < length items → x ≡ get_or items i x → slice_get (map rule_of items) i ≡ Some (rule_of x)
item_got [] i x lt h = absurd (omega (arith, lt))
item_got (y ∷ items) zero x lt h = ap (λ z. Some (rule_of z)) (sym h)
item_got (y ∷ items) (suc i) x lt h = item_got items i x (omega (arith, lt)) h

none_got : (items : List Item) (i : ℕ) → length items ≤ i → slice_get (map rule_of items) i ≡ None
none_got [] i h = refl
none_got (y ∷ items) zero h = absurd (omega (arith, h))
none_got (y ∷ items) (suc i) h = none_got items i (omega (arith, h))

pub some_item : (f : AnyRule → Option Spot) (items : List Item) (rules all : List AnyRule) (i : ℕ) (x : Item) (r : Option Spot) → i < length items → x ≡ get_or items i x → map rule_of items ≡ rules → rules ≡ all → r ≡ f (rule_of x) → r ≡ some_rule f (slice_get all i)
some_item f items rules all i x r lt got e g is = is ∙ ap (some_rule f) (sym (item_got items i x lt got) ∙ ap (λ rs. slice_get rs i) (e ∙ g))

pub no_rule : (f : AnyRule → Option Spot) (items : List Item) (rules all : List AnyRule) (i : ℕ) → length items ≤ i → map rule_of items ≡ rules → rules ≡ all → None ≡ some_rule f (slice_get all i)
no_rule f items rules all i past e g = ap (some_rule f) (sym (none_got items i past) ∙ ap (λ rs. slice_get rs i) (e ∙ g))

-- ---- rules that yield nothing

-- a rule that doesn't pass the test yields nothing, and one whose sieve doesn't let the packet pass
abbrev IsQuiet : (AnyRule → Bool) → PacketValue → (ℕ → AnyRule → Option Spot) → Type 0
IsQuiet test k f = (i : ℕ) (r : AnyRule) → (test r ≡ false → f i r ≡ None) × (passes (sieve_of (conditions_of r)) (key_of k) ≡ false → f i r ≡ None)

abbrev none : Option Spot
none = None

stop_quiet : (t : Tables) (stop last : Target → Option Spot) (k : PacketValue) (p : Path) → IsQuiet may_stop k (rule_stop t stop last k p)
stop_quiet t stop last k p i (FilterRule r) =
    let s : Option Spot = Some (record { path = p; index = i; action = r.action }) in (
      λ e. ap (λ v. if v then (if matches t r.conditions k then s else none) else none) e,
      λ e. ap (λ m. if r.quick then (if m then s else none) else none) (not_matched t r.conditions k e) ∙ elim (r.quick) as (λ v. (if v then none else none) ≡ none) [ true ↦ refl | false ↦ refl ],
    )
stop_quiet t stop last k p i (AnchorRule a) = (
  λ e. cc,
  λ e. ap (λ m. if m then ending a.quick (stop a.target) (last a.target) else none) (not_matched t a.conditions k e),
)

turned : (b : Bool) → not b ≡ false → b ≡ true
turned true h = refl
turned false h = cc

last_quiet : (t : Tables) (last : Target → Option Spot) (k : PacketValue) (p : Path) → IsQuiet is_other k (rule_last t last k p)
last_quiet t last k p i (FilterRule r) =
    let s : Option Spot = Some (record { path = p; index = i; action = r.action }) in (
      λ e. ap (λ v. if v then none else (if matches t r.conditions k then s else none)) (turned r.quick e),
      λ e. ap (λ m. if r.quick then none else (if m then s else none)) (not_matched t r.conditions k e) ∙ elim (r.quick) as (λ v. (if v then none else none) ≡ none) [ true ↦ refl | false ↦ refl ],
    )
last_quiet t last k p i (AnchorRule a) = (
  λ e. ap (λ v. if v then none else (if matches t a.conditions k then last a.target else none)) (turned a.quick e),
  λ e. ap (λ m. if a.quick then none else (if m then last a.target else none)) (not_matched t a.conditions k e) ∙ elim (a.quick) as (λ v. (if v then none else none) ≡ none) [ true ↦ refl | false ↦ refl ],
)

-- ---- over candidates

one_candidate : (test : AnyRule → Bool) (f : ℕ → AnyRule → Option Spot) (k : PacketValue) (whole : List AnyRule) (i : ℕ) (r : AnyRule) → IsQuiet test k f → slice_get whole i ≡ Some r → candidate_spot f whole k (candidate_at i r) ≡ f i r
one_candidate test f k whole i r quiet here =
    (elim (passes (sieve_of (conditions_of r)) (key_of k)) as (λ b. passes (sieve_of (conditions_of r)) (key_of k) ≡ b → (if b then some_rule (f i) (slice_get whole i) else none) ≡ f i r) [
      | true ↦ λ e. ap (some_rule (f i)) here
      | false ↦ λ e. sym ((quiet i r).1 e)
    ]) refl

-- the rules from the index i on are these
abbrev IsRest : List AnyRule → ℕ → List AnyRule → Type 0
IsRest whole i rs = (j : ℕ) → slice_get whole (j + i) ≡ slice_get rs j

rest_next : (whole : List AnyRule) (i : ℕ) (r : AnyRule) (rs : List AnyRule) → IsRest whole i (r ∷ rs) → IsRest whole (i + 1) rs
rest_next whole i r rs h j = let e : suc j + i ≡ j + (i + 1) = omega arith in subst (λ n. slice_get whole n ≡ slice_get rs j) e (h (suc j))

rest_here : (whole : List AnyRule) (i : ℕ) (r : AnyRule) (rs : List AnyRule) → IsRest whole i (r ∷ rs) → slice_get whole i ≡ Some r
rest_here whole i r rs h = let e : 0 + i ≡ i = omega arith in subst (λ n. slice_get whole n ≡ Some r) e (h 0)

rest_all : (whole : List AnyRule) → IsRest whole 0 whole
rest_all whole j = let e : j + 0 ≡ j = omega arith in ap (slice_get whole) e

first_from : (test : AnyRule → Bool) (f : ℕ → AnyRule → Option Spot) (k : PacketValue) (whole : List AnyRule) (i : ℕ) (rs : List AnyRule) → IsQuiet test k f → IsRest whole i rs →
    first_some (candidate_spot f whole k) (candidates test i rs) ≡ first_rule f i rs
first_from test f k whole i [] quiet rest = refl
first_from test f k whole i (r ∷ rs) quiet rest =
    let more = first_from test f k whole (i + 1) rs quiet (rest_next whole i r rs rest) in
    let here = one_candidate test f k whole i r quiet (rest_here whole i r rs rest) in
    (elim (test r) as (λ b. test r ≡ b → first_some (candidate_spot f whole k) (if b then candidate_at i r ∷ candidates test (i + 1) rs else candidates test (i + 1) rs) ≡ or_else (f i r) (first_rule f (i + 1) rs)) [
      | true ↦ λ e. ap (λ o. or_else o (first_some (candidate_spot f whole k) (candidates test (i + 1) rs))) here ∙ ap (or_else (f i r)) more
      | false ↦ λ e. more ∙ ap (λ o. or_else o (first_rule f (i + 1) rs)) (sym ((quiet i r).0 e))
    ]) refl

or_none : (a : Option Spot) → or_else a None ≡ a
or_none None = refl
or_none (Some x) = refl

or_assoc : (a b d : Option Spot) → or_else (or_else a b) d ≡ or_else a (or_else b d)
or_assoc None b d = refl
or_assoc (Some x) b d = refl

last_from : (test : AnyRule → Bool) (f : ℕ → AnyRule → Option Spot) (k : PacketValue) (whole : List AnyRule) (i : ℕ) (rs : List AnyRule) → IsQuiet test k f → IsRest whole i rs →
    last_some (candidate_spot f whole k) (candidates test i rs) ≡ last_rule f i rs
last_from test f k whole i [] quiet rest = refl
last_from test f k whole i (r ∷ rs) quiet rest =
    let more = last_from test f k whole (i + 1) rs quiet (rest_next whole i r rs rest) in
    let here = one_candidate test f k whole i r quiet (rest_here whole i r rs rest) in
    (elim (test r) as (λ b. test r ≡ b → last_some (candidate_spot f whole k) (if b then candidate_at i r ∷ candidates test (i + 1) rs else candidates test (i + 1) rs) ≡ or_else (last_rule f (i + 1) rs) (f i r)) [
      | true ↦ λ e. ap (or_else (last_some (candidate_spot f whole k) (candidates test (i + 1) rs))) here ∙ ap (λ o. or_else o (f i r)) more
      | false ↦ λ e. more ∙ sym (or_none (last_rule f (i + 1) rs)) ∙ ap (or_else (last_rule f (i + 1) rs)) (sym ((quiet i r).0 e))
    ]) refl

first_append : (g : Candidate → Option Spot) (xs ys : List Candidate) → first_some g (xs ++ ys) ≡ or_else (first_some g xs) (first_some g ys)
first_append g [] ys = refl
first_append g (x ∷ xs) ys = ap (or_else (g x)) (first_append g xs ys) ∙ sym (or_assoc (g x) (first_some g xs) (first_some g ys))

-- the first from the front of the turned list is the first from the back
first_turned : (g : Candidate → Option Spot) (xs : List Candidate) → first_some g (reverse xs) ≡ last_some g xs
first_turned g [] = refl
first_turned g (x ∷ xs) =
    ap (first_some g) (reverse-append (x ∷ []) xs) ∙ first_append g (reverse xs) (x ∷ []) ∙ ap (or_else (first_some g (reverse xs))) (or_none (g x)) ∙ ap (λ o. or_else o (g x)) (first_turned g xs)

-- ---- the walks

pub stops_are_first : (depth : ℕ) (c : Configuration) (k : PacketValue) (t : AnchorTree) (found : List Candidate) → IsAnchorOf c t → 0 < depth → found ≡ stops_of (rules_in (anchor_at t.names t.anchors)) →
    first_some (candidate_spot (stop_at (depth - 1) c k t.names) (rules_at c t.names) k) found ≡ first_walk depth c k t.names
unfolding stops_of
stops_are_first depth c k t found at some is =
    ap (first_some (candidate_spot (stop_at (depth - 1) c k t.names) (rules_at c t.names) k)) (is ∙ ap (candidates may_stop 0) (own_rules c t at)) ∙
    first_from may_stop (stop_at (depth - 1) c k t.names) k (rules_at c t.names) 0 (rules_at c t.names) (stop_quiet (tables_in c t.names) (target_stop (first_walk (depth - 1) c k) c t.names) (target_last (second_walk (depth - 1) c k) c t.names) k t.names) (rest_all (rules_at c t.names)) ∙
    sym (first_at depth c k t.names some)

pub others_are_last : (depth : ℕ) (c : Configuration) (k : PacketValue) (t : AnchorTree) (found : List Candidate) → IsAnchorOf c t → 0 < depth → found ≡ others_of (rules_in (anchor_at t.names t.anchors)) →
    first_some (candidate_spot (last_at (depth - 1) c k t.names) (rules_at c t.names) k) found ≡ second_walk depth c k t.names
unfolding others_of
others_are_last depth c k t found at some is =
    ap (first_some (candidate_spot (last_at (depth - 1) c k t.names) (rules_at c t.names) k)) (is ∙ ap (λ rs. reverse (candidates is_other 0 rs)) (own_rules c t at)) ∙
    first_turned (candidate_spot (last_at (depth - 1) c k t.names) (rules_at c t.names) k) (candidates is_other 0 (rules_at c t.names)) ∙
    last_from is_other (last_at (depth - 1) c k t.names) k (rules_at c t.names) 0 (rules_at c t.names) (last_quiet (tables_in c t.names) (target_last (second_walk (depth - 1) c k) c t.names) k t.names) (rest_all (rules_at c t.names)) ∙
    sym (second_at depth c k t.names some)

pub candidates_are : (w : Walk) (depth : ℕ) (c : Configuration) (k : PacketValue) (t : AnchorTree) (found : List Candidate) → IsAnchorOf c t → 0 < depth → found ≡ candidates_of w (rules_in (anchor_at t.names t.anchors)) →
    first_some (candidate_spot (rule_at w (depth - 1) c k t.names) (rules_at c t.names) k) found ≡ walked w depth c k t.names
candidates_are Stops = stops_are_first
candidates_are Others = others_are_last

pub walked_none : (w : Walk) (c : Configuration) (k : PacketValue) (p : Path) → walked w 0 c k p ≡ None
walked_none Stops = first_none
walked_none Others = second_none

-- ---- anchor rules that yield nothing

-- where no rule can end the evaluation the first walk finds nothing
idle : (depth : ℕ) (c : Configuration) (k : PacketValue) (t : AnchorTree) → IsAnchorOf c t → [] ≡ stops_of (rules_in (anchor_at t.names t.anchors)) → first_walk depth c k t.names ≡ None
idle zero c k t at is = first_none c k t.names
idle (suc depth) c k t at is = sym (stops_are_first (suc depth) c k t [] at (omega arith) is)

no_length : (xs : List Candidate) → (length xs == 0) ≡ true → [] ≡ xs
no_length [] h = refl
no_length (x ∷ xs) h = absurd (omega (arith, eqb-true (length (x ∷ xs)) 0 h))

passed : (m quick : Bool) (stop last : Option Spot) → ending quick stop last ≡ None → None ≡ (if m then ending quick stop last else none)
passed true quick stop last h = sym h
passed false quick stop last h = refl

pub quiet_rule : (depth : ℕ) (c : Configuration) (k : PacketValue) (t u : AnchorTree) (r : Path) (a : Heading) → IsAnchorOf c t → Some u ≡ tree_at t r → r ≡ a.target.names →
    is_quiet a.quick a.target.children (stops_of (rules_in (anchor_at u.names u.anchors))) ≡ true → None ≡ stop_at depth c k t.names 0 (AnchorRule a)
quiet_rule depth c k t u r a at below is quiet =
    passed (matches (tables_in c t.names) a.conditions k) a.quick (target_stop (first_walk depth c k) c t.names a.target) (target_last (second_walk depth c k) c t.names a.target)
    (split a.quick a.target.children (no_length found) quiet)
  where
    found : List Candidate
    found = stops_of (rules_in (anchor_at u.names u.anchors))

    walk : Path → Option Spot
    walk = first_walk depth c k

    here : [] ≡ found → shallow walk (t.names ++ a.target.names) ≡ None
    here e = ap (shallow walk) (sym (below_names c t u r at below ∙ ap (λ v. t.names ++ v) is)) ∙ sym (shallow_none walk u.names (idle depth c k u (below_is c t u r at below) e))

    split : (quick children : Bool) → ((length found == 0) ≡ true → [] ≡ found) → is_quiet quick children found ≡ true →
        ending quick (called_stop walk c (t.names ++ a.target.names) children) (called_last (second_walk depth c k) c (t.names ++ a.target.names) children) ≡ None
    split true children none h = cc
    split false true none h = cc
    split false false none h = here (none h)

pub nothing_below : (depth : ℕ) (c : Configuration) (k : PacketValue) (t : AnchorTree) (r : Path) (a : Heading) → IsAnchorOf c t → None ≡ tree_at t r → r ≡ a.target.names →
    None ≡ stop_at depth c k t.names 0 (AnchorRule a)
nothing_below depth c k t r a at below is =
    let e : t.names ++ r ≡ t.names ++ a.target.names = ap (λ v. t.names ++ v) is in
    passed (matches (tables_in c t.names) a.conditions k) a.quick (target_stop (first_walk depth c k) c t.names a.target) (target_last (second_walk depth c k) c t.names a.target)
    (none_ending depth c k (t.names ++ a.target.names) a.target.children a.quick (ap (rules_at c) (sym e) ∙ no_rules_below c t r at below) (ap (kids c) (sym e) ∙ no_kids_below c t r at below))
