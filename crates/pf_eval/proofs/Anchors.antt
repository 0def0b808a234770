-- The anchors that the walks go to are those of the configuration.
use Rattle.std.proofs.Common.{◌≡◌, ◌<◌, ℕ, zero, suc, length, get_or, arith, List, [], ◌∷◌, ◌++◌, map, Option, Some, None, refl, sym, ap, ◌∙◌}
use Rattle.std.specs.Prelude.{fold, nat_le, slice_get, if◌then◌else◌, Bool, true, false}
use Rattle.std.specs.declared.rc.Rc.{Rc}
use Rattle.pf_config.specs.Map.{AnchorValue, Configuration, Path, rules_at, rules_in, anchor_at, kids, followed_by, names_after, put_name}
use Rattle.pf_config.specs.Trees.{AnchorTree, AreBelow, anchor_in, and_then, last_name, shared, tree_at}
use Rattle.pf_config.proofs.Descents.{walk_down, walk_on, names_found, no_names_found, found_rules, no_rules_found, kids_found}
use Rattle.pf_eval.specs.Packets.{PacketValue}
use Rattle.pf_eval.specs.Verdicts.{Spot}
use Rattle.pf_eval.specs.inner.TwoWalks.{IsAnchorOf, AreAnchorsOf, kid_paths, shallow, ending, called_stop, called_last, first_walk, second_walk}

-- what is found at a path is the anchor there
pub anchor_names : (c : Configuration) (p : Path) (t : AnchorTree) → Some t ≡ anchor_in c.anchors p → t.names ≡ p
anchor_names c p t h = (names_found c.anchors p t h).0

pub anchor_is : (c : Configuration) (p : Path) (t : AnchorTree) → Some t ≡ anchor_in c.anchors p → IsAnchorOf c t
anchor_is c p t h = h ∙ ap (anchor_in c.anchors) (sym (anchor_names c p t h))

-- main is always there
pub main_there : (c : Configuration) (o : Option Spot) → None ≡ anchor_in c.anchors [] → None ≡ o
main_there c o h = cc

-- ---- what it has

pub own_rules : (c : Configuration) (t : AnchorTree) → IsAnchorOf c t → rules_in (anchor_at t.names t.anchors) ≡ rules_at c t.names
unfolding rules_at
own_rules c t h = found_rules c.anchors t.names t h

pub own_kids : (c : Configuration) (t : AnchorTree) → IsAnchorOf c t → map (followed_by t.names) (fold put_name [] (names_after t.names t.anchors)) ≡ kid_paths c t.names
unfolding kids
own_kids c t h = kids_found c.anchors t.names t h

-- ---- below it

down : (es : List AnchorValue) (t : AnchorTree) (r : Path) → Some t ≡ anchor_in es t.names → tree_at t r ≡ anchor_in es (t.names ++ r)
down es t r h =
    let main : AnchorTree = record { names = []; anchors = es } in
    ap (λ o. and_then o (λ k. tree_at k r)) (h ∙ sym (walk_down es t.names)) ∙ sym (walk_on main t.names r) ∙ walk_down es (t.names ++ r)

pub below_names : (c : Configuration) (t u : AnchorTree) (r : Path) → IsAnchorOf c t → Some u ≡ tree_at t r → u.names ≡ t.names ++ r
below_names c t u r h e = anchor_names c (t.names ++ r) u (e ∙ down c.anchors t r h)

pub below_is : (c : Configuration) (t u : AnchorTree) (r : Path) → IsAnchorOf c t → Some u ≡ tree_at t r → IsAnchorOf c u
below_is c t u r h e = anchor_is c (t.names ++ r) u (e ∙ down c.anchors t r h)

pub last_below : (depth : ℕ) (c : Configuration) (k : PacketValue) (t u : AnchorTree) (r s : Path) (children : Bool) → IsAnchorOf c t → Some u ≡ tree_at t r → r ≡ s →
    called_last (second_walk depth c k) c u.names children ≡ called_last (second_walk depth c k) c (t.names ++ s) children
last_below depth c k t u r s children h e f = ap (λ q. called_last (second_walk depth c k) c q children) (below_names c t u r h e ∙ ap (λ v. t.names ++ v) f)

pub ending_below : (depth : ℕ) (c : Configuration) (k : PacketValue) (t u : AnchorTree) (r s : Path) (quick children : Bool) → IsAnchorOf c t → Some u ≡ tree_at t r → r ≡ s →
    ending quick (called_stop (first_walk depth c k) c u.names children) (called_last (second_walk depth c k) c u.names children) ≡
    ending quick (called_stop (first_walk depth c k) c (t.names ++ s) children) (called_last (second_walk depth c k) c (t.names ++ s) children)
ending_below depth c k t u r s quick children h e f = ap (λ q. ending quick (called_stop (first_walk depth c k) c q children) (called_last (second_walk depth c k) c q children)) (below_names c t u r h e ∙ ap (λ v. t.names ++ v) f)

no_rules_there : (c : Configuration) (p : Path) → None ≡ anchor_in c.anchors p → rules_at c p ≡ []
unfolding rules_at
no_rules_there c p h = sym (no_rules_found c.anchors p h)

no_kids_there : (c : Configuration) (p : Path) → None ≡ anchor_in c.anchors p → kids c p ≡ []
unfolding kids
no_kids_there c p h = ap (fold put_name []) (no_names_found c.anchors p h)

pub no_rules_below : (c : Configuration) (t : AnchorTree) (r : Path) → IsAnchorOf c t → None ≡ tree_at t r → rules_at c (t.names ++ r) ≡ []
no_rules_below c t r h e = no_rules_there c (t.names ++ r) (e ∙ down c.anchors t r h)

pub no_kids_below : (c : Configuration) (t : AnchorTree) (r : Path) → IsAnchorOf c t → None ≡ tree_at t r → kids c (t.names ++ r) ≡ []
no_kids_below c t r h e = no_kids_there c (t.names ++ r) (e ∙ down c.anchors t r h)

-- ---- those directly below it

pub kids_are : (c : Configuration) (t : AnchorTree) (ks : List AnchorTree) → IsAnchorOf c t → AreBelow t ks → AreAnchorsOf c ks
kids_are c t ks h own i k g = below_is c t k (last_name k.names ∷ []) h (ap (λ o. and_then o (λ (j : AnchorTree). tree_at j [])) (own i k g))

kid_got : {Z : Type 0} (ks : List (Rc AnchorTree Z)) (i : ℕ) (kid : Rc AnchorTree Z) → i < length ks → kid ≡ get_or ks i kid → slice_get (shared ks) i ≡ Some kid.value
kid_got [] i kid lt h = absurd (omega (arith, lt))
kid_got {Z} (k ∷ ks) zero kid lt h = ap (λ (z : Rc AnchorTree Z). Some z.value) (sym h)
kid_got (k ∷ ks) (suc i) kid lt h = kid_got ks i kid (omega (arith, lt)) h

pub kid_is : {Z : Type 0} (c : Configuration) (ks : List (Rc AnchorTree Z)) (i : ℕ) (kid : Rc AnchorTree Z) → AreAnchorsOf c (shared ks) → i < length ks → kid ≡ get_or ks i kid → IsAnchorOf c kid.value
kid_is c ks i kid are lt h = are i kid.value (kid_got ks i kid lt h)

-- ---- where none is nothing is hit

pub shallow_none : (walk : Path → Option Spot) (q : Path) → walk q ≡ None → None ≡ shallow walk q
shallow_none walk q h = elim (nat_le (length q) 8) as (λ b. None ≡ (if b then walk q else None)) [ true ↦ sym h | false ↦ refl ]
