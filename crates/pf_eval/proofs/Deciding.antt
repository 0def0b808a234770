-- The two walks give the last hit before the evaluation ends.
use Rattle.std.proofs.Common.{◌≡◌, ℕ, ◌+◌, zero, suc, true, false, cond, List, [], ◌∷◌, ◌++◌, length, map, Option, Some, None, refl, sym, subst, ap, ◌∙◌}
use Rattle.std.specs.Prelude.{not, if◌then◌else◌, filter, nat_le}
use Rattle.std.specs.List.{flat_map}
use Rattle.pf_config.specs.Map.{Configuration, Path, or_else, rules_at, kids, followed_by}
use Rattle.pf_config.specs.Trees.{last_name}
use Rattle.pf_rules.specs.Names.{Name, begins_below}
use Rattle.pf_rules.specs.Items.{AnyRule, FilterRule, AnchorRule, Heading, Target}
use Rattle.pf_rules.specs.declared.rule.Rule.{Rule}
use Rattle.pf_eval.specs.Packets.{PacketValue}
use Rattle.pf_eval.specs.Matching.{Tables, matches}
use Rattle.pf_eval.specs.Verdicts.{Hit, Spot, stop_last, marked, rule_hits, hits_with, hits, member_hits, not_too_deep, target_hits, tables_in}
use Rattle.pf_eval.specs.Verdicts.{no_tables, no_hits, cut, last, last_spot}
use Rattle.pf_eval.specs.inner.TwoWalks.{first_stop, last_hit, first_some, last_some, first_rule, last_rule, shallow, in_member, ending}
use Rattle.pf_eval.specs.inner.TwoWalks.{called_stop, called_last, target_stop, target_last, rule_stop, rule_last, first_walk, second_walk}
use Rattle.pf_eval.specs.inner.TwoWalks.{no_spot, flat_stop, flat_last}

-- ---- over hits

or_assoc : (a b d : Option Spot) → or_else (or_else a b) d ≡ or_else a (or_else b d)
or_assoc None b d = refl
or_assoc (Some x) b d = refl

or_none : (a : Option Spot) → or_else a None ≡ a
or_none None = refl
or_none (Some x) = refl

left_none : (a b : Option Spot) → or_else a b ≡ None → a ≡ None
left_none None b h = refl
left_none (Some x) b h = h

right_none : (a b : Option Spot) → or_else a b ≡ None → b ≡ None
right_none None b h = h
right_none (Some x) b h = cc

or_same : (f l m : Option Spot) → (f ≡ None → l ≡ m) → or_else f l ≡ or_else f m
or_same None l m h = h refl
or_same (Some x) l m h = refl

-- the last hit before the evaluation ends is the first stop if there is one, else the last hit
last_is : (hs : List Hit) → last_spot hs ≡ or_else (first_stop hs) (last_hit hs)
last_is [] = refl
last_is (h ∷ hs) = elim (h.stops) as (λ v. last (map (λ (h : Hit). h.spot) (if v then h ∷ [] else h ∷ cut hs)) ≡ or_else (if v then Some h.spot else first_stop hs) (last_hit (h ∷ hs))) [
  | true ↦ refl
  | false ↦ ap (λ r. or_else r (Some h.spot)) (last_is hs) ∙ or_assoc (first_stop hs) (last_hit hs) (Some h.spot)
]

stop_append : (xs ys : List Hit) → first_stop (xs ++ ys) ≡ or_else (first_stop xs) (first_stop ys)
stop_append [] ys = refl
stop_append (h ∷ xs) ys = elim (h.stops) as (λ v. (if v then Some h.spot else first_stop (xs ++ ys)) ≡ or_else (if v then Some h.spot else first_stop xs) (first_stop ys)) [ true ↦ refl | false ↦ stop_append xs ys ]

hit_append : (xs ys : List Hit) → last_hit (xs ++ ys) ≡ or_else (last_hit ys) (last_hit xs)
hit_append [] ys = sym (or_none (last_hit ys))
hit_append (h ∷ xs) ys = ap (λ r. or_else r (Some h.spot)) (hit_append xs ys) ∙ or_assoc (last_hit ys) (last_hit xs) (Some h.spot)

stopped_hit : (hs : List Hit) → last_hit (stop_last hs) ≡ last_hit hs
stopped_hit [] = refl
stopped_hit (h ∷ []) = refl
stopped_hit (h ∷ g ∷ hs) = ap (λ r. or_else r (Some h.spot)) (stopped_hit (g ∷ hs))

stopped_stop : (hs : List Hit) → first_stop (stop_last hs) ≡ or_else (first_stop hs) (last_hit hs)
stopped_stop [] = refl
stopped_stop (h ∷ []) = elim (h.stops) as (λ v. Some h.spot ≡ or_else (if v then Some h.spot else None) (Some h.spot)) [ true ↦ refl | false ↦ refl ]
stopped_stop (h ∷ g ∷ hs) = elim (h.stops) as (λ v. (if v then Some h.spot else first_stop (stop_last (g ∷ hs))) ≡ or_else (if v then Some h.spot else first_stop (g ∷ hs)) (last_hit (h ∷ g ∷ hs))) [
  | true ↦ refl
  | false ↦ stopped_stop (g ∷ hs) ∙ ap (or_else (first_stop (g ∷ hs))) (sym (or_assoc (last_hit hs) (Some g.spot) (Some h.spot)))
]

-- ---- what the walks come to, and the hits that they stand for

-- the first is the first stop; where there is none, the second is the last hit
abbrev Agrees : Option Spot → Option Spot → List Hit → Type 0
Agrees stop other hs = (stop ≡ first_stop hs) × (first_stop hs ≡ None → other ≡ last_hit hs)

agrees_none : Agrees None None []
agrees_none = (refl, λ e. refl)

agrees_append : (s l t m : Option Spot) (xs ys : List Hit) → Agrees s l xs → Agrees t m ys → Agrees (or_else s t) (or_else m l) (xs ++ ys)
agrees_append s l t m xs ys a b = (
  ap (λ r. or_else r t) a.0 ∙ ap (or_else (first_stop xs)) b.0 ∙ sym (stop_append xs ys),
  λ e. let none = sym (stop_append xs ys) ∙ e in
      ap (λ r. or_else r l) (b.1 (right_none (first_stop xs) (first_stop ys) none)) ∙ ap (or_else (last_hit ys)) (a.1 (left_none (first_stop xs) (first_stop ys) none)) ∙ sym (hit_append xs ys),
)

agrees_stopped : (s l : Option Spot) (hs : List Hit) → Agrees s l hs → Agrees (or_else s l) None (stop_last hs)
agrees_stopped s l hs a = (
  ap (λ r. or_else r l) a.0 ∙ or_same (first_stop hs) l (last_hit hs) a.1 ∙ sym (stopped_stop hs),
  λ e. sym (stopped_hit hs ∙ right_none (first_stop hs) (last_hit hs) (sym (stopped_stop hs) ∙ e)),
)

-- the same of each target
abbrev TargetsAgree : (Target → Option Spot) → (Target → Option Spot) → (Target → List Hit) → Type 0
TargetsAgree stop other within = (t : Target) → Agrees (stop t) (other t) (within t)

agrees_filter : (tables : Tables) (stop other : Target → Option Spot) (within : Target → List Hit) (k : PacketValue) (p : Path) (i : ℕ) (r : Rule) →
    Agrees (rule_stop tables stop other k p i (FilterRule r)) (rule_last tables other k p i (FilterRule r)) (rule_hits tables within k p i (FilterRule r))
agrees_filter tables stop other within k p i r =
    let s : Spot = record { path = p; index = i; action = r.action } in
    elim (matches tables r.conditions k) as (λ m. Agrees (if r.quick then (if m then Some s else None) else None) (if r.quick then None else (if m then Some s else None)) (if m then record { spot = s; stops = r.quick } ∷ [] else [])) [
      | true ↦ elim (r.quick) as (λ v. Agrees (if v then Some s else None) (if v then None else Some s) (record { spot = s; stops = v } ∷ [])) [ true ↦ (refl, λ e. sym e) | false ↦ (refl, λ e. refl) ]
      | false ↦ elim (r.quick) as (λ v. Agrees (if v then None else None) (if v then None else None) []) [ true ↦ agrees_none | false ↦ agrees_none ]
    ]

agrees_anchor : (tables : Tables) (stop other : Target → Option Spot) (within : Target → List Hit) (k : PacketValue) (p : Path) (i : ℕ) (a : Heading) → TargetsAgree stop other within →
    Agrees (rule_stop tables stop other k p i (AnchorRule a)) (rule_last tables other k p i (AnchorRule a)) (rule_hits tables within k p i (AnchorRule a))
agrees_anchor tables stop other within k p i a all =
    let s = stop a.target in
    let l = other a.target in
    let hs = within a.target in
    let inner : Agrees s l hs = all a.target in
    elim (matches tables a.conditions k) as (λ m. Agrees (if m then ending a.quick s l else None) (if a.quick then None else (if m then l else None)) (if m then marked a.quick hs else [])) [
      | true ↦ elim (a.quick) as (λ v. Agrees (ending v s l) (if v then None else l) (marked v hs)) [ true ↦ agrees_stopped s l hs inner | false ↦ inner ]
      | false ↦ elim (a.quick) as (λ v. Agrees None (if v then None else None) []) [ true ↦ agrees_none | false ↦ agrees_none ]
    ]

agrees_rule : (tables : Tables) (stop other : Target → Option Spot) (within : Target → List Hit) (k : PacketValue) (p : Path) (i : ℕ) (r : AnyRule) → TargetsAgree stop other within →
    Agrees (rule_stop tables stop other k p i r) (rule_last tables other k p i r) (rule_hits tables within k p i r)
agrees_rule tables stop other within k p i (FilterRule r) all = agrees_filter tables stop other within k p i r
agrees_rule tables stop other within k p i (AnchorRule a) all = agrees_anchor tables stop other within k p i a all

agrees_rules : (tables : Tables) (stop other : Target → Option Spot) (within : Target → List Hit) (k : PacketValue) (p : Path) (i : ℕ) (rs : List AnyRule) → TargetsAgree stop other within →
    Agrees (first_rule (rule_stop tables stop other k p) i rs) (last_rule (rule_last tables other k p) i rs) (hits_with tables within k p i rs)
agrees_rules tables stop other within k p i [] all = agrees_none
agrees_rules tables stop other within k p i (r ∷ rs) all =
    agrees_append (rule_stop tables stop other k p i r) (rule_last tables other k p i r) (first_rule (rule_stop tables stop other k p) (i + 1) rs) (last_rule (rule_last tables other k p) (i + 1) rs) (rule_hits tables within k p i r) (hits_with tables within k p (i + 1) rs)
    (agrees_rule tables stop other within k p i r all) (agrees_rules tables stop other within k p (i + 1) rs all)

-- ---- what anchor rules evaluate

-- the same of each path
abbrev PathsAgree : (Path → Option Spot) → (Path → Option Spot) → (Path → List Hit) → Type 0
PathsAgree stop other at = (q : Path) → Agrees (stop q) (other q) (at q)

agrees_shallow : (stop other : Path → Option Spot) (at : Path → List Hit) (q : Path) → PathsAgree stop other at → Agrees (shallow stop q) (shallow other q) (not_too_deep at q)
agrees_shallow stop other at q all = elim (nat_le (length q) 8) as (λ b. Agrees (if b then stop q else None) (if b then other q else None) (if b then at q else [])) [ true ↦ all q | false ↦ agrees_none ]

last_of : (p : Path) (n : Name) → last_name (followed_by p n) ≡ n
last_of [] n = refl
last_of (m ∷ []) n = refl
last_of (m ∷ l ∷ p) n = last_of (l ∷ p) n

member_cons : (at : Path → List Hit) (p : Path) (n : Name) (names : List Name) → (if begins_below n then [] else not_too_deep at (followed_by p n)) ++ member_hits at p names ≡ member_hits at p (n ∷ names)
member_cons at p n names = elim (begins_below n) as (λ b. (if b then [] else not_too_deep at (followed_by p n)) ++ member_hits at p names ≡ flat_map (not_too_deep at) (map (followed_by p) (cond (not b) (n ∷ filter (λ n. not (begins_below n)) names) (filter (λ n. not (begins_below n)) names)))) [ true ↦ refl | false ↦ refl ]

agrees_member : (stop other : Path → Option Spot) (at : Path → List Hit) (p : Path) (n : Name) → PathsAgree stop other at → Agrees (in_member stop (followed_by p n)) (in_member other (followed_by p n)) (if begins_below n then [] else not_too_deep at (followed_by p n))
agrees_member stop other at p n all =
    subst (λ m. Agrees (if begins_below m then None else shallow stop (followed_by p n)) (if begins_below m then None else shallow other (followed_by p n)) (if begins_below n then [] else not_too_deep at (followed_by p n))) (sym (last_of p n))
    (elim (begins_below n) as (λ b. Agrees (if b then None else shallow stop (followed_by p n)) (if b then None else shallow other (followed_by p n)) (if b then [] else not_too_deep at (followed_by p n))) [
      | true ↦ agrees_none
      | false ↦ agrees_shallow stop other at (followed_by p n) all
    ])

agrees_members : (stop other : Path → Option Spot) (at : Path → List Hit) (p : Path) (names : List Name) → PathsAgree stop other at → Agrees (first_some (in_member stop) (map (followed_by p) names)) (last_some (in_member other) (map (followed_by p) names)) (member_hits at p names)
agrees_members stop other at p [] all = agrees_none
agrees_members stop other at p (n ∷ names) all =
    let q = followed_by p n in
    let rest = map (followed_by p) names in
    subst (λ hs. Agrees (or_else (in_member stop q) (first_some (in_member stop) rest)) (or_else (last_some (in_member other) rest) (in_member other q)) hs) (member_cons at p n names)
    (agrees_append (in_member stop q) (in_member other q) (first_some (in_member stop) rest) (last_some (in_member other) rest) (if begins_below n then [] else not_too_deep at q) (member_hits at p names)
    (agrees_member stop other at p n all) (agrees_members stop other at p names all))

agrees_target : (stop other : Path → Option Spot) (at : Path → List Hit) (c : Configuration) (p : Path) → PathsAgree stop other at → TargetsAgree (target_stop stop c p) (target_last other c p) (target_hits at c p)
agrees_target stop other at c p all t =
    let q = p ++ t.names in
    elim (t.children) as (λ b. Agrees (called_stop stop c q b) (called_last other c q b) (if b then member_hits at q (kids c q) else not_too_deep at q)) [
      | true ↦ agrees_members stop other at q (kids c q) all
      | false ↦ agrees_shallow stop other at q all
    ]

walks_agree : (depth : ℕ) (c : Configuration) (k : PacketValue) (p : Path) → Agrees (first_walk depth c k p) (second_walk depth c k p) (hits depth c k p)
unfolding hits first_walk second_walk
walks_agree zero c k p = agrees_none
walks_agree (suc depth) c k p =
    agrees_rules (tables_in c p) (target_stop (first_walk depth c k) c p) (target_last (second_walk depth c k) c p) (target_hits (hits depth c k) c p) k p 0 (rules_at c p)
    (agrees_target (first_walk depth c k) (second_walk depth c k) (hits depth c k) c p (λ q. walks_agree depth c k q))

-- ---- what decides

agreed : (s l : Option Spot) (hs : List Hit) → Agrees s l hs → or_else s l ≡ last_spot hs
agreed s l hs a = ap (λ r. or_else r l) a.0 ∙ or_same (first_stop hs) l (last_hit hs) a.1 ∙ sym (last_is hs)

-- the first walk, and where it finds nothing the second, give the last hit before the evaluation ends
pub two_walks : (depth : ℕ) (c : Configuration) (k : PacketValue) (p : Path) → or_else (first_walk depth c k p) (second_walk depth c k p) ≡ last_spot (hits depth c k p)
two_walks depth c k p = agreed (first_walk depth c k p) (second_walk depth c k p) (hits depth c k p) (walks_agree depth c k p)

pub decided_first : (depth : ℕ) (c : Configuration) (k : PacketValue) (p : Path) (x : Spot) → Some x ≡ first_walk depth c k p → Some x ≡ last_spot (hits depth c k p)
decided_first depth c k p x h = ap (λ r. or_else r (second_walk depth c k p)) h ∙ two_walks depth c k p

pub decided_second : (depth : ℕ) (c : Configuration) (k : PacketValue) (p : Path) (r : Option Spot) → None ≡ first_walk depth c k p → r ≡ second_walk depth c k p → r ≡ last_spot (hits depth c k p)
decided_second depth c k p r h e = e ∙ ap (λ s. or_else s (second_walk depth c k p)) h ∙ two_walks depth c k p

flat_walks : (k : PacketValue) (rs : List AnyRule) → or_else (first_rule (flat_stop k) 0 rs) (last_rule (flat_last k) 0 rs) ≡ last_spot (hits_with no_tables no_hits k [] 0 rs)
flat_walks k rs =
    agreed (first_rule (flat_stop k) 0 rs) (last_rule (flat_last k) 0 rs) (hits_with no_tables no_hits k [] 0 rs)
    (agrees_rules no_tables no_spot no_spot no_hits k [] 0 rs (λ t. agrees_none))

pub flat_first : (k : PacketValue) (rs : List AnyRule) (x : Spot) → Some x ≡ first_rule (flat_stop k) 0 rs → Some x ≡ last_spot (hits_with no_tables no_hits k [] 0 rs)
flat_first k rs x h = ap (λ r. or_else r (last_rule (flat_last k) 0 rs)) h ∙ flat_walks k rs

pub flat_second : (k : PacketValue) (rs : List AnyRule) (r : Option Spot) → None ≡ first_rule (flat_stop k) 0 rs → r ≡ last_rule (flat_last k) 0 rs → r ≡ last_spot (hits_with no_tables no_hits k [] 0 rs)
flat_second k rs r h e = e ∙ ap (λ s. or_else s (last_rule (flat_last k) 0 rs)) h ∙ flat_walks k rs
