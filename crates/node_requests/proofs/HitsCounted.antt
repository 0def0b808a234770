-- A verdict's hits are no more than the rules that it may meet.
use Rattle.std.proofs.Common.{◌≡◌, ℕ, zero, suc, ◌+◌, ◌≤◌, ◌++◌, Bool, true, false, List, [], ◌∷◌, length, map, refl, arith, length-append}
use Rattle.std.specs.Prelude.{nat_le, filter, not, if◌then◌else◌}
use Rattle.std.specs.List.{flat_map}
use Rattle.pf_rules.specs.Names.{Name, begins_below}
use Rattle.pf_rules.specs.Items.{AnyRule, FilterRule, AnchorRule, Target}
use Rattle.pf_config.specs.Map.{Configuration, Path, rules_at, kids, followed_by}
use Rattle.pf_config.specs.Trees.{last_name}
use Rattle.pf_eval.specs.Matching.{Tables, matches}
use Rattle.pf_eval.specs.Packets.{PacketValue}
use Rattle.pf_eval.specs.Verdicts.{Hit, stop_last, marked, rule_hits, hits_with, not_too_deep, member_hits, target_hits, tables_in, hits}
use Rattle.node_requests.specs.Bounded.{met_by, met_in, met_at, met_members, met_target, most_met}

-- ---- rules

stop_long : (hs : List Hit) → length (stop_last hs) ≡ length hs
stop_long [] = refl
stop_long (h ∷ []) = refl
stop_long (h ∷ g ∷ hs) = let rest = stop_long (g ∷ hs) in omega (arith, rest)

marked_long : (q : Bool) (hs : List Hit) → length (marked q hs) ≡ length hs
marked_long true hs = stop_long hs
marked_long false hs = refl

abbrev Within : (Target → List Hit) → (Target → ℕ) → Type 0
Within within meets = (t : Target) → length (within t) ≤ meets t

if_long : (q : Bool) (hs : List Hit) → length (if q then hs else []) ≤ length hs
if_long true hs = omega arith
if_long false hs = omega arith

rule_met : (tables : Tables) (within : Target → List Hit) (meets : Target → ℕ) → Within within meets → (k : PacketValue) (p : Path) (i : ℕ) (r : AnyRule) → length (rule_hits tables within k p i r) ≤ met_by meets r
rule_met tables within meets h k p i (FilterRule r) = if_long (matches tables r.conditions k) (record { spot = record { path = p; index = i; action = r.action }; stops = r.quick } ∷ [])
rule_met tables within meets h k p i (AnchorRule a) =
    let own = h a.target in
    let long = marked_long a.quick (within a.target) in
    let more = if_long (matches tables a.conditions k) (marked a.quick (within a.target)) in
    omega (arith, own, long, more)

rules_met : (tables : Tables) (within : Target → List Hit) (meets : Target → ℕ) → Within within meets → (k : PacketValue) (p : Path) (i : ℕ) (rs : List AnyRule) → length (hits_with tables within k p i rs) ≤ met_in meets rs
rules_met tables within meets h k p i [] = omega arith
rules_met tables within meets h k p i (r ∷ rs) =
    let one = rule_met tables within meets h k p i r in
    let rest = rules_met tables within meets h k p (i + 1) rs in
    let both = length-append (rule_hits tables within k p i r) (hits_with tables within k p (i + 1) rs) in
    omega (arith, one, rest, both)

-- ---- anchors

abbrev At : (Path → List Hit) → (Path → ℕ) → Type 0
At at meets = (p : Path) → length (at p) ≤ meets p

deep_met : (at : Path → List Hit) (meets : Path → ℕ) → At at meets → (q : Path) → length (not_too_deep at q) ≤ met_at meets q
deep_met at meets h q = elim (nat_le (length q) 8) as (λ b. length (if b then at q else []) ≤ (if b then meets q else 0)) [ true ↦ h q | false ↦ omega arith ]

last_followed : (p : Path) (n : Name) → last_name (followed_by p n) ≡ n
last_followed [] n = refl
last_followed (m ∷ []) n = refl
last_followed (m ∷ o ∷ p) n = last_followed (o ∷ p) n

members_met : (at : Path → List Hit) (meets : Path → ℕ) → At at meets → (p : Path) (ns : List Name) → length (member_hits at p ns) ≤ met_members meets (map (followed_by p) ns)
members_met at meets h p [] = omega arith
members_met at meets h p (n ∷ ns) =
    let rest = members_met at meets h p ns in
    let own = deep_met at meets h (followed_by p n) in
    let both = length-append (not_too_deep at (followed_by p n)) (member_hits at p ns) in
    rw (last_followed p n) (elim (begins_below n) as (λ b. length (flat_map (not_too_deep at) (map (followed_by p) (if not b then n ∷ filter (λ m. not (begins_below m)) ns else filter (λ m. not (begins_below m)) ns))) ≤ (1 + (if b then 0 else met_at meets (followed_by p n))) + met_members meets (map (followed_by p) ns)) [
      | true ↦ omega (arith, rest)
      | false ↦ omega (arith, rest, own, both)
    ])

target_met : (at : Path → List Hit) (meets : Path → ℕ) → At at meets → (c : Configuration) (p : Path) (t : Target) → length (target_hits at c p t) ≤ met_target meets c p t
target_met at meets h c p t = elim t.children as (λ b. length (if b then member_hits at (p ++ t.names) (kids c (p ++ t.names)) else not_too_deep at (p ++ t.names)) ≤ (if b then met_members meets (map (followed_by (p ++ t.names)) (kids c (p ++ t.names))) else met_at meets (p ++ t.names))) [
  | true ↦ members_met at meets h (p ++ t.names) (kids c (p ++ t.names))
  | false ↦ deep_met at meets h (p ++ t.names)
]

pub hits_met : (depth : ℕ) (c : Configuration) (k : PacketValue) (p : Path) → length (hits depth c k p) ≤ most_met depth c p
unfolding hits most_met
hits_met zero c k p = omega arith
hits_met (suc depth) c k p = rules_met (tables_in c p) (target_hits (hits depth c k) c p) (met_target (most_met depth c) c p) (target_met (hits depth c k) (most_met depth c) (hits_met depth c k) c p) k p 0 (rules_at c p)
