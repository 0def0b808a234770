-- The verdict by two walks over rules and anchors: the first hit that ends the evaluation, else the last hit.
use Rattle.std.specs.Prelude.{ℕ, zero, suc, ◌+◌, ◌++◌, Bool, List, [], ◌∷◌, length, map, Option, Some, None}
use Rattle.std.specs.Prelude.{◌≡◌, ◌&&◌, ◌==◌, not, nat_le, option_map, slice_get, if◌then◌else◌}
use Rattle.pf_rules.specs.declared.rule.Rule.{Rule}
use Rattle.pf_rules.specs.Names.{begins_below}
use Rattle.pf_rules.specs.Items.{AnyRule, FilterRule, AnchorRule, Target}
use Rattle.pf_config.specs.Map.{Configuration, Path, rules_at, kids, followed_by, or_else}
use Rattle.pf_config.specs.Trees.{AnchorTree, anchor_in, last_name}
use Rattle.pf_config.specs.Orders.{stops_of, others_of}
use Rattle.pf_config.specs.declared.candidate.Candidate.{Candidate}
use Rattle.pf_eval.specs.declared.hit.Hit as code
use Rattle.pf_eval.specs.declared.walk.Walk.{Walk}
use Rattle.pf_eval.specs.declared.walk.Walk.TheVariants.{Stops, Others}
use Rattle.pf_eval.specs.Packets.{PacketValue}
use Rattle.pf_eval.specs.Matching.{Tables, matches}
use Rattle.pf_eval.specs.inner.Sieves.{key_of, passes}
use Rattle.pf_eval.specs.Verdicts.{Hit, Spot, last, tables_in, no_tables}

-- ---- over hits

-- the spot of the first hit with a stop mark
abbrev pub first_stop : List Hit → Option Spot
first_stop [] = None
first_stop (h ∷ hs) = if h.stops then Some h.spot else first_stop hs

-- the spot of the last hit, whatever is before it
abbrev pub last_hit : List Hit → Option Spot
last_hit hs = last (map (λ (h : Hit). h.spot) hs)

-- ---- over rules and anchors

abbrev pub first_some : {X : Type 0} → (X → Option Spot) → List X → Option Spot
first_some f [] = None
first_some f (x ∷ xs) = or_else (f x) (first_some f xs)

-- the same from the back
abbrev pub last_some : {X : Type 0} → (X → Option Spot) → List X → Option Spot
last_some f [] = None
last_some f (x ∷ xs) = or_else (last_some f xs) (f x)

-- the first result of f for rules with the indices from i on
abbrev pub first_rule : (ℕ → AnyRule → Option Spot) → ℕ → List AnyRule → Option Spot
first_rule f i [] = None
first_rule f i (rule ∷ rules) = or_else (f i rule) (first_rule f (i + 1) rules)

-- the same from the back
abbrev pub last_rule : (ℕ → AnyRule → Option Spot) → ℕ → List AnyRule → Option Spot
last_rule f i [] = None
last_rule f i (rule ∷ rules) = or_else (last_rule f (i + 1) rules) (f i rule)

-- what a rule gives, if there is one
abbrev pub some_rule : (AnyRule → Option Spot) → Option AnyRule → Option Spot
some_rule f None = None
some_rule f (Some rule) = f rule

-- what a candidate gives: nothing where its sieve doesn't let the packet pass
abbrev pub candidate_spot : (ℕ → AnyRule → Option Spot) → List AnyRule → PacketValue → Candidate → Option Spot
candidate_spot f rules k candidate =
    if passes candidate.sieve (key_of k) then some_rule (f candidate.index) (slice_get rules candidate.index) else None

-- the spot of a filter rule that matches
abbrev pub rule_spot : Tables → PacketValue → Path → ℕ → Rule → Option Spot
rule_spot tables k p i r =
    if matches tables r.conditions k then Some (record { path = p; index = i; action = r.action }) else None

abbrev pub quick_spot : Tables → PacketValue → Path → ℕ → Rule → Option Spot
quick_spot tables k p i r = if r.quick then rule_spot tables k p i r else None

abbrev pub other_spot : Tables → PacketValue → Path → ℕ → Rule → Option Spot
other_spot tables k p i r = if r.quick then None else rule_spot tables k p i r

-- within a quick anchor rule any hit ends the evaluation: the last one before it ends there decides
abbrev pub ending : (quick : Bool) → (stop last : Option Spot) → Option Spot
ending quick stop last = if quick then or_else stop last else stop

-- where a rule ends the evaluation; stop and last are what the target of an anchor rule gives
abbrev pub rule_stop : Tables → (stop last : Target → Option Spot) → PacketValue → Path → ℕ → AnyRule →
    Option Spot
rule_stop tables stop last k p i (FilterRule r) = quick_spot tables k p i r
rule_stop tables stop last k p i (AnchorRule a) =
    if matches tables a.conditions k then ending a.quick (stop a.target) (last a.target) else None

-- the last hit of a rule that isn't quick
abbrev pub rule_last : Tables → (last : Target → Option Spot) → PacketValue → Path → ℕ → AnyRule → Option Spot
rule_last tables last k p i (FilterRule r) = other_spot tables k p i r
rule_last tables last k p i (AnchorRule a) =
    if a.quick then None else (if matches tables a.conditions k then last a.target else None)

-- an anchor rule that leads to an anchor alone in which no rule can end the evaluation, and that isn't quick
abbrev pub is_quiet : (quick children : Bool) → (stops : List Candidate) → Bool
is_quiet quick children stops = not quick && (not children && (length stops == 0))

-- a walk at a path, none where it is deeper than 8 names
abbrev pub shallow : (Path → Option Spot) → Path → Option Spot
shallow walk q = if nat_le (length q) 8 then walk q else None

-- a walk at a path, none where it is an unnamed block
abbrev pub in_member : (Path → Option Spot) → Path → Option Spot
in_member walk q = if begins_below (last_name q) then None else shallow walk q

abbrev pub kid_paths : Configuration → Path → List Path
kid_paths c q = map (followed_by q) (kids c q)

-- the first stop in the anchor at q, or in those attached to it
abbrev pub called_stop : (Path → Option Spot) → Configuration → (q : Path) → (children : Bool) → Option Spot
called_stop walk c q children = if children then first_some (in_member walk) (kid_paths c q) else shallow walk q

-- the last hit there
abbrev pub called_last : (Path → Option Spot) → Configuration → (q : Path) → (children : Bool) → Option Spot
called_last walk c q children = if children then last_some (in_member walk) (kid_paths c q) else shallow walk q

-- the first stop in what an anchor rule at a path evaluates
abbrev pub target_stop : (Path → Option Spot) → Configuration → Path → Target → Option Spot
target_stop walk c p t = called_stop walk c (p ++ t.names) t.children

-- the last hit there
abbrev pub target_last : (Path → Option Spot) → Configuration → Path → Target → Option Spot
target_last walk c p t = called_last walk c (p ++ t.names) t.children

-- ---- the walks

-- the last hit at a path of rules that aren't quick, where anchor rules nest less deep than this
unfoldable pub second_walk : (depth : ℕ) → Configuration → PacketValue → Path → Option Spot
second_walk zero c k p = None
second_walk (suc depth) c k p =
    last_rule (rule_last (tables_in c p) (target_last (second_walk depth c k) c p) k p) 0 (rules_at c p)

-- the first stop at a path, where anchor rules nest less deep than this
unfoldable pub first_walk : (depth : ℕ) → Configuration → PacketValue → Path → Option Spot
first_walk zero c k p = None
first_walk (suc depth) c k p =
    first_rule (rule_stop (tables_in c p) (target_stop (first_walk depth c k) c p)
    (target_last (second_walk depth c k) c p) k p) 0 (rules_at c p)

-- where a rule at a path ends the evaluation
abbrev pub stop_at : (depth : ℕ) → Configuration → PacketValue → Path → ℕ → AnyRule → Option Spot
stop_at depth c k p i rule = rule_stop (tables_in c p) (target_stop (first_walk depth c k) c p)
    (target_last (second_walk depth c k) c p) k p i rule

-- the last hit of a rule at a path, none if it is quick
abbrev pub last_at : (depth : ℕ) → Configuration → PacketValue → Path → ℕ → AnyRule → Option Spot
last_at depth c k p i rule = rule_last (tables_in c p) (target_last (second_walk depth c k) c p) k p i rule

-- ---- either walk

abbrev pub walked : Walk → (depth : ℕ) → Configuration → PacketValue → Path → Option Spot
walked Stops = first_walk
walked Others = second_walk

abbrev pub rule_at : Walk → (depth : ℕ) → Configuration → PacketValue → Path → ℕ → AnyRule → Option Spot
rule_at Stops = stop_at
rule_at Others = last_at

abbrev pub called : Walk → (Path → Option Spot) → Configuration → (q : Path) → (children : Bool) → Option Spot
called Stops = called_stop
called Others = called_last

-- what it goes over, of these rules
abbrev pub candidates_of : Walk → List AnyRule → List Candidate
candidates_of Stops = stops_of
candidates_of Others = others_of

-- ---- rules without tables, with nothing in any anchor

abbrev pub no_spot : Target → Option Spot
no_spot t = None

abbrev pub flat_stop : PacketValue → ℕ → AnyRule → Option Spot
flat_stop k i rule = rule_stop no_tables no_spot no_spot k [] i rule

abbrev pub flat_last : PacketValue → ℕ → AnyRule → Option Spot
flat_last k i rule = rule_last no_tables no_spot k [] i rule

-- ---- what the code walks over and finds

-- it is what the configuration has at the anchor's path
abbrev pub IsAnchorOf : Configuration → AnchorTree → Type 0
IsAnchorOf c t = Some t ≡ anchor_in c.anchors t.names

abbrev pub AreAnchorsOf : Configuration → List AnchorTree → Type 0
AreAnchorsOf c ts = (i : ℕ) (t : AnchorTree) → slice_get ts i ≡ Some t → IsAnchorOf c t

abbrev pub hit_of : code.Hit → Spot
hit_of h = record { path = h.names.now; index = h.index; action = h.action }

abbrev pub spot_in : Option code.Hit → Option Spot
spot_in found = option_map hit_of found
