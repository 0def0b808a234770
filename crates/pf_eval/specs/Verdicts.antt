-- The verdict: of the rules that match, the last one before the evaluation ends decides (pf.conf(5), "the last matching
-- rule decides").
use Rattle.std.specs.Prelude.{ℕ, zero, suc, ◌+◌, Bool, true, List, [], ◌∷◌, ◌++◌, Option, Some, None}
use Rattle.std.specs.Prelude.{map, length, filter, not, nat_le, if◌then◌else◌}
use Rattle.std.specs.List.{list_any, flat_map}
use Rattle.std.specs.Str.{bytes_eq}
use Rattle.pf_rules.specs.declared.rule.Action.{Action}
use Rattle.pf_rules.specs.Names.{Name, begins_below}
use Rattle.pf_rules.specs.Items.{AnyRule, FilterRule, AnchorRule, Target}
use Rattle.pf_config.specs.Map.{Configuration, Path, rules_at, table_for, kids, followed_by, or_else}
use Rattle.pf_eval.specs.Packets.{PacketValue, interfaces}
use Rattle.pf_eval.specs.Matching.{Tables, matches}

-- where a rule is, and what it does
pub record Spot : Type 0 where
  pub path : Path
  pub index : ℕ
  pub action : Action

-- a filter rule that matches; with a stop mark the evaluation ends there
pub record Hit : Type 0 where
  pub spot : Spot
  pub stops : Bool

-- the last hit gets a stop mark
abbrev pub stop_last : List Hit → List Hit
stop_last [] = []
stop_last (h ∷ []) = record { spot = h.spot; stops = true } ∷ []
stop_last (h ∷ g ∷ hs) = h ∷ stop_last (g ∷ hs)

-- a quick anchor rule ends the evaluation if a filter rule within it matched
abbrev pub marked : (quick : Bool) → List Hit → List Hit
marked quick hits = if quick then stop_last hits else hits

-- the hits of the rule with this index at a path, whose rules may name these tables; within gives the hits of the
-- target of an anchor rule
abbrev pub rule_hits : Tables → (within : Target → List Hit) → PacketValue → Path → ℕ → AnyRule →
    List Hit
rule_hits tables within k p i (FilterRule r) =
    if matches tables r.conditions k
    then record { spot = record { path = p; index = i; action = r.action }; stops = r.quick } ∷ [] else []
rule_hits tables within k p i (AnchorRule a) =
    if matches tables a.conditions k then marked a.quick (within a.target) else []

-- the hits of rules with the indices from i on
abbrev pub hits_with : Tables → (within : Target → List Hit) → PacketValue → Path → ℕ → List AnyRule →
    List Hit
hits_with tables within k p i [] = []
hits_with tables within k p i (rule ∷ rules) =
    rule_hits tables within k p i rule ++ hits_with tables within k p (i + 1) rules

-- those of the anchors attached to a path that are no unnamed blocks, in byte order
abbrev pub members : Path → List Name → List Path
members p names = map (followed_by p) (filter (λ n. not (begins_below n)) names)

-- the hits at a path, none where it is deeper than 8 names
abbrev pub not_too_deep : (Path → List Hit) → Path → List Hit
not_too_deep at q = if nat_le (length q) 8 then at q else []

-- the hits of the anchors of these names attached to a path, one after the other, without unnamed blocks
abbrev pub member_hits : (Path → List Hit) → Path → List Name → List Hit
member_hits at p names = flat_map (not_too_deep at) (members p names)

-- the hits of what an anchor rule at a path evaluates: the anchor of its names, or the anchors attached to that
abbrev pub target_hits : (Path → List Hit) → Configuration → Path → Target → List Hit
target_hits at c p t =
    if t.children then member_hits at (p ++ t.names) (kids c (p ++ t.names)) else not_too_deep at (p ++ t.names)

-- the table that a rule at a path names: the path's own, else main's
abbrev pub tables_in : Configuration → Path → Tables
tables_in c p name = table_for c p name

-- the hits of the rules at a path, where anchor rules nest less deep than this
-- Example: main's anchor "x/*" quick, and a match in x/b alone: one hit, marked.
unfoldable pub hits : (depth : ℕ) → Configuration → PacketValue → Path → List Hit
hits zero c k p = []
hits (suc depth) c k p = hits_with (tables_in c p) (target_hits (hits depth c k) c p) k p 0 (rules_at c p)

-- what follows the first stop mark is cut off
abbrev pub cut : List Hit → List Hit
cut [] = []
cut (h ∷ hs) = if h.stops then h ∷ [] else h ∷ cut hs

-- the last of a list, none if it is empty
abbrev pub last : {X : Type 0} → List X → Option X
last [] = None
last (x ∷ xs) = or_else (last xs) (Some x)

-- the rule that decides: that of the last hit up to the first stop mark, none without a hit
abbrev pub last_spot : List Hit → Option Spot
last_spot hs = last (map (λ (h : Hit). h.spot) (cut hs))

-- the result for a packet: its interface is skipped, or the last hit decides, if there is one
pub data Judgement : Type 0 where
  Skipped : Judgement
  Decided : (spot : Option Spot) → Judgement

-- a name of the packet's interface is in the skip list
abbrev pub is_skipped : List Name → PacketValue → Bool
is_skipped skip k = list_any (λ n. list_any (λ m. bytes_eq m n) (interfaces k)) skip

-- The verdict of a configuration. Paths are at most 8 names deep, and each anchor rule leads to a deeper one, so that
-- main's rules nest at most 9 deep.
abbrev pub judgement : Configuration → PacketValue → Judgement
judgement c k = if is_skipped c.skip k then Skipped else Decided (last_spot (hits 9 c k []))

-- there is no table, whatever its name
abbrev pub no_tables : Tables
no_tables name = None

-- no anchor rule yields a hit
abbrev pub no_hits : Target → List Hit
no_hits t = []

-- the verdict of these rules alone: without tables, and with nothing in any anchor
abbrev pub flat_judgement : (skip : List Name) → List AnyRule → PacketValue → Judgement
flat_judgement skip rules k = if is_skipped skip k then Skipped
    else Decided (last_spot (hits_with no_tables no_hits k [] 0 rules))
