-- The chains to which an anchor rule leads.
use Rattle.std.proofs.Common.{◌≡◌, ℕ, ◌&&◌, true, false, List, [], ◌∷◌, ◌++◌, map, length, reverse, Option, Some, None, refl, sym, ap, ◌∙◌, rules, option_map}
use Rattle.std.specs.Prelude.{not, nat_le, filter, if◌then◌else◌}
use Rattle.std.proofs.lemmas.List.{map-append, reverse-append}
use Rattle.pf_rules.specs.Names.{Name, begins_below}
use Rattle.pf_rules.specs.Items.{AnyRule, FilterRule, AnchorRule, Heading, rule_in}
use Rattle.pf_rules.specs.Seen.{rule_of, heading_of, items_of, with_block}
use Rattle.pf_rules.proofs.Carried.{anchor_is}
use Rattle.pf_rules.specs.declared.item.Item.{Item}
use Rattle.pf_config.specs.Changes.{is_empty}
use Rattle.pf_config.specs.Map.{Configuration, Path, rules_at, followed_by}
use Rattle.pf_config.specs.Trees.{AnchorTree, anchor_in, last_name}
use Rattle.pf_config.proofs.Descents.{no_rules_found}
use Rattle.pf_eval.proofs.Anchors.{anchor_names}
use Rattle.nft_rules.specs.Subset.{At, Pass, Backward}
use Rattle.pf_rules.specs.declared.rule.Rule.{Rule}
use Rattle.pf_rules.specs.declared.parts.Direction.{Direction}
use Rattle.pf_rules.specs.declared.item.AnchorRule as anchored
use Rattle.pf_rules.specs.declared.item.Item as item
use Rattle.nft_rules.specs.Rendering.{backward_chains, is_chained, Machine, alternatives, filter_rules, forward_rule}
use Rattle.nft_rules.specs.Rendering.{backward_rule}
use Rattle.nft_rules.specs.inner.Rendering.{is_member, rule_in as rule_at}

-- rules are there exactly if items are
pub any_rules : (items : List Item) (rules : List AnyRule) → map rule_of items ≡ rules → is_empty items ≡ is_empty rules
any_rules [] rules h = ap is_empty h
any_rules (x ∷ xs) rules h = ap is_empty h

-- the first path's chain comes last
pub first_last : (q : Path) (qs : List Path) → backward_chains (q ∷ qs) ≡ backward_chains qs ++ At Backward q ∷ []
first_last q qs = ap (map (At Backward)) (reverse-append (q ∷ []) qs) ∙ map-append (At Backward) (reverse qs) (q ∷ [])

-- what is found at a path is there
pub path_there : (c : Configuration) (p : Path) (t : AnchorTree) → Some t ≡ anchor_in c.anchors p → filter (is_chained c) (t.names ∷ []) ≡ filter (is_chained c) (p ∷ [])
path_there c p t h = ap (λ q. filter (is_chained c) (q ∷ [])) (anchor_names c p t h)

ruleless : (c : Configuration) (p : Path) → rules_at c p ≡ [] → is_chained c p ≡ false
ruleless c p h = rw h (elim (nat_le (length p) 8) as (λ v. (v && false) ≡ false) [ true ↦ refl | false ↦ refl ])

-- where no anchor is no jump leads
pub none_there : (c : Configuration) (p : Path) → None ≡ anchor_in c.anchors p → [] ≡ filter (is_chained c) (p ∷ [])
unfolding rules_at
none_there c p h = (let e : is_chained c p ≡ false = ruleless c p (sym (no_rules_found c.anchors p h)) in rw e refl)

last_of : (p : Path) (n : Name) → last_name (followed_by p n) ≡ n
last_of [] n = refl
last_of (m ∷ []) n = refl
last_of (m ∷ l ∷ p) n = last_of (l ∷ p) n

-- of the anchors attached to a path those that are no unnamed blocks
pub named_paths : (q : Path) (ns : List Name) → filter is_member (map (followed_by q) ns) ≡ map (followed_by q) (filter (λ n. not (begins_below n)) ns)
named_paths q [] = refl
named_paths q (n ∷ ns) =
    ap (λ x. if not (begins_below x) then followed_by q n ∷ filter is_member (map (followed_by q) ns) else filter is_member (map (followed_by q) ns)) (last_of q n)
    ∙ (elim (begins_below n) as (λ v. (if not v then followed_by q n ∷ filter is_member (map (followed_by q) ns) else filter is_member (map (followed_by q) ns))
    ≡ map (followed_by q) (if not v then n ∷ filter (λ n. not (begins_below n)) ns else filter (λ n. not (begins_below n)) ns)) [
      | true ↦ named_paths q ns
      | false ↦ ap (λ ps. followed_by q n ∷ ps) (named_paths q ns)
    ])

-- ---- the rules of the code's items

pub filter_rule : (r : Rule) → rule_of (item.Filter r) ≡ FilterRule r
filter_rule r = search (rules, item.the_lemmas)

head_only : (h : Heading) (o : Option (List _)) → rule_in (with_block h o) ≡ AnchorRule h
head_only h None = refl
head_only h (Some items) = refl

pub anchor_rule : (a : anchored.AnchorRule) → rule_of (item.Anchor a) ≡ AnchorRule (heading_of a.heading)
anchor_rule a = ap rule_in (anchor_is a) ∙ head_only (heading_of a.heading) (option_map (λ v. items_of v.value.items) a.block)

pub forward_filter : (c : Configuration) (m : Machine) (d : Direction) (p : Path) (i : ℕ) (r : Rule) (x : Item) → x ≡ item.Filter r →
    (if r.quick then filter_rules (alternatives c m d p r.conditions) p i r else []) ≡ forward_rule c m d p i (rule_of x)
forward_filter c m d p i r x is = ap (forward_rule c m d p i) (sym (ap rule_of is ∙ filter_rule r))

pub backward_filter : (c : Configuration) (m : Machine) (d : Direction) (p : Path) (i : ℕ) (r : Rule) (x : Item) → x ≡ item.Filter r →
    (if r.quick then [] else filter_rules (alternatives c m d p r.conditions) p i r) ≡ backward_rule c m d p i (rule_of x)
backward_filter c m d p i r x is = ap (backward_rule c m d p i) (sym (ap rule_of is ∙ filter_rule r))

pub either_anchor : (pass : Pass) (c : Configuration) (m : Machine) (d : Direction) (p : Path) (i : ℕ) (a : anchored.AnchorRule) (x : Item) → x ≡ item.Anchor a →
    rule_at pass c m d p i (AnchorRule (heading_of a.heading)) ≡ rule_at pass c m d p i (rule_of x)
either_anchor pass c m d p i a x is = ap (rule_at pass c m d p i) (sym (ap rule_of is ∙ anchor_rule a))
