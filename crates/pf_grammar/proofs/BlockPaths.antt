-- Rules behind others, and the paths of their blocks.
use Rattle.std.proofs.Common.{◌≡◌, ℕ, ◌||◌, false, List, [], ◌∷◌, ◌++◌, map, refl, sym, ap, subst, ◌∙◌, append_assoc}
use Rattle.std.specs.List.{AllByRecursion}
use Rattle.std.proofs.lemmas.Bool.{false≢true}
use Rattle.std.proofs.lemmas.List.{append-nil}
use Rattle.pf_rules.specs.declared.profile.Profile.{Profile}
use Rattle.pf_rules.specs.declared.parts.Policy.{Policy}
use Rattle.pf_rules.specs.declared.rule.Rule.{Rule}
use Rattle.pf_rules.specs.declared.rule.Conditions.{Conditions}
use Rattle.pf_rules.specs.Items.{Heading, ItemValue, ItemValues, Filters, Anchors, Blocks, values_of}
use Rattle.pf_statements.specs.Anchors.{AnchorText}
use Rattle.pf_statements.specs.Statements.{ItemText, RuleItem, AnchorItem, BlockItem, ItemTexts, no_texts, one_text}
use Rattle.pf_expansion.specs.declared.judged.Judged.{Judged}
use Rattle.pf_expansion.specs.Expansion.{combined, expanded, tested_flags}
use Rattle.pf_expansion.specs.Causes.{is_empty}
use Rattle.pf_expansion.specs.Anchors.{anchor_flags, headings, heading_with}
use Rattle.pf_expansion.specs.Blocks.{named, target_or_given, unnamed_after, carried, item_values, block_values, both, conditions_judged, ruleset_judged, item_judged, block_judged, nothing_wrong, Path, item_paths, block_paths, paths_in, paths_within, any_among, comes_again, unnamed_in}
use Rattle.pf_grammar.proofs.BlockFits.{AllFit, Clear, both_clear, ruleset_clear, parts_of, some_found, block_before, unnamed_behind}
use Rattle.pf_grammar.proofs.ItemsAgain.{FitsFrom, twice_in}

-- ---- paths of values

filters_pathless : (path : Path) (rs : List Rule) → paths_within path (values_of (map (λ (r : Rule). Filters r) rs)) ≡ []
filters_pathless path [] = refl
filters_pathless path (r ∷ rs) = filters_pathless path rs

anchors_pathless : (path : Path) (hs : List Heading) → paths_within path (values_of (map (λ (h : Heading). Anchors h) hs)) ≡ []
anchors_pathless path [] = refl
anchors_pathless path (h ∷ hs) = anchors_pathless path hs

paths_append : (path : Path) (xs ys : List ItemValue) → paths_within path (values_of (xs ++ ys)) ≡ paths_within path (values_of xs) ++ paths_within path (values_of ys)
paths_append path [] ys = refl
paths_append path (x ∷ xs) ys = ap (λ (ps : List Path). paths_in path x ++ ps) (paths_append path xs ys) ∙ sym (append_assoc (paths_in path x) (paths_within path (values_of xs)) (paths_within path (values_of ys)))

carried_paths : (path : Path) (a : AnchorText) (cs : List Conditions) (block : ItemValues) → is_empty cs ≡ false → paths_within path (values_of (carried (map (heading_with a) cs) block)) ≡ paths_within (path ++ a.target.names) block ++ (path ++ a.target.names) ∷ []
carried_paths path a [] block some = absurd (false≢true (sym some))
carried_paths path a (c ∷ cs) block some = ap (λ (ps : List Path). (paths_within (path ++ a.target.names) block ++ (path ++ a.target.names) ∷ []) ++ ps) (anchors_pathless path (map (heading_with a) cs)) ∙ append-nil _

headings_paths : (path : Path) (a : AnchorText) (block : ItemValues) → is_empty (combined (anchor_flags a) a.conditions) ≡ false → paths_within path (values_of (carried (headings a) block)) ≡ paths_within (path ++ a.target.names) block ++ (path ++ a.target.names) ∷ []
unfolding headings
headings_paths path a block some = carried_paths path a (combined (anchor_flags a) a.conditions) block some

mutual
  pub item_paths_are : (p : Policy) (path : Path) (u : ℕ) (item : ItemText) → Clear (item_judged item) → paths_within path (values_of (item_values p u item)) ≡ item_paths path u item
  item_paths_are p path u (RuleItem rule) clear = filters_pathless path (expanded p rule)
  item_paths_are p path u (AnchorItem anchor) clear = anchors_pathless path (headings anchor)
  item_paths_are p path u (BlockItem h items) clear =
      let test = tested_flags false h.conditions.flags in
      let halves = both_clear (conditions_judged test h.conditions) (ruleset_judged (block_judged nothing_wrong items)) clear in
      let inner = ruleset_clear (block_judged nothing_wrong items) halves.1 in
      let here = path ++ (target_or_given u h.target).names in
      headings_paths path (named u h) (values_of (block_values p 0 items)) (some_found test h.conditions (parts_of test h.conditions halves.0))
      ∙ ap (λ (ps : List Path). ps ++ here ∷ []) (block_paths_are p here 0 nothing_wrong items inner.0)

  block_paths_are : (p : Policy) (path : Path) (u : ℕ) (before : Judged) (items : ItemTexts) → Clear (block_judged before items) → paths_within path (values_of (block_values p u items)) ≡ block_paths path u items
  block_paths_are p path u before no_texts clear = refl
  block_paths_are p path u before (one_text item items) clear =
      let here = block_before (both before (item_judged item)) items clear in
      let halves = both_clear before (item_judged item) here in
      paths_append path (item_values p u item) (block_values p (unnamed_after u item) items)
      ∙ ap (λ (ps : List Path). ps ++ paths_within path (values_of (block_values p (unnamed_after u item) items))) (item_paths_are p path u item halves.1)
      ∙ ap (λ (ps : List Path). item_paths path u item ++ ps) (block_paths_are p path (unnamed_after u item) (both before (item_judged item)) items clear)

-- ---- rules behind others

pub from_append : (profile : Profile) (before xs ys : List ItemValue) → FitsFrom profile before xs → FitsFrom profile (before ++ xs) ys → FitsFrom profile before (xs ++ ys)
from_append profile before [] ys p q = subst (λ (b : List ItemValue). FitsFrom profile b ys) (append-nil before) q
from_append profile before (x ∷ xs) ys p q = (p.0, p.1, from_append profile (before ++ x ∷ []) xs ys p.2 (subst (λ (b : List ItemValue). FitsFrom profile b ys) (sym (append_assoc before (x ∷ []) xs)) q))

abbrev Pathless : ItemValue → Type 0
Pathless i = paths_in [] i ≡ []

once : (before : List ItemValue) (i : ItemValue) → Pathless i → twice_in before i ≡ false
once before i e = ap (λ (ps : List Path). any_among (paths_within [] (values_of before)) ps || comes_again ps) e

pub from_all : (profile : Profile) (before ys : List ItemValue) → AllFit profile (unnamed_in 0 before) ys → AllByRecursion Pathless ys → FitsFrom profile before ys
from_all profile before [] fits none = tt
from_all profile before (y ∷ ys) fits none = (fits.0, once before y none.0, from_all profile (before ++ y ∷ []) ys (subst (λ (u : ℕ). AllFit profile u ys) (sym (unnamed_behind 0 before (y ∷ []))) fits.1) none.1)

pub filters_none : (rs : List Rule) → AllByRecursion Pathless (map (λ (r : Rule). Filters r) rs)
filters_none [] = tt
filters_none (r ∷ rs) = (refl, filters_none rs)

pub anchors_none : (hs : List Heading) → AllByRecursion Pathless (map (λ (h : Heading). Anchors h) hs)
anchors_none [] = tt
anchors_none (h ∷ hs) = (refl, anchors_none hs)

-- the first carries the block, whose paths come once
pub from_carried : (profile : Profile) (before : List ItemValue) (hs : List Heading) (block : ItemValues) → AllFit profile (unnamed_in 0 before) (carried hs block) → (any_among (paths_within [] (values_of before)) (paths_within [] (values_of (carried hs block))) || comes_again (paths_within [] (values_of (carried hs block)))) ≡ false → FitsFrom profile before (carried hs block)
from_carried profile before [] block fits e = tt
from_carried profile before (h ∷ hs) block fits e =
    let i = Blocks h block in
    let same : paths_within [] (values_of (i ∷ map (λ (h : Heading). Anchors h) hs)) ≡ paths_in [] i = ap (λ (ps : List Path). paths_in [] i ++ ps) (anchors_pathless [] hs) ∙ append-nil (paths_in [] i) in
    let alone : twice_in before i ≡ false = sym (ap (λ (ps : List Path). any_among (paths_within [] (values_of before)) ps || comes_again ps) same) ∙ e in
    (fits.0, alone, from_all profile (before ++ i ∷ []) (map (λ (h : Heading). Anchors h) hs) (subst (λ (u : ℕ). AllFit profile u (map (λ (h : Heading). Anchors h) hs)) (sym (unnamed_behind 0 before (i ∷ []))) fits.1) (anchors_none hs))
