-- The rules of a block, and what its ruleset keeps of it.
use Rattle.std.proofs.Common.{◌≡◌, ℕ, ◌≤◌, Bool, true, false, ◌||◌, List, [], ◌∷◌, ◌++◌, length, map, Some, Result, Ok, Err, OnOk, Vec, Global, suc, ◌+◌, ◌<◌, drop, get_or, add-one, drop-cons, refl, sym, ap, ◌∙◌}
use Rattle.std.specs.Prelude.{nat_lt, option_map}
use Rattle.std.specs.declared.rc.Rc.{Rc}
use Rattle.std.specs.List.{list_any}
use Rattle.std.proofs.lemmas.List.{append_assoc}
use Rattle.std.proofs.lemmas.Bool.{ltb-false}
use Rattle.pf_rules.specs.declared.item.Item.{Item, Anchor}
use Rattle.pf_rules.specs.declared.item.AnchorRule.{AnchorRule}
use Rattle.pf_rules.specs.Items.{AnyRule, ItemValue, Heading, Blocks, list_of, values_of, rule_in}
use Rattle.pf_rules.specs.inner.Items.{is_overfull, any_overfull}
use Rattle.pf_rules.specs.Seen.{heading_of, item_of, items_of, rule_of, with_block}
use Rattle.pf_rules.proofs.Carried.{anchor_is}
use Rattle.pf_rules.specs.Names.{Name}
use Rattle.pf_config.specs.Map.{Configuration, Path}
use Rattle.pf_config.specs.Changes.{Block, Definition, blocks_of, blocks_in, load}

pub list_values : (xs : List ItemValue) → list_of (values_of xs) ≡ xs
list_values [] = refl
list_values (x ∷ xs) = ap (λ (ys : List ItemValue). x ∷ ys) (list_values xs)

pub any_values : (xs : List ItemValue) → any_overfull (values_of xs) ≡ list_any is_overfull xs
any_values [] = refl
any_values (x ∷ xs) = rw (any_values xs) refl

pub neither : (a b : Bool) → (a || b) ≡ false → (a ≡ false) × (b ≡ false)
neither true b h = absurd cc
neither false b h = (refl, h)

pub same_length : (items : List Item) → length (items_of items) ≡ length items
same_length [] = refl
same_length (x ∷ items) = rw (same_length items) refl

pub same_rules : (items : List Item) → map rule_in (items_of items) ≡ map rule_of items
same_rules [] = refl
same_rules (x ∷ items) = rw (same_rules items) refl

-- a block that isn't overfull has few items, and none of its blocks is
pub few_in : (h : Heading) (items : List Item) → is_overfull (Blocks h (values_of (items_of items))) ≡ false →
    (length items ≤ 1024) × (list_any is_overfull (items_of items) ≡ false)
few_in h items e =
    let both = neither (nat_lt 1024 (length (list_of (values_of (items_of items))))) (any_overfull (values_of (items_of items))) e in
    let size : length (list_of (values_of (items_of items))) ≡ length items = ap length (list_values (items_of items)) ∙ same_length items in
    (ltb-false 1024 (length items) (ap (nat_lt 1024) (sym size) ∙ both.0), sym (any_values (items_of items)) ∙ both.1)

pub block_is : (item : Item) (a : AnchorRule) (v : Rc (Vec Item Global) Global) → item ≡ Anchor a → a.block ≡ Some v →
    item_of item ≡ Blocks (heading_of a.heading) (values_of (items_of v.value.items))
block_is item a v is some = ap item_of is ∙ anchor_is a ∙ ap (λ o. with_block (heading_of a.heading) (option_map (λ v. items_of v.value.items) o)) some

snoc : {X : Type 0} (xs : List X) (x : X) (rest : List X) → (xs ++ x ∷ []) ++ rest ≡ xs ++ x ∷ rest
snoc [] x rest = refl
snoc (y ∷ xs) x rest = ap (λ zs. y ∷ zs) (snoc xs x rest)

-- a block was put behind those found, and then those in it
pub then_within : (p own names : Path) (h : Heading) (items : List Item) (old pushed new : List Block) (b : Block) → pushed ≡ old ++ b ∷ [] →
    b ≡ record { path = own; rules = map rule_of items } → own ≡ p ++ h.target.names → names ≡ p ++ h.target.names →
    new ≡ pushed ++ blocks_in names (values_of (items_of items)) → new ≡ old ++ blocks_of p (Blocks h (values_of (items_of items)))
then_within p own names h items old pushed new b put is at there rest =
    let rules : map rule_in (list_of (values_of (items_of items))) ≡ map rule_of items = ap (map rule_in) (list_values (items_of items)) ∙ same_rules items in
    let first : b ≡ record { path = p ++ h.target.names; rules = map rule_in (list_of (values_of (items_of items))) } =
    is ∙ ap (λ (q : Path). record { path = q; rules = map rule_of items }) at ∙ ap (λ (rs : List AnyRule). record { path = p ++ h.target.names; rules = rs }) (sym rules) in
    rest ∙ ap (λ bs. bs ++ blocks_in names (values_of (items_of items))) put ∙ snoc old b _
    ∙ ap (λ q. old ++ b ∷ blocks_in q (values_of (items_of items))) there
    ∙ ap (λ c. old ++ c ∷ blocks_in (p ++ h.target.names) (values_of (items_of items))) first

pub on_ok : {X E P Q : Type 0} (r : Result X E) → (P → Q) → OnOk r P → OnOk r Q
on_ok (Ok x) f h = f h
on_ok (Err e) f h = h

-- the blocks of a rule were put behind those found, and those of the rules behind it are left
pub then_blocks : (p : Path) (i : ℕ) (items : List Item) (item : Item) (found next all : List Block) → i < length items → item ≡ get_or items i item →
    next ≡ found ++ blocks_of p (item_of item) → found ++ blocks_in p (values_of (items_of (drop i items))) ≡ all →
    next ++ blocks_in p (values_of (items_of (drop (i + 1) items))) ≡ all
then_blocks p i items item found next all lt is put before =
    let split : drop i items ≡ item ∷ drop (i + 1) items = rw add-one (drop-cons items i item lt ∙ ap (λ (x : Item). x ∷ drop (suc i) items) (sym is)) in
    let rest = blocks_in p (values_of (items_of (drop (i + 1) items))) in
    ap (λ bs. bs ++ rest) put ∙ append_assoc found (blocks_of p (item_of item)) rest
    ∙ ap (λ xs. found ++ blocks_in p (values_of (items_of xs))) (sym split) ∙ before

pub then_few : (i : ℕ) (items : List Item) (item : Item) → i < length items → item ≡ get_or items i item →
    list_any is_overfull (items_of (drop i items)) ≡ false → (is_overfull (item_of item) ≡ false) × (list_any is_overfull (items_of (drop (i + 1) items)) ≡ false)
then_few i items item lt is before =
    let split : drop i items ≡ item ∷ drop (i + 1) items = rw add-one (drop-cons items i item lt ∙ ap (λ (x : Item). x ∷ drop (suc i) items) (sym is)) in
    neither _ _ (ap (λ xs. list_any is_overfull (items_of xs)) (sym split) ∙ before)

pub loads_same : (c : Configuration) (skip : List Name) (own own' : Block) (ds ds' : List Definition) (bs bs' : List Block) → own ≡ own' → ds ≡ ds' → bs ≡ bs' →
    load c skip own ds bs ≡ load c skip own' ds' bs'
loads_same c skip own own' ds ds' bs bs' o d b = ap (λ x. load c skip x ds bs) o ∙ ap (λ x. load c skip own' x bs) d ∙ ap (load c skip own' ds') b
