-- The numbers of many paths, one behind the other.
use Rattle.std.proofs.Common.{◌≡◌, ℕ, Bool, true, false, List, [], ◌∷◌, ◌++◌, ◌+◌, ◌<◌, length, map, drop, drop-cons, get_or, add-one, Option, Some, None, append_assoc, refl, sym, ap, ◌∙◌}
use Rattle.std.proofs.lemmas.List.{map-append, append-nil}
use Rattle.std.proofs.lemmas.Bool.{false≢true}
use Rattle.std.specs.Global.{Vec}
use Rattle.pf_statements.specs.Anchors.{HeadingText}
use Rattle.pf_statements.specs.Statements.{ItemText, ItemTexts, RuleItem, AnchorItem, BlockItem}
use Rattle.pf_statements.specs.declared.written.WrittenItem.{WrittenItem}
use Rattle.pf_statements.specs.declared.written.WrittenItem.TheVariants.{Rule, Anchor, Block, rolls-Rule, rolls-Anchor, rolls-Block}
use Rattle.pf_statements.specs.declared.written.WrittenItem.TheOpen.{WrittenItem-F}
use Rattle.pf_statements.specs.declared.written.WrittenItem.TheFolds.{fold-roll-WrittenItem}
use Rattle.pf_statements.specs.declared.written.WrittenRule.{WrittenRule}
use Rattle.pf_statements.specs.declared.written.WrittenAnchor.{WrittenAnchor}
use Rattle.pf_statements.specs.declared.written.WrittenHeading.{WrittenHeading}
use Rattle.pf_statements.specs.Seen.{item_step, item_text_of, item_texts_of, text_of, anchor_text_of, heading_text_of}
use Rattle.pf_expansion.specs.Blocks.{Path, item_paths, block_paths, target_or_given, unnamed_after}
use Rattle.pf_expansion.specs.inner.Numbers.{Steps, walk, number_of, Grows, AreBehind, AreNumbered}
use Rattle.pf_expansion.proofs.Walking.{walk_append, walk_grows}

abbrev first : List (Option ℕ) → Option ℕ
first [] = None
first (x ∷ xs) = x

abbrev pub somes : List ℕ → List (Option ℕ)
somes ks = map (λ (k : ℕ). Some k) ks

pub head_same : (x y : Option ℕ) (xs ys : List (Option ℕ)) → x ∷ xs ≡ y ∷ ys → x ≡ y
head_same x y xs ys e = ap first e

pub tail_same : (x y : Option ℕ) (xs ys : List (Option ℕ)) → x ∷ xs ≡ y ∷ ys → xs ≡ ys
tail_same x y xs ys e = ap (λ (zs : List (Option ℕ)). drop 1 zs) e

pub cons_none : {A : Type 0} {x : A} {xs : List A} → x ∷ xs ≡ [] → ⊥
cons_none {A = A} e = false≢true (ap (is_nil A) e)
  where
    is_nil : (A : Type 0) → List A → Bool
    is_nil A [] = true
    is_nil A (x ∷ xs) = false

numbers_grow : (m n : Steps) → Grows m n → (ps : List Path) (ks : List ℕ) → map (number_of m) ps ≡ somes ks → map (number_of n) ps ≡ somes ks
numbers_grow m n g [] ks e = e
numbers_grow m n g (p ∷ ps) [] e = absurd (cons_none e)
numbers_grow m n g (p ∷ ps) (k ∷ ks) e = rw (walk_grows m n g (Some 0) p k (head_same (number_of m p) (Some k) (map (number_of m) ps) (somes ks) e), numbers_grow m n g ps ks (tail_same (number_of m p) (Some k) (map (number_of m) ps) (somes ks) e)) refl

behind_grows : (m n : Steps) → Grows m n → (ps : List Path) (olds news : List ℕ) → AreBehind m ps olds news → AreBehind n ps olds news
behind_grows m n g ps olds news b = (b.0, b.1, numbers_grow m n g ps b.0 b.2)

behind_append : (m : Steps) (ps qs : List Path) (olds mids news : List ℕ) → AreBehind m ps olds mids → AreBehind m qs mids news → AreBehind m (ps ++ qs) olds news
behind_append m ps qs olds mids news a b = (
  a.0 ++ b.0,
  b.1 ∙ ap (λ (ks : List ℕ). ks ++ b.0) a.1 ∙ append_assoc olds a.0 b.0,
  map-append (number_of m) ps qs ∙ ap (λ (xs : List (Option ℕ)). xs ++ map (number_of m) qs) a.2 ∙ ap (λ (xs : List (Option ℕ)). somes a.0 ++ xs) b.2 ∙ sym (map-append (λ (k : ℕ). Some k) a.0 b.0),
)

-- at first
pub numbered_none : (m : Steps) (from : ℕ) (ks : List ℕ) (all : Path → List Path) → AreNumbered m m from ks ks all all
unfolding AreNumbered
numbered_none m from ks all = (λ p n k e. e, λ path at. ([], refl, ([], sym (append-nil ks), refl)))

-- with one rule more
pub numbered_more : (a b c : Steps) (from : ℕ) (olds mids news : List ℕ) (all item rest left : Path → List Path) → AreNumbered a b from olds mids all rest → AreNumbered b c from mids news item (λ (path : Path). []) → ((path : Path) → rest path ≡ item path ++ left path) → AreNumbered a c from olds news all left
unfolding AreNumbered
numbered_more a b c from olds mids news all item rest left x y same = (
  λ p n k e. y.0 p n k (x.0 p n k e),
  λ path at.
      let one = x.1 path at in
      let two = y.1 path (walk_grows a b x.0 (Some 0) path from at) in (
        one.0 ++ two.0,
        one.1 ∙ ap (λ (ps : List Path). one.0 ++ ps) (same path ∙ ap (λ (ps : List Path). ps ++ left path) (two.1 ∙ append-nil two.0)) ∙ sym (append_assoc one.0 two.0 (left path)),
        behind_append c one.0 two.0 olds mids news (behind_grows b c y.0 one.0 olds mids one.2) two.2,
      ),
)

-- none
pub numbered_empty : (m : Steps) (from : ℕ) (ks : List ℕ) (all : Path → List Path) → ((path : Path) → all path ≡ []) → AreNumbered m m from ks ks all (λ (path : Path). [])
unfolding AreNumbered
numbered_empty m from ks all empty = (λ p n k e. e, λ path at. ([], empty path, ([], sym (append-nil ks), refl)))

-- a block at its number
pub numbered_block : (a b c : Steps) (from at unnamed : ℕ) (names : Path) (olds mids news : List ℕ) (h : HeadingText) (items : ItemTexts) (all : Path → List Path) → names ≡ (target_or_given unnamed h.target).names → ((path : Path) → all path ≡ item_paths path unnamed (BlockItem h items)) → Grows a b → walk b (Some from) names ≡ Some at → AreNumbered b c at olds mids (λ (path : Path). block_paths path 0 items) (λ (path : Path). []) → news ≡ mids ++ at ∷ [] → AreNumbered a c from olds news all (λ (path : Path). [])
unfolding AreNumbered
numbered_block a b c from at unnamed names olds mids news h items all target same g there x pushed = (
  λ p n k e. x.0 p n k (g p n k e),
  λ path begin.
      let here = path ++ names in
      let number : number_of b here ≡ Some at = walk_append b (Some 0) path names ∙ ap (λ (o : Option ℕ). walk b o names) (walk_grows a b g (Some 0) path from begin) ∙ there in
      let one = x.1 here number in
      let last : AreBehind c (here ∷ []) mids news = (at ∷ [], pushed, ap (λ (o : Option ℕ). o ∷ []) (walk_grows b c x.0 (Some 0) here at number)) in (
        one.0 ++ here ∷ [],
        same path ∙ ap (λ (ns : Path). block_paths (path ++ ns) 0 items ++ (path ++ ns) ∷ []) (sym target) ∙ ap (λ (ps : List Path). ps ++ here ∷ []) (one.1 ∙ append-nil one.0) ∙ sym (append-nil (one.0 ++ here ∷ [])),
        behind_append c one.0 (here ∷ []) olds mids news one.2 last,
      ),
)

-- ---- rules as source

pub rule_text : (r : WrittenRule) → item_text_of (Rule r) ≡ RuleItem (text_of r)
rule_text r = ap item_text_of (sym (rolls-Rule r)) ∙ fold-roll-WrittenItem ItemText item_step (WrittenItem-F.Rule r)

pub anchor_text : (a : WrittenAnchor) → item_text_of (Anchor a) ≡ AnchorItem (anchor_text_of a)
anchor_text a = ap item_text_of (sym (rolls-Anchor a)) ∙ fold-roll-WrittenItem ItemText item_step (WrittenItem-F.Anchor a)

pub block_text : (h : WrittenHeading) (items : Vec WrittenItem) → item_text_of (Block h items) ≡ BlockItem (heading_text_of h) (item_texts_of items.items)
block_text h items = ap item_text_of (sym (rolls-Block h items)) ∙ fold-roll-WrittenItem ItemText item_step (WrittenItem-F.Block h items)

-- the next rule of a block
pub next_paths : (items : List WrittenItem) (i : ℕ) (item : WrittenItem) (unnamed next : ℕ) → i < length items → item ≡ get_or items i item → next ≡ unnamed_after unnamed (item_text_of item) → (path : Path) → block_paths path unnamed (item_texts_of (drop i items)) ≡ item_paths path unnamed (item_text_of item) ++ block_paths path next (item_texts_of (drop (i + 1) items))
next_paths items i item unnamed next within is e path =
    let here : drop i items ≡ item ∷ drop (i + 1) items = rw add-one (drop-cons items i item within) ∙ ap (λ (x : WrittenItem). x ∷ drop (i + 1) items) (sym is) in
    ap (λ (is : List WrittenItem). block_paths path unnamed (item_texts_of is)) here ∙ ap (λ (k : ℕ). item_paths path unnamed (item_text_of item) ++ block_paths path k (item_texts_of (drop (i + 1) items))) (sym e)

-- all numbers of a rule that is at the root
pub all_numbers : (m n : Steps) (olds news : List ℕ) (all : Path → List Path) → olds ≡ [] → AreNumbered m n 0 olds news all (λ (path : Path). []) → map (number_of n) (all []) ≡ somes news
unfolding AreNumbered
all_numbers m n olds news all none x =
    let one = x.1 [] refl in
    ap (λ (ps : List Path). map (number_of n) ps) (one.1 ∙ append-nil one.0) ∙ one.2.2 ∙ ap somes (sym (one.2.1 ∙ ap (λ (ks : List ℕ). ks ++ one.2.0) none))
