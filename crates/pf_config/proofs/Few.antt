-- Flushes leave no more entries in the map.
use Rattle.std.proofs.Common.{◌≡◌, ℕ, ◌+◌, ◌≤◌, Bool, true, false, cond, List, [], ◌∷◌, ◌++◌, length, Option, Some, None, refl, sym, subst, ap, arith, length-append}
use Rattle.std.specs.Prelude.{not, filter}
use Rattle.std.specs.declared.cmp.Ordering.TheVariants.{Less}
use Rattle.std.specs.Ordering.{is_lt, nat_cmp}
use Rattle.std.specs.Cmp.Lexicographic.{slice_cmp}
use Rattle.std.proofs.lemmas.Cmp.{tied_itself}
use Rattle.pf_rules.specs.Items.{AnyRule}
use Rattle.pf_rules.specs.Names.{Name}
use Rattle.pf_tables.specs.Tables.{TableValue}
use Rattle.pf_config.specs.Map.{AnchorValue, Path, path_eq, anchor_at, rules_in, tables_in, name_after}
use Rattle.pf_config.specs.Changes.{is_nothing, unless_nothing, is_path_before, anchors_before, anchors_behind, with_anchor, with_tables, without_unnamed, is_some_unnamed, used_alone, tidied_of, tidied, placed}
use Rattle.pf_config.proofs.Treed.{is_less, path_same}
use Rattle.pf_config.proofs.Entries.{paths_total, turn}

length_filter : {X : Type 0} (test : X → Bool) (xs : List X) → length (filter test xs) ≤ length xs
length_filter test [] = omega arith
length_filter test (x ∷ xs) = let l = length_filter test xs in elim (test x) as (λ b. length (cond b (x ∷ filter test xs) (filter test xs)) ≤ length (x ∷ xs)) [ true ↦ omega (arith, l) | false ↦ omega (arith, l) ]

not_behind : (p q : Path) → is_path_before p q ≡ true → is_path_before q p ≡ false
not_behind p q h = ap is_lt (turn p q Less (is_less (slice_cmp (slice_cmp nat_cmp) p q) h))

not_itself : (p : Path) → is_path_before p p ≡ false
not_itself p = ap is_lt (tied_itself paths_total p)

length_tidied : (all es : List AnchorValue) → length (tidied_of all es) ≤ length es
length_tidied all [] = omega arith
length_tidied all (a ∷ es) =
    let l = length_tidied all es in
    elim (is_nothing (used_alone all a)) as (λ b. length (cond (not b) (used_alone all a ∷ tidied_of all es) (tidied_of all es)) ≤ length (a ∷ es)) [ true ↦ omega (arith, l) | false ↦ omega (arith, l) ]

abbrev found : Option AnchorValue → ℕ
found None = 0
found (Some a) = 1

sides : (p : Path) (es : List AnchorValue) → length (anchors_before p es) + length (anchors_behind p es) + found (anchor_at p es) ≤ length es
sides p [] = omega arith
sides p (a ∷ es) =
    let rest = sides p es in
    (elim (path_eq a.path p) as (λ b. path_eq a.path p ≡ b → length (anchors_before p (a ∷ es)) + length (anchors_behind p (a ∷ es)) + found (cond b (Some a) (anchor_at p es)) ≤ length (a ∷ es)) [
      | true ↦ λ e.
          let same : a.path ≡ p = path_same a.path p e in
          let before : is_path_before a.path p ≡ false = subst (λ (q : Path). is_path_before q p ≡ false) (sym same) (not_itself p) in
          let behind : is_path_before p a.path ≡ false = subst (λ (q : Path). is_path_before p q ≡ false) (sym same) (not_itself p) in
          rw (before, behind) (omega (arith, rest))
      | false ↦ λ e. (elim (is_path_before a.path p) as (λ c. is_path_before a.path p ≡ c → length (cond c (a ∷ anchors_before p es) (anchors_before p es)) + length (anchors_behind p (a ∷ es)) + found (anchor_at p es) ≤ length (a ∷ es)) [
        | true ↦ λ k. rw (not_behind a.path p k) (omega (arith, rest))
        | false ↦ λ k. elim (is_path_before p a.path) as (λ c. length (anchors_before p es) + length (cond c (a ∷ anchors_behind p es) (anchors_behind p es)) + found (anchor_at p es) ≤ length (a ∷ es)) [ true ↦ omega (arith, rest) | false ↦ omega (arith, rest) ]
      ]) refl
    ]) refl

length_with : (a : AnchorValue) (es : List AnchorValue) → length (unless_nothing a) ≤ found (anchor_at a.path es) → length (with_anchor a es) ≤ length es
unfolding with_anchor
length_with a es h =
    let one = length-append (anchors_before a.path es ++ unless_nothing a) (anchors_behind a.path es) in
    let two = length-append (anchors_before a.path es) (unless_nothing a) in
    let three = sides a.path es in
    omega (arith, one, two, three, h)

at_most_one : (a : AnchorValue) → length (unless_nothing a) ≤ 1
at_most_one a = elim (is_nothing a) as (λ b. length (cond b [] (a ∷ [])) ≤ 1) [ true ↦ omega arith | false ↦ omega arith ]

no_rules_left : (p : Path) (o : Option AnchorValue) → length (unless_nothing (record { path = p; rules = []; tables = tables_in o })) ≤ found o
no_rules_left p None = omega arith
no_rules_left p (Some a) = at_most_one (record { path = p; rules = []; tables = a.tables })

no_tables_left : (p : Path) (o : Option AnchorValue) → length (unless_nothing (record { path = p; rules = rules_in o; tables = [] })) ≤ found o
no_tables_left p None = omega arith
no_tables_left p (Some a) = at_most_one (record { path = p; rules = a.rules; tables = [] })

without_tables : (p : Path) (es : List AnchorValue) → length (with_tables p [] es) ≤ length es
without_tables p es = length_with (record { path = p; rules = rules_in (anchor_at p es); tables = [] }) es (no_tables_left p (anchor_at p es))

pub tables_few : (p : Path) (tables : List (Name × TableValue)) (es : List AnchorValue) → tables ≡ [] → length (with_tables p tables es) ≤ length es
tables_few p tables es h = subst (λ (ts : List (Name × TableValue)). length (with_tables p ts es) ≤ length es) (sym h) (without_tables p es)

without_rules : (p : Path) (es : List AnchorValue) → length (tidied (placed es (record { path = p; rules = [] }))) ≤ length es
unfolding tidied without_unnamed
without_rules p es =
    let named = without_unnamed p es in
    let left = placed es (record { path = p; rules = [] }) in
    let l = length_with (record { path = p; rules = []; tables = tables_in (anchor_at p named) }) named (no_rules_left p (anchor_at p named)) in
    let m = length_filter (λ (a : AnchorValue). not (is_some_unnamed (name_after p a.path))) es in
    let n = length_tidied left left in
    omega (arith, l, m, n)

pub rules_few : (p : Path) (rules : List AnyRule) (es : List AnchorValue) → rules ≡ [] → length (tidied (placed es (record { path = p; rules = rules }))) ≤ length es
rules_few p rules es h = subst (λ (rs : List AnyRule). length (tidied (placed es (record { path = p; rules = rs }))) ≤ length es) (sym h) (without_rules p es)
