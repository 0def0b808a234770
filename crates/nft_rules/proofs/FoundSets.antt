-- The set of a table is found by its name.
use Rattle.std.proofs.Common.{◌≡◌, Bool, true, false, List, [], ◌∷◌, ◌++◌, Option, Some, None, option_map, map, ◌||◌, refl, sym, ap, ◌∙◌}
use Rattle.std.specs.Prelude.{find, if◌then◌else◌}
use Rattle.std.specs.List.{flat_map, list_any}
use Rattle.std.specs.Map.{lookup}
use Rattle.std.specs.Str.{bytes_eq}
use Rattle.pf_addr.specs.declared.addr.Family.{Family}
use Rattle.pf_addr.specs.declared.addr.Family.TheVariants.{Inet, Inet6}
use Rattle.pf_rules.specs.Names.{Name}
use Rattle.pf_tables.specs.Tables.{TableValue}
use Rattle.pf_config.specs.Map.{Configuration, AnchorValue, Path, path_eq, anchor_at, tables_in, tables_at, table_at, table_names, paths_in, or_else}
use Rattle.nft_rules.specs.Subset.{SetName, Interval, NamedSet}
use Rattle.nft_rules.specs.Cuts.{elements}
use Rattle.nft_rules.specs.Evaluation.{is_set, elements_in}
use Rattle.nft_rules.specs.Rendering.{entries_in, table_set, table_sets, path_sets, sets_of}
use Rattle.pf_config.proofs.Treed.{path_itself, path_same, bytes_same}
use Rattle.std.proofs.lemmas.Bool.{false≢true}

pub find_append : {X : Type 0} (test : X → Bool) (xs ys : List X) → find test (xs ++ ys) ≡ or_else (find test xs) (find test ys)
find_append test [] ys = refl
find_append test (x ∷ xs) ys = elim (test x) as (λ v. (if v then Some x else find test (xs ++ ys)) ≡ or_else (if v then Some x else find test xs) (find test ys)) [ true ↦ refl | false ↦ find_append test xs ys ]

-- the elements of the set of that name
abbrev found : SetName → List NamedSet → Option (List Interval)
found n sets = option_map (λ (s : NamedSet). s.elements) (find (is_set n) sets)

map_or : (a b : Option NamedSet) → option_map (λ (s : NamedSet). s.elements) (or_else a b) ≡ or_else (option_map (λ (s : NamedSet). s.elements) a) (option_map (λ (s : NamedSet). s.elements) b)
map_or None b = refl
map_or (Some s) b = refl

found_append : (n : SetName) (xs ys : List NamedSet) → found n (xs ++ ys) ≡ or_else (found n xs) (found n ys)
found_append n xs ys = ap (option_map (λ (s : NamedSet). s.elements)) (find_append (is_set n) xs ys) ∙ map_or (find (is_set n) xs) (find (is_set n) ys)

abbrev name_at : Path → Name → Family → SetName
name_at p name f = record { owner = p; table = name; family = f }

-- of another path none is found
other_owner : (c : Configuration) (o p : Path) (name : Name) (f : Family) (ns : List Name) → path_eq o p ≡ false → found (name_at p name f) (flat_map (table_sets c o) ns) ≡ None
other_owner c o p name f [] e = refl
other_owner c o p name f (n ∷ ns) e = rw e (other_owner c o p name f ns e)

here : (c : Configuration) (p : Path) (name n : Name) (f : Family) (rest : List NamedSet) → bytes_eq n name ≡ true → found (name_at p name f) (table_set c p n Inet ∷ table_set c p n Inet6 ∷ rest) ≡ Some (elements f (entries_in (table_at c p n)))
here c p name n Inet rest e = rw (path_itself p, e) refl
here c p name n Inet6 rest e = rw (path_itself p, e) refl

not_here : (c : Configuration) (p : Path) (name n : Name) (f : Family) (rest : List NamedSet) → bytes_eq n name ≡ false → found (name_at p name f) (table_set c p n Inet ∷ table_set c p n Inet6 ∷ rest) ≡ found (name_at p name f) rest
not_here c p name n Inet rest e = rw (path_itself p, e) refl
not_here c p name n Inet6 rest e = rw (path_itself p, e) refl

same_owner : (c : Configuration) (p : Path) (name : Name) (f : Family) (ns : List Name) → list_any (λ n. bytes_eq n name) ns ≡ true →
    found (name_at p name f) (flat_map (table_sets c p) ns) ≡ Some (elements f (entries_in (table_at c p name)))
same_owner c p name f [] h = absurd (false≢true h)
same_owner c p name f (n ∷ ns) h = (elim (bytes_eq n name) as (λ v. bytes_eq n name ≡ v → (v || list_any (λ n. bytes_eq n name) ns) ≡ true → found (name_at p name f) (flat_map (table_sets c p) (n ∷ ns)) ≡ Some (elements f (entries_in (table_at c p name)))) [
  | true ↦ λ e g. here c p name n f (flat_map (table_sets c p) ns) e ∙ ap (λ x. Some (elements f (entries_in (table_at c p x)))) (bytes_same n name e)
  | false ↦ λ e g. not_here c p name n f (flat_map (table_sets c p) ns) e ∙ same_owner c p name f ns g
]) refl h

among : (c : Configuration) (p : Path) (name : Name) (f : Family) (qs : List Path) → list_any (λ q. path_eq q p) qs ≡ true → list_any (λ n. bytes_eq n name) (table_names c p) ≡ true →
    found (name_at p name f) (flat_map (path_sets c) qs) ≡ Some (elements f (entries_in (table_at c p name)))
among c p name f [] h g = absurd (false≢true h)
among c p name f (q ∷ qs) h g = found_append (name_at p name f) (path_sets c q) (flat_map (path_sets c) qs) ∙ (elim (path_eq q p) as (λ v. path_eq q p ≡ v → (v || list_any (λ q. path_eq q p) qs) ≡ true →
    or_else (found (name_at p name f) (path_sets c q)) (found (name_at p name f) (flat_map (path_sets c) qs)) ≡ Some (elements f (entries_in (table_at c p name)))) [
      | true ↦ λ e k. ap (λ o. or_else o (found (name_at p name f) (flat_map (path_sets c) qs)))
          (ap (λ x. found (name_at p name f) (path_sets c x)) (path_same q p e) ∙ same_owner c p name f (table_names c p) g)
      | false ↦ λ e k. ap (λ o. or_else o (found (name_at p name f) (flat_map (path_sets c) qs))) (other_owner c q p name f (table_names c q) e) ∙ among c p name f qs k g
    ]) refl h

its_elements : (o : Option NamedSet) (is : List Interval) → option_map (λ (s : NamedSet). s.elements) o ≡ Some is → elements_in o ≡ is
its_elements None is h = absurd cc
its_elements (Some s) is h = cc

-- what a look-up finds is among the names
is_named : (name : Name) (ts : List (Name × TableValue)) (t : TableValue) → Some t ≡ lookup (λ n. bytes_eq n name) ts → list_any (λ n. bytes_eq n name) (map (λ (t : Name × TableValue). t.0) ts) ≡ true
is_named name [] t h = absurd cc
is_named name (u ∷ ts) t h = (elim (bytes_eq u.0 name) as (λ v. Some t ≡ (if v then Some u.1 else lookup (λ n. bytes_eq n name) ts) → (v || list_any (λ n. bytes_eq n name) (map (λ (t : Name × TableValue). t.0) ts)) ≡ true) [
  | true ↦ λ g. refl
  | false ↦ λ g. is_named name ts t g
]) h

is_path : (p : Path) (anchors : List AnchorValue) (name : Name) (t : TableValue) → Some t ≡ lookup (λ n. bytes_eq n name) (tables_in (anchor_at p anchors)) → list_any (λ q. path_eq q p) (paths_in anchors) ≡ true
is_path p [] name t h = absurd cc
is_path p (a ∷ anchors) name t h = (elim (path_eq a.path p) as (λ v. Some t ≡ lookup (λ n. bytes_eq n name) (tables_in (if v then Some a else anchor_at p anchors)) → (v || list_any (λ q. path_eq q p) (paths_in anchors)) ≡ true) [
  | true ↦ λ g. refl
  | false ↦ λ g. is_path p anchors name t g
]) h

-- the set of a path's table has the elements of that table
pub set_of_table : (c : Configuration) (p : Path) (name : Name) (f : Family) (t : TableValue) → Some t ≡ table_at c p name → elements_in (find (is_set (name_at p name f)) (sets_of c)) ≡ elements f t.entries
unfolding sets_of tables_at
set_of_table c p name f t h = its_elements (find (is_set (name_at p name f)) (flat_map (path_sets c) (paths_in c.anchors))) (elements f t.entries)
    (among c p name f (paths_in c.anchors) (is_path p c.anchors name t h) (is_named name (tables_in (anchor_at p c.anchors)) t h) ∙ ap (λ o. Some (elements f (entries_in o))) (sym h))
