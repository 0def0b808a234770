-- What a table holds after a change of it.
use Rattle.std.proofs.Common.{◌≡◌, ℕ, Bool, true, false, ◌&&◌, cond, List, [], ◌∷◌, ◌++◌, Option, Some, None, Ok, Err, refl, sym, ap, ◌∙◌, subst, unwrap_or, append_assoc}
use Rattle.std.specs.Prelude.{if◌then◌else◌, filter, find, nat_lt, length}
use Rattle.std.specs.Str.{bytes_eq}
use Rattle.std.specs.Map.{lookup}
use Rattle.std.specs.Ordering.{is_lt}
use Rattle.std.proofs.lemmas.Cmp.{nat_list_cmp_total, lists_total, tied_itself}
use Rattle.pf_rules.specs.declared.ruleset.TableEntry.{TableEntry}
use Rattle.pf_rules.specs.Names.{Name, is_before}
use Rattle.pf_tables.specs.Tables.{TableValue}
use Rattle.pf_tables.specs.Contents.{with_entries, contents_of, without_entries}
use Rattle.pf_config.specs.declared.fault.ConfigFault.TheVariants.{ConstTable, TableFull, AnchorsFull}
use Rattle.pf_config.specs.Map.{Configuration, AnchorValue, Path, path_eq, anchor_at, tables_in, tables_at, table_at, named, rules_in}
use Rattle.pf_config.specs.Changes.{is_empty, is_path_before, anchors_before, anchors_behind, with_anchor, with_tables, with_table, tables_before, tables_behind, set_table, set_filled, fill, drain, with_contents, new_table, entries_in, add, replace, delete, flush_table}
use Rattle.pf_config.proofs.PathFronts.{path_decides}
use Rattle.pf_config.proofs.Treed.{path_itself, same_bytes, before_other}
use Rattle.pf_command.proofs.Counting.{all_new}
use Rattle.pf_command.specs.Effect.{contents_at}
use Rattle.pf_command.specs.inner.Answers.{Counts}

-- ---- a look-up goes past what isn't looked for

find_past : {X : Type 0} (f g : X → Bool) → ((x : X) → g x ≡ true → f x ≡ false) → (xs ys : List X) → find f (filter g xs ++ ys) ≡ find f ys
find_past f g h [] ys = refl
find_past f g h (x ∷ xs) ys =
    (elim (g x) as (λ b. g x ≡ b → find f (cond b (x ∷ filter g xs) (filter g xs) ++ ys) ≡ find f ys) [
      | true ↦ λ k. rw (h x k) (find_past f g h xs ys)
      | false ↦ λ k. find_past f g h xs ys
    ]) refl

lookup_past : (f : Name → Bool) (g : Name × TableValue → Bool) → ((t : Name × TableValue) → g t ≡ true → f t.0 ≡ false) → (xs ys : List (Name × TableValue)) → lookup f (filter g xs ++ ys) ≡ lookup f ys
lookup_past f g h [] ys = refl
lookup_past f g h (x ∷ xs) ys =
    (elim (g x) as (λ b. g x ≡ b → lookup f (cond b (x ∷ filter g xs) (filter g xs) ++ ys) ≡ lookup f ys) [
      | true ↦ λ k. rw (h x k) (lookup_past f g h xs ys)
      | false ↦ λ k. lookup_past f g h xs ys
    ]) refl

-- ---- a path isn't before itself

path_never : (p : Path) → is_path_before p p ≡ false
path_never p = ap is_lt (tied_itself (lists_total nat_list_cmp_total) p)

path_before_other : (q p : Path) → is_path_before q p ≡ true → path_eq q p ≡ false
path_before_other q p h =
    (elim (path_eq q p) as (λ b. path_eq q p ≡ b → b ≡ false) [
      | true ↦ λ e. let same : q ≡ p = (path_decides q p).0 e in let bad : is_path_before p p ≡ true = subst (λ (r : Path). is_path_before r p ≡ true) same h in sym bad ∙ path_never p
      | false ↦ λ e. refl
    ]) refl

-- ---- what is put is there

append_some : {X : Type 0} (xs : List X) (y : X) (ys : List X) → is_empty (xs ++ y ∷ ys) ≡ false
append_some [] y ys = refl
append_some (x ∷ xs) y ys = refl

and_false : (b c : Bool) → c ≡ false → (b && c) ≡ false
and_false true c h = h
and_false false c h = refl

anchor_put : (a : AnchorValue) (anchors : List AnchorValue) → is_empty a.tables ≡ false → anchor_at a.path (with_anchor a anchors) ≡ Some a
unfolding with_anchor
anchor_put a anchors h =
    let found : List AnchorValue → Option AnchorValue = find (λ (b : AnchorValue). path_eq b.path a.path) in
    rw (and_false (is_empty a.rules) (is_empty a.tables) h) (ap found (append_assoc (anchors_before a.path anchors) (a ∷ []) (anchors_behind a.path anchors)) ∙ find_past (λ (b : AnchorValue). path_eq b.path a.path) (λ (b : AnchorValue). is_path_before b.path a.path) (λ b k. path_before_other b.path a.path k) anchors (a ∷ anchors_behind a.path anchors) ∙ rw (path_itself a.path) refl)

table_put : (tables : List (Name × TableValue)) (name : Name) (t : TableValue) → named name (with_table tables name t) ≡ Some t
table_put tables name t = lookup_past (λ n. bytes_eq n name) (λ (u : Name × TableValue). is_before u.0 name) (λ u k. before_other u.0 name k) tables ((name, t) ∷ tables_behind name tables) ∙ rw (same_bytes name) refl

-- ---- the contents after a change

-- the configuration with this table at its place
abbrev with_it : Configuration → Path → Name → TableValue → Configuration
with_it c p name t = record { skip = c.skip; anchors = with_tables p (with_table (tables_at c p) name t) c.anchors }

it_holds : (c : Configuration) (p : Path) (name : Name) (t : TableValue) → contents_at (with_it c p name t) p name ≡ t.entries
unfolding tables_at
it_holds c p name t =
    ap (λ (o : Option AnchorValue). entries_in (named name (tables_in o))) (anchor_put (record { path = p; rules = rules_in (anchor_at p c.anchors); tables = with_table (tables_at c p) name t }) c.anchors (append_some (tables_before name (tables_at c p)) (name, t) (tables_behind name (tables_at c p)))) ∙ ap entries_in (table_put (tables_at c p) name t)

set_holds : (c new : Configuration) (p : Path) (name : Name) (t : TableValue) → set_table c p name t ≡ Ok new → contents_at new p name ≡ t.entries
set_holds c new p name t h =
    (elim (nat_lt 1024 (length (with_it c p name t).anchors)) as (λ b. (if b then Err AnchorsFull else Ok (with_it c p name t)) ≡ Ok new → contents_at new p name ≡ t.entries) [
      | true ↦ λ k. cc
      | false ↦ λ k. let e : with_it c p name t ≡ new = cc in subst (λ (n : Configuration). contents_at n p name ≡ t.entries) e (it_holds c p name t)
    ]) h

fill_holds : (c new : Configuration) (p : Path) (name : Name) (t : TableValue) (entries : List TableEntry) → fill c p name t entries ≡ Ok new → contents_at new p name ≡ entries
fill_holds c new p name t entries h =
    (elim (t.is_const) as (λ b. set_filled c p name (cond b (Err ConstTable) (cond (nat_lt 4096 (length entries)) (Err TableFull) (Ok (with_contents t entries)))) ≡ Ok new → contents_at new p name ≡ entries) [
      | true ↦ λ k. cc
      | false ↦ λ k. (elim (nat_lt 4096 (length entries)) as (λ b. set_filled c p name (cond b (Err TableFull) (Ok (with_contents t entries))) ≡ Ok new → contents_at new p name ≡ entries) [
        | true ↦ λ j. cc
        | false ↦ λ j. set_holds c new p name (with_contents t entries) j
      ]) k
    ]) h

entries_or : (o : Option TableValue) → (unwrap_or o new_table).entries ≡ entries_in o
entries_or None = refl
entries_or (Some t) = refl

pub add_holds : (c new : Configuration) (p : Path) (name : Name) (list : List TableEntry) → add c p name list ≡ Ok new → contents_at new p name ≡ with_entries (contents_at c p name) list
unfolding add
add_holds c new p name list h = fill_holds c new p name (unwrap_or (table_at c p name) new_table) (with_entries (unwrap_or (table_at c p name) new_table).entries list) h ∙ ap (λ (es : List TableEntry). with_entries es list) (entries_or (table_at c p name))

pub replace_holds : (c new : Configuration) (p : Path) (name : Name) (list : List TableEntry) → replace c p name list ≡ Ok new → contents_at new p name ≡ contents_of list
unfolding replace
replace_holds c new p name list h = fill_holds c new p name (unwrap_or (table_at c p name) new_table) (contents_of list) h

drain_holds : (c new : Configuration) (p : Path) (name : Name) (o : Option TableValue) (change : List TableEntry → List TableEntry) → drain c p name o change ≡ Ok new → contents_at new p name ≡ change (entries_in o)
drain_holds c new p name None change h = cc
drain_holds c new p name (Some t) change h =
    (elim (t.is_const) as (λ b. cond b (Err ConstTable) (set_table c p name (with_contents t (change t.entries))) ≡ Ok new → contents_at new p name ≡ change t.entries) [
      | true ↦ λ k. cc
      | false ↦ λ k. set_holds c new p name (with_contents t (change t.entries)) k
    ]) h

pub delete_holds : (c new : Configuration) (p : Path) (name : Name) (list : List TableEntry) → delete c p name list ≡ Ok new → contents_at new p name ≡ without_entries (contents_at c p name) list
unfolding delete
delete_holds c new p name list h = drain_holds c new p name (table_at c p name) (λ entries. without_entries entries list) h

pub flush_holds : (c new : Configuration) (p : Path) (name : Name) → flush_table c p name ≡ Ok new → contents_at new p name ≡ []
unfolding flush_table
flush_holds c new p name h = drain_holds c new p name (table_at c p name) (λ entries. []) h

-- what a list counts where there was nothing
pub counts_new : (es : List TableEntry) (n : ℕ) → n ≡ length es → Counts (record { added = n; removed = 0 }) [] es
counts_new es n h = (h ∙ sym (all_new es), refl)
