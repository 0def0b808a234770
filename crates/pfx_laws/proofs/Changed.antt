-- Each change of a configuration leaves a map.
use Rattle.std.proofs.Common.{◌≡◌, ℕ, ◌+◌, ◌≤◌, Bool, true, false, ◌||◌, cond, List, [], ◌∷◌, ◌++◌, length, fold, Option, Some, None, Ok, Err, refl, sym, subst, ap, append_assoc, arith, length-append}
use Rattle.std.specs.Prelude.{not, nat_le, nat_lt, filter, unwrap_or, if◌then◌else◌}
use Rattle.std.specs.declared.cmp.Ordering.TheVariants.{Less}
use Rattle.std.specs.List.{list_all, list_any, AllByRecursion}
use Rattle.std.specs.Str.{bytes_eq}
use Rattle.std.specs.Ordering.{is_lt, nat_cmp}
use Rattle.std.specs.Cmp.Lexicographic.{slice_cmp}
use Rattle.std.proofs.lemmas.Bool.{or_parts}
use Rattle.std.proofs.lemmas.Bool.Decides.{nat_tests}
use Rattle.std.proofs.lemmas.Cmp.{tied_itself}
use Rattle.pf_rules.specs.Words.{is_anchor_text}
use Rattle.pf_rules.specs.Names.{Name, is_before}
use Rattle.pf_rules.specs.Items.{AnyRule}
use Rattle.pf_rules.specs.declared.ruleset.TableEntry.{TableEntry}
use Rattle.pf_tables.specs.Tables.{TableValue}
use Rattle.pf_tables.specs.Contents.{with_entries, contents_of, without_entries}
use Rattle.pf_tables.specs.Parts.{IsOrdered}
use Rattle.pf_tables.proofs.Lookups as entries
use Rattle.pf_config.specs.declared.fault.ConfigFault.TheVariants.{ConstTable, TableFull, AnchorsFull, BadPath}
use Rattle.pf_config.specs.Map.{Configuration, AnchorValue, Path, path_eq, anchor_at, rules_in, tables_in, tables_at, table_at, named, name_after}
use Rattle.pf_config.specs.Changes.{is_empty, is_nothing, unless_nothing, is_path_before, anchors_before, anchors_behind, with_anchor, with_rules, with_tables, without_unnamed, is_some_unnamed, used_tables, is_used, used_alone, tidied_of, tidied, Definition, tables_before, tables_behind, with_table, entries_in, listed, defined_table, defined, Block, placed, loaded, unless_full, is_too_deep, load, flush_rules, flush_tables, flush_all, new_table, with_contents, set_table, set_filled, fill, add, replace, drain, delete, flush_table}
use Rattle.pf_config.proofs.Treed.{both_true, is_less, path_same}
use Rattle.pf_config.proofs.Entries.{paths_total, turn}
use Rattle.pf_config.proofs.Ordered as tables
use Rattle.pfx_laws.specs.Maps.{IsPath, AreRules, AreTables, IsAnchor, AreRising, IsMap, AnswersMap}

-- ---- lists

all_filter : {X : Type 0} (P : X → Type 0) (test : X → Bool) (xs : List X) → AllByRecursion P xs → AllByRecursion P (filter test xs)
all_filter P test [] h = tt
all_filter P test (x ∷ xs) h = elim (test x) as (λ b. AllByRecursion P (cond b (x ∷ filter test xs) (filter test xs))) [ true ↦ (h.0, all_filter P test xs h.1) | false ↦ all_filter P test xs h.1 ]

pub all_append : {X : Type 0} (P : X → Type 0) (xs ys : List X) → AllByRecursion P xs → AllByRecursion P ys → AllByRecursion P (xs ++ ys)
all_append P [] ys h k = k
all_append P (x ∷ xs) ys h k = (h.0, all_append P xs ys h.1 k)

length_filter : {X : Type 0} (test : X → Bool) (xs : List X) → length (filter test xs) ≤ length xs
length_filter test [] = omega arith
length_filter test (x ∷ xs) = let l = length_filter test xs in elim (test x) as (λ b. length (cond b (x ∷ filter test xs) (filter test xs)) ≤ length (x ∷ xs)) [ true ↦ omega (arith, l) | false ↦ omega (arith, l) ]

-- ---- paths in byte order

path_chain : (p q r : Path) → is_path_before p q ≡ true → is_path_before q r ≡ true → is_path_before p r ≡ true
path_chain p q r h k = ap is_lt (paths_total.trans p q r (is_less _ h) (is_less _ k))

not_behind : (p q : Path) → is_path_before p q ≡ true → is_path_before q p ≡ false
not_behind p q h = ap is_lt (turn p q Less (is_less (slice_cmp (slice_cmp nat_cmp) p q) h))

not_itself : (p : Path) → is_path_before p p ≡ false
not_itself p = ap is_lt (tied_itself paths_total p)

abbrev above : Path → List AnchorValue → Bool
above p es = list_all (λ (a : AnchorValue). is_path_before p a.path) es

above_chain : (p q : Path) (es : List AnchorValue) → is_path_before p q ≡ true → above q es ≡ true → above p es ≡ true
above_chain p q [] h k = refl
above_chain p q (a ∷ es) h k = let both = both_true (is_path_before q a.path) (above q es) k in rw (path_chain p q a.path h both.0) (above_chain p q es h both.1)

above_filter : (test : AnchorValue → Bool) (p : Path) (es : List AnchorValue) → above p es ≡ true → above p (filter test es) ≡ true
above_filter test p [] h = refl
above_filter test p (a ∷ es) h =
    let both = both_true (is_path_before p a.path) (above p es) h in
    elim (test a) as (λ b. above p (cond b (a ∷ filter test es) (filter test es)) ≡ true) [ true ↦ rw both.0 (above_filter test p es both.1) | false ↦ above_filter test p es both.1 ]

rising_filter : (test : AnchorValue → Bool) (es : List AnchorValue) → AreRising es → AreRising (filter test es)
rising_filter test [] s = tt
rising_filter test (a ∷ es) s = elim (test a) as (λ b. AreRising (cond b (a ∷ filter test es) (filter test es))) [ true ↦ (above_filter test a.path es s.0, rising_filter test es s.1) | false ↦ rising_filter test es s.1 ]

above_append : (p : Path) (es fs : List AnchorValue) → above p es ≡ true → above p fs ≡ true → above p (es ++ fs) ≡ true
above_append p [] fs h k = k
above_append p (a ∷ es) fs h k = let both = both_true (is_path_before p a.path) (above p es) h in rw both.0 (above_append p es fs both.1 k)

above_behind : (p : Path) (es : List AnchorValue) → above p (anchors_behind p es) ≡ true
above_behind p [] = refl
above_behind p (a ∷ es) = (elim (is_path_before p a.path) as (λ b. is_path_before p a.path ≡ b → above p (cond b (a ∷ anchors_behind p es) (anchors_behind p es)) ≡ true) [ true ↦ λ h. rw h (above_behind p es) | false ↦ λ h. above_behind p es ]) refl

-- what is before a path, and what is behind all that is
rising_join : (p : Path) (es fs : List AnchorValue) → AreRising es → AreRising fs → ((x : Path) → is_path_before x p ≡ true → above x fs ≡ true) → AreRising (anchors_before p es ++ fs)
rising_join p [] fs s t h = t
rising_join p (a ∷ es) fs s t h =
    (elim (is_path_before a.path p) as (λ b. is_path_before a.path p ≡ b → AreRising (cond b (a ∷ anchors_before p es) (anchors_before p es) ++ fs)) [
      | true ↦ λ k. (above_append a.path (anchors_before p es) fs (above_filter (λ (b : AnchorValue). is_path_before b.path p) a.path es s.0) (h a.path k), rising_join p es fs s.1 t h)
      | false ↦ λ k. rising_join p es fs s.1 t h
    ]) refl

rising_with : (a : AnchorValue) (es : List AnchorValue) → AreRising es → AreRising (with_anchor a es)
unfolding with_anchor
rising_with a es s =
    let behind = anchors_behind a.path es in
    let t : AreRising behind = rising_filter (λ (b : AnchorValue). is_path_before a.path b.path) es s in
    let high : (x : Path) → is_path_before x a.path ≡ true → above x behind ≡ true = λ x k. above_chain x a.path behind k (above_behind a.path es) in
    subst AreRising (sym (append_assoc (anchors_before a.path es) (unless_nothing a) behind))
    (elim (is_nothing a) as (λ b. AreRising (anchors_before a.path es ++ (cond b [] (a ∷ []) ++ behind))) [
      | true ↦ rising_join a.path es behind s t high
      | false ↦ rising_join a.path es (a ∷ behind) s (above_behind a.path es, t) (λ x k. rw k (high x k))
    ])

-- ---- the entries of the map

-- in order, and each is one
record AreAnchors (es : List AnchorValue) : Type 0 where
  each : AllByRecursion IsAnchor es
  rising : AreRising es

filtered : (test : AnchorValue → Bool) (es : List AnchorValue) → AreAnchors es → AreAnchors (filter test es)
filtered test es h = record { each = all_filter IsAnchor test es h.each; rising = rising_filter test es h.rising }

with_one : (a : AnchorValue) (es : List AnchorValue) → AreAnchors es → IsPath a.path → AreRules a.rules → AreTables a.tables → AreAnchors (with_anchor a es)
unfolding with_anchor
with_one a es h p r t =
    let before = anchors_before a.path es in
    let behind = anchors_behind a.path es in
    record {
      each = all_append IsAnchor (before ++ unless_nothing a) behind
          (all_append IsAnchor before (unless_nothing a) (all_filter IsAnchor (λ (b : AnchorValue). is_path_before b.path a.path) es h.each)
          ((elim (is_nothing a) as (λ b. is_nothing a ≡ b → AllByRecursion IsAnchor (cond b [] (a ∷ []))) [ true ↦ λ e. tt | false ↦ λ e. (record { path = p; rules = r; tables = t; some = e }, tt) ]) refl))
          (all_filter IsAnchor (λ (b : AnchorValue). is_path_before a.path b.path) es h.each);
      rising = rising_with a es h.rising;
    }

rules_there : (p : Path) (es : List AnchorValue) → AllByRecursion IsAnchor es → AreRules (rules_in (anchor_at p es))
rules_there p [] h = refl
rules_there p (a ∷ es) h = elim (path_eq a.path p) as (λ b. AreRules (rules_in (cond b (Some a) (anchor_at p es)))) [ true ↦ h.0.rules | false ↦ rules_there p es h.1 ]

tables_there : (p : Path) (es : List AnchorValue) → AllByRecursion IsAnchor es → AreTables (tables_in (anchor_at p es))
tables_there p [] h = (tt, tt)
tables_there p (a ∷ es) h = elim (path_eq a.path p) as (λ b. AreTables (tables_in (cond b (Some a) (anchor_at p es)))) [ true ↦ h.0.tables | false ↦ tables_there p es h.1 ]

with_other_rules : (p : Path) (rules : List AnyRule) (es : List AnchorValue) → AreAnchors es → IsPath p → AreRules rules → AreAnchors (with_rules p rules es)
with_other_rules p rules es h k r = with_one (record { path = p; rules = rules; tables = tables_in (anchor_at p es) }) es h k r (tables_there p es h.each)

with_other_tables : (p : Path) (ts : List (Name × TableValue)) (es : List AnchorValue) → AreAnchors es → IsPath p → AreTables ts → AreAnchors (with_tables p ts es)
with_other_tables p ts es h k t = with_one (record { path = p; rules = rules_in (anchor_at p es); tables = ts }) es h k (rules_there p es h.each) t

placed_one : (es : List AnchorValue) (b : Block) → AreAnchors es → IsPath b.path → AreRules b.rules → AreAnchors (placed es b)
unfolding without_unnamed
placed_one es b h k r = with_other_rules b.path b.rules (without_unnamed b.path es) (filtered (λ (a : AnchorValue). not (is_some_unnamed (name_after b.path a.path))) es h) k r

pub record IsBlock (b : Block) : Type 0 where
  pub path : IsPath b.path
  pub rules : AreRules b.rules

placed_all : (es : List AnchorValue) (bs : List Block) → AreAnchors es → AllByRecursion IsBlock bs → AreAnchors (fold placed es bs)
placed_all es [] h k = h
placed_all es (b ∷ bs) h k = placed_all (placed es b) bs (placed_one es b h k.0.path k.0.rules) k.1

-- ---- tables that no rule refers to go

abbrev ordered_entries : Name × TableValue → Type 0
ordered_entries t = IsOrdered t.1.entries

used_there : (all : List AnchorValue) (a : AnchorValue) → AreTables a.tables → AreTables (used_tables all a a.tables)
used_there all a h =
    let test = λ (t : Name × TableValue). t.1.persist || is_used all a t.0 in
    (tables.ordered_filter test a.tables h.0, all_filter ordered_entries test a.tables h.1)

tidied_each : (all es : List AnchorValue) → AllByRecursion IsAnchor es → AllByRecursion IsAnchor (tidied_of all es)
tidied_each all [] h = tt
tidied_each all (a ∷ es) h =
    (elim (is_nothing (used_alone all a)) as (λ b. is_nothing (used_alone all a) ≡ b → AllByRecursion IsAnchor (cond (not b) (used_alone all a ∷ tidied_of all es) (tidied_of all es))) [
      | true ↦ λ e. tidied_each all es h.1
      | false ↦ λ e. (record { path = h.0.path; rules = h.0.rules; tables = used_there all a h.0.tables; some = e }, tidied_each all es h.1)
    ]) refl

tidied_above : (all : List AnchorValue) (p : Path) (es : List AnchorValue) → above p es ≡ true → above p (tidied_of all es) ≡ true
tidied_above all p [] h = refl
tidied_above all p (a ∷ es) h =
    let both = both_true (is_path_before p a.path) (above p es) h in
    elim (is_nothing (used_alone all a)) as (λ b. above p (cond (not b) (used_alone all a ∷ tidied_of all es) (tidied_of all es)) ≡ true) [ true ↦ tidied_above all p es both.1 | false ↦ rw both.0 (tidied_above all p es both.1) ]

tidied_rising : (all es : List AnchorValue) → AreRising es → AreRising (tidied_of all es)
tidied_rising all [] s = tt
tidied_rising all (a ∷ es) s =
    elim (is_nothing (used_alone all a)) as (λ b. AreRising (cond (not b) (used_alone all a ∷ tidied_of all es) (tidied_of all es))) [ true ↦ tidied_rising all es s.1 | false ↦ (tidied_above all a.path es s.0, tidied_rising all es s.1) ]

tidied_anchors : (es : List AnchorValue) → AreAnchors es → AreAnchors (tidied es)
unfolding tidied
tidied_anchors es h = record { each = tidied_each es es h.each; rising = tidied_rising es es h.rising }

length_tidied : (all es : List AnchorValue) → length (tidied_of all es) ≤ length es
length_tidied all [] = omega arith
length_tidied all (a ∷ es) =
    let l = length_tidied all es in
    elim (is_nothing (used_alone all a)) as (λ b. length (cond (not b) (used_alone all a ∷ tidied_of all es) (tidied_of all es)) ≤ length (a ∷ es)) [ true ↦ omega (arith, l) | false ↦ omega (arith, l) ]

-- ---- tables

entries_there : (n : Name) (ts : List (Name × TableValue)) → AllByRecursion ordered_entries ts → IsOrdered (entries_in (named n ts))
entries_there n [] h = tt
entries_there n (t ∷ ts) h = elim (bytes_eq t.0 n) as (λ b. IsOrdered (entries_in (cond b (Some t.1) (named n ts)))) [ true ↦ h.0 | false ↦ entries_there n ts h.1 ]

table_put : (ts : List (Name × TableValue)) (n : Name) (t : TableValue) → AreTables ts → IsOrdered t.entries → AreTables (with_table ts n t)
table_put ts n t h k = (
  tables.ordered_with ts n t h.0,
  all_append ordered_entries (tables_before n ts) ((n, t) ∷ tables_behind n ts) (all_filter ordered_entries (λ (u : Name × TableValue). is_before u.0 n) ts h.1)
      (k, all_filter ordered_entries (λ (u : Name × TableValue). is_before n u.0) ts h.1),
)

listed_ordered : (o : Option (List TableEntry)) (old : List TableEntry) → IsOrdered old → IsOrdered (listed o old)
listed_ordered None old h = h
listed_ordered (Some list) old h = entries.ordered_with [] list tt

defined_all : (ts : List (Name × TableValue)) (ds : List Definition) → AreTables ts → AreTables (fold defined ts ds)
defined_all ts [] h = h
defined_all ts (d ∷ ds) h = defined_all (defined ts d) ds (table_put ts d.name (defined_table ts d) h (listed_ordered d.entries (entries_in (named d.name ts)) (entries_there d.name ts h.1)))

-- ---- how many entries there are

abbrev found : Option AnchorValue → ℕ
found None = 0
found (Some a) = 1

sides : (p : Path) (es : List AnchorValue) → length (anchors_before p es) + length (anchors_behind p es) + found (anchor_at p es) ≤ length es
sides p [] = omega arith
sides p (a ∷ es) =
    let rest = sides p es in
    (elim (path_eq a.path p) as (λ b. path_eq a.path p ≡ b → length (anchors_before p (a ∷ es)) + length (anchors_behind p (a ∷ es)) + found (cond b (Some a) (anchor_at p es)) ≤ length (a ∷ es)) [
      | true ↦ λ e.
          let same : a.path ≡ p = path_same a.path p e in
          let before : is_path_before a.path p ≡ false = subst (λ (q : Path). is_path_before q p ≡ false) (sym same) (not_itself p) in
          let behind : is_path_before p a.path ≡ false = subst (λ (q : Path). is_path_before p q ≡ false) (sym same) (not_itself p) in
          rw (before, behind) (omega (arith, rest))
      | false ↦ λ e. (elim (is_path_before a.path p) as (λ c. is_path_before a.path p ≡ c → length (cond c (a ∷ anchors_before p es) (anchors_before p es)) + length (anchors_behind p (a ∷ es)) + found (anchor_at p es) ≤ length (a ∷ es)) [
        | true ↦ λ k. rw (not_behind a.path p k) (omega (arith, rest))
        | false ↦ λ k. elim (is_path_before p a.path) as (λ c. length (anchors_before p es) + length (cond c (a ∷ anchors_behind p es) (anchors_behind p es)) + found (anchor_at p es) ≤ length (a ∷ es)) [ true ↦ omega (arith, rest) | false ↦ omega (arith, rest) ]
      ]) refl
    ]) refl

length_with : (a : AnchorValue) (es : List AnchorValue) → length (unless_nothing a) ≤ found (anchor_at a.path es) → length (with_anchor a es) ≤ length es
unfolding with_anchor
length_with a es h =
    let one = length-append (anchors_before a.path es ++ unless_nothing a) (anchors_behind a.path es) in
    let two = length-append (anchors_before a.path es) (unless_nothing a) in
    let three = sides a.path es in
    omega (arith, one, two, three, h)

at_most_one : (a : AnchorValue) → length (unless_nothing a) ≤ 1
at_most_one a = elim (is_nothing a) as (λ b. length (cond b [] (a ∷ [])) ≤ 1) [ true ↦ omega arith | false ↦ omega arith ]

no_rules_left : (p : Path) (o : Option AnchorValue) → length (unless_nothing (record { path = p; rules = []; tables = tables_in o })) ≤ found o
no_rules_left p None = omega arith
no_rules_left p (Some a) = at_most_one (record { path = p; rules = []; tables = a.tables })

no_tables_left : (p : Path) (o : Option AnchorValue) → length (unless_nothing (record { path = p; rules = rules_in o; tables = [] })) ≤ found o
no_tables_left p None = omega arith
no_tables_left p (Some a) = at_most_one (record { path = p; rules = a.rules; tables = [] })

-- ---- the changes

with_room : (skip : List Name) (es : List AnchorValue) → AreAnchors es → AnswersMap (unless_full skip es)
with_room skip es h = (elim (nat_lt 1024 (length es)) as (λ b. nat_lt 1024 (length es) ≡ b → AnswersMap (cond b (Err AnchorsFull) (Ok (record { skip = skip; anchors = es })))) [
  | true ↦ λ e. tt
  | false ↦ λ e. record { anchors = h.each; rising = h.rising; few = not_above (length es) e }
]) refl
  where
    not_above : (n : ℕ) → nat_lt 1024 n ≡ false → n ≤ 1024
    not_above n e = grind (arith, nat_tests, e)

anchors_of : (c : Configuration) → IsMap c → AreAnchors c.anchors
anchors_of c h = record { each = h.anchors; rising = h.rising }

table_set : (c : Configuration) (p : Path) (name : Name) (t : TableValue) → IsMap c → IsPath p → IsOrdered t.entries → AnswersMap (set_table c p name t)
unfolding tables_at
table_set c p name t h k s = with_room c.skip _ (with_other_tables p (with_table (tables_in (anchor_at p c.anchors)) name t) c.anchors (anchors_of c h) k (table_put (tables_in (anchor_at p c.anchors)) name t (tables_there p c.anchors h.anchors) s))

table_filled : (c : Configuration) (p : Path) (name : Name) (t : TableValue) (es : List TableEntry) → IsMap c → IsPath p → IsOrdered es → AnswersMap (fill c p name t es)
table_filled c p name t es h k s = elim (t.is_const) as (λ b. AnswersMap (set_filled c p name (cond b (Err ConstTable) (cond (nat_lt 4096 (length es)) (Err TableFull) (Ok (with_contents t es)))))) [
  | true ↦ tt
  | false ↦ elim (nat_lt 4096 (length es)) as (λ b. AnswersMap (set_filled c p name (cond b (Err TableFull) (Ok (with_contents t es))))) [ true ↦ tt | false ↦ table_set c p name (with_contents t es) h k s ]
]

entries_at : (c : Configuration) (p : Path) (name : Name) → IsMap c → IsOrdered (entries_in (table_at c p name))
unfolding tables_at
entries_at c p name h = entries_there name (tables_in (anchor_at p c.anchors)) (tables_there p c.anchors h.anchors).1

or_new : (o : Option TableValue) → IsOrdered (entries_in o) → IsOrdered (unwrap_or o new_table).entries
or_new None h = h
or_new (Some t) h = h

pub added : (c : Configuration) (p : Path) (name : Name) (list : List TableEntry) → IsMap c → IsPath p → AnswersMap (add c p name list)
unfolding add
added c p name list h k =
    let t = unwrap_or (table_at c p name) new_table in
    table_filled c p name t (with_entries t.entries list) h k (entries.ordered_with t.entries list (or_new (table_at c p name) (entries_at c p name h)))

pub replaced : (c : Configuration) (p : Path) (name : Name) (list : List TableEntry) → IsMap c → IsPath p → AnswersMap (replace c p name list)
unfolding replace
replaced c p name list h k = table_filled c p name (unwrap_or (table_at c p name) new_table) (contents_of list) h k (entries.ordered_with [] list tt)

drained : (c : Configuration) (p : Path) (name : Name) (o : Option TableValue) (change : List TableEntry → List TableEntry) → IsMap c → IsPath p → IsOrdered (entries_in o) → ((es : List TableEntry) → IsOrdered es → IsOrdered (change es)) → AnswersMap (drain c p name o change)
drained c p name None change h k s each = tt
drained c p name (Some t) change h k s each = elim (t.is_const) as (λ b. AnswersMap (cond b (Err ConstTable) (set_table c p name (with_contents t (change t.entries))))) [
  | true ↦ tt
  | false ↦ table_set c p name (with_contents t (change t.entries)) h k (each t.entries s)
]

pub deleted : (c : Configuration) (p : Path) (name : Name) (list : List TableEntry) → IsMap c → IsPath p → AnswersMap (delete c p name list)
unfolding delete
deleted c p name list h k = drained c p name (table_at c p name) (λ es. without_entries es list) h k (entries_at c p name h) (λ es s. entries.ordered_unlisted es (contents_of list) s)

pub emptied : (c : Configuration) (p : Path) (name : Name) → IsMap c → IsPath p → AnswersMap (flush_table c p name)
unfolding flush_table
emptied c p name h k = drained c p name (table_at c p name) (λ es. []) h k (entries_at c p name h) (λ es s. tt)

pub tables_flushed : (c : Configuration) (p : Path) → IsMap c → IsPath p → IsMap (flush_tables c p)
unfolding flush_tables
tables_flushed c p h k =
    let all = with_other_tables p [] c.anchors (anchors_of c h) k (tt, tt) in
    let l = length_with (record { path = p; rules = rules_in (anchor_at p c.anchors); tables = [] }) c.anchors (no_tables_left p (anchor_at p c.anchors)) in
    let few = h.few in
    record { anchors = all.each; rising = all.rising; few = omega (arith, l, few) }

pub rules_flushed : (c : Configuration) (p : Path) → IsMap c → IsPath p → IsMap (flush_rules c p)
unfolding flush_rules tidied without_unnamed
rules_flushed c p h k =
    let b : Block = record { path = p; rules = [] } in
    let named = without_unnamed p c.anchors in
    let left = placed c.anchors b in
    let all = tidied_anchors left (placed_one c.anchors b (anchors_of c h) k refl) in
    let l = length_with (record { path = p; rules = []; tables = tables_in (anchor_at p named) }) named (no_rules_left p (anchor_at p named)) in
    let m = length_filter (λ (a : AnchorValue). not (is_some_unnamed (name_after p a.path))) c.anchors in
    let n = length_tidied left left in
    let few = h.few in
    record { anchors = all.each; rising = all.rising; few = omega (arith, l, m, n, few) }

pub all_flushed : (c : Configuration) (p : Path) → IsMap c → IsPath p → IsMap (flush_all c p)
all_flushed c p h k = tables_flushed (flush_rules c p) p (rules_flushed c p h k) k

-- ---- loads

-- names and rules of a block, however deep it is
pub record IsNamed (b : Block) : Type 0 where
  pub names : list_all is_anchor_text b.path ≡ true
  pub rules : AreRules b.rules

shallow_path : (b : Block) → list_all is_anchor_text b.path ≡ true → is_too_deep b ≡ false → IsPath b.path
shallow_path b n e = rw (fits (length b.path) e, n) refl
  where
    fits : (n : ℕ) → nat_lt 8 n ≡ false → nat_le n 8 ≡ true
    fits n e = grind (arith, nat_tests, e)

shallow : (bs : List Block) → AllByRecursion IsNamed bs → list_any is_too_deep bs ≡ false → AllByRecursion IsBlock bs
shallow [] h e = tt
shallow (b ∷ bs) h e =
    let both = or_parts (is_too_deep b) (list_any is_too_deep bs) e in
    (record { path = shallow_path b h.0.names both.0; rules = h.0.rules }, shallow bs h.1 both.1)

pub blocks_loaded : (c : Configuration) (skip : List Name) (own : Block) (ds : List Definition) (bs : List Block) → IsMap c → IsNamed own → AllByRecursion IsNamed bs → AnswersMap (load c skip own ds bs)
unfolding load
blocks_loaded c skip own ds bs h o k =
    (elim (list_any is_too_deep (own ∷ bs)) as (λ b. list_any is_too_deep (own ∷ bs) ≡ b → AnswersMap (cond b (Err BadPath) (unless_full (if is_empty own.path then skip else c.skip) (loaded own ds bs c.anchors)))) [
      | true ↦ λ e. tt
      | false ↦ λ e.
          let both = or_parts (is_too_deep own) (list_any is_too_deep bs) e in
          let p = shallow_path own o.names both.0 in
          let first = placed c.anchors own in
          let one = placed_one c.anchors own (anchors_of c h) p o.rules in
          let ts = fold defined (tables_in (anchor_at own.path first)) ds in
          let two = with_other_tables own.path ts first one p (defined_all (tables_in (anchor_at own.path first)) ds (tables_there own.path first one.each)) in
          with_room (if is_empty own.path then skip else c.skip) (loaded own ds bs c.anchors) (tidied_anchors (fold placed (with_tables own.path ts first) bs) (placed_all (with_tables own.path ts first) bs two (shallow bs k both.1)))
    ]) refl
