-- Entries in order are cut into parts.
use Rattle.std.specs.Prelude.{◌⊎◌}
use Rattle.std.proofs.Common.{drop-cons, add-one, ◌≡◌, ℕ, zero, suc, ◌+◌, ◌<◌, ◌≤◌, ◌==◌, Bool, true, false, ◌&&◌, cond, List, [], ◌∷◌, ◌++◌, Ordering, length, take, drop, get_or, refl, sym, subst, ap, ◌∙◌, arith, inl, inr, append_assoc, take-append-drop}
use Rattle.std.specs.declared.cmp.Ordering.TheVariants.{Equal, Greater}
use Rattle.std.specs.Prelude.{if◌then◌else◌, filter, not}
use Rattle.std.specs.List.{list_all, prefix_len}
use Rattle.std.specs.Ordering.{is_lt, nat_cmp, ordering_then}
use Rattle.std.proofs.lemmas.Bool.{cases_lt, eqb-true}
use Rattle.std.proofs.lemmas.Bool.Decides.{nat_tests}
use Rattle.std.proofs.lemmas.List.Elements.{filter-append}
use Rattle.pf_addr.specs.declared.addr.Addr.{Addr}
use Rattle.pf_addr.specs.declared.addr.Addr.TheVariants.{V4, V6}
use Rattle.pf_addr.specs.Blocks.{Block, IsBlock}
use Rattle.pf_rules.specs.declared.ruleset.TableEntry.{TableEntry}
use Rattle.pf_tables.specs.declared.part.Part.{Part}
use Rattle.pf_tables.specs.Tables.{is_v6, is_of, bool_eq}
use Rattle.pf_addr.specs.Order.{version, prefix_cmp, bits_of}
use Rattle.pf_tables.specs.Parts.{joined, IsOrdered, AreBlocks, ArePartsBefore}
use Rattle.pf_tables.proofs.Lookups.{above, both_true, ordered_back}
use Rattle.pf_tables.proofs.Deciding.{joined_last, append_nil}

-- ---- what a family and a length are in the order

abbrev pub version_of : Bool → ℕ
version_of true = 6
version_of false = 4

cmp_greater : (a b : ℕ) → b < a → nat_cmp a b ≡ Greater
cmp_greater a b h = grind (arith, nat_tests)

less_second : (c d : ℕ) (o : Ordering) → is_lt (ordering_then (nat_cmp c d) o) ≡ true → c ≤ d
less_second c d o h = elim (cases_lt d c) [
  | inl g ↦ (let bad : false ≡ true = subst (λ x. is_lt (ordering_then x o) ≡ true) (cmp_greater c d g) h in cc)
  | inr k ↦ k
]

less_first : (a b c d : ℕ) (o : Ordering) → is_lt (ordering_then (nat_cmp a b) (ordering_then (nat_cmp c d) o)) ≡ true → (a < b) ⊎ ((a ≡ b) × (c ≤ d))
less_first a b c d o h = elim (cases_lt a b) [
  | inl l ↦ inl l
  | inr m ↦ elim (cases_lt b a) [
    | inl g ↦ (let bad : false ≡ true = subst (λ x. is_lt (ordering_then x (ordering_then (nat_cmp c d) o)) ≡ true) (cmp_greater a b g) h in cc)
    | inr k ↦ (let e : a ≡ b = omega arith in inr (e, less_second c d o (subst (λ x. is_lt (ordering_then x (ordering_then (nat_cmp c d) o)) ≡ true) (ap (λ n. nat_cmp n b) e ∙ equal b) h)))
  ]
]
  where
    equal : (n : ℕ) → nat_cmp n n ≡ Equal
    equal n = grind (arith, nat_tests)

pub less_means : (p q : Block) → is_lt (prefix_cmp p q) ≡ true → (version p.base < version q.base) ⊎ ((version p.base ≡ version q.base) × (p.len ≤ q.len))
unfolding prefix_cmp
less_means p q h = less_first (version p.base) (version q.base) p.len q.len (nat_cmp (bits_of p.base) (bits_of q.base)) h

version_same : (v : Bool) (a : Addr) → bool_eq v (is_v6 a) ≡ true → version a ≡ version_of v
version_same true (V4 x) h = cc
version_same true (V6 x) h = refl
version_same false (V4 x) h = refl
version_same false (V6 x) h = cc

v6_from : (v : Bool) (a : Addr) → version a ≡ version_of v → bool_eq v (is_v6 a) ≡ true
v6_from true (V4 x) h = absurd (omega (arith, h))
v6_from true (V6 x) h = refl
v6_from false (V4 x) h = refl
v6_from false (V6 x) h = absurd (omega (arith, h))

pub of_means : (v : Bool) (l : ℕ) (e : TableEntry) → is_of v l e ≡ true → (version e.prefix.base ≡ version_of v) × (e.prefix.len ≡ l)
of_means v l e h = let both = both_true (bool_eq v (is_v6 e.prefix.base)) (e.prefix.len == l) h in (version_same v e.prefix.base both.0, eqb-true e.prefix.len l both.1)

pub of_from : (v : Bool) (l : ℕ) (e : TableEntry) → version e.prefix.base ≡ version_of v → e.prefix.len ≡ l → is_of v l e ≡ true
of_from v l e h k = rw (v6_from v e.prefix.base h, k) (same_number l)
  where
    same_number : (n : ℕ) → (n == n) ≡ true
    same_number n = grind (arith, nat_tests)

pub not_of : (v : Bool) (l : ℕ) (g : TableEntry) → (version g.prefix.base ≡ version_of v → g.prefix.len ≡ l → ⊥) → is_of v l g ≡ false
not_of v l g h = (elim (is_of v l g) as (λ b. is_of v l g ≡ b → b ≡ false) [ true ↦ λ t. let m = of_means v l g t in absurd (h m.0 m.1) | false ↦ λ t. refl ]) refl

-- once an entry is of another family or length, so are all behind it
other_behind : (v : Bool) (l : ℕ) (e f g : TableEntry) → is_of v l e ≡ true → is_of v l f ≡ false → is_lt (prefix_cmp e.prefix f.prefix) ≡ true → is_lt (prefix_cmp f.prefix g.prefix) ≡ true → is_of v l g ≡ false
other_behind v l e f g i n h k =
    let own = of_means v l e i in
    let not_f : version f.prefix.base ≡ version_of v → f.prefix.len ≡ l → ⊥ = λ a b. let bad : true ≡ false = sym (of_from v l f a b) ∙ n in cc in
    not_of v l g (λ a b. elim (less_means e.prefix f.prefix h) [
      | inl x ↦ elim (less_means f.prefix g.prefix k) [ inl y ↦ omega (arith, own.0, a) | inr y ↦ (let z = y.0 in omega (arith, own.0, a, z)) ]
      | inr x ↦ (let x0 = x.0 in let x1 = x.1 in elim (cases_lt l f.prefix.len) [
        | inl longer ↦ elim (less_means f.prefix g.prefix k) [ inl y ↦ omega (arith, own.0, a, x0) | inr y ↦ (let z = y.1 in omega (arith, b, z)) ]
        | inr short ↦ (let d : f.prefix.len ≡ l = omega (arith, own.1, x1) in not_f (sym x0 ∙ own.0) d)
      ])
    ])

others_behind : (v : Bool) (l : ℕ) (e f : TableEntry) (es : List TableEntry) → is_of v l e ≡ true → is_of v l f ≡ false → is_lt (prefix_cmp e.prefix f.prefix) ≡ true → above f.prefix es ≡ true → list_all (λ g. not (is_of v l g)) es ≡ true
others_behind v l e f [] i n h s = refl
others_behind v l e f (g ∷ es) i n h s =
    let both = both_true (is_lt (prefix_cmp f.prefix g.prefix)) (above f.prefix es) s in
    rw (other_behind v l e f g i n h both.0) (others_behind v l e f es i n h both.1)

one_more : (n : ℕ) → 1 + n ≡ suc n
one_more n = omega arith

-- ---- the run at the front

none_behind : (v : Bool) (l : ℕ) (e : TableEntry) (es : List TableEntry) → is_of v l e ≡ true → above e.prefix es ≡ true → IsOrdered es → list_all (λ g. not (is_of v l g)) (drop (prefix_len (is_of v l) es) es) ≡ true
none_behind v l e [] i s t = refl
none_behind v l e (f ∷ es) i s t =
    let both = both_true (is_lt (prefix_cmp e.prefix f.prefix)) (above e.prefix es) s in
    (elim (is_of v l f) as (λ b. is_of v l f ≡ b → list_all (λ g. not (is_of v l g)) (drop (cond b (1 + prefix_len (is_of v l) es) 0) (f ∷ es)) ≡ true) [
      | true ↦ λ h. rw (one_more (prefix_len (is_of v l) es)) (none_behind v l e es i both.1 t.1)
      | false ↦ λ h. rw h (others_behind v l e f es i h both.0 t.0)
    ]) refl

uniform : (t : TableEntry → Bool) (es : List TableEntry) → list_all t (take (prefix_len t es) es) ≡ true
uniform t [] = refl
uniform t (e ∷ es) =
    (elim (t e) as (λ b. t e ≡ b → list_all t (take (cond b (1 + prefix_len t es) 0) (e ∷ es)) ≡ true) [
      | true ↦ λ h. rw (one_more (prefix_len t es), h) (uniform t es)
      | false ↦ λ h. refl
    ]) refl

pub own_is : (e : TableEntry) → is_of (is_v6 e.prefix.base) e.prefix.len e ≡ true
own_is e = of_from (is_v6 e.prefix.base) e.prefix.len e (here e.prefix.base) refl
  where
    here : (a : Addr) → version a ≡ version_of (is_v6 a)
    here (V4 x) = refl
    here (V6 x) = refl

run_is : (e : TableEntry) (es : List TableEntry) → prefix_len (is_of (is_v6 e.prefix.base) e.prefix.len) (e ∷ es) ≡ suc (prefix_len (is_of (is_v6 e.prefix.base) e.prefix.len) es)
run_is e es = rw (own_is e) (one_more (prefix_len (is_of (is_v6 e.prefix.base) e.prefix.len) es))

len_fits : (a : Addr) (len : ℕ) → IsBlock a len → len ≤ (if is_v6 a then 128 else 32)
len_fits (V4 x) len h = h.0
len_fits (V6 x) len h = h.0

-- ---- one part more

parts_more : (ps : List Part) (p : Part) (back : List TableEntry) → ArePartsBefore ps (p.entries.items ++ back) → list_all (is_of p.v6 p.len) p.entries.items ≡ true → list_all (λ g. not (is_of p.v6 p.len g)) back ≡ true → p.len ≤ (if p.v6 then 128 else 32) → ArePartsBefore (ps ++ p ∷ []) back
parts_more [] p back a u n l = (u, n, l, tt)
parts_more (q ∷ ps) p back a u n l =
    let e : joined (ps ++ p ∷ []) ++ back ≡ joined ps ++ (p.entries.items ++ back) = ap (λ r. r ++ back) (joined_last ps p) ∙ append_assoc (joined ps) p.entries.items back in
    (a.0, subst (λ r. list_all (λ g. not (is_of q.v6 q.len g)) r ≡ true) (sym e) a.1, a.2, parts_more ps p back a.3 u n l)

pub blocks_append : (es fs : List TableEntry) → AreBlocks es → AreBlocks fs → AreBlocks (es ++ fs)
blocks_append [] fs b d = d
blocks_append (e ∷ es) fs b d = (b.0, blocks_append es fs b.1 d)

pub record Parted (ps : List Part) (rest all : List TableEntry) : Type 0 where
  pub whole : joined ps ++ rest ≡ all
  pub apart : ArePartsBefore ps rest
  pub ordered : IsOrdered rest
  pub blocks : AreBlocks (joined ps)

cut_off : (ps : List Part) (p : Part) (e : TableEntry) (es all : List TableEntry) → Parted ps (e ∷ es) all → p.v6 ≡ is_v6 e.prefix.base → p.len ≡ e.prefix.len → p.entries.items ≡ take (prefix_len (is_of (is_v6 e.prefix.base) e.prefix.len) (e ∷ es)) (e ∷ es) → AreBlocks p.entries.items → Parted (ps ++ p ∷ []) (drop (prefix_len (is_of (is_v6 e.prefix.base) e.prefix.len) (e ∷ es)) (e ∷ es)) all
cut_off ps p e es all h v l i b =
    let v6 = is_v6 e.prefix.base in
    let len = e.prefix.len in
    let t : TableEntry → Bool = is_of v6 len in
    let n = prefix_len t (e ∷ es) in
    let back = drop n (e ∷ es) in
    let whole : p.entries.items ++ back ≡ e ∷ es = ap (λ r. r ++ back) i ∙ take-append-drop n (e ∷ es) in
    let run : n ≡ suc (prefix_len t es) = run_is e es in
    let none : list_all (λ g. not (is_of v6 len g)) back ≡ true = subst (λ k. list_all (λ g. not (is_of v6 len g)) (drop k (e ∷ es)) ≡ true) (sym run) (none_behind v6 len e es (own_is e) h.ordered.0 h.ordered.1) in
    let none' : list_all (λ g. not (is_of p.v6 p.len g)) back ≡ true = subst (λ x. list_all (λ g. not (is_of x p.len g)) back ≡ true) (sym v) (subst (λ x. list_all (λ g. not (is_of v6 x g)) back ≡ true) (sym l) none) in
    let all' : list_all t p.entries.items ≡ true = subst (λ r. list_all t r ≡ true) (sym i) (uniform t (e ∷ es)) in
    let own : list_all (is_of p.v6 p.len) p.entries.items ≡ true = subst (λ x. list_all (is_of x p.len) p.entries.items ≡ true) (sym v) (subst (λ x. list_all (is_of v6 x) p.entries.items ≡ true) (sym l) all') in
    let first : AreBlocks (take (suc (prefix_len t es)) (e ∷ es)) = subst (λ k. AreBlocks (take k (e ∷ es))) run (subst AreBlocks i b) in
    let fits : p.len ≤ (if p.v6 then 128 else 32) = rw (v, l) (len_fits e.prefix.base e.prefix.len first.0) in
    record {
      whole = ap (λ r. r ++ back) (joined_last ps p) ∙ append_assoc (joined ps) p.entries.items back ∙ ap (λ r. joined ps ++ r) whole ∙ h.whole;
      apart = parts_more ps p back (subst (ArePartsBefore ps) (sym whole) h.apart) own none' fits;
      ordered = ordered_back p.entries.items back (subst IsOrdered (sym whole) h.ordered);
      blocks = subst AreBlocks (sym (joined_last ps p)) (blocks_append (joined ps) p.entries.items h.blocks b);
    }

pub one_part_more : (ps : List Part) (p : Part) (e : TableEntry) (rest all : List TableEntry) → 1 ≤ length rest → e ≡ get_or rest 0 e → Parted ps rest all → p.v6 ≡ is_v6 e.prefix.base → p.len ≡ e.prefix.len → p.entries.items ≡ take (prefix_len (is_of (is_v6 e.prefix.base) e.prefix.len) rest) rest → AreBlocks p.entries.items → Parted (ps ++ p ∷ []) (drop (prefix_len (is_of (is_v6 e.prefix.base) e.prefix.len) rest) rest) all
one_part_more ps p e [] all n f h v l i b = absurd (omega (arith, n))
one_part_more ps p e (x ∷ es) all n f h v l i b =
    let Goal : TableEntry → Type 0 = λ y. p.v6 ≡ is_v6 y.prefix.base → p.len ≡ y.prefix.len → p.entries.items ≡ take (prefix_len (is_of (is_v6 y.prefix.base) y.prefix.len) (x ∷ es)) (x ∷ es) → Parted (ps ++ p ∷ []) (drop (prefix_len (is_of (is_v6 y.prefix.base) y.prefix.len) (x ∷ es)) (x ∷ es)) all in
    let own : Goal x = λ v l i. cut_off ps p x es all h v l i b in
    let at : Goal e = subst Goal (sym f) own in
    at v l i

-- ---- one part of them

pub filter_all : (t : TableEntry → Bool) (es : List TableEntry) → list_all t es ≡ true → filter t es ≡ es
filter_all t [] h = refl
filter_all t (e ∷ es) h = let both = both_true (t e) (list_all t es) h in rw both.0 (ap (λ (r : List TableEntry). e ∷ r) (filter_all t es both.1))

pub filter_none : (t : TableEntry → Bool) (es : List TableEntry) → list_all (λ e. not (t e)) es ≡ true → filter t es ≡ []
filter_none t [] h = refl
filter_none t (e ∷ es) h =
    let both = both_true (not (t e)) (list_all (λ e. not (t e)) es) h in
    rw (turned_round (t e) both.0) (filter_none t es both.1)
  where
    turned_round : (b : Bool) → not b ≡ true → b ≡ false
    turned_round true h = cc
    turned_round false h = refl

pub bools_same : (a b : Bool) → bool_eq a b ≡ true → a ≡ b
bools_same true true h = refl
bools_same true false h = cc
bools_same false true h = cc
bools_same false false h = refl

pub part_here : (p : Part) (ps : List Part) (v : Bool) (l : ℕ) → ArePartsBefore (p ∷ ps) [] → (bool_eq p.v6 v && (p.len == l)) ≡ true → filter (is_of v l) (joined (p ∷ ps)) ≡ p.entries.items
part_here p ps v l a k =
    let both = both_true (bool_eq p.v6 v) (p.len == l) k in
    let e : p.v6 ≡ v = bools_same p.v6 v both.0 in
    let f : p.len ≡ l = eqb-true p.len l both.1 in
    let none : list_all (λ g. not (is_of p.v6 p.len g)) (joined ps) ≡ true = subst (λ r. list_all (λ g. not (is_of p.v6 p.len g)) r ≡ true) (append_nil (joined ps)) a.1 in
    let own : filter (is_of p.v6 p.len) (joined (p ∷ ps)) ≡ p.entries.items = filter-append (is_of p.v6 p.len) p.entries.items (joined ps) ∙ rw (filter_all (is_of p.v6 p.len) p.entries.items a.0, filter_none (is_of p.v6 p.len) (joined ps) none) (append_nil p.entries.items) in
    subst (λ x. filter (is_of x l) (joined (p ∷ ps)) ≡ p.entries.items) e (subst (λ x. filter (is_of p.v6 x) (joined (p ∷ ps)) ≡ p.entries.items) f own)

other_key : (v w : Bool) (l m : ℕ) (e : TableEntry) → is_of v l e ≡ true → (bool_eq v w && (l == m)) ≡ false → is_of w m e ≡ false
other_key v w l m e h n = not_of w m e (λ a b.
    let own = of_means v l e h in
    let s : version_of v ≡ version_of w = sym own.0 ∙ a in
    let t : l ≡ m = sym own.1 ∙ b in
    let bad : (bool_eq v w && (l == m)) ≡ true = rw (same_version v w s, t) (same_number m) in
    let worse : true ≡ false = sym bad ∙ n in cc)
  where
    same_number : (n : ℕ) → (n == n) ≡ true
    same_number n = grind (arith, nat_tests)

    same_version : (v w : Bool) → version_of v ≡ version_of w → bool_eq v w ≡ true
    same_version true true s = refl
    same_version true false s = absurd (omega (arith, s))
    same_version false true s = absurd (omega (arith, s))
    same_version false false s = refl

other_keys : (v w : Bool) (l m : ℕ) (es : List TableEntry) → list_all (is_of v l) es ≡ true → (bool_eq v w && (l == m)) ≡ false → filter (is_of w m) es ≡ []
other_keys v w l m [] h n = refl
other_keys v w l m (e ∷ es) h n = let both = both_true (is_of v l e) (list_all (is_of v l) es) h in rw (other_key v w l m e both.0 n) (other_keys v w l m es both.1 n)

pub part_passed : (p : Part) (ps : List Part) (v : Bool) (l : ℕ) → ArePartsBefore (p ∷ ps) [] → (bool_eq p.v6 v && (p.len == l)) ≡ false → filter (is_of v l) (joined (p ∷ ps)) ≡ filter (is_of v l) (joined ps)
part_passed p ps v l a k = filter-append (is_of v l) p.entries.items (joined ps) ∙ rw (other_keys p.v6 v p.len l p.entries.items a.0 k) refl

pub blocks_take : (es : List TableEntry) (i : ℕ) (e : TableEntry) → i < length es → e ≡ get_or es i e → AreBlocks (take i es) → IsBlock e.prefix.base e.prefix.len → AreBlocks (take (i + 1) es)
blocks_take [] i e n f b k = absurd (omega (arith, n))
blocks_take (x ∷ es) zero e n f b k = (subst (λ (y : TableEntry). IsBlock y.prefix.base y.prefix.len) f k, tt)
blocks_take (x ∷ es) (suc i) e n f b k = rw (next i) (b.0, blocks_take es i e (omega (arith, n)) f b.1 k)
  where
    next : (j : ℕ) → suc j + 1 ≡ suc (j + 1)
    next j = omega arith

pub next_part : (ps : List Part) (i : ℕ) (p : Part) → i < length ps → p ≡ get_or ps i p → drop i ps ≡ p ∷ drop (i + 1) ps
next_part ps i p n f = drop-cons ps i p n ∙ ap (λ (q : Part). q ∷ drop (suc i) ps) (sym f) ∙ ap (λ j. p ∷ drop j ps) (sym (add-one i))
