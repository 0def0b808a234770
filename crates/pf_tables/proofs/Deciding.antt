-- The longest entry that contains an address.
use Rattle.std.proofs.Common.{◌≡◌, ℕ, ◌*◌, ◌/◌, ◌-◌, ◌^◌, ◌<◌, ◌≤◌, ◌==◌, Bool, true, false, ◌&&◌, cond, List, [], ◌∷◌, ◌++◌, Option, Some, None, refl, sym, subst, ap, ◌∙◌, arith, inl, inr, append_assoc, length, take, drop, get_or, take-append-drop, length-drop}
use Rattle.std.specs.declared.cmp.Ordering.TheVariants.{Less, Greater}
use Rattle.std.specs.Prelude.{not, nat_lt, if◌then◌else◌}
use Rattle.std.specs.List.{list_all}
use Rattle.std.specs.Ordering.{is_lt, is_eq, nat_cmp}
use Rattle.std.proofs.lemmas.Bool.{cases_lt, lt-ltb, eqb-true}
use Rattle.std.proofs.lemmas.Nat.{pow_pos}
use Rattle.std.proofs.Math.Nat.{mul-div_cancel}
use Rattle.std.proofs.lemmas.Bool.Decides.{nat_tests}
use Rattle.std.proofs.lemmas.Cmp.{nat_cmp_total, tied_itself}
use Rattle.pf_addr.specs.declared.addr.Addr.{Addr}
use Rattle.pf_addr.specs.declared.addr.Addr.TheVariants.{V4, V6}
use Rattle.pf_addr.specs.Blocks.{Block, IsBlock, agree, front, cleared, cleared_addr, width}
use Rattle.pf_rules.specs.declared.ruleset.TableEntry.{TableEntry}
use Rattle.pf_tables.specs.declared.part.Part.{Part}
use Rattle.pf_tables.specs.Tables.{contains, in_table, is_v6, is_of, bool_eq}
use Rattle.pf_tables.specs.inner.Tables.{or_else, last_with, sign_of}
use Rattle.pf_tables.specs.inner.Contents.{entry_at}
use Rattle.pf_addr.specs.Order.{version, prefix_cmp}
use Rattle.pf_tables.specs.Parts.{joined, IsOrdered, AreBlocks, ArePartsBefore, AreParts}
use Rattle.pf_tables.specs.inner.Parts.{IsPart}
use Rattle.pf_addr.proofs.Order.{is_less, is_equal, itself, same, never}
use Rattle.pf_tables.proofs.Lookups.{above, both_true, none_above, cons_is, or_none, or_else_chain, ordered_front, ordered_back}
use Rattle.pf_tables.proofs.Longest.{after, found}

-- ---- an entry that contains an address begins where the address does

base_cleared : (w len a b : ℕ) → (front w len a == front w len b) ≡ true → b ≡ cleared w len b → b ≡ cleared w len a
base_cleared w len a b h k = let e : front w len a ≡ front w len b = eqb-true (front w len a) (front w len b) h in k ∙ ap (λ n. n * 2 ^ (w - len)) (sym e)

pub base_is : (a b : Addr) (len : ℕ) → agree len a b ≡ true → IsBlock b len → b ≡ cleared_addr a len
unfolding agree
base_is (V4 x) (V4 y) len h k = ap V4 (base_cleared 32 len x y h k.1)
base_is (V6 x) (V6 y) len h k = ap V6 (base_cleared 128 len x y h k.1)
base_is (V4 x) (V6 y) len h k = cc
base_is (V6 x) (V4 y) len h k = cc

-- prefixes of one length that contain an address are one
pub block_is : (a : Addr) (p : Block) → agree p.len a p.base ≡ true → IsBlock p.base p.len → p ≡ record { base = cleared_addr a p.len; len = p.len }
block_is a p h k = ap {B = Block} (λ (b : Addr). record { base = b; len = p.len }) (base_is a p.base p.len h k)

front_cleared : (w len a : ℕ) → front w len (cleared w len a) ≡ front w len a
front_cleared w len a = mul-div_cancel (a / 2 ^ (w - len)) (pow_pos (w - len))

same_number : (n : ℕ) → (n == n) ≡ true
same_number n = grind (arith, nat_tests)

cleared_agrees : (a : Addr) (len : ℕ) → agree len a (cleared_addr a len) ≡ true
unfolding agree
cleared_agrees (V4 x) len = rw (front_cleared 32 len x) (same_number (front 32 len x))
cleared_agrees (V6 x) len = rw (front_cleared 128 len x) (same_number (front 128 len x))

-- ---- of two entries that contain it the one behind is longer

version_of_agree : (a b : Addr) (len : ℕ) → agree len a b ≡ true → version b ≡ version a
unfolding agree
version_of_agree (V4 x) (V4 y) len h = refl
version_of_agree (V6 x) (V6 y) len h = refl
version_of_agree (V4 x) (V6 y) len h = cc
version_of_agree (V6 x) (V4 y) len h = cc

not_less : (l m : ℕ) → m < l → nat_cmp l m ≡ Greater
not_less l m h = grind (arith, nat_tests)

lengths_apart : (p q : Block) → version p.base ≡ version q.base → q.len < p.len → prefix_cmp p q ≡ Greater
unfolding prefix_cmp
lengths_apart p q e h = rw (e, tied_itself nat_cmp_total (version q.base), not_less p.len q.len h) refl

pub longer : (a : Addr) (p q : Block) → agree p.len a p.base ≡ true → agree q.len a q.base ≡ true → IsBlock p.base p.len → IsBlock q.base q.len → is_lt (prefix_cmp p q) ≡ true → p.len < q.len
longer a p q h k i j o =
    elim (cases_lt p.len q.len) [
      | inl less ↦ less
      | inr more ↦ elim (cases_lt q.len p.len) [
        | inl less ↦ (let g : prefix_cmp p q ≡ Greater = lengths_apart p q (version_of_agree a p.base p.len h ∙ sym (version_of_agree a q.base q.len k)) less in let l : prefix_cmp p q ≡ Less = is_less _ o in let bad : Less ≡ Greater = sym l ∙ g in cc)
        | inr less ↦ (let e : p.len ≡ q.len = omega arith in
            let s : p ≡ q = block_is a p h i ∙ ap {B = Block} (λ (l : ℕ). record { base = cleared_addr a l; len = l }) e ∙ sym (block_is a q k j) in
            let t : is_lt (prefix_cmp q q) ≡ true = subst (λ r. is_lt (prefix_cmp r q) ≡ true) s o in
            let u : is_lt (prefix_cmp q q) ≡ false = never q in
            let bad : true ≡ false = sym t ∙ u in cc)
      ]
    ]

-- each entry that contains the address is longer than n
abbrev AllLonger : Addr → ℕ → List TableEntry → Type 0
AllLonger a n [] = Unit {0}
AllLonger a n (e ∷ es) = (contains a e ≡ true → n < e.prefix.len) × AllLonger a n es

longer_behind : (a : Addr) (e : TableEntry) (es : List TableEntry) → contains a e ≡ true → IsBlock e.prefix.base e.prefix.len → above e.prefix es ≡ true → AreBlocks es → AllLonger a e.prefix.len es
longer_behind a e [] h i s b = tt
longer_behind a e (f ∷ es) h i s b =
    let both = both_true (is_lt (prefix_cmp e.prefix f.prefix)) (above e.prefix es) s in
    (λ k. longer a e.prefix f.prefix h k i b.0 both.0, longer_behind a e es h i both.1 b.1)

abbrev plain : Bool → Option TableEntry → Bool
plain f None = f
plain f (Some e) = not e.negated

plain_or : (f g : Bool) (r : Option TableEntry) (e : TableEntry) → g ≡ not e.negated → plain g r ≡ plain f (or_else r (Some e))
plain_or f g None e h = h
plain_or f g (Some d) e h = refl

after_last : (a : Addr) (n : ℕ) (f : Bool) (es : List TableEntry) → AllLonger a n es → IsOrdered es → AreBlocks es → after a n f es ≡ plain f (last_with a es)
after_last a n f [] l s b = refl
after_last a n f (e ∷ es) l s b =
    (elim (contains a e) as (λ c. contains a e ≡ c →
    (if c then (if nat_lt n e.prefix.len then after a e.prefix.len (not e.negated) es else (if (e.prefix.len == n) && not e.negated then after a n true es else after a n f es)) else after a n f es)
    ≡ plain f (or_else (last_with a es) (if c then Some e else None))) [
      | true ↦ λ h. rw (lt-ltb n e.prefix.len (l.0 h)) (after_last a e.prefix.len (not e.negated) es (longer_behind a e es h b.0 s.0 b.1) s.1 b.1 ∙ plain_or f (not e.negated) (last_with a es) e refl)
      | false ↦ λ h. after_last a n f es l.1 s.1 b.1 ∙ ap (plain f) (sym (or_none (last_with a es)))
    ]) refl

at_start : (n : ℕ) (q long here else_here r : Bool) → n ≡ 0 → (q ≡ true → here ≡ r) → (q ≡ false → else_here ≡ r) → (if nat_lt 0 n then long else (if (n == 0) && q then here else else_here)) ≡ r
at_start n true long here else_here r h f g = rw h (f refl)
at_start n false long here else_here r h f g = rw h (g refl)

-- at the start nothing is found yet
first_last : (a : Addr) (es : List TableEntry) → IsOrdered es → AreBlocks es → after a 0 false es ≡ plain false (last_with a es)
first_last a [] s b = refl
first_last a (e ∷ es) s b =
    (elim (contains a e) as (λ c. contains a e ≡ c →
    (if c then (if nat_lt 0 e.prefix.len then after a e.prefix.len (not e.negated) es else (if (e.prefix.len == 0) && not e.negated then after a 0 true es else after a 0 false es)) else after a 0 false es)
    ≡ plain false (or_else (last_with a es) (if c then Some e else None))) [
      | true ↦ λ h.
          let rest : (g : Bool) → g ≡ not e.negated → after a e.prefix.len g es ≡ plain false (or_else (last_with a es) (Some e)) = λ g k. after_last a e.prefix.len g es (longer_behind a e es h b.0 s.0 b.1) s.1 b.1 ∙ plain_or false g (last_with a es) e k in
          elim (cases_lt 0 e.prefix.len) [
            | inl long ↦ rw (lt-ltb 0 e.prefix.len long) (rest (not e.negated) refl)
            | inr short ↦
                (let z : e.prefix.len ≡ 0 = omega arith in
                let none : (g : Bool) → g ≡ not e.negated → after a 0 g es ≡ plain false (or_else (last_with a es) (Some e)) = λ g k. subst (λ n. after a n g es ≡ plain false (or_else (last_with a es) (Some e))) z (rest g k) in
                at_start e.prefix.len (not e.negated) (after a e.prefix.len (not e.negated) es) (after a 0 true es) (after a 0 false es) (plain false (or_else (last_with a es) (Some e))) z (λ k. none true (sym k)) (λ k. none false (sym k)))
          ]
      | false ↦ λ h. first_last a es s.1 b.1 ∙ ap (plain false) (sym (or_none (last_with a es)))
    ]) refl

-- whether an address is in a table: the last entry that contains it decides
pub in_table_is : (a : Addr) (es : List TableEntry) → IsOrdered es → AreBlocks es → in_table a es ≡ plain false (last_with a es)
in_table_is a es s b = sym (found a es) ∙ first_last a es s b

-- ---- one part

v6_same : (a b : Addr) (len : ℕ) → agree len a b ≡ true → is_v6 b ≡ is_v6 a
unfolding agree
v6_same (V4 x) (V4 y) len h = refl
v6_same (V6 x) (V6 y) len h = refl
v6_same (V4 x) (V6 y) len h = cc
v6_same (V6 x) (V4 y) len h = cc

number_same : (m n : ℕ) → (m == n) ≡ true → m ≡ n
number_same m n h = eqb-true m n h

-- the entry of the address's own prefix is the one that contains it
pub last_in_part : (a : Addr) (v6 : Bool) (len : ℕ) (es : List TableEntry) → list_all (is_of v6 len) es ≡ true → IsOrdered es → AreBlocks es → last_with a es ≡ entry_at (record { base = cleared_addr a len; len = len }) es
last_in_part a v6 len [] u s b = refl
last_in_part a v6 len (e ∷ es) u s b =
    let key : Block = record { base = cleared_addr a len; len = len } in
    let both = both_true (is_of v6 len e) (list_all (is_of v6 len) es) u in
    let own = both_true (bool_eq v6 (is_v6 e.prefix.base)) (e.prefix.len == len) both.0 in
    let l : e.prefix.len ≡ len = number_same e.prefix.len len own.1 in
    let rest : last_with a es ≡ entry_at key es = last_in_part a v6 len es both.1 s.1 b.1 in
    (elim (contains a e) as (λ c. contains a e ≡ c → or_else (last_with a es) (if c then Some e else None) ≡ cond (is_eq (prefix_cmp e.prefix key)) (Some e) (entry_at key es)) [
      | true ↦ λ h.
          let p : e.prefix ≡ key = block_is a e.prefix h b.0 ∙ ap {B = Block} (λ (n : ℕ). record { base = cleared_addr a n; len = n }) l in
          let n : entry_at key es ≡ None = subst (λ q. entry_at q es ≡ None) p (none_above e.prefix es s.0) in
          let i : is_eq (prefix_cmp e.prefix key) ≡ true = subst (λ q. is_eq (prefix_cmp e.prefix q) ≡ true) p (itself e.prefix) in
          rw (i, rest, n) refl
      | false ↦ λ h.
          let i : is_eq (prefix_cmp e.prefix key) ≡ false =
          (elim (is_eq (prefix_cmp e.prefix key)) as (λ t. is_eq (prefix_cmp e.prefix key) ≡ t → t ≡ false) [
            | true ↦ λ k. (let p : e.prefix ≡ key = same e.prefix key (is_equal _ k) in
                let bad : contains a e ≡ true = subst (λ (q : Block). agree q.len a q.base ≡ true) (sym p) (cleared_agrees a len) in
                let worse : true ≡ false = sym bad ∙ h in worse)
            | false ↦ λ k. refl
          ]) refl in
          rw i (or_none (last_with a es) ∙ rest)
    ]) refl

-- no entry of the other family contains it
pub none_in_part : (a : Addr) (v6 : Bool) (len : ℕ) (es : List TableEntry) → bool_eq v6 (is_v6 a) ≡ false → list_all (is_of v6 len) es ≡ true → last_with a es ≡ None
none_in_part a v6 len [] n u = refl
none_in_part a v6 len (e ∷ es) n u =
    let both = both_true (is_of v6 len e) (list_all (is_of v6 len) es) u in
    let own = both_true (bool_eq v6 (is_v6 e.prefix.base)) (e.prefix.len == len) both.0 in
    (elim (contains a e) as (λ c. contains a e ≡ c → or_else (last_with a es) (if c then Some e else None) ≡ None) [
      | true ↦ λ h. let s : is_v6 e.prefix.base ≡ is_v6 a = v6_same a e.prefix.base e.prefix.len h in let bad : true ≡ false = sym own.0 ∙ ap (bool_eq v6) s ∙ n in cc
      | false ↦ λ h. rw (none_in_part a v6 len es n both.1) refl
    ]) refl

pub last_append : (a : Addr) (es fs : List TableEntry) → last_with a (es ++ fs) ≡ or_else (last_with a fs) (last_with a es)
last_append a [] fs = sym (or_none (last_with a fs))
last_append a (e ∷ es) fs = ap (λ r. or_else r (if contains a e then Some e else None)) (last_append a es fs) ∙ or_else_chain (last_with a fs) (last_with a es) (if contains a e then Some e else None)

-- ---- all parts

abbrev pub EachIsPart : List Part → Type 0
EachIsPart [] = Unit {0}
EachIsPart (p ∷ ps) = IsPart p × EachIsPart ps

blocks_front : (es fs : List TableEntry) → AreBlocks (es ++ fs) → AreBlocks es
blocks_front [] fs b = tt
blocks_front (e ∷ es) fs b = (b.0, blocks_front es fs b.1)

blocks_back : (es fs : List TableEntry) → AreBlocks (es ++ fs) → AreBlocks fs
blocks_back [] fs b = b
blocks_back (e ∷ es) fs b = blocks_back es fs b.1

each_of : (ps : List Part) → ArePartsBefore ps [] → IsOrdered (joined ps) → AreBlocks (joined ps) → EachIsPart ps
each_of [] a s b = tt
each_of (p ∷ ps) a s b = ((a.0, a.2, ordered_front p.entries.items (joined ps) s, blocks_front p.entries.items (joined ps) b), each_of ps a.3 (ordered_back p.entries.items (joined ps) s) (blocks_back p.entries.items (joined ps) b))

pub each_part : (ps : List Part) → AreParts ps → EachIsPart ps
each_part ps h = each_of ps h.apart h.ordered h.blocks

pub each_front : (ps : List Part) (p : Part) → EachIsPart (ps ++ p ∷ []) → EachIsPart ps
each_front [] p h = tt
each_front (q ∷ ps) p h = (h.0, each_front ps p h.1)

pub each_last : (ps : List Part) (p : Part) → EachIsPart (ps ++ p ∷ []) → IsPart p
each_last [] p h = h.0
each_last (q ∷ ps) p h = each_last ps p h.1

pub append_nil : {X : Type 0} (xs : List X) → xs ++ [] ≡ xs
append_nil [] = refl
append_nil (x ∷ xs) = ap (λ (r : List _). x ∷ r) (append_nil xs)

pub joined_last : (ps : List Part) (p : Part) → joined (ps ++ p ∷ []) ≡ joined ps ++ p.entries.items
joined_last [] p = append_nil p.entries.items
joined_last (q ∷ ps) p = ap (λ r. q.entries.items ++ r) (joined_last ps p) ∙ sym (append_assoc q.entries.items (joined ps) p.entries.items)

pub last_joined : (a : Addr) (ps : List Part) (p : Part) → last_with a (joined (ps ++ p ∷ [])) ≡ or_else (last_with a p.entries.items) (last_with a (joined ps))
last_joined a ps p = ap (last_with a) (joined_last ps p) ∙ last_append a (joined ps) p.entries.items

-- the entry of a part that contains the address
pub own_part : (a : Addr) (p : Part) → IsPart p → last_with a p.entries.items ≡ entry_at (record { base = cleared_addr a p.len; len = p.len }) p.entries.items
own_part a p q = last_in_part a p.v6 p.len p.entries.items q.0 q.2 q.3

pub other_part : (a : Addr) (p : Part) → IsPart p → not (bool_eq p.v6 (is_v6 a)) ≡ true → None ≡ last_with a p.entries.items
other_part a p q h = sym (none_in_part a p.v6 p.len p.entries.items (turned_round (bool_eq p.v6 (is_v6 a)) h) q.0)
  where
    turned_round : (b : Bool) → not b ≡ true → b ≡ false
    turned_round true k = cc
    turned_round false k = refl

pub part_fits : (a : Addr) (p : Part) → IsPart p → not (bool_eq p.v6 (is_v6 a)) ≡ false → p.len ≤ width a
part_fits a p q h = width_of a p.v6 p.len h q.1
  where
    width_of : (a : Addr) (v : Bool) (l : ℕ) → not (bool_eq v (is_v6 a)) ≡ false → l ≤ (if v then 128 else 32) → l ≤ width a
    width_of (V4 x) true l h k = cc
    width_of (V4 x) false l h k = k
    width_of (V6 x) true l h k = k
    width_of (V6 x) false l h k = cc

-- the parts that are left are those in front of the last one, and that one
left_is : (left : List Part) (p : Part) → 1 ≤ length (drop (length left - 1) left) → p ≡ get_or (drop (length left - 1) left) 0 p → take (length left - 1) left ++ p ∷ [] ≡ left
left_is left p n f =
    let back = drop (length left - 1) left in
    let m : take (length back - 1) (drop 1 back) ≡ [] = none (length back - 1) (drop 1 back) (let k = length-drop (length left - 1) left in omega (arith, k, n)) in
    let e : p ∷ [] ≡ back = ap (λ (r : List Part). p ∷ r) (sym m) ∙ cons_is back p n f in
    ap (λ r. take (length left - 1) left ++ r) e ∙ take-append-drop (length left - 1) left
  where
    none : (n : ℕ) (xs : List Part) → n ≡ 0 → take n xs ≡ []
    none n xs h = rw h refl

pub record Step (a : Addr) (left : List Part) (p : Part) : Type 0 where
  pub part : IsPart p
  pub front : EachIsPart (take (length left - 1) left)
  pub last : last_with a (joined left) ≡ or_else (last_with a p.entries.items) (last_with a (joined (take (length left - 1) left)))

pub one_step : (a : Addr) (left : List Part) (p : Part) → EachIsPart left → 1 ≤ length (drop (length left - 1) left) → p ≡ get_or (drop (length left - 1) left) 0 p → Step a left p
one_step a left p h n f =
    let e = left_is left p n f in
    let h' : EachIsPart (take (length left - 1) left ++ p ∷ []) = subst EachIsPart (sym e) h in
    record {
      part = each_last (take (length left - 1) left) p h';
      front = each_front (take (length left - 1) left) p h';
      last = subst (λ r. last_with a (joined r) ≡ or_else (last_with a p.entries.items) (last_with a (joined (take (length left - 1) left)))) e (last_joined a (take (length left - 1) left) p);
    }

pub nothing_left : (a : Addr) (left all : List Part) → length left ≡ 0 → last_with a (joined left) ≡ last_with a (joined all) → None ≡ last_with a (joined all)
nothing_left a [] all n e = e
nothing_left a (p ∷ left) all n e = absurd (omega (arith, n))

pub some_last : (r s : Option TableEntry) (e : TableEntry) → Some e ≡ r → or_else r s ≡ Some e
some_last None s e h = cc
some_last (Some f) s e h = sym h

pub none_last : (r s : Option TableEntry) → r ≡ None → or_else r s ≡ s
none_last r s h = rw h refl

pub holds_is : (a : Addr) (ps : List Part) → AreParts ps → in_table a (joined ps) ≡ sign_of (last_with a (joined ps))
holds_is a ps h = in_table_is a (joined ps) h.ordered h.blocks ∙ plain_sign (last_with a (joined ps))
  where
    plain_sign : (r : Option TableEntry) → plain false r ≡ sign_of r
    plain_sign None = refl
    plain_sign (Some e) = refl
