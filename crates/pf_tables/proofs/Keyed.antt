-- Entries of one family and length are found by their numbers.
use Rattle.std.proofs.Common.{Result, Ok, Err, MatchResult, ◌≡◌, ℕ, zero, suc, ◌<◌, ◌≤◌, Bool, true, false, cond, List, [], ◌∷◌, Some, None, length, map, get_or, refl, sym, subst, ap, ◌∙◌, arith, inl, inr}
use Rattle.std.specs.declared.cmp.Ordering.TheVariants.{Equal, Greater}
use Rattle.std.specs.declared.cmp.Ordering.{Ordering}
use Rattle.std.specs.List.{list_all}
use Rattle.std.specs.Prelude.{slice_get, not}
use Rattle.std.specs.List.Sorted.{IsBinarySearchResult}
use Rattle.std.proofs.lemmas.List.Sorted.{searched}
use Rattle.std.specs.Ordering.{is_lt, is_eq, nat_cmp, ordering_then}
use Rattle.std.proofs.lemmas.Bool.{cases_lt}
use Rattle.std.proofs.lemmas.Bool.Decides.{nat_tests}
use Rattle.pf_addr.specs.declared.addr.Addr.{Addr}
use Rattle.pf_addr.specs.declared.addr.Addr.TheVariants.{V4, V6}
use Rattle.pf_addr.specs.Blocks.{Block, cleared_addr}
use Rattle.pf_addr.specs.Order.{version, bits_of, prefix_cmp}
use Rattle.pf_addr.proofs.Order.{same, is_equal}
use Rattle.pf_rules.specs.declared.ruleset.TableEntry.{TableEntry}
use Rattle.pf_tables.specs.Tables.{is_of, is_v6, bool_eq}
use Rattle.pf_tables.specs.inner.Contents.{entry_at}
use Rattle.pf_tables.specs.Parts.{IsOrdered}
use Rattle.pf_tables.specs.inner.Keys.{key_of}
use Rattle.pf_tables.proofs.Lookups.{above, both_true}
use Rattle.pf_tables.proofs.Parting.{version_of, of_means}

pub equal : (n : ℕ) → nat_cmp n n ≡ Equal
equal n = grind (arith, nat_tests)

less : (x y : ℕ) → is_lt (nat_cmp x y) ≡ true → x < y
less x y h = elim (cases_lt x y) [
  | inl l ↦ l
  | inr k ↦ elim (cases_lt y x) [
    | inl g ↦ (let c : nat_cmp x y ≡ Greater = grind (arith, nat_tests, g) in let bad : false ≡ true = subst (λ o. is_lt o ≡ true) c h in cc)
    | inr m ↦ (let e : x ≡ y = omega (arith, k, m) in let bad : false ≡ true = subst (λ o. is_lt o ≡ true) (ap (λ z. nat_cmp x z) (sym e) ∙ equal x) h in cc)
  ]
]

third : (a b c d : ℕ) (o : Ordering) → a ≡ b → c ≡ d → ordering_then (nat_cmp a b) (ordering_then (nat_cmp c d) o) ≡ o
third a b c d o h k = rw (ap (λ z. nat_cmp a z) (sym h) ∙ equal a, ap (λ z. nat_cmp c z) (sym k) ∙ equal c) refl

-- prefixes of one family and length are in the order of their numbers
pub by_bits : (p q : Block) → version p.base ≡ version q.base → p.len ≡ q.len → prefix_cmp p q ≡ nat_cmp (bits_of p.base) (bits_of q.base)
unfolding prefix_cmp
by_bits p q v l = third (version p.base) (version q.base) p.len q.len (nat_cmp (bits_of p.base) (bits_of q.base)) v l

-- the numbers behind a prefix are greater
pub greater : (v : Bool) (l : ℕ) (p : Block) (es : List TableEntry) → version p.base ≡ version_of v → p.len ≡ l → list_all (is_of v l) es ≡ true → above p es ≡ true → (j : ℕ) → j < length (map key_of es) → bits_of p.base < get_or (map key_of es) j 0
greater v l p [] s t i h j n = absurd (omega (arith, n))
greater v l p (e ∷ es) s t i h zero n =
    let own = of_means v l e (both_true (is_of v l e) (list_all (is_of v l) es) i).0 in
    let both = both_true (is_lt (prefix_cmp p e.prefix)) (above p es) h in
    less (bits_of p.base) (key_of e) (subst (λ o. is_lt o ≡ true) (by_bits p e.prefix (s ∙ sym own.0) (t ∙ sym own.1)) both.0)
greater v l p (e ∷ es) s t i h (suc j) n =
    greater v l p es s t (both_true (is_of v l e) (list_all (is_of v l) es) i).1 (both_true (is_lt (prefix_cmp p e.prefix)) (above p es) h).1 j (omega (arith, n))

-- the numbers rise
pub rising : (v : Bool) (l : ℕ) (es : List TableEntry) → list_all (is_of v l) es ≡ true → IsOrdered es → (i j : ℕ) → i ≤ j → j < length (map key_of es) → get_or (map key_of es) i 0 ≤ get_or (map key_of es) j 0
rising v l [] h s i j m n = absurd (omega (arith, n))
rising v l (e ∷ es) h s zero zero m n = omega arith
rising v l (e ∷ es) h s zero (suc j) m n =
    let both = both_true (is_of v l e) (list_all (is_of v l) es) h in
    let own = of_means v l e both.0 in
    let g = greater v l e.prefix es own.0 own.1 both.1 s.0 j (omega (arith, n)) in
    omega (arith, g)
rising v l (e ∷ es) h s (suc i) zero m n = absurd (omega (arith, m))
rising v l (e ∷ es) h s (suc i) (suc j) m n = rising v l es (both_true (is_of v l e) (list_all (is_of v l) es) h).1 s.1 i j (omega (arith, m)) (omega (arith, n))

-- an entry of the prefix has its number
own_key : (p q : Block) → is_eq (prefix_cmp p q) ≡ true → bits_of p.base ≡ bits_of q.base
own_key p q h = ap (λ (r : Block). bits_of r.base) (same p q (is_equal _ h))

-- where the number is, is the entry
pub found : (v : Bool) (l : ℕ) (es : List TableEntry) (q : Block) → list_all (is_of v l) es ≡ true → IsOrdered es → version q.base ≡ version_of v → q.len ≡ l → (i : ℕ) → i < length (map key_of es) → get_or (map key_of es) i 0 ≡ bits_of q.base → slice_get es i ≡ entry_at q es
found v l [] q h s a b i n k = absurd (omega (arith, n))
found v l (e ∷ es) q h s a b zero n k =
    let own = of_means v l e (both_true (is_of v l e) (list_all (is_of v l) es) h).0 in
    let c : prefix_cmp e.prefix q ≡ Equal = by_bits e.prefix q (own.0 ∙ sym a) (own.1 ∙ sym b) ∙ ap (λ z. nat_cmp z (bits_of q.base)) k ∙ equal (bits_of q.base) in
    rw c refl
found v l (e ∷ es) q h s a b (suc i) n k =
    let both = both_true (is_of v l e) (list_all (is_of v l) es) h in
    let own = of_means v l e both.0 in
    let g = greater v l e.prefix es own.0 own.1 both.1 s.0 i (omega (arith, n)) in
    let rest = found v l es q both.1 s.1 a b i (omega (arith, n)) k in
    (elim (is_eq (prefix_cmp e.prefix q)) as (λ c. is_eq (prefix_cmp e.prefix q) ≡ c → slice_get es i ≡ cond c (Some e) (entry_at q es)) [
      | true ↦ λ t. let u = own_key e.prefix q t in absurd (omega (arith, g, k, u))
      | false ↦ λ t. rest
    ]) refl

-- where the number isn't, there is no entry
pub absent : (es : List TableEntry) (q : Block) → ((k : ℕ) → k < length (map key_of es) → get_or (map key_of es) k 0 ≡ bits_of q.base → ⊥) → entry_at q es ≡ None
absent [] q h = refl
absent (e ∷ es) q h =
    (elim (is_eq (prefix_cmp e.prefix q)) as (λ c. is_eq (prefix_cmp e.prefix q) ≡ c → cond c (Some e) (entry_at q es) ≡ None) [
      | true ↦ λ t. absurd (h zero (omega arith) (own_key e.prefix q t))
      | false ↦ λ t. absent es q (λ k n g. h (suc k) (omega (arith, n)) g)
    ]) refl

-- an address without its last bits is of its family
pub own_version : (a : Addr) (v : Bool) (l : ℕ) → not (bool_eq v (is_v6 a)) ≡ false → version (cleared_addr a l) ≡ version_of v
own_version (V4 x) true l h = cc
own_version (V4 x) false l h = refl
own_version (V6 x) true l h = refl
own_version (V6 x) false l h = cc

same_ok : (i j : ℕ) → ◌≡◌ {A = Result ℕ ℕ} (Ok i) (Ok j) → i ≡ j
same_ok i j o = cc

-- a search of the numbers finds the entry, or there is none
pub record Search (es : List TableEntry) (keys : List ℕ) (q : Block) (r : Result ℕ ℕ) : Type 0 where
  pub at : (i : ℕ) → r ≡ Ok i → slice_get es i ≡ entry_at q es
  pub nowhere : (i : ℕ) → r ≡ Err i → None ≡ entry_at q es

pub by_search : (v : Bool) (l : ℕ) (es : List TableEntry) (keys : List ℕ) (q : Block) (x : ℕ) (r : Result ℕ ℕ) →
    list_all (is_of v l) es ≡ true → IsOrdered es → version q.base ≡ version_of v → q.len ≡ l →
    keys ≡ map key_of es → x ≡ bits_of q.base → IsBinarySearchResult (λ y. nat_cmp y x) keys r → Search es keys q r
by_search v l es keys q x r h s a b k e p = searched_is r (searched keys x r p (subst (λ (ks : List ℕ). (i j : ℕ) → i ≤ j → j < length ks → get_or ks i 0 ≤ get_or ks j 0) (sym k) (rising v l es h s)))
  where
    no_key : (i : ℕ) → ((n : ℕ) → n < i → get_or keys n 0 < x) → ((n : ℕ) → i ≤ n → n < length keys → x < get_or keys n 0) → (n : ℕ) → n < length (map key_of es) → get_or (map key_of es) n 0 ≡ bits_of q.base → ⊥
    no_key i below above_i n m g =
        let w : get_or keys n 0 ≡ x = ap (λ (ks : List ℕ). get_or ks n 0) k ∙ g ∙ sym e in
        elim (cases_lt n i) [
          | inl y ↦ (let z = below n y in omega (arith, z, w))
          | inr y ↦ (let z = above_i n y (subst (λ (ks : List ℕ). n < length ks) (sym k) m) in omega (arith, z, w))
        ]

    searched_is : (r : Result ℕ ℕ) → MatchResult r (λ i. (i < length keys) × (get_or keys i 0 ≡ x)) (λ i. (i ≤ length keys) × ((n : ℕ) → n < i → get_or keys n 0 < x) × ((n : ℕ) → i ≤ n → n < length keys → x < get_or keys n 0)) → Search es keys q r
    searched_is (Ok i) m = record {
      at = λ j o. (let f : slice_get es i ≡ entry_at q es = found v l es q h s a b i (subst (λ (ks : List ℕ). i < length ks) k m.0) (ap (λ (ks : List ℕ). get_or ks i 0) (sym k) ∙ m.1 ∙ e) in let y : i ≡ j = same_ok i j o in subst (λ z. slice_get es z ≡ entry_at q es) y f);
      nowhere = λ j o. cc;
    }
    searched_is (Err i) m = record {
      at = λ j o. cc;
      nowhere = λ j o. sym (absent es q (no_key i m.1 m.2));
    }
