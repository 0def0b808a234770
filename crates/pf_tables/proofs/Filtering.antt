-- What a Bloom filter may contain.
use Rattle.std.proofs.Common.{◌≡◌, ℕ, zero, suc, ◌+◌, ◌<◌, Bool, true, false, ◌&&◌, List, [], ◌∷◌, None, length, map, take, get_or, refl, sym, subst, ap, ◌∙◌, arith}
use Rattle.std.specs.List.{list_all, insert, remove}
use Rattle.std.proofs.lemmas.List.Folds.{list_all_more}
use Rattle.pf_addr.specs.Blocks.{Block}
use Rattle.pf_addr.specs.Order.{bits_of}
use Rattle.pf_rules.specs.declared.ruleset.TableEntry.{TableEntry}
use Rattle.pf_tables.specs.declared.bloom.BloomFilter.{BloomFilter}
use Rattle.pf_tables.specs.inner.Contents.{entry_at}
use Rattle.pf_tables.specs.inner.Keys.{key_of}
use Rattle.pf_tables.specs.inner.Bloom.{may_contain, MayContainAll}
use Rattle.pf_tables.proofs.Lookups.{both_true}
use Rattle.pf_tables.proofs.Keyed.{absent}

both_are : (a b : Bool) → a ≡ true → b ≡ true → (a && b) ≡ true
both_are a b h k = rw (h, k) refl

-- without bits it may contain each key
pub without_bits : (f : BloomFilter) (keys : List ℕ) → f.bits.items ≡ [] → MayContainAll f keys
without_bits f [] b = refl
without_bits f (k ∷ keys) b = rw b (without_bits f keys b)

-- a filter with more keys may contain these
pub all_kept : (f g : BloomFilter) → ((k : ℕ) → may_contain f k ≡ true → may_contain g k ≡ true) → (keys : List ℕ) → MayContainAll f keys → MayContainAll g keys
all_kept f g h [] m = refl
all_kept f g h (k ∷ keys) m =
    let both = both_true (may_contain f k) (list_all (may_contain f) keys) m in
    both_are (may_contain g k) (list_all (may_contain g) keys) (h k both.0) (all_kept f g h keys both.1)

-- one key more was inserted
pub one_more : (f g : BloomFilter) (keys : List ℕ) (i d : ℕ) → i < length keys → MayContainAll f (take i keys) → ((k : ℕ) → may_contain f k ≡ true → may_contain g k ≡ true) → may_contain g (get_or keys i d) ≡ true → MayContainAll g (take (i + 1) keys)
one_more f g keys i d n m h own =
    list_all_more (may_contain g) keys i d n ∙ both_are (list_all (may_contain g) (take i keys)) (may_contain g (get_or keys i d)) (all_kept f g h (take i keys) m) own

pub all_insert : (f : BloomFilter) (keys : List ℕ) (at k : ℕ) → MayContainAll f keys → may_contain f k ≡ true → MayContainAll f (insert keys at k)
all_insert f [] zero k m own = rw own refl
all_insert f [] (suc at) k m own = rw own refl
all_insert f (x ∷ keys) zero k m own = both_are (may_contain f k) (list_all (may_contain f) (x ∷ keys)) own m
all_insert f (x ∷ keys) (suc at) k m own =
    let both = both_true (may_contain f x) (list_all (may_contain f) keys) m in
    both_are (may_contain f x) (list_all (may_contain f) (insert keys at k)) both.0 (all_insert f keys at k both.1 own)

pub all_remove : (f : BloomFilter) (keys : List ℕ) (at : ℕ) → MayContainAll f keys → MayContainAll f (remove keys at)
all_remove f [] zero m = refl
all_remove f [] (suc at) m = refl
all_remove f (x ∷ keys) zero m = (both_true (may_contain f x) (list_all (may_contain f) keys) m).1
all_remove f (x ∷ keys) (suc at) m =
    let both = both_true (may_contain f x) (list_all (may_contain f) keys) m in
    both_are (may_contain f x) (list_all (may_contain f) (remove keys at)) both.0 (all_remove f keys at both.1)

-- each of the keys has its bit set
each_is : (f : BloomFilter) (keys : List ℕ) (i : ℕ) → MayContainAll f keys → i < length keys → may_contain f (get_or keys i 0) ≡ true
each_is f [] i m n = absurd (omega (arith, n))
each_is f (k ∷ keys) zero m n = (both_true (may_contain f k) (list_all (may_contain f) keys) m).0
each_is f (k ∷ keys) (suc i) m n = each_is f keys i (both_true (may_contain f k) (list_all (may_contain f) keys) m).1 (omega (arith, n))

-- no entry has a prefix whose number the filter can't contain
pub filtered : (f : BloomFilter) (keys : List ℕ) (es : List TableEntry) (q : Block) (x : ℕ) → keys ≡ map key_of es → MayContainAll f keys → x ≡ bits_of q.base → may_contain f x ≡ false → entry_at q es ≡ None
filtered f keys es q x k m e u = absent es q no_key
  where
    no_key : (i : ℕ) → i < length (map key_of es) → get_or (map key_of es) i 0 ≡ bits_of q.base → ⊥
    no_key i n g =
        let own : may_contain f (get_or keys i 0) ≡ true = each_is f keys i m (subst (λ (ks : List ℕ). i < length ks) (sym k) n) in
        let same : get_or keys i 0 ≡ x = ap (λ (ks : List ℕ). get_or ks i 0) k ∙ g ∙ sym e in
        let bad : true ≡ false = sym own ∙ ap (λ z. may_contain f z) same ∙ u in
        cc
