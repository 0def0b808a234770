-- The first entry of each prefix.
use Rattle.std.proofs.Common.{◌≡◌, ℕ, ◌<◌, ◌≤◌, ◌||◌, Bool, true, false, cond, not, List, [], ◌∷◌, ◌++◌, length, drop, get_or, drop-cons, add-one, fold, None, refl, sym, ap, ◌∙◌, ◌+◌, arith, length-append}
use Rattle.std.specs.Prelude.{nat_lt}
use Rattle.std.specs.List.{list_any}
use Rattle.std.specs.Cmp.{IsTotalOrder}
use Rattle.std.specs.Ordering.{is_eq}
use Rattle.std.specs.BTreeSet.{BTreeSet, contains, Updates, IsUnchanged}
use Rattle.std.proofs.lemmas.Bool.{false≢true}
use Rattle.std.proofs.lemmas.Bool.Decides.{nat_tests}
use Rattle.std.proofs.lemmas.Cmp.{eq_by_cmp_equiv, nat_cmp_total, then_total, on_total}
use Rattle.std.proofs.lemmas.List.Folds.{list_any-append}
use Rattle.pf_addr.specs.Order.{prefix_cmp}
use Rattle.pf_rules.specs.declared.ruleset.TableEntry.{TableEntry}
use Rattle.pf_expansion.specs.Tables.{same_prefix, with_first, first_of_each}
use Rattle.pf_expansion.specs.inner.Tables.{kept, key_of, key_cmp, AreKeys}

one_more : (entries : List TableEntry) (e : TableEntry) → length entries ≤ length (with_first entries e)
one_more entries e = cases (list_any (same_prefix e) entries)
  where
    cases : (b : Bool) → length entries ≤ length (cond b entries (entries ++ e ∷ []))
    cases true = omega arith
    cases false = omega (arith, length-append entries (e ∷ []))

-- what is kept stays
pub no_fewer : (entries more : List TableEntry) → length entries ≤ length (fold with_first entries more)
no_fewer entries [] = omega arith
no_fewer entries (e ∷ more) = omega (arith, one_more entries e, no_fewer (with_first entries e) more)

above : (n : ℕ) → 4096 < n → nat_lt 4096 n ≡ true
above n h = grind (arith, nat_tests, h)

-- the next entry
pub next_entry : (all entries news : List TableEntry) (i : ℕ) (e : TableEntry) → i < length all → e ≡ get_or all i e → fold with_first entries (drop i all) ≡ first_of_each all → news ≡ with_first entries e → fold with_first news (drop (i + 1) all) ≡ first_of_each all
next_entry all entries news i e within is same pushed =
    let here : drop i all ≡ e ∷ drop (i + 1) all = rw add-one (drop-cons all i e within) ∙ ap (λ (x : TableEntry). x ∷ drop (i + 1) all) (sym is) in
    ap (λ (es : List TableEntry). fold with_first es (drop (i + 1) all)) pushed ∙ ap (λ (es : List TableEntry). fold with_first entries es) (sym here) ∙ same

-- more than there may be
pub too_many : (all entries more : List TableEntry) → fold with_first entries more ≡ first_of_each all → 4096 < length entries → None ≡ kept all
too_many all entries more same full =
    let count = ap (λ (es : List TableEntry). length es) same in
    rw (above (length (first_of_each all)) (omega (arith, no_fewer entries more, count, full))) refl

-- ---- prefixes as numbers

key_total : IsTotalOrder key_cmp
key_total = then_total (on_total (λ (t : ℕ × (ℕ × ℕ)). t.0) nat_cmp_total) (then_total (on_total (λ (t : ℕ × (ℕ × ℕ)). t.1.0) nat_cmp_total) (on_total (λ (t : ℕ × (ℕ × ℕ)). t.1.1) nat_cmp_total))

either : (x y : ℕ × (ℕ × ℕ)) → is_eq (key_cmp x y) ≡ is_eq (key_cmp y x)
either x y = (eq_by_cmp_equiv key_total).symm x y

same_key : (e f : TableEntry) → is_eq (key_cmp (key_of e.prefix) (key_of f.prefix)) ≡ same_prefix e f
unfolding prefix_cmp
same_key e f = either (key_of e.prefix) (key_of f.prefix)

any_key : (e : TableEntry) (entries : List TableEntry) → list_any (λ (f : TableEntry). is_eq (key_cmp (key_of e.prefix) (key_of f.prefix))) entries ≡ list_any (same_prefix e) entries
any_key e [] = refl
any_key e (f ∷ entries) = ap (λ (b : Bool). b || list_any (λ (f : TableEntry). is_eq (key_cmp (key_of e.prefix) (key_of f.prefix))) entries) (same_key e f) ∙ ap (λ (b : Bool). same_prefix e f || b) (any_key e entries)

pub no_keys : (keys : BTreeSet (ℕ × (ℕ × ℕ))) → keys.keys ≡ [] → AreKeys keys []
no_keys keys e key = rw e refl

from_not : (b : Bool) → false ≡ not b → b ≡ true
from_not true e = refl
from_not false e = absurd (false≢true e)

from_not_true : (b : Bool) → true ≡ not b → b ≡ false
from_not_true true e = absurd (false≢true (sym e))
from_not_true false e = refl

module _ (keys : BTreeSet (ℕ × (ℕ × ℕ))) (entries : List TableEntry) (e : TableEntry) (are : AreKeys keys entries) where
  -- its prefix is there
  pub found_already : false ≡ not (contains key_cmp keys (key_of e.prefix)) → entries ≡ with_first entries e
  found_already n =
      let there : list_any (same_prefix e) entries ≡ true = sym (any_key e entries) ∙ sym (are (key_of e.prefix)) ∙ from_not (contains key_cmp keys (key_of e.prefix)) n in
      ap (λ (b : Bool). cond b entries (entries ++ e ∷ [])) (sym there)

  pub still_keys : (news : BTreeSet (ℕ × (ℕ × ℕ))) → IsUnchanged keys news → AreKeys news entries
  still_keys news same key = ap (λ (ks : List (ℕ × (ℕ × ℕ))). list_any (λ (k : ℕ × (ℕ × ℕ)). is_eq (key_cmp key k)) ks) same ∙ are key

  -- or is new
  pub found_first : (news : List TableEntry) → news ≡ entries ++ e ∷ [] → true ≡ not (contains key_cmp keys (key_of e.prefix)) → news ≡ with_first entries e
  found_first news pushed n =
      let absent : list_any (same_prefix e) entries ≡ false = sym (any_key e entries) ∙ sym (are (key_of e.prefix)) ∙ from_not_true (contains key_cmp keys (key_of e.prefix)) n in
      pushed ∙ ap (λ (b : Bool). cond b entries (entries ++ e ∷ [])) (sym absent)

  pub one_key_more : (news : BTreeSet (ℕ × (ℕ × ℕ))) (found : List TableEntry) → found ≡ entries ++ e ∷ [] → Updates key_cmp keys news (key_of e.prefix) true → AreKeys news found
  one_key_more news found pushed set key =
      let mine = is_eq (key_cmp key (key_of e.prefix)) in
      set.0 key ∙ ap (λ (b : Bool). cond b true (contains key_cmp keys key)) (either (key_of e.prefix) key) ∙ ap (λ (b : Bool). cond mine true b) (are key) ∙ cases mine (list_any (λ (f : TableEntry). is_eq (key_cmp key (key_of f.prefix))) entries) ∙
      sym (list_any-append (λ (f : TableEntry). is_eq (key_cmp key (key_of f.prefix))) entries (e ∷ [])) ∙ ap (λ (es : List TableEntry). list_any (λ (f : TableEntry). is_eq (key_cmp key (key_of f.prefix))) es) (sym pushed)
    where
      cases : (a b : Bool) → cond a true b ≡ (b || (a || false))
      cases true true = refl
      cases true false = refl
      cases false true = refl
      cases false false = refl
