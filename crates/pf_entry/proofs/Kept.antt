-- What the types of a lent command keep, as the owned ones ask for it.
use Rattle.std.proofs.Common.{◌≡◌, ℕ, zero, suc, ◌<◌, true, leb, List, ◌∷◌, length, Option, Some, None, refl, ap, subst}
use Rattle.std.specs.Prelude.{is_some, IsTrue}
use Rattle.std.specs.List.{list_all}
use Rattle.std.proofs.lemmas.Bool.{le-leb}
use Rattle.pf_entry.specs.Entry.{is_name, are_names}
use Rattle.pf_entry.specs.Reading.{◌>>=◌, only, counted_at, name_at, many_at, names_at, names_in, address_at, first_or_none}
use Rattle.pf_entry.specs.declared.view.Names.{Names}
use Rattle.pf_entry.specs.declared.view.SomeAddressesView.{SomeAddressesView}
use Rattle.pf_entry.specs.Seen.{names_of, addresses_of}
use Rattle.pf_entry.proofs.Takes.{bind_ok, only_ok, and_true}

there : {A : Type 0} (r : Option A) → IsTrue (is_some r) → (x : A) × (r ≡ Some x)
there None h = absurd cc
there (Some x) h = (x, refl)

many_long : {A : Type 0} (item : List ℕ → Option (A × List ℕ)) (n : ℕ) (bytes : List ℕ) → IsTrue (is_some (many_at item n bytes)) → length (first_or_none (many_at item n bytes)) ≡ n
unfolding many_at
many_long item zero bytes h = refl
many_long item (suc n) bytes h =
    let t = there (many_at item (suc n) bytes) h in
    let a = bind_ok (item bytes) (λ first. many_at item n first.1 >>= λ others. Some (first.0 ∷ others.0, others.1)) t.0 t.1 in
    let b = bind_ok (many_at item n a.0.1) (λ others. Some (a.0.0 ∷ others.0, others.1)) t.0 a.2 in
    let more : length (first_or_none (many_at item n a.0.1)) ≡ n = many_long item n a.0.1 (rw b.1 refl) in
    rw (a.1, b.1) (ap suc (rw b.1 at more))

named : (bytes : List ℕ) (x : List ℕ × List ℕ) → name_at bytes ≡ Some x → is_name x.0 ≡ true
unfolding name_at
named bytes x e =
    let a = bind_ok (counted_at bytes) (λ name. only (is_name name.0) name) x e in
    let g = only_ok (is_name a.0.0) a.0 x a.2 in
    subst (λ (y : List ℕ × List ℕ). is_name y.0 ≡ true) g.1 g.0

all_named : (n : ℕ) (bytes : List ℕ) → list_all is_name (names_in n bytes) ≡ true
unfolding many_at
all_named zero bytes = refl
all_named (suc n) bytes =
    (elim (name_at bytes) as (λ r. name_at bytes ≡ r → list_all is_name (first_or_none (r >>= λ first. names_at n first.1 >>= λ others. Some (first.0 ∷ others.0, others.1))) ≡ true) [
      | None ↦ λ e. refl
      | Some x ↦ λ e. (let rest = all_named n x.1 in
          (elim (names_at n x.1) as (λ r. list_all is_name (first_or_none r) ≡ true → list_all is_name (first_or_none (r >>= λ others. Some (x.0 ∷ others.0, others.1))) ≡ true) [
            | None ↦ λ k. refl
            | Some y ↦ λ k. and_true (is_name x.0) (list_all is_name y.0) (named bytes x e) k
          ]) rest)
    ]) refl

-- the names of a view are a path's
pub path_fits : (v : Names) → are_names (names_of v) ≡ true
path_fits v = and_true (leb (length (names_of v)) 8) (list_all is_name (names_of v)) (rw (many_long name_at v.count v.bytes.now v.spelled) (le-leb _ _ v.few)) (all_named v.count v.bytes.now)

-- one address at least
pub some_there : (v : SomeAddressesView) → 0 < length (addresses_of v.items)
some_there v = rw (many_long address_at v.items.count v.items.bytes.now v.items.spelled) v.some
