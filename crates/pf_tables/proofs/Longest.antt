-- The longest entry that contains an address.
use Rattle.std.proofs.Common.{◌≡◌, ℕ, ◌≤◌, ◌==◌, Bool, true, false, ◌&&◌, ◌||◌, List, [], ◌∷◌, refl, arith, inl, inr}
use Rattle.std.specs.Prelude.{not, nat_lt, nat_le, if◌then◌else◌}
use Rattle.std.specs.List.{list_any, list_all}
use Rattle.std.proofs.lemmas.Bool.{cases_lt}
use Rattle.std.proofs.lemmas.Bool.Decides.{nat_tests}
use Rattle.pf_addr.specs.declared.addr.Addr.{Addr}
use Rattle.pf_rules.specs.declared.ruleset.TableEntry.{TableEntry}
use Rattle.pf_tables.specs.Tables.{contains, no_longer, in_table}

abbrev longer : ℕ → ℕ → ℕ
longer l m = if nat_lt l m then m else l

-- the length of the longest entry that contains the address
abbrev best : Addr → List TableEntry → ℕ
best a [] = 0
best a (e ∷ es) = if contains a e then longer e.prefix.len (best a es) else best a es

-- an entry of that length contains the address and isn't negated
abbrev plain_at : Addr → ℕ → List TableEntry → Bool
plain_at a n es = list_any (λ e. not e.negated && contains a e && (e.prefix.len == n)) es

-- what is found behind entries of which the longest had that length
abbrev pub after : Addr → ℕ → Bool → List TableEntry → Bool
after a n f [] = f
after a n f (e ∷ es) =
    if contains a e then
    (if nat_lt n e.prefix.len then after a e.prefix.len (not e.negated) es
    else (if (e.prefix.len == n) && not e.negated then after a n true es else after a n f es))
    else after a n f es

abbrev settled : (ℕ → Bool) → ℕ → ℕ → Bool → Bool
settled P m n f = if nat_lt n m then P m else (f || P n)

step : (P : ℕ → Bool) (l m n : ℕ) (q f : Bool) →
    (if nat_lt n l then settled P m l q else (if (l == n) && q then settled P m n true else settled P m n f))
    ≡ settled (λ k. (q && true && (l == k)) || P k) (longer l m) n f
step P l m n true true = elim (cases_lt n l) [ inl a ↦ elim (cases_lt l m) [ inl b ↦ grind (arith, nat_tests) | inr b ↦ grind (arith, nat_tests) ] | inr a ↦ elim (cases_lt n m) [ inl b ↦ grind (arith, nat_tests) | inr b ↦ grind (arith, nat_tests) ] ]
step P l m n true false = elim (cases_lt n l) [ inl a ↦ elim (cases_lt l m) [ inl b ↦ grind (arith, nat_tests) | inr b ↦ grind (arith, nat_tests) ] | inr a ↦ elim (cases_lt n m) [ inl b ↦ grind (arith, nat_tests) | inr b ↦ grind (arith, nat_tests) ] ]
step P l m n false true = elim (cases_lt n l) [ inl a ↦ elim (cases_lt l m) [ inl b ↦ grind (arith, nat_tests) | inr b ↦ grind (arith, nat_tests) ] | inr a ↦ elim (cases_lt n m) [ inl b ↦ grind (arith, nat_tests) | inr b ↦ grind (arith, nat_tests) ] ]
step P l m n false false = elim (cases_lt n l) [ inl a ↦ elim (cases_lt l m) [ inl b ↦ grind (arith, nat_tests) | inr b ↦ grind (arith, nat_tests) ] | inr a ↦ elim (cases_lt n m) [ inl b ↦ grind (arith, nat_tests) | inr b ↦ grind (arith, nat_tests) ] ]

after_settled : (a : Addr) (n : ℕ) (f : Bool) (es : List TableEntry) → after a n f es ≡ settled (λ k. plain_at a k es) (best a es) n f
after_settled a n true [] = grind (arith, nat_tests)
after_settled a n false [] = grind (arith, nat_tests)
after_settled a n f (e ∷ es) =
    elim (contains a e) as (λ c.
    (if c then (if nat_lt n e.prefix.len then after a e.prefix.len (not e.negated) es else (if (e.prefix.len == n) && not e.negated then after a n true es else after a n f es)) else after a n f es)
    ≡ settled (λ k. (not e.negated && c && (e.prefix.len == k)) || plain_at a k es) (if c then longer e.prefix.len (best a es) else best a es) n f) [
      | true ↦ rw (after_settled a e.prefix.len (not e.negated) es, after_settled a n true es, after_settled a n f es) (step (λ k. plain_at a k es) e.prefix.len (best a es) n (not e.negated) f)
      | false ↦ elim (e.negated) as (λ v. after a n f es ≡ settled (λ k. (not v && false && (e.prefix.len == k)) || plain_at a k es) (best a es) n f) [ true ↦ after_settled a n f es | false ↦ after_settled a n f es ]
    ]

both_le : (l m n : ℕ) → (nat_le l n && nat_le m n) ≡ nat_le (longer l m) n
both_le l m n = elim (cases_lt l m) [ inl b ↦ grind (arith, nat_tests) | inr b ↦ grind (arith, nat_tests) ]

-- no entry that contains the address is longer than n
all_le : (a : Addr) (n : ℕ) (es : List TableEntry) → list_all (no_longer a n) es ≡ nat_le (best a es) n
all_le a n [] = grind (arith, nat_tests)
all_le a n (e ∷ es) = rw (all_le a n es) (elim (contains a e) as (λ c. ((not c || nat_le e.prefix.len n) && nat_le (best a es) n) ≡ nat_le (if c then longer e.prefix.len (best a es) else best a es) n) [ true ↦ both_le e.prefix.len (best a es) n | false ↦ refl ])

longest_one : (l m : ℕ) → l ≤ m → nat_le m l ≡ (l == m)
longest_one l m h = grind (arith, nat_tests)

of_longer : (l k m : ℕ) → longer l k ≤ m → (l ≤ m) × (k ≤ m)
of_longer l k m h = elim (cases_lt l k) [ inl b ↦ (grind (arith, nat_tests), grind (arith, nat_tests)) | inr b ↦ (grind (arith, nat_tests), grind (arith, nat_tests)) ]

plain_longest : (a : Addr) (m : ℕ) (es : List TableEntry) → best a es ≤ m → list_any (λ e. not e.negated && contains a e && nat_le m e.prefix.len) es ≡ plain_at a m es
plain_longest a m [] h = refl
plain_longest a m (e ∷ es) h =
    (elim (contains a e) as (λ c. (if c then longer e.prefix.len (best a es) else best a es) ≤ m → ((not e.negated && c && nat_le m e.prefix.len) || list_any (λ e. not e.negated && contains a e && nat_le m e.prefix.len) es) ≡ ((not e.negated && c && (e.prefix.len == m)) || plain_at a m es)) [
      | true ↦ λ k. let both : (e.prefix.len ≤ m) × (best a es ≤ m) = of_longer e.prefix.len (best a es) m k in rw (longest_one e.prefix.len m both.0, plain_longest a m es both.1) refl
      | false ↦ λ k. rw (plain_longest a m es k) (elim (e.negated) as (λ v. ((not v && false && nat_le m e.prefix.len) || plain_at a m es) ≡ ((not v && false && (e.prefix.len == m)) || plain_at a m es)) [ true ↦ refl | false ↦ refl ])
    ]) h

in_table_is : (a : Addr) (es : List TableEntry) → in_table a es ≡ plain_at a (best a es) es
unfolding in_table
in_table_is a es = simp all_le (plain_longest a (best a es) es (omega arith))

-- what is found behind no entries is the definition's answer
pub found : (a : Addr) (es : List TableEntry) → after a 0 false es ≡ in_table a es
found a es = rw (after_settled a 0 false es, in_table_is a es) (elim (cases_lt 0 (best a es)) [ inl b ↦ grind (arith, nat_tests) | inr b ↦ (let e : best a es ≡ 0 = omega arith in rw e refl) ])
