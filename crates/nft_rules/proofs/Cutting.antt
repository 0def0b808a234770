-- The intervals of a table hold an address exactly if the table does.
use Rattle.std.proofs.Common.{◌≡◌, ℕ, suc, ◌+◌, ◌-◌, ◌*◌, ◌/◌, ◌%◌, ◌^◌, ◌<◌, ◌≤◌, ◌==◌, Bool, true, false, ◌&&◌, ◌||◌, List, [], ◌∷◌, ◌++◌, refl, sym, ap, ◌∙◌, arith, inl, inr, fold}
use Rattle.std.specs.Prelude.{not, nat_lt, nat_le, if◌then◌else◌}
use Rattle.std.specs.List.{list_any, list_all, flat_map}
use Rattle.std.proofs.lemmas.Bool.{cases_lt, cases_order, lt-ltb, le-ltb, or_parts, or_from, and_parts, and_from, ltb-true}
use Rattle.std.proofs.lemmas.Bool.Decides.{nat_tests}
use Rattle.std.proofs.lemmas.List.Folds.{list_any-append}
use Rattle.std.proofs.lemmas.Nat.{pow_pos, div-add-mod'}
use Rattle.std.proofs.Math.Nat.{mod-lt, mul-le-mul_right}
use Rattle.pf_addr.specs.declared.addr.Addr.{Addr}
use Rattle.pf_addr.specs.declared.addr.Addr.TheVariants.{V4, V6}
use Rattle.pf_addr.specs.declared.addr.Family.{Family}
use Rattle.pf_addr.specs.declared.addr.Family.TheVariants.{Inet, Inet6}
use Rattle.pf_addr.specs.Blocks.{agree, front, cleared, width, family_of}
use Rattle.pf_addr.specs.Order.{bits_of}
use Rattle.pf_rules.specs.declared.ruleset.TableEntry.{TableEntry}
use Rattle.pf_tables.specs.Tables.{contains, no_longer, in_table}
use Rattle.nft_rules.specs.Subset.{family_eq}
use Rattle.nft_rules.specs.Cuts.{is_within, address, top, first_of, last_of, put_number, ends, cuts, span, spans, elements}

-- ---- a prefix is an interval

-- a number has the quotient q exactly if it is one of the p numbers from q * p on
in_part : (p q x : ℕ) → 0 < p → (x / p == q) ≡ (nat_le (q * p) x && nat_le x (q * p + (p - 1)))
in_part p q x some =
    let whole : x / p * p + x % p ≡ x = div-add-mod' x p in
    let rest : x % p < p = mod-lt x some in
    elim (cases_order (x / p) q) [
      | inl e ↦ (let f : x / p * p ≡ q * p = ap (λ n. n * p) e in grind (arith, nat_tests))
      | inr l ↦ elim l [
        | inl a ↦ (let f : suc (x / p) * p ≤ q * p = mul-le-mul_right p a in
            let g : suc (x / p) * p ≡ x / p * p + p = omega arith in grind (arith, nat_tests))
        | inr b ↦ (let f : suc q * p ≤ x / p * p = mul-le-mul_right p b in
            let g : suc q * p ≡ q * p + p = omega arith in grind (arith, nat_tests))
      ]
    ]

pub agree_in : (f : Family) (len n : ℕ) (base : Addr) → agree len (address f n) base ≡ (family_eq (family_of base) f
    && (nat_le (cleared (width base) len (bits_of base)) n && nat_le n (cleared (width base) len (bits_of base) + (2 ^ (width base - len) - 1))))
unfolding agree
agree_in Inet len n (V4 y) = in_part (2 ^ (32 - len)) (front 32 len y) n (pow_pos (32 - len))
agree_in Inet6 len n (V6 y) = in_part (2 ^ (128 - len)) (front 128 len y) n (pow_pos (128 - len))
agree_in Inet len n (V6 y) = refl
agree_in Inet6 len n (V4 y) = refl

-- the entry is of the family, and from its first address to its last one
pub contains_in : (f : Family) (n : ℕ) (e : TableEntry) → contains (address f n) e ≡ (family_eq (family_of e.prefix.base) f && (nat_le (first_of e.prefix) n && nat_le n (last_of e.prefix)))
contains_in f n e = agree_in f e.prefix.len n e.prefix.base

-- ---- where nothing begins or ends, nothing changes

-- the number is past x, and not past b
abbrev is_between : ℕ → ℕ → ℕ → Bool
is_between x b n = nat_lt x n && nat_le n b

same_within : (x b low high : ℕ) → x ≤ b → is_between x b low ≡ false → (b ≤ high) → (nat_le low x && nat_le x high) ≡ (nat_le low b && nat_le b high)
same_within x b low high le a h = grind (arith, nat_tests)

same_before : (x b low high : ℕ) → x ≤ b → is_between x b low ≡ false → is_between x b (high + 1) ≡ false → (nat_le low x && nat_le x high) ≡ (nat_le low b && nat_le b high)
same_before x b low high le a h = elim (cases_lt high x) [ inl i ↦ grind (arith, nat_tests) | inr i ↦ elim (cases_lt high b) [ inl j ↦ grind (arith, nat_tests) | inr j ↦ grind (arith, nat_tests) ] ]

same_contains : (f : Family) (x b : ℕ) (e : TableEntry) → x ≤ b → b ≤ top f → list_any (is_between x b) (ends f e) ≡ false → contains (address f x) e ≡ contains (address f b) e
same_contains f x b e le few none =
    contains_in f x e ∙ (elim (family_eq (family_of e.prefix.base) f) as (λ v. list_any (is_between x b) (if v then first_of e.prefix ∷ (if nat_lt (last_of e.prefix) (top f) then (last_of e.prefix + 1) ∷ [] else []) else []) ≡ false →
    (v && (nat_le (first_of e.prefix) x && nat_le x (last_of e.prefix))) ≡ (v && (nat_le (first_of e.prefix) b && nat_le b (last_of e.prefix)))) [
      | true ↦ λ h. elim (cases_lt (last_of e.prefix) (top f)) [
        | inl i ↦ (let g = rw (lt-ltb (last_of e.prefix) (top f) i) at h in
            let p = or_parts (is_between x b (first_of e.prefix)) (is_between x b (last_of e.prefix + 1) || false) g in
            let q = or_parts (is_between x b (last_of e.prefix + 1)) false p.1 in
            same_before x b (first_of e.prefix) (last_of e.prefix) le p.0 q.0)
        | inr i ↦ (let g = rw (le-ltb (last_of e.prefix) (top f) i) at h in
            let p = or_parts (is_between x b (first_of e.prefix)) false g in
            same_within x b (first_of e.prefix) (last_of e.prefix) le p.0 (omega (arith, few, i)))
      ]
      | false ↦ λ h. refl
    ]) none ∙ sym (contains_in f b e)

-- ---- entries that contain both or neither

abbrev AreSame : Addr → Addr → List TableEntry → Type 0
AreSame a b [] = Unit {0}
AreSame a b (e ∷ es) = (contains a e ≡ contains b e) × AreSame a b es

all_same : (a b : Addr) (len : ℕ) (es : List TableEntry) → AreSame a b es → list_all (no_longer a len) es ≡ list_all (no_longer b len) es
all_same a b len [] s = refl
all_same a b len (e ∷ es) s = rw (s.0, all_same a b len es s.1) refl

any_same : (a b : Addr) (all es : List TableEntry) → AreSame a b all → AreSame a b es →
    list_any (λ e. not e.negated && contains a e && list_all (no_longer a e.prefix.len) all) es ≡ list_any (λ e. not e.negated && contains b e && list_all (no_longer b e.prefix.len) all) es
any_same a b all [] t s = refl
any_same a b all (e ∷ es) t s = rw (s.0, all_same a b e.prefix.len all t, any_same a b all es t s.1) refl

table_same : (a b : Addr) (es : List TableEntry) → AreSame a b es → in_table a es ≡ in_table b es
unfolding in_table
table_same a b es s = any_same a b es es s s

-- ---- each end is a cut

none_put : (test : ℕ → Bool) (n : ℕ) (ms : List ℕ) → list_any test (put_number ms n) ≡ false → (test n ≡ false) × (list_any test ms ≡ false)
none_put test n [] h = ((or_parts (test n) false h).0, refl)
none_put test n (m ∷ ms) h = elim (cases_order n m) [
  | inl e ↦ (let a : nat_lt n m ≡ false = le-ltb n m (omega (arith, e)) in
      let b : nat_lt m n ≡ false = le-ltb m n (omega (arith, e)) in
      let g = rw (a, b) at h in (ap test e ∙ (or_parts (test m) (list_any test ms) g).0, g))
  | inr l ↦ elim l [
    | inl i ↦ (let a : nat_lt n m ≡ true = lt-ltb n m i in
        let g = rw a at h in or_parts (test n) (list_any test (m ∷ ms)) g)
    | inr i ↦ (let a : nat_lt n m ≡ false = le-ltb n m (omega (arith, i)) in
        let b : nat_lt m n ≡ true = lt-ltb m n i in
        let g = rw (a, b) at h in
        let p = or_parts (test m) (list_any test (put_number ms n)) g in
        let q = none_put test n ms p.1 in
        (q.0, or_from (test m) (list_any test ms) p.0 q.1))
  ]
]

none_folded : (test : ℕ → Bool) (ms ns : List ℕ) → list_any test (fold put_number ms ns) ≡ false → (list_any test ns ≡ false) × (list_any test ms ≡ false)
none_folded test ms [] h = (refl, h)
none_folded test ms (n ∷ ns) h =
    let p = none_folded test (put_number ms n) ns h in
    let q = none_put test n ms p.1 in
    (or_from (test n) (list_any test ns) q.0 p.0, q.1)

entries_same : (f : Family) (x b : ℕ) (es : List TableEntry) → x ≤ b → b ≤ top f → list_any (is_between x b) (flat_map (ends f) es) ≡ false → AreSame (address f x) (address f b) es
entries_same f x b [] le few h = tt
entries_same f x b (e ∷ es) le few h =
    let p = or_parts (list_any (is_between x b) (ends f e)) (list_any (is_between x b) (flat_map (ends f) es)) (sym (list_any-append (is_between x b) (ends f e) (flat_map (ends f) es)) ∙ h) in
    (same_contains f x b e le few p.0, entries_same f x b es le few p.1)

steady : (f : Family) (es : List TableEntry) (x b : ℕ) → x ≤ b → b ≤ top f → list_any (is_between x b) (cuts f es) ≡ false → in_table (address f x) es ≡ in_table (address f b) es
unfolding cuts
steady f es x b le few h = table_same (address f x) (address f b) es (entries_same f x b es le few (none_folded (is_between x b) (0 ∷ []) (flat_map (ends f) es) h).0)

-- ---- the cuts rise

abbrev Rising : List ℕ → Type 0
Rising [] = Unit {0}
Rising (n ∷ ns) = (list_all (nat_lt n) ns ≡ true) × Rising ns

all_above : (n m : ℕ) (ms : List ℕ) → n < m → list_all (nat_lt m) ms ≡ true → list_all (nat_lt n) ms ≡ true
all_above n m [] h a = refl
all_above n m (k ∷ ks) h a =
    let p = and_parts (nat_lt m k) (list_all (nat_lt m) ks) a in
    let lt : m < k = ltb-true m k p.0 in
    and_from (nat_lt n k) (list_all (nat_lt n) ks) (lt-ltb n k (omega (arith, lt, h))) (all_above n m ks h p.1)

all_put : (test : ℕ → Bool) (n : ℕ) (ms : List ℕ) → test n ≡ true → list_all test ms ≡ true → list_all test (put_number ms n) ≡ true
all_put test n [] t a = rw t refl
all_put test n (m ∷ ms) t a =
    let p = and_parts (test m) (list_all test ms) a in
    elim (nat_lt n m) as (λ v. list_all test (if v then n ∷ m ∷ ms else (if nat_lt m n then m ∷ put_number ms n else m ∷ ms)) ≡ true) [
      | true ↦ and_from (test n) (list_all test (m ∷ ms)) t a
      | false ↦ elim (nat_lt m n) as (λ v. list_all test (if v then m ∷ put_number ms n else m ∷ ms) ≡ true) [
        | true ↦ and_from (test m) (list_all test (put_number ms n)) p.0 (all_put test n ms t p.1)
        | false ↦ a
      ]
    ]

rising_put : (n : ℕ) (ms : List ℕ) → Rising ms → Rising (put_number ms n)
rising_put n [] r = (refl, tt)
rising_put n (m ∷ ms) r = elim (cases_lt n m) [
  | inl i ↦ rw (lt-ltb n m i) ((and_from (nat_lt n m) (list_all (nat_lt n) ms) (lt-ltb n m i) (all_above n m ms i r.0), r))
  | inr i ↦ rw (le-ltb n m i) (elim (cases_lt m n) [
    | inl j ↦ rw (lt-ltb m n j) ((all_put (nat_lt m) n ms (lt-ltb m n j) r.0, rising_put n ms r.1))
    | inr j ↦ rw (le-ltb m n j) r
  ])
]

rising_folded : (ms ns : List ℕ) → Rising ms → Rising (fold put_number ms ns)
rising_folded ms [] r = r
rising_folded ms (n ∷ ns) r = rising_folded (put_number ms n) ns (rising_put n ms r)

-- ---- the first cut is 0

abbrev IsFirst : List ℕ → Type 0
IsFirst [] = ⊥
IsFirst (n ∷ ns) = n ≡ 0

first_put : (n : ℕ) (ms : List ℕ) → IsFirst ms → IsFirst (put_number ms n)
first_put n [] h = absurd h
first_put n (m ∷ ms) h =
    rw (le-ltb n m (omega (arith, h))) (elim (nat_lt m n) as (λ v. IsFirst (if v then m ∷ put_number ms n else m ∷ ms)) [ true ↦ h | false ↦ h ])

first_folded : (ms ns : List ℕ) → IsFirst ms → IsFirst (fold put_number ms ns)
first_folded ms [] h = h
first_folded ms (n ∷ ns) h = first_folded (put_number ms n) ns (first_put n ms h)

-- ---- intervals between cuts

-- nothing that begins past a number holds it
none_before : (test : ℕ → Bool) (end a m : ℕ) (ms : List ℕ) → Rising (m ∷ ms) → a < m → list_any (is_within a) (spans test end (m ∷ ms)) ≡ false
none_before test end a m [] r h = elim (test m) as (λ v. list_any (is_within a) (span v m end) ≡ false) [ true ↦ grind (arith, nat_tests) | false ↦ refl ]
none_before test end a m (k ∷ ks) r h =
    let p = and_parts (nat_lt m k) (list_all (nat_lt m) ks) r.0 in
    let lt : m < k = ltb-true m k p.0 in
    let more : list_any (is_within a) (spans test end (k ∷ ks)) ≡ false = none_before test end a k ks r.1 (omega (arith, h, lt)) in
    elim (test m) as (λ v. list_any (is_within a) (span v m (k - 1) ++ spans test end (k ∷ ks)) ≡ false) [ true ↦ rw more (grind (arith, nat_tests)) | false ↦ more ]

none_between : (x b m : ℕ) (ms : List ℕ) → Rising (m ∷ ms) → b < m → list_any (is_between x b) (m ∷ ms) ≡ false
none_between x b m [] r h = grind (arith, nat_tests)
none_between x b m (k ∷ ks) r h =
    let p = and_parts (nat_lt m k) (list_all (nat_lt m) ks) r.0 in
    let lt : m < k = ltb-true m k p.0 in
    let more : list_any (is_between x b) (k ∷ ks) ≡ false = none_between x b k ks r.1 (omega (arith, h, lt)) in
    let first : is_between x b m ≡ false = grind (arith, nat_tests) in
    or_from (is_between x b m) (list_any (is_between x b) (k ∷ ks)) first more

-- the test answers alike from n on where no cut is between
abbrev IsSteady : (ℕ → Bool) → ℕ → ℕ → List ℕ → Type 0
IsSteady test end n ns = (x b : ℕ) → n ≤ x → x ≤ b → b ≤ end → list_any (is_between x b) ns ≡ false → test x ≡ test b

steady_later : (test : ℕ → Bool) (end n m : ℕ) (ms : List ℕ) → n < m → IsSteady test end n (m ∷ ms) → IsSteady test end m ms
steady_later test end n m ms lt s x b from le few none =
    let first : is_between x b m ≡ false = grind (arith, nat_tests) in
    s x b (omega (arith, from, lt)) le few (or_from (is_between x b m) (list_any (is_between x b) ms) first none)

spans_hold : (test : ℕ → Bool) (end a n : ℕ) (ns : List ℕ) → Rising (n ∷ ns) → n ≤ a → a ≤ end → IsSteady test end n ns →
    list_any (is_within a) (spans test end (n ∷ ns)) ≡ test a
spans_hold test end a n [] r le few s =
    (elim (test n) as (λ v. list_any (is_within a) (span v n end) ≡ v) [ true ↦ grind (arith, nat_tests) | false ↦ refl ]) ∙ s n a (omega arith) le few refl
spans_hold test end a n (m ∷ ms) r le few s =
    let lt : n < m = ltb-true n m (and_parts (nat_lt n m) (list_all (nat_lt n) ms) r.0).0 in
    elim (cases_lt a m) [
      | inl i ↦ (let more : list_any (is_within a) (spans test end (m ∷ ms)) ≡ false = none_before test end a m ms r.1 i in
          (elim (test n) as (λ v. list_any (is_within a) (span v n (m - 1) ++ spans test end (m ∷ ms)) ≡ v) [ true ↦ rw more (grind (arith, nat_tests)) | false ↦ more ])
          ∙ s n a (omega arith) le few (none_between n a m ms r.1 i))
      | inr i ↦ (let more : list_any (is_within a) (spans test end (m ∷ ms)) ≡ test a = spans_hold test end a m ms r.1 i few (steady_later test end n m ms lt s) in
          (elim (test n) as (λ v. list_any (is_within a) (span v n (m - 1) ++ spans test end (m ∷ ms)) ≡ test a) [ true ↦ rw more (let first : (nat_le n a && nat_le a (m - 1)) ≡ false = grind (arith, nat_tests) in rw first refl) | false ↦ more ]))
    ]

all_hold : (test : ℕ → Bool) (end a : ℕ) (ns : List ℕ) → Rising ns → IsFirst ns → a ≤ end → ((x b : ℕ) → x ≤ b → b ≤ end → list_any (is_between x b) ns ≡ false → test x ≡ test b) →
    list_any (is_within a) (spans test end ns) ≡ test a
all_hold test end a [] r first few s = absurd first
all_hold test end a (n ∷ ns) r first few s =
    spans_hold test end a n ns r (omega (arith, first)) few (λ x b from le less none.
    let here : is_between x b n ≡ false = grind (arith, nat_tests) in
    s x b le less (or_from (is_between x b n) (list_any (is_between x b) ns) here none))

-- the intervals hold the addresses that the table holds
pub elements_hold : (f : Family) (a : ℕ) (es : List TableEntry) → a ≤ top f → list_any (is_within a) (elements f es) ≡ in_table (address f a) es
unfolding elements cuts
elements_hold f a es few =
    all_hold (λ n. in_table (address f n) es) (top f) a (cuts f es) (rising_folded (0 ∷ []) (flat_map (ends f) es) ((refl, tt))) (first_folded (0 ∷ []) (flat_map (ends f) es) refl) few (λ x b le less none. steady f es x b le less none)
