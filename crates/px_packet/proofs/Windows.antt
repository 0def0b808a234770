-- Counters in a window.
use Rattle.std.proofs.Common.{◌≡◌, ◌∙◌, ℕ, ◌+◌, ◌%◌, ◌<◌, ◌≤◌, ◌⊎◌, Bool, true, false, List, [], ◌∷◌, max, get_or, set, ap, sym, refl, arith, subst, inl, inr}
use Rattle.std.specs.Prelude.{◌==◌, ◌||◌, if◌then◌else◌}
use Rattle.std.proofs.lemmas.Bool.{cases_lt, cases_eq, cases_Bool, lt-ltb, le-ltb, eqb-true, eqb-false, eq-eqb, ne_eqb, and_from, and_left, and_right, or_left, or_right, or_from, not_from_true, not_from_false}
use Rattle.std.proofs.lemmas.List.{get_or_read, get_or-set_same, get_or-set_other}
use Rattle.std.proofs.lemmas.Nat.{mod_below}
use Rattle.px_packet.specs.declared.window.Window.{Window}
use Rattle.px_packet.specs.Windows.{top_of, is_among, is_fresh, accepted_with, last_of, Remembers}

last_at : (r n : ℕ) (ns : List ℕ) (b : Bool) → last_of r ns ≤ top_of ns →
    (if b then max n (last_of r ns) else last_of r ns) ≤ max n (top_of ns)
last_at r n ns true h = omega arith
last_at r n ns false h = omega arith

pub last_le : (r : ℕ) (ns : List ℕ) → last_of r ns ≤ top_of ns
last_le r [] = omega arith
last_le r (n ∷ ns) = last_at r n ns (n % 2048 == r) (last_le r ns)

-- the last of a rest is 0 or has it
rest_at : (r n l : ℕ) (b : Bool) → (n % 2048 == r) ≡ b → (l ≡ 0) ⊎ (l % 2048 ≡ r) →
    ((if b then max n l else l) ≡ 0) ⊎ ((if b then max n l else l) % 2048 ≡ r)
rest_at r n l false e h = h
rest_at r n l true e h =
    let here : n % 2048 ≡ r = eqb-true (n % 2048) r e in
    elim (cases_lt n l) [
      | inl less ↦ (let P : ℕ → Type 0 = λ x. (x ≡ 0) ⊎ (x % 2048 ≡ r) in
          let m : l ≡ max n l = omega arith in subst P m h)
      | inr more ↦ (let m : n ≡ max n l = omega arith in inr (ap (λ x. x % 2048) (sym m) ∙ here))
    ]

pub last_rest : (r : ℕ) (ns : List ℕ) → (last_of r ns ≡ 0) ⊎ (last_of r ns % 2048 ≡ r)
last_rest r [] = inl refl
last_rest r (n ∷ ns) = rest_at r n (last_of r ns) (n % 2048 == r) refl (last_rest r ns)

-- a counter that was accepted isn't above the last of its rest
among_at : (n k l : ℕ) (b c : Bool) → (k % 2048 == n % 2048) ≡ b → (k == n) ≡ c → (c ≡ false → n ≤ l) →
    n ≤ (if b then max k l else l)
among_at n k l true true e f h = let same : k ≡ n = eqb-true k n f in omega arith
among_at n k l true false e f h = let less : n ≤ l = h refl in omega arith
among_at n k l false true e f h =
    let same : k ≡ n = eqb-true k n f in
    absurd (eqb-false (k % 2048) (n % 2048) e (ap (λ x. x % 2048) same))
among_at n k l false false e f h = h refl

or_rest : (b c : Bool) → (b || c) ≡ true → b ≡ false → c ≡ true
or_rest true c h e = absurd cc
or_rest false c h e = h

pub among_le : (n : ℕ) (ns : List ℕ) → is_among n ns ≡ true → n ≤ last_of (n % 2048) ns
among_le n [] h = absurd cc
among_le n (k ∷ ns) h =
    among_at n k (last_of (n % 2048) ns) (k % 2048 == n % 2048) (k == n) refl refl
    (λ e. among_le n ns (or_rest (k == n) (is_among n ns) h e))

-- the last of a rest was accepted, if it isn't 0
last_among_at : (r k n : ℕ) (ns : List ℕ) (b : Bool) → (last_of r ns ≡ n → is_among n ns ≡ true) →
    (if b then max k (last_of r ns) else last_of r ns) ≡ n → ((k == n) || is_among n ns) ≡ true
last_among_at r k n ns false later e = or_right (k == n) (is_among n ns) (later e)
last_among_at r k n ns true later e = elim (cases_lt k (last_of r ns)) [
  | inl less ↦ or_right (k == n) (is_among n ns) (later (omega (arith, e, less)))
  | inr more ↦ or_left (k == n) (is_among n ns) (eq-eqb k n (omega (arith, e, more)))
]

pub last_among : (r n : ℕ) (ns : List ℕ) → 0 < n → last_of r ns ≡ n → is_among n ns ≡ true
last_among r n [] some e = absurd (omega (arith, e, some))
last_among r n (k ∷ ns) some e = last_among_at r k n ns (k % 2048 == r) (last_among r n ns some) e

-- ---- what is fresh

pub repeated : (ns : List ℕ) (n : ℕ) → n ≤ last_of (n % 2048) ns → is_fresh ns n ≡ false
repeated ns n h =
    let r = n % 2048 in
    let l = last_of r ns in
    let below : l ≤ top_of ns = last_le r ns in
    elim (cases_eq n 0) [
      | inl z ↦ and_left _ _ (le-ltb 0 n (omega (arith, z)))
      | inr some ↦ and_right _ _ (or_from _ _ (le-ltb (top_of ns) n (omega (arith, h, below)))
          (elim (cases_lt (top_of ns) (n + 2048)) [
            | inl inside ↦ (let rest : l % 2048 ≡ n % 2048 = elim (last_rest r ns) [
              | inl z ↦ absurd (some (omega (arith, z, h)))
              | inr e ↦ e
            ] in
                let same : l ≡ n = omega (arith, rest, h, below, inside) in
                and_right _ _ (not_from_true _ (last_among r n ns (omega (arith, some)) same)))
            | inr behind ↦ and_left _ _ (le-ltb (top_of ns) (n + 2048) behind)
          ]))
    ]

pub behind : (ns : List ℕ) (n : ℕ) → n + 2048 ≤ top_of ns → is_fresh ns n ≡ false
behind ns n h =
    and_right _ _ (or_from _ _ (le-ltb (top_of ns) n (omega (arith, h))) (and_left _ _ (le-ltb (top_of ns) (n + 2048) h)))

pub fresh : (ns : List ℕ) (n : ℕ) → last_of (n % 2048) ns < n → top_of ns < n + 2048 → is_fresh ns n ≡ true
fresh ns n h inside =
    and_from _ _ (lt-ltb 0 n (omega (arith, h))) (or_right _ _ (and_from _ _ (lt-ltb (top_of ns) (n + 2048) inside)
    (elim (cases_Bool (is_among n ns)) [
      | inl among ↦ absurd (omega (arith, h, among_le n ns among))
      | inr not_yet ↦ not_from_false _ not_yet
    ])))

-- a fresh counter was not accepted
pub fresh_is_new : (ns : List ℕ) (n : ℕ) → is_fresh ns n ≡ true → is_among n ns ≡ false
fresh_is_new ns n h = elim (cases_Bool (is_among n ns)) [
  | inl among ↦ absurd (no_both (is_fresh ns n) h (repeated ns n (among_le n ns among)))
  | inr not_yet ↦ not_yet
]
  where
    no_both : (b : Bool) → b ≡ true → b ≡ false → ⊥
    no_both true p q = absurd cc
    no_both false p q = absurd cc

-- ---- what a window remembers

with_at : (ns : List ℕ) (n : ℕ) (b : Bool) (w : Window) → is_fresh ns n ≡ b → Remembers (if b then n ∷ ns else ns) w →
    Remembers (accepted_with ns n) w
with_at ns n b w e h = let P : Bool → Type 0 = λ c. Remembers (if c then n ∷ ns else ns) w in subst P (sym e) h

pub kept : (ns : List ℕ) (n : ℕ) (w : Window) → is_fresh ns n ≡ false → Remembers ns w → Remembers (accepted_with ns n) w
kept ns n w e h = with_at ns n false w e h

-- the last of each rest with one counter more, which is above the last of its own
pub last_more : (n r : ℕ) (ns : List ℕ) → last_of (n % 2048) ns < n →
    last_of r (n ∷ ns) ≡ (if n % 2048 == r then n else last_of r ns)
last_more n r ns h = elim (cases_Bool (n % 2048 == r)) [
  | inl e ↦ (let same : n % 2048 ≡ r = eqb-true _ _ e in
      let less : last_of r ns < n = (let P : ℕ → Type 0 = λ k. last_of k ns < n in subst P same h) in
      let m : max n (last_of r ns) ≡ n = omega arith in
      rw e m)
  | inr e ↦ rw e refl
]

pub set_last : (ns : List ℕ) (n slot : ℕ) (w v : Window) → slot ≡ n % 2048 → last_of (n % 2048) ns < n →
    top_of ns < n + 2048 → v.top ≡ max w.top n → v.last.items ≡ set w.last.items slot n → Remembers ns w →
    Remembers (accepted_with ns n) v
set_last ns n slot w v at less inside t l h = with_at ns n true v (fresh ns n less inside) (record {
  top_is = t ∙ (let e : max w.top n ≡ max n (top_of ns) = omega (arith, h.top_is) in e);
  last_is = λ r k.
      let there : get_or (set w.last.items slot n) r 0 ≡ last_of r (n ∷ ns) = elim (cases_eq r slot) [
        | inl e ↦ (let same : (n % 2048 == r) ≡ true = eq-eqb _ _ (sym at ∙ sym e) in
            let here : get_or (set w.last.items slot n) r 0 ≡ n =
            ap (λ j. get_or (set w.last.items slot n) j 0) e
            ∙ get_or-set_same w.last.items slot n 0 (omega (arith, w.size, e, k)) in
            here ∙ sym (last_more n r ns less ∙ ap (λ b. if b then n else last_of r ns) same))
        | inr d ↦ (let other : (n % 2048 == r) ≡ false = ne_eqb _ _ (λ e. d (sym (at ∙ e))) in
            get_or-set_other w.last.items slot r n 0 d ∙ h.last_is r k
            ∙ sym (last_more n r ns less ∙ ap (λ b. if b then n else last_of r ns) other))
      ] in
      ap (λ xs. get_or xs r 0) l ∙ there;
})

-- what is read of a window
pub read_last : (ns : List ℕ) (w : Window) (n x : ℕ) → x ≡ get_or w.last.items (n % 2048) x → Remembers ns w →
    x ≡ last_of (n % 2048) ns
read_last ns w n x read h =
    let r = n % 2048 in
    let l : r < 2048 = mod_below n 2048 (omega arith) in
    get_or_read w.last.items r x (omega (arith, w.size, l)) read 0 ∙ h.last_is r l

-- nothing was accepted
pub none : (w : Window) → w.top ≡ 0 → ((r : ℕ) → r < 2048 → get_or w.last.items r 0 ≡ 0) → Remembers [] w
none w t z = record { top_is = t; last_is = z }
