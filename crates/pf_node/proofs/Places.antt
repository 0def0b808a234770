-- Where a request was learned.
use Rattle.std.proofs.Common.{◌≡◌, ℕ, zero, suc, ◌+◌, ◌*◌, ◌<◌, ◌≤◌, ◌⊎◌, inl, inr, List, [], ◌∷◌, ◌++◌, length, true, false, Bool, Option, Some, None, ap, sym, ◌∙◌, refl, arith, subst, length-append}
use Rattle.std.specs.Prelude.{◌==◌, ◌&&◌, slice_index}
use Rattle.std.proofs.lemmas.Bool.{cases_lt, cases_eq, ne_eqb, eqb-true}
use Rattle.std.proofs.lemmas.List.{get_or_append_left}
use Rattle.std.proofs.Math.Seq.{get_or-append_seam}
use Rattle.px_model.specs.Node.{Entry, Log}
use Rattle.px_model.specs.Step.{front}
use Rattle.px_model.specs.Spelling.{Bytes}
use Rattle.pf_node.specs.Requests.{is_request, place_below}
use Rattle.pf_node.specs.inner.Requests.{AreWithin, AreBounds}

pub request_some : (o : Option (Entry Bytes)) (e : Entry Bytes) (origin number : ℕ) → Some e ≡ o →
    ((e.origin == origin) && (e.number == number)) ≡ is_request origin number o
request_some o e origin number is = ap (is_request origin number) is

pub request_none : (o : Option (Entry Bytes)) (origin number : ℕ) → None ≡ o → false ≡ is_request origin number o
request_none o origin number is = ap (is_request origin number) is

some_is : {A : Type 0} {x y : A} → Some x ≡ Some y → x ≡ y
some_is e = cc

and_false : (b : Bool) → (b && false) ≡ false
and_false true = refl
and_false false = refl

last_index : (bounds : List ℕ) (n i : ℕ) → i < length (bounds ++ (n ∷ [])) → length bounds ≤ i → i ≡ length bounds
last_index bounds n i in_range high = let l : length (bounds ++ (n ∷ [])) ≡ length bounds + 1 = length-append bounds (n ∷ []) in omega (arith, in_range, high, l)

-- ---- bounds

-- one position more, and a bound that isn't lower
pub within_next : (log : Log Bytes) (origin k n m : ℕ) (e : Entry Bytes) → AreWithin log origin k n → n ≤ m →
    log k ≡ Some e → (e.origin ≡ origin → e.number ≤ m) → AreWithin log origin (k + 1) m
within_next log origin k n m e was more is here p under x same own = elim (cases_lt p k) [
  | inl low ↦ (let h : x.number ≤ n = was p low x same own in omega (arith, h, more))
  | inr high ↦
      (let at : p ≡ k = omega (arith, under, high) in
      let one : Some x ≡ Some e = sym same ∙ ap log at ∙ is in
      let e_is : x ≡ e = some_is one in
      let h : e.number ≤ m = here (sym (ap (λ (y : Entry Bytes). y.origin) e_is) ∙ own) in
      let j : x.number ≡ e.number = ap (λ (y : Entry Bytes). y.number) e_is in
      omega (arith, h, j))
]

-- fewer positions
pub within_fewer : (log : Log Bytes) (origin k j n : ℕ) → j ≤ k → AreWithin log origin k n → AreWithin log origin j n
within_fewer log origin k j n fewer was p under x same own = was p (omega (arith, under, fewer)) x same own

-- a log that is the same below k
pub within_same : (log more : Log Bytes) (origin k n : ℕ) → ((p : ℕ) → p < k → more p ≡ log p) →
    AreWithin log origin k n → AreWithin more origin k n
within_same log more origin k n h was p under x same own = was p under x (sym (h p under) ∙ same) own

-- ---- the bounds of stretches

more_bounds : (log : Log Bytes) (origin k n : ℕ) (bounds : List ℕ) → AreBounds log origin bounds → AreWithin log origin k n →
    256 * (length bounds + 1) ≤ k → AreBounds log origin (bounds ++ (n ∷ []))
more_bounds log origin k n bounds h w under i in_range = elim (cases_lt i (length bounds)) [
  | inl low ↦ (let is : slice_index (bounds ++ (n ∷ [])) i ≡ slice_index bounds i = get_or_append_left bounds (n ∷ []) 0 i low in
      subst (AreWithin log origin (256 * (i + 1))) (sym is) (h i low))
  | inr high ↦
      (let at : i ≡ length bounds = last_index bounds n i in_range high in
      let is : slice_index (bounds ++ (n ∷ [])) i ≡ n = ap (slice_index (bounds ++ (n ∷ []))) at ∙ get_or-append_seam bounds n [] 0 in
      subst (AreWithin log origin (256 * (i + 1))) (sym is) (within_fewer log origin k (256 * (i + 1)) n (omega (arith, at, under)) w))
]

-- a stretch more
pub bounds_next : (log : Log Bytes) (origin k n : ℕ) (old new : List ℕ) → AreBounds log origin old → AreWithin log origin k n →
    (new ≡ old) ⊎ ((new ≡ old ++ (n ∷ [])) × (256 * (length old + 1) ≤ k)) → AreBounds log origin new
bounds_next log origin k n old new h w (inl is) = subst (AreBounds log origin) (sym is) h
bounds_next log origin k n old new h w (inr (is, under)) = subst (AreBounds log origin) (sym is) (more_bounds log origin k n old h w under)

pub stretched_next : (k n : ℕ) (old new : List ℕ) → 256 * length old ≤ k →
    (new ≡ old) ⊎ ((new ≡ old ++ (n ∷ [])) × (256 * (length old + 1) ≤ k + 1)) → 256 * length new ≤ k + 1
stretched_next k n old new was (inl is) = let l : length new ≡ length old = ap length is in omega (arith, was, l)
stretched_next k n old new was (inr (is, under)) =
    let l : length new ≡ length old + 1 = ap length is ∙ length-append old (n ∷ []) in omega (arith, under, l)

-- what holds of a log holds of one that is the same below all of them
pub bounds_same : (log more : Log Bytes) (origin k : ℕ) (bounds : List ℕ) → ((p : ℕ) → p < k → more p ≡ log p) →
    256 * length bounds ≤ k → AreBounds log origin bounds → AreBounds more origin bounds
bounds_same log more origin k bounds same under h i in_range =
    within_same log more origin (256 * (i + 1)) (slice_index bounds i) (λ p u. same p (omega (arith, u, under, in_range))) (h i in_range)

-- ---- what is sought

-- where no number reaches it, it is nowhere
not_request : (x : Option (Entry Bytes)) (origin number n : ℕ) → ((e : Entry Bytes) → x ≡ Some e → e.origin ≡ origin → e.number ≤ n) →
    n < number → is_request origin number x ≡ false
not_request None origin number n h above = refl
not_request (Some e) origin number n h above = elim (cases_eq e.origin origin) [
  | inl own ↦ (let under : e.number ≤ n = h e refl own in
      let apart : (e.number == number) ≡ false = ne_eqb e.number number (λ same. omega (arith, same, under, above)) in
      rw apart (and_false (e.origin == origin)))
  | inr other ↦ (let apart : (e.origin == origin) ≡ false = ne_eqb e.origin origin other in rw apart refl)
]

pub place_none : (log : Log Bytes) (origin k n number : ℕ) → AreWithin log origin k n → n < number →
    place_below log origin number k ≡ None
place_none log origin zero n number h above = refl
place_none log origin (suc k) n number h above =
    let here : is_request origin number (log k) ≡ false = not_request (log k) origin number n (λ e same own. h k (omega arith) e same own) above in
    rw here (place_none log origin k n number (λ p under e same own. h p (omega (arith, under)) e same own) above)

-- ---- a log that grows

pub within_kept : (log more : Log Bytes) (origin k n : ℕ) → AreWithin log origin k n → k ≤ front log →
    ((p : ℕ) → p < front log → more p ≡ log p) → AreWithin more origin k n
within_kept log more origin k n was within below =
    within_same log more origin k n (λ p under. below p (omega (arith, under, within))) was

pub bounds_kept : (log more : Log Bytes) (origin k : ℕ) (bounds : List ℕ) → AreBounds log origin bounds → 256 * length bounds ≤ k →
    k ≤ front log → ((p : ℕ) → p < front log → more p ≡ log p) → AreBounds more origin bounds
bounds_kept log more origin k bounds was under within below =
    bounds_same log more origin k bounds (λ p u. below p (omega (arith, u, within))) under was
