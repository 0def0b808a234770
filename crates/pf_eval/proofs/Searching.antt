-- What a search passes over yields nothing.
use Rattle.std.proofs.Common.{◌≡◌, ℕ, zero, suc, ◌+◌, ◌<◌, ◌≤◌, length, false, List, [], ◌∷◌, drop, Option, Some, None, refl, sym, ap, ◌∙◌, arith, inl, inr, get_or}
use Rattle.std.specs.Prelude.{slice_get, if◌then◌else◌}
use Rattle.std.proofs.Math.Seq.{drop-length}
use Rattle.std.proofs.Math.ListN.{drop_of_length-le}
use Rattle.std.proofs.lemmas.Option.{slice_get-get_or}
use Rattle.std.proofs.lemmas.Bool.{and_left, cases_lt}
use Rattle.pf_rules.specs.Items.{AnyRule}
use Rattle.pf_config.specs.declared.candidate.Candidate.{Candidate}
use Rattle.pf_config.specs.declared.candidate_list.Search.{Search}
use Rattle.pf_config.specs.Map.{or_else}
use Rattle.pf_config.specs.Searches.{may_pass}
use Rattle.pf_config.specs.Searching.{PassesOver}
use Rattle.pf_eval.specs.declared.key.Key.{Key}
use Rattle.pf_eval.specs.Packets.{PacketValue}
use Rattle.pf_eval.specs.Verdicts.{Spot}
use Rattle.pf_eval.specs.inner.Sieves.{key_of, passes}
use Rattle.pf_eval.specs.inner.Searching.{IsSearchFor, Skips, NonePasses, PassesFirst}
use Rattle.pf_eval.specs.inner.TwoWalks.{first_some, some_rule, candidate_spot}

-- ---- the search

-- where an interval doesn't hold its number the sieve doesn't let the packet pass
outside : (c : Candidate) (k : Key) → may_pass k.source k.destination k.destination_port c ≡ false → passes c.sieve k ≡ false
unfolding passes
outside c k h = and_left _ _ (and_left _ _ (and_left _ _ h))

pub over_skips : (cs : List Candidate) (k : Key) (s : Search) (a b : ℕ) → IsSearchFor cs k s → PassesOver s a b → Skips cs k a b
over_skips cs k s a b is over i c low high at =
    let here = over i c low high (ap (λ l. slice_get l i) is.all ∙ at) in
    outside c k (ap (λ n. may_pass k.source k.destination n c) (sym is.destination_port) ∙ ap (λ n. may_pass k.source n s.destination_port c) (sym is.destination) ∙ ap (λ n. may_pass n s.destination s.destination_port c) (sym is.source) ∙ here)

pub skips_join : (cs : List Candidate) (k : Key) (a m b : ℕ) → Skips cs k a m → Skips cs k m b → Skips cs k a b
skips_join cs k a m b before behind i c low high at = elim (cases_lt i m) [
  | inl early ↦ before i c low early at
  | inr late ↦ behind i c late high at
]

pub skips_past : (cs : List Candidate) (k : Key) (a m : ℕ) → Skips cs k a m → ((c : Candidate) → slice_get cs m ≡ Some c → passes c.sieve k ≡ false) → Skips cs k a (m + 1)
skips_past cs k a m before here i c low high at = elim (cases_lt i m) [
  | inl early ↦ before i c low early at
  | inr late ↦ let e : i ≡ m = omega (arith, late, high) in here c (ap (slice_get cs) (sym e) ∙ at)
]

-- ---- over candidates

abbrev no_candidates : List Candidate
no_candidates = []

dropped_none : (n : ℕ) → drop n no_candidates ≡ no_candidates
dropped_none n = drop_of_length-le no_candidates (omega arith)

abbrev IsNothing : (Candidate → Option Spot) → List Candidate → (a b : ℕ) → Type 0
IsNothing g cs a b = (i : ℕ) → (c : Candidate) → a ≤ i → i < b → slice_get cs i ≡ Some c → g c ≡ None

pub nothing_skipped : (g : Candidate → Option Spot) (cs : List Candidate) (a b : ℕ) → a ≤ b → IsNothing g cs a b → first_some g (drop a cs) ≡ first_some g (drop b cs)
nothing_skipped g [] a b h none = ap (first_some g) (dropped_none a ∙ sym (dropped_none b))
nothing_skipped g (c ∷ cs) zero zero h none = refl
nothing_skipped g (c ∷ cs) zero (suc b) h none =
    ap (λ o. or_else o (first_some g cs)) (none 0 c (omega arith) (omega arith) refl) ∙ nothing_skipped g cs zero b (omega arith) (λ i x low high at. none (suc i) x (omega arith) (omega (arith, high)) at)
nothing_skipped g (c ∷ cs) (suc a) zero h none = absurd (omega (arith, h))
nothing_skipped g (c ∷ cs) (suc a) (suc b) h none = nothing_skipped g cs a b (omega (arith, h)) (λ i x low high at. none (suc i) x (omega (arith, low)) (omega (arith, high)) at)

same : (x c : Candidate) → Some x ≡ Some c → x ≡ c
same x c h = cc

next : (n : ℕ) → suc n ≡ n + 1
next n = omega arith

at_place : (cs : List Candidate) (i : ℕ) (c : Candidate) → slice_get cs i ≡ Some c → drop i cs ≡ c ∷ drop (suc i) cs
at_place [] i c h = cc
at_place (x ∷ cs) zero c h = ap (λ y. y ∷ cs) (same x c h)
at_place (x ∷ cs) (suc i) c h = at_place cs i c h

-- a candidate that doesn't pass yields nothing
quiet : (f : ℕ → AnyRule → Option Spot) (rules : List AnyRule) (k : PacketValue) (c : Candidate) → passes c.sieve (key_of k) ≡ false → candidate_spot f rules k c ≡ None
quiet f rules k c h = ap (λ b. if b then some_rule (f c.index) (slice_get rules c.index) else None) h

-- what is left once a run of candidates is skipped
pub rest_skipped : (f : ℕ → AnyRule → Option Spot) (rules : List AnyRule) (k : PacketValue) (key : Key) (cs : List Candidate) (a b : ℕ) → key ≡ key_of k → a ≤ b → Skips cs key a b →
    first_some (candidate_spot f rules k) (drop a cs) ≡ first_some (candidate_spot f rules k) (drop b cs)
rest_skipped f rules k key cs a b is h skips = nothing_skipped (candidate_spot f rules k) cs a b h (λ i c low high at. quiet f rules k c (ap (passes c.sieve) (sym is) ∙ skips i c low high at))

-- where none passes nothing is left
pub none_left : (f : ℕ → AnyRule → Option Spot) (rules : List AnyRule) (k : PacketValue) (key : Key) (cs : List Candidate) (a : ℕ) → key ≡ key_of k → a ≤ length cs → NonePasses cs key a →
    first_some (candidate_spot f rules k) (drop a cs) ≡ None
none_left f rules k key cs a is h none = rest_skipped f rules k key cs a (length cs) is h none ∙ ap (first_some (candidate_spot f rules k)) (drop-length cs)

-- at the first one that passes its rule is asked, then those behind it
pub rest_at : (f : ℕ → AnyRule → Option Spot) (rules : List AnyRule) (k : PacketValue) (key : Key) (cs : List Candidate) (a at : ℕ) (c : Candidate) → key ≡ key_of k → PassesFirst cs key a at → slice_get cs at ≡ Some c →
    first_some (candidate_spot f rules k) (drop a cs) ≡ or_else (some_rule (f c.index) (slice_get rules c.index)) (first_some (candidate_spot f rules k) (drop (at + 1) cs))
rest_at f rules k key cs a at c is first got =
    let g = candidate_spot f rules k in
    let here : g c ≡ some_rule (f c.index) (slice_get rules c.index) = ap (λ b. if b then some_rule (f c.index) (slice_get rules c.index) else None) (ap (passes c.sieve) (sym is) ∙ first.3 c got) in
    rest_skipped f rules k key cs a at is first.0 first.2 ∙ ap (first_some g) (at_place cs at c got) ∙ ap (λ o. or_else o (first_some g (drop (suc at) cs))) here ∙ ap (λ n. or_else (some_rule (f c.index) (slice_get rules c.index)) (first_some g (drop n cs))) (next at)

-- ---- the walk over them

-- what its rule gives is what all give
pub found_there : (f : ℕ → AnyRule → Option Spot) (rules : List AnyRule) (k : PacketValue) (key : Key) (cs : List Candidate) (a at : ℕ) (d : Candidate) (s : Spot) (whole : Option Spot) → key ≡ key_of k → PassesFirst cs key a at →
    first_some (candidate_spot f rules k) (drop a cs) ≡ whole → Some s ≡ some_rule (f (get_or cs at d).index) (slice_get rules (get_or cs at d).index) → Some s ≡ whole
found_there f rules k key cs a at d s whole is first rest e =
    ap (λ o. or_else o (first_some (candidate_spot f rules k) (drop (at + 1) cs))) e ∙ sym (rest_at f rules k key cs a at (get_or cs at d) is first (slice_get-get_or cs at d first.1)) ∙ rest

-- where it yields nothing those behind it are left
pub not_there : (f : ℕ → AnyRule → Option Spot) (rules : List AnyRule) (k : PacketValue) (key : Key) (cs : List Candidate) (a at : ℕ) (d : Candidate) (whole : Option Spot) → key ≡ key_of k → PassesFirst cs key a at →
    first_some (candidate_spot f rules k) (drop a cs) ≡ whole → None ≡ some_rule (f (get_or cs at d).index) (slice_get rules (get_or cs at d).index) → first_some (candidate_spot f rules k) (drop (at + 1) cs) ≡ whole
not_there f rules k key cs a at d whole is first rest e =
    ap (λ o. or_else o (first_some (candidate_spot f rules k) (drop (at + 1) cs))) e ∙ sym (rest_at f rules k key cs a at (get_or cs at d) is first (slice_get-get_or cs at d first.1)) ∙ rest
