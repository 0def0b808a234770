-- Requests that had their exchanges, one after the other.
use Rattle.std.proofs.Common.{◌≡◌, ℕ, ◌+◌, ◌≤◌, Bool, List, [], ◌∷◌, ◌++◌, Option, refl, ap, inl, inr, arith}
use Rattle.std.specs.Prelude.{◌⊎◌}
use Rattle.std.proofs.lemmas.List.Elements.{All-push}
use Rattle.cli_ask.specs.Asking.{Answered, Event, Asked, Looked, Directed, asked_count, Adds}
use Rattle.cli_ask.specs.Calls.{Request}
use Rattle.cli_ask.specs.Exchanges.{AreExchanged, HasExchange, IsExchanged}

count_more : (es : List Event) (limit : ℕ) (r : Request) (a : Answered) → asked_count (es ++ Asked limit r a ∷ []) ≡ asked_count es + 1
count_more [] limit r a = refl
count_more (Asked l q b ∷ es) limit r a = ap (λ (n : ℕ). n + 1) (count_more es limit r a)
count_more (Looked l b ∷ es) limit r a = count_more es limit r a
count_more (Directed p ∷ es) limit r a = count_more es limit r a

count_same : (es : List Event) (limit : ℕ) (over : Bool) → asked_count (es ++ Looked limit over ∷ []) ≡ asked_count es
count_same [] limit over = refl
count_same (Asked l q b ∷ es) limit over = ap (λ (n : ℕ). n + 1) (count_same es limit over)
count_same (Looked l b ∷ es) limit over = count_same es limit over
count_same (Directed p ∷ es) limit over = count_same es limit over

module _ {D S : Type 0} (dialed : D → ℕ → Type 0) (is_refused : D → Type 0) (is_new : S → Type 0) (contents remaining : S → Option (List ℕ))
    (old new : D) where
  -- a request was made, over one connection at most
  pub exchanged_once : (limit : ℕ) (r : Request) (a : Answered) → ((n : ℕ) → dialed old n → dialed new n ⊎ dialed new (n + 1)) →
      HasExchange is_refused is_new contents remaining r a →
      Adds (AreExchanged dialed is_refused is_new contents remaining old) (AreExchanged dialed is_refused is_new contents remaining new) (Asked limit r a ∷ [])
  exchanged_once limit r a once has = λ es so.
      let e : asked_count (es ++ Asked limit r a ∷ []) ≡ asked_count es + 1 = count_more es limit r a in
      let l : so.count ≤ asked_count es = so.few in
      let each = All-push (IsExchanged is_refused is_new contents remaining) es (Asked limit r a) so.each has in
      elim (once so.count so.counted) [
        | inl k ↦ record { count = so.count; counted = k; few = omega (arith, e, l); each = each }
        | inr k ↦ record { count = so.count + 1; counted = k; few = omega (arith, e, l); each = each }
      ]

  -- the clock was read
  pub exchanged_never : (limit : ℕ) (over : Bool) →
      Adds (AreExchanged dialed is_refused is_new contents remaining old) (AreExchanged dialed is_refused is_new contents remaining old) (Looked limit over ∷ [])
  exchanged_never limit over = λ es so.
      let e : asked_count (es ++ Looked limit over ∷ []) ≡ asked_count es = count_same es limit over in
      let l : so.count ≤ asked_count es = so.few in
      record {
        count = so.count;
        counted = so.counted;
        few = omega (arith, e, l);
        each = All-push (IsExchanged is_refused is_new contents remaining) es (Looked limit over) so.each tt;
      }
