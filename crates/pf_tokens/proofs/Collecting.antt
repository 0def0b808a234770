-- The text of the items of a macro statement.
use Rattle.std.proofs.Common.{◌≡◌, ℕ, ◌<◌, ◌≤◌, ◌||◌, Bool, true, false, List, [], ◌∷◌, length, Option, Some, None, refl, sym, ap, ◌∙◌, arith, length-append}
use Rattle.std.specs.Prelude.{nat_lt}
use Rattle.std.proofs.lemmas.Bool.Decides.{nat_tests}
use Rattle.pf_tokens.specs.Tokens.{Token, first}
use Rattle.pf_tokens.specs.Macros.{Definition}
use Rattle.pf_tokens.specs.Defining.{item_of, with_item, joined_items, text_len, is_too_long}
use Rattle.pf_tokens.specs.inner.Defining.{begun_text, len_with}

-- an item makes the text no shorter
longer : (begun item : Option (List ℕ)) → text_len begun ≤ text_len (with_item begun item)
longer begun None = omega arith
longer None (Some item) = omega arith
longer (Some text) (Some item) = omega (arith, length-append text (32 ∷ item))

no_shorter : (ds : List Definition) (begun : Option (List ℕ)) (ts : List Token) → text_len begun ≤ text_len (joined_items ds begun ts)
no_shorter ds begun [] = omega arith
no_shorter ds begun (t ∷ ts) = omega (arith, longer begun (item_of ds t), no_shorter ds (with_item begun (item_of ds t)) ts)

too_long : (n : ℕ) → 4096 < n → nat_lt 4096 n ≡ true
too_long n h = grind (arith, nat_tests, h)

len_is : (some : Bool) (text item : List ℕ) → (some ≡ false → text ≡ []) → text_len (with_item (begun_text some text) (Some item)) ≡ len_with some (length text) (length item)
len_is true text item empty = omega (arith, length-append text (32 ∷ item))
len_is false text item empty = omega (arith, ap (λ (bytes : List ℕ). length bytes) (empty refl))

-- a source that is too long with the next item is too long in all
pub too_long_there : (ds : List Definition) (some : Bool) (text item : List ℕ) (ts : List Token) (t : Token) (total : Option (List ℕ)) (b : Bool) → joined_items ds (begun_text some text) ts ≡ total → Some t ≡ first ts → Some item ≡ item_of ds t
    → (some ≡ false → text ≡ []) → 4096 < len_with some (length text) (length item) → (b || is_too_long total) ≡ true
too_long_there ds some text item [] t total b e is_first is_item empty over = absurd cc
too_long_there ds some text item (u ∷ ts) t total b e is_first is_item empty over =
    let same : t ≡ u = cc in
    let there : item_of ds u ≡ Some item = sym (is_item ∙ ap (item_of ds) same) in
    let all : joined_items ds (with_item (begun_text some text) (Some item)) ts ≡ total = ap (λ (o : Option (List ℕ)). joined_items ds (with_item (begun_text some text) o) ts) (sym there) ∙ e in
    let long : is_too_long total ≡ true = too_long (text_len total) (omega (arith, over, len_is some text item empty, no_shorter ds (with_item (begun_text some text) (Some item)) ts, ap text_len all)) in
    rw long (either b)
  where
    either : (b : Bool) → (b || true) ≡ true
    either true = refl
    either false = refl
