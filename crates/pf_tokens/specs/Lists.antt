-- Lists in braces, of elements of any kind.
use Rattle.std.specs.Prelude.{ℕ, zero, suc, ◌+◌, ◌-◌, ◌==◌, Bool, true, false, List, [], ◌∷◌, drop}
use Rattle.std.specs.Prelude.{length, Some, None, max, if◌then◌else◌}
use Rattle.pf_tokens.specs.declared.symbol.Symbol.TheVariants.{Comma, Open, Close}
use Rattle.pf_tokens.specs.declared.lists.Listed.{Listed}
use Rattle.pf_tokens.specs.Tokens.{Token}
use Rattle.pf_tokens.specs.Productions.{Read, ◌>>=◌, begins_symbol, list_opened}

-- the elements of a list, with those of the lists in it, and how many lists are in one another at the deepest
pub record Elements (X : Type 0) : Type 0 where
  pub items : List X
  pub deepest : ℕ

-- the elements and the deepest nesting that a list in code stands for
abbrev pub elements_of : {X : Type 0} → Listed X → Elements X
elements_of l = record { items = l.items.items; deepest = l.deepest }

-- an element in front of those that were read behind it
abbrev pub put : {X : Type 0} → X → Elements X × List Token → Read (Elements X)
put x more = Some (record { items = x ∷ more.0.items; deepest = more.0.deepest }, more.1)

-- The elements up to the brace that closes the list, with those of the lists in it; that many lists are open
-- here, that many were at the deepest, and an element has to come next where none has come since the last brace or
-- comma. No more than n steps are made, of which each takes a token.
unfoldable pub elements : {X : Type 0} → (List Token → Read X) → ℕ → ℕ → ℕ → Bool → List Token →
    Read (Elements X)
elements element zero depth deepest wanted ts = None
elements element (suc n) depth deepest wanted ts =
    if begins_symbol Open ts then elements element n (depth + 1) (max deepest (depth + 1)) true (drop 1 ts)
    else (if begins_symbol Comma ts then (if wanted then None else elements element n depth deepest true (drop 1 ts))
    else (if begins_symbol Close ts then (if wanted then None
    else (if depth == 1 then Some (record { items = []; deepest = deepest }, drop 1 ts)
    else elements element n (depth - 1) deepest false (drop 1 ts)))
    else (element ts >>= λ x. elements element n depth deepest false x.1 >>= put x.0)))

-- list(x) = "{" elem {[","] elem} "}"   elem = x | list(x)   where a newline is a blank
unfoldable pub list_at : {X : Type 0} → (List Token → Read X) → List Token → Read (Elements X)
list_at element ts = let list = list_opened ts in if list.0 then elements element (length ts) 1 1 true list.1 else None

-- x | list(x)
-- Example: { { a, b } c } has three elements, deepest 2.
unfoldable pub some_at : {X : Type 0} → (List Token → Read X) → List Token → Read (Elements X)
some_at element ts = if begins_symbol Open ts then list_at element ts
    else (element ts >>= λ x. Some (record { items = x.0 ∷ []; deepest = 0 }, x.1))
