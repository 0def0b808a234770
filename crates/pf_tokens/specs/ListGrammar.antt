-- Lists in braces as the grammar spells them: list(x) = "{" elem {[","] elem} "}"   elem = x | list(x)
use Rattle.std.specs.Prelude.{◌≡◌, ◌<◌, ℕ, ◌+◌, Bool, true, false, List, [], ◌∷◌, ◌++◌, length, Some, max}
use Rattle.std.specs.List.{AllByRecursion}
use Rattle.pf_tokens.specs.declared.symbol.Symbol.{Symbol}
use Rattle.pf_tokens.specs.declared.symbol.Symbol.TheVariants.{Comma, Open, Close}
use Rattle.pf_tokens.specs.Tokens.{Token, Mark}
use Rattle.pf_tokens.specs.Blanks.{blanked}
use Rattle.pf_tokens.specs.Productions.{Read, begins_symbol, is_symbol}
use Rattle.pf_tokens.specs.Lists.{Elements}

-- a symbol that stands for itself
abbrev pub sign : Symbol → List Token
sign symbol = Mark symbol ∷ []

-- [","]
pub data IsComma : List Token → Type 0 where
  NoComma : IsComma []
  CommaSign : IsComma (sign Comma)

-- elem {[","] elem}   elem = x | list(x)   with the elements, those of the lists in it among them, and how many lists
-- are in one another at the deepest
pub data IsElements {X : Type 0} (Is : List Token → X → Type 0) : List Token → List X → ℕ → Type 0 where
  LastOne : (ts : List Token) (x : X) → Is ts x → IsElements Is ts (x ∷ []) 0
  LastList : (ts : List Token) (xs : List X) (d : ℕ) → IsElements Is ts xs d →
      IsElements Is (sign Open ++ (ts ++ sign Close)) xs (d + 1)
  OneMore : (ts comma us : List Token) (x : X) (ys : List X) (e : ℕ) → Is ts x → IsComma comma →
      IsElements Is us ys e → IsElements Is (ts ++ (comma ++ us)) (x ∷ ys) e
  ListMore : (ts comma us : List Token) (xs ys : List X) (d e : ℕ) → IsElements Is ts xs d → IsComma comma →
      IsElements Is us ys e → IsElements Is (sign Open ++ (ts ++ (sign Close ++ (comma ++ us)))) (xs ++ ys)
      (max (d + 1) e)

-- list(x) = "{" elem {[","] elem} "}"   where a newline is a blank: the tokens up to the closing brace, and these
-- without newlines
pub data IsList {X : Type 0} (Is : List Token → X → Type 0) : List Token → Elements X → Type 0 where
  Braces : (within ts : List Token) (xs : List X) (d : ℕ) → blanked 1 (within ++ sign Close) ≡
      ts ++ sign Close → IsElements Is ts xs d → IsList Is (sign Open ++ (within ++ sign Close))
      (record { items = xs; deepest = d + 1 })

-- x | list(x)
-- Example: { }, { , a }, { a , } are in no IsList.
pub data IsSome {X : Type 0} (Is : List Token → X → Type 0) : List Token → Elements X → Type 0 where
  One : (ts : List Token) (x : X) → Is ts x → IsSome Is ts (record { items = x ∷ []; deepest = 0 })
  Listed : (ts : List Token) (list : Elements X) → IsList Is ts list → IsSome Is ts list

-- ---- elements of any kind

-- these tokens alone are read as this element
abbrev pub IsReadAs : {X : Type 0} → (List Token → Read X) → List Token → X → Type 0
IsReadAs read ts x = read ts ≡ Some (x, [])

-- no brace
abbrev pub IsPlain : Token → Type 0
IsPlain t = (is_symbol Open t ≡ false) × (is_symbol Close t ≡ false)

-- An element is read alike whatever is behind it, if that may follow one; a brace, a comma and an element may. It
-- begins with no comma, and has no brace.
pub record IsElement {X : Type 0} (read : List Token → Read X) (follows : List Token → Bool) : Type 0 where
  pub front : (ts rest : List Token) (x : X) → read ts ≡ Some (x, rest) →
      (own : List Token) × (ts ≡ own ++ rest) × IsReadAs read own x
  pub alike : (ts rest : List Token) (x : X) → IsReadAs read ts x → follows rest ≡ true →
      read (ts ++ rest) ≡ Some (x, rest)
  pub open_follows : (rest : List Token) → follows (Mark Open ∷ rest) ≡ true
  pub comma_follows : (rest : List Token) → follows (Mark Comma ∷ rest) ≡ true
  pub close_follows : (rest : List Token) → follows (Mark Close ∷ rest) ≡ true
  pub element_follows : (ts rest : List Token) (x : X) → IsReadAs read ts x → follows (ts ++ rest) ≡ true
  pub no_comma : (ts rest : List Token) (x : X) → IsReadAs read ts x → begins_symbol Comma (ts ++ rest) ≡ false
  pub plain : (ts : List Token) (x : X) → IsReadAs read ts x → AllByRecursion IsPlain ts
  pub some : (ts : List Token) (x : X) → IsReadAs read ts x → 0 < length ts

-- a list is in front of these tokens
abbrev pub IsListBefore : {X : Type 0} → (List Token → X → Type 0) → List Token → Elements X → List Token → Type 0
IsListBefore Is ts list rest = (own : List Token) × (ts ≡ own ++ rest) × IsList Is own list
