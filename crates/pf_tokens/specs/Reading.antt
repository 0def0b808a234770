-- What a source gives, one statement after another, whatever is done with a statement.
use Rattle.std.specs.Prelude.{ℕ, Bool, List, [], ◌∷◌, ◌++◌, Result, Ok, Err, if◌then◌else◌}
use Rattle.pf_tokens.specs.Tokens.{Placed}
use Rattle.pf_tokens.specs.Macros.{Definition, is_definition, flattened, depth_behind, ends}

infixl 10 ◌>>=◌
-- goes on with the value that there is; a refusal stays the answer
abbrev pub ◌>>=◌ : {A B R : Type 0} → Result A R → (A → Result B R) → Result B R
(Ok x) >>= f = f x
(Err e) >>= f = Err e

-- What is done with a statement: from what the statements before give, the line of its first token as written,
-- whether it defines a macro, and its tokens.
abbrev pub Judge : Type 0 → Type 0 → Type 0
Judge S R = S → ℕ → Bool → List Placed → Result S R

-- a statement without tokens is passed over
abbrev pub statement_judged : {S R : Type 0} → Judge S R → S → ℕ → Bool → List Placed → Result S R
statement_judged judge sofar line defining [] = Ok sofar
statement_judged judge sofar line defining (t ∷ ts) = judge sofar line defining (t ∷ ts)

-- a statement as it is written
abbrev pub with_statement : {S R : Type 0} → (S → List Definition) → Judge S R → S → List Placed →
    Result S R
with_statement macros judge sofar [] = Ok sofar
with_statement macros judge sofar (p ∷ ps) = statement_judged judge sofar p.line (is_definition (p ∷ ps))
    (flattened (macros sofar) (p ∷ ps))

-- What the tokens that follow make of what is before, and of the statement that has begun: it ends at the first
-- newline of the text outside braces.
unfoldable pub reading_from : {S R : Type 0} → (S → List Definition) → Judge S R → S → List Placed →
    List Placed → Result S R
reading_from macros judge sofar begun [] = with_statement macros judge sofar begun
reading_from macros judge sofar begun (p ∷ ps) =
    if ends (depth_behind 0 (flattened (macros sofar) begun)) p
    then (with_statement macros judge sofar begun >>= λ next. reading_from macros judge next [] ps)
    else reading_from macros judge sofar (begun ++ p ∷ []) ps

-- the tokens from the first one on that ends no empty statement
abbrev pub past_newlines : List Placed → List Placed
past_newlines [] = []
past_newlines (p ∷ ps) = if ends 0 p then past_newlines ps else p ∷ ps
