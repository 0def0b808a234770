-- What the parser's steps take to hand.
use Rattle.std.proofs.Common.{◌≡◌, ℕ, ◌<◌, Bool, true, false, cond, List, [], ◌∷◌, ◌++◌, length, drop, map, Option, Some, None, option_map, refl, sym, ap, ◌∙◌, arith}
use Rattle.std.specs.Prelude.{bytes_eq}
use Rattle.pf_tokens.specs.declared.lexeme.Lexed.{Lexed}
use Rattle.pf_tokens.specs.Tokens.{Placed, first, plain_tokens}
use Rattle.pf_tokens.specs.Lexed.{placed_of}
use Rattle.pf_tokens.specs.Macros.{Definition, text_of, or_else, unwritten, text_tokens, replaced}
use Rattle.pf_tokens.specs.inner.Indexed.{HasTokensOf}
use Rattle.pf_tokens.specs.inner.Flow.{pulled_raw, pulled}
use Rattle.std.specs.Prelude.{is_some}
use Rattle.pf_tokens.specs.declared.stream.Stream.{Stream}
use Rattle.pf_tokens.specs.Left.{tokens_left}
use Rattle.pf_tokens.specs.Pending.{behind, unless_none, pending, known}

-- a later definition hides those before it
pub text_more : (ds : List Definition) (d : Definition) (name : List ℕ) → text_of (ds ++ d ∷ []) name ≡ cond (bytes_eq d.name name) (Some d.text) (text_of ds name)
text_more [] d name = refl
text_more (x ∷ ds) d name = rw (text_more ds d name) (hides (bytes_eq d.name name))
  where
    hides : (b : Bool) → or_else (cond b (Some d.text) (text_of ds name)) (cond (bytes_eq x.name name) (Some x.text) None) ≡ cond b (Some d.text) (or_else (text_of ds name) (cond (bytes_eq x.name name) (Some x.text) None))
    hides true = refl
    hides false = refl

pub first_none : (ts : List Placed) → first ts ≡ None → ts ≡ []
first_none [] none = refl
first_none (t ∷ ts) none = absurd cc

-- a macro's text counts by its tokens alone
pub same_tokens : (p : Placed) (one other : Option (List ℕ)) → HasTokensOf one other → text_tokens p one ≡ text_tokens p other
same_tokens p None None same = refl
same_tokens p None (Some text) same = absurd cc
same_tokens p (Some text) None same = absurd cc
same_tokens p (Some text) (Some there) same = let tokens : plain_tokens text ≡ plain_tokens there = cc in ap (map (unwritten p.line)) tokens

pub inside_passed : (line : ℕ) (l next : Lexed) (ts rest : List Placed) → option_map placed_of (Some l) ≡ first ts → rest ≡ drop 1 ts → placed_of next ≡ unwritten line (placed_of l) → behind (Some next) (map (unwritten line) rest) ≡ map (unwritten line) ts
inside_passed line l next [] rest is_first is_rest is_next = absurd cc
inside_passed line l next (t ∷ ts) rest is_first is_rest is_next =
    let same : placed_of l ≡ t = cc in
    rw is_rest (ap (λ (p : Placed). p ∷ map (unwritten line) ts) (is_next ∙ ap (unwritten line) same))

pub inside_none : (ts rest : List Placed) → option_map {U = Placed} placed_of None ≡ first ts → rest ≡ drop 1 ts → (ts ≡ []) × (rest ≡ [])
inside_none [] rest is_first is_rest = (refl, is_rest)
inside_none (t ∷ ts) rest is_first is_rest = absurd cc

pub inside_some : (l : Lexed) (ts : List Placed) → option_map placed_of (Some l) ≡ first ts → 0 < length ts
inside_some l [] is_first = absurd cc
inside_some l (t ∷ ts) is_first = omega arith

-- ---- the loop over the text

pub text_first : (l : Lexed) (ts : List Placed) → option_map placed_of (Some l) ≡ first ts → ts ≡ placed_of l ∷ drop 1 ts
text_first l [] is_first = absurd cc
text_first l (t ∷ ts) is_first = let same : placed_of l ≡ t = cc in ap (λ (p : Placed). p ∷ ts) (sym same)

-- a token that isn't replaced
pub pulled_itself : (ds : List Definition) (defining : Bool) (l : Lexed) (ts rest : List Placed) → option_map placed_of (Some l) ≡ first ts → rest ≡ drop 1 ts → (placed_of l ∷ []) ≡ replaced ds defining (placed_of l) → pulled_raw ds defining ts ≡ (placed_of l ∷ [], rest)
pulled_itself ds defining l ts rest is_first is_rest itself = rw (text_first l ts is_first, ← itself, is_rest) refl

-- a macro that has no tokens
pub pulled_nothing : (ds : List Definition) (defining : Bool) (l : Lexed) (ts rest : List Placed) → option_map placed_of (Some l) ≡ first ts → rest ≡ drop 1 ts → replaced ds defining (placed_of l) ≡ [] → pulled_raw ds defining ts ≡ pulled_raw ds defining rest
pulled_nothing ds defining l ts rest is_first is_rest nothing = rw (text_first l ts is_first, nothing, is_rest) refl

-- a macro that has some
pub pulled_some : (ds : List Definition) (defining : Bool) (l : Lexed) (ts rest rs : List Placed) → option_map placed_of (Some l) ≡ first ts → rest ≡ drop 1 ts → replaced ds defining (placed_of l) ≡ rs → 0 < length rs → pulled_raw ds defining ts ≡ (rs, rest)
pulled_some ds defining l ts rest [] is_first is_rest is_some some = absurd (omega arith)
pulled_some ds defining l ts rest (r ∷ rs) is_first is_rest is_some some = rw (text_first l ts is_first, is_some, is_rest) refl

pub pulled_end : (ds : List Definition) (defining : Bool) (ts : List Placed) → first ts ≡ None → pulled_raw ds defining ts ≡ ([], [])
pulled_end ds defining [] none = refl
pulled_end ds defining (t ∷ ts) none = absurd cc

-- what a macro's text gives, or where it gives nothing what follows it
pub pulled_text : (ds : List Definition) (defining : Bool) (l : Lexed) (ts rest inside : List Placed) → option_map placed_of (Some l) ≡ first ts → rest ≡ drop 1 ts → map (unwritten l.line) inside ≡ replaced ds defining (placed_of l) → pulled_raw ds defining ts ≡ pulled ds defining (map (unwritten l.line) inside) rest
pulled_text ds defining l ts rest [] is_first is_rest is_text = pulled_nothing ds defining l ts rest is_first is_rest (sym is_text)
pulled_text ds defining l ts rest (i ∷ inside) is_first is_rest is_text = pulled_some ds defining l ts rest (map (unwritten l.line) (i ∷ inside)) is_first is_rest (sym is_text) (omega arith)

-- ---- advancing

pub pending_none : (stream : Stream) → is_some stream.next ≡ false → pending stream ≡ pulled (known stream) stream.defining (drop 1 (pending stream).0) (pending stream).1
unfolding pending
pending_none stream none = cases stream.next none
  where
    cases : (o : Option Lexed) → is_some o ≡ false → (behind o (map (unwritten stream.line) (tokens_left stream.inside)), unless_none o (tokens_left stream.text)) ≡ pulled (known stream) stream.defining (drop 1 (behind o (map (unwritten stream.line) (tokens_left stream.inside)))) (unless_none o (tokens_left stream.text))
    cases None none = refl
    cases (Some l) none = absurd cc

pub pending_some : (stream : Stream) → is_some stream.next ≡ true → (drop 1 (pending stream).0 ≡ map (unwritten stream.line) (tokens_left stream.inside)) × ((pending stream).1 ≡ tokens_left stream.text)
unfolding pending
pending_some stream some = cases stream.next some
  where
    cases : (o : Option Lexed) → is_some o ≡ true → (drop 1 (behind o (map (unwritten stream.line) (tokens_left stream.inside))) ≡ map (unwritten stream.line) (tokens_left stream.inside)) × (unless_none o (tokens_left stream.text) ≡ tokens_left stream.text)
    cases None some = absurd cc
    cases (Some l) some = (refl, refl)

-- tokens that are there are pulled as they are
pub pulled_there : (ds : List Definition) (defining : Bool) (line : ℕ) (ts raw : List Placed) → 0 < length ts → pulled ds defining (map (unwritten line) ts) raw ≡ (map (unwritten line) ts, raw)
pulled_there ds defining line [] raw some = absurd (omega arith)
pulled_there ds defining line (t ∷ ts) raw some = refl
