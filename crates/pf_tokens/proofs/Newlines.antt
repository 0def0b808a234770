-- Going past the newline at hand.
use Rattle.std.proofs.Common.{◌≡◌, ℕ, ◌<◌, Bool, true, List, ◌∷◌, length, drop, map, Option, Some, None, ap, ◌∙◌, arith}
use Rattle.std.proofs.lemmas.Bool.{false≢true}
use Rattle.pf_tokens.specs.declared.lexeme.Lexed.{Lexed}
use Rattle.pf_tokens.specs.declared.stream.Stream.{Stream}
use Rattle.pf_tokens.specs.Tokens.{Placed, Newline}
use Rattle.pf_tokens.specs.Lexed.{placed_of}
use Rattle.pf_tokens.specs.Left.{tokens_left}
use Rattle.pf_tokens.specs.Macros.{Definition, unwritten}
use Rattle.pf_tokens.specs.Flow.{statement_left}
use Rattle.pf_tokens.specs.inner.Flow.{pulled}
use Rattle.pf_tokens.specs.Pending.{behind, unless_none, pending, known}
use Rattle.pf_tokens.specs.inner.Pending.{at_newline, statement_tokens, Stays, Blanks}
use Rattle.pf_tokens.proofs.Blanking.{newline_blank, newline_tokens, newline_shorter}

abbrev pair : Option Lexed → List Placed → List Placed → List Placed × List Placed
pair next inside text = (behind next inside, unless_none next text)

module _ (ds : List Definition) (w : Bool) where
  step_blank : (next : Option Lexed) (inside text : List Placed) (new : List Placed × List Placed) (braces : ℕ) → at_newline next ≡ true → 0 < braces → new ≡ pulled ds w (drop 1 (pair next inside text).0) (pair next inside text).1 → Blanks braces ds w (pair next inside text) new
  step_blank None inside text new braces newline some e = absurd (false≢true newline)
  step_blank (Some l) inside text new braces newline some e = newline_blank ds w (placed_of l) inside text newline braces new some e

  step_tokens : (next : Option Lexed) (inside text : List Placed) (new : List Placed × List Placed) (depth : ℕ) → at_newline next ≡ true → 0 < depth → new ≡ pulled ds w (drop 1 (pair next inside text).0) (pair next inside text).1 → statement_tokens ds w depth (pair next inside text) ≡ Newline ∷ statement_tokens ds w depth new
  step_tokens None inside text new depth newline some e = absurd (false≢true newline)
  step_tokens (Some l) inside text new depth newline some e = newline_tokens ds w (placed_of l) inside text newline depth new some e

  step_less : (next : Option Lexed) (inside text : List Placed) (new : List Placed × List Placed) → at_newline next ≡ true → new ≡ pulled ds w (drop 1 (pair next inside text).0) (pair next inside text).1
      → length (statement_left ds w 1 new.0 new.1) < length (statement_left ds w 1 (pair next inside text).0 (pair next inside text).1)
  step_less None inside text new newline e = absurd (false≢true newline)
  step_less (Some l) inside text new newline e = newline_shorter ds w (placed_of l) inside text newline new e

pulled_same : (ds es : List Definition) (w v : Bool) (ts raw : List Placed) → ds ≡ es → w ≡ v → pulled ds w ts raw ≡ pulled es v ts raw
pulled_same ds es w v ts raw e f = ap (λ (d : List Definition). pulled d w ts raw) e ∙ ap (λ (b : Bool). pulled es b ts raw) f

pub newline_step : (old new : Stream) (ds : List Definition) (w : Bool) (braces : ℕ) → known old ≡ ds → old.defining ≡ w → at_newline old.next ≡ true → 0 < braces → pending new ≡ pulled (known old) old.defining (drop 1 (pending old).0) (pending old).1 → Blanks braces ds w (pending old) (pending new)
unfolding pending
newline_step old new ds w braces e f newline some pulls = step_blank ds w old.next (map (unwritten old.line) (tokens_left old.inside)) (tokens_left old.text) (pending new) braces newline some (pulls ∙ pulled_same (known old) ds old.defining w _ _ e f)

pub newline_counts : (old new : Stream) (ds : List Definition) (w : Bool) (depth : ℕ) → known old ≡ ds → old.defining ≡ w → at_newline old.next ≡ true → 0 < depth → pending new ≡ pulled (known old) old.defining (drop 1 (pending old).0) (pending old).1 → statement_tokens ds w depth (pending old) ≡ Newline ∷ statement_tokens ds w depth (pending new)
unfolding pending
newline_counts old new ds w depth e f newline some pulls = step_tokens ds w old.next (map (unwritten old.line) (tokens_left old.inside)) (tokens_left old.text) (pending new) depth newline some (pulls ∙ pulled_same (known old) ds old.defining w _ _ e f)

pub newline_less : (old new : Stream) → Stays old new → at_newline old.next ≡ true → pending new ≡ pulled (known old) old.defining (drop 1 (pending old).0) (pending old).1
    → length (statement_left (known new) new.defining 1 (pending new).0 (pending new).1) < length (statement_left (known old) old.defining 1 (pending old).0 (pending old).1)
unfolding pending
newline_less old new stays newline pulls =
    let less = step_less (known old) old.defining old.next (map (unwritten old.line) (tokens_left old.inside)) (tokens_left old.text) (pending new) newline pulls in
    let same : statement_left (known new) new.defining 1 (pending new).0 (pending new).1 ≡ statement_left (known old) old.defining 1 (pending new).0 (pending new).1 =
    ap (λ (ds : List Definition). statement_left ds new.defining 1 (pending new).0 (pending new).1) stays.known ∙ ap (λ (w : Bool). statement_left (known old) w 1 (pending new).0 (pending new).1) stays.defining in
    omega (arith, less, ap (λ (ps : List Placed). length ps) same)
