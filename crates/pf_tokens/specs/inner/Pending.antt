-- What only code and proofs use beside `Pending`.
use Rattle.std.specs.Prelude.{◌≡◌, ◌≤◌, ℕ, Bool, false, List, [], ◌∷◌, map, Option, Some, None, is_some}
use Rattle.pf_tokens.specs.declared.lexeme.Lexed.{Lexed}
use Rattle.pf_tokens.specs.declared.stream.Stream.{Stream}
use Rattle.pf_tokens.specs.Tokens.{Token, Placed, is_newline}
use Rattle.pf_tokens.specs.Lexed.{token_of}
use Rattle.pf_tokens.specs.Macros.{Definition}
use Rattle.pf_tokens.specs.Productions.{name_of}
use Rattle.pf_tokens.specs.Blanks.{blanked}
use Rattle.pf_tokens.specs.Flow.{statement_left, ending_left}
use Rattle.pf_tokens.specs.Pending.{known}

-- whether a newline is at hand
abbrev pub at_newline : Option Lexed → Bool
at_newline None = false
at_newline (Some t) = is_newline (token_of t.lexeme)

-- whether a word or a string is at hand
abbrev pub at_text : Option Lexed → Bool
at_text None = false
at_text (Some t) = is_some (name_of (token_of t.lexeme))

-- the token at hand, if there is one
abbrev pub at_hand : Option Lexed → List Token
at_hand None = []
at_hand (Some t) = token_of t.lexeme ∷ []

-- the tokens of the statement, where these are pending and that many braces are open
abbrev pub statement_tokens : List Definition → Bool → ℕ → List Placed × List Placed → List Token
statement_tokens ds defining depth p = map (λ (t : Placed). t.token) (statement_left ds defining depth p.0 p.1)

-- what a step leaves as it is
pub record Stays (old new : Stream) : Type 0 where
  pub known : known new ≡ known old
  pub defining : new.defining ≡ old.defining

-- where that many braces of a list are open, at least that many being open in all, the statement stays the same but
-- for newlines, and so does its end
pub record Blanks (braces : ℕ) (ds : List Definition) (defining : Bool) (old new : List Placed ×
    List Placed) : Type 0 where
  pub statement : (depth : ℕ) → braces ≤ depth →
      blanked braces (map (λ (p : Placed). p.token) (statement_left ds defining depth new.0 new.1)) ≡
      blanked braces (map (λ (p : Placed). p.token) (statement_left ds defining depth old.0 old.1))
  pub ending : (depth : ℕ) → braces ≤ depth → ending_left ds defining depth new.0 new.1 ≡
      ending_left ds defining depth old.0 old.1
