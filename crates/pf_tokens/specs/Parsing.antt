-- What a parser has left: of its statement, and from the end of the statement on.
use Rattle.std.specs.Prelude.{◌≡◌, Bool, List, map, Option, Some, None, Result, Ok, Err}
use Rattle.pf_tokens.specs.declared.parser.Parser.{Parser}
use Rattle.pf_tokens.specs.declared.fault.ReadingFault.{ReadingFault}
use Rattle.pf_tokens.specs.declared.stop.Stop.{Stop}
use Rattle.pf_tokens.specs.declared.stop.Stop.TheVariants as stops
use Rattle.pf_tokens.specs.Tokens.{Token, Placed}
use Rattle.pf_tokens.specs.Macros.{Definition}
use Rattle.pf_tokens.specs.Blanks.{blanked}
use Rattle.pf_tokens.specs.Flow.{statement_left, ending_left}
use Rattle.pf_tokens.specs.Pending.{pending, known}
use Rattle.pf_tokens.specs.Carried.{carried}

-- the tokens without their lines
abbrev pub tokens_of : List Placed → List Token
tokens_of ps = map (λ (p : Placed). p.token) ps

-- the macros that are known
abbrev pub definitions : Parser → List Definition
definitions parser = known parser.stream

-- whether the statement defines a macro
abbrev pub is_defining : Parser → Bool
is_defining parser = parser.stream.defining

-- the tokens of the statement, with their places
unfoldable pub placed_left : Parser → List Placed
placed_left parser = statement_left (definitions parser) parser.stream.defining parser.depth (pending parser.stream).0
    (pending parser.stream).1

-- the tokens of the statement; within a list newlines are blanks
unfoldable pub left : Parser → List Token
left parser = blanked parser.braces (tokens_of (placed_left parser))

-- what stays the same while a statement is read: the tokens of the text from its end on, and the first fault of the
-- whole statement, among what was passed and what is left
pub record Later : Type 0 where
  pub behind : List Placed
  pub fault : Option ReadingFault

-- the tokens from the end of the parser's statement on, and the first fault of the whole statement
unfoldable pub later : Parser → Later
later parser = record {
  behind = ending_left (definitions parser) parser.stream.defining parser.depth (pending parser.stream).0
      (pending parser.stream).1;
  fault = carried (definitions parser) parser.passed parser.depth (tokens_of (placed_left parser));
}

-- a value was read, and these tokens are left, or none was
abbrev pub Reads : {X : Type 0} → Option X → List Token → Option (X × List Token) → Type 0
Reads None ts read = read ≡ None
Reads (Some x) ts read = read ≡ Some (x, ts)

-- the same where memory may run out, or a list has more elements than a statement may have tokens
abbrev pub Parses : {X Y : Type 0} → (X → Y) → Result X Stop → List Token →
    Option (Y × List Token) → Type 0
Parses view (Ok x) ts read = read ≡ Some (view x, ts)
Parses view (Err stops.Memory) ts read = Unit {0}
Parses view (Err stops.TooMany) ts read = Unit {0}
Parses view (Err stops.Syntax) ts read = read ≡ None
