-- What is before a parser: tokens that have been replaced already, and those of the text.
use Rattle.std.specs.Prelude.{List, [], ◌∷◌, map, Option, Some, None}
use Rattle.pf_tokens.specs.declared.lexeme.Lexed.{Lexed}
use Rattle.pf_tokens.specs.declared.stream.Stream.{Stream}
use Rattle.pf_tokens.specs.Tokens.{Placed}
use Rattle.pf_tokens.specs.Lexed.{placed_of}
use Rattle.pf_tokens.specs.Left.{tokens_left}
use Rattle.pf_tokens.specs.Macros.{Definition, unwritten}
use Rattle.pf_tokens.specs.Known.{definitions_of}

-- the token at hand and those behind it; nothing where there is none at hand
abbrev pub behind : Option Lexed → List Placed → List Placed
behind None ts = []
behind (Some t) ts = placed_of t ∷ ts

-- these tokens; nothing where there is no token at hand
abbrev pub unless_none : Option Lexed → List Placed → List Placed
unless_none None ts = []
unless_none (Some t) ts = ts

-- the tokens that have been replaced already: the one at hand and those of a macro's text; and those of the text
unfoldable pub pending : Stream → List Placed × List Placed
pending stream = (
  behind stream.next (map (unwritten stream.line) (tokens_left stream.inside)),
  unless_none stream.next (tokens_left stream.text),
)

-- the macros that are known
abbrev pub known : Stream → List Definition
known stream = definitions_of stream.macros.now
