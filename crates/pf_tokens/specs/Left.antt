-- What a lexer has left.
use Rattle.std.specs.Prelude.{List}
use Rattle.pf_tokens.specs.declared.lexer.Lexer.{Lexer}
use Rattle.pf_tokens.specs.Tokens.{Placed, tokens_behind}
use Rattle.pf_tokens.specs.Joined.{letters_at}

-- the tokens that a lexer has before it, each with its line in the text as given
unfoldable pub tokens_left : Lexer → List Placed
tokens_left lexer = tokens_behind 0 (letters_at lexer.line lexer.at lexer.steps.now lexer.rest.now)
