-- What the lexer's values stand for.
use Rattle.pf_tokens.specs.declared.lexeme.Lexeme.{Lexeme}
use Rattle.pf_tokens.specs.declared.lexeme.Lexeme.TheVariants as lexed
use Rattle.pf_tokens.specs.declared.lexeme.Lexed.{Lexed}
use Rattle.pf_tokens.specs.Tokens.{Token, Word, Quoted, Macro, Mark, Newline, Bad, Placed}

-- the token that a lexeme of the code stands for
abbrev pub token_of : Lexeme → Token
token_of (lexed.Word text) = Word text.now
token_of (lexed.Quoted text) = Quoted text.now
token_of (lexed.Macro name) = Macro name.now
token_of (lexed.Mark symbol) = Mark symbol
token_of lexed.Newline = Newline
token_of lexed.Bad = Bad

-- the same with its line, and whether it is in the text as it is
abbrev pub placed_of : Lexed → Placed
placed_of t = record { token = token_of t.lexeme; line = t.line; written = t.written }
