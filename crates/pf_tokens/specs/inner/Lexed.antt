-- What only code and proofs use beside `Lexed`.
use Rattle.std.specs.Prelude.{ℕ, Option, option_map}
use Rattle.pf_tokens.specs.declared.lexeme.Lexeme.{Lexeme}
use Rattle.pf_tokens.specs.Tokens.{Front}
use Rattle.pf_tokens.specs.Lexed.{token_of}

abbrev pub front_of : (Option Lexeme × ℕ) → Front
front_of r = record { token = option_map token_of r.0; len = r.1 }
