-- The macros that are known.
use Rattle.std.specs.Prelude.{List, map}
use Rattle.pf_tokens.specs.declared.macros.Macros.{Macros}
use Rattle.pf_tokens.specs.Macros.{Definition}
use Rattle.pf_tokens.specs.Defined.{definition_of}

-- the macros that the code's index has
abbrev pub definitions_of : Macros → List Definition
definitions_of m = map definition_of m.all.items
