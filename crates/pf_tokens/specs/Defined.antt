-- A macro without where it is in memory.
use Rattle.pf_tokens.specs.declared.macro_text.Macro.{Macro}
use Rattle.pf_tokens.specs.Macros.{Definition}

-- the name and the text of a macro in code
abbrev pub definition_of : Macro → Definition
definition_of m = record { name = m.name.items; text = m.text.items }
