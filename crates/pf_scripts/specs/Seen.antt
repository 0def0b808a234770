-- What the code's values stand for.
use Rattle.std.specs.Prelude.{List, map, string_bytes}
use Rattle.pf_scripts.specs.declared.lines.Line.{Line}
use Rattle.pf_scripts.specs.declared.printing.Printed.{Printed}
use Rattle.pf_scripts.specs.declared.printing.Printed.TheVariants as rust
use Rattle.pf_scripts.specs.Lines.{ScriptLine}
use Rattle.pf_scripts.specs.Ctl.{PrintedValue, Refused, Lines}

-- what a script's line in code stands for
abbrev pub line_of : Line → ScriptLine
line_of l = record { content = l.content.now; has_newline = l.has_newline }

-- what is printed, as a value in code
abbrev pub printed_value : Printed → PrintedValue
printed_value (rust.Refused code at) = Refused code at
printed_value (rust.Lines text) = Lines (string_bytes text)

abbrev pub printed_values : List Printed → List PrintedValue
printed_values printed = map printed_value printed
