-- What a source of the code stands for.
use Rattle.std.specs.Prelude.{option_map}
use Rattle.pf_tool.specs.declared.source.Source.{Source}
use Rattle.pf_tool.specs.Tool.{SourceValue}

-- its name and its text
abbrev pub source_in : Source → SourceValue
source_in s = record { name = s.name.now; text = option_map (λ v. v.items) s.text }
