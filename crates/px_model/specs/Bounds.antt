-- What fits, whatever commands have a spelling: the ranges alone.
use Rattle.px_model.specs.Spelling.{Bytes}

-- every command passes
abbrev pub AnyCommand : Bytes → Type 0
AnyCommand c = Unit {0}
