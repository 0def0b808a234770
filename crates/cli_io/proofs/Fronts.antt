-- Fronts of what is to be written.
use Rattle.std.proofs.Common.{List, ℕ, [], Option, refl}
use Rattle.std.proofs.KnownBytes.{Appends-nil}
use Rattle.cli_io.specs.Written.{AppendsFront}

-- where nothing was written it is a front
pub nothing_written : (old : Option (List ℕ)) (text : List ℕ) → AppendsFront old old text
nothing_written old text = ([], text, refl, Appends-nil old)
