-- Which arguments ask for what nft(8) loads, and what a run has done.
use Rattle.std.specs.Prelude.{◌≡◌, ◌⊎◌, ℕ, Bool, true, false, ◌&&◌, List, [], ◌∷◌, Option, None, Some, IfSome}
use Rattle.std.specs.Prelude.{bytes_eq, codes}
use Rattle.std.specs.List.{list_any}
use Rattle.std.specs.Io.KnownBytes.{Appends}
use Rattle.clap.specs.Words.{Row, Text, first_of}
use Rattle.cli_io.specs.Sources.{IsAt}
use Rattle.cli_io.specs.Written.{line, AppendsFront, IsMisused, RanOut}
use Rattle.cli_nft.specs.Options.{members_named, position_named}
use Rattle.cli_nft.specs.Outputs.{output}
use Rattle.nft_rules.specs.declared.guard.Member.{Member}
use Rattle.cli_io.specs.declared.status.Status.{Status}
use Rattle.cli_io.specs.declared.status.Status.TheVariants as status

-- the arguments, the program's name first, are check with --nft among what follows
abbrev pub asks_nft : List (List ℕ) → Bool
asks_nft [] = false
asks_nft (name ∷ []) = false
asks_nft (name ∷ argument ∷ arguments) =
    bytes_eq argument (codes "check") && list_any (λ w. bytes_eq w (codes "--nft")) arguments

-- What a run that ended so has written, of this file of interfaces, these members, this position and this input. When
-- out of memory it wrote that alone; a run that failed wrote a front of either, and nothing where the input wasn't
-- read.
abbrev pub Wrote : Option (List ℕ) → Option (List Member) → ℕ → Status → Option (List ℕ) → Option (List ℕ) →
    Option (List ℕ) → Type 0
Wrote file ms position status.Done input old new = IfSome input (λ bytes.
    ((output file ms position bytes).refused ≡ false) × Appends old new (output file ms position bytes).text)
Wrote file ms position status.Refused input old new = IfSome input (λ bytes.
    ((output file ms position bytes).refused ≡ true) × Appends old new (output file ms position bytes).text)
Wrote file ms position status.Usage input old new = ⊥
Wrote file ms position status.Memory input old new = Appends old new (line (codes "memory"))
Wrote file ms position status.Failed input old new = AppendsFront old new (line (codes "memory"))
    ⊎ IfSome input (λ bytes. AppendsFront old new (output file ms position bytes).text)

-- A run for the members and the position that are given, and for the interfaces that the file has at the path of
-- `--interfaces`; none where it can't be read.
pub record Answered (has : (path text : Text) → Type 0) (rows : List Row) (ending : Status)
    (input old new : Option (List ℕ)) : Type 0 where
  pub file : Option (List ℕ)
  pub there : IsAt has (first_of (codes "interfaces") rows) file
  pub wrote : Wrote file (members_named rows) (position_named rows) ending input old new

-- What a run did that ended so, by what is given with `check --nft`. It is misused only where that is none: arguments
-- that aren't understood. Else it answered, or was out of memory.
abbrev pub Ran : (has : (path text : Text) → Type 0) → (given : Option (List Row)) → Status →
    (input old new : Option (List ℕ)) → Type 0
Ran has None ending input old new = IsMisused ending old new
Ran has (Some rows) ending input old new = RanOut ending old new ⊎ Answered has rows ending input old new
