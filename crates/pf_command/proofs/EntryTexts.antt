-- The addresses of a command as they are written.
use Rattle.std.proofs.Common.{◌≡◌, List, [], ◌∷◌, ◌++◌, refl, ap}
use Rattle.std.specs.List.{flat_map}
use Rattle.pf_rules.specs.declared.ruleset.TableEntry.{TableEntry}
use Rattle.pf_show.specs.Shown.{spaced_entry}
use Rattle.pf_entry.specs.Owned.{addresses_value}
use Rattle.pf_command.specs.Arguments.{address_word}

-- they are entries of tables
pub addresses_are : (entries : List TableEntry) → flat_map address_word (addresses_value entries) ≡ flat_map spaced_entry entries
addresses_are [] = refl
addresses_are (e ∷ entries) = ap (λ t. spaced_entry e ++ t) (addresses_are entries)
