-- Paths as text: names between slashes, none for the main ruleset.
use Rattle.std.specs.Prelude.{◌≡◌, ℕ, List, [], ◌∷◌, ◌++◌, ◌==◌, Option, Some, None, Result, Ok}
use Rattle.std.specs.Prelude.{Err, if◌then◌else◌}
use Rattle.pf_rules.specs.Names.{Name, path_if}
use Rattle.pf_config.specs.declared.fault.ConfigFault.{ConfigFault}
use Rattle.pf_config.specs.declared.fault.ConfigFault.TheVariants.{NoTable, ConstTable, TableFull, AnchorsFull, BadPath}
use Rattle.pf_config.specs.declared.fault.ConfigFault.TheVariants.{Memory}

-- what is between the slashes of a string, of which this piece has begun
abbrev pub pieces_from : List ℕ → List ℕ → List (List ℕ)
pieces_from begun [] = begun ∷ []
pieces_from begun (b ∷ bytes) = if b == 47 then begun ∷ pieces_from [] bytes
    else pieces_from (begun ++ b ∷ []) bytes

-- what is between the slashes of a string, before the first and after the last: all of it where there is no slash
abbrev pub pieces : List ℕ → List (List ℕ)
pieces text = pieces_from [] text

-- no name where the text is empty, else its pieces, if they are 8 at most and each a name that commands may write
abbrev pub some_path : List ℕ → Option (List Name)
some_path [] = Some []
some_path (b ∷ bytes) = path_if (pieces (b ∷ bytes))

-- the path that a string spells: no name, or 1 to 8 names between slashes, of which none is an unnamed block's
unfoldable pub path_of : List ℕ → Option (List Name)
path_of text = some_path text

-- the path, or 24 where the text is none; unless out of memory
abbrev pub IsNoPath : ConfigFault → Option (List Name) → Type 0
IsNoPath Memory path = Unit {0}
IsNoPath BadPath path = path ≡ None
IsNoPath NoTable path = ⊥
IsNoPath ConstTable path = ⊥
IsNoPath TableFull path = ⊥
IsNoPath AnchorsFull path = ⊥

-- a call answers the path that a string spells, or 24 where it is none, unless out of memory
-- Example: a/_1 is none.
abbrev pub PathAnswers : Result (List Name) ConfigFault → Option (List Name) → Type 0
PathAnswers (Ok p) path = path ≡ Some p
PathAnswers (Err fault) path = IsNoPath fault path
