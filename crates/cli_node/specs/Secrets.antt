-- Which keys a node has: those that the files make which are named.
use Rattle.std.specs.Prelude.{ℕ, ⊤, List, Option, Some, None}
use Rattle.cli_node.specs.declared.key.Keys.{Keys}

-- the key that the file at a path makes, where one is named
abbrev pub IsNamed : (makes : (path key : List ℕ) → Type 0) → (path key : Option (List ℕ)) → Type 0
IsNamed makes None None = ⊤
IsNamed makes None (Some key) = ⊥
IsNamed makes (Some path) None = ⊥
IsNamed makes (Some path) (Some key) = makes path key

-- the key that the file at a path makes, and the other one, where one is named
abbrev pub AreNamed : (makes : (path key : List ℕ) → Type 0) → (path other : Option (List ℕ)) → Option Keys → Type 0
AreNamed makes None other None = ⊤
AreNamed makes None other (Some keys) = ⊥
AreNamed makes (Some path) other None = ⊥
AreNamed makes (Some path) other (Some keys) = makes path keys.key × IsNamed makes other keys.other
