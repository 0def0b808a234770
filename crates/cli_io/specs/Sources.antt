-- The text that an option names.
use Rattle.std.specs.Prelude.{◌≡◌, ℕ, true, false, List, [], Option, Some, None, IfSome, bytes_eq, codes}

-- this is what is left to read of some file
abbrev pub IsOfFile : {F : Type 0} → (remaining : F → Option (List ℕ)) → (text : List ℕ) → Type 0
IsOfFile {F} remaining text = (file : F) × IfSome (remaining file) (λ bytes. text ≡ bytes)

-- the text that a name refers to: the input for `-`, else that of the file at this path
abbrev pub IsText : (has : (path text : List ℕ) → Type 0) → (input : Option (List ℕ)) → (name text : List ℕ) → Type 0
IsText has input name text = (bytes_eq name (codes "-") ≡ true → IfSome input (λ bytes. text ≡ bytes))
    × (bytes_eq name (codes "-") ≡ false → has name text)

-- the text that an option names, none without it
abbrev pub IsNamed : (named : Option (List ℕ)) → (is_text : (name text : List ℕ) → Type 0) → (text : List ℕ) → Type 0
IsNamed None is_text text = text ≡ []
IsNamed (Some name) is_text text = is_text name text

-- bytes, where there are any, are what the file at this path has; without a path there are none
abbrev pub IsAt : (has : (path text : List ℕ) → Type 0) → (path text : Option (List ℕ)) → Type 0
IsAt has path None = Unit {0}
IsAt has None (Some text) = ⊥
IsAt has (Some path) (Some text) = has path text
