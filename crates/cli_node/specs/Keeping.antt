-- A new key, and the file in which it is kept.
use Rattle.std.specs.Prelude.{◌≡◌, ◌⊎◌, ⊤, ℕ, List, [], ◌∷◌, Option, Some, None}
use Rattle.std.specs.Io.KnownBytes.{Appends}
use Rattle.cli_files.specs.KeyTexts.{key_text}
use Rattle.cli_node.specs.declared.outcome.Outcome.{Outcome}
use Rattle.cli_node.specs.declared.outcome.Outcome.TheVariants.{Key, Made, Memory, Refused, Unread}
use Rattle.cli_node.specs.Doing.{FileEvent, Written, Unwritten}

-- these bytes were written into a file
abbrev pub IsWritten : {F : Type 0} → (contents : F → Option (List ℕ)) → (bytes : List ℕ) → Type 0
IsWritten {F} contents bytes = (old : F) × (new : F) × Appends (contents old) (contents new) bytes

-- the text of a file that was made was written into one
abbrev pub IsWrittenIn : {F : Type 0} → (contents : F → Option (List ℕ)) → FileEvent → Type 0
IsWrittenIn contents (Written path text) = IsWritten contents text
IsWrittenIn contents (Unwritten path) = ⊤

-- A key that is to be in a file is the text of a new one at that path; else it is out of memory and none was made, or
-- the file is refused: 94 where one is there, 83 where the system refuses it.
abbrev pub IsKeptKey : (made : List FileEvent → Type 0) → (path key : List ℕ) → Outcome → Type 0
IsKeptKey made path key Made = made (Written path (key_text key) ∷ [])
IsKeptKey made path key Memory = made []
IsKeptKey made path key (Refused code) = ((code ≡ 94) ⊎ (code ≡ 83)) × made (Unwritten path ∷ [])
IsKeptKey made path key outcome = ⊥

-- What `key` gives: no key where the random source fails; else a new one, in a new file where one is named, and
-- elsewhere written out. No other file is made.
abbrev pub IsNewKey : (gives : (key : List ℕ) → Type 0) → (made : List FileEvent → Type 0) →
    (file : Option (List ℕ)) → Outcome → Type 0
IsNewKey gives made file Unread = made []
IsNewKey gives made None (Key key) = made [] × gives key
IsNewKey gives made None outcome = ⊥
IsNewKey gives made (Some path) outcome = (key : List ℕ) × (gives key × IsKeptKey made path key outcome)
