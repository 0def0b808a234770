-- Rulesets for pfctl(8) in files.
use Rattle.std.specs.Prelude.{◌≡◌, ◌⊎◌, ℕ, Bool, true, false, ◌&&◌, ◌==◌, not, List, [], ◌∷◌, ◌++◌, length}
use Rattle.std.specs.Prelude.{Option, Some, None, bytes_eq, codes, map, if◌then◌else◌, string_bytes}
use Rattle.std.specs.Io.KnownBytes.{Appends}
use Rattle.std.specs.List.{flat_map, list_all, list_any}
use Rattle.pf_rules.specs.Names.{Name}
use Rattle.pf_config.specs.Map.{Configuration, Path}
use Rattle.pf_dump.specs.Done.{AreDoneTo}
use Rattle.pf_dump.specs.Texts.{Text}
use Rattle.pf_dump.specs.Written.{texts_of}
use Rattle.cli_follow.specs.Exchanges.{Adds}
use Rattle.cli_follow.specs.declared.files.TextFile.{TextFile}
use Rattle.cli_follow.specs.declared.files.TextFiles.{TextFiles}

-- these bytes were written into a file
abbrev pub IsWritten : {F : Type 0} → (contents : F → Option (List ℕ)) → (bytes : List ℕ) → Type 0
IsWritten {F} contents bytes = (old : F) × (new : F) × Appends (contents old) (contents new) bytes

-- the place of a file, and the path beside it where it is written first
-- Example: d/main.conf and d/.main.conf.new.
abbrev pub place_of : (folder name : List ℕ) → List ℕ
place_of folder name = folder ++ (codes "/" ++ name)

abbrev pub path_beside : (folder name : List ℕ) → List ℕ
path_beside folder name = folder ++ (codes "/." ++ (name ++ codes ".new"))

-- ---- what is done with files

-- a file was written at a path, for what was there; or one was renamed; and whether that was possible
pub data Act : Type 0 where
  Wrote : (path text : List ℕ) → (is_done : Bool) → Act
  Renamed : (from to : List ℕ) → (is_done : Bool) → Act

-- where a file was written, these bytes were
abbrev pub IsDone : {F : Type 0} → (contents : F → Option (List ℕ)) → Act → Type 0
IsDone contents (Wrote path text true) = IsWritten contents text
IsDone contents (Wrote path text false) = Unit {0}
IsDone contents (Renamed from to is_done) = Unit {0}

-- These acts were done meanwhile, in this order and no other, and they are so.
abbrev pub Acted : (done did : List Act → Type 0) → (IsSo : List Act → Type 0) → Type 0
Acted done did IsSo = (acts : List Act) × (Adds done did acts × IsSo acts)

-- The file of a name was put: written beside its place, all of it, and where that was possible renamed. It is there
-- where both were.
abbrev pub IsPut : (folder name text : List ℕ) → List Act → (is_put : Bool) → Type 0
IsPut folder name text acts is_put =
    ((acts ≡ Wrote (path_beside folder name) text false ∷ []) × (is_put ≡ false))
    ⊎ (acts ≡ Wrote (path_beside folder name) text true
    ∷ Renamed (path_beside folder name) (place_of folder name) is_put ∷ [])

-- ---- what is recorded of a folder

-- a file is recorded as written
abbrev pub is_put : TextFile → Bool
is_put f = f.is_put

-- it is, and these are the file's name and text
abbrev pub is_there : (name text : List ℕ) → TextFile → Bool
is_there name text f = (f.is_put && bytes_eq (string_bytes f.name) name) && bytes_eq (string_bytes f.text) text

-- what is recorded as there isn't put again
abbrev pub PutsUnless : (there : Bool) → (folder name text : List ℕ) → List Act → (is_put : Bool) → Type 0
PutsUnless true folder name text acts is_put = (acts ≡ []) × (is_put ≡ true)
PutsUnless false folder name text acts is_put = IsPut folder name text acts is_put

abbrev pub PutsOnce : (folder : List ℕ) → List TextFile → (name text : List ℕ) → List Act → (is_put : Bool) → Type 0
PutsOnce folder old name text acts is_put = PutsUnless (list_any (is_there name text) old) folder name text acts is_put

-- ---- which files there are

-- a file's name and text
pub record FileValue : Type 0 where
  pub name : List ℕ
  pub text : List ℕ

abbrev pub file_value : TextFile → FileValue
file_value f = record { name = string_bytes f.name; text = string_bytes f.text }

-- the name of a path's file
-- Example: main.conf, and of x/y anchor+x+y.conf.
abbrev pub after_plus : Name → List ℕ
after_plus n = 43 ∷ n

abbrev pub file_name : Path → List ℕ
file_name [] = codes "main.conf"
file_name (n ∷ p) = (codes "anchor" ++ flat_map after_plus (n ∷ p)) ++ codes ".conf"

-- the file of a ruleset
abbrev pub file_at : Text → FileValue
file_at t = record { name = file_name t.path; text = t.text }

-- the file has this name
abbrev pub is_named : (name : List ℕ) → FileValue → Bool
is_named name f = bytes_eq f.name name

-- files, and an empty one for the main ruleset where it has none
abbrev pub with_main : List FileValue → List FileValue
with_main files =
    if list_any (is_named (codes "main.conf")) files then files
    else files ++ record { name = codes "main.conf"; text = [] } ∷ []

-- the files of a configuration: those of its rulesets, and main.conf in any case
abbrev pub files_of : Configuration → List FileValue
files_of c = with_main (map file_at (texts_of c))

-- a file has to be emptied: none of these has its name, and it isn't recorded as empty
abbrev pub is_gone : List FileValue → TextFile → Bool
is_gone files old =
    not (list_any (is_named (string_bytes old.name)) files) && not ((length (string_bytes old.text) == 0) && is_put old)

-- a file without text
abbrev pub emptied : TextFile → FileValue
emptied old = record { name = string_bytes old.name; text = [] }

-- files, and empty ones in the place of those before that have to be emptied
-- Example: main.conf, where anchor+x.conf has a ruleset: main.conf, and anchor+x.conf without text.
abbrev pub with_gone : List FileValue → List TextFile → List FileValue
with_gone files [] = files
with_gone files (old ∷ olds) = with_gone (if is_gone files old then files ++ emptied old ∷ [] else files) olds

-- ---- what is written for a configuration

-- Files are put one after the other, of which these are recorded: what is done, and what is recorded then.
-- Example: of two files the first is there already: the acts are those of the second alone.
pub data Puts (folder : List ℕ) (old : List TextFile) : List FileValue → List Act → List TextFile → Type 0 where
  NoFile : Puts folder old [] [] []
  File : {files : List FileValue} {acts : List Act} {new : List TextFile} (f : TextFile) (more : List Act) →
      Puts folder old files acts new → PutsOnce folder old (string_bytes f.name) (string_bytes f.text) more f.is_put →
      Puts folder old (files ++ file_value f ∷ []) (acts ++ more) (new ++ f ∷ [])

-- a front of the files was put
abbrev pub PutsFront : (folder : List ℕ) → List TextFile → List FileValue → List Act → Type 0
PutsFront folder old files acts = (front : List FileValue) × (rest : List FileValue) × (new : List TextFile)
    × (files ≡ front ++ rest) × Puts folder old front acts new

-- The files of a configuration were put, with an empty one for each path that is gone, and that is recorded, with
-- whether one couldn't be written: its rulesets give it. Where they don't, which is 91, nothing is done.
-- Example: x/y is gone: anchor+x+y.conf is written without text.
abbrev pub ArePutFor : Configuration → (old : TextFiles) → List Act → (new : TextFiles) → Type 0
ArePutFor c old acts new = ((new ≡ old) × (acts ≡ []) × (AreDoneTo (texts_of c) c → ⊥))
    ⊎ (AreDoneTo (texts_of c) c × (new.folder ≡ old.folder) × (new.is_behind ≡ not (list_all is_put new.written.items))
    × Puts (string_bytes old.folder) old.written.items (with_gone (files_of c) old.written.items) acts
    new.written.items)

-- a front of them was put
abbrev pub AreLeftFor : Configuration → (old : TextFiles) → List Act → Type 0
AreLeftFor c old acts =
    PutsFront (string_bytes old.folder) old.written.items (with_gone (files_of c) old.written.items) acts

-- they were put, where files are wanted
abbrev pub FilesWritten : Configuration → (old : Option TextFiles) → List Act → (new : Option TextFiles) → Type 0
FilesWritten c None acts new = (new ≡ None) × (acts ≡ [])
FilesWritten c (Some old) acts None = ⊥
FilesWritten c (Some old) acts (Some new) = ArePutFor c old acts new

-- they were, or all is as it was
abbrev pub FilesWrittenIf : (wanted : Bool) → Configuration → (old : Option TextFiles) → List Act →
    (new : Option TextFiles) → Type 0
FilesWrittenIf true c old acts new = FilesWritten c old acts new
FilesWrittenIf false c old acts new = (new ≡ old) × (acts ≡ [])

-- a front of them was put, where files are wanted
abbrev pub FilesLeft : Configuration → (old : Option TextFiles) → List Act → Type 0
FilesLeft c None acts = acts ≡ []
FilesLeft c (Some old) acts = AreLeftFor c old acts

-- a front was, or nothing was done
abbrev pub FilesLeftIf : (wanted : Bool) → Configuration → (old : Option TextFiles) → List Act → Type 0
FilesLeftIf true c old acts = FilesLeft c old acts
FilesLeftIf false c old acts = acts ≡ []

-- a file couldn't be written
abbrev pub are_behind : Option TextFiles → Bool
are_behind None = false
are_behind (Some files) = files.is_behind
