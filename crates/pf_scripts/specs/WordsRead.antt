-- The change that a line of pfctl's arguments asks for, and what the code's values stand for.
use Rattle.std.specs.Prelude.{◌≡◌, ℕ, false, List, Result, Ok, Err, String, string_bytes}
use Rattle.clap.specs.Words.{Text}
use Rattle.pf_entry.specs.Entry.{Command}
use Rattle.pf_entry.specs.Owned.{command_value}
use Rattle.pf_arguments.specs.Asked.{ActionValue, Change, is_too_long}
use Rattle.pf_scripts.specs.declared.words_read.WordsRead.{WordsRead}
use Rattle.pf_scripts.specs.declared.words_read.WordsRead.TheVariants as rust
use Rattle.pf_scripts.specs.declared.words_read.ChangeFault.{ChangeFault}
use Rattle.pf_scripts.specs.declared.words_read.ChangeFault.TheVariants as fault
use Rattle.pf_scripts.specs.Ctl.{WordsValue, Asks, Prints, action_in}
use Rattle.pf_scripts.specs.Seen.{printed_value}

-- the change of an action; one that is none is 40
abbrev pub change_of : Result ActionValue ℕ → Result Command ℕ
change_of (Err code) = Err code
change_of (Ok (Change command)) = Ok command
change_of (Ok action) = Err 40

-- the change that arguments ask for, with the text of their file, or the number of the refusal
abbrev pub change_in : List Text → List ℕ → Result Command ℕ
change_in words text = change_of (action_in words text)

-- ---- the code's values

-- the value of read arguments in code
abbrev pub words_value : WordsRead → WordsValue
words_value (rust.Change command) = Asks (command_value command)
words_value (rust.Printed printed) = Prints (printed_value printed)

-- a change that is handed back has an entry
abbrev pub AsksShort : WordsRead → Type 0
AsksShort (rust.Change command) = is_too_long (command_value command) ≡ false
AsksShort (rust.Printed printed) = Unit {0}

-- what is asked for, or its refusal; out of memory isn't specified
abbrev pub IsAskedAs : {Z V : Type 0} → Result Z ChangeFault → (Z → V) → Result V ℕ → Type 0
IsAskedAs (Ok x) value asked = asked ≡ Ok (value x)
IsAskedAs (Err fault.Memory) value asked = Unit {0}
IsAskedAs (Err (fault.Refused code)) value asked = asked ≡ Err code

-- what is listed, or the number of the refusal
abbrev pub listed_value : {A : Type 0} → Result (String A) ℕ → Result (List ℕ) ℕ
listed_value (Ok output) = Ok (string_bytes output)
listed_value (Err code) = Err code
