-- A script, or rulesets, of which each line or ruleset is a change that is made.
use Rattle.std.specs.Prelude.{ℕ, List, [], ◌∷◌, ◌++◌, Option, Some, None, Result, Ok, Err, codes}
use Rattle.std.specs.Prelude.{bytes_eq, if◌then◌else◌}
use Rattle.pf_rules.specs.declared.profile.Profile.TheVariants.{Two}
use Rattle.pf_rules.specs.Names.{path_if}
use Rattle.pf_config.specs.Map.{Configuration, Path}
use Rattle.pf_entry.specs.Entry.{load}
use Rattle.pf_entry.specs.Owned.{is_over}
use Rattle.pf_command.specs.Effect.{Effect, RefusedCommand, effect, after_command, empty}
use Rattle.pf_scripts.specs.Lines.{ScriptLine, lines, bytes_of, words_in}
use Rattle.pf_scripts.specs.Ctl.{WaitingWords, WordsValue, Asks, Prints, words_read, takes_text}
use Rattle.pf_dump.specs.Contents.{IsSame}
use Rattle.pf_dump.specs.Texts.{Text}

-- ---- scripts

abbrev pub Word : Type 0
Word = List ℕ

-- a change is made, refused or not, if an entry has room for it; a line that asks for none ends the script
abbrev pub change_done : Configuration → WordsValue → Option Configuration
change_done c (Asks command) =
    if is_over (record { origin = 0; number = 0; command = command }) then None else Some (after_command c command)
change_done c (Prints printed) = None

-- the configuration behind a line, and what waits for its text
pub record Place : Type 0 where
  pub configuration : Configuration
  pub waiting : Option WaitingWords

-- no text is waited for
abbrev pub at_once : Option Configuration → Option Place
at_once None = None
at_once (Some c) = Some (record { configuration = c; waiting = None })

abbrev pub waits : Configuration → List Word → List ℕ → Option Place
waits c words text = Some (record { configuration = c; waiting = Some (record { words = words; text = text }) })

-- a line of pfctl's arguments, which may wait for its text
abbrev pub pfctl_done : Configuration → List Word → Option Place
pfctl_done c words = if takes_text words then waits c words [] else at_once (change_done c (words_read c words []))

-- a line with arguments; an empty one does nothing
abbrev pub words_done : Configuration → Option (List Word) → Option Place
words_done c None = None
words_done c (Some []) = at_once (Some c)
words_done c (Some (w ∷ ws)) = if bytes_eq w (codes "pfctl") then pfctl_done c (w ∷ ws) else None

-- a line: one of a ruleset, up to a line `.`, or one with arguments
abbrev pub line_done : Configuration → Option WaitingWords → ScriptLine → Option Place
line_done c None l = words_done c (words_in l.content)
line_done c (Some w) l =
    if bytes_eq l.content (codes ".") then at_once (change_done c (words_read c w.words w.text))
    else waits c w.words (w.text ++ bytes_of l)

-- a ruleset must have its end
abbrev pub end_done : Configuration → Option WaitingWords → Option Configuration
end_done c None = Some c
end_done c (Some w) = None

-- what follows, if there is something to follow on
abbrev pub followed : {X Y : Type 0} → Option X → (X → Option Y) → Option Y
followed None later = None
followed (Some x) later = later x

-- the configuration behind these lines; none where one of them is no change, or a ruleset has no end
abbrev pub lines_done : Configuration → Option WaitingWords → List ScriptLine → Option Configuration
lines_done c waiting [] = end_done c waiting
lines_done c waiting (l ∷ ls) =
    followed (line_done c waiting l) (λ (s : Place). lines_done s.configuration s.waiting ls)

-- after a script that begins with nothing
-- Example: of pfctl -s rules there is none, since that is no change.
unfoldable pub script_done : List ℕ → Option Configuration
script_done script = lines_done empty None (lines script)

-- there is such a configuration, and it is this one
abbrev pub IsSameIf : Option Configuration → Configuration → Type 0
IsSameIf None c = ⊥
IsSameIf (Some d) c = IsSame d c

-- each line of the script is a change, and it gives this configuration
abbrev pub IsDoneTo : List ℕ → Configuration → Type 0
IsDoneTo script c = IsSameIf (script_done script) c

-- ---- rulesets

-- a ruleset that is loaded, none where it is refused
abbrev pub loaded_if : Result Effect RefusedCommand → Option Configuration
loaded_if (Ok e) = Some e.configuration
loaded_if (Err refused) = None

abbrev pub load_done : Configuration → Option Path → List ℕ → Option Configuration
load_done c None text = None
load_done c (Some p) text = loaded_if (effect c (load p Two text))

abbrev pub text_done : Configuration → Text → Option Configuration
text_done c t = load_done c (path_if t.path) t.text

-- the configuration behind rulesets; none where one of them is refused
abbrev pub texts_done_from : Configuration → List Text → Option Configuration
texts_done_from c [] = Some c
texts_done_from c (t ∷ ts) = followed (text_done c t) (λ (d : Configuration). texts_done_from d ts)

unfoldable pub texts_done : List Text → Option Configuration
texts_done ts = texts_done_from empty ts

-- each ruleset is loaded, and they give this configuration
abbrev pub AreDoneTo : List Text → Configuration → Type 0
AreDoneTo ts c = IsSameIf (texts_done ts) c
