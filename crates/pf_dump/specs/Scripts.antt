-- The configuration that a script leaves.
use Rattle.std.specs.Prelude.{ℕ, List, [], ◌∷◌, Option, Some, None}
use Rattle.pf_config.specs.Map.{Configuration}
use Rattle.pf_command.specs.Effect.{empty}
use Rattle.pf_scripts.specs.Lines.{ScriptLine, lines}
use Rattle.pf_scripts.specs.Ctl.{WaitingWords, pfctl, stepped}
use Rattle.pf_dump.specs.Contents.{IsSame}

-- the end of the script ends a ruleset
-- Example: pfctl -f - and pass, without a line ., loads pass.
abbrev pub at_last : Configuration → Option WaitingWords → Configuration
at_last c None = c
at_last c (Some w) = (pfctl c w.words w.text).configuration

-- after these lines, each as a script's
abbrev pub after_lines : Configuration → Option WaitingWords → List ScriptLine → Configuration
after_lines c waiting [] = at_last c waiting
after_lines c waiting (l ∷ ls) = let s = stepped c waiting l in after_lines s.configuration s.waiting ls

-- after a script that begins with nothing
-- Example: of an empty script it is the empty one.
unfoldable pub configured : List ℕ → Configuration
configured script = after_lines empty None (lines script)

-- the script, done on an empty configuration, gives this one
-- Example: pfctl -t t -T add 10/8 twice gives what it gives once.
abbrev pub Gives : List ℕ → Configuration → Type 0
Gives script c = IsSame (configured script) c
