-- What is written of a configuration for pfctl(8).
use Rattle.std.specs.Prelude.{◌≡◌, ℕ, List, ◌++◌, codes}
use Rattle.std.specs.List.{flat_map}
use Rattle.pf_config.specs.Map.{Configuration, Path}
use Rattle.pf_command.specs.Arguments.{path_words}
use Rattle.pf_dump.specs.Done.{AreDoneTo}
use Rattle.pf_dump.specs.Texts.{Text}
use Rattle.pf_dump.specs.Written.{texts_of}

-- the command that loads a ruleset, as a comment
-- Example: # pfctl -a x/y -f -
abbrev pub comment : Path → List ℕ
comment p = codes "# pfctl " ++ (path_words p ++ codes "-f -\n")

-- a ruleset behind its comment
abbrev pub shown_text : Text → List ℕ
shown_text t = comment t.path ++ t.text

abbrev pub shown_texts : List Text → List ℕ
shown_texts ts = flat_map shown_text ts

-- the rulesets that are written of the configuration, which give it
abbrev pub ShowsTexts : Configuration → List ℕ → Type 0
ShowsTexts c bytes = AreDoneTo (texts_of c) c × (bytes ≡ shown_texts (texts_of c))
