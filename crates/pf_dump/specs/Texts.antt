-- rulesets for pfctl(8), one for each path.
use Rattle.std.specs.Prelude.{◌++◌, ◌||◌, ℕ, Bool, false, List, [], ◌∷◌, fold, filter, not, if◌then◌else◌}
use Rattle.std.specs.List.{list_any, list_all}
use Rattle.pf_rules.specs.declared.profile.Profile.TheVariants.{Two}
use Rattle.pf_rules.specs.Names.{is_path_name}
use Rattle.pf_config.specs.Map.{Configuration, Path, paths_in}
use Rattle.pf_config.specs.Changes.{is_empty}
use Rattle.pf_entry.specs.Entry.{load}
use Rattle.pf_command.specs.Effect.{after_command, empty}
use Rattle.pf_dump.specs.Contents.{IsSame}

-- a path and its text
pub record Text : Type 0 where
  pub path : Path
  pub text : List ℕ

-- a path that isn't main's and that a command may name: no name in it is an unnamed block's
abbrev pub is_anchor : Path → Bool
is_anchor [] = false
is_anchor (n ∷ p) = list_all is_path_name (n ∷ p)

-- main has a ruleset where something is there, or an interface is skipped
abbrev pub has_main : Configuration → Bool
has_main c = not (is_empty c.skip) || list_any is_empty (paths_in c.anchors)

abbrev pub main_if : Bool → List Path
main_if there = if there then [] ∷ [] else []

-- the paths that have a ruleset of their own: what is below an unnamed block is in the text of the path above it
-- Example: of x, x/_1 and main: x, then main.
abbrev pub text_paths : Configuration → List Path
text_paths c = filter is_anchor (paths_in c.anchors) ++ main_if (has_main c)

-- after pfctl -a PATH -f - of a ruleset; one that is refused changes nothing
abbrev pub after_text : Configuration → Text → Configuration
after_text c t = after_command c (load t.path Two t.text)

-- after all of them, in their order
abbrev pub after_texts : List Text → Configuration
after_texts ts = fold after_text empty ts

-- the rulesets, loaded into an empty configuration one after the other, give this one
-- Example: an empty text for an anchor with a rule doesn't.
abbrev pub GivenBy : List Text → Configuration → Type 0
GivenBy ts c = IsSame (after_texts ts) c
