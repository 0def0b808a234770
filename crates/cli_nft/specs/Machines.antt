-- The interfaces of a machine as a file lists them: a line an interface, its name and then its groups, between blanks.
use Rattle.std.specs.Prelude.{ℕ, Bool, ◌&&◌, List, [], ◌∷◌, ◌++◌, Option, Some, None, length, map, not, nat_lt}
use Rattle.std.specs.Prelude.{if◌then◌else◌}
use Rattle.std.specs.List.{list_any, list_all}
use Rattle.std.specs.Str.{bytes_eq}
use Rattle.pf_rules.specs.Words.{is_interface_text}
use Rattle.pf_rules.specs.Names.{Name}
use Rattle.pf_eval.specs.PacketTexts.{words}
use Rattle.pf_scripts.specs.Lines.{lines}
use Rattle.nft_rules.specs.Rendering.{Machine, known}

-- whether the machine may have one more, of this name: no interface is listed twice
-- Example: 9em is no name.
abbrev pub may_have : Machine → Name → Bool
may_have m name = nat_lt (length m) 1024 && not (list_any (λ n. bytes_eq n name) (known m))

-- strings, if each is spelled as the name of an interface is
abbrev pub names_if : List (List ℕ) → Option (List Name)
names_if ws = if list_all is_interface_text ws then Some ws else None

-- a machine with what a line lists; one without names is passed over
abbrev pub with_names : Machine → Option (List Name) → Option Machine
with_names m None = None
with_names m (Some []) = Some m
with_names m (Some (name ∷ groups)) = if may_have m name then Some (m ++ (name, groups) ∷ []) else None

-- what is made of a machine, none where there is none
abbrev pub and_then : Option Machine → (Machine → Option Machine) → Option Machine
and_then None f = None
and_then (Some m) f = f m

-- with what further lines list
abbrev pub machine_with : Machine → List (List (List ℕ)) → Option Machine
machine_with m [] = Some m
machine_with m (ws ∷ lines) = and_then (with_names m (names_if ws)) (λ n. machine_with n lines)

-- the machine of a string, none where a line isn't as it should be
-- Example: em0 lan.
unfoldable pub machine_in : List ℕ → Option Machine
machine_in text = machine_with [] (map (λ l. words l.content) (lines text))
