use Rattle.std.proofs.Common.{◌≡◌, ◌++◌, map, drop}
use Rattle.toml.specs.View.{items_view}
use Rattle.cli_files.specs.Settings.{texts_of}
use Rattle.cli_files.proofs.settings.texts_in.Given as goal

-- the strings so far, and those of the values that are left
abbrev pub invariant-loop-value : goal.invariant-loop-value
invariant-loop-value l = map (λ s. s.now) l.texts.items ++ texts_of (items_view (drop l.value-index l.values)) ≡ texts_of (items_view l.values)
