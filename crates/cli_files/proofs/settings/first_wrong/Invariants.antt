use Rattle.std.proofs.Common.{◌≡◌}
use Rattle.toml.specs.View.{members_view}
use Rattle.cli_files.specs.Settings.{first_wrong}
use Rattle.cli_files.proofs.settings.first_wrong.Given as goal

-- the first wrong key is one of the keys that are left
abbrev pub invariant-keys : goal.invariant-keys
invariant-keys l =
    (goal.iterator-keys).can_next l.key-iterator × (goal.iterator-keys).is_finite l.key-iterator
    × (first_wrong (members_view l.key-iterator) ≡ first_wrong (members_view l.table.entries))
