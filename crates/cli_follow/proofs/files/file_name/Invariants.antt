use Rattle.std.proofs.Common.{◌≡◌, ◌++◌, drop, codes, string_bytes}
use Rattle.std.specs.List.{flat_map}
use Rattle.cli_follow.specs.Files.{after_plus}
use Rattle.cli_follow.proofs.files.file_name.Given as goal

-- the names so far, and those that are left
abbrev pub invariant-loop-part : goal.invariant-loop-part
invariant-loop-part l = string_bytes l.name ++ flat_map after_plus (drop l.part-index l.path)
    ≡ codes "anchor" ++ flat_map after_plus l.path
