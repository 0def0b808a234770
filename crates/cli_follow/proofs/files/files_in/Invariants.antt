use Rattle.std.proofs.Common.{◌≡◌, ◌++◌, map}
use Rattle.std.specs.Vec.Iter.{into_iter_items}
use Rattle.pf_dump.specs.Seen.{text_of}
use Rattle.cli_follow.specs.Files.{file_at, file_value}
use Rattle.cli_follow.proofs.files.files_in.Given as goal

-- the files so far, and those of the rulesets that are left
abbrev pub invariant-loop-it : goal.invariant-loop-it
invariant-loop-it l = map file_value l.files.items ++ map file_at (map text_of (into_iter_items l.it-iterator))
    ≡ map file_at (map text_of l.fn.texts.items)
