use Rattle.std.proofs.Common.{◌≡◌, drop, map}
use Rattle.cli_follow.specs.Files.{file_value, with_gone}
use Rattle.cli_follow.proofs.files.TextFiles.with_gone.Given as goal

-- the files so far, and those before that are left
abbrev pub invariant-loop-old : goal.invariant-loop-old
invariant-loop-old l = with_gone (map file_value l.files.items) (drop l.old-index l.written)
    ≡ with_gone (map file_value l.fn.files.items) l.written
