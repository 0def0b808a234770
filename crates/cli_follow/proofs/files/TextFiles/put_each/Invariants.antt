use Rattle.std.proofs.Common.{◌≡◌, ◌++◌, map}
use Rattle.std.specs.Prelude.{string_bytes}
use Rattle.std.specs.Vec.Iter.{into_iter_items}
use Rattle.cli_follow.specs.Files.{Acted, Puts, file_value}
use Rattle.cli_follow.proofs.files.TextFiles.put_each.Given as goal

-- the files so far were put, and the files are those that there were
abbrev pub invariant-loop-file : goal.invariant-loop-file
invariant-loop-file g l = record {
  put : Acted (g.F.Folders.done l.fn.folders) (g.F.Folders.done l.folders) (λ acts.
      Puts (string_bytes l.fn.self.folder) l.fn.self.written.items (map file_value l.put.items) acts l.put.items);
  files : map file_value l.put.items ++ map file_value (into_iter_items l.file-iterator) ≡ map file_value l.fn.files.items;
}
