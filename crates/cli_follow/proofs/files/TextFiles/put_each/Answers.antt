use Rattle.std.proofs.Common.{◌++◌, ◌∷◌, [], map, refl, rules}
use Rattle.std.specs.Prelude.{string_bytes}
use Rattle.std.specs.Vec.Iter.{into_iter_items}
use Rattle.cli_follow.specs.declared.files.TextFile.{TextFile}
use Rattle.cli_follow.specs.Files.{Acted, PutsFront, file_value}
use Rattle.cli_follow.proofs.Kept.{one_more}
use Rattle.cli_follow.proofs.Puts.{puts_none, puts_more, puts_front, on_err}
use Rattle.cli_follow.proofs.Runs.{adds_nothing}
use Rattle.cli_follow.proofs.files.TextFiles.put_each.Goals as goal

pub loop-file-init : goal.loop-file-init
loop-file-init g c = record {
  put = puts_none (g.F.Folders.done c.args.folders.now) (string_bytes c.args.self.now.folder) c.args.self.now.written.items c.new-put.result.items c.new-put.ensures.items;
  files = search rules;
}

pub loop-file-preserved : goal.loop-file-preserved
loop-file-preserved g c =
    let file : TextFile = record { name = c.in-Some.file.name; text = c.in-Some.file.text; is_put = c.in_ok-is_put.is_put } in
    record {
      put = puts_more (g.F.Folders.done c.args.folders.now) (g.F.Folders.done c.loop-file.folders) (g.F.Folders.done c.put_once.new.folders) (string_bytes c.args.self.now.folder)
          c.args.self.now.written.items c.loop-file.put.items c.push.new.self.items file c.as_str.result.now c.as_str-in-loop-file.result.now c.as_str.ensures.value
          c.as_str-in-loop-file.ensures.value c.in_ok-push.ensures.items c.loop-file.invariant.put c.in_ok-is_put.ensures.put;
      files = one_more file_value c.loop-file.put.items c.push.new.self.items _ c.in-Some.file _ _ _ c.loop-file.invariant.files c.in_ok-push.ensures.items
          c.in-Some.ensures.steps.0 refl;
    }

pub returns-in_err-push-clause-front : goal.returns-in_err-push-clause-front
returns-in_err-push-clause-front g c =
    let x = g.F.Folders.done c.args.folders.now in
    let z = g.F.Folders.done c.put_once.new.folders in
    let folder = string_bytes c.args.self.now.folder in
    let old = c.args.self.now.written.items in
    let file : TextFile = record { name = c.in-Some.file.name; text = c.in-Some.file.text; is_put = c.in_ok-is_put.is_put } in
    let after = c.loop-file.put.items ++ file ∷ [] in
    on_err c.from_residual-in_err-push.result (Acted x z (λ acts. PutsFront folder old (map file_value c.args.files.items) acts))
    (puts_front x z z folder old after (map file_value (into_iter_items c.next.new.self)) (map file_value c.args.files.items)
    (one_more file_value c.loop-file.put.items after file c.in-Some.file _ (into_iter_items c.next.new.self) _ c.loop-file.invariant.files refl c.in-Some.ensures.steps.0 refl)
    (puts_more x (g.F.Folders.done c.loop-file.folders) z folder old c.loop-file.put.items after file c.as_str.result.now c.as_str-in-loop-file.result.now c.as_str.ensures.value
    c.as_str-in-loop-file.ensures.value refl c.loop-file.invariant.put c.in_ok-is_put.ensures.put)
    (adds_nothing z))
