use Rattle.std.proofs.Common.{codes}
use Rattle.std.specs.Str.Parse.{ParsesUnsigned, ExplainsUnsignedError, HasUnsignedDigitsIfOk}
use Rattle.clap.specs.Words.{found_of, one_text, rows_of}
use Rattle.cli_follow.proofs.Endings.{in_rows, turns_are, to_places, refused_first, no_memory}
use Rattle.cli_follow.proofs.running.followed.Goals as goal

pub returns : goal.returns
returns g c =
    let wanted = rw c.in-Ok-Ok.field-0-is at c.in-Ok-Ok.ensures in (
      c.unwrap_or-turns.result,
      (
        in_rows (found_of c.args.matches.now) c.unwrap_or-turns.result (turns_are (λ t r. ParsesUnsigned 64 10 t r × ExplainsUnsignedError 10 t r × HasUnsignedDigitsIfOk t r)
            (one_text (found_of c.args.matches.now) (codes "turns")) c.get_one.result c.unwrap_or-turns.result c.get_one.ensures.none c.get_one.ensures.value (λ t x h. h.0) c.unwrap_or-turns.ensures),
        to_places (g.C.Control.exchanged c.args.control.now) (g.C.Control.exchanged c.follow-ended.new.control) (g.F.Folders.done c.args.folders.now) (g.F.Folders.done c.follow-ended.new.folders) (g.RT.Sources.has c.args.rt.now)
            (rows_of (found_of c.args.matches.now)) c.in-Ok-Ok.places c.unwrap_or-turns.result c.status_of.result (g.W.Write.contents c.args.writer.now) (g.W.Write.contents c.follow-ended.new.writer)
            wanted (c.follow-ended.result, (c.follow-ended.ensures, c.status_of.ensures)),
      ),
    )

pub returns-in-Ok-Err : goal.returns-in-Ok-Err
returns-in-Ok-Err g c =
    let why = rw c.in-Ok-Err.field-0-is at c.in-Ok-Err.ensures in (
      c.unwrap_or-turns.result,
      (
        in_rows (found_of c.args.matches.now) c.unwrap_or-turns.result (turns_are (λ t r. ParsesUnsigned 64 10 t r × ExplainsUnsignedError 10 t r × HasUnsignedDigitsIfOk t r)
            (one_text (found_of c.args.matches.now) (codes "turns")) c.get_one.result c.unwrap_or-turns.result c.get_one.ensures.none c.get_one.ensures.value (λ t x h. h.0) c.unwrap_or-turns.ensures),
        refused_first (g.C.Control.exchanged c.args.control.now) (g.F.Folders.done c.args.folders.now) (g.RT.Sources.has c.args.rt.now)
            (rows_of (found_of c.args.matches.now)) c.unwrap_or-turns.result c.in-Ok-Err.code c.refused.result (g.W.Write.contents c.args.writer.now) why c.refused.ensures,
      ),
    )

pub returns-in-Err : goal.returns-in-Err
returns-in-Err g c = (
  c.unwrap_or-turns.result,
  (
    in_rows (found_of c.args.matches.now) c.unwrap_or-turns.result (turns_are (λ t r. ParsesUnsigned 64 10 t r × ExplainsUnsignedError 10 t r × HasUnsignedDigitsIfOk t r)
        (one_text (found_of c.args.matches.now) (codes "turns")) c.get_one.result c.unwrap_or-turns.result c.get_one.ensures.none c.get_one.ensures.value (λ t x h. h.0) c.unwrap_or-turns.ensures),
    no_memory (g.C.Control.exchanged c.args.control.now) (g.F.Folders.done c.args.folders.now) (g.RT.Sources.has c.args.rt.now)
        (rows_of (found_of c.args.matches.now)) c.unwrap_or-turns.result c.memory.result (g.W.Write.contents c.args.writer.now) c.memory.ensures,
  ),
)
