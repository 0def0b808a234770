-- one character more
use Rattle.std.proofs.Common.{[], ◌++◌, ◌∙◌, rules, append_assoc, append-nil}
use Rattle.std.proofs.Output.{has_written_append, has_written_of_eq}
use Rattle.std.proofs.lemmas.Str.{IsUtf8-past_char, chars_past_char}
use Rattle.std.proofs.StrCases.{chars_of_empty}
use Rattle.cli_io.specs.Shown.{shown_char}
use Rattle.cli_io.proofs.shown.ShownDisplay.fmt.Goals as goal

pub loop-c-init : goal.loop-c-init
loop-c-init g c = (search rules, λ plain. ([], search rules, search rules))

pub loop-c-preserved : goal.loop-c-preserved
loop-c-preserved g c =
    let held = c.loop-c.invariant in
    let parts = c.in-Some.ensures.steps.0 in
    let step = chars_past_char _ _ c.in-Some.c held.0 parts in (
      IsUtf8-past_char _ _ c.in-Some.c held.0 parts,
      λ plain.
          let so_far = held.1 plain in (
            so_far.0 ++ shown_char c.in-Some.c,
            has_written_append _ _ _ _ _ _ so_far.1 (search rules),
            append_assoc so_far.0 _ _ ∙ (rw step at so_far.2),
          ),
    )

pub returns-clause-writes : goal.returns-clause-writes
returns-clause-writes g c = λ plain _.
    let so_far = c.loop-c.invariant.1 plain in
    has_written_of_eq _ _ _ _ _ (rw (chars_of_empty _ c.in-None.ensures.steps.0.0, append-nil) at so_far.2) so_far.1
