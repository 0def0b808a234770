use Rattle.std.proofs.Common.{◌∙◌, sym}
use Rattle.cli_follow.proofs.Same.{differ, other_members}
use Rattle.cli_follow.proofs.kernel.Kernel.set_members.Goals as goal

pub returns-clause-other : goal.returns-clause-other
returns-clause-other c =
    let d = differ c.as_slice.result.now c.as_slice-2.result.now c.ne-is_new.result c.ne-is_new.ensures in
    other_members c.args.self.now.members.items c.args.members.items c.ne-is_new.result (
      λ e. sym c.as_slice.ensures.value ∙ d.0 e ∙ c.as_slice-2.ensures.value,
      λ e. d.1 (c.as_slice.ensures.value ∙ e ∙ sym c.as_slice-2.ensures.value),
    )
