use Rattle.std.proofs.Common.{inl}
use Rattle.cli_follow.proofs.Asked.{all_with}
use Rattle.cli_follow.proofs.control.ControlSocketControl.entries.Goals as goal

pub returns : goal.returns
returns g c = λ es before. all_with _ es _ before (inl (rw c.in_ok-target.ensures.ok at c.read_at.ensures))
