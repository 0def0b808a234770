use Rattle.std.proofs.Common.{[], sym, ◌∙◌}
use Rattle.std.proofs.lemmas.List.{append-nil}
use Rattle.px_wire.proofs.Heads.{head_again}
use Rattle.px_wire.proofs.head.Head.read.Goals as goal

pub returns-clause-spelled : goal.returns-clause-spelled
returns-clause-spelled c = λ g from to message d. c.head_in.ensures ∙ head_again g from to message c.args.bytes.now [] c.args.bytes.now d (sym (append-nil c.args.bytes.now))

pub returns-clause-begins : goal.returns-clause-begins
returns-clause-begins c = λ g from to message datagram more d is. c.head_in.ensures ∙ head_again g from to message datagram more c.args.bytes.now d is
