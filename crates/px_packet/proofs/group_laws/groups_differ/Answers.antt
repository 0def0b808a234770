use Rattle.px_packet.proofs.Grouping.{groups_differ}
use Rattle.px_packet.proofs.group_laws.groups_differ.Goals as goal

pub returns : goal.returns
returns c = groups_differ
