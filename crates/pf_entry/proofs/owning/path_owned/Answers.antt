use Rattle.std.proofs.Common.{rules}
use Rattle.pf_entry.proofs.Kept.{path_fits}
use Rattle.pf_entry.proofs.owning.path_owned.Goals as goal

pub unreachable-requires : goal.unreachable-requires
unreachable-requires c = let fits = path_fits c.args.names.now in search rules
