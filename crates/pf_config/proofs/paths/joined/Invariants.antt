use Rattle.std.proofs.Common.{◌≡◌, ◌++◌, take}
use Rattle.pf_config.proofs.paths.joined.Given as goal

abbrev pub invariant-loop-name : goal.invariant-loop-name
invariant-loop-name l = l.names.items ≡ l.fn.path ++ take l.name-index l.more
