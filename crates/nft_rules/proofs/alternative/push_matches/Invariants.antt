use Rattle.std.proofs.Common.{◌≡◌, ◌++◌, map, drop}
use Rattle.nft_rules.specs.Seen.{match_of}
use Rattle.nft_rules.proofs.alternative.push_matches.Given as goal

abbrev pub invariant-loop-test : goal.invariant-loop-test
invariant-loop-test l = map match_of l.all.items ++ map match_of (drop l.test-index l.more) ≡ map match_of l.fn.all.items ++ map match_of l.fn.more
