-- An end of a packet that is a member's, with its port or without.
use Rattle.std.specs.Prelude.{Bool, true, false, List}
use Rattle.pf_addr.specs.declared.addr.Family.{Family}
use Rattle.nft_rules.specs.declared.subset.Side.{Side}
use Rattle.nft_rules.specs.declared.guard.Member.{Member}
use Rattle.nft_rules.specs.Guard.{GuardMatch, AtMember, AtHome}

abbrev pub end_match : (has_port : Bool) → Side → Family → List Member → GuardMatch
end_match true = AtMember
end_match false = AtHome
