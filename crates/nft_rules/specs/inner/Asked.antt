-- What the code's alternatives stand for.
use Rattle.std.specs.Prelude.{Bool, true, false, List, Option, map}
use Rattle.pf_addr.specs.declared.addr.Family.{Family}
use Rattle.nft_rules.specs.declared.alternative.Alternative as code_alternative
use Rattle.nft_rules.specs.Subset.{Side, Where}
use Rattle.nft_rules.specs.Alternatives.{Alternative}
use Rattle.nft_rules.specs.Rendering.{of_place, off_place}
use Rattle.nft_rules.specs.Seen.{match_of}

abbrev pub alternative_of : code_alternative.Alternative → Alternative
alternative_of a = record { family = a.family; protocol = a.protocol; tests = map match_of a.tests.items }

-- the address of that end is in that place, or, negated, not
abbrev pub in_place : (negated : Bool) → Side → Family → Option Where → List Alternative
in_place false = of_place
in_place true = off_place
