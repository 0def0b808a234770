-- Whether a rule is for packets that come in or go out.
use Rattle.std.specs.Prelude.{List, drop, Option, Some, None, codes, if◌then◌else◌}
use Rattle.pf_tokens.specs.Tokens.{Token}
use Rattle.pf_tokens.specs.Productions.{begins}
use Rattle.pf_rules.specs.declared.parts.Direction.{Direction}
use Rattle.pf_rules.specs.declared.parts.Direction.TheVariants.{In, Out}

-- ["in" | "out"]
unfoldable pub direction_at : List Token → Option Direction × List Token
direction_at ts = if begins (codes "in") ts then (Some In, drop 1 ts)
    else (if begins (codes "out") ts then (Some Out, drop 1 ts) else (None, ts))
