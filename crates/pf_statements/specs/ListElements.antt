-- What may be behind an element of a list.
use Rattle.std.specs.Prelude.{Bool, true, List, ◌&&◌, not, codes}
use Rattle.pf_tokens.specs.declared.symbol.Symbol.TheVariants.{Slash, Between, Outside}
use Rattle.pf_tokens.specs.Tokens.{Token}
use Rattle.pf_tokens.specs.Productions.{begins, begins_symbol}

-- whatever there is: an interface, a protocol and a type of ICMP have one token
abbrev pub anything : List Token → Bool
anything rest = true

-- behind an address a hyphen begins the end of a range, and a slash a length
abbrev pub may_follow_host : List Token → Bool
may_follow_host rest = not (begins (codes "-") rest) && not (begins_symbol Slash rest)

-- behind a port one of these signs begins the end of a range
abbrev pub may_follow_port : List Token → Bool
may_follow_port rest = not (begins_symbol Between rest) && not (begins_symbol Outside rest)
