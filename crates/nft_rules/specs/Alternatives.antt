-- What a rule asks of a packet, as lists of matches of which one has to hold.
use Rattle.std.specs.Prelude.{true, false, ◌==◌, List, [], ◌∷◌, ◌++◌, Option, Some, None, if◌then◌else◌}
use Rattle.std.specs.List.{flat_map}
use Rattle.pf_addr.specs.declared.addr.Family.{Family}
-- what is asked of the protocol
pub use Rattle.nft_rules.specs.declared.alternative.Protocol.{Protocol}
pub use Rattle.nft_rules.specs.declared.alternative.Protocol.TheVariants.{AnyProtocol, Only, NotTcp}
use Rattle.nft_rules.specs.Subset.{Match, OfFamily, OfProtocol, family_eq}

-- what is asked of the family and of the protocol, and what else
pub record Alternative : Type 0 where
  pub family : Option Family
  pub protocol : Protocol
  pub tests : List Match

-- what is asked of the family, as matches: one, or none where any family will do
abbrev pub family_matches : Option Family → List Match
family_matches None = []
family_matches (Some f) = OfFamily f ∷ []

-- what is asked of the protocol, as matches: one, or none where any protocol will do
abbrev pub protocol_matches : Protocol → List Match
protocol_matches AnyProtocol = []
protocol_matches (Only n) = OfProtocol n false ∷ []
protocol_matches NotTcp = OfProtocol 6 true ∷ []

-- the matches as a rule has them: the family and the protocol are before what asks for a part of their headers
abbrev pub matches_of : Alternative → List Match
matches_of a = family_matches a.family ++ (protocol_matches a.protocol ++ a.tests)

-- ---- both

-- what both ask, none if it can't hold
abbrev pub both_families : Option Family → Option Family → Option (Option Family)
both_families None f = Some f
both_families (Some f) None = Some (Some f)
both_families (Some f) (Some g) = if family_eq f g then Some (Some f) else None

-- what both ask of the protocol, none if it can't hold
abbrev pub both_protocols : Protocol → Protocol → Option Protocol
both_protocols AnyProtocol q = Some q
both_protocols (Only n) AnyProtocol = Some (Only n)
both_protocols (Only n) (Only m) = if n == m then Some (Only n) else None
both_protocols (Only n) NotTcp = if n == 6 then None else Some (Only n)
both_protocols NotTcp AnyProtocol = Some NotTcp
both_protocols NotTcp (Only n) = if n == 6 then None else Some (Only n)
both_protocols NotTcp NotTcp = Some NotTcp

-- one alternative of a family, a protocol and tests; none where the family or the protocol can't hold
-- Example: UDP, and any but TCP: UDP.
abbrev pub made : Option (Option Family) → Option Protocol → List Match → List Alternative
made None q tests = []
made (Some f) None tests = []
made (Some f) (Some q) tests = record { family = f; protocol = q; tests = tests } ∷ []

-- what two alternatives ask at once, as one; none where their families or their protocols exclude each other
-- Example: TCP alone and UDP alone: none.
abbrev pub joined : Alternative → Alternative → List Alternative
joined a b = made (both_families a.family b.family) (both_protocols a.protocol b.protocol) (a.tests ++ b.tests)

-- one of these and one of those
unfoldable pub both : List Alternative → List Alternative → List Alternative
both xs ys = flat_map (λ a. flat_map (joined a) ys) xs
