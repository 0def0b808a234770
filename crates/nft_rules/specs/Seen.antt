-- What the code's values stand for.
use Rattle.std.specs.Prelude.{List, map}
use Rattle.nft_rules.specs.declared.subset.ChainName as code_chain_name
use Rattle.nft_rules.specs.declared.subset.ChainName.TheVariants as chain_name
use Rattle.nft_rules.specs.declared.subset.Note as code_note
use Rattle.nft_rules.specs.declared.subset.Note.TheVariants as note
use Rattle.nft_rules.specs.declared.subset.Statement as code_statement
use Rattle.nft_rules.specs.declared.subset.Statement.TheVariants as statement
use Rattle.nft_rules.specs.declared.subset.NftRule as code_rule
use Rattle.nft_rules.specs.declared.subset.Chain as code_chain
use Rattle.nft_rules.specs.declared.subset.NftRuleset as code_ruleset
use Rattle.nft_rules.specs.Subset.{ChainName, Base, At, Note, Unknown, Skip, Default, Spot, Statement, Ends, Jump}
use Rattle.nft_rules.specs.Subset.{NftRule, Chain, NftRuleset}
use Rattle.nft_rules.specs.declared.subset.SetName as code_set
use Rattle.nft_rules.specs.declared.subset.NamedSet as code_named
use Rattle.nft_rules.specs.declared.subset.Where as code_where
use Rattle.nft_rules.specs.declared.subset.Where.TheVariants as place
use Rattle.nft_rules.specs.declared.subset.Match as code_match
use Rattle.nft_rules.specs.declared.subset.Match.TheVariants as match
use Rattle.nft_rules.specs.Subset.{SetName, NamedSet, Where, From, InSet}
use Rattle.nft_rules.specs.Subset.{Match, OnInterface, OfFamily, OfProtocol, AtAddress, AtPort, WithFlags, OfType}
use Rattle.nft_rules.specs.declared.machine.MachineInterface.{MachineInterface}
use Rattle.nft_rules.specs.Rendering.{Machine}

-- what the code's name of a set stands for
abbrev pub set_name_of : code_set.SetName → SetName
set_name_of n = record { owner = n.owner.now; table = n.table.now; family = n.family }

-- what a set of the code stands for
abbrev pub named_set_of : code_named.NamedSet → NamedSet
named_set_of s = record { name = set_name_of s.name; elements = s.elements.items }

-- what the code's bounds or set, where an address has to be, stand for
abbrev pub where_of : code_where.Where → Where
where_of (place.From low high) = From low high
where_of (place.InSet name) = InSet (set_name_of name)

-- what a match of the code stands for
abbrev pub match_of : code_match.Match → Match
match_of (match.OnInterface names negated) = OnInterface names.value.items negated
match_of (match.OfFamily family) = OfFamily family
match_of (match.OfProtocol number negated) = OfProtocol number negated
match_of (match.AtAddress side family place negated) = AtAddress side family (where_of place) negated
match_of (match.AtPort side low high negated) = AtPort side low high negated
match_of (match.WithFlags mask value) = WithFlags mask value
match_of (match.OfType number) = OfType number

-- what the code's list of interfaces stands for
abbrev pub machine_of : List MachineInterface → Machine
machine_of m = map (λ (i : MachineInterface). (i.name, i.groups.items)) m

-- what the code's name of a chain stands for
abbrev pub chain_name_of : code_chain_name.ChainName → ChainName
chain_name_of chain_name.Base = Base
chain_name_of (chain_name.At pass path) = At pass path.now

-- what a note of the code stands for
abbrev pub note_of : code_note.Note → Note
note_of note.Unknown = Unknown
note_of note.Skip = Skip
note_of note.Default = Default
note_of (note.Spot path index) = Spot path.now index

-- what a statement of the code stands for
abbrev pub statement_of : code_statement.Statement → Statement
statement_of (statement.Ends outcome note) = Ends (record { outcome = outcome; note = note_of note })
statement_of (statement.Jump chain) = Jump (chain_name_of chain)

-- what a rule of the code stands for
abbrev pub nft_rule_of : code_rule.NftRule → NftRule
nft_rule_of r = record { matches = map match_of r.matches.items; statement = statement_of r.statement }

-- what a chain of the code stands for
abbrev pub chain_of : code_chain.Chain → Chain
chain_of c = record { name = chain_name_of c.name; rules = map nft_rule_of c.rules.items }

-- what a ruleset of the code stands for
abbrev pub ruleset_of : code_ruleset.NftRuleset → NftRuleset
ruleset_of r = record { sets = map named_set_of r.sets.items; chains = map chain_of r.chains.items }
