-- How many conditions the lists of a rule give.
use Rattle.std.specs.Prelude.{ℕ, ◌+◌, ◌*◌, Bool, List, [], ◌∷◌, Option, Some, None, is_some, if◌then◌else◌}
use Rattle.pf_addr.specs.declared.addr.Family.{Family}
use Rattle.pf_addr.specs.declared.addr.Family.TheVariants.{Inet}
use Rattle.pf_rules.specs.declared.parts.Host.{Host}
use Rattle.pf_statements.specs.Conditions.{ConditionsText}
use Rattle.pf_expansion.specs.Expansion.{occurring, host_family, count_of}

-- a rule in which types of ICMP are listed is of IPv4
abbrev pub listed_family : {X : Type 0} → Option X → Option Family
listed_family None = None
listed_family (Some list) = Some Inet

-- no two families occur in a combination with these hosts
abbrev pub is_of_one : ConditionsText → Host → Host → Bool
is_of_one text source destination =
    is_some (occurring (text.common.family ∷ host_family source ∷ host_family destination ∷
    listed_family text.types ∷ []))

-- how many of the hosts pass
abbrev pub count_hosts : (Host → Bool) → List Host → ℕ
count_hosts test [] = 0
count_hosts test (h ∷ hs) = (if test h then 1 else 0) + count_hosts test hs

-- how many pairs of a source and a destination are of one family
abbrev pub pairs_from : ConditionsText → List Host → ℕ
pairs_from text [] = 0
pairs_from text (h ∷ hs) = count_hosts (is_of_one text h) text.common.destination.hosts.items + pairs_from text hs

-- how many conditions the lists give: as many for each such pair as the other lists have combinations
abbrev pub all_of : ConditionsText → ℕ
all_of text =
    pairs_from text text.common.source.hosts.items * count_of text.types * count_of text.common.destination.ports
    * count_of text.common.source.ports * count_of text.common.protocols * count_of text.common.interfaces
