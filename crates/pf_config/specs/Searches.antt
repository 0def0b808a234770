-- The candidates that may let a packet's numbers pass.
use Rattle.std.specs.Prelude.{◌≡◌, ℕ, ◌&&◌, Bool, List, map, Option, Some}
use Rattle.pf_tables.specs.declared.interval.Interval.{Interval}
use Rattle.pf_tables.specs.declared.classes.Classes.{Classes}
use Rattle.pf_tables.specs.declared.row.Row.{Row}
use Rattle.pf_tables.specs.Intervals.{is_within}
use Rattle.pf_tables.specs.Rows.{Marks}
use Rattle.pf_tables.specs.Classes.{IsClassesOf}
use Rattle.pf_config.specs.declared.candidate.Candidate.{Candidate}

-- the candidate's interval for the first 32 bits of the source address
abbrev pub source_of : Candidate → Interval
source_of c = c.sieve.source

-- the candidate's interval for the first 32 bits of the destination address
abbrev pub destination_of : Candidate → Interval
destination_of c = c.sieve.destination

-- the candidate's interval for the destination port
abbrev pub port_of : Candidate → Interval
port_of c = c.sieve.destination_port

-- its intervals hold the first bits of the destination and of the source, and the port
abbrev pub may_pass : (source destination port : ℕ) → Candidate → Bool
may_pass source destination port c =
    is_within c.sieve.destination destination && is_within c.sieve.source source
    && is_within c.sieve.destination_port port

-- the classes, if there are any, are those of the candidates' intervals
abbrev pub AreCompiled : List Candidate → Option Classes → Type 0
AreCompiled list classes =
    (c : Classes) → classes ≡ Some c → IsClassesOf (map source_of list) (map destination_of list) (map port_of list) c

-- the rows, if there are any, have a bit wherever a candidate's interval holds its number
abbrev pub AreMarked : List Candidate → (source destination port : ℕ) → Option Row → Type 0
AreMarked list source destination port row =
    (r : Row) → row ≡ Some r → Marks (map source_of list) source r.source.now
    × Marks (map destination_of list) destination r.destination.now
    × Marks (map port_of list) port r.destination_port.now
