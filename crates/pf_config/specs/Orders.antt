-- The order in which a verdict walks over rules, and the sieve of each.
use Rattle.std.specs.Prelude.{◌≡◌, ℕ, ◌+◌, ◌-◌, ◌*◌, ◌/◌, ◌^◌, Bool, true, not, List, [], ◌∷◌, Option, Some, None}
use Rattle.std.specs.Prelude.{if◌then◌else◌, reverse, min}
use Rattle.pf_addr.specs.declared.addr.Addr.{Addr}
use Rattle.pf_addr.specs.declared.addr.Addr.TheVariants.{V4, V6}
use Rattle.pf_rules.specs.declared.parts.Addresses.{Addresses}
use Rattle.pf_rules.specs.declared.parts.Addresses.TheVariants.{Prefix, Range, Table}
use Rattle.pf_rules.specs.declared.parts.Host.{Host}
use Rattle.pf_rules.specs.declared.parts.Host.TheVariants.{Any, In, NotIn}
use Rattle.pf_rules.specs.declared.parts.PortTest.{PortTest}
use Rattle.pf_rules.specs.declared.parts.PortTest.TheVariants.{Equal, NotEqual, Less, LessEqual, Greater}
use Rattle.pf_rules.specs.declared.parts.PortTest.TheVariants.{GreaterEqual, FromTo, Between, Outside}
use Rattle.pf_rules.specs.declared.rule.Conditions.{Conditions}
use Rattle.pf_rules.specs.Items.{AnyRule, FilterRule, AnchorRule, conditions_of}
use Rattle.pf_tables.specs.declared.interval.Interval.{Interval}
use Rattle.pf_config.specs.declared.candidate.Sieve.{Sieve}
use Rattle.pf_config.specs.declared.candidate.Candidate.{Candidate}

-- ---- sieves

-- all numbers
abbrev pub everything : Interval
everything = record { first = 0; width = 4294967295 }

-- the numbers that agree with this one in all but the given number of last bits; the code's numbers have 32 bits
unfoldable pub around : ℕ → ℕ → Interval
around n bits = record { first = min (n / 2 ^ bits * 2 ^ bits) 4294967295; width = 2 ^ bits - 1 }

-- the numbers from a to b
unfoldable pub between : ℕ → ℕ → Interval
between a b = record { first = min a 4294967295; width = b - a }

-- the first 32 bits of an address
abbrev pub front_bits : Addr → ℕ
front_bits (V4 bits) = bits
front_bits (V6 bits) = bits / 2 ^ 96

-- where the first 32 bits of the addresses in a set are; anywhere for those in a table
unfoldable pub set_interval : Addresses → Interval
set_interval (Prefix block) = around (front_bits block.base) (32 - block.len)
set_interval (Range span) = between (front_bits span.first) (front_bits span.last)
set_interval (Table name) = everything

-- the interval of the addresses that a condition on a host allows; where it is negated, all
unfoldable pub host_interval : Host → Interval
host_interval Any = everything
host_interval (In set) = set_interval set
host_interval (NotIn set) = everything

-- where the ports are that a test lets pass, or more than these
unfoldable pub test_interval : PortTest → Interval
test_interval (Equal n) = between n n
test_interval (NotEqual n) = everything
test_interval (Less n) = between 0 n
test_interval (LessEqual n) = between 0 n
test_interval (Greater n) = everything
test_interval (GreaterEqual n) = everything
test_interval (FromTo a b) = between a b
test_interval (Between a b) = between a b
test_interval (Outside a b) = everything

-- where no port is asked for, all
abbrev pub port_interval : Option PortTest → Interval
port_interval None = everything
port_interval (Some t) = test_interval t

-- what few comparisons of numbers test of a rule's conditions: it matches no packet outside of these
-- Example: to 10/8 port 22: 10.0.0.0 and 2^24 - 1 more; 22.
unfoldable pub sieve_of : Conditions → Sieve
sieve_of c = record {
  direction = c.direction;
  family = c.family;
  protocol = c.protocol;
  source = host_interval c.source;
  destination = host_interval c.destination;
  destination_port = port_interval c.destination_port;
}

-- ---- candidates

-- the evaluation may end with the rule: a filter rule that is quick, or any anchor rule
abbrev pub may_stop : AnyRule → Bool
may_stop (FilterRule r) = r.quick
may_stop (AnchorRule a) = true

-- the rule isn't quick
abbrev pub is_other : AnyRule → Bool
is_other (FilterRule r) = not r.quick
is_other (AnchorRule a) = not a.quick

-- the rule with this index among those of its path, as a candidate: the index and the sieve
abbrev pub candidate_at : ℕ → AnyRule → Candidate
candidate_at i rule = record { index = i; sieve = sieve_of (conditions_of rule) }

-- of rules with the indices from i on, those that pass the test
abbrev pub candidates : (AnyRule → Bool) → ℕ → List AnyRule → List Candidate
candidates test i [] = []
candidates test i (r ∷ rs) =
    if test r then candidate_at i r ∷ candidates test (i + 1) rs else candidates test (i + 1) rs

-- the rules that may end the evaluation, the first one first
unfoldable pub stops_of : List AnyRule → List Candidate
stops_of rules = candidates may_stop 0 rules

-- the rules that aren't quick, the last one first
-- Example: pass, block quick, anchor x: stops 1, 2; others 2, 0.
unfoldable pub others_of : List AnyRule → List Candidate
others_of rules = reverse (candidates is_other 0 rules)

-- the two lists are those of the rules
abbrev pub IsOrder : List AnyRule → (stops others : List Candidate) → Type 0
IsOrder rules stops others = (stops ≡ stops_of rules) × (others ≡ others_of rules)
