-- What only code and proofs use beside `Tables`.
use Rattle.std.specs.Prelude.{Bool, false, List, [], ◌∷◌, Option, Some}
use Rattle.std.specs.Prelude.{None, not, if◌then◌else◌}
use Rattle.pf_addr.specs.declared.addr.Addr.{Addr}
use Rattle.pf_rules.specs.declared.ruleset.TableEntry.{TableEntry}
use Rattle.pf_tables.specs.Tables.{contains}

abbrev pub or_else : {X : Type 0} → Option X → Option X → Option X
or_else None other = other
or_else (Some x) other = Some x

-- the last entry that contains the address
abbrev pub last_with : Addr → List TableEntry → Option TableEntry
last_with a [] = None
last_with a (e ∷ es) = or_else (last_with a es) (if contains a e then Some e else None)

-- the entry that decides isn't negated
abbrev pub sign_of : Option TableEntry → Bool
sign_of None = false
sign_of (Some e) = not e.negated
