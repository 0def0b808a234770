-- Parameters' names.
use Rattle.std.proofs.Common.{◌≡◌, Bool, ℕ, List, [], ◌∷◌, Option, Some, true, false, refl, is_some, bytes_eq, if◌then◌else◌}
use Rattle.node_requests.specs.Queries.{has_name, value_of}

by_first : (b : Bool) (value : List ℕ) (rest : Option (List ℕ)) (has : Bool) → is_some rest ≡ has →
    is_some (if b then Some value else rest) ≡ (if b then true else has)
by_first true value rest has e = refl
by_first false value rest has e = e

-- a name that has a value is given
pub named : (name : List ℕ) (ps : List (List ℕ × List ℕ)) → is_some (value_of name ps) ≡ has_name name ps
named name [] = refl
named name (p ∷ ps) = by_first (bytes_eq p.0 name) p.1 (value_of name ps) (has_name name ps) (named name ps)
