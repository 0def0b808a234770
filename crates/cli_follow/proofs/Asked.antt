-- What was exchanged with a control socket.
use Rattle.std.proofs.Common.{List, [], ◌∷◌, ◌++◌}
use Rattle.std.specs.List.{AllByRecursion}

-- one more behind those before
pub all_with : {X : Type 0} (P : X → Type 0) (xs : List X) (x : X) → AllByRecursion P xs → P x →
    AllByRecursion P (xs ++ x ∷ [])
all_with P [] x before this = (this, tt)
all_with P (y ∷ xs) x before this = (before.0, all_with P xs x before.1 this)
