-- The names of fields.
use Rattle.std.proofs.Common.{◌≡◌, ℕ, Bool, List}
use Rattle.std.specs.Prelude.{◌↔◌, IsTrue}
use Rattle.std.specs.Str.{str_eq_ignore_ascii_case, str_to_ascii_lowercase}
use Rattle.std.proofs.lemmas.Slice.Eq.{bytes_eq-Decides}
use Rattle.std.proofs.lemmas.Bool.Decides.{same_from_decides}

pub names_same : (a b : List ℕ) (r : Bool) → (IsTrue r ↔ (str_to_ascii_lowercase a ≡ str_to_ascii_lowercase b)) → r ≡ str_eq_ignore_ascii_case a b
names_same a b r h = same_from_decides r (str_eq_ignore_ascii_case a b) h (bytes_eq-Decides (str_to_ascii_lowercase a) (str_to_ascii_lowercase b))
