-- A wire that isn't there.
use Rattle.std.proofs.Common.{◌≡◌, Result, Ok, Err, subst}
use Rattle.std.specs.Prelude.{IfOk}
use Rattle.cli_node.specs.declared.outcome.Outcome.{Outcome}

ok_is : {W : Type 0} (v w : W) → ◌≡◌ {A = Result W Outcome} (Ok v) (Ok w) → v ≡ w
ok_is v w e = cc

-- what holds of the wire that is there
pub wire_is : {W : Type 0} (holds : W → Type 0) (wire : Result W Outcome) (w : W) → wire ≡ Ok w → IfOk wire holds → holds w
wire_is holds (Ok v) w is h = subst holds (ok_is v w is) h
wire_is holds (Err o) w is h = absurd (cc)
