-- Names of anchors that no unnamed block has.
use Rattle.std.proofs.Common.{◌≡◌, ℕ, false, refl}
use Rattle.pf_rules.specs.Items.{Target}
use Rattle.pf_expansion.specs.Anchors.{is_reserved, is_misnamed}

-- a name of another form is allowed anywhere
pub free_named : (unnamed : ℕ) (target : Target) → is_reserved target ≡ false → is_misnamed unnamed target ≡ false
unfolding is_misnamed
free_named unnamed target free = rw free refl
