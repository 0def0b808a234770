-- Worked examples.
use Rattle.std.specs.Prelude.{◌≡◌, true, false, [], ◌∷◌, refl}
use Rattle.px_packet.specs.Windows.{is_fresh}

-- after 3 and 5 came, 4 is fresh, and 3 isn't
pub out_of_order : is_fresh (5 ∷ 3 ∷ []) 4 ≡ true
out_of_order = refl

pub twice : is_fresh (5 ∷ 3 ∷ []) 3 ≡ false
twice = refl

-- the window reaches back to 2,047 below the greatest
pub last_in_window : is_fresh (5000 ∷ []) 2953 ≡ true
last_in_window = refl

pub behind_window : is_fresh (5000 ∷ []) 2952 ≡ false
behind_window = refl
