-- Which counters are fresh.
use Rattle.std.specs.Prelude.{◌≡◌, ℕ, ◌+◌, ◌<◌, ◌%◌, ◌==◌, ◌&&◌, ◌||◌, Bool, not, List, [], ◌∷◌, max, nat_lt}
use Rattle.std.specs.Prelude.{slice_index, if◌then◌else◌}
use Rattle.std.specs.List.{list_any}
use Rattle.px_packet.specs.declared.window.Window.{Window}

-- the greatest of the counters that were accepted; 0 of none
abbrev pub top_of : List ℕ → ℕ
top_of [] = 0
top_of (n ∷ ns) = max n (top_of ns)

-- whether a counter is among those
abbrev pub is_among : ℕ → List ℕ → Bool
is_among n ns = list_any (λ k. k == n) ns

-- whether a counter is fresh: it isn't 0, and is ahead of all that were accepted, or one of the 2,048 up to the
-- greatest of them and not accepted before
abbrev pub is_fresh : (accepted : List ℕ) → ℕ → Bool
is_fresh ns n = nat_lt 0 n && (nat_lt (top_of ns) n || (nat_lt (top_of ns) (n + 2048) && not (is_among n ns)))

-- the counters that were accepted, after another came
abbrev pub accepted_with : List ℕ → ℕ → List ℕ
accepted_with ns n = if is_fresh ns n then n ∷ ns else ns

-- the greatest that was accepted of those with this rest by 2,048; 0 of none
abbrev pub last_of : (rest : ℕ) → List ℕ → ℕ
last_of r [] = 0
last_of r (n ∷ ns) = if n % 2048 == r then max n (last_of r ns) else last_of r ns

-- these are the counters that a window accepted
pub record Remembers (accepted : List ℕ) (w : Window) : Type 0 where
  pub top_is : w.top ≡ top_of accepted
  pub last_is : (r : ℕ) → r < 2048 → slice_index w.last.items r ≡ last_of r accepted
