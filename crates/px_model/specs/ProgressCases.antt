-- The laws of progress in two worlds of three members: one that has just begun, and one with a round in the way.
use Rattle.std.specs.Prelude.{◌≡◌, ℕ, true, List, [], ◌∷◌, ◌++◌, length, Some, None}
use Rattle.px_model.specs.World.{Event}
use Rattle.px_model.specs.World.Action.{Tick}
use Rattle.px_model.specs.World.Event.{StopBefore}
use Rattle.px_model.specs.Worked.{joined, world, ask, tick, restart, deliver, entry, log_of}
use Rattle.px_model.specs.Progress.{Waits}

-- the premises of the laws hold as soon as member 0 is asked: all three run, and no position and no round is used
abbrev pub TheLawsApply : Type 0
TheLawsApply = Waits 3 (world 3 (ask 0 7 ∷ [])) (λ k. true) 0 0 0 [] (entry 0 0 7)

-- 1 alone has accepted what it proposed, in a ballot that 0 has promised too. Then 2 stops, and 1 restarts
abbrev pub contended : List (List (Event ℕ))
contended =
    ask 0 7 ∷ ask 1 8 ∷ tick 1 ∷ deliver (0 ∷ 1 ∷ 3 ∷ 4 ∷ 6 ∷ []) ∷
    (StopBefore (Tick 2) ∷ []) ∷ restart 1 ∷ []

-- 0 is refused by both and hears of the higher round
abbrev pub refused : List (List (Event ℕ))
refused = tick 0 ∷ deliver (11 ∷ 14 ∷ 12 ∷ 15 ∷ []) ∷ []

-- its next round is promised by both, and what 1 accepted is proposed anew and learned
abbrev pub first_learned : List (List (Event ℕ))
first_learned = tick 0 ∷ deliver (16 ∷ 19 ∷ 17 ∷ 20 ∷ 21 ∷ 24 ∷ 22 ∷ 27 ∷ []) ∷ []

-- its lead serves for its own entry
abbrev pub second_learned : List (List (Event ℕ))
second_learned = tick 0 ∷ deliver (30 ∷ 33 ∷ 31 ∷ 36 ∷ []) ∷ []

-- 11 messages, numbered 0 to 10, were sent before, and none of them is delivered. By 19 events, 0's ticks and messages
-- between 0 and 1, 0 learns 1's entry, and then its own
pub record AMajorityFinishes : Type 0 where
  pub sent_before : length (world 3 contended).sent ≡ 11
  pub nothing_yet : log_of (world 3 (contended ++ refused)) 0 ≡ None ∷ None ∷ None ∷ []
  pub first :
      log_of (world 3 (contended ++ refused ++ first_learned)) 0 ≡ Some (entry 1 0 8) ∷ None ∷ None ∷ []
  pub second :
      log_of (world 3 (contended ++ refused ++ first_learned ++ second_learned)) 0 ≡
      Some (entry 1 0 8) ∷ Some (entry 0 0 7) ∷ None ∷ []
  pub events : length (joined (refused ++ first_learned ++ second_learned)) ≡ 19
