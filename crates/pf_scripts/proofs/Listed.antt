-- Listings as the code makes them.
use Rattle.std.proofs.Common.{◌≡◌, ℕ, List, [], ◌∷◌, ◌++◌, refl, ap}
use Rattle.std.specs.List.{flat_map}
use Rattle.pf_config.specs.Map.{AnchorValue, paths_in}
use Rattle.pf_scripts.specs.Listings.{leading, leading_from}

-- the paths that lead to the entries' paths
pub leading_anchors : (anchors : List AnchorValue) → flat_map (leading_from []) (paths_in anchors) ≡ flat_map leading anchors
leading_anchors [] = refl
leading_anchors (a ∷ anchors) = ap (λ (r : List (List ℕ)). leading_from [] a.path ++ r) (leading_anchors anchors)
