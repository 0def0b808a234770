use Rattle.std.proofs.Common.{◌≡◌, drop}
use Rattle.std.specs.Prelude.{find}
use Rattle.std.specs.Option.{option_copied}
use Rattle.pf_config.specs.Map.{is_above}
use Rattle.pf_config.specs.Trees.{last_name, paths_of, shared}
use Rattle.pf_config.proofs.attached.first_above.Given as goal

-- the path is among those that are left
abbrev pub invariant-loop-kid : goal.invariant-loop-kid
invariant-loop-kid l =
    find (λ q. is_above (option_copied l.after) (last_name q)) (paths_of (shared (drop l.kid-index l.kids)))
    ≡ find (λ q. is_above (option_copied l.after) (last_name q)) (paths_of (shared l.kids))
