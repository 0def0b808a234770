-- The hits at all paths, by one equation and without a bound on how deep anchor rules nest.
use Rattle.std.specs.Prelude.{◌≡◌, ◌≤◌, List, [], length, if◌then◌else◌}
use Rattle.pf_config.specs.Map.{Configuration, Path, rules_at}
use Rattle.pf_eval.specs.Packets.{PacketValue}
use Rattle.pf_eval.specs.Verdicts.{Hit, hits_with, target_hits, tables_in, last_spot, Judgement, Skipped, Decided}
use Rattle.pf_eval.specs.Verdicts.{is_skipped}

-- what is hit at a path is what its rules give, where an anchor rule gives what is hit at its target
abbrev pub AreHits : Configuration → PacketValue → (Path → List Hit) → Type 0
AreHits c k at = (p : Path) → length p ≤ 8 →
    at p ≡ hits_with (tables_in c p) (target_hits at c p) k p 0 (rules_at c p)

-- the judgement on the packet where these are the hits at the paths
abbrev pub judged_by : Configuration → PacketValue → (Path → List Hit) → Judgement
judged_by c k at = if is_skipped c.skip k then Skipped else Decided (last_spot (at []))
