-- Rules of main alone give the verdict of the configuration that has nothing else.
use Rattle.std.proofs.Common.{◌≡◌, ◌≤◌, Bool, true, false, List, [], ◌∷◌, length, refl, sym, ap, arith}
use Rattle.std.specs.Prelude.{nat_le, if◌then◌else◌}
use Rattle.std.specs.List.{list_all}
use Rattle.pf_rules.specs.Names.{Name}
use Rattle.pf_rules.specs.Items.{AnyRule}
use Rattle.pf_config.specs.Map.{tables_at, rules_at, kids}
use Rattle.pf_eval.specs.Packets.{PacketValue}
use Rattle.pf_eval.specs.Verdicts.{hits, member_hits, not_too_deep, target_hits, last_spot, judgement, flat_judgement, no_tables, no_hits, Decided, Skipped, is_skipped}
use Rattle.pfx_laws.specs.Alone.{alone}
use Rattle.pfx_laws.specs.Targets.{has_target}
use Rattle.pfx_laws.proofs.Depths.{rules_same}

-- no other path has rules, so nothing is hit there
nothing_hit : (skip : List Name) (r : AnyRule) (rules : List AnyRule) (k : PacketValue) (n : Name) (names : List Name) (b : Bool) →
    (if b then hits 8 (alone skip (r ∷ rules)) k (n ∷ names) else []) ≡ []
unfolding hits rules_at
nothing_hit skip r rules k n names true = refl
nothing_hit skip r rules k n names false = refl

nothing_at : (skip : List Name) (r : AnyRule) (rules : List AnyRule) (k : PacketValue) (names : List Name) (children : Bool) → 1 ≤ length names →
    (if children then member_hits (hits 8 (alone skip (r ∷ rules)) k) names (kids (alone skip (r ∷ rules)) names)
    else not_too_deep (hits 8 (alone skip (r ∷ rules)) k) names) ≡ []
unfolding kids
nothing_at skip r rules k [] children h = absurd (omega (arith, h))
nothing_at skip r rules k (n ∷ names) true h = refl
nothing_at skip r rules k (n ∷ names) false h = nothing_hit skip r rules k n names (nat_le (length (n ∷ names)) 8)

pub flat_is : (skip : List Name) (rules : List AnyRule) (k : PacketValue) → list_all has_target rules ≡ true →
    flat_judgement skip rules k ≡ judgement (alone skip rules) k
unfolding hits rules_at tables_at
flat_is skip [] k h = refl
flat_is skip (r ∷ rules) k h =
    ap (λ hs. if is_skipped skip k then Skipped else Decided (last_spot hs))
    (rules_same no_tables no_hits (target_hits (hits 8 (alone skip (r ∷ rules)) k) (alone skip (r ∷ rules)) []) k [] 0 (r ∷ rules) h
    (λ t e. sym (nothing_at skip r rules k t.names t.children e)))
