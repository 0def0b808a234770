-- Whether a rule keeps state.
use Rattle.std.specs.Prelude.{Bool, true, false, ◌&&◌}
use Rattle.std.specs.List.{list_any}
use Rattle.pf_rules.specs.declared.rule.Action.{Action}
use Rattle.pf_rules.specs.declared.rule.Action.TheVariants.{Pass, Drop, Return}
use Rattle.pf_rules.specs.Items.{AnyRule, FilterRule, AnchorRule}
use Rattle.pf_config.specs.Map.{Configuration, rules_at, paths_in}

-- the action is pass
abbrev pub passes : Action → Bool
passes Pass = true
passes Drop = false
passes Return = false

-- a pass rule that keeps state
abbrev pub keeps_state : AnyRule → Bool
keeps_state (FilterRule r) = passes r.action && r.keeps_state
keeps_state (AnchorRule a) = false

-- at any path
-- Example: block keeps none.
abbrev pub some_keep_state : Configuration → Bool
some_keep_state c = list_any (λ p. list_any keeps_state (rules_at c p)) (paths_in c.anchors)
