-- Anchor rules that lead away from the anchor that holds them.
use Rattle.std.specs.Prelude.{Bool, true, ◌&&◌, length, nat_le}
use Rattle.std.specs.List.{list_all}
use Rattle.pf_rules.specs.Items.{AnyRule, FilterRule, AnchorRule}
use Rattle.pf_config.specs.Map.{Configuration, AnchorValue}

-- a filter rule, or an anchor rule whose target has 1 to 8 names, as the grammar has it
abbrev pub has_target : AnyRule → Bool
has_target (FilterRule rule) = true
has_target (AnchorRule heading) = nat_le 1 (length heading.target.names) && nat_le (length heading.target.names) 8

-- all rules of all anchors
abbrev pub have_targets : Configuration → Bool
have_targets c = list_all (λ (a : AnchorValue). list_all has_target a.rules) c.anchors
