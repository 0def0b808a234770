-- An anchor rule up to its block, production by production (pf.conf(5), ANCHORS).
use Rattle.std.specs.Prelude.{Bool, List, Option, Some, None, codes, if◌then◌else◌}
use Rattle.pf_rules.specs.declared.profile.Profile.{Profile}
use Rattle.pf_tokens.specs.Tokens.{Token}
use Rattle.pf_tokens.specs.Productions.{Read, ◌>>=◌, starts, option_at}
use Rattle.pf_rules.specs.Items.{Target}
use Rattle.pf_rules.specs.declared.parts.FlagTest.{FlagTest}
use Rattle.pf_statements.specs.Conditions.{behind_word, flags_at, common_at, ConditionsText}
use Rattle.pf_statements.specs.Targets.{may_name, target_at}
use Rattle.pf_statements.specs.Directions.{direction_at}

-- an anchor rule without a block as it is written
pub record AnchorText : Type 0 where
  pub target : Target
  pub quick : Bool
  pub conditions : ConditionsText

-- an anchor rule up to its block, as it is written: its name may be left out
pub record HeadingText : Type 0 where
  pub target : Option Target
  pub quick : Bool
  pub conditions : ConditionsText

-- the rule with this name
abbrev pub anchor_with : HeadingText → Target → AnchorText
anchor_with h target = record { target = target; quick = h.quick; conditions = h.conditions }

-- [flags]
unfoldable pub said_flags : List Token → Read (Option FlagTest)
said_flags ts = behind_word (codes "flags") flags_at ts

-- a target that was read, as one that might have been left out
abbrev pub said_target : Target × List Token → Read (Option Target)
said_target target = Some (Some target.0, target.1)

-- [ANAME]: what may be a name has to be one
unfoldable pub optional_target_at : Profile → List Token → Read (Option Target)
optional_target_at profile ts =
    if starts (may_name profile) ts then (target_at profile ts >>= said_target) else Some (None, ts)

-- heading = [ANAME] [way] ["quick"] common [flags]
-- Example: anchor "ftp/*" in quick on em0.
unfoldable pub heading_at : Profile → List Token → Read HeadingText
heading_at profile ts = do
  target ← optional_target_at profile ts
  let direction = direction_at target.1
  let quick = option_at (codes "quick") direction.1
  common ← common_at profile quick.1
  flags ← said_flags common.1
  Some (
    record {
      target = target.0;
      quick = quick.0;
      conditions = record { direction = direction.0; common = common.0; flags = flags.0; types = None };
    },
    flags.1,
  )
