-- What an anchor rule gives, and why one is refused.
use Rattle.std.specs.Prelude.{ℕ, ◌&&◌, Bool, false, not, List, [], ◌∷◌, map, drop, Option, Some, None, nat_le, bytes_eq}
use Rattle.std.specs.List.{list_any}
use Rattle.std.specs.Fmt.{decimal}
use Rattle.pf_rules.specs.Words.{number_of}
use Rattle.pf_rules.specs.Names.{Name, begins_below}
use Rattle.pf_rules.specs.Items.{Target, Heading}
use Rattle.pf_rules.specs.declared.parts.FlagTest.{FlagTest}
use Rattle.pf_rules.specs.declared.rule.Conditions.{Conditions}
use Rattle.pf_statements.specs.Anchors.{AnchorText}
use Rattle.pf_expansion.specs.declared.cause.Cause.{Cause}
use Rattle.pf_expansion.specs.Expansion.{tested_flags, combined}
use Rattle.pf_expansion.specs.Causes.{condition_causes}

-- the k-th unnamed block of a ruleset is named _k
abbrev pub given_name : ℕ → Name
given_name k = 95 ∷ decimal k

-- nothing is asked of the flags unless they are written
abbrev pub anchor_flags : AnchorText → FlagTest
anchor_flags text = tested_flags false text.conditions.flags

-- a rule of this name, quick or not, with these conditions
abbrev pub heading_from : Target → Bool → Conditions → Heading
heading_from target quick conditions = record { target = target; quick = quick; conditions = conditions }

-- the rule with these conditions
abbrev pub heading_with : AnchorText → Conditions → Heading
heading_with text = heading_from text.target text.quick

-- the rules of a statement
unfoldable pub headings : AnchorText → List Heading
headings text = map (heading_with text) (combined (anchor_flags text) text.conditions)

-- a name that begins with _ is that of an unnamed block
-- Example: anchor "_x" is refused with 15.
abbrev pub is_reserved : Target → Bool
is_reserved target = list_any begins_below target.names

-- the number of one of that many unnamed blocks was read in the name, and the name is exactly that block's
abbrev pub is_number_of : ℕ → Name → Option ℕ → Bool
is_number_of unnamed name None = false
is_number_of unnamed name (Some k) = nat_le 1 k && nat_le k unnamed && bytes_eq name (given_name k)

-- the name of one of the first that many unnamed blocks; a statement has no more tokens than 65,536
unfoldable pub is_given : ℕ → Name → Bool
is_given unnamed name = is_number_of unnamed name (number_of 5 65535 (drop 1 name))

-- the same of names: the first is the only one
abbrev pub is_given_alone : ℕ → List Name → Bool
is_given_alone unnamed [] = false
is_given_alone unnamed (name ∷ []) = is_given unnamed name
is_given_alone unnamed (name ∷ other ∷ names) = false

-- a name begins with _, and isn't that of an unnamed block that is before, alone
unfoldable pub is_misnamed : ℕ → Target → Bool
is_misnamed unnamed target =
    is_reserved target && not (not target.children && is_given_alone unnamed target.names)

-- where that many rules are before, and that many unnamed blocks among them
abbrev pub anchor_causes : ℕ → ℕ → AnchorText → List (Bool × Cause)
anchor_causes before unnamed text =
    condition_causes (anchor_flags text) before (is_misnamed unnamed text.target) text.conditions
