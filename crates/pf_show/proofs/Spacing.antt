-- Lines as their parts, one behind another.
use Rattle.std.proofs.Common.{◌≡◌, ℕ, Bool, true, false, List, [], ◌∷◌, ◌++◌, refl, sym, ap, ◌∙◌, ◌≤◌, length, arith, append_assoc, ◌&&◌, Option, Some, None, codes, if◌then◌else◌}
use Rattle.pf_rules.specs.declared.rule.Action.{Action}
use Rattle.pf_rules.specs.declared.rule.Action.TheVariants.{Pass, Drop, Return}
use Rattle.pf_rules.specs.declared.parts.Host.{Host}
use Rattle.pf_rules.specs.declared.parts.Host.TheVariants as host
use Rattle.pf_rules.specs.declared.parts.PortTest.{PortTest}
use Rattle.pf_rules.specs.declared.rule.Rule.{Rule}
use Rattle.pf_rules.specs.declared.rule.Conditions.{Conditions}
use Rattle.pf_show.specs.Shown.{Part, end_parts, ends_parts, action_parts, interface_parts, family_parts, protocol_parts, type_parts, direction_parts, quick_parts, condition_parts, flags_parts, state_parts, rule_parts, more_parts, line, letter, skip_line}
use Rattle.pf_rules.specs.Names.{Name}
use Rattle.std.specs.List.{flat_map}
use Rattle.pf_show.specs.inner.Spaced.{spaced, joined, text_if, is_any_end}

-- parts behind others
pub spaced_append : (a b : List Part) → spaced (a ++ b) ≡ spaced a ++ spaced b
spaced_append [] b = refl
spaced_append (part ∷ parts) b = ap (λ t. 32 ∷ t) (rw (spaced_append parts b) (rw append_assoc refl))

-- the conditions, part for part
pub conditions_are : (c : Conditions) → spaced (condition_parts c) ≡ spaced (interface_parts c.interface) ++ (spaced (family_parts c.family) ++ (spaced (protocol_parts c.protocol)
    ++ (spaced (ends_parts c.source c.source_port c.destination c.destination_port) ++ spaced (type_parts c.icmp_type))))
unfolding condition_parts
conditions_are c = simp (spaced_append, append_assoc)

-- a newline is behind the parts
pub more_is : (parts : List Part) → more_parts parts ≡ spaced parts ++ 10 ∷ []
more_is [] = refl
more_is (part ∷ parts) = ap (λ t. 32 ∷ t) (rw (more_is parts) (rw append_assoc refl))

-- a line that begins with what a rule does
pub action_line : (a : Action) (parts : List Part) → line (action_parts a ++ parts) ≡ joined (action_parts a) ++ (spaced parts ++ 10 ∷ [])
action_line Pass parts = simp (more_is, append_assoc)
action_line Drop parts = simp (more_is, append_assoc)
action_line Return parts = simp (more_is, append_assoc)

-- the letter of a flag
pub letter_is : (b : Bool) (n : ℕ) → letter b n ≡ text_if b (n ∷ [])
letter_is true n = refl
letter_is false n = refl

-- the line of a rule
pub rule_line : (r : Rule) → line (rule_parts r) ≡ joined (action_parts r.action) ++ (spaced (direction_parts r.conditions.direction) ++ (spaced (quick_parts r.quick)
    ++ (spaced (condition_parts r.conditions) ++ (spaced (flags_parts r.action r.conditions.flags) ++ (spaced (state_parts r.action r.keeps_state) ++ 10 ∷ [])))))
unfolding rule_parts
rule_line r = rw (action_line r.action) (simp (spaced_append, append_assoc))

-- the ends that aren't both any, each behind its word
abbrev two_ends : Host → Option PortTest → Host → Option PortTest → List Part
two_ends h p d q = end_parts (codes "from") h p ++ end_parts (codes "to") d q

pub ends_are : (h : Host) (p : Option PortTest) (d : Host) (q : Option PortTest) → ends_parts h p d q ≡ if is_any_end h p && is_any_end d q then codes "all" ∷ [] else two_ends h p d q
ends_are host.Any None host.Any None = refl
ends_are host.Any None host.Any (Some test) = refl
ends_are host.Any None (host.In set) q = refl
ends_are host.Any None (host.NotIn set) q = refl
ends_are host.Any (Some test) d q = refl
ends_are (host.In set) p d q = refl
ends_are (host.NotIn set) p d q = refl

-- names behind blanks
names_are : (names : List Name) → spaced names ≡ flat_map (λ n. 32 ∷ n) names
names_are [] = refl
names_are (name ∷ names) = ap (λ t. 32 ∷ (name ++ t)) (names_are names)

closed : (names : List Name) → more_parts (names ++ codes "}" ∷ []) ≡ spaced names ++ codes " }\n"
closed [] = refl
closed (name ∷ names) = ap (λ t. 32 ∷ t) (rw (closed names) (rw append_assoc refl))

-- the line of what is skipped
pub skip_is : (names : List Name) → 1 ≤ length names → skip_line names ≡ codes "set skip on {" ++ (flat_map (λ n. 32 ∷ n) names ++ codes " }\n")
skip_is [] some = absurd (omega arith)
skip_is (name ∷ names) some =
    ap (λ t. codes "set skip on {" ++ (32 ∷ t))
    (ap (λ t. name ++ t) (closed names ∙ ap (λ t. t ++ codes " }\n") (names_are names))
    ∙ sym (append_assoc name (flat_map (λ n. 32 ∷ n) names) (codes " }\n")))
