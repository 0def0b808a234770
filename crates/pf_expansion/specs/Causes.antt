-- Why a statement is refused, and the numbers of the refusals.
use Rattle.std.specs.Prelude.{ℕ, ◌+◌, ◌==◌, ◌&&◌, ◌||◌, Bool, true, false, List, [], ◌∷◌}
use Rattle.std.specs.Prelude.{length, Option, Some, None, is_none, is_some, nat_lt, not, if◌then◌else◌}
use Rattle.std.specs.List.{list_any, list_all}
use Rattle.pf_tokens.specs.Lists.{Elements}
use Rattle.pf_expansion.specs.declared.cause.Cause.{Cause}
use Rattle.pf_expansion.specs.declared.cause.Cause.TheVariants.{Lexical, Macro, Syntax, Ports, NoCombination, Reserved}
use Rattle.pf_expansion.specs.declared.cause.Cause.TheVariants.{Twice, SetHere, TooMany, IcmpType}
use Rattle.pf_statements.specs.declared.conditions.Protocol.{Protocol}
use Rattle.pf_statements.specs.declared.conditions.WrittenPort.{WrittenPort}
use Rattle.pf_statements.specs.declared.conditions.WrittenType.{WrittenType}
use Rattle.pf_statements.specs.Statements.{RuleText}
use Rattle.pf_statements.specs.Conditions.{ConditionsText}
use Rattle.pf_rules.specs.declared.parts.FlagTest.{FlagTest}
use Rattle.pf_expansion.specs.Expansion.{combined, combinations, rule_flags}

-- the numbers by which the causes are shown
abbrev pub cause_code : Cause → ℕ
cause_code Lexical = 10
cause_code Macro = 11
cause_code Syntax = 12
cause_code Ports = 13
cause_code NoCombination = 14
cause_code Reserved = 15
cause_code Twice = 16
cause_code SetHere = 17
cause_code TooMany = 18
cause_code IcmpType = 19

-- ---- lists

-- there is a list, and some element passes
abbrev pub any_listed : {X : Type 0} → (X → Bool) → Option (Elements X) → Bool
any_listed test None = false
any_listed test (Some list) = list_any test list.items

-- there is a list, and each element passes
abbrev pub all_listed : {X : Type 0} → (X → Bool) → Option (Elements X) → Bool
all_listed test None = false
all_listed test (Some list) = list_all test list.items

-- more than 8 lists are in one another
abbrev pub is_deep : {X : Type 0} → Elements X → Bool
is_deep list = nat_lt 8 list.deepest

-- there is a list, and more than 8 are in one another
abbrev pub is_deep_list : {X : Type 0} → Option (Elements X) → Bool
is_deep_list None = false
is_deep_list (Some list) = is_deep list

-- ---- ports (13)

-- a port that is neither number nor name
abbrev pub is_bad_port : WrittenPort → Bool
is_bad_port port = is_none port.test

-- tcp and udp have ports
abbrev pub has_ports : Protocol → Bool
has_ports p = p.number == 6 || p.number == 17

-- ports are written for the source, the destination or both
abbrev pub names_ports : ConditionsText → Bool
names_ports text = is_some text.common.source.ports || is_some text.common.destination.ports

-- a port is neither number nor name, or ports are written where no protocols are, or not all have ports
unfoldable pub bad_ports : ConditionsText → Bool
bad_ports text =
    any_listed is_bad_port text.common.source.ports || any_listed is_bad_port text.common.destination.ports
    || (names_ports text && not (all_listed has_ports text.common.protocols))

-- ---- combinations and limits (14, 18)

-- more than 65,536 combinations
unfoldable pub is_too_wide : ConditionsText → Bool
is_too_wide text = nat_lt 65536 (combinations text)

-- the list has no elements
abbrev pub is_empty : {X : Type 0} → List X → Bool
is_empty [] = true
is_empty (x ∷ xs) = false

-- no combination is of one family, which is asked only where there aren't too many
unfoldable pub has_no_combination : FlagTest → ConditionsText → Bool
has_no_combination test text = not (is_too_wide text) && is_empty (combined test text)

-- in one of the conditions more than 8 lists are in one another
unfoldable pub has_deep_list : ConditionsText → Bool
has_deep_list text =
    is_deep_list text.common.interfaces || is_deep_list text.common.protocols || is_deep text.common.source.hosts ||
    is_deep_list text.common.source.ports
    || is_deep text.common.destination.hosts || is_deep_list text.common.destination.ports || is_deep_list text.types

-- with those that many that are before there are more than 1,024 rules
unfoldable pub has_too_many : FlagTest → ℕ → ConditionsText → Bool
has_too_many test before text = is_too_wide text || has_deep_list text ||
    nat_lt 1024 (before + length (combined test text))

-- ---- types of ICMP (19)

-- a type that is neither number nor name
abbrev pub is_bad_type : WrittenType → Bool
is_bad_type t = is_none t.number

-- the protocol is icmp
abbrev pub is_icmp : Protocol → Bool
is_icmp p = p.number == 1

-- a type is neither number nor name, or types are written where no protocols are, or not all are icmp
unfoldable pub bad_types : ConditionsText → Bool
bad_types text = any_listed is_bad_type text.types ||
    (is_some text.types && not (all_listed is_icmp text.common.protocols))

-- ---- the causes of a rule

-- the first that holds
abbrev pub lowest : List (Bool × Cause) → Option Cause
lowest [] = None
lowest (row ∷ rows) = if row.0 then Some row.1 else lowest rows

-- each cause with its test, the lowest first, where that many rules are before, and a name is reserved or not
abbrev pub condition_causes : FlagTest → ℕ → Bool → ConditionsText → List (Bool × Cause)
condition_causes test before reserved text =
    (bad_ports text, Ports) ∷ (has_no_combination test text, NoCombination) ∷ (reserved, Reserved)
    ∷ (has_too_many test before text, TooMany) ∷ (bad_types text, IcmpType) ∷ []

-- a filter rule names no anchor
abbrev pub rule_causes : ℕ → RuleText → List (Bool × Cause)
rule_causes before text = condition_causes (rule_flags text) before false text.conditions
