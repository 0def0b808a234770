-- What the grammar spells closes the braces that it opens, and its blocks nest no deeper than its braces.
use Rattle.std.proofs.Common.{◌≡◌, ℕ, zero, suc, ◌+◌, ◌-◌, ◌≤◌, Bool, true, false, ◌&&◌, ◌||◌, cond, List, [], ◌∷◌, ◌++◌, Option, None, refl, sym, subst, ap, append_assoc, arith}
use Rattle.std.specs.Prelude.{codes, nat_le, nat_lt}
use Rattle.std.proofs.lemmas.Bool.{leb-true}
use Rattle.std.proofs.lemmas.Bool.Decides.{nat_tests}
use Rattle.pf_rules.specs.declared.profile.Profile.{Profile}
use Rattle.pf_tokens.specs.declared.fault.ReadingFault.{ReadingFault}
use Rattle.pf_tokens.specs.declared.fault.ReadingFault.TheVariants.{Lexical, UnknownMacro, TooMany}
use Rattle.pf_tokens.specs.declared.symbol.Symbol.{Symbol}
use Rattle.pf_tokens.specs.declared.symbol.Symbol.TheVariants as mark
use Rattle.pf_tokens.specs.Tokens.{Token, Word, Quoted, Macro, Mark, Newline, Bad, is_newline}
use Rattle.pf_tokens.specs.Macros.{Definition, depth_after}
use Rattle.pf_tokens.specs.Faults.{reading_fault, or_fault, is_bad, is_unknown}
use Rattle.pf_tokens.specs.Blanks.{blanked}
use Rattle.pf_tokens.specs.Lists.{Elements}
use Rattle.pf_tokens.specs.ListGrammar.{IsComma, NoComma, CommaSign, IsElements, LastOne, LastList, OneMore, ListMore, IsList, Braces, IsSome, One, Listed}
use Rattle.pf_rules.specs.declared.parts.Addresses.{Addresses}
use Rattle.pf_rules.specs.declared.parts.Direction.{Direction}
use Rattle.pf_rules.specs.declared.parts.FlagTest.{FlagTest}
use Rattle.pf_rules.specs.declared.parts.Host.{Host}
use Rattle.pf_rules.specs.declared.parts.Interface.{Interface}
use Rattle.pf_rules.specs.declared.parts.Policy.{Policy}
use Rattle.pf_rules.specs.declared.parts.PortTest.{PortTest}
use Rattle.pf_rules.specs.Items.{Target}
use Rattle.pf_rules.specs.Names.{Name}
use Rattle.pf_addr.specs.declared.addr.Family.{Family}
use Rattle.pf_addr.specs.Blocks.{Block}
use Rattle.pf_statements.specs.declared.conditions.Protocol.{Protocol}
use Rattle.pf_statements.specs.declared.conditions.WrittenPort.{WrittenPort}
use Rattle.pf_statements.specs.declared.conditions.WrittenType.{WrittenType}
use Rattle.pf_statements.specs.Conditions.{Ends, CommonText}
use Rattle.pf_statements.specs.ConditionGrammar.{IsBehind, Missing, Behind, IsInterfaceName, NameWord, NameString, IsInterface, OnInterface, NotOnInterface, IsFamily, NoFamily, InetWord, Inet6Word, IsProtocol, ProtocolWord, IsPrefix, WholeAddress, CutAddress, IsTable, TableSign, IsSet, PrefixSet, RangeSet, TableSet, IsHost, AnyWord, HostIn, HostNotIn}
use Rattle.pf_statements.specs.ConditionGrammar.{IsOperator, EqualsSign, NotEqualSign, LessSign, LessEqualSign, GreaterSign, GreaterEqualSign, IsBounds, BetweenSign, OutsideSign, IsPort, PortAlone, PortCompared, PortBounds, IsPart, PartHosts, PartPorts, IsHosts, NoHosts, AllWord, FromPart, ToPart, FromToParts}
use Rattle.pf_statements.specs.ConditionGrammar.{IsFlags, AnyFlags, NoneOf, SomeOf, IsType, TypeWord, IsTypes, TypeAlone, TypeList, IsCommon}
use Rattle.pf_statements.specs.declared.written.WrittenAction.{WrittenAction}
use Rattle.pf_statements.specs.Anchors.{AnchorText, HeadingText}
use Rattle.pf_statements.specs.Statements.{Options, RuleText, ItemText, RuleItem, AnchorItem, BlockItem, ItemTexts, no_texts, one_text}
use Rattle.pf_statements.specs.Grammar.{IsPolicy, DropWord, ReturnWord, IsAction, PassWord, BlockWord, BlockSaid, IsDirection, NoDirection, InWord, OutWord, IsSaid, Unsaid, Said, IsOptions, NoOption, FlagsOption, StateOption, TypesOption, IsRule, IsTarget, TargetWord, TargetString, IsAnchor, IsOptional, LeftOut, Given, IsHeading, IsItem, ARule, AnAnchor, ABlock, AreItems, NoItem, EmptyLine, OneItem}

pub both_true : (a b : Bool) → (a && b) ≡ true → (a ≡ true) × (b ≡ true)
both_true true true h = (refl, refl)
both_true true false h = cc
both_true false b h = cc

-- ---- how many braces are open

-- no more than 64 behind any of these tokens
abbrev pub low : ℕ → List Token → Bool
low d [] = true
low d (t ∷ ts) = nat_le (depth_after d t) 64 && low (depth_after d t) ts

or_gone : (a b x y : Bool) (o : Option ReadingFault) → or_fault a Lexical (or_fault b UnknownMacro (or_fault (x || y) TooMany o)) ≡ None → (o ≡ None) × (y ≡ false)
or_gone true b x y o e = absurd cc
or_gone false true x y o e = absurd cc
or_gone false false true y o e = absurd cc
or_gone false false false true o e = absurd cc
or_gone false false false false o e = (e, refl)

-- so it is where there is no fault
pub fault_low : (ds : List Definition) (c d : ℕ) (ts : List Token) → reading_fault ds c d ts ≡ None → low d ts ≡ true
fault_low ds c d [] e = refl
fault_low ds c d (t ∷ ts) e =
    let g = or_gone (is_bad t) (is_unknown ds t) (nat_le 65536 c) (nat_lt 64 (depth_after d t)) (reading_fault ds (c + 1) (depth_after d t) ts) e in
    rw (not_more (depth_after d t) g.1) (fault_low ds (c + 1) (depth_after d t) ts g.0)
  where
    not_more : (n : ℕ) → nat_lt 64 n ≡ false → nat_le n 64 ≡ true
    not_more n e = grind (arith, nat_tests, e)

-- behind the tokens as many are open as before them
pub record Level (ts : List Token) : Type 0 where
  pub through : (d : ℕ) (more : List Token) → d ≤ 64 → low d (ts ++ more) ≡ true → low d more ≡ true

level_none : Level []
level_none = record { through = λ d more h e. e }

level_append : (ts us : List Token) → Level ts → Level us → Level (ts ++ us)
level_append ts us p q = record { through = λ d more h e. q.through d more h (p.through d (us ++ more) h (subst (λ (r : List Token). low d r ≡ true) (append_assoc ts us more) e)) }

level_token : (t : Token) → ((d : ℕ) → depth_after d t ≡ d) → (ts : List Token) → Level ts → Level (t ∷ ts)
level_token t same ts p = record {
  through = λ d more h e.
      let both = both_true (nat_le (depth_after d t) 64) (low (depth_after d t) (ts ++ more)) e in
      p.through d more h (subst (λ (k : ℕ). low k (ts ++ more) ≡ true) (same d) both.1);
}

level_word : (word : List ℕ) (ts : List Token) → Level ts → Level (Word word ∷ ts)
level_word word ts p = level_token (Word word) (λ d. refl) ts p

level_key : (word : List ℕ) → Level (Word word ∷ [])
level_key word = level_word word [] level_none

-- ---- braces

pub opened : (d : ℕ) → d ≤ 64 → depth_after d (Mark mark.Open) ≡ d + 1
opened d h = rw (less d h) refl
  where
    less : (d : ℕ) → d ≤ 64 → nat_lt d 65 ≡ true
    less d h = grind (arith, nat_tests, h)

opens : (d : ℕ) (rest : List Token) → d ≤ 64 → low d (Mark mark.Open ∷ rest) ≡ true → (d + 1 ≤ 64) × (low (d + 1) rest ≡ true)
opens d rest h e =
    let both = both_true (nat_le (depth_after d (Mark mark.Open)) 64) (low (depth_after d (Mark mark.Open)) rest) e in
    (leb-true (d + 1) 64 (subst (λ (k : ℕ). nat_le k 64 ≡ true) (opened d h) both.0), subst (λ (k : ℕ). low k rest ≡ true) (opened d h) both.1)

closes : (d : ℕ) (ts more : List Token) → Level ts → d + 1 ≤ 64 → low (d + 1) ((ts ++ (Mark mark.Close ∷ [])) ++ more) ≡ true → low d more ≡ true
closes d ts more p h e =
    let within = subst (λ (r : List Token). low (d + 1) r ≡ true) (append_assoc ts (Mark mark.Close ∷ []) more) e in
    let behind = p.through (d + 1) (Mark mark.Close ∷ more) h within in
    subst (λ (k : ℕ). low k more ≡ true) (one_less d) (both_true (nat_le (d + 1 - 1) 64) (low (d + 1 - 1) more) behind).1
  where
    one_less : (d : ℕ) → d + 1 - 1 ≡ d
    one_less d = omega arith

level_braces : (ts : List Token) → Level ts → Level (Mark mark.Open ∷ (ts ++ (Mark mark.Close ∷ [])))
level_braces ts p = record { through = λ d more h e. let in_braces = opens d ((ts ++ (Mark mark.Close ∷ [])) ++ more) h e in closes d ts more p in_braces.0 in_braces.1 }

-- newlines within a list change nothing
blank_low : (n d : ℕ) (us more : List Token) → d ≤ 64 → low d (us ++ more) ≡ true → low d (blanked n us ++ more) ≡ true
blank_low zero d us more h e = e
blank_low (suc n) d [] more h e = e
blank_low (suc n) d (t ∷ us) more h e =
    let both = both_true (nat_le (depth_after d t) 64) (low (depth_after d t) (us ++ more)) e in
    let short = leb-true (depth_after d t) 64 both.0 in
    (elim (is_newline t) as (λ b. is_newline t ≡ b → low d (cond b (blanked (suc n) us) (t ∷ blanked (depth_after (suc n) t) us) ++ more) ≡ true) [
      | true ↦ λ k. blank_low (suc n) d us more h (subst (λ (j : ℕ). low j (us ++ more) ≡ true) (newline_level t d k) both.1)
      | false ↦ λ k. rw both.0 (blank_low (depth_after (suc n) t) (depth_after d t) us more short both.1)
    ]) refl
  where
    newline_level : (t : Token) (d : ℕ) → is_newline t ≡ true → depth_after d t ≡ d
    newline_level Newline d k = refl
    newline_level (Word w) d k = cc
    newline_level (Quoted w) d k = cc
    newline_level (Macro w) d k = cc
    newline_level (Mark s) d k = cc
    newline_level Bad d k = cc

level_comma : (ts : List Token) → IsComma ts → Level ts
level_comma _ NoComma = level_none
level_comma _ CommaSign = level_token (Mark mark.Comma) (λ d. refl) [] level_none

level_elements : {X : Type 0} {Is : List Token → X → Type 0} → ((ts : List Token) (x : X) → Is ts x → Level ts) → (ts : List Token) (xs : List X) (n : ℕ) → IsElements Is ts xs n → Level ts
level_elements each _ _ _ (LastOne ts x is) = each ts x is
level_elements each _ _ _ (LastList ts xs n is) = level_braces ts (level_elements each ts xs n is)
level_elements each _ _ _ (OneMore ts comma us x ys e is c more) = level_append ts (comma ++ us) (each ts x is) (level_append comma us (level_comma comma c) (level_elements each us ys e more))
level_elements each _ _ _ (ListMore ts comma us xs ys n e is c more) =
    let rest = level_append comma us (level_comma comma c) (level_elements each us ys e more) in
    let first = level_braces ts (level_elements each ts xs n is) in
    subst Level (ap (λ (r : List Token). Mark mark.Open ∷ r) (append_assoc ts (Mark mark.Close ∷ []) (comma ++ us))) (level_append (Mark mark.Open ∷ (ts ++ (Mark mark.Close ∷ []))) (comma ++ us) first rest)

level_list : {X : Type 0} {Is : List Token → X → Type 0} → ((ts : List Token) (x : X) → Is ts x → Level ts) → (ts : List Token) (list : Elements X) → IsList Is ts list → Level ts
level_list each _ _ (Braces within ts xs n same is) = record {
  through = λ d more h e.
      let in_braces = opens d ((within ++ (Mark mark.Close ∷ [])) ++ more) h e in
      let blank = blank_low 1 (d + 1) (within ++ (Mark mark.Close ∷ [])) more in_braces.0 in_braces.1 in
      closes d ts more (level_elements each ts xs n is) in_braces.0 (subst (λ (r : List Token). low (d + 1) (r ++ more) ≡ true) same blank);
}

level_some : {X : Type 0} {Is : List Token → X → Type 0} → ((ts : List Token) (x : X) → Is ts x → Level ts) → (ts : List Token) (list : Elements X) → IsSome Is ts list → Level ts
level_some each _ _ (One ts x is) = each ts x is
level_some each _ _ (Listed ts list is) = level_list each ts list is

-- ---- conditions

level_behind : {X : Type 0} {Is : List Token → X → Type 0} (word : List ℕ) → ((ts : List Token) (x : X) → Is ts x → Level ts) → (ts : List Token) (o : Option X) → IsBehind word Is ts o → Level ts
level_behind word each _ _ Missing = level_none
level_behind word each _ _ (Behind ts x is) = level_word word ts (each ts x is)

level_name : (profile : Profile) (ts : List Token) (n : Name) → IsInterfaceName profile ts n → Level ts
level_name profile _ _ (NameWord n e) = level_key n
level_name profile _ _ (NameString n e) = level_token (Quoted n) (λ d. refl) [] level_none

level_interface : (profile : Profile) (ts : List Token) (i : Interface) → IsInterface profile ts i → Level ts
level_interface profile _ _ (OnInterface ts n is) = level_name profile ts n is
level_interface profile _ _ (NotOnInterface ts n is) = level_token (Mark mark.Not) (λ d. refl) ts (level_name profile ts n is)

level_family : (ts : List Token) (f : Option Family) → IsFamily ts f → Level ts
level_family _ _ NoFamily = level_none
level_family _ _ InetWord = level_key (codes "inet")
level_family _ _ Inet6Word = level_key (codes "inet6")

level_protocol : (ts : List Token) (p : Protocol) → IsProtocol ts p → Level ts
level_protocol _ _ (ProtocolWord word n e) = level_key word

level_prefix : (ts : List Token) (b : Block) → IsPrefix ts b → Level ts
level_prefix _ _ (WholeAddress addr b e) = level_key addr
level_prefix _ _ (CutAddress addr len b e) = level_word addr _ (level_token (Mark mark.Slash) (λ d. refl) _ (level_key len))

level_table : (profile : Profile) (ts : List Token) (n : Name) → IsTable profile ts n → Level ts
level_table profile _ _ (TableSign n e) = level_token (Mark mark.Less) (λ d. refl) _ (level_word n _ (level_token (Mark mark.Greater) (λ d. refl) [] level_none))

level_set : (profile : Profile) (ts : List Token) (s : Addresses) → IsSet profile ts s → Level ts
level_set profile _ _ (PrefixSet ts b is) = level_prefix ts b is
level_set profile _ _ (RangeSet first last a b span e f g) = level_word first _ (level_word (codes "-") _ (level_key last))
level_set profile _ _ (TableSet ts n is) = level_table profile ts n is

level_host : (profile : Profile) (ts : List Token) (x : Host) → IsHost profile ts x → Level ts
level_host profile _ _ AnyWord = level_key (codes "any")
level_host profile _ _ (HostIn ts s is) = level_set profile ts s is
level_host profile _ _ (HostNotIn ts s is) = level_token (Mark mark.Not) (λ d. refl) ts (level_set profile ts s is)

operator_level : (s : Symbol) (test : ℕ → PortTest) → IsOperator s test → (d : ℕ) → depth_after d (Mark s) ≡ d
operator_level _ _ EqualsSign d = refl
operator_level _ _ NotEqualSign d = refl
operator_level _ _ LessSign d = refl
operator_level _ _ LessEqualSign d = refl
operator_level _ _ GreaterSign d = refl
operator_level _ _ GreaterEqualSign d = refl

bounds_level : (s : Symbol) (test : ℕ → ℕ → PortTest) → IsBounds s test → (d : ℕ) → depth_after d (Mark s) ≡ d
bounds_level _ _ BetweenSign d = refl
bounds_level _ _ OutsideSign d = refl

level_port : (profile : Profile) (ts : List Token) (x : WrittenPort) → IsPort profile ts x → Level ts
level_port profile _ _ (PortAlone word e) = level_key word
level_port profile _ _ (PortCompared s test word is e) = level_token (Mark s) (operator_level s test is) _ (level_key word)
level_port profile _ _ (PortBounds s test first second is e f) = level_word first _ (level_token (Mark s) (bounds_level s test is) _ (level_key second))

level_part : (profile : Profile) (ts : List Token) (x : Ends) → IsPart profile ts x → Level ts
level_part profile _ _ (PartHosts ts us hosts ports is are) = level_append ts us (level_some (level_host profile) ts hosts is) (level_behind (codes "port") (level_some (level_port profile)) us ports are)
level_part profile _ _ (PartPorts ts ports are) = level_word (codes "port") ts (level_some (level_port profile) ts ports are)

level_hosts : (profile : Profile) (ts : List Token) (x y : Ends) → IsHosts profile ts x y → Level ts
level_hosts profile _ _ _ NoHosts = level_none
level_hosts profile _ _ _ AllWord = level_key (codes "all")
level_hosts profile _ _ _ (FromPart ts x is) = level_word (codes "from") ts (level_part profile ts x is)
level_hosts profile _ _ _ (ToPart ts x is) = level_word (codes "to") ts (level_part profile ts x is)
level_hosts profile _ _ _ (FromToParts ts us x y is are) = level_word (codes "from") _ (level_append ts _ (level_part profile ts x is) (level_word (codes "to") us (level_part profile us y are)))

level_flags : (ts : List Token) (x : FlagTest) → IsFlags ts x → Level ts
level_flags _ _ AnyFlags = level_key (codes "any")
level_flags _ _ (NoneOf text all e) = level_token (Mark mark.Slash) (λ d. refl) _ (level_key text)
level_flags _ _ (SomeOf said text set all e f g) = level_word said _ (level_token (Mark mark.Slash) (λ d. refl) _ (level_key text))

level_type : (ts : List Token) (x : WrittenType) → IsType ts x → Level ts
level_type _ _ (TypeWord word) = level_key word

level_types : (profile : Profile) (ts : List Token) (x : Elements WrittenType) → IsTypes profile ts x → Level ts
level_types profile _ _ (TypeAlone word e) = level_key word
level_types profile _ _ (TypeList ts list is) = level_list level_type ts list is

level_common : (profile : Profile) (ts : List Token) (x : CommonText) → IsCommon profile ts x → Level ts
level_common profile ts x is =
    subst Level (sym is.whole) (level_append is.interfaces _ (level_behind (codes "on") (level_some (level_interface profile)) is.interfaces x.interfaces is.are_interfaces)
    (level_append is.family _ (level_family is.family x.family is.is_family)
    (level_append is.protocols is.hosts (level_behind (codes "proto") (level_some level_protocol) is.protocols x.protocols is.are_protocols)
    (level_hosts profile is.hosts x.source x.destination is.are_hosts))))

-- ---- rules

level_policy : (ts : List Token) (x : Policy) → IsPolicy ts x → Level ts
level_policy _ _ DropWord = level_key (codes "drop")
level_policy _ _ ReturnWord = level_key (codes "return")

level_action : (ts : List Token) (x : WrittenAction) → IsAction ts x → Level ts
level_action _ _ PassWord = level_key (codes "pass")
level_action _ _ BlockWord = level_key (codes "block")
level_action _ _ (BlockSaid ts said is) = level_word (codes "block") ts (level_policy ts said is)

level_direction : (ts : List Token) (x : Option Direction) → IsDirection ts x → Level ts
level_direction _ _ NoDirection = level_none
level_direction _ _ InWord = level_key (codes "in")
level_direction _ _ OutWord = level_key (codes "out")

level_said : (word : List ℕ) (ts : List Token) (x : Bool) → IsSaid word ts x → Level ts
level_said word _ _ Unsaid = level_none
level_said word _ _ Said = level_key word

level_options : (profile : Profile) (said : Options) (ts : List Token) (all : Options) → IsOptions profile said ts all → Level ts
level_options profile _ _ _ (NoOption said) = level_none
level_options profile _ _ _ (FlagsOption said all ts us test e is more) = level_word (codes "flags") _ (level_append ts us (level_flags ts test is) (level_options profile _ us all more))
level_options profile _ _ _ (StateOption said all word us keep e is more) = level_word word _ (level_word (codes "state") us (level_options profile _ us all more))
level_options profile _ _ _ (TypesOption said all ts us types e f is more) = level_word (codes "icmp-type") _ (level_append ts us (level_types profile ts types is) (level_options profile _ us all more))

level_rule : (profile : Profile) (ts : List Token) (x : RuleText) → IsRule profile ts x → Level ts
level_rule profile ts x is =
    subst Level (sym is.whole) (level_append is.action _ (level_action is.action x.action is.is_action)
    (level_append is.direction _ (level_direction is.direction x.conditions.direction is.is_direction)
    (level_append is.log _ (level_said (codes "log") is.log is.logs is.is_log)
    (level_append is.quick _ (level_said (codes "quick") is.quick x.quick is.is_quick)
    (level_append is.common is.options (level_common profile is.common x.conditions.common is.is_common)
    (level_options profile _ is.options _ is.are_options))))))

level_target : (profile : Profile) (ts : List Token) (x : Target) → IsTarget profile ts x → Level ts
level_target profile _ _ (TargetWord text x e f) = level_key text
level_target profile _ _ (TargetString text x e) = level_token (Quoted text) (λ d. refl) [] level_none

level_optional : {X : Type 0} {Is : List Token → X → Type 0} → ((ts : List Token) (x : X) → Is ts x → Level ts) → (ts : List Token) (o : Option X) → IsOptional Is ts o → Level ts
level_optional each _ _ LeftOut = level_none
level_optional each _ _ (Given ts x is) = each ts x is

level_anchor : (profile : Profile) (ts : List Token) (x : AnchorText) → IsAnchor profile ts x → Level ts
level_anchor profile ts x is =
    subst Level (sym is.whole) (level_append is.target _ (level_target profile is.target x.target is.is_target)
    (level_append is.direction _ (level_direction is.direction x.conditions.direction is.is_direction)
    (level_append is.quick _ (level_said (codes "quick") is.quick x.quick is.is_quick)
    (level_append is.common is.flags (level_common profile is.common x.conditions.common is.is_common)
    (level_behind (codes "flags") level_flags is.flags x.conditions.flags is.are_flags)))))

level_heading : (profile : Profile) (ts : List Token) (x : HeadingText) → IsHeading profile ts x → Level ts
level_heading profile ts x is =
    subst Level (sym is.whole) (level_append is.target _ (level_optional (level_target profile) is.target x.target is.is_target)
    (level_append is.direction _ (level_direction is.direction x.conditions.direction is.is_direction)
    (level_append is.quick _ (level_said (codes "quick") is.quick x.quick is.is_quick)
    (level_append is.common is.flags (level_common profile is.common x.conditions.common is.is_common)
    (level_behind (codes "flags") level_flags is.flags x.conditions.flags is.are_flags)))))

mutual
  level_item : (profile : Profile) (ts : List Token) (x : ItemText) → IsItem profile ts x → Level ts
  level_item profile _ _ (ARule ts rule is) = level_rule profile ts rule is
  level_item profile _ _ (AnAnchor ts a is) = level_word (codes "anchor") ts (level_anchor profile ts a is)
  level_item profile _ _ (ABlock ts us h items is wild are) = level_word (codes "anchor") _ (level_append ts _ (level_heading profile ts h is) (level_braces us (level_items profile us items are)))

  level_items : (profile : Profile) (ts : List Token) (xs : ItemTexts) → AreItems profile ts xs → Level ts
  level_items profile _ _ NoItem = level_none
  level_items profile _ _ (EmptyLine ts items are) = level_token Newline (λ d. refl) ts (level_items profile ts items are)
  level_items profile _ _ (OneItem ts us x items is over are) = level_append ts us (level_item profile ts x is) (level_items profile us items are)

-- ---- how deep blocks nest

abbrev mutual
  -- with that many braces open before it, no more than 64 are open at once
  pub text_shallow : ℕ → ItemText → Bool
  text_shallow d (RuleItem rule) = true
  text_shallow d (AnchorItem a) = true
  text_shallow d (BlockItem h items) = nat_le (d + 1) 64 && texts_shallow (d + 1) items

  pub texts_shallow : ℕ → ItemTexts → Bool
  texts_shallow d no_texts = true
  texts_shallow d (one_text x items) = text_shallow d x && texts_shallow d items

pub at_most : (d : ℕ) → d ≤ 64 → nat_le d 64 ≡ true
at_most d h = grind (arith, nat_tests, h)

mutual
  pub item_shallow : (profile : Profile) (ts : List Token) (x : ItemText) → IsItem profile ts x → (d : ℕ) (more : List Token) → d ≤ 64 → low d (ts ++ more) ≡ true → text_shallow d x ≡ true
  item_shallow profile _ _ (ARule ts rule is) d more h e = refl
  item_shallow profile _ _ (AnAnchor ts a is) d more h e = refl
  item_shallow profile _ _ (ABlock ts us g items is wild are) d more h e =
      let block = Mark mark.Open ∷ (us ++ (Mark mark.Close ∷ [])) in
      let behind = (both_true (nat_le d 64) (low d ((ts ++ block) ++ more)) e).1 in
      let here = (level_heading profile ts g is).through d (block ++ more) h (subst (λ (r : List Token). low d r ≡ true) (append_assoc ts block more) behind) in
      let in_braces = opens d ((us ++ (Mark mark.Close ∷ [])) ++ more) h here in
      rw (at_most (d + 1) in_braces.0) (items_shallow profile us items are (d + 1) (Mark mark.Close ∷ more) in_braces.0 (subst (λ (r : List Token). low (d + 1) r ≡ true) (append_assoc us (Mark mark.Close ∷ []) more) in_braces.1))

  items_shallow : (profile : Profile) (ts : List Token) (xs : ItemTexts) → AreItems profile ts xs → (d : ℕ) (more : List Token) → d ≤ 64 → low d (ts ++ more) ≡ true → texts_shallow d xs ≡ true
  items_shallow profile _ _ NoItem d more h e = refl
  items_shallow profile _ _ (EmptyLine ts items are) d more h e = items_shallow profile ts items are d more h (both_true (nat_le d 64) (low d (ts ++ more)) e).1
  items_shallow profile _ _ (OneItem ts us x items is over are) d more h e =
      let all = subst (λ (r : List Token). low d r ≡ true) (append_assoc ts us more) e in
      rw (item_shallow profile ts x is d (us ++ more) h all) (items_shallow profile us items are d more h ((level_item profile ts x is).through d (us ++ more) h all))
