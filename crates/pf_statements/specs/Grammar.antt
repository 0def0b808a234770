-- The grammar of a statement, production by production (pf.conf(5), GRAMMAR): which tokens spell which value. It knows
-- nothing of how a ruleset is read.
use Rattle.std.specs.Prelude.{◌≡◌, ℕ, Bool, true, false, List, [], ◌∷◌, ◌++◌, Option, Some}
use Rattle.std.specs.Prelude.{None, codes}
use Rattle.pf_rules.specs.declared.profile.Profile.{Profile}
use Rattle.pf_tokens.specs.Tokens.{Token, Newline, Quoted}
use Rattle.pf_tokens.specs.Lists.{Elements}
use Rattle.pf_rules.specs.declared.parts.Policy.{Policy}
use Rattle.pf_rules.specs.declared.parts.Policy.TheVariants as policy
use Rattle.pf_rules.specs.declared.parts.Direction.{Direction}
use Rattle.pf_rules.specs.declared.parts.Direction.TheVariants.{In, Out}
use Rattle.pf_rules.specs.declared.parts.FlagTest.{FlagTest}
use Rattle.pf_statements.specs.declared.written.WrittenAction.{WrittenAction}
use Rattle.pf_statements.specs.declared.written.WrittenAction.TheVariants.{Pass, Block as Blocks}
use Rattle.pf_statements.specs.declared.conditions.WrittenType.{WrittenType}
use Rattle.pf_rules.specs.Names.{Name}
use Rattle.pf_statements.specs.Statements.{Options, no_options, has_types, may_keep, RuleText, Setting, SetPolicy}
use Rattle.pf_statements.specs.Statements.{SetSkip, Statement, Sets, Rules, Tables, Anchors, AnchorBlocks}
use Rattle.pf_statements.specs.Statements.{ItemText, RuleItem, AnchorItem, BlockItem, ItemTexts, no_texts, one_text}
use Rattle.pf_statements.specs.Statements.{is_wild}
use Rattle.pf_statements.specs.Options.{is_over}
use Rattle.pf_statements.specs.Anchors.{AnchorText, HeadingText}
use Rattle.pf_rules.specs.Items.{Target}
use Rattle.pf_rules.specs.Words.{is_reserved}
use Rattle.pf_statements.specs.Targets.{target_of}
use Rattle.pf_tokens.specs.ListGrammar.{sign, IsSome, IsList}
use Rattle.pf_statements.specs.ConditionGrammar.{key, IsInterfaceName, IsFlags, IsTypes, IsCommon}
use Rattle.pf_statements.specs.ConditionGrammar.{IsBehind}
use Rattle.pf_statements.specs.ConditionGrammar.{IsPrefix, IsTable}
use Rattle.pf_statements.specs.Tables.{TableText, new_table, no_entries}
use Rattle.pf_rules.specs.declared.ruleset.TableEntry.{TableEntry}
use Rattle.pf_addr.specs.Blocks.{Block}
use Rattle.pf_tokens.specs.declared.symbol.Symbol.TheVariants as mark

-- ---- the keywords at the front of a rule

-- "drop" | "return"
pub data IsPolicy : List Token → Policy → Type 0 where
  DropWord : IsPolicy (key (codes "drop")) policy.Drop
  ReturnWord : IsPolicy (key (codes "return")) policy.Return

-- action = "pass" | "block" ["drop" | "return"]
pub data IsAction : List Token → WrittenAction → Type 0 where
  PassWord : IsAction (key (codes "pass")) Pass
  BlockWord : IsAction (key (codes "block")) (Blocks None)
  BlockSaid : (ts : List Token) (said : Policy) → IsPolicy ts said →
      IsAction (key (codes "block") ++ ts) (Blocks (Some said))

-- [way], way = "in" | "out"
pub data IsDirection : List Token → Option Direction → Type 0 where
  NoDirection : IsDirection [] None
  InWord : IsDirection (key (codes "in")) (Some In)
  OutWord : IsDirection (key (codes "out")) (Some Out)

-- [word]
pub data IsSaid (word : List ℕ) : List Token → Bool → Type 0 where
  Unsaid : IsSaid word [] false
  Said : IsSaid word (key word) true

-- ---- options

-- "no" | "keep"
pub data IsKeep : List ℕ → Bool → Type 0 where
  NoWord : IsKeep (codes "no") false
  KeepWord : IsKeep (codes "keep") true

-- {option}, each once at most, in any order, from the options that are given before to all that are given
-- option = "flags" flags | "no" "state" | "keep" "state" | "icmp-type" types, the last in profile Two alone
pub data IsOptions (profile : Profile) : Options → List Token → Options → Type 0 where
  NoOption : (said : Options) → IsOptions profile said [] said
  FlagsOption : (said all : Options) (ts us : List Token) (test : FlagTest) → said.flags ≡ None →
      IsFlags ts test → IsOptions profile (record said { flags = Some test }) us all →
      IsOptions profile said (key (codes "flags") ++ (ts ++ us)) all
  StateOption : (said all : Options) (word : List ℕ) (us : List Token) (keep : Bool) → said.state ≡ None →
      IsKeep word keep → IsOptions profile (record said { state = Some keep }) us all →
      IsOptions profile said (key word ++ (key (codes "state") ++ us)) all
  TypesOption : (said all : Options) (ts us : List Token) (types : Elements WrittenType) → has_types profile ≡
      true → said.types ≡ None → IsTypes profile ts types →
      IsOptions profile (record said { types = Some types }) us all →
      IsOptions profile said (key (codes "icmp-type") ++ (ts ++ us)) all

-- ---- rules

-- rule = action [way] ["log"] ["quick"] common {option}, where a block rule keeps no state
pub record IsRule (profile : Profile) (tokens : List Token) (r : RuleText) : Type 0 where
  pub action : List Token
  pub direction : List Token
  pub log : List Token
  pub logs : Bool
  pub quick : List Token
  pub common : List Token
  pub options : List Token
  pub whole : tokens ≡ action ++ (direction ++ (log ++ (quick ++ (common ++ options))))
  pub is_action : IsAction action r.action
  pub is_direction : IsDirection direction r.conditions.direction
  pub is_log : IsSaid (codes "log") log logs
  pub is_quick : IsSaid (codes "quick") quick r.quick
  pub is_common : IsCommon profile common r.conditions.common
  pub are_options : IsOptions profile no_options options (record {
    flags = r.conditions.flags;
    state = r.state;
    types = r.conditions.types;
  })
  pub keeps : may_keep r.action r.state ≡ true

-- ---- anchor rules

-- ANAME: a STRING, or a WORD that isn't reserved
pub data IsTarget (profile : Profile) : List Token → Target → Type 0 where
  TargetWord : (text : List ℕ) (target : Target) → is_reserved profile text ≡ false →
      target_of text ≡ Some target → IsTarget profile (key text) target
  TargetString : (text : List ℕ) (target : Target) → target_of text ≡ Some target →
      IsTarget profile (Quoted text ∷ []) target

-- anchor = "anchor" ANAME [way] ["quick"] common [flags], after the first keyword
pub record IsAnchor (profile : Profile) (tokens : List Token) (a : AnchorText) : Type 0 where
  pub target : List Token
  pub direction : List Token
  pub quick : List Token
  pub common : List Token
  pub flags : List Token
  pub whole : tokens ≡ target ++ (direction ++ (quick ++ (common ++ flags)))
  pub is_target : IsTarget profile target a.target
  pub is_direction : IsDirection direction a.conditions.direction
  pub is_quick : IsSaid (codes "quick") quick a.quick
  pub is_common : IsCommon profile common a.conditions.common
  pub are_flags : IsBehind (codes "flags") IsFlags flags a.conditions.flags
  pub no_types : a.conditions.types ≡ None

-- [x]
pub data IsOptional {X : Type 0} (Is : List Token → X → Type 0) : List Token → Option X → Type 0 where
  LeftOut : IsOptional Is [] None
  Given : (ts : List Token) (x : X) → Is ts x → IsOptional Is ts (Some x)

-- heading = [ANAME] [way] ["quick"] common [flags]
pub record IsHeading (profile : Profile) (tokens : List Token) (h : HeadingText) : Type 0 where
  pub target : List Token
  pub direction : List Token
  pub quick : List Token
  pub common : List Token
  pub flags : List Token
  pub whole : tokens ≡ target ++ (direction ++ (quick ++ (common ++ flags)))
  pub is_target : IsOptional (IsTarget profile) target h.target
  pub is_direction : IsDirection direction h.conditions.direction
  pub is_quick : IsSaid (codes "quick") quick h.quick
  pub is_common : IsCommon profile common h.conditions.common
  pub are_flags : IsBehind (codes "flags") IsFlags flags h.conditions.flags
  pub no_types : h.conditions.types ≡ None

-- ---- blocks

mutual
  -- item = rule | "anchor" anchor | "anchor" heading "{" items "}", where `x/*` carries no block
  pub data IsItem (profile : Profile) : List Token → ItemText → Type 0 where
    ARule : (ts : List Token) (rule : RuleText) → IsRule profile ts rule → IsItem profile ts (RuleItem rule)
    AnAnchor : (ts : List Token) (anchor : AnchorText) → IsAnchor profile ts anchor →
        IsItem profile (key (codes "anchor") ++ ts) (AnchorItem anchor)
    ABlock : (ts us : List Token) (h : HeadingText) (items : ItemTexts) → IsHeading profile ts h →
        is_wild h.target ≡ false → AreItems profile us items →
        IsItem profile (key (codes "anchor") ++ (ts ++ (sign mark.Open ++ (us ++ sign mark.Close)))) (BlockItem h items)

  -- items = {NL} [item {NL {NL} item} {NL}]: nothing is behind an item on its line
  pub data AreItems (profile : Profile) : List Token → ItemTexts → Type 0 where
    NoItem : AreItems profile [] no_texts
    EmptyLine : (ts : List Token) (items : ItemTexts) → AreItems profile ts items →
        AreItems profile (Newline ∷ ts) items
    OneItem : (ts us : List Token) (item : ItemText) (items : ItemTexts) → IsItem profile ts item → is_over us ≡
        true → AreItems profile us items → AreItems profile (ts ++ us) (one_text item items)

-- ---- tables

-- ["!"] prefix
pub data IsEntry : List Token → TableEntry → Type 0 where
  EntryIn : (ts : List Token) (block : Block) → IsPrefix ts block →
      IsEntry ts (record { negated = false; prefix = block })
  EntryOut : (ts : List Token) (block : Block) → IsPrefix ts block →
      IsEntry (sign mark.Not ++ ts) (record { negated = true; prefix = block })

-- {NL}
pub data AreNewlines : List Token → Type 0 where
  NoNewline : AreNewlines []
  MoreNewlines : (ts : List Token) → AreNewlines ts → AreNewlines (Newline ∷ ts)

-- "{" "}" | list(["!"] prefix), where a newline is a blank
pub data AreEntries : List Token → Elements TableEntry → Type 0 where
  NoEntries : (within : List Token) → AreNewlines within →
      AreEntries (sign mark.Open ++ (within ++ sign mark.Close)) no_entries
  SomeEntries : (ts : List Token) (list : Elements TableEntry) → IsList IsEntry ts list → AreEntries ts list

-- {"persist" | "const" | "counters" | "{" "}" | list(["!"] prefix)}, the entries once at most, from what is given
-- before
pub data AreTableOptions : TableText → List Token → TableText → Type 0 where
  NoTableOption : (said : TableText) → AreTableOptions said [] said
  PersistOption : (said all : TableText) (us : List Token) →
      AreTableOptions (record said { persist = true }) us all → AreTableOptions said (key (codes "persist") ++ us) all
  ConstOption : (said all : TableText) (us : List Token) →
      AreTableOptions (record said { is_const = true }) us all → AreTableOptions said (key (codes "const") ++ us) all
  CountersOption : (said all : TableText) (us : List Token) → AreTableOptions said us all →
      AreTableOptions said (key (codes "counters") ++ us) all
  EntriesOption : (said all : TableText) (ts us : List Token) (list : Elements TableEntry) → said.entries ≡ None →
      AreEntries ts list → AreTableOptions (record said { entries = Some list }) us all →
      AreTableOptions said (ts ++ us) all

-- "<" TNAME ">" and its options
pub data IsTableText (profile : Profile) : List Token → TableText → Type 0 where
  TableOptions : (ts us : List Token) (name : Name) (all : TableText) → IsTable profile ts name →
      AreTableOptions (new_table name) us all → IsTableText profile (ts ++ us) all

-- ---- statements

-- "block-policy" ("drop" | "return") | "skip" "on" (IFNAME | list(IFNAME))
pub data IsSetting (profile : Profile) : List Token → Setting → Type 0 where
  PolicySetting : (ts : List Token) (said : Policy) → IsPolicy ts said →
      IsSetting profile (key (codes "block-policy") ++ ts) (SetPolicy said)
  SkipSetting : (ts : List Token) (names : Elements Name) → IsSome (IsInterfaceName profile) ts names →
      IsSetting profile (key (codes "skip") ++ (key (codes "on") ++ ts)) (SetSkip names)

-- statement = "set" setting | "table" table | "anchor" anchor | "anchor" heading "{" items "}" | rule
pub data IsStatement (profile : Profile) : List Token → Statement → Type 0 where
  SetStatement : (ts : List Token) (setting : Setting) → IsSetting profile ts setting →
      IsStatement profile (key (codes "set") ++ ts) (Sets setting)
  TableStatement : (ts : List Token) (table : TableText) → IsTableText profile ts table →
      IsStatement profile (key (codes "table") ++ ts) (Tables table)
  RuleStatement : (ts : List Token) (rule : RuleText) → IsRule profile ts rule → IsStatement profile ts (Rules rule)
  AnchorStatement : (ts : List Token) (anchor : AnchorText) → IsAnchor profile ts anchor →
      IsStatement profile (key (codes "anchor") ++ ts) (Anchors anchor)
  BlockStatement : (ts us : List Token) (h : HeadingText) (items : ItemTexts) → IsHeading profile ts h →
      is_wild h.target ≡ false → AreItems profile us items →
      IsStatement profile (key (codes "anchor") ++ (ts ++ (sign mark.Open ++ (us ++ sign mark.Close))))
      (AnchorBlocks h items)
