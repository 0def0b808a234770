-- Settings and statements are read exactly where the grammar spells them.
use Rattle.std.proofs.Common.{◌≡◌, ℕ, inl, inr, Bool, true, false, cond, List, [], ◌∷◌, ◌++◌, drop, length, Option, Some, None, refl, sym, ap, subst, ◌∙◌, arith}
use Rattle.std.specs.Prelude.{bytes_eq, codes}
use Rattle.std.proofs.lemmas.Bool.{false≢true}
use Rattle.std.proofs.lemmas.List.{append-nil}
use Rattle.pf_rules.specs.declared.profile.Profile.{Profile}
use Rattle.pf_tokens.specs.Tokens.{Token, Word}
use Rattle.pf_tokens.specs.Productions.{Read, ◌>>=◌, begins, is_end}
use Rattle.pf_tokens.specs.Lists.{some_at}
use Rattle.pf_tokens.specs.inner.Shorter.{bind_some, some_is}
use Rattle.pf_rules.specs.declared.parts.Policy.{Policy}
use Rattle.pf_statements.specs.Conditions.{if_so, interface_name_at}
use Rattle.pf_statements.specs.Statements.{RuleText, policy_at, Setting, SetPolicy, SetSkip, all_read, policy_set, skip_set, setting_of, Statement, Sets, as_setting, value_of, Tables, as_table, ItemText, RuleItem, statement_with, as_item, item_at}
use Rattle.pf_tokens.specs.ListGrammar.{IsSome}
use Rattle.pf_statements.specs.ConditionGrammar.{IsInterfaceName}
use Rattle.pf_statements.specs.Grammar.{IsRule, IsItem, ARule, AnAnchor, ABlock, IsSetting, PolicySetting, SkipSetting, IsStatement, SetStatement, RuleStatement, TableStatement, AnchorStatement, BlockStatement}
use Rattle.pf_tokens.proofs.Fronts.{begins_is}
use Rattle.pf_tokens.proofs.ListsSpelled.{Spells, some_spells}
use Rattle.pf_statements.proofs.PiecesSpelled.{if_so_is, Anything, names_readable}
use Rattle.pf_statements.proofs.RulesSpelled.{PolicyTook, policy_took, policy_reads}
use Rattle.pf_statements.proofs.OptionsSpelled.{rule_not}
use Rattle.pf_statements.proofs.BlocksSpelled.{item_reads, item_took}
use Rattle.pf_statements.specs.Tables.{TableText, table_of}
use Rattle.pf_statements.proofs.TablesSpelled.{table_took, table_reads}

end_is : (ts : List Token) → is_end ts ≡ true → ts ≡ []
end_is [] e = refl
end_is (t ∷ ts) e = absurd (false≢true e)

names_spell : (profile : Profile) → Spells (some_at (interface_name_at profile)) (IsSome (IsInterfaceName profile)) Anything
names_spell profile = some_spells (names_readable profile)

-- ---- settings

all_read_is : {X : Type 0} (o : Read X) (x : X) → all_read o ≡ Some x → o ≡ Some (x, [])
all_read_is None x e = absurd cc
all_read_is (Some (y, [])) x e = ap (λ z. Some (z, [])) (some_is y x e)
all_read_is (Some (y, t ∷ ts)) x e = absurd cc

policy_setting : (profile : Profile) (ts : List Token) (setting : Setting) (read : Option Policy × List Token) → PolicyTook ts read → policy_set read ≡ Some setting → IsSetting profile (Word (codes "block-policy") ∷ ts) setting
policy_setting profile ts setting read took e =
    elim took [
      | inl said ↦
          let e' : if_so (is_end said.0.1) (SetPolicy said.0.0) ≡ Some setting = sym (ap policy_set said.1) ∙ e in
          let s = if_so_is (is_end said.0.1) (SetPolicy said.0.0) setting e' in
          let t = said.2 in
          let whole : ts ≡ t.piece = t.whole ∙ ap (λ (us : List Token). t.piece ++ us) (end_is said.0.1 s.0) ∙ append-nil t.piece in
          subst (λ (v : Setting). IsSetting profile (Word (codes "block-policy") ∷ ts) v) s.1 (subst (λ (us : List Token). IsSetting profile (Word (codes "block-policy") ∷ us) (SetPolicy said.0.0)) (sym whole) (PolicySetting t.piece said.0.0 t.is))
      | inr none ↦ absurd (let e' : policy_set (None, ts) ≡ Some setting = sym (ap policy_set none) ∙ e in cc)
    ]

skip_setting : (profile : Profile) (ts : List Token) (setting : Setting) → skip_set profile ts ≡ Some setting → IsSetting profile (Word (codes "skip") ∷ ts) setting
unfolding skip_set
skip_setting profile ts setting e = cases (begins (codes "on") ts) refl e
  where
    cases : (b : Bool) → begins (codes "on") ts ≡ b → cond b (all_read (some_at (interface_name_at profile) (drop 1 ts)) >>= λ names. Some (SetSkip names)) None ≡ Some setting → IsSetting profile (Word (codes "skip") ∷ ts) setting
    cases true on e =
        let a = bind_some (all_read (some_at (interface_name_at profile) (drop 1 ts))) (λ names. Some (SetSkip names)) setting e in
        let t = (names_spell profile).took (drop 1 ts) (a.0, []) (all_read_is _ a.0 a.1) in
        let whole : ts ≡ Word (codes "on") ∷ t.piece = begins_is (codes "on") ts on ∙ ap (λ (us : List Token). Word (codes "on") ∷ us) (t.whole ∙ append-nil t.piece) in
        subst (λ (v : Setting). IsSetting profile (Word (codes "skip") ∷ ts) v) (some_is (SetSkip a.0) setting a.2) (subst (λ (us : List Token). IsSetting profile (Word (codes "skip") ∷ us) (SetSkip a.0)) (sym whole) (SkipSetting t.piece a.0 t.is))
    cases false on e = absurd cc

setting_took : (profile : Profile) (ts : List Token) (setting : Setting) → setting_of profile ts ≡ Some setting → IsSetting profile ts setting
unfolding setting_of
setting_took profile ts setting e = cases (begins (codes "block-policy") ts) refl (begins (codes "skip") ts) refl e
  where
    cases : (b : Bool) → begins (codes "block-policy") ts ≡ b → (s : Bool) → begins (codes "skip") ts ≡ s → cond b (policy_set (policy_at (drop 1 ts))) (cond s (skip_set profile (drop 1 ts)) None) ≡ Some setting → IsSetting profile ts setting
    cases true b_is s s_is e = subst (λ (us : List Token). IsSetting profile us setting) (sym (begins_is (codes "block-policy") ts b_is)) (policy_setting profile (drop 1 ts) setting (policy_at (drop 1 ts)) (policy_took (drop 1 ts)) e)
    cases false b_is true s_is e = subst (λ (us : List Token). IsSetting profile us setting) (sym (begins_is (codes "skip") ts s_is)) (skip_setting profile (drop 1 ts) setting e)
    cases false b_is false s_is e = absurd cc

setting_reads : (profile : Profile) (ts : List Token) (setting : Setting) → IsSetting profile ts setting → setting_of profile ts ≡ Some setting
unfolding setting_of skip_set
setting_reads profile _ _ (PolicySetting ts said is) = ap policy_set (ap policy_at (sym (append-nil ts)) ∙ policy_reads ts [] said is)
setting_reads profile _ _ (SkipSetting ts names is) =
    ap (λ o. all_read o >>= λ names. Some (SetSkip names)) (ap (some_at (interface_name_at profile)) (sym (append-nil ts)) ∙ (names_spell profile).reads ts [] names is tt)

-- ---- statements

as_setting_is : (o : Option Setting) (s : Statement) → as_setting o ≡ Some s → (setting : Setting) × (o ≡ Some setting) × (Sets setting ≡ s)
as_setting_is None s e = absurd cc
as_setting_is (Some setting) s e = (setting, refl, some_is (Sets setting) s e)

as_table_is : (o : Option TableText) (s : Statement) → as_table o ≡ Some s → (table : TableText) × (o ≡ Some table) × (Tables table ≡ s)
as_table_is None s e = absurd cc
as_table_is (Some table) s e = (table, refl, some_is (Tables table) s e)

as_item_is : (o : Read ItemText) (s : Statement) → as_item o ≡ Some s → (item : ItemText) × (o ≡ Some (item, [])) × (statement_with item ≡ s)
as_item_is None s e = absurd cc
as_item_is (Some (item, ts)) s e =
    let k = if_so_is (is_end ts) (statement_with item) s e in
    (item, ap (λ (us : List Token). let read : Read ItemText = Some (item, us) in read) (end_is ts k.0), k.1)

item_statement : (profile : Profile) (ts : List Token) (item : ItemText) → IsItem profile ts item → IsStatement profile ts (statement_with item)
item_statement profile _ _ (ARule ts rule is) = RuleStatement ts rule is
item_statement profile _ _ (AnAnchor ts anchor is) = AnchorStatement ts anchor is
item_statement profile _ _ (ABlock ts us h items is wild are) = BlockStatement ts us h items is wild are

items_statement : (profile : Profile) (ts : List Token) (s : Statement) → as_item (item_at (length ts) profile ts) ≡ Some s → IsStatement profile ts s
items_statement profile ts s e =
    let a = as_item_is (item_at (length ts) profile ts) s e in
    let t = (item_took (length ts) profile ts (a.0, []) a.1).took in
    subst (λ (v : Statement). IsStatement profile ts v) a.2 (subst (λ (us : List Token). IsStatement profile us (statement_with a.0)) (sym (t.whole ∙ append-nil t.piece)) (item_statement profile t.piece a.0 t.is))

pub statement_took : (profile : Profile) (ts : List Token) (s : Statement) → value_of profile ts ≡ Some s → IsStatement profile ts s
unfolding value_of
statement_took profile ts s e = cases (begins (codes "set") ts) refl (begins (codes "table") ts) refl e
  where
    cases : (b : Bool) → begins (codes "set") ts ≡ b → (c : Bool) → begins (codes "table") ts ≡ c
        → cond b (as_setting (setting_of profile (drop 1 ts))) (cond c (as_table (table_of profile (drop 1 ts))) (as_item (item_at (length ts) profile ts))) ≡ Some s → IsStatement profile ts s
    cases true begun c table e =
        let a = as_setting_is (setting_of profile (drop 1 ts)) s e in
        subst (λ (v : Statement). IsStatement profile ts v) a.2 (subst (λ (us : List Token). IsStatement profile us (Sets a.0)) (sym (begins_is (codes "set") ts begun)) (SetStatement (drop 1 ts) a.0 (setting_took profile (drop 1 ts) a.0 a.1)))
    cases false begun true table e =
        let a = as_table_is (table_of profile (drop 1 ts)) s e in
        subst (λ (v : Statement). IsStatement profile ts v) a.2 (subst (λ (us : List Token). IsStatement profile us (Tables a.0)) (sym (begins_is (codes "table") ts table)) (TableStatement (drop 1 ts) a.0 (table_took profile (drop 1 ts) a.0 a.1)))
    cases false begun false table e = items_statement profile ts s e

item_whole : (profile : Profile) (ts : List Token) (item : ItemText) → IsItem profile ts item → as_item (item_at (length ts) profile ts) ≡ Some (statement_with item)
item_whole profile ts item is = ap as_item (ap (item_at (length ts) profile) (sym (append-nil ts)) ∙ item_reads profile ts item is (length ts) [] (omega arith) refl)

rule_first : (word : List ℕ) → bytes_eq (codes "pass") word ≡ false → bytes_eq (codes "block") word ≡ false → (profile : Profile) (ts : List Token) (r : RuleText) → IsRule profile ts r → begins word ts ≡ false
rule_first word pass block profile ts r is = sym (ap (begins word) (append-nil ts)) ∙ rule_not word pass block profile ts [] r is

pub statement_reads : (profile : Profile) (ts : List Token) (s : Statement) → IsStatement profile ts s → value_of profile ts ≡ Some s
unfolding value_of
statement_reads profile _ _ (SetStatement ts setting is) = ap as_setting (setting_reads profile ts setting is)
statement_reads profile _ _ (TableStatement ts table is) = ap as_table (table_reads profile ts table is)
statement_reads profile _ _ (AnchorStatement ts anchor is) = item_whole profile _ _ (AnAnchor ts anchor is)
statement_reads profile _ _ (BlockStatement ts us h items is wild are) = item_whole profile _ _ (ABlock ts us h items is wild are)
statement_reads profile _ _ (RuleStatement ts rule is) = rw (rule_first (codes "set") refl refl profile ts rule is, rule_first (codes "table") refl refl profile ts rule is) (item_whole profile ts (RuleItem rule) (ARule ts rule is))
