-- The tables that statements come to fit.
use Rattle.std.proofs.Common.{◌≡◌, ℕ, ◌≤◌, ◌||◌, Bool, true, false, cond, List, [], ◌∷◌, ◌++◌, length, fold, Option, Some, None, option_map, refl, sym, ap, ◌∙◌, append_assoc, arith}
use Rattle.std.specs.Prelude.{nat_lt}
use Rattle.std.specs.List.{AllByRecursion, list_any}
use Rattle.std.proofs.lemmas.Bool.{false≢true}
use Rattle.std.proofs.lemmas.Bool.Decides.{nat_tests}
use Rattle.pf_rules.specs.declared.profile.Profile.{Profile}
use Rattle.pf_rules.specs.Words.{is_table_name}
use Rattle.pf_tokens.specs.Tokens.{Token}
use Rattle.pf_tokens.specs.Lists.{Elements}
use Rattle.pf_rules.specs.declared.ruleset.TableEntry.{TableEntry}
use Rattle.pf_rules.specs.Names.{Name}
use Rattle.pf_rules.specs.Rulesets.{TableValue}
use Rattle.pf_statements.specs.ConditionGrammar.{IsTable, TableSign}
use Rattle.pf_statements.specs.Tables.{TableText, new_table}
use Rattle.pf_statements.specs.Grammar.{IsEntry, EntryIn, EntryOut, AreEntries, NoEntries, SomeEntries, AreTableOptions, NoTableOption, PersistOption, ConstOption, CountersOption, EntriesOption, IsTableText, TableOptions}
use Rattle.pf_expansion.specs.Tables.{same_prefix, with_first, first_of_each, table_value, is_defined, is_too_long}
use Rattle.pf_expansion.specs.Causes.{is_deep}
use Rattle.pf_grammar.proofs.ShownTokens.{FitsIf}
use Rattle.pf_grammar.proofs.Made.{list_fits}
use Rattle.pf_grammar.proofs.PartsFit.{prefix_fits}
use Rattle.pf_grammar.proofs.TableLine.{FitsEntry, FitsEntries, FitsTable, FitTables}

-- ---- the first entry of each prefix

fold_append : (entries more : List TableEntry) (e : TableEntry) → fold with_first entries (more ++ e ∷ []) ≡ with_first (fold with_first entries more) e
fold_append entries [] e = refl
fold_append entries (f ∷ more) e = fold_append (with_first entries f) more e

-- nothing goes from what was kept
step_once : (entries : List TableEntry) (e : TableEntry) → first_of_each entries ≡ entries → first_of_each (with_first entries e) ≡ with_first entries e
step_once entries e once = cases (list_any (same_prefix e) entries) refl
  where
    cases : (b : Bool) → list_any (same_prefix e) entries ≡ b → first_of_each (cond b entries (entries ++ e ∷ [])) ≡ cond b entries (entries ++ e ∷ [])
    cases true is = once
    cases false is =
        fold_append [] entries e
        ∙ ap (λ (es : List TableEntry). with_first es e) once
        ∙ ap (λ b. cond b entries (entries ++ e ∷ [])) is

all_once : (entries more : List TableEntry) → first_of_each entries ≡ entries → first_of_each (fold with_first entries more) ≡ fold with_first entries more
all_once entries [] once = once
all_once entries (e ∷ more) once = all_once (with_first entries e) more (step_once entries e once)

all_append : (es : List TableEntry) (e : TableEntry) → AllByRecursion FitsEntry es → FitsEntry e → AllByRecursion FitsEntry (es ++ e ∷ [])
all_append [] e all one = (one, tt)
all_append (f ∷ es) e all one = (all.0, all_append es e all.1 one)

step_fit : (entries : List TableEntry) (e : TableEntry) → AllByRecursion FitsEntry entries → FitsEntry e → AllByRecursion FitsEntry (with_first entries e)
step_fit entries e all one = cases (list_any (same_prefix e) entries)
  where
    cases : (b : Bool) → AllByRecursion FitsEntry (cond b entries (entries ++ e ∷ []))
    cases true = all
    cases false = all_append entries e all one

each_fit : (entries more : List TableEntry) → AllByRecursion FitsEntry entries → AllByRecursion FitsEntry more → AllByRecursion FitsEntry (fold with_first entries more)
each_fit entries [] all rest = all
each_fit entries (e ∷ more) all rest = each_fit (with_first entries e) more (step_fit entries e all rest.0) rest.1

-- ---- what is written

abbrev pub FitsList : Elements TableEntry → Type 0
FitsList list = AllByRecursion FitsEntry list.items

entry_fits : (ts : List Token) (e : TableEntry) → IsEntry ts e → FitsEntry e
entry_fits _ _ (EntryIn ts block is) = prefix_fits ts block is
entry_fits _ _ (EntryOut ts block is) = prefix_fits ts block is

entries_fit : (ts : List Token) (list : Elements TableEntry) → AreEntries ts list → FitsList list
entries_fit _ _ (NoEntries within are) = tt
entries_fit _ _ (SomeEntries ts list is) = list_fits FitsEntry entry_fits ts list is

pub record FitsTableText (profile : Profile) (t : TableText) : Type 0 where
  pub name : is_table_name profile t.name ≡ true
  pub entries : FitsIf FitsList t.entries

options_fit : (profile : Profile) (said : TableText) (ts : List Token) (all : TableText) → AreTableOptions said ts all → FitsTableText profile said → FitsTableText profile all
options_fit profile _ _ _ (NoTableOption t) fits = fits
options_fit profile _ _ _ (PersistOption t all us more) fits = options_fit profile (record t { persist = true }) us all more (record { name = fits.name; entries = fits.entries })
options_fit profile _ _ _ (ConstOption t all us more) fits = options_fit profile (record t { is_const = true }) us all more (record { name = fits.name; entries = fits.entries })
options_fit profile _ _ _ (CountersOption t all us more) fits = options_fit profile t us all more fits
options_fit profile _ _ _ (EntriesOption t all ts us list none is more) fits = options_fit profile (record t { entries = Some list }) us all more (record { name = fits.name; entries = entries_fit ts list is })

new_fits : (profile : Profile) (ts : List Token) (name : Name) → IsTable profile ts name → FitsTableText profile (new_table name)
new_fits profile _ _ (TableSign name e) = record { name = e; entries = tt }

-- a table of the grammar is such a one
pub table_text_fits : (profile : Profile) (ts : List Token) (t : TableText) → IsTableText profile ts t → FitsTableText profile t
table_text_fits profile _ _ (TableOptions ts us name all is are) = options_fit profile (new_table name) us all are (new_fits profile ts name is)

-- ---- what it expands to

or_false : (a b : Bool) → (a || b) ≡ false → b ≡ false
or_false true b e = absurd (false≢true (sym e))
or_false false b e = e

not_above : (n : ℕ) → nat_lt 4096 n ≡ false → n ≤ 4096
not_above n e = grind (arith, nat_tests, e)

kept_fit : (o : Option (Elements TableEntry)) → FitsIf FitsList o → is_too_long o ≡ false → FitsIf FitsEntries (option_map (λ (list : Elements TableEntry). first_of_each list.items) o)
kept_fit None fits short = tt
kept_fit (Some list) fits short = record {
  each = each_fit [] list.items tt fits;
  once = all_once [] list.items refl;
  few = not_above (length (first_of_each list.items)) (or_false (is_deep list) (nat_lt 4096 (length (first_of_each list.items))) short);
}

pub table_fits : (profile : Profile) (t : TableText) → FitsTableText profile t → is_too_long t.entries ≡ false → FitsTable profile (table_value t)
table_fits profile t fits short = record { name = fits.name; entries = kept_fit t.entries fits.entries short }

-- one more table, whose name is new
pub tables_append : (profile : Profile) (before ts : List TableValue) (t : TableValue) → FitTables profile before ts → FitsTable profile t → is_defined (before ++ ts) t.name ≡ false → FitTables profile before (ts ++ t ∷ [])
tables_append profile before [] t fits one free = (one, ap (λ (all : List TableValue). is_defined all t.name) (sym (append_empty before)) ∙ free, tt)
  where
    append_empty : (xs : List TableValue) → xs ++ [] ≡ xs
    append_empty [] = refl
    append_empty (x ∷ xs) = ap (λ (ys : List TableValue). x ∷ ys) (append_empty xs)
tables_append profile before (u ∷ ts) t fits one free = (fits.0, fits.1, tables_append profile (before ++ u ∷ []) ts t fits.2 one (ap (λ (all : List TableValue). is_defined all t.name) (append_assoc before (u ∷ []) ts) ∙ free))
