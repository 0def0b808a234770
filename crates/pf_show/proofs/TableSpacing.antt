-- Lines of tables as their parts, one behind another.
use Rattle.std.proofs.Common.{◌≡◌, ℕ, Bool, true, false, List, [], ◌∷◌, ◌++◌, map, refl, sym, ap, ◌∙◌, append_assoc, Option, Some, None, codes}
use Rattle.std.specs.List.{flat_map}
use Rattle.pf_rules.specs.declared.ruleset.TableDef.{TableDef}
use Rattle.pf_rules.specs.declared.ruleset.TableEntry.{TableEntry}
use Rattle.pf_rules.specs.Rulesets.{TableValue, table_of}
use Rattle.pf_show.specs.Shown.{Part, entry_part, entries_parts, word_parts, table_sign, table_parts, table_lines, more_parts, line, spaced_entry}
use Rattle.pf_show.specs.inner.Spaced.{spaced, table_line}
use Rattle.pf_show.proofs.Spacing.{spaced_append, more_is}

-- entries behind blanks, and the brace behind them
entries_closed : (entries : List TableEntry) → spaced (map entry_part entries ++ codes "}" ∷ []) ≡ flat_map spaced_entry entries ++ codes " }"
entries_closed [] = refl
entries_closed (e ∷ entries) = ap (λ t. 32 ∷ t) (ap (λ t. entry_part e ++ t) (entries_closed entries) ∙ sym (append_assoc (entry_part e) (flat_map spaced_entry entries) (codes " }")))

pub entries_are : (entries : List TableEntry) → spaced (entries_parts (Some entries)) ≡ codes " {" ++ (flat_map spaced_entry entries ++ codes " }")
entries_are entries = ap (λ t. codes " {" ++ t) (entries_closed entries)

-- the line of a table
pub table_line_is : (t : TableValue) → line (table_parts t) ≡ codes "table <" ++ (t.name ++ (62 ∷ (spaced (word_parts t.persist (codes "persist")) ++ (spaced (word_parts t.is_const (codes "const")) ++ (spaced (entries_parts t.entries) ++ 10 ∷ [])))))
unfolding table_parts
table_line_is t =
    let persist = word_parts t.persist (codes "persist") in
    let const = word_parts t.is_const (codes "const") in
    let entries = entries_parts t.entries in
    let end = 10 ∷ [] in
    ap (λ text. codes "table <" ++ text) (
    append_assoc t.name (62 ∷ []) (more_parts (persist ++ (const ++ entries)))
    ∙ ap (λ text. t.name ++ (62 ∷ text)) (
    more_is (persist ++ (const ++ entries))
    ∙ ap (λ text. text ++ end) (spaced_append persist (const ++ entries) ∙ ap (λ text. spaced persist ++ text) (spaced_append const entries))
    ∙ append_assoc (spaced persist) (spaced const ++ spaced entries) end
    ∙ ap (λ text. spaced persist ++ text) (append_assoc (spaced const) (spaced entries) end)))

-- tables line by line
pub tables_are : (tables : List TableDef) → table_lines (map table_of tables) ≡ flat_map table_line tables
tables_are [] = refl
tables_are (t ∷ tables) = ap (λ text. table_line t ++ text) (tables_are tables)
