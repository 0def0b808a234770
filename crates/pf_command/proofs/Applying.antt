-- From a change of the configuration to the effect of a command.
use Rattle.std.proofs.Common.{◌≡◌, ℕ, List, [], ◌∷◌, Result, Ok, Err, length, ◌-◌, refl, sym, ap, ap₂, ◌∙◌, arith}
use Rattle.pf_rules.specs.declared.ruleset.TableEntry.{TableEntry}
use Rattle.pf_rules.specs.Names.{Name}
use Rattle.pf_tables.specs.Contents.{with_entries, contents_of, without_entries}
use Rattle.pf_config.specs.declared.fault.ConfigFault.{ConfigFault}
use Rattle.pf_config.specs.declared.fault.ConfigFault.TheVariants as fault
use Rattle.pf_config.specs.Map.{Configuration, Path}
use Rattle.pf_config.specs.Changes.{Changes, Refuses, add, replace, delete, flush_table}
use Rattle.pf_entry.specs.Owned.{addresses_value}
use Rattle.pf_command.specs.declared.commands.Applied.{Applied}
use Rattle.pf_command.specs.declared.fault.ApplyFault.{ApplyFault}
use Rattle.pf_command.specs.declared.fault.ApplyFault.TheVariants as answer
use Rattle.pf_command.specs.Effect.{Effect, RefusedCommand, refused_change, uncounted, counted, contents_at, entries_of, changed}
use Rattle.pf_command.specs.Answers.{Applies, Leaves}
use Rattle.pf_command.specs.inner.Answers.{answer_of, fault_of_change, Counts}
use Rattle.pf_command.proofs.Counting.{all_came, none_gone, all_gone, none_came, all_new}
use Rattle.pf_command.proofs.Contents.{add_holds, replace_holds, delete_holds, flush_holds}

-- the entries of a list are these again
pub entries_again : (list : List TableEntry) → entries_of (addresses_value list) ≡ list
entries_again [] = refl
entries_again (e ∷ es) = ap (λ (r : List TableEntry). e ∷ r) (entries_again es)

refused_applies : (f : Result Configuration ConfigFault → Result Effect RefusedCommand) → ((e : ConfigFault) → f (Err e) ≡ Err (refused_change e)) → (e : ConfigFault) (old new : Configuration) (r : Result Configuration ConfigFault) → Refuses e old new r → Applies (Err (fault_of_change e)) old new (f r)
refused_applies f g fault.Memory old new r h = h
refused_applies f g fault.NoTable old new r h = (ap f h.0 ∙ g fault.NoTable, h.1)
refused_applies f g fault.ConstTable old new r h = (ap f h.0 ∙ g fault.ConstTable, h.1)
refused_applies f g fault.TableFull old new r h = (ap f h.0 ∙ g fault.TableFull, h.1)
refused_applies f g fault.AnchorsFull old new r h = (ap f h.0 ∙ g fault.AnchorsFull, h.1)
refused_applies f g fault.BadPath old new r h = (ap f h.0 ∙ g fault.BadPath, h.1)

pub uncounted_applies : {A : Type 0} (changed : Result A ConfigFault) (old new : Configuration) (r : Result Configuration ConfigFault) → Changes changed old new r → Applies (answer_of changed (record { added = 0; removed = 0 })) old new (uncounted r)
uncounted_applies (Ok x) old new r h = ap uncounted h
uncounted_applies (Err e) old new r h = refused_applies uncounted (λ e. refl) e old new r h

counted_applies : {A : Type 0} (changed : Result A ConfigFault) (n : Applied) (old new : Configuration) (p : Path) (name : Name) (r : Result Configuration ConfigFault) → Changes changed old new r → (r ≡ Ok new → Counts n (contents_at old p name) (contents_at new p name)) → Applies (answer_of changed n) old new (counted old p name r)
counted_applies (Ok x) n old new p name r h c =
    ap (counted old p name) h ∙ ap₂ (λ (a b : ℕ). Ok (record { configuration = new; added = a; removed = b })) (sym (c h).0) (sym (c h).1)
counted_applies (Err e) n old new p name r h c = refused_applies (counted old p name) (λ e. refl) e old new r h

counts_moved : (n : Applied) (old new entries : List TableEntry) → Counts n old entries → new ≡ entries → Counts n old new
counts_moved n old new entries c e = rw e c

pub add_applies : {A : Type 0} (changed : Result A ConfigFault) (n : Applied) (old new : Configuration) (p : Path) (name : Name) (list : List TableEntry) → Changes changed old new (add old p name list) → n.added ≡ length (contents_at new p name) - length (contents_at old p name) → n.removed ≡ 0 → Applies (answer_of changed n) old new (counted old p name (add old p name list))
add_applies changed n old new p name list h a b =
    counted_applies changed n old new p name (add old p name list) h (λ e.
    let was = contents_at old p name in
    let is : contents_at new p name ≡ with_entries was list = add_holds old new p name list e in
    let long : length (contents_at new p name) ≡ length (with_entries was list) = ap length is in
    let came = all_came was list in
    counts_moved n was (contents_at new p name) (with_entries was list) (omega (arith, came, long, a), b ∙ sym (none_gone was list)) is)

pub delete_applies : {A : Type 0} (changed : Result A ConfigFault) (n : Applied) (old new : Configuration) (p : Path) (name : Name) (list : List TableEntry) → Changes changed old new (delete old p name list) → n.added ≡ 0 → n.removed ≡ length (contents_at old p name) - length (contents_at new p name) → Applies (answer_of changed n) old new (counted old p name (delete old p name list))
delete_applies changed n old new p name list h a b =
    counted_applies changed n old new p name (delete old p name list) h (λ e.
    let was = contents_at old p name in
    let is : contents_at new p name ≡ without_entries was list = delete_holds old new p name list e in
    let long : length (contents_at new p name) ≡ length (without_entries was list) = ap length is in
    let gone = all_gone was list in
    counts_moved n was (contents_at new p name) (without_entries was list) (a ∙ sym (none_came was list), omega (arith, gone, long, b)) is)

pub replace_applies : {A : Type 0} (changed : Result A ConfigFault) (n : Applied) (old new : Configuration) (p : Path) (name : Name) (list : List TableEntry) → Changes changed old new (replace old p name list) → Counts n (contents_at old p name) (contents_of list) → Applies (answer_of changed n) old new (counted old p name (replace old p name list))
replace_applies changed n old new p name list h c =
    counted_applies changed n old new p name (replace old p name list) h (λ e. counts_moved n (contents_at old p name) (contents_at new p name) (contents_of list) c (replace_holds old new p name list e))

pub flush_applies : {A : Type 0} (changed : Result A ConfigFault) (n : Applied) (old new : Configuration) (p : Path) (name : Name) → Changes changed old new (flush_table old p name) → n.added ≡ 0 → n.removed ≡ length (contents_at old p name) → Applies (answer_of changed n) old new (counted old p name (flush_table old p name))
flush_applies changed n old new p name h a b =
    counted_applies changed n old new p name (flush_table old p name) h (λ e. counts_moved n (contents_at old p name) (contents_at new p name) [] (a, b ∙ sym (all_new (contents_at old p name))) (flush_holds old new p name e))

-- ---- the configuration after a command

pub leaves_next : (r : Result Applied ApplyFault) (old new : Configuration) (e : Result Effect RefusedCommand) → Applies r old new e → Leaves r old new (changed old e)
leaves_next (Ok counts) old new e h = rw h refl
leaves_next (Err answer.Memory) old new e h = h
leaves_next (Err (answer.Refused code line)) old new e h = rw h.0 h.1
