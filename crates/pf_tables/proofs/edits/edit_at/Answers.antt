use Rattle.std.proofs.Common.{◌≡◌, ◌+◌, ◌≤◌, false, is_ok, List, rules, length, sym, subst}
use Rattle.pf_rules.specs.declared.ruleset.TableEntry.{TableEntry}
use Rattle.pf_tables.specs.Contents.{edited}
use Rattle.pf_tables.proofs.OneEdit.{part_at, own_key, edits, edited_at, same_at, few_edited}
use Rattle.pf_tables.proofs.edits.edit_at.Goals as goal

pub edit_part-requires-clause-part : goal.edit_part-requires-clause-part
edit_part-requires-clause-part c = part_at c.args.parts.now.items c.args.at c.index_mut-part.result.now c.requires.parts c.requires.place.within c.index_mut-part.ensures.value

pub edit_part-requires-clause-own : goal.edit_part-requires-clause-own
edit_part-requires-clause-own c =
    let p = c.index_mut-part.result.now in
    let key = c.requires.place.own p c.index_mut-part.ensures.value in
    own_key p.v6 p.len c.args.entry.now key.0 key.1

pub index_mut-part-requires : goal.index_mut-part-requires
index_mut-part-requires c = let within = c.requires.place.within in search rules

pub returns-in_err-edit_part-clause-parts : goal.returns-in_err-edit_part-clause-parts
returns-in_err-edit_part-clause-parts c =
    let items = c.args.parts.now.items in
    let p = c.index_mut-part.result.now in
    let q = c.edit_part.new.part in
    let key = c.requires.place.own p c.index_mut-part.ensures.value in
    let e = rw c.in_err-edit_part.was at c.edit_part.ensures.entries in
    let one = same_at items c.args.at p q c.requires.parts c.requires.place.within c.index_mut-part.ensures.value c.edit_part.ensures.family c.edit_part.ensures.len e in
    one.0

pub returns-in_err-edit_part-clause-entries : goal.returns-in_err-edit_part-clause-entries
returns-in_err-edit_part-clause-entries c =
    let items = c.args.parts.now.items in
    let p = c.index_mut-part.result.now in
    let q = c.edit_part.new.part in
    let key = c.requires.place.own p c.index_mut-part.ensures.value in
    let e = rw c.in_err-edit_part.was at c.edit_part.ensures.entries in
    let one = same_at items c.args.at p q c.requires.parts c.requires.place.within c.index_mut-part.ensures.value c.edit_part.ensures.family c.edit_part.ensures.len e in
    let failed : is_ok c.from_residual.result ≡ false = search rules in
    rw failed one.1

pub returns-clause-parts : goal.returns-clause-parts
returns-clause-parts c =
    let items = c.args.parts.now.items in
    let p = c.index_mut-part.result.now in
    let q = c.edit_part.new.part in
    let key = c.requires.place.own p c.index_mut-part.ensures.value in
    let e : q.entries.items ≡ edited c.args.edit c.args.entry.now p.entries.items = rw c.in_ok-edit_part.was at c.edit_part.ensures.entries in
    let few : length q.entries.items ≤ length p.entries.items + 1 = subst (λ (z : List TableEntry). length z ≤ length p.entries.items + 1) (sym e) (few_edited c.args.edit p.entries.items c.args.entry.now) in
    let one = edited_at c.args.entry.now (edited c.args.edit c.args.entry.now) (edits c.args.edit c.args.entry.now) items c.args.at p q c.requires.parts c.requires.place.within c.index_mut-part.ensures.value key.2 (own_key p.v6 p.len c.args.entry.now key.0 key.1) c.requires.block c.edit_part.ensures.family c.edit_part.ensures.len e few in
    one.parts

pub returns-clause-entries : goal.returns-clause-entries
returns-clause-entries c =
    let items = c.args.parts.now.items in
    let p = c.index_mut-part.result.now in
    let q = c.edit_part.new.part in
    let key = c.requires.place.own p c.index_mut-part.ensures.value in
    let e : q.entries.items ≡ edited c.args.edit c.args.entry.now p.entries.items = rw c.in_ok-edit_part.was at c.edit_part.ensures.entries in
    let few : length q.entries.items ≤ length p.entries.items + 1 = subst (λ (z : List TableEntry). length z ≤ length p.entries.items + 1) (sym e) (few_edited c.args.edit p.entries.items c.args.entry.now) in
    let one = edited_at c.args.entry.now (edited c.args.edit c.args.entry.now) (edits c.args.edit c.args.entry.now) items c.args.at p q c.requires.parts c.requires.place.within c.index_mut-part.ensures.value key.2 (own_key p.v6 p.len c.args.entry.now key.0 key.1) c.requires.block c.edit_part.ensures.family c.edit_part.ensures.len e few in
    one.whole

pub returns-clause-counts : goal.returns-clause-counts
returns-clause-counts c =
    let items = c.args.parts.now.items in
    let p = c.index_mut-part.result.now in
    let q = c.edit_part.new.part in
    let key = c.requires.place.own p c.index_mut-part.ensures.value in
    let e : q.entries.items ≡ edited c.args.edit c.args.entry.now p.entries.items = rw c.in_ok-edit_part.was at c.edit_part.ensures.entries in
    let few : length q.entries.items ≤ length p.entries.items + 1 = subst (λ (z : List TableEntry). length z ≤ length p.entries.items + 1) (sym e) (few_edited c.args.edit p.entries.items c.args.entry.now) in
    let one = edited_at c.args.entry.now (edited c.args.edit c.args.entry.now) (edits c.args.edit c.args.entry.now) items c.args.at p q c.requires.parts c.requires.place.within c.index_mut-part.ensures.value key.2 (own_key p.v6 p.len c.args.entry.now key.0 key.1) c.requires.block c.edit_part.ensures.family c.edit_part.ensures.len e few in
    let b : c.len-before.result ≡ length p.entries.items = search rules in
    let a : c.len-after.result ≡ length q.entries.items = search rules in
    rw (b, a) one.counts
