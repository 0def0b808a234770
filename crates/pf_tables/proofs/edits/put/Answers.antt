use Rattle.std.proofs.Common.{◌∙◌, ap, sym, subst}
use Rattle.pf_addr.specs.Order.{bits_of}
use Rattle.pf_tables.proofs.OneEdit.{by_search}
use Rattle.pf_tables.proofs.edits.put.Goals as goal

pub returns-in-Ok-clause-entries : goal.returns-in-Ok-clause-entries
returns-in-Ok-clause-entries c =
    let s = by_search c.args.part.now c.args.entry.now c.deref.result.now c.bits_of.result c.binary_search.result c.requires.part c.requires.own c.deref.ensures.value (c.bits_of.ensures ∙ ap bits_of c.base.ensures.value) c.binary_search.ensures.position in
    sym (s.stays c.in-Ok.field-0 c.in-Ok.is)

pub insert_at-requires-clause-place : goal.insert_at-requires-clause-place
insert_at-requires-clause-place c =
    let s = by_search c.args.part.now c.args.entry.now c.deref.result.now c.bits_of.result c.binary_search.result c.requires.part c.requires.own c.deref.ensures.value (c.bits_of.ensures ∙ ap bits_of c.base.ensures.value) c.binary_search.ensures.position in
    s.room c.in-Err.at c.in-Err.is

pub returns-in-Err-clause-entries : goal.returns-in-Err-clause-entries
returns-in-Err-clause-entries c =
    let s = by_search c.args.part.now c.args.entry.now c.deref.result.now c.bits_of.result c.binary_search.result c.requires.part c.requires.own c.deref.ensures.value (c.bits_of.ensures ∙ ap bits_of c.base.ensures.value) c.binary_search.ensures.position in
    rw (s.comes c.in-Err.at c.in-Err.is) c.insert_at.ensures.entries
