use Rattle.std.proofs.Common.{◌≡◌, ◌∙◌, List, ap, sym, subst}
use Rattle.std.specs.Prelude.{if◌then◌else◌, IfSome, slice_get}
use Rattle.std.specs.List.{remove}
use Rattle.pf_addr.specs.Order.{bits_of}
use Rattle.pf_rules.specs.declared.ruleset.TableEntry.{TableEntry}
use Rattle.pf_tables.specs.Tables.{bool_eq}
use Rattle.pf_tables.proofs.OneEdit.{by_search}
use Rattle.pf_tables.proofs.edits.take.Goals as goal

pub remove_at-requires-clause-place : goal.remove_at-requires-clause-place
remove_at-requires-clause-place c =
    let s = by_search c.args.part.now c.args.entry.now c.deref.result.now c.bits_of.result c.binary_search.result c.requires.part c.requires.own c.deref.ensures.value (c.bits_of.ensures ∙ ap bits_of c.base.ensures.value) c.binary_search.ensures.position in
    s.within c.in-Ok.at c.in-Ok.is

pub returns-then-has_sign-clause-entries : goal.returns-then-has_sign-clause-entries
returns-then-has_sign-clause-entries c =
    let s = by_search c.args.part.now c.args.entry.now c.deref.result.now c.bits_of.result c.binary_search.result c.requires.part c.requires.own c.deref.ensures.value (c.bits_of.ensures ∙ ap bits_of c.base.ensures.value) c.binary_search.ensures.position in
    let es = c.args.part.now.entries.items in
    let own = subst (λ (xs : List TableEntry). IfSome (slice_get xs c.in-Ok.at) (λ y. c.has_sign.result ≡ bool_eq y.negated c.args.entry.now.negated)) c.deref-in-Ok.ensures.value c.has_sign.ensures in
    let goes = s.goes c.in-Ok.at c.has_sign.result c.in-Ok.is own in
    c.remove_at.ensures.entries ∙ ap (λ b. if b then remove es c.in-Ok.at else es) (sym c.if-has_sign.true) ∙ sym goes

pub returns-else-has_sign-clause-entries : goal.returns-else-has_sign-clause-entries
returns-else-has_sign-clause-entries c =
    let s = by_search c.args.part.now c.args.entry.now c.deref.result.now c.bits_of.result c.binary_search.result c.requires.part c.requires.own c.deref.ensures.value (c.bits_of.ensures ∙ ap bits_of c.base.ensures.value) c.binary_search.ensures.position in
    let es = c.args.part.now.entries.items in
    let own = subst (λ (xs : List TableEntry). IfSome (slice_get xs c.in-Ok.at) (λ y. c.has_sign.result ≡ bool_eq y.negated c.args.entry.now.negated)) c.deref-in-Ok.ensures.value c.has_sign.ensures in
    let goes = s.goes c.in-Ok.at c.has_sign.result c.in-Ok.is own in
    ap (λ b. if b then remove es c.in-Ok.at else es) (sym c.if-has_sign.false) ∙ sym goes

pub returns-in-Err-clause-entries : goal.returns-in-Err-clause-entries
returns-in-Err-clause-entries c =
    let s = by_search c.args.part.now c.args.entry.now c.deref.result.now c.bits_of.result c.binary_search.result c.requires.part c.requires.own c.deref.ensures.value (c.bits_of.ensures ∙ ap bits_of c.base.ensures.value) c.binary_search.ensures.position in
    sym (s.none c.in-Err.field-0 c.in-Err.is)
