use Rattle.std.proofs.Common.{◌∙◌, ap, sym}
use Rattle.pf_addr.specs.Order.{bits_of, version}
use Rattle.pf_addr.specs.Blocks.{Block}
use Rattle.pf_tables.proofs.Deciding.{other_part, own_part, part_fits}
use Rattle.pf_tables.proofs.Keyed.{by_search, own_version}
use Rattle.pf_tables.proofs.Filtering.{filtered}
use Rattle.pf_tables.proofs.decided.in_part.Goals as goal

pub returns-then-is_other : goal.returns-then-is_other
returns-then-is_other c = other_part c.args.addr c.args.part.now c.requires (sym c.is_other.ensures ∙ c.if-is_other.true)

pub containing-prefix-requires : goal.containing-prefix-requires
containing-prefix-requires c = part_fits c.args.addr c.args.part.now c.requires (sym c.is_other.ensures ∙ c.if-is_other.false)

pub returns-then-not-may_contain : goal.returns-then-not-may_contain
returns-then-not-may_contain c =
    let p = c.args.part.now in
    let q : Block = c.containing-prefix.result in
    let is_q = c.containing-prefix.ensures in
    let x = c.bits_of-key.result in
    let none = filtered p.filter p.keys.items p.entries.items q x p.keyed p.filtered (c.bits_of-key.ensures ∙ ap bits_of c.base.ensures.value) (sym c.may_contain.ensures ∙ c.if-not-may_contain.true) in
    let s = own_part c.args.addr p c.requires in
    cc (s, none, is_q)

pub returns-in-Ok : goal.returns-in-Ok
returns-in-Ok c =
    let p = c.args.part.now in
    let q : Block = c.containing-prefix.result in
    let is_q = c.containing-prefix.ensures in
    let own = ap (λ (b : Block). version b.base) is_q ∙ own_version c.args.addr p.v6 p.len (sym c.is_other.ensures ∙ c.if-is_other.false) in
    let searched = by_search p.v6 p.len p.entries.items c.deref.result.now q c.bits_of-key.result c.binary_search.result c.requires.0 c.requires.2 own (ap (λ (b : Block). b.len) is_q) (c.deref.ensures.value ∙ p.keyed) (c.bits_of-key.ensures ∙ ap bits_of c.base.ensures.value) c.binary_search.ensures.position in
    let at = searched.at c.in-Ok.at c.in-Ok.is in
    let s = own_part c.args.addr p c.requires in
    let n = c.nth.ensures in
    let d = c.deref-in-Ok.ensures.value in
    cc (s, at, n, d, is_q)

pub returns-in-Err : goal.returns-in-Err
returns-in-Err c =
    let p = c.args.part.now in
    let q : Block = c.containing-prefix.result in
    let is_q = c.containing-prefix.ensures in
    let own = ap (λ (b : Block). version b.base) is_q ∙ own_version c.args.addr p.v6 p.len (sym c.is_other.ensures ∙ c.if-is_other.false) in
    let searched = by_search p.v6 p.len p.entries.items c.deref.result.now q c.bits_of-key.result c.binary_search.result c.requires.0 c.requires.2 own (ap (λ (b : Block). b.len) is_q) (c.deref.ensures.value ∙ p.keyed) (c.bits_of-key.ensures ∙ ap bits_of c.base.ensures.value) c.binary_search.ensures.position in
    let at = searched.nowhere c.in-Err.field-0 c.in-Err.is in
    let s = own_part c.args.addr p c.requires in
    cc (s, at, is_q)
