use Rattle.std.proofs.Common.{◌≡◌, ◌-◌, ◌++◌, [], length, take, drop, map, refl, sym, subst, rules}
use Rattle.pf_rules.specs.Seen.{rule_of}
use Rattle.pf_config.specs.Trees.{AnchorTree, shared, own_entry, below}
use Rattle.pf_config.specs.inner.Trees.{kids_before, placed_in}
use Rattle.pf_config.specs.inner.KidOrder.{AreInOrder}
use Rattle.pf_config.proofs.Entries.{cons_is, own_placed}
use Rattle.pf_config.specs.Map.{Path}
use Rattle.pf_config.proofs.Changing.{none_is}
use Rattle.pf_config.proofs.KidHalves.{kids_in_order}
use Rattle.pf_config.proofs.KidPlaces.{names_if_found, room_to_put, put_back, back_kids, back_placed}
use Rattle.pf_config.proofs.anchor.+with_entry.Goals as goal

pub count_before-at-requires : goal.count_before-at-requires
count_before-at-requires t c =
    let own = c.anchor.inside in
    subst (λ ks. AreInOrder (shared ks)) (sym c.deref.ensures.value) (kids_in_order own.names.items (shared own.kids.items) c.anchor.invariant)

pub take_named-removed-requires-clause-order : goal.take_named-removed-requires-clause-order
take_named-removed-requires-clause-order t c =
    let own = c.anchor.inside in
    kids_in_order own.names.items (shared own.kids.items) c.anchor.invariant

pub owned_or_empty-requires : goal.owned_or_empty-requires
owned_or_empty-requires t c =
    let own = c.anchor.inside in
    let names : c.deref-2.result.now ≡ own.names.items = search rules in
    rw names (names_if_found own.names.items c.name-item.result (shared own.kids.items) c.take_named-removed.result c.anchor.invariant c.take_named-removed.ensures.removed)

pub put_kid-requires : goal.put_kid-requires
put_kid-requires t c =
    let own = c.anchor.inside in
    let at : c.count_before-at.result ≡ length (kids_before c.name-item.result (shared own.kids.items)) = search rules in
    room_to_put c.name-item.result (shared own.kids.items) c.take_named-removed.new.kids.items c.count_before-at.result at c.take_named-removed.ensures.left

pub invariant_of-result-2 : goal.invariant_of-result-2
invariant_of-result-2 t c =
    let own = c.anchor.inside in
    let rest = c.args.rest.now in
    let n = c.name-item.result in
    let more = take (length rest - 1) (drop 1 rest) in
    let at : c.count_before-at.result ≡ length (kids_before n (shared own.kids.items)) = search rules in
    let old = c.in_ok-kid.kid in
    let put = put_back own.names.items n more (map rule_of c.args.own.items.value.items) c.args.own.tables (shared own.kids.items) (shared c.take_named-removed.new.kids.items) (shared c.put_kid.new.kids.items) c.count_before-at.result old c.in_ok-changed.changed at c.take_named-removed.ensures.left (search rules) (search rules) (search rules) in
    back_kids own.names.items n more (map rule_of own.own.items.value.items) (map rule_of c.args.own.items.value.items) own.own.tables c.args.own.tables (shared own.kids.items) (shared c.put_kid.new.kids.items) c.anchor.invariant put

pub returns : goal.returns
returns t c =
    let own = c.anchor.inside in
    let rest = c.args.rest.now in
    let n = c.name-item.result in
    let more = take (length rest - 1) (drop 1 rest) in
    let at : c.count_before-at.result ≡ length (kids_before n (shared own.kids.items)) = search rules in
    let old = c.in_ok-kid.kid in
    let put = put_back own.names.items n more (map rule_of c.args.own.items.value.items) c.args.own.tables (shared own.kids.items) (shared c.take_named-removed.new.kids.items) (shared c.put_kid.new.kids.items) c.count_before-at.result old c.in_ok-changed.changed at c.take_named-removed.ensures.left (search rules) (search rules) (search rules) in
    let cut = cons_is rest n c.in-len1-up.len_at_least c.name-item.is in
    subst (λ (x : AnchorTree). ◌≡◌ {A = AnchorTree} (record { names = own.names.items; anchors = own_entry own.names.items (map rule_of own.own.items.value.items) own.own.tables ++ below (shared c.put_kid.new.kids.items) }) (placed_in x rest (map rule_of c.args.own.items.value.items) c.args.own.tables)) c.anchor.view_is
    (back_placed own.names.items n more rest (map rule_of own.own.items.value.items) (map rule_of c.args.own.items.value.items) own.own.tables c.args.own.tables (shared own.kids.items) (shared c.put_kid.new.kids.items) c.anchor.invariant cut put)

pub returns-in_default : goal.returns-in_default
returns-in_default t c =
    let own = c.anchor.inside in
    let given = map rule_of c.args.own.items.value.items in
    let short : length c.args.rest.now ≡ 0 = search rules in
    let whole : AnchorTree = record { names = own.names.items; anchors = own_entry own.names.items given c.args.own.tables ++ below (shared own.kids.items) } in
    subst (λ (r : Path). ◌≡◌ {A = AnchorTree} whole (placed_in c.args.anchor r given c.args.own.tables)) (sym (none_is c.args.rest.now short))
    (subst (λ (x : AnchorTree). ◌≡◌ {A = AnchorTree} whole (placed_in x [] given c.args.own.tables)) c.anchor.view_is
    (own_placed own.names.items own.names.items (map rule_of own.own.items.value.items) given own.own.tables c.args.own.tables (shared own.kids.items) (shared own.kids.items) c.anchor.invariant refl refl))
