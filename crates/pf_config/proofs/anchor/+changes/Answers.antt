use Rattle.std.proofs.Common.{◌≡◌, ◌-◌, ◌++◌, true, length, take, drop, map, refl, subst, sym, rules}
use Rattle.std.specs.Prelude.{find, is_some, MatchResult}
use Rattle.std.specs.Rc.{rc_with_value}
use Rattle.pf_rules.specs.Seen.{rule_of}
use Rattle.pf_config.specs.Trees.{AnchorTree, AreKids, shared, own_entry, below}
use Rattle.pf_config.specs.Map.{Path}
use Rattle.pf_config.specs.inner.Trees.{is_named, kids_before}
use Rattle.pf_config.specs.inner.TableChanges.{Makes, TreeChangesIf, KidChangesIf}
use Rattle.pf_config.proofs.Changing.{tree_with, own_changes, kids_changed, kid_changes, none_is}
use Rattle.pf_config.proofs.Entries.{cons_is}
use Rattle.pf_config.proofs.KidHalves.{kids_in_order}
use Rattle.pf_config.proofs.KidPlaces.{has_place}
use Rattle.pf_config.proofs.anchor.+changes.Goals as goal

pub change_below-change_kid-requires : goal.change_below-change_kid-requires
change_below-change_kid-requires t c =
    let own = c.anchor.inside in
    let names : c.deref.result.now ≡ own.names.items = search rules in
    let kids = subst (λ (p : Path). AreKids p (shared own.kids.items)) (sym names) c.anchor.invariant in
    let order = kids_in_order own.names.items (shared own.kids.items) c.anchor.invariant in
    (search rules, (kids, order))

pub change_kid-index_mut-held-requires : goal.change_kid-index_mut-held-requires
change_kid-index_mut-held-requires t c =
    let ks = c.args.kids.now.items in
    let n = c.args.first.now in
    let at : c.count_before-at.result ≡ length (kids_before n (shared ks)) = search rules in
    let some : is_some (find (is_named n) (shared ks)) ≡ true = search rules in
    let less = has_place n c.count_before-at.result ks c.requires.order at some in
    search rules

pub change_kid-returns : goal.change_kid-returns
change_kid-returns t c =
    let ks = c.args.kids.now.items in
    let n = c.args.first.now in
    let at : c.count_before-at.result ≡ length (kids_before n (shared ks)) = search rules in
    let some : is_some (find (is_named n) (shared ks)) ≡ true = search rules in
    let less = has_place n c.count_before-at.result ks c.requires.order at some in
    let k = c.index_mut-held.result.now in
    let new = c.change_below.new.anchor in
    let x = rc_with_value k new in
    let old : c.in-Some.kid.now ≡ k.value = search rules in
    kids_changed (Makes c.args.change.now) c.args.names.now n c.args.more.now c.change_below.result c.count_before-at.result ks k x c.in-Some.kid.now new c.requires.kids at less c.index_mut-held.ensures.value some old refl c.change_below.ensures

pub change_below-invariant_of-anchor-in-len1-up : goal.change_below-invariant_of-anchor-in-len1-up
change_below-invariant_of-anchor-in-len1-up t c =
    let own = c.anchor.inside in
    let rest = c.args.rest.now in
    let n = c.first-item.result in
    let more = take (length rest - 1) (drop 1 rest) in
    let cut = cons_is rest n c.in-len1-up.len_at_least c.first-item.is in
    let names : c.deref.result.now ≡ own.names.items = search rules in
    let js = shared c.change_kid.new.kids.items in
    let made = subst (λ (p : Path). MatchResult c.change_kid.result (λ done. KidChangesIf done (Makes c.args.change.now) p n more (shared own.kids.items) js) (λ e. js ≡ shared own.kids.items)) names c.change_kid.ensures in
    let all = kid_changes c.change_kid.result (Makes c.args.change.now) n own.names.items more rest (map rule_of own.own.items.value.items) own.own.tables (shared own.kids.items) js c.anchor.invariant cut made in
    all.kids

pub change_below-returns-in-empty : goal.change_below-returns-in-empty
change_below-returns-in-empty t c =
    let own = c.anchor.inside in
    let held = map rule_of own.own.items.value.items in
    let next = map rule_of c.change_own.new.own.items.value.items in
    let short : length c.args.rest.now ≡ 0 = search rules in
    let all = own_changes (Makes c.args.change.now) c.change_own.result own.names.items c.args.rest.now held next own.own.tables c.change_own.new.own.tables (shared own.kids.items) c.anchor.invariant c.change_own.ensures (none_is c.args.rest.now short) in
    let new = tree_with own.names.items (own_entry own.names.items next c.change_own.new.own.tables ++ below (shared own.kids.items)) in
    subst (λ (x : AnchorTree). MatchResult c.change_own.result (λ done. TreeChangesIf done (Makes c.args.change.now) c.args.rest.now x new) (λ e. new ≡ x)) c.anchor.view_is all

pub change_below-returns-in-len1-up : goal.change_below-returns-in-len1-up
change_below-returns-in-len1-up t c =
    let own = c.anchor.inside in
    let held = map rule_of own.own.items.value.items in
    let rest = c.args.rest.now in
    let n = c.first-item.result in
    let more = take (length rest - 1) (drop 1 rest) in
    let cut = cons_is rest n c.in-len1-up.len_at_least c.first-item.is in
    let names : c.deref.result.now ≡ own.names.items = search rules in
    let js = shared c.change_kid.new.kids.items in
    let made = subst (λ (p : Path). MatchResult c.change_kid.result (λ done. KidChangesIf done (Makes c.args.change.now) p n more (shared own.kids.items) js) (λ e. js ≡ shared own.kids.items)) names c.change_kid.ensures in
    let all = kid_changes c.change_kid.result (Makes c.args.change.now) n own.names.items more rest held own.own.tables (shared own.kids.items) js c.anchor.invariant cut made in
    let new = tree_with own.names.items (own_entry own.names.items held own.own.tables ++ below js) in
    subst (λ (x : AnchorTree). MatchResult c.change_kid.result (λ done. TreeChangesIf done (Makes c.args.change.now) rest x new) (λ e. new ≡ x)) c.anchor.view_is all.is
