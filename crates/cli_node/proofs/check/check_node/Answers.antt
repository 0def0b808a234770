-- the first of what is refused
use Rattle.std.proofs.Common.{◌≡◌, ◌∙◌, false, inl, inr, rules, sym, subst}
use Rattle.std.specs.Prelude.{◌||◌, is_some}
use Rattle.cli_node.specs.declared.outcome.Outcome.{Outcome}
use Rattle.cli_node.specs.Endings.{first_of, is_beyond}
use Rattle.cli_node.specs.Stores.{IsStoreless}
use Rattle.cli_node.proofs.Beyond as beyond
use Rattle.cli_node.proofs.Endings.{checked_by, of_check, none_of, place_first, keys_sound, place_sound, store_sound, member_sound, if_some, none_matches, some_matches}
use Rattle.cli_node.proofs.check.check_node.Goals as goal

pub returns-clause-place : goal.returns-clause-place
returns-clause-place g c = λ e. checked_by c.map_or-place.result c.of_key-key.result c.of_key.result c.of_store-store.result c.of_starts-starts.result c.of_addresses.result c.of_control.result _ _ _ _ _ _
    c.first_of-sockets.ensures c.first_of.ensures c.first_of-beside.ensures c.first_of-keys.ensures c.first_of-2.ensures c.first_of-3.ensures
    ∙ place_first c.map_or-place.result (first_of c.of_key-key.result c.of_key.result) c.of_store-store.result c.of_starts-starts.result c.of_addresses.result c.of_control.result
    (none_matches c.membership-m.result _ _ (none_of _ _ c.membership-m.ensures.none e) c.map_or-place.ensures)

pub returns-clause-store : goal.returns-clause-store
returns-clause-store g c =
    subst (λ (o : Outcome). IsStoreless c.args.arguments.is_from_file c.args.arguments.is_new o)
    (sym (checked_by c.map_or-place.result c.of_key-key.result c.of_key.result c.of_store-store.result c.of_starts-starts.result c.of_addresses.result c.of_control.result _ _ _ _ _ _
    c.first_of-sockets.ensures c.first_of.ensures c.first_of-beside.ensures c.first_of-keys.ensures c.first_of-2.ensures c.first_of-3.ensures))
    (of_check c.args.arguments.is_from_file c.args.arguments.is_new c.map_or-place.result c.of_key-key.result c.of_key.result c.of_store-store.result c.of_starts-starts.result
    c.of_addresses.result c.of_control.result (some_matches c.membership-m.result _ _ _ (λ none. inr none) (λ m is. inl (search rules)) c.map_or-place.ensures) c.of_key-key.ensures.why c.of_key.ensures.why c.of_store-store.ensures.store c.of_starts-starts.ensures.why c.of_addresses.ensures c.of_control.ensures.why)

pub returns-clause-key : goal.returns-clause-key
returns-clause-key g c = λ e. c.of_key-key.ensures.sound
    (keys_sound c.map_or-place.result c.of_key-key.result c.of_key.result c.of_store-store.result c.of_starts-starts.result c.of_addresses.result c.of_control.result (sym (checked_by c.map_or-place.result c.of_key-key.result c.of_key.result c.of_store-store.result c.of_starts-starts.result c.of_addresses.result c.of_control.result _ _ _ _ _ _
    c.first_of-sockets.ensures c.first_of.ensures c.first_of-beside.ensures c.first_of-keys.ensures c.first_of-2.ensures c.first_of-3.ensures) ∙ e)).0

pub returns-clause-other : goal.returns-clause-other
returns-clause-other g c = λ e. c.of_key.ensures.sound
    (keys_sound c.map_or-place.result c.of_key-key.result c.of_key.result c.of_store-store.result c.of_starts-starts.result c.of_addresses.result c.of_control.result (sym (checked_by c.map_or-place.result c.of_key-key.result c.of_key.result c.of_store-store.result c.of_starts-starts.result c.of_addresses.result c.of_control.result _ _ _ _ _ _
    c.first_of-sockets.ensures c.first_of.ensures c.first_of-beside.ensures c.first_of-keys.ensures c.first_of-2.ensures c.first_of-3.ensures) ∙ e)).1

-- the store is found at its path, and nothing keeps the member from it
pub returns-clause-fit : goal.returns-clause-fit
returns-clause-fit g c = λ e.
    let all = sym (checked_by c.map_or-place.result c.of_key-key.result c.of_key.result c.of_store-store.result c.of_starts-starts.result c.of_addresses.result c.of_control.result _ _ _ _ _ _
    c.first_of-sockets.ensures c.first_of.ensures c.first_of-beside.ensures c.first_of-keys.ensures c.first_of-2.ensures c.first_of-3.ensures) ∙ e in
    let keys = first_of c.of_key-key.result c.of_key.result in
    let place = place_sound c.map_or-place.result keys c.of_store-store.result c.of_starts-starts.result c.of_addresses.result c.of_control.result all in
    let store = store_sound c.map_or-place.result keys c.of_store-store.result c.of_starts-starts.result c.of_addresses.result c.of_control.result all in
    let m = member_sound c.membership-m.result c.map_or-place.result (λ none. none_matches c.membership-m.result _ _ none c.map_or-place.ensures) place in
    let is = if_some c.membership-m.result _ m.0 m.1 c.membership-m.ensures.some in
    let fit = c.of_store-store.ensures.sound store m.0 m.1 in
    (m.0, (fit.0, (is.0, (is.1, (is.2, (if_some c.found_store-found.result _ fit.0 fit.1.0 c.found_store-found.ensures, fit.1.1))))))

pub returns-clause-beyond : goal.returns-clause-beyond
returns-clause-beyond g c =
    subst (λ (o : Outcome). is_beyond (is_some c.args.arguments.key || is_some c.args.arguments.other_key) (is_some c.args.arguments.control) o ≡ false)
    (sym (checked_by c.map_or-place.result c.of_key-key.result c.of_key.result c.of_store-store.result c.of_starts-starts.result c.of_addresses.result c.of_control.result _ _ _ _ _ _
    c.first_of-sockets.ensures c.first_of.ensures c.first_of-beside.ensures c.first_of-keys.ensures c.first_of-2.ensures c.first_of-3.ensures))
    (beyond.of_check _ _ _ c.map_or-place.result c.of_key-key.result c.of_key.result c.of_store-store.result c.of_starts-starts.result
    c.of_addresses.result c.of_control.result (some_matches c.membership-m.result _ _ _ (λ none. inr none) (λ m is. inl (search rules)) c.map_or-place.ensures) c.of_key-key.ensures.beyond c.of_key.ensures.beyond c.of_store-store.ensures.beyond c.of_starts-starts.ensures.beyond c.of_addresses.ensures c.of_control.ensures.beyond)
