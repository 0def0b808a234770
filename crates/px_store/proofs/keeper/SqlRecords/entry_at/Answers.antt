use Rattle.std.proofs.Common.{◌≡◌, ◌∙◌, ℕ, ap, rules, subst, sym, true, false, List, [], ◌∷◌, Option, None, Some, option_to_list}
use Rattle.std.specs.Prelude.{MatchOption}
use Rattle.sqlite_value.specs.Order.{Row}
use Rattle.sqlite.specs.Held.{state}
use Rattle.px_records.specs.Records.Place.{EntryAt}
use Rattle.px_store.specs.Seen.{are_learned_rows, learned_columns, seen}
use Rattle.px_store.specs.declared.calls.Identity.{Identity}
use Rattle.px_store.proofs.Stored.{not_alike_entry}
use Rattle.px_store.proofs.keeper.SqlRecords.entry_at.Goals as goal

slice_is : (row : Option Row) (rows : List Row) → MatchOption row (rows ≡ []) (λ x. rows ≡ x ∷ []) → rows ≡ option_to_list row
slice_is None rows h = h
slice_is (Some x) rows h = h

pub invariant_of-self-clause-ahead_is : goal.invariant_of-self-clause-ahead_is
invariant_of-self-clause-ahead_is g c = λ none clean. c.pass-row.ensures.rest _ (c.read_ahead.new.self.ahead_is none clean)

pub returns-then-position-self-2-clause-bad : goal.returns-then-position-self-2-clause-bad
returns-then-position-self-2-clause-bad g c = λ honest is good.
    let none : c.read_ahead.new.self.failures ≡ 0 = search rules in
    let next : c.read_ahead.new.self.ahead.next ≡ c.args.position = search rules in
    let tree = (state g.S.Store c.read_ahead.new.self.conn).committed.trees 3 in
    let row = subst (λ (p : ℕ). seen learned_columns tree p ≡ option_to_list c.pass-row.result) next (c.pass-row.ensures.row tree (c.read_ahead.new.self.ahead_is none honest)) in
    let agrees = c.entry_in_rows.ensures.bad (c.stored.ensures.bad is) in
    let now = subst (λ (i : Identity). are_learned_rows i.members c.args.position (seen learned_columns tree c.args.position) ≡ true) c.read_ahead.ensures.same_identity
    ((c.read_ahead.ensures.reads.keeps honest none).rows (EntryAt c.args.position) good) in
    let e : false ≡ true = sym agrees ∙ ap (are_learned_rows c.args.self.now.identity.members c.args.position) (slice_is c.pass-row.result c.as_slice.result.now c.as_slice.ensures ∙ sym row) ∙ now in
    absurd cc

pub returns-clause-bad : goal.returns-clause-bad
returns-clause-bad g c = λ honest is good.
    let none : c.read_ahead.new.self.failures ≡ 0 = search rules in
    let last : c.look.new.self.failures ≡ 0 = search rules in
    let mid = c.look.ensures.reads.was honest in
    let tree = (state g.S.Store c.look.new.self.conn).committed.trees 3 in
    let here = (c.read_ahead.ensures.reads.keeps mid none).rows (EntryAt c.args.position) good in
    let now = subst (λ (i : Identity). are_learned_rows i.members c.args.position (seen learned_columns tree c.args.position) ≡ true) (c.look.ensures.same_identity ∙ c.read_ahead.ensures.same_identity)
    ((c.look.ensures.reads.keeps honest last).rows (EntryAt c.args.position) here) in
    let said_of_row = c.entry_in_rows-2.ensures.bad (c.stored-2.ensures.bad is) in
    let bad = not_alike_entry c.args.self.now.identity.members c.args.position _ _ (c.in_ok-rows.ensures.rows honest) (rw c.as_slice-2.ensures.value at said_of_row) in
    let e : false ≡ true = sym bad ∙ now in
    absurd cc
