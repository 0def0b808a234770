use Rattle.std.proofs.Common.{ℕ, suc, ◌-◌, arith, ◌≡◌, rules, sym, subst}
use Rattle.sqlite.specs.Held.{state}
use Rattle.px_model.specs.Node.{Record}
use Rattle.px_model.specs.Spelling.{Bytes}
use Rattle.px_records.specs.Records.{IsEnd}
use Rattle.px_store.specs.Seen.{any_row}
use Rattle.px_store.specs.inner.Seen.{EndsAt}
use Rattle.px_records.specs.Records.Place.{EntryAt, LastEntry}
use Rattle.px_store.specs.Ready.{is_good, IsEntryGood}
use Rattle.px_store.proofs.Ends.{last_named}
use Rattle.px_store.specs.View.{view_of}
use Rattle.px_store.proofs.Promises.{only_then}
use Rattle.px_store.proofs.Highest.{end_is, last_entry}
use Rattle.px_store.proofs.sql.SqlRecordsRecords.read_learned_end.Goals as goal

pub returns-then-end-eq0-clause-ok : goal.returns-then-end-eq0-clause-ok
returns-then-end-eq0-clause-ok g c = λ honest.
    let zero : c.in_ok-end.end ≡ 0 = search rules in
    end_is ((state g.S.Store c.end_at.new.self.conn).committed.trees 3) 0 (subst (EndsAt any_row ((state g.S.Store c.end_at.new.self.conn).committed.trees 3)) zero (c.in_ok-end.ensures.value honest))

pub returns-in_err-_entry-clause-read : goal.returns-in_err-_entry-clause-read
returns-in_err-_entry-clause-read g c =
    let none : c.end_at.new.self.failures ≡ 0 = search rules in
    let h = only_then {a = view_of g.S.Store c.args.self.now} {b = view_of g.S.Store c.end_at.new.self} {c = view_of g.S.Store c.entry_at.new.self} none c.end_at.ensures.reads c.entry_at.ensures.reads in
    record { was = h.was; stays = λ x n. (h.keeps x n).same; rows = λ x n p. ((h.keeps x n).rows p, (h.keeps x n).back p); leaves = h.leaves }

pub returns-clause-read : goal.returns-clause-read
returns-clause-read g c =
    let none : c.end_at.new.self.failures ≡ 0 = search rules in
    let h = only_then {a = view_of g.S.Store c.args.self.now} {b = view_of g.S.Store c.end_at.new.self} {c = view_of g.S.Store c.entry_at.new.self} none c.end_at.ensures.reads c.entry_at.ensures.reads in
    record { was = h.was; stays = λ x n. (h.keeps x n).same; rows = λ x n p. ((h.keeps x n).rows p, (h.keeps x n).back p); leaves = h.leaves }

pub returns-clause-ok : goal.returns-clause-ok
returns-clause-ok g c = λ honest.
    let last : c.entry_at.new.self.failures ≡ 0 = search rules in
    let mid = c.entry_at.ensures.reads.was honest in
    let same = (c.entry_at.ensures.reads.keeps honest last).same in
    let is = end_is ((state g.S.Store c.end_at.new.self.conn).committed.trees 3) c.in_ok-end.end (c.in_ok-end.ensures.value mid) in
    subst (λ (d : Record Bytes). IsEnd d.learned c.in_ok-end.end) (sym same) is

pub returns-in_err-_entry-clause-bad : goal.returns-in_err-_entry-clause-bad
returns-in_err-_entry-clause-bad g c = λ honest is good.
    let none : c.end_at.new.self.failures ≡ 0 = search rules in
    let mid = c.entry_at.ensures.reads.was honest in
    let now = (c.end_at.ensures.reads.keeps mid none).rows LastEntry good in
    let tree = (state g.S.Store c.end_at.new.self.conn).committed.trees 3 in
    let here = last_named any_row (IsEntryGood c.end_at.new.self.identity.members tree) tree c.in_ok-end.end (c.in_ok-end.ensures.value mid) now (c.in_ok-end.end - 1) (search rules) in
    search rules

pub returns-clause-good : goal.returns-clause-good
returns-clause-good g c = λ honest.
    let last : c.entry_at.new.self.failures ≡ 0 = search rules in
    let mid = c.entry_at.ensures.reads.was honest in
    let keeps = c.entry_at.ensures.reads.keeps honest last in
    let db = (state g.S.Store c.end_at.new.self.conn).committed.trees in
    let named : (p : ℕ) → c.in_ok-end.end ≡ suc p → is_good c.end_at.new.self.identity.members db (EntryAt p) = λ p is. let q : c.in_ok-end.end - 1 ≡ p = omega (arith, is) in keeps.back (EntryAt p) (subst (λ (n : ℕ). is_good c.entry_at.new.self.identity.members (state g.S.Store c.entry_at.new.self.conn).committed.trees (EntryAt n)) q (c.in_ok-_entry.ensures.good honest)) in
    keeps.rows LastEntry (last_entry c.end_at.new.self.identity.members db c.in_ok-end.end (c.in_ok-end.ensures.value mid) named)
