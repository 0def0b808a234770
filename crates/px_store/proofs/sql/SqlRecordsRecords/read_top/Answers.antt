use Rattle.std.proofs.Common.{ℕ, suc, ◌-◌, arith, ◌≡◌, ◌∙◌, rules, sym, subst, ap}
use Rattle.sqlite.specs.Held.{state}
use Rattle.px_model.specs.Node.{Record}
use Rattle.px_model.specs.Step.{top}
use Rattle.px_model.specs.Spelling.{Bytes}
use Rattle.px_store.specs.Seen.{has_ballot}
use Rattle.px_store.specs.inner.Seen.{EndsAt}
use Rattle.px_records.specs.Records.Place.{SlotAt, LastSlot}
use Rattle.px_store.specs.Ready.{is_good, IsSlotGood}
use Rattle.px_store.proofs.Ends.{last_named}
use Rattle.px_store.specs.View.{view_of}
use Rattle.px_store.proofs.Promises.{only_then}
use Rattle.px_store.proofs.Highest.{top_is, last_slot}
use Rattle.px_store.proofs.sql.SqlRecordsRecords.read_top.Goals as goal

pub returns-then-top-eq0-clause-ok : goal.returns-then-top-eq0-clause-ok
returns-then-top-eq0-clause-ok g c = λ honest.
    let zero : c.in_ok-top.top ≡ 0 = search rules in
    top_is ((state g.S.Store c.top_at.new.self.conn).committed.trees 1) 0 (subst (EndsAt has_ballot ((state g.S.Store c.top_at.new.self.conn).committed.trees 1)) zero (c.in_ok-top.ensures.value honest))

pub returns-in_err-_slot-clause-read : goal.returns-in_err-_slot-clause-read
returns-in_err-_slot-clause-read g c =
    let none : c.top_at.new.self.failures ≡ 0 = search rules in
    let h = only_then {a = view_of g.S.Store c.args.self.now} {b = view_of g.S.Store c.top_at.new.self} {c = view_of g.S.Store c.slot_at.new.self} none c.top_at.ensures.reads c.slot_at.ensures.reads in
    record { was = h.was; stays = λ x n. (h.keeps x n).same; rows = λ x n p. ((h.keeps x n).rows p, (h.keeps x n).back p); leaves = h.leaves }

pub returns-clause-read : goal.returns-clause-read
returns-clause-read g c =
    let none : c.top_at.new.self.failures ≡ 0 = search rules in
    let h = only_then {a = view_of g.S.Store c.args.self.now} {b = view_of g.S.Store c.top_at.new.self} {c = view_of g.S.Store c.slot_at.new.self} none c.top_at.ensures.reads c.slot_at.ensures.reads in
    record { was = h.was; stays = λ x n. (h.keeps x n).same; rows = λ x n p. ((h.keeps x n).rows p, (h.keeps x n).back p); leaves = h.leaves }

pub returns-clause-ok : goal.returns-clause-ok
returns-clause-ok g c = λ honest.
    let last : c.slot_at.new.self.failures ≡ 0 = search rules in
    let mid = c.slot_at.ensures.reads.was honest in
    let same = (c.slot_at.ensures.reads.keeps honest last).same in
    let is = top_is ((state g.S.Store c.top_at.new.self.conn).committed.trees 1) c.in_ok-top.top (c.in_ok-top.ensures.value mid) in
    is ∙ ap (λ (d : Record Bytes). top d.slots) (sym same)

pub returns-in_err-_slot-clause-bad : goal.returns-in_err-_slot-clause-bad
returns-in_err-_slot-clause-bad g c = λ honest is good.
    let none : c.top_at.new.self.failures ≡ 0 = search rules in
    let mid = c.slot_at.ensures.reads.was honest in
    let now = (c.top_at.ensures.reads.keeps mid none).rows LastSlot good in
    let tree = (state g.S.Store c.top_at.new.self.conn).committed.trees 1 in
    let here = last_named has_ballot (IsSlotGood c.top_at.new.self.identity.members tree) tree c.in_ok-top.top (c.in_ok-top.ensures.value mid) now (c.in_ok-top.top - 1) (search rules) in
    search rules

pub returns-clause-good : goal.returns-clause-good
returns-clause-good g c = λ honest.
    let last : c.slot_at.new.self.failures ≡ 0 = search rules in
    let mid = c.slot_at.ensures.reads.was honest in
    let keeps = c.slot_at.ensures.reads.keeps honest last in
    let db = (state g.S.Store c.top_at.new.self.conn).committed.trees in
    let named : (p : ℕ) → c.in_ok-top.top ≡ suc p → is_good c.top_at.new.self.identity.members db (SlotAt p) = λ p is. let q : c.in_ok-top.top - 1 ≡ p = omega (arith, is) in keeps.back (SlotAt p) (subst (λ (n : ℕ). is_good c.slot_at.new.self.identity.members (state g.S.Store c.slot_at.new.self.conn).committed.trees (SlotAt n)) q (c.in_ok-_slot.ensures.good honest)) in
    keeps.rows LastSlot (last_slot c.top_at.new.self.identity.members db c.in_ok-top.top (c.in_ok-top.ensures.value mid) named)
