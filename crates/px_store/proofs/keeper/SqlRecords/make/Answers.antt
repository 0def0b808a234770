use Rattle.std.proofs.Common.{ap, sym, subst}
use Rattle.sqlite.specs.Held.{state}
use Rattle.px_model.specs.Node.{Meta, Record}
use Rattle.px_model.specs.Spelling.{Bytes}
use Rattle.px_model.specs.Entries.{entry_of}
use Rattle.px_store.specs.inner.Store.{Changed}
use Rattle.px_store.specs.View.{view_of}
use Rattle.px_store.proofs.Stored.{numbers_are}
use Rattle.px_store.proofs.Spelled.{command_long}
use Rattle.px_store.proofs.Promises.{round_is, number_is, accepted_is, learned_is, entry_good}
use Rattle.px_store.proofs.keeper.SqlRecords.make.Goals as goal

pub returns-in-Round-clause-changed : goal.returns-in-Round-clause-changed
returns-in-Round-clause-changed g c = λ honest.
    let was = c.keep_meta.ensures.was honest in
    let r = c.args.self.now.ready c.requires.none was in
    let s = view_of g.S.Store c.args.self.now in
    let e = numbers_are c.args.self.now.identity c.args.self.now.meta (state g.S.Store c.args.self.now.conn).committed.trees r.1.1.1 in
    rw c.in-Round.is (subst (λ (d : Record Bytes). Changed d c.keep_meta.result s (view_of g.S.Store c.keep_meta.new.self)) (round_is s.kept c.in-Round.round c.args.self.now.meta.number (sym (ap (λ (m : Meta). m.number) e))) (c.keep_meta.ensures.changed honest))

pub returns-in-Number-clause-changed : goal.returns-in-Number-clause-changed
returns-in-Number-clause-changed g c = λ honest.
    let was = c.keep_meta-in-Number.ensures.was honest in
    let r = c.args.self.now.ready c.requires.none was in
    let s = view_of g.S.Store c.args.self.now in
    let e = numbers_are c.args.self.now.identity c.args.self.now.meta (state g.S.Store c.args.self.now.conn).committed.trees r.1.1.1 in
    rw c.in-Number.is (subst (λ (d : Record Bytes). Changed d c.keep_meta-in-Number.result s (view_of g.S.Store c.keep_meta-in-Number.new.self)) (number_is s.kept c.args.self.now.meta.round c.in-Number.number (sym (ap (λ (m : Meta). m.round) e))) (c.keep_meta-in-Number.ensures.changed honest))

pub returns-in-Floor-clause-changed : goal.returns-in-Floor-clause-changed
returns-in-Floor-clause-changed g c = λ honest. rw c.in-Floor.is (c.keep_floor.ensures.changed honest)

pub returns-in-Promised-clause-changed : goal.returns-in-Promised-clause-changed
returns-in-Promised-clause-changed g c = λ honest. rw c.in-Promised.is (c.promise.ensures.changed honest)

pub returns-in-Accepted-clause-changed : goal.returns-in-Accepted-clause-changed
returns-in-Accepted-clause-changed g c = λ honest.
    let fits = rw c.in-Accepted.is at c.requires.fits in
    let s = view_of g.S.Store c.args.self.now in
    let is = accepted_is c.args.self.now.identity.members s.kept c.in-Accepted.position c.in-Accepted.ballot (entry_of c.in-Accepted.entry) c.bytes.result.now c.bytes.ensures fits.1 fits.2 (command_long c.in-Accepted.entry) in
    rw c.in-Accepted.is (subst (λ (d : Record Bytes). Changed d c.accept.result s (view_of g.S.Store c.accept.new.self)) is (c.accept.ensures.changed honest))

pub returns-in-Learned-clause-changed : goal.returns-in-Learned-clause-changed
returns-in-Learned-clause-changed g c = λ honest.
    let fits = rw c.in-Learned.is at c.requires.fits in
    let s = view_of g.S.Store c.args.self.now in
    let is = learned_is c.args.self.now.identity.members s.kept c.in-Learned.position (entry_of c.in-Learned.entry) c.bytes-in-Learned.result.now c.bytes-in-Learned.ensures fits.1 (command_long c.in-Learned.entry) in
    rw c.in-Learned.is (subst (λ (d : Record Bytes). Changed d c.learn.result s (view_of g.S.Store c.learn.new.self)) is (c.learn.ensures.changed honest))

pub returns-in-Round-clause-rows : goal.returns-in-Round-clause-rows
returns-in-Round-clause-rows g c = λ honest none rises. c.keep_meta.ensures.rows honest none

pub returns-in-Number-clause-rows : goal.returns-in-Number-clause-rows
returns-in-Number-clause-rows g c = λ honest none rises. c.keep_meta-in-Number.ensures.rows honest none

pub returns-in-Floor-clause-rows : goal.returns-in-Floor-clause-rows
returns-in-Floor-clause-rows g c = λ honest none rises. c.keep_floor.ensures.rows honest none

pub returns-in-Promised-clause-rows : goal.returns-in-Promised-clause-rows
returns-in-Promised-clause-rows g c = λ honest none rises.
    let fits = rw c.in-Promised.is at c.requires.fits in
    let up = rw c.in-Promised.is at rises in
    c.promise.ensures.rows honest none fits.0 fits.1 up

pub returns-in-Accepted-clause-rows : goal.returns-in-Accepted-clause-rows
returns-in-Accepted-clause-rows g c = λ honest none rises.
    let fits = rw c.in-Accepted.is at c.requires.fits in
    c.accept.ensures.rows honest none fits.0 fits.1
    (entry_good c.args.self.now.identity.members (entry_of c.in-Accepted.entry) c.bytes.result.now c.bytes.ensures fits.2 (command_long c.in-Accepted.entry))

pub returns-in-Learned-clause-rows : goal.returns-in-Learned-clause-rows
returns-in-Learned-clause-rows g c = λ honest none rises.
    let fits = rw c.in-Learned.is at c.requires.fits in
    c.learn.ensures.rows honest none fits.0
    (entry_good c.args.self.now.identity.members (entry_of c.in-Learned.entry) c.bytes-in-Learned.result.now c.bytes-in-Learned.ensures fits.1 (command_long c.in-Learned.entry))
