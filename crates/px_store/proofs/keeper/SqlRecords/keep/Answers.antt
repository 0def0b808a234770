use Rattle.sqlite.specs.Held.{state}
use Rattle.std.proofs.Common.{Ok, Err, refl, subst}
use Rattle.px_store.specs.declared.calls.Trouble.{Trouble}
use Rattle.px_store.specs.declared.calls.Trouble.TheVariants.{Memory, Failed}
use Rattle.px_store.specs.inner.NewRows.{Wrote}
use Rattle.px_store.proofs.NewRows.{changed, still_ready, still_owned}
use Rattle.px_store.proofs.Questions.{read_ready}
use Rattle.px_store.proofs.Good.{rows_stay}
use Rattle.px_store.proofs.keeper.SqlRecords.keep.Goals as goal

pub invariant_of-self : goal.invariant_of-self
invariant_of-self g c = record {
  bounds = c.requires.bounds;
  ready = λ none clean.
      let r = c.args.self.now.ready c.requires.none (c.in-Ok.ensures.clean clean) in
      let w = c.in-Ok.ensures.wrote clean (record { schema = r.0; auto = r.1.0 }) r.1.1.0 in
      still_ready c.args.self.now.identity c.args.row c.args.bytes.now c.args.self.now.meta c.args.meta (state g.S.Store c.args.self.now.conn) (state g.S.Store c.put.new.conn) c.requires.agrees c.requires.floor r.1.1.1 w.ok;
  ahead_is = λ none clean. c.none.ensures _;
  owned = still_owned c.args.self.now.identity c.args.row c.args.bytes.now c.args.self.now.meta _ (state g.S.Store c.args.self.now.conn) (state g.S.Store c.put.new.conn) c.in-Ok.ensures.clean c.requires.floor
      (λ was. (c.args.self.now.ready c.requires.none was).1.1.1) c.args.self.now.owned
      (λ clean. let r = c.args.self.now.ready c.requires.none (c.in-Ok.ensures.clean clean) in c.in-Ok.ensures.wrote clean (record { schema = r.0; auto = r.1.0 }) r.1.1.0);
}

pub returns-in-Ok-clause-changed : goal.returns-in-Ok-clause-changed
returns-in-Ok-clause-changed g c = λ honest good.
    let r = c.args.self.now.ready c.requires.none (c.in-Ok.ensures.clean honest) in
    let w = c.in-Ok.ensures.wrote honest (record { schema = r.0; auto = r.1.0 }) r.1.1.0 in
    changed c.args.self.now.identity.members c.args.self.now.failures c.args.self.now.failures c.args.self.now.identity c.args.row c.args.bytes.now (Ok _) (state g.S.Store c.args.self.now.conn) (state g.S.Store c.put.new.conn) good w

pub returns-in-Err-Memory-clause-changed : goal.returns-in-Err-Memory-clause-changed
returns-in-Err-Memory-clause-changed g c = λ honest good.
    let r = c.args.self.now.ready c.requires.none (c.in-Err-Memory.ensures.clean honest) in
    let w = subst (λ (x : Trouble). Wrote c.args.self.now.identity c.args.row c.args.bytes.now (Err x) (state g.S.Store c.args.self.now.conn) (state g.S.Store c.put.new.conn)) c.in-Err-Memory.field-0-is (c.in-Err-Memory.ensures.wrote honest (record { schema = r.0; auto = r.1.0 }) r.1.1.0) in
    changed c.args.self.now.identity.members c.args.self.now.failures c.args.self.now.failures c.args.self.now.identity c.args.row c.args.bytes.now (Err Memory) (state g.S.Store c.args.self.now.conn) (state g.S.Store c.put.new.conn) good w

pub returns-in-Err-Failed-clause-changed : goal.returns-in-Err-Failed-clause-changed
returns-in-Err-Failed-clause-changed g c = λ honest good.
    let r = c.args.self.now.ready c.requires.none (c.in-Err-Failed.ensures.clean honest) in
    let w = subst (λ (x : Trouble). Wrote c.args.self.now.identity c.args.row c.args.bytes.now (Err x) (state g.S.Store c.args.self.now.conn) (state g.S.Store c.put.new.conn)) c.in-Err-Failed.field-0-is (c.in-Err-Failed.ensures.wrote honest (record { schema = r.0; auto = r.1.0 }) r.1.1.0) in
    changed c.args.self.now.identity.members c.args.self.now.failures 1 c.args.self.now.identity c.args.row c.args.bytes.now (Err Failed) (state g.S.Store c.args.self.now.conn) (state g.S.Store c.put.new.conn) good w

pub returns-in-Ok-clause-rows : goal.returns-in-Ok-clause-rows
returns-in-Ok-clause-rows g c = λ honest none good fit.
    let r = c.args.self.now.ready c.requires.none (c.in-Ok.ensures.clean honest) in
    let w = c.in-Ok.ensures.wrote honest (record { schema = r.0; auto = r.1.0 }) r.1.1.0 in
    rows_stay c.args.self.now.identity.members c.args.self.now.failures c.args.self.now.failures c.args.self.now.identity c.args.row c.args.bytes.now (state g.S.Store c.args.self.now.conn) (state g.S.Store c.put.new.conn) good fit w.ok.0

pub returns-in-Err-Memory-clause-rows : goal.returns-in-Err-Memory-clause-rows
returns-in-Err-Memory-clause-rows g c = λ honest none good fit. ((returns-in-Err-Memory-clause-changed g c honest good).memory refl).rows

pub invariant_of-self-in-Err-Memory-clause-ahead_is : goal.invariant_of-self-in-Err-Memory-clause-ahead_is
invariant_of-self-in-Err-Memory-clause-ahead_is g c = λ none clean. c.none.ensures _

pub invariant_of-self-in-Err-Memory-clause-ready : goal.invariant_of-self-in-Err-Memory-clause-ready
invariant_of-self-in-Err-Memory-clause-ready g c = λ none clean.
    let r = c.args.self.now.ready none (c.in-Err-Memory.ensures.clean clean) in
    let w = c.in-Err-Memory.ensures.wrote clean (record { schema = r.0; auto = r.1.0 }) r.1.1.0 in
    read_ready c.args.self.now.identity c.args.self.now.meta (state g.S.Store c.args.self.now.conn) (state g.S.Store c.put.new.conn) r.0 r.1.1.1 (w.memory (let e = c.in-Err-Memory.field-0-is in cc))
