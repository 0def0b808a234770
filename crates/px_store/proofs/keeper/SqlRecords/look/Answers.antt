use Rattle.std.proofs.Common.{◌≡◌, ◌∙◌, rules, sym, subst}
use Rattle.sqlite.specs.Held.{state}
use Rattle.sqlite.specs.Effect.{Database}
use Rattle.px_store.specs.inner.Questions.{Answers}
use Rattle.px_store.specs.declared.formats.Format.TheVariants.{Three}
use Rattle.px_store.proofs.Questions.{three_has, only_read, read_ready, still_ahead}
use Rattle.px_store.proofs.keeper.SqlRecords.look.Goals as goal

pub returns-in-Ok-clause-rows : goal.returns-in-Ok-clause-rows
returns-in-Ok-clause-rows g c = λ honest.
    let none : c.args.self.now.failures ≡ 0 = search rules in
    let r = c.args.self.now.ready none (c.in-Ok.ensures.clean honest) in
    let l = c.in-Ok.ensures.looked honest Three (record { schema = r.0; auto = r.1.0 }) (three_has c.args.question) in
    subst (λ (d : Database). Answers c.args.question d.trees c.in-Ok.rows.items) (l.ok.1.begun ∙ sym l.ok.1.committed) l.ok.0

pub returns-in-Ok-clause-reads : goal.returns-in-Ok-clause-reads
returns-in-Ok-clause-reads g c =
    let none : c.args.self.now.failures ≡ 0 = search rules in
    only_read c.args.self.now.identity.members c.args.self.now.failures c.args.self.now.failures (state g.S.Store c.args.self.now.conn) (state g.S.Store c.get.new.conn) c.in-Ok.ensures.clean (λ clean.
    let r = c.args.self.now.ready none (c.in-Ok.ensures.clean clean) in
    let l = c.in-Ok.ensures.looked clean Three (record { schema = r.0; auto = r.1.0 }) (three_has c.args.question) in
    (λ _. l.ok.1, l.stop))

pub returns-in-Err-Memory-clause-reads : goal.returns-in-Err-Memory-clause-reads
returns-in-Err-Memory-clause-reads g c =
    let none : c.args.self.now.failures ≡ 0 = search rules in
    only_read c.args.self.now.identity.members c.args.self.now.failures c.args.self.now.failures (state g.S.Store c.args.self.now.conn) (state g.S.Store c.get.new.conn) c.in-Err-Memory.ensures.clean (λ clean.
    let r = c.args.self.now.ready none (c.in-Err-Memory.ensures.clean clean) in
    let l = c.in-Err-Memory.ensures.looked clean Three (record { schema = r.0; auto = r.1.0 }) (three_has c.args.question) in
    (λ _. l.memory (let e = c.in-Err-Memory.field-0-is in cc), l.stop))

pub returns-in-Err-Failed-clause-reads : goal.returns-in-Err-Failed-clause-reads
returns-in-Err-Failed-clause-reads g c =
    let none : c.args.self.now.failures ≡ 0 = search rules in
    only_read c.args.self.now.identity.members c.args.self.now.failures 1 (state g.S.Store c.args.self.now.conn) (state g.S.Store c.get.new.conn) c.in-Err-Failed.ensures.clean (λ clean.
    let r = c.args.self.now.ready none (c.in-Err-Failed.ensures.clean clean) in
    let l = c.in-Err-Failed.ensures.looked clean Three (record { schema = r.0; auto = r.1.0 }) (three_has c.args.question) in
    (λ one. absurd cc, l.stop))

pub invariant_of-self : goal.invariant_of-self
invariant_of-self g c = record {
  bounds = c.args.self.now.bounds;
  ready = λ none clean.
      let r = c.args.self.now.ready none (c.in-Ok.ensures.clean clean) in
      let l = c.in-Ok.ensures.looked clean Three (record { schema = r.0; auto = r.1.0 }) (three_has c.args.question) in
      read_ready c.args.self.now.identity c.args.self.now.meta (state g.S.Store c.args.self.now.conn) (state g.S.Store c.get.new.conn) r.0 r.1.1.1 l.ok.1;
  ahead_is = λ none clean.
      let r = c.args.self.now.ready none (c.in-Ok.ensures.clean clean) in
      let l = c.in-Ok.ensures.looked clean Three (record { schema = r.0; auto = r.1.0 }) (three_has c.args.question) in
      still_ahead c.args.self.now.ahead (state g.S.Store c.args.self.now.conn) (state g.S.Store c.get.new.conn) l.ok.1 (c.args.self.now.ahead_is none (c.in-Ok.ensures.clean clean));
  owned = λ clean db left.
      let r = c.args.self.now.ready (let none : c.args.self.now.failures ≡ 0 = search rules in none) (c.in-Ok.ensures.clean clean) in
      c.args.self.now.owned (c.in-Ok.ensures.clean clean) db ((c.in-Ok.ensures.looked clean Three (record { schema = r.0; auto = r.1.0 }) (three_has c.args.question)).stop db left);
}

pub invariant_of-self-in-Err-Memory : goal.invariant_of-self-in-Err-Memory
invariant_of-self-in-Err-Memory g c = record {
  bounds = c.args.self.now.bounds;
  ready = λ none clean.
      let r = c.args.self.now.ready none (c.in-Err-Memory.ensures.clean clean) in
      let l = c.in-Err-Memory.ensures.looked clean Three (record { schema = r.0; auto = r.1.0 }) (three_has c.args.question) in
      read_ready c.args.self.now.identity c.args.self.now.meta (state g.S.Store c.args.self.now.conn) (state g.S.Store c.get.new.conn) r.0 r.1.1.1 (l.memory (let e = c.in-Err-Memory.field-0-is in cc));
  ahead_is = λ none clean.
      let r = c.args.self.now.ready none (c.in-Err-Memory.ensures.clean clean) in
      let l = c.in-Err-Memory.ensures.looked clean Three (record { schema = r.0; auto = r.1.0 }) (three_has c.args.question) in
      still_ahead c.args.self.now.ahead (state g.S.Store c.args.self.now.conn) (state g.S.Store c.get.new.conn) (l.memory (let e = c.in-Err-Memory.field-0-is in cc)) (c.args.self.now.ahead_is none (c.in-Err-Memory.ensures.clean clean));
  owned = λ clean db left.
      let r = c.args.self.now.ready (let none : c.args.self.now.failures ≡ 0 = search rules in none) (c.in-Err-Memory.ensures.clean clean) in
      c.args.self.now.owned (c.in-Err-Memory.ensures.clean clean) db ((c.in-Err-Memory.ensures.looked clean Three (record { schema = r.0; auto = r.1.0 }) (three_has c.args.question)).stop db left);
}

pub invariant_of-self-in-Err-Failed : goal.invariant_of-self-in-Err-Failed
invariant_of-self-in-Err-Failed g c = record {
  bounds = c.args.self.now.bounds;
  ready = λ one. absurd cc;
  ahead_is = λ one. absurd cc;
  owned = λ clean db left.
      let r = c.args.self.now.ready (let none : c.args.self.now.failures ≡ 0 = search rules in none) (c.in-Err-Failed.ensures.clean clean) in
      c.args.self.now.owned (c.in-Err-Failed.ensures.clean clean) db ((c.in-Err-Failed.ensures.looked clean Three (record { schema = r.0; auto = r.1.0 }) (three_has c.args.question)).stop db left);
}
