-- what is shown of the record is shown of the rows
use Rattle.std.proofs.Common.{◌∙◌, ap, subst, sym, inl}
use Rattle.sqlite.specs.Held.{state}
use Rattle.sqlite.specs.State.{HasCleanDisk}
use Rattle.px_store.specs.View.{connection_of}
use Rattle.px_store.specs.declared.formats.Format.TheVariants.{Three}
use Rattle.cli_show.specs.Stores.{closed_by, identity_of, LeavesRecord}
use Rattle.cli_show.proofs.Closing.{closed_refused, closed_unopened}
use Rattle.cli_show.proofs.Reading.{shows_store, leaves_old, leaves_record, leaves_less}
use Rattle.cli_show.proofs.store.show_store.Goals as goal

pub returns-in-Ok-shown-clause-shown : goal.returns-in-Ok-shown-clause-shown
returns-in-Ok-shown-clause-shown g c =
    shows_store _ (state g.S.Store c.args.conn) (state g.S.Store c.member_in.new.conn) c.in-Ok-reopen.records
    c.show_record-shown.result.1 c.args.wanted c.in-Ok-shown.shown c.show_record-shown.result.0 c.in-Ok.ensures.began c.in-Ok.ensures.stays
    (λ honest. c.in-Ok-reopen.ensures.clean honest) (λ honest began. (c.in-Ok-reopen.ensures.rows honest Three began).1) c.show_record-shown.ensures.shows c.in-Ok-shown.is

pub returns-in-Ok-shown-clause-owned : goal.returns-in-Ok-shown-clause-owned
returns-in-Ok-shown-clause-owned g c = λ honest. record {
  began = c.in-Ok.ensures.began;
  owner = identity_of c.in-Ok.m;
  names = c.in-Ok.ensures.owner (c.in-Ok-reopen.ensures.clean (c.show_record-shown.ensures.was honest));
}

pub returns-in-Err-clause-closed : goal.returns-in-Err-clause-closed
returns-in-Err-clause-closed g c = λ clean. inl (c.in-Err.ensures.none clean)

pub returns-in-Err-reopen-clause-closed : goal.returns-in-Err-reopen-clause-closed
returns-in-Err-reopen-clause-closed g c = λ clean.
    let came = c.in-Err-reopen.ensures.refused clean in
    closed_refused c.args.conn (state g.S.Store c.member_in.new.conn) c.closed_by.result c.identity_of.result
    (record { began = c.in-Ok.ensures.began; owner = identity_of c.in-Ok.m; names = c.in-Ok.ensures.owner came })
    (c.in-Ok.ensures.stays came) c.identity_of.ensures (λ began. record {
      fault = c.in-Err-reopen.fault;
      numbered = c.closed_by.ensures ∙ ap closed_by c.code.ensures;
      judged = c.in-Err-reopen.ensures.judged clean Three began;
    })

pub returns-in-Err-shown-clause-closed : goal.returns-in-Err-shown-clause-closed
returns-in-Err-shown-clause-closed g c = λ clean.
    let back = subst (λ h. HasCleanDisk (state g.S.Store h)) c.release.ensures clean in
    let was = c.show_record-shown.ensures.was back in
    let came = c.in-Ok-reopen.ensures.clean was in
    closed_unopened c.args.conn (state g.S.Store c.member_in.new.conn) c.closed_by-in-Err-shown.result
    (record { began = c.in-Ok.ensures.began; owner = identity_of c.in-Ok.m; names = c.in-Ok.ensures.owner came })
    c.show_record-shown.result.0 c.in-Err-shown.fault c.in-Ok-reopen.records c.show_record-shown.result.1
    (c.in-Ok.ensures.stays came) back was (c.closed_by-in-Err-shown.ensures ∙ ap closed_by c.code-in-Err-shown.ensures) c.in-Err-shown.is c.show_record-shown.ensures.refused (λ honest began. (c.in-Ok-reopen.ensures.rows honest Three began).1)

-- ---- what is left of it

pub returns-in-Ok-shown-clause-stop : goal.returns-in-Ok-shown-clause-stop
returns-in-Ok-shown-clause-stop g c = λ honest.
    let was = c.show_record-shown.ensures.was honest in
    let came = c.in-Ok-reopen.ensures.clean was in
    leaves_less (state g.S.Store c.args.conn) (state g.S.Store (connection_of c.in-Ok-reopen.records)) (state g.S.Store (connection_of c.show_record-shown.result.1))
    (leaves_record (state g.S.Store c.args.conn) (state g.S.Store c.member_in.new.conn) (state g.S.Store (connection_of c.in-Ok-reopen.records)) c.identity_of.result
    c.in-Ok.ensures.began (c.in-Ok.ensures.stays came) (c.in-Ok.ensures.stop came) (λ began. c.in-Ok-reopen.ensures.stop was Three began))
    (c.show_record-shown.ensures.stop honest)

pub returns-in-Err-clause-left : goal.returns-in-Err-clause-left
returns-in-Err-clause-left g c = λ clean. leaves_old (state g.S.Store c.args.conn) (state g.S.Store c.member_in.new.conn) (c.in-Err.ensures.stop clean)

pub returns-in-Err-reopen-clause-left : goal.returns-in-Err-reopen-clause-left
returns-in-Err-reopen-clause-left g c = λ clean.
    let came = c.in-Err-reopen.ensures.refused clean in
    leaves_record (state g.S.Store c.args.conn) (state g.S.Store c.member_in.new.conn) (state g.S.Store c.in-Err-reopen.conn) c.identity_of.result
    c.in-Ok.ensures.began (c.in-Ok.ensures.stays came) (c.in-Ok.ensures.stop came) (λ began. c.in-Err-reopen.ensures.stop clean Three began)

pub returns-in-Err-shown-clause-left : goal.returns-in-Err-shown-clause-left
returns-in-Err-shown-clause-left g c = λ clean.
    let back = subst (λ h. HasCleanDisk (state g.S.Store h)) c.release.ensures clean in
    let was = c.show_record-shown.ensures.was back in
    let came = c.in-Ok-reopen.ensures.clean was in
    subst (λ h. LeavesRecord (state g.S.Store c.args.conn) (state g.S.Store h)) (sym c.release.ensures) (leaves_less (state g.S.Store c.args.conn) (state g.S.Store (connection_of c.in-Ok-reopen.records)) (state g.S.Store (connection_of c.show_record-shown.result.1))
    (leaves_record (state g.S.Store c.args.conn) (state g.S.Store c.member_in.new.conn) (state g.S.Store (connection_of c.in-Ok-reopen.records)) c.identity_of.result
    c.in-Ok.ensures.began (c.in-Ok.ensures.stays came) (c.in-Ok.ensures.stop came) (λ began. c.in-Ok-reopen.ensures.stop was Three began))
    (c.show_record-shown.ensures.stop back))
