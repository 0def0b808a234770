use Rattle.std.proofs.Common.{◌≡◌, ◌∙◌, ◌+◌, ◌&&◌, ap, rules, subst, sym, true}
use Rattle.cli_follow.specs.declared.follower.Due.TheVariants as due
use Rattle.cli_follow.specs.Output.{Wanted, Stage, AsksEntries, Stopped, TurnFiled, TurnLeft, is_again, written_to}
use Rattle.cli_io.specs.Written.{AppendsFront}
use Rattle.cli_follow.specs.Files.{are_behind}
use Rattle.cli_follow.specs.inner.Seen.{follower_of, wanted_of, due_in, stage_in, Leads}
use Rattle.cli_follow.proofs.Filing.{filed_still, went_still, filed_due, filed_late, left_still, left_due, left_behind, left_late, left_if, not_again, not_behind, still_if, written_if}
use Rattle.cli_follow.proofs.Runs.{stopped_before, stopped_within, if_err}
use Rattle.cli_follow.proofs.running.turn.Goals as goal

pub returns-in_err-write_texts-in-Write-clause-stopped : goal.returns-in_err-write_texts-in-Write-clause-stopped
returns-in_err-write_texts-in-Write-clause-stopped g c =
    let x = g.C.Control.exchanged c.args.control.now in
    let y = g.C.Control.exchanged c.ask.new.control in
    let w = wanted_of c.args.follower.now in
    let s = AsksEntries (follower_of c.args.asks c.args.follower.now) in
    let a = g.W.Write.contents c.args.writer.now in
    if_err c.from_residual-in_err-write_texts-in-Write.result (Stopped x y w s a a) (stopped_before x y w s (due_in w (follower_of (c.args.asks + 1) c.ask.new.follower) c.in_ok-due.due) a c.in_ok-due.ensures.due)

pub returns-in_err-write_texts-in-Rest-clause-stopped : goal.returns-in_err-write_texts-in-Rest-clause-stopped
returns-in_err-write_texts-in-Rest-clause-stopped g c =
    let x = g.C.Control.exchanged c.args.control.now in
    let y = g.C.Control.exchanged c.ask.new.control in
    let w = wanted_of c.args.follower.now in
    let s = AsksEntries (follower_of c.args.asks c.args.follower.now) in
    let a = g.W.Write.contents c.args.writer.now in
    if_err c.from_residual-in_err-write_texts-in-Rest.result (Stopped x y w s a a) (stopped_before x y w s (due_in w (follower_of (c.args.asks + 1) c.ask.new.follower) c.in_ok-due.due) a c.in_ok-due.ensures.due)

pub returns-in_err-write-in-Write-clause-stopped :
    goal.returns-in_err-write-in-Write-clause-stopped
returns-in_err-write-in-Write-clause-stopped g c =
    let x = g.C.Control.exchanged c.args.control.now in
    let y = g.C.Control.exchanged c.ask.new.control in
    let w = wanted_of c.args.follower.now in
    let s = AsksEntries (follower_of c.args.asks c.args.follower.now) in
    let f = follower_of (c.args.asks + 1) c.ask.new.follower in
    let a = g.W.Write.contents c.args.writer.now in
    let b = g.W.Write.contents c.write.new.writer in
    let leads : Leads x y w s (due_in w f due.Write) = subst (λ d. Leads x y w s (due_in w f d)) c.in-Write.is c.in_ok-due.ensures.due in
    let front : AppendsFront a b (written_to w.machine f).out =
    subst (λ (u : Wanted). AppendsFront a b (written_to u.machine f).out) c.ask.ensures.wanted (c.in_err-write-in-Write.ensures.front (c.args.asks + 1)) in
    if_err c.from_residual-in_err-write-in-Write.result (Stopped x y w s a b) (stopped_within x y w s (due_in w f due.Write) a b leads front)

pub returns-in_ok-write-in-Write-clause-filed : goal.returns-in_ok-write-in-Write-clause-filed
returns-in_ok-write-in-Write-clause-filed g c =
    let x = g.C.Control.exchanged c.args.control.now in
    let y = g.C.Control.exchanged c.ask.new.control in
    let w = wanted_of c.args.follower.now in
    let e = follower_of c.args.asks c.args.follower.now in
    let f = follower_of (c.args.asks + 1) c.ask.new.follower in
    let f2 = follower_of (c.args.asks + 1) c.write.new.self in
    let leads : Leads x y w (AsksEntries e) (due_in w f due.Write) = subst (λ d. Leads x y w (AsksEntries e) (due_in w f d)) c.in-Write.is c.in_ok-due.ensures.due in
    let at : (written_to w.machine f).stage ≡ AsksEntries f2 =
    subst (λ (u : Wanted). (written_to u.machine f).stage ≡ AsksEntries f2) c.ask.ensures.wanted (c.in_ok-write-in-Write.ensures.whole (c.args.asks + 1)).0 in
    filed_due x y (g.F.Folders.done c.args.folders.now) (g.F.Folders.done c.write_texts.new.folders) w e f (stage_in f2 c.in_ok-due.due) c.args.files.now c.write_texts.new.files leads
    (at ∙ ap (λ d. stage_in f2 d) (sym c.in-Write.is)) c.in_ok-write_texts-in-Write.ensures.written

pub returns-in_ok-write_texts-in-Rest-clause-filed : goal.returns-in_ok-write_texts-in-Rest-clause-filed
returns-in_ok-write_texts-in-Rest-clause-filed g c =
    let x = g.C.Control.exchanged c.args.control.now in
    let y = g.C.Control.exchanged c.ask.new.control in
    let p = g.F.Folders.done c.args.folders.now in
    let q = g.F.Folders.done c.write_texts-in-Rest.new.folders in
    let w = wanted_of c.args.follower.now in
    let e = follower_of c.args.asks c.args.follower.now in
    let f = follower_of (c.args.asks + 1) c.ask.new.follower in
    let leads : Leads x y w (AsksEntries e) (due_in w f due.Rest) = subst (λ d. Leads x y w (AsksEntries e) (due_in w f d)) c.in-Rest.is c.in_ok-due.ensures.due in
    let again : is_again c.args.asks ≡ true = search rules in
    let behind : are_behind c.args.files.now ≡ true = search rules in
    subst (λ (t : Stage). TurnFiled x y p q w e t c.args.files.now c.write_texts-in-Rest.new.files) (ap (λ d. stage_in f d) (sym c.in-Rest.is))
    (filed_late x y p q w e f (is_again c.args.asks) c.args.files.now c.write_texts-in-Rest.new.files leads
    (written_if p q f.followed.configuration (is_again c.args.asks) (are_behind c.args.files.now) c.args.files.now c.write_texts-in-Rest.new.files again behind c.in_ok-write_texts-in-Rest.ensures.written))

pub returns-in_err-due-clause-left : goal.returns-in_err-due-clause-left
returns-in_err-due-clause-left g c =
    let x = g.C.Control.exchanged c.args.control.now in
    let y = g.C.Control.exchanged c.ask.new.control in
    let p = g.F.Folders.done c.args.folders.now in
    let w = wanted_of c.args.follower.now in
    let e = follower_of c.args.asks c.args.follower.now in
    if_err c.from_residual.result (TurnLeft x y p p w e c.args.files.now) (left_still x y p w e c.args.files.now c.in_err-due.ensures.failed)

pub returns-in_err-write_texts-in-Write-clause-left : goal.returns-in_err-write_texts-in-Write-clause-left
returns-in_err-write_texts-in-Write-clause-left g c =
    let x = g.C.Control.exchanged c.args.control.now in
    let y = g.C.Control.exchanged c.ask.new.control in
    let p = g.F.Folders.done c.args.folders.now in
    let q = g.F.Folders.done c.write_texts.new.folders in
    let w = wanted_of c.args.follower.now in
    let e = follower_of c.args.asks c.args.follower.now in
    let f = follower_of (c.args.asks + 1) c.ask.new.follower in
    let leads : Leads x y w (AsksEntries e) (due_in w f due.Write) = subst (λ d. Leads x y w (AsksEntries e) (due_in w f d)) c.in-Write.is c.in_ok-due.ensures.due in
    if_err c.from_residual-in_err-write_texts-in-Write.result (TurnLeft x y p q w e c.args.files.now)
    (left_due x y p q w e f c.args.files.now leads c.in_err-write_texts-in-Write.ensures.left)

pub returns-in_err-write-in-Write-clause-left : goal.returns-in_err-write-in-Write-clause-left
returns-in_err-write-in-Write-clause-left g c =
    let x = g.C.Control.exchanged c.args.control.now in
    let y = g.C.Control.exchanged c.ask.new.control in
    let p = g.F.Folders.done c.args.folders.now in
    let q = g.F.Folders.done c.write_texts.new.folders in
    let w = wanted_of c.args.follower.now in
    let e = follower_of c.args.asks c.args.follower.now in
    let f = follower_of (c.args.asks + 1) c.ask.new.follower in
    let leads : Leads x y w (AsksEntries e) (due_in w f due.Write) = subst (λ d. Leads x y w (AsksEntries e) (due_in w f d)) c.in-Write.is c.in_ok-due.ensures.due in
    if_err c.from_residual-in_err-write-in-Write.result (TurnLeft x y p q w e c.args.files.now)
    (left_behind x y p q w e f c.args.files.now c.write_texts.new.files leads c.in_ok-write_texts-in-Write.ensures.written)

pub returns-in_err-write_texts-in-Rest-clause-left : goal.returns-in_err-write_texts-in-Rest-clause-left
returns-in_err-write_texts-in-Rest-clause-left g c =
    let x = g.C.Control.exchanged c.args.control.now in
    let y = g.C.Control.exchanged c.ask.new.control in
    let p = g.F.Folders.done c.args.folders.now in
    let q = g.F.Folders.done c.write_texts-in-Rest.new.folders in
    let w = wanted_of c.args.follower.now in
    let e = follower_of c.args.asks c.args.follower.now in
    let f = follower_of (c.args.asks + 1) c.ask.new.follower in
    let leads : Leads x y w (AsksEntries e) (due_in w f due.Rest) = subst (λ d. Leads x y w (AsksEntries e) (due_in w f d)) c.in-Rest.is c.in_ok-due.ensures.due in
    let again : is_again c.args.asks ≡ true = search rules in
    let behind : are_behind c.args.files.now ≡ true = search rules in
    if_err c.from_residual-in_err-write_texts-in-Rest.result (TurnLeft x y p q w e c.args.files.now)
    (left_late x y p q w e f (is_again c.args.asks) c.args.files.now leads
    (left_if p q f.followed.configuration (is_again c.args.asks) (are_behind c.args.files.now) c.args.files.now again behind c.in_err-write_texts-in-Rest.ensures.left))

pub returns-in-Rest-2 : goal.returns-in-Rest-2
returns-in-Rest-2 g c =
    let x = g.C.Control.exchanged c.args.control.now in
    let y = g.C.Control.exchanged c.ask.new.control in
    let w = wanted_of c.args.follower.now in
    let e = follower_of c.args.asks c.args.follower.now in
    let f = follower_of (c.args.asks + 1) c.ask.new.follower in
    let other : c.in_ok-due.due ≡ due.Write → ⊥ = λ is. absurd (let e = sym c.in-Rest-2.is ∙ is in cc) in
    record {
      went = went_still x y w e f c.in_ok-due.due (g.W.Write.contents c.args.writer.now) other c.in_ok-due.ensures.status c.in_ok-due.ensures.due;
      stopped = tt;
      filed = filed_still x y (g.F.Folders.done c.args.folders.now) w e f c.in_ok-due.due c.args.files.now other c.in_ok-due.ensures.status c.in_ok-due.ensures.due;
      left = tt;
      again = λ is. still_if (g.F.Folders.done c.args.folders.now) c.ask.new.follower.followed.config (is_again c.args.asks && are_behind c.args.files.now) c.args.files.now (not_behind (is_again c.args.asks) (are_behind c.args.files.now) c.if-are_behind.ensures);
      fault = tt;
      status = c.in_ok-due.ensures.status;
      wanted = c.ask.ensures.wanted;
    }

pub returns-in-Rest-2-2 : goal.returns-in-Rest-2-2
returns-in-Rest-2-2 g c =
    let x = g.C.Control.exchanged c.args.control.now in
    let y = g.C.Control.exchanged c.ask.new.control in
    let w = wanted_of c.args.follower.now in
    let e = follower_of c.args.asks c.args.follower.now in
    let f = follower_of (c.args.asks + 1) c.ask.new.follower in
    let other : c.in_ok-due.due ≡ due.Write → ⊥ = λ is. absurd (let e = sym c.in-Rest-2.is ∙ is in cc) in
    record {
      went = went_still x y w e f c.in_ok-due.due (g.W.Write.contents c.args.writer.now) other c.in_ok-due.ensures.status c.in_ok-due.ensures.due;
      stopped = tt;
      filed = filed_still x y (g.F.Folders.done c.args.folders.now) w e f c.in_ok-due.due c.args.files.now other c.in_ok-due.ensures.status c.in_ok-due.ensures.due;
      left = tt;
      again = λ is. still_if (g.F.Folders.done c.args.folders.now) c.ask.new.follower.followed.config (is_again c.args.asks && are_behind c.args.files.now) c.args.files.now (not_again (is_again c.args.asks) (are_behind c.args.files.now) c.if-is_again.ensures);
      fault = tt;
      status = c.in_ok-due.ensures.status;
      wanted = c.ask.ensures.wanted;
    }

pub returns-in_default : goal.returns-in_default
returns-in_default g c =
    let x = g.C.Control.exchanged c.args.control.now in
    let y = g.C.Control.exchanged c.ask.new.control in
    let w = wanted_of c.args.follower.now in
    let e = follower_of c.args.asks c.args.follower.now in
    let f = follower_of (c.args.asks + 1) c.ask.new.follower in
    record {
      went = went_still x y w e f c.in_ok-due.due (g.W.Write.contents c.args.writer.now) c.in_default.not-Write c.in_ok-due.ensures.status c.in_ok-due.ensures.due;
      stopped = tt;
      filed = filed_still x y (g.F.Folders.done c.args.folders.now) w e f c.in_ok-due.due c.args.files.now c.in_default.not-Write c.in_ok-due.ensures.status c.in_ok-due.ensures.due;
      left = tt;
      again = λ is. absurd (c.in_default.not-Rest is);
      fault = tt;
      status = c.in_ok-due.ensures.status;
      wanted = c.ask.ensures.wanted;
    }
