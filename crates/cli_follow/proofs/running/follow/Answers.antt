use Rattle.std.proofs.Common.{◌≡◌, ◌∙◌, ◌+◌, Err, option_map, subst, sym, rules}
use Rattle.nft_rules.specs.Seen.{machine_of}
use Rattle.cli_follow.specs.Output.{Follower, AsksEntries, Ended, wanted, start, Went, FiledTo}
use Rattle.cli_follow.specs.inner.Seen.{follower_of, wanted_of, stage_in}
use Rattle.cli_follow.specs.declared.follower.WriteFault.TheVariants as fault
use Rattle.cli_follow.proofs.Runs.{went_nowhere, stopped_here, ends_early, turned, stopped_turn}
use Rattle.cli_follow.proofs.Filing.{filed_nothing, filed_on, left_first, left_on}
use Rattle.cli_follow.proofs.running.follow.Goals as goal

pub returns-in_err-follower : goal.returns-in_err-follower
returns-in_err-follower g c =
    let x = g.C.Control.exchanged c.args.control.now in
    let w = wanted (option_map (λ v. machine_of v.items) c.args.interfaces) c.args.is_guarded in
    let p = g.F.Folders.done c.args.folders.now in
    let a = g.W.Write.contents c.args.writer.now in
    let e : c.from_residual.result ≡ Err fault.Memory = search rules in
    rw e (stopped_here x x w (AsksEntries start) (AsksEntries start) a a (went_nowhere x w (AsksEntries start) a), left_first x p w c.args.files)

pub loop-asks-init : goal.loop-asks-init
loop-asks-init g c =
    let x = g.C.Control.exchanged c.args.control.now in
    let p = g.F.Folders.done c.args.folders.now in
    let w = wanted (option_map (λ v. machine_of v.items) c.args.interfaces) c.args.is_guarded in
    let a = g.W.Write.contents c.args.writer.now in
    record {
      went = subst (λ (f : Follower). Went x x w (AsksEntries start) (AsksEntries f) a a) (sym c.in_ok-follower.ensures.start) (went_nowhere x w (AsksEntries start) a);
      filed = subst (λ (f : Follower). FiledTo x x p p w c.args.files (AsksEntries f) c.args.files) (sym c.in_ok-follower.ensures.start) (filed_nothing x p w c.args.files);
      wanted = c.in_ok-follower.ensures.wanted;
    }

pub returns-in_err-due : goal.returns-in_err-due
returns-in_err-due g c =
    let x = g.C.Control.exchanged c.args.control.now in
    let z = g.C.Control.exchanged c.turn.new.control in
    let p = g.F.Folders.done c.args.folders.now in
    let q = g.F.Folders.done c.loop-asks.folders in
    let r = g.F.Folders.done c.turn.new.folders in
    let w = wanted (option_map (λ v. machine_of v.items) c.args.interfaces) c.args.is_guarded in
    let a = g.W.Write.contents c.args.writer.now in
    let d = g.W.Write.contents c.turn.new.writer in
    let e : c.from_residual-in_err-due.result ≡ Err c.in_err-due.field-0.0 = search rules in
    rw e (ends_early x z p r w c.args.files c.args.turns c.in_err-due.field-0.0 a d c.in_err-due.ensures.fault
    (stopped_turn x (g.C.Control.exchanged c.loop-asks.control) z w (wanted_of c.loop-asks.follower) (AsksEntries start)
    (AsksEntries (follower_of c.loop-asks.asks c.loop-asks.follower)) a (g.W.Write.contents c.loop-asks.writer) d
    c.loop-asks.invariant.wanted c.loop-asks.invariant.went c.in_err-due.ensures.stopped)
    (left_on x (g.C.Control.exchanged c.loop-asks.control) z p q r w (wanted_of c.loop-asks.follower) c.args.files c.loop-asks.files
    (follower_of c.loop-asks.asks c.loop-asks.follower) c.loop-asks.invariant.wanted c.loop-asks.invariant.filed c.in_err-due.ensures.left))

pub returns-then-is_another : goal.returns-then-is_another
returns-then-is_another g c =
    let x = g.C.Control.exchanged c.args.control.now in
    let y = g.C.Control.exchanged c.loop-asks.control in
    let z = g.C.Control.exchanged c.turn.new.control in
    let p = g.F.Folders.done c.args.folders.now in
    let q = g.F.Folders.done c.loop-asks.folders in
    let r = g.F.Folders.done c.turn.new.folders in
    let w = wanted (option_map (λ v. machine_of v.items) c.args.interfaces) c.args.is_guarded in
    let e = follower_of c.loop-asks.asks c.loop-asks.follower in
    let f = follower_of (c.loop-asks.asks + 1) c.turn.new.follower in (
      turned x y z w (wanted_of c.loop-asks.follower) (AsksEntries start) (AsksEntries e) (stage_in f c.in_ok-due.due) Ended (g.W.Write.contents c.args.writer.now) (g.W.Write.contents c.loop-asks.writer)
          (g.W.Write.contents c.turn.new.writer) c.loop-asks.invariant.wanted (c.if-is_another.ensures f) c.loop-asks.invariant.went c.in_ok-due.ensures.went,
      (
        c.turn.new.files,
        filed_on x y z p q r w (wanted_of c.loop-asks.follower) c.args.files c.loop-asks.files c.turn.new.files e (stage_in f c.in_ok-due.due) Ended c.loop-asks.invariant.wanted
            (c.if-is_another.ensures f) c.loop-asks.invariant.filed c.in_ok-due.ensures.filed,
      ),
    )

pub loop-asks-preserved : goal.loop-asks-preserved
loop-asks-preserved g c =
    let x = g.C.Control.exchanged c.args.control.now in
    let y = g.C.Control.exchanged c.loop-asks.control in
    let z = g.C.Control.exchanged c.turn.new.control in
    let p = g.F.Folders.done c.args.folders.now in
    let q = g.F.Folders.done c.loop-asks.folders in
    let r = g.F.Folders.done c.turn.new.folders in
    let w = wanted (option_map (λ v. machine_of v.items) c.args.interfaces) c.args.is_guarded in
    let e = follower_of c.loop-asks.asks c.loop-asks.follower in
    let f = follower_of (c.loop-asks.asks + 1) c.turn.new.follower in
    record {
      went = turned x y z w (wanted_of c.loop-asks.follower) (AsksEntries start) (AsksEntries e) (stage_in f c.in_ok-due.due) (AsksEntries f) (g.W.Write.contents c.args.writer.now)
          (g.W.Write.contents c.loop-asks.writer) (g.W.Write.contents c.turn.new.writer) c.loop-asks.invariant.wanted (c.if-is_another.ensures f) c.loop-asks.invariant.went c.in_ok-due.ensures.went;
      filed = filed_on x y z p q r w (wanted_of c.loop-asks.follower) c.args.files c.loop-asks.files c.turn.new.files e (stage_in f c.in_ok-due.due) (AsksEntries f) c.loop-asks.invariant.wanted
          (c.if-is_another.ensures f) c.loop-asks.invariant.filed c.in_ok-due.ensures.filed;
      wanted = c.turn.ensures.wanted ∙ c.loop-asks.invariant.wanted;
    }

pub returns : goal.returns
returns g c = (follower_of c.loop-asks.asks c.loop-asks.follower, search rules, c.loop-asks.invariant.went, (c.loop-asks.files, c.loop-asks.invariant.filed))
