use Rattle.std.proofs.Common.{◌≡◌, sym, ap, subst, List, ℕ, IfOk}
use Rattle.pf_entry.specs.Entry.{Entry, EntryBytes, Command}
use Rattle.pf_entry.specs.Seen.{entry_of, command_of}
use Rattle.pf_command.specs.Effect.{effect, after_command}
use Rattle.pf_scripts.specs.Ctl.{is_counted, change_printed, prints}
use Rattle.pf_scripts.specs.Seen.{printed_value}
use Rattle.pf_scripts.specs.inner.Seen.{Does}
use Rattle.pf_entry.specs.Owned.{command_value}
use Rattle.pf_scripts.proofs.acting.run_change.Goals as goal

-- what is spelled is read
pub unreachable-requires-in-Err : goal.unreachable-requires-in-Err
unreachable-requires-in-Err c =
    let e : Entry = record { origin = 0; number = 0; command = command_value c.args.command } in
    c.in-Err.ensures.only e (subst (λ (bs : List ℕ). EntryBytes e bs) (sym c.deref.ensures.value) c.in-Ok.ensures.spelled)

-- the command that is applied is the one that was spelled
pub returns : goal.returns
returns c =
    let e : Entry = record { origin = 0; number = 0; command = command_value c.args.command } in
    let same : entry_of c.in-Ok-decode.view ≡ e = c.in-Ok-decode.ensures.only e (subst (λ (bs : List ℕ). EntryBytes e bs) (sym c.deref.ensures.value) c.in-Ok.ensures.spelled) in
    let k : command_of c.in-Ok-decode.view.command ≡ command_value c.args.command = ap (λ (x : Entry). x.command) same in
    subst (λ (x : Command). IfOk c.run_view.result (λ p. Does (prints (after_command c.args.config.now x) (change_printed (is_counted x) (effect c.args.config.now x))) c.run_view.new.config (printed_value p))) k c.run_view.ensures
