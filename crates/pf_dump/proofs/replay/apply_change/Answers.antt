use Rattle.std.proofs.Common.{◌≡◌, ◌∙◌, sym, ap, subst, List, ℕ}
use Rattle.pf_entry.specs.Entry.{Entry, EntryBytes}
use Rattle.pf_entry.specs.Owned.{command_value}
use Rattle.pf_entry.specs.Seen.{entry_of, command_of}
use Rattle.pf_command.specs.Effect.{after_command}
use Rattle.pf_dump.proofs.replay.apply_change.Goals as goal

-- what is spelled is read
pub unreachable-requires : goal.unreachable-requires
unreachable-requires c =
    let e : Entry = record { origin = 0; number = 0; command = command_value c.args.command } in
    c.in-Err.ensures.only e (subst (λ (bs : List ℕ). EntryBytes e bs) (sym c.deref.ensures.value) c.in-Ok.ensures.spelled)

-- the command that is applied is the one that was spelled
pub returns-clause-made : goal.returns-clause-made
returns-clause-made c =
    let e : Entry = record { origin = 0; number = 0; command = command_value c.args.command } in
    let same : entry_of c.in-Ok-decode.view ≡ e = c.in-Ok-decode.ensures.only e (subst (λ (bs : List ℕ). EntryBytes e bs) (sym c.deref.ensures.value) c.in-Ok.ensures.spelled) in
    let k : command_of c.in-Ok-decode.view.command ≡ command_value c.args.command = ap (λ (x : Entry). x.command) same in
    λ t. c.in_ok-apply_view-in-Ok-decode.ensures ∙ ap (after_command c.args.config.now) k
