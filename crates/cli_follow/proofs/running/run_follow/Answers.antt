use Rattle.std.proofs.Common.{◌≡◌, ◌∙◌, inr, map, rules, sym, tests}
use Rattle.clap.specs.Words.{found_of, kind_of, rows_of}
use Rattle.clap.specs.declared.error.kind.ErrorKind.TheVariants.{OutOfMemory}
use Rattle.cli_follow.proofs.Misuse.{memory_over, given_parsed, given_refused, nowhere, at_path}
use Rattle.std.proofs.KnownBytes.{Appends-nil}
use Rattle.cli_follow.proofs.Runs.{adds_nothing}
use Rattle.cli_follow.proofs.running.run_follow.Goals as goal

-- the arguments are refused, or it was out of memory
pub returns-in-Err : goal.returns-in-Err
returns-in-Err g c =
    let u = g.F.Folders.done c.args.folders.now in
    memory_over (g.C.ControlSockets.answers_at c.args.sockets.now) g.C.Peer.Control.exchanged u u (g.RT.Sources.has c.args.rt.now) _ c.memory-in-Err.result _ _ (adds_nothing u)
    (c.memory-in-Err.ensures, Appends-nil (g.W.Write.contents c.args.writer.now))

pub returns-in-Err-2 : goal.returns-in-Err-2
returns-in-Err-2 g c =
    let u = g.F.Folders.done c.args.folders.now in
    let arguments = map g.S.AsStr.text c.args.arguments.now in
    let other : kind_of c.in-Err-2.error ≡ OutOfMemory → ⊥ = search (rules, tests) in
    given_refused (g.C.ControlSockets.answers_at c.args.sockets.now) g.C.Peer.Control.exchanged u u (g.RT.Sources.has c.args.rt.now) _ arguments c.in-Err-2.error c.misused.result _ _ (adds_nothing u) c.in-Ok.ensures c.in-Err-2.ensures.kinds
    (inr c.misused.ensures.ran) (λ e. absurd (other e))

-- another subcommand
pub returns-in_default-given_in : goal.returns-in_default-given_in
returns-in_default-given_in g c =
    let u = g.F.Folders.done c.args.folders.now in
    let arguments = map g.S.AsStr.text c.args.arguments.now in
    let matches = c.in-Ok-try_get_matches_from in
    let e = given_parsed _ arguments matches.matches c.in-Ok.ensures matches.ensures.kinds matches.ensures.matches ∙ sym c.in_default-given_in.ensures in
    rw e (adds_nothing u, inr tt)

-- no path
pub returns-in_default-value_in : goal.returns-in_default-value_in
returns-in_default-value_in g c =
    let u = g.F.Folders.done c.args.folders.now in
    let arguments = map g.S.AsStr.text c.args.arguments.now in
    let matches = c.in-Ok-try_get_matches_from in
    let e = given_parsed _ arguments matches.matches c.in-Ok.ensures matches.ensures.kinds matches.ensures.matches ∙ sym c.in-Some.ensures in
    nowhere (g.C.ControlSockets.answers_at c.args.sockets.now) g.C.Peer.Control.exchanged u u (g.RT.Sources.has c.args.rt.now) _ (rows_of (found_of c.in-Some.inner.now)) c.refused.result _ (adds_nothing u) e (sym c.in_default-value_in.ensures) c.refused.ensures

pub returns : goal.returns
returns g c =
    let u = g.F.Folders.done c.args.folders.now in
    let arguments = map g.S.AsStr.text c.args.arguments.now in
    let matches = c.in-Ok-try_get_matches_from in
    let e = given_parsed _ arguments matches.matches c.in-Ok.ensures matches.ensures.kinds matches.ensures.matches ∙ sym c.in-Some.ensures in
    at_path (g.C.ControlSockets.answers_at c.args.sockets.now) g.C.Peer.Control.exchanged u (g.F.Folders.done c.followed.new.folders) (g.RT.Sources.has c.args.rt.now) _ (rows_of (found_of c.in-Some.inner.now)) c.in-Some-value_in.path.now c.followed.result _ _ c.peer_at-peer.result c.followed.new.control e
    (sym c.in-Some-value_in.ensures) c.peer_at-peer.ensures c.followed.ensures

-- the command couldn't be made
pub returns-in_default : goal.returns-in_default
returns-in_default g c =
    let u = g.F.Folders.done c.args.folders.now in
    memory_over (g.C.ControlSockets.answers_at c.args.sockets.now) g.C.Peer.Control.exchanged u u (g.RT.Sources.has c.args.rt.now) _ c.memory.result _ _ (adds_nothing u)
    (c.memory.ensures, Appends-nil (g.W.Write.contents c.args.writer.now))
