-- the message to one is all that is sent
use Rattle.std.proofs.Common.{subst}
use Rattle.px_model.specs.Fits.{Passes, SendsFit}
use Rattle.px_core.specs.declared.plan.Sends.{Sends}
use Rattle.px_core.specs.Seen.{sends_of}
use Rattle.px_wire.specs.Sent.{is_command}
use Rattle.px_replica.proofs.spelling.spelled.Goals as goal

pub for_one-requires-clause-fits : goal.for_one-requires-clause-fits
for_one-requires-clause-fits c =
    let m = c.args.m.now in
    subst (λ (s : Sends). SendsFit (Passes is_command) m.members m.me (sends_of m.members m.me s)) c.in-One.is c.requires.fits
