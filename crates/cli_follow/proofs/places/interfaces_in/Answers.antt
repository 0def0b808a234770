use Rattle.std.proofs.Common.{List, Option, ℕ, Vec, Global, subst, sym}
use Rattle.std.specs.Prelude.{IfSome}
use Rattle.cli_follow.proofs.Listing.{listed}
use Rattle.cli_follow.proofs.places.interfaces_in.Goals as goal

pub returns-in-Some : goal.returns-in-Some
returns-in-Some g c =
    let has = g.T.Sources.has c.args.sources.now c.args.file.now in
    let read : has c.in-Some.text.items =
    subst (λ (o : Option (Vec ℕ Global)). IfSome o (λ t. has t.items)) c.in-Some.is c.in_ok-text.ensures in
    listed (g.T.Sources.has c.args.sources.now) c.args.file.now c.as_slice.result.now c.machine_in.result
    (subst (λ (s : List ℕ). has s) (sym c.as_slice.ensures.value) read) c.machine_in.ensures
