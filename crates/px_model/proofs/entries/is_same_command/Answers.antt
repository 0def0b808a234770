use Rattle.std.proofs.Common.{◌≡◌, take, nat_eq}
use Rattle.std.specs.Cmp.Lexicographic.{pointwise}
use Rattle.px_model.proofs.Commands.{same_behind, other_format}
use Rattle.px_model.proofs.entries.is_same_command.Goals as goal

pub returns-then-eq : goal.returns-then-eq
returns-then-eq c =
    let e : c.eq.result ≡ pointwise nat_eq (take 1 c.args.bytes.now) (take 1 c.args.other.now) = cc in
    let f = same_behind c.args.bytes.now c.args.other.now c.eq.result c.if-eq.true e in
    cc

pub returns-else-eq : goal.returns-else-eq
returns-else-eq c =
    let e : c.eq.result ≡ pointwise nat_eq (take 1 c.args.bytes.now) (take 1 c.args.other.now) = cc in
    other_format c.args.bytes.now c.args.other.now c.eq.result c.if-eq.false e
