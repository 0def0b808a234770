use Rattle.std.proofs.Common.{◌≡◌, sym, string_bytes, arith}
use Rattle.std.proofs.lemmas.List.{append-nil}
use Rattle.pf_dump.proofs.Rules.{shallow}
use Rattle.pf_dump.proofs.text.+push_rules.Goals as goal

pub returns-then-depth-eq0 : goal.returns-then-depth-eq0
returns-then-depth-eq0 t c =
    let z : c.args.depth ≡ 0 = omega arith in
    rw (shallow c.args.depth c.args.is_hidden c.args.config.now c.args.path.now z) (sym (append-nil (string_bytes c.args.out.now)))
