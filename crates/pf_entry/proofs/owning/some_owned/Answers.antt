use Rattle.std.proofs.Common.{List, length, ap, arith}
use Rattle.std.proofs.lemmas.List.{length-map}
use Rattle.pf_entry.specs.Seen.{address_of}
use Rattle.pf_entry.specs.Entry.{Address}
use Rattle.pf_entry.proofs.Kept.{some_there}
use Rattle.pf_entry.proofs.owning.some_owned.Goals as goal

pub invariant_of-result : goal.invariant_of-result
invariant_of-result c =
    let same = ap (λ (list : List Address). length list) c.in_ok-items.ensures in
    record { some = omega (arith, some_there c.args.list.now, same, length-map c.in_ok-items.items.items address_of) }
