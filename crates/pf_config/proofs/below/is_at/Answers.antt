use Rattle.std.proofs.Common.{◌≡◌, ◌<◌, ◌≤◌, Some, length, get_or, slice_get, rules, arith}
use Rattle.std.proofs.lemmas.Option.{slice_get_read, slice_get_past}
use Rattle.pf_config.proofs.KidPlaces.{some_placed, none_placed}
use Rattle.pf_config.proofs.below.is_at.Goals as goal

pub returns-in-Some : goal.returns-in-Some
returns-in-Some c =
    let less : c.args.at < length c.args.kids.now = search rules in
    let is : c.in-Some.kid.now ≡ get_or c.args.kids.now c.args.at c.in-Some.kid.now = search rules in
    let got : slice_get c.args.kids.now c.args.at ≡ Some c.in-Some.kid.now = slice_get_read c.args.kids.now (length c.args.kids.now) c.args.at c.in-Some.kid.now (omega arith) less is in
    let same : c.deref.result.now ≡ c.in-Some.kid.now.value = search rules in
    rw (c.is_named.ensures, same) (some_placed c.args.name.now c.args.at c.args.kids.now c.in-Some.kid.now c.requires.order c.requires.place got)

pub returns-in-None : goal.returns-in-None
returns-in-None c =
    let past : length c.args.kids.now ≤ c.args.at = search rules in
    none_placed c.args.name.now c.args.at c.args.kids.now c.requires.order c.requires.place (slice_get_past c.args.kids.now c.args.at past)
