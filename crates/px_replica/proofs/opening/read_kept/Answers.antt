-- the record is the one before
use Rattle.std.proofs.Common.{subst, sym, inr}
use Rattle.px_model.specs.Node.{Record}
use Rattle.px_model.specs.Spelling.{Bytes}
use Rattle.px_replica.specs.Members.{group_of}
use Rattle.px_replica.specs.Seen.{IsSound}
use Rattle.px_replica.proofs.BadRows.{bad_before, bad_after, all_good}
use Rattle.px_replica.proofs.Steps.{none_failed, stores_fault, bad_row}
use Rattle.px_replica.proofs.opening.read_kept.Goals as goal

pub returns-in-Err-learned_end-clause-why : goal.returns-in-Err-learned_end-clause-why
returns-in-Err-learned_end-clause-why g c honest sound fault =
    let n = (group_of c.args.member.now).members in
    let was = c.learned_end.ensures.read.was honest in
    let stays = c.read_meta.ensures.read.stays was (none_failed (g.R.Records.failed c.read_meta.new.self) c.in-Ok.meta c.in-Ok.ensures.counts) in
    c.in-Err-learned_end.ensures.why n honest (subst (λ (d : Record Bytes). IsSound n d) (sym stays) sound) (stores_fault c.in-Err-learned_end.fault fault)

pub returns-in-Err-remember_below-clause-bad : goal.returns-in-Err-remember_below-clause-bad
returns-in-Err-remember_below-clause-bad g c honest e =
    let n = (group_of c.args.member.now).members in
    let ended = c.remember_below.ensures.read.was honest in
    let read = c.learned_end.ensures.read.was ended in
    let none = none_failed (g.R.Records.failed c.read_meta.new.self) c.in-Ok.meta c.in-Ok.ensures.counts in
    let none' = none_failed (g.R.Records.failed c.learned_end.new.records) c.in-Ok-learned_end.end c.in-Ok-learned_end.ensures.counts in
    bad_before g.R.Records c.args.records.now c.read_meta.new.self n read none c.read_meta.ensures.read
    (bad_before g.R.Records c.read_meta.new.self c.learned_end.new.records n ended none' c.learned_end.ensures.read
    (inr (
      c.in-Ok-learned_end.end,
      c.in-Ok-learned_end.ensures.last ended,
      c.in-Err-remember_below.ensures.bad honest (bad_row c.in-Err-remember_below.fault e),
    )))

pub returns-in-Ok-remember_below-clause-good : goal.returns-in-Ok-remember_below-clause-good
returns-in-Ok-remember_below-clause-good g c honest bad =
    let n = (group_of c.args.member.now).members in
    let ended = c.remember_below.ensures.read.was honest in
    let read = c.learned_end.ensures.read.was ended in
    let none = none_failed (g.R.Records.failed c.read_meta.new.self) c.in-Ok.meta c.in-Ok.ensures.counts in
    let none' = none_failed (g.R.Records.failed c.learned_end.new.records) c.in-Ok-learned_end.end c.in-Ok-learned_end.ensures.counts in
    all_good g.R.Records c.read_meta.new.self c.learned_end.new.records n ended none' c.learned_end.ensures.read
    c.in-Ok-learned_end.end (c.in-Ok-learned_end.ensures.last ended) (c.in-Ok-learned_end.ensures.good ended)
    (c.in-Ok-remember_below.ensures.good honest)
    (bad_after g.R.Records c.args.records.now c.read_meta.new.self n read none c.read_meta.ensures.read bad)
