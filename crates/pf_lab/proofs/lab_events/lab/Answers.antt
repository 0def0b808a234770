-- one event more has happened, and each was known; in the end all have
use Rattle.std.proofs.Common.{◌≡◌, ◌+◌, ◌++◌, ◌∷◌, [], List, take, drop, Err, sym, ap, subst, ◌∙◌, take_all, arith, rules}
use Rattle.std.proofs.lemmas.Grind.{take_at_read}
use Rattle.std.specs.List.{flat_map}
use Rattle.px_model.specs.World.{World, run, start}
use Rattle.px_model.specs.Spelling.{Bytes}
use Rattle.px_replica.specs.Made.{same}
use Rattle.pf_lab.specs.Coming.{model_events}
use Rattle.pf_lab.specs.Labs.{IsWorld, cluster_of}
use Rattle.pf_lab.specs.Outcomes.{are_known}
use Rattle.pf_lab.specs.declared.event.LabEvent.{LabEvent}
use Rattle.pf_lab.proofs.Agreeing.{equally_applied}
use Rattle.pf_lab.proofs.Learnings.{is_ever, is_agreed}
use Rattle.pf_lab.proofs.Taking.{one_more_event, known_more, known_no_more, bad_reported, cut_at}
use Rattle.pf_lab.proofs.lab_events.lab.Goals as goal

pub loop-event-preserved : goal.loop-event-preserved
loop-event-preserved c =
    let n = c.args.members in
    let events = c.args.events.now in
    let i = c.loop-event.event-index in
    let before = run same n (flat_map model_events (take i events)) start in
    let after = c.in_ok-_outcome.ensures.happens (cluster_of n) before c.loop-event.invariant.0 in
    let outcome_is = c.in_ok-_outcome.ensures.reported (cluster_of n) before c.loop-event.invariant.0 in
    let first_events : take (i + 1) events ≡ take i events ++ c.event-item.result ∷ [] =
    (take_at_read events i c.event-item.result c.loop-event-test.true).1 ∙ ap (λ (x : LabEvent). take i events ++ x ∷ []) (sym c.event-item.is) in
    let more = one_more_event n (take i events) c.event-item.result start in (
      subst (λ (w : World Bytes). IsWorld c.step.new.self (cluster_of n) w) (sym (ap (λ (es : List LabEvent). run same n (flat_map model_events es) start) first_events ∙ more)) after,
      ap (λ (es : List LabEvent). are_known n es start) first_events ∙ known_more n (take i events) c.event-item.result start c.loop-event.invariant.1 outcome_is.0,
    )

pub returns-in_err-_outcome-clause-unknown : goal.returns-in_err-_outcome-clause-unknown
returns-in_err-_outcome-clause-unknown c bad =
    let n = c.args.members in
    let events = c.args.events.now in
    let i = c.loop-event.event-index in
    let before = run same n (flat_map model_events (take i events)) start in
    let outcome_is = c.in_err-_outcome.ensures.reported (cluster_of n) before c.loop-event.invariant.0 in
    let passed : c.from_residual-in_err-_outcome.result ≡ Err c.in_err-_outcome.field-0.0 = search rules in
    let cut : take i events ++ c.event-item.result ∷ drop (i + 1) events ≡ events =
    cut_at events i c.event-item.result c.loop-event-test.true c.event-item.is in
    ap (λ (es : List LabEvent). are_known n es start) (sym cut)
    ∙ known_no_more n (take i events) c.event-item.result (drop (i + 1) events) start
    (bad_reported c.from_residual-in_err-_outcome.result c.in_err-_outcome.field-0.0 _ _ passed bad outcome_is)

pub returns-clause-ever : goal.returns-clause-ever
returns-clause-ever c =
    let n = c.args.members in
    let events = c.args.events.now in
    let whole : take c.loop-event.event-index events ≡ events = take_all c.loop-event.event-index events (omega (arith, c.loop-event-test.false)) in
    is_ever n c.requires.few (flat_map model_events events) c.loop-event.lab
    (subst (λ (es : List LabEvent). IsWorld c.loop-event.lab (cluster_of n) (run same n (flat_map model_events es) start)) whole c.loop-event.invariant.0)

pub returns-clause-agreed : goal.returns-clause-agreed
returns-clause-agreed c =
    let n = c.args.members in
    let events = c.args.events.now in
    let whole : take c.loop-event.event-index events ≡ events = take_all c.loop-event.event-index events (omega (arith, c.loop-event-test.false)) in
    is_agreed n c.requires.few (flat_map model_events events) c.loop-event.lab
    (subst (λ (es : List LabEvent). IsWorld c.loop-event.lab (cluster_of n) (run same n (flat_map model_events es) start)) whole c.loop-event.invariant.0)

pub returns-clause-equal : goal.returns-clause-equal
returns-clause-equal c =
    let n = c.args.members in
    let events = c.args.events.now in
    let whole : take c.loop-event.event-index events ≡ events = take_all c.loop-event.event-index events (omega (arith, c.loop-event-test.false)) in
    equally_applied n c.requires.some c.requires.few (flat_map model_events events) c.loop-event.lab
    (subst (λ (es : List LabEvent). IsWorld c.loop-event.lab (cluster_of n) (run same n (flat_map model_events es) start)) whole c.loop-event.invariant.0)

pub returns-clause-known : goal.returns-clause-known
returns-clause-known c =
    let n = c.args.members in
    let events = c.args.events.now in
    let whole : take c.loop-event.event-index events ≡ events = take_all c.loop-event.event-index events (omega (arith, c.loop-event-test.false)) in
    ap (λ (es : List LabEvent). are_known n es start) (sym whole) ∙ c.loop-event.invariant.1
