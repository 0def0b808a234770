-- the events so far have happened, and each was known
use Rattle.std.proofs.Common.{take, true, ◌≡◌}
use Rattle.std.specs.List.{flat_map}
use Rattle.px_model.specs.World.{run, start}
use Rattle.px_replica.specs.Made.{same}
use Rattle.pf_lab.specs.Coming.{model_events}
use Rattle.pf_lab.specs.Labs.{IsWorld, cluster_of}
use Rattle.pf_lab.specs.Outcomes.{are_known}
use Rattle.pf_lab.proofs.lab_events.lab.Given as goal

abbrev pub invariant-loop-event : goal.invariant-loop-event
invariant-loop-event l =
    IsWorld l.lab (cluster_of l.members) (run same l.members (flat_map model_events (take l.event-index l.events)) start)
    × (are_known l.members (take l.event-index l.events) start ≡ true)
