-- A run without a control socket is one in which no command is asked.
use Rattle.std.proofs.Common.{ℕ, Bool, false, List, Option, None, Some, inl, inr}
use Rattle.px_model.specs.Step.{front}
use Rattle.px_records.specs.declared.records.Records.{Ghosts}
use Rattle.px_transport.specs.Wires.{WireEvent}
use Rattle.px_wire.specs.declared.membership.Membership.{Membership}
use Rattle.px_replica.specs.declared.fault.NodeFault.{NodeFault}
use Rattle.pf_node.specs.Nodes.{learned_by, applied_of}
use Rattle.pf_node.specs.declared.state.Node.{Node}
use Rattle.node_loop.proofs.Hosting.{hosted_served}
use Rattle.node_loop.specs.Runs.{new_buffers, run_state, Reports, HostReports, Serves, Hosts, Runs, HostedRuns}
use Rattle.node_loop.specs.declared.ended.Ended.{Ended}

pub reports : (n k : ℕ) (answered : Option NodeFault) (ended : Ended) → Reports n k answered ended → HostReports n k answered ended
reports n k None ended reported = inl reported
reports n k (Some e) ended reported = reported

pub serves : {R : Type 0} {G : Ghosts R} (s t : Node R G) (w v : List WireEvent) (ended : Ended) →
    (k : Serves s t w v ended) → Hosts s t w v k.hears ended
serves s t w v ended k = record {
  answered = k.answered;
  buffers = k.buffers;
  hosted = hosted_served (run_state s w (new_buffers k.hears)) (run_state t v k.buffers) k.answered k.served;
  reported = reports (front (learned_by t)) (applied_of t) k.answered ended k.reported;
}

pub runs : {R : Type 0} (G : Ghosts R) (m : Membership) (given back : R) (w v : List WireEvent) (ended : Ended) →
    Runs G m given w v ended back → (hears : Bool) × HostedRuns G m hears given w v ended back
runs G m given back w v ended (inl unopened) = (false, inl unopened)
runs G m given back w v ended (inr l) = (
  l.went.hears,
  inr (record {
    begun = l.begun;
    done = l.done;
    membership = l.membership;
    works = l.works;
    was = l.was;
    starts = l.starts;
    stop = l.stop;
    went = serves l.begun l.done w v ended l.went;
    closed = l.closed;
  }),
)
