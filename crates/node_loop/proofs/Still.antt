-- Where no turn is made nothing changes.
use Rattle.std.proofs.Common.{Bool, List, None, false, refl}
use Rattle.px_model.specs.Step.{front}
use Rattle.px_records.specs.declared.records.Records.{Ghosts}
use Rattle.px_transport.specs.Wires.{WireEvent}
use Rattle.pf_node.specs.Nodes.{learned_by, applied_of}
use Rattle.pf_node.specs.declared.state.Node.{Node}
use Rattle.node_loop.proofs.Chains.{served_none, same_all}
use Rattle.node_loop.proofs.Hosting.{hosted_none}
use Rattle.node_loop.specs.Runs.{new_buffers, run_state, Reports, Serves, HostReports, Hosts}
use Rattle.node_loop.specs.declared.ended.Ended.{Ended}

pub still : {R : Type 0} {G : Ghosts R} (s : Node R G) (w : List WireEvent) (ended : Ended) →
    Reports (front (learned_by s)) (applied_of s) None ended → Serves s s w w ended
still s w ended reported = record {
  answered = None;
  hears = false;
  buffers = new_buffers false;
  served = served_none (run_state s w (new_buffers false)) (run_state s w (new_buffers false)) (same_all (run_state s w (new_buffers false)));
  reported = reported;
}

-- nor where no command is asked
pub unasked : {R : Type 0} {G : Ghosts R} (s : Node R G) (w : List WireEvent) (hears : Bool) (ended : Ended) →
    HostReports (front (learned_by s)) (applied_of s) None ended → Hosts s s w w hears ended
unasked s w hears ended reported = record {
  answered = None;
  buffers = new_buffers hears;
  hosted = hosted_none (run_state s w (new_buffers hears)) (run_state s w (new_buffers hears)) refl;
  reported = reported;
}
