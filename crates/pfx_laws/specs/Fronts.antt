-- A prefix of a run: what went over its socket up to its end.
use Rattle.std.specs.Prelude.{◌≡◌, ℕ, List, ◌++◌}
use Rattle.px_model.specs.Node.{Record}
use Rattle.px_model.specs.Spelling.{Bytes}
use Rattle.px_model.specs.World.{NodeState}
use Rattle.px_wire.specs.Message.{Group}
use Rattle.px_replica.specs.Traces.{TraceEvent, Traced}
use Rattle.px_transport.specs.Sending.{Sealer}
use Rattle.node_udp.specs.Sockets.{SocketEvent}
use Rattle.node_control.specs.Sockets.{RanAt, RanSealed}

-- A prefix of the member's trace, of which this holds, with the member's state after it and what is unanswered then.
-- From there on the rest is a trace of the member.
pub record Front (g : Group) (m : ℕ) (Is : List TraceEvent → NodeState Bytes → List Bytes → Type 0)
    (trace : List TraceEvent) (end : NodeState Bytes) : Type 0 where
  pub before : List TraceEvent
  pub then : NodeState Bytes
  pub unanswered : List Bytes
  pub ran : Is before then unanswered
  pub later : List TraceEvent
  pub all : trace ≡ before ++ later
  pub goes_on : Traced g m then later end

-- Wherever what went over a run's socket is cut off, without a key or with one, the prefix of it is what went over the
-- socket of a run, whose trace is a prefix of the member's trace.
abbrev pub FrontsAreRuns : Type 0
FrontsAreRuns =
    (g : Group) (m : ℕ) (first : Record Bytes) (front back : List SocketEvent) (trace : List TraceEvent)
    (end : NodeState Bytes) (unanswered : List Bytes) →
    (RanAt g m first (front ++ back) trace end unanswered →
    Front g m (λ ds s came. RanAt g m first front ds s came) trace end) ×
    ((keys : List (List ℕ)) (s : Sealer) → RanSealed g keys s m first (front ++ back) trace end unanswered →
    Front g m (λ ds t came. RanSealed g keys s m first front ds t came) trace end)
