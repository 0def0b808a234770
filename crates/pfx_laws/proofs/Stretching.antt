-- Members' traces are stretches.
use Rattle.std.proofs.Common.{sym, subst, refl, ℕ, ◌<◌, Bool, List, [], ◌∷◌, ◌++◌, Option, Some, None}
use Rattle.std.proofs.lemmas.List.{append-nil}
use Rattle.px_model.specs.Node.{Record, Input}
use Rattle.px_model.specs.Spelling.{Bytes}
use Rattle.px_model.specs.World.{NodeState, nothing_stored, started}
use Rattle.px_records.specs.declared.records.Records.{Ghosts}
use Rattle.px_model.specs.Node.Input.{Asks, Ticks, Comes}
use Rattle.px_transport.specs.Wires.{given_in}
use Rattle.px_wire.specs.Message.{Group, group}
use Rattle.px_replica.specs.Traces.{TraceEvent, Traced, stopped}
use Rattle.px_replica.specs.Traces.TraceEvent.{Stops}
use Rattle.px_replica.specs.Replicas.{records_of, membership_of, state_in}
use Rattle.px_replica.specs.declared.fault.NodeFault.{NodeFault}
use Rattle.node_loop.specs.Turns.{LoopState}
use Rattle.node_loop.specs.Resending.{came_in}
use Rattle.node_loop.specs.Moves.{Heard, message_in, messages_of, AreBrought, HasTrace}
use Rattle.node_loop.specs.Moves.{Move, Does, Passes, Repeats, trace_of, came_by, IsBrought, AreMoves}
use Rattle.node_loop.proofs.Traffic.{messages_then, one_brought, none_brought, brought_then}
use Rattle.node_loop.proofs.Runs.{traced_then}
use Rattle.pfx_laws.specs.Wires.{trace_in, led_to}
use Rattle.pfx_laws.specs.Runs.{IsStretch, IsNew, TracesGo, stretch_of, stretch_to, TracesAreStretches, OpeningsAreStretches}
use Rattle.pfx_laws.proofs.Carrying.{traced_to}

-- ---- traces

as_led : (g : Group) (me : ℕ) (s t : NodeState Bytes) (ds : List TraceEvent) → Traced g me s ds t → Traced g me s ds (led_to s ds)
as_led g me s t ds l = subst (λ (u : NodeState Bytes). Traced g me s ds u) (traced_to g me s t ds l) l

-- each message that comes is spelled by a datagram that is given
moves_brought : (g : Group) (me : ℕ) (hears : Bool) (ms : List Move) (before : List Bytes) (kept : List (ℕ × Bytes)) →
    AreMoves g me hears ms before kept → AreBrought g me (came_by ms) (messages_of (trace_of ms))
moves_brought g me hears [] before kept a = none_brought g me []
moves_brought g me hears (Passes b ∷ ms) before kept a =
    brought_then g me (b ∷ []) (came_by ms) [] (messages_of (trace_of ms)) (none_brought g me (b ∷ [])) (moves_brought g me hears ms _ kept a.1)
moves_brought g me hears (Repeats to b ∷ ms) before kept a = moves_brought g me hears ms before kept a.1
moves_brought g me hears (Does came i t out ∷ ms) before kept a =
    brought_then g me (came_in came) (came_by ms) (message_in i) (messages_of (trace_of ms)) (one_brings g me came i a.0) (moves_brought g me hears ms _ _ a.1)
  where
    one_brings : (g : Group) (me : ℕ) (came : Option Bytes) (i : Input Bytes) → IsBrought g me came i → AreBrought g me (came_in came) (message_in i)
    one_brings g me None (Asks command) b = none_brought g me []
    one_brings g me None Ticks b = none_brought g me []
    one_brings g me None (Comes sender message) b = absurd b
    one_brings g me (Some c) (Asks command) b = absurd b
    one_brings g me (Some c) Ticks b = absurd b
    one_brings g me (Some c) (Comes sender message) b = one_brought g me c sender message b

whole : {R : Type 0} {G : Ghosts R} (x z : LoopState G) (a : Option NodeFault) (l : HasTrace x z a) →
    (membership_of x.replica).me < (membership_of x.replica).members →
    IsStretch (group (membership_of x.replica)) (state_in x.replica) (stretch_of x z a l)
whole x z a l below =
    let g = group (membership_of x.replica) in
    let me = (membership_of x.replica).me in
    record {
      below = below;
      traced = as_led g me (state_in x.replica) l.then (trace_of l.moves) l.traced;
      brought = moves_brought g me x.hears_asks l.moves x.requests x.kept l.are;
    }

cut : {R : Type 0} {G : Ghosts R} (x z : LoopState G) (a : Option NodeFault) (l : HasTrace x z a) →
    (membership_of x.replica).me < (membership_of x.replica).members → (left : Record Bytes) → G.may_leave (records_of z.replica) left →
    (input : Input Bytes) × IsStretch (group (membership_of x.replica)) (state_in x.replica) (stretch_to x z a l input left)
cut x z a l below left may =
    let g = group (membership_of x.replica) in
    let me = (membership_of x.replica).me in
    let s = l.stop left may in
    let ds = trace_of l.moves in
    let end = Stops s.0 left ∷ [] in
    let last : AreBrought g me (given_in l.last) (message_in s.0 ++ []) =
    subst (λ (ms : List Heard). AreBrought g me (given_in l.last) ms) (sym (append-nil (message_in s.0))) s.2 in (
      s.0,
      record {
        below = below;
        traced = as_led g me (state_in x.replica) (stopped left) (ds ++ end)
            (traced_then g me (state_in x.replica) l.then (stopped left) ds end l.traced (l.up, s.1, s.3, refl));
        brought = subst (λ (ms : List Heard). AreBrought g me (came_by l.moves ++ given_in l.last) ms) (sym (messages_then ds end))
            (brought_then g me (came_by l.moves) (given_in l.last) (messages_of ds) (message_in s.0 ++ [])
            (moves_brought g me x.hears_asks l.moves x.requests x.kept l.are) last);
      },
    )

pub traces_are_stretches : {R : Type 0} (G : Ghosts R) → TracesAreStretches G
traces_are_stretches G x z a l below = (
  whole x z a l below,
  traced_to (group (membership_of x.replica)) (membership_of x.replica).me (state_in x.replica) l.then (trace_of l.moves) l.traced,
  λ left may. cut x z a l below left may,
)

pub openings_are_stretches : OpeningsAreStretches
openings_are_stretches g s x i = record { below = i.below; traced = i.traced; brought = i.brought }

-- ---- members side by side

new_traced : {R : Type 0} {G : Ghosts R} (g : Group) (m : ℕ) (x z : LoopState G) (a : Option NodeFault) (l : HasTrace x z a) → IsNew g m x →
    Traced g m (started nothing_stored) (trace_of l.moves) l.then
new_traced {R} {G} g m x z a l new =
    subst (λ (s : NodeState Bytes). Traced g m s (trace_of l.moves) l.then) new.empty
    (subst (λ (k : Group). Traced k m (state_in x.replica) (trace_of l.moves) l.then) new.cluster
    (subst (λ (j : ℕ). Traced (group (membership_of x.replica)) j (state_in x.replica) (trace_of l.moves) l.then) new.me l.traced))

pub traces_go : {R : Type 0} (G : Ghosts R) → TracesGo G
traces_go G g few from to a all_traced new xs trace are carried =
    let s = started nothing_stored in
    let traced = λ (m : ℕ) (below : m < g.members).
    subst (λ (ds : List TraceEvent). Traced g m s ds (all_traced m below).then) (sym (trace m below))
    (new_traced g m (from m) (to m) (a m) (all_traced m below) (new m below)) in (
      record {
        group = few;
        are = are;
        traced = λ m below. as_led g m s (all_traced m below).then (trace_in m xs) (traced m below);
        carried = carried;
      },
      λ m below. sym (traced_to g m s (all_traced m below).then (trace_in m xs) (traced m below)),
    )
