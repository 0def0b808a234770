-- A run that is made of rounds.
use Rattle.std.proofs.Common.{◌≡◌, ◌≤◌, ◌*◌, ℕ, Bool, true, false, List, [], ◌∷◌, Option, Some, None, Result, Ok, Err, refl, sym, subst, ap, inl, inr, arith}
use Rattle.std.specs.Prelude.{IfOk}
use Rattle.px_model.specs.Step.{front}
use Rattle.px_records.specs.declared.records.Records.{Ghosts}
use Rattle.px_replica.specs.Faults.{fault_of}
use Rattle.px_replica.specs.declared.fault.NodeFault.{NodeFault}
use Rattle.px_transport.specs.Wires.{WireEvent, Moves}
use Rattle.px_transport.proofs.Traffic.{adds_then}
use Rattle.pf_node.specs.Nodes.{replica_of, learned_by, applied_of}
use Rattle.pf_node.specs.declared.state.Node.{Node}
use Rattle.node_loop.specs.Hosting.{Hosted}
use Rattle.node_loop.specs.Resends.{kept_of, requests_of}
use Rattle.node_loop.specs.Timing.{TimerEvent, MakesTurns, WorksOff, looks_in}
use Rattle.node_loop.specs.Turns.{LoopState, Served, in_loop}
use Rattle.node_loop.specs.declared.turn_buffers.TurnBuffers.{TurnBuffers}
use Rattle.node_loop.proofs.Chains.{same_is, served_none, served_then}
use Rattle.node_loop.proofs.Hosting.{hosted_then, hosted_served}
use Rattle.node_loop.proofs.Looking.{makes_then}
use Rattle.node_loop.specs.Runs.{Buffers, new_buffers, run_state, Reports, HostReports, Serves, Hosts, OnFront}
use Rattle.node_loop.specs.declared.ended.Ended.{Ended}
use Rattle.node_loop.specs.declared.running.Progress.{Progress}
use Rattle.node_control.specs.declared.control.ControlSocket.{ControlSocket}
use Rattle.node_control.specs.declared.hearing.Hearing.{Hearing}
use Rattle.node_control.specs.inner.Ending.{is_ending}
use Rattle.node_control.specs.inner.Observing.{IsShown, Seen}
use Rattle.node_control.specs.inner.Runs.{Finishes, IsSocketless, MakesRounds, ended_as}
use Rattle.node_requests.specs.declared.counters.Counters.{Counters}
use Rattle.node_requests.specs.declared.handler.RequestHandler.{RequestHandler}

-- nothing was asked, and nothing went over the wire
pub still : {R : Type 0} {G : Ghosts R} (s t : RequestHandler R G) (es : List WireEvent) (buffers : TurnBuffers) → t ≡ s →
    Served (in_loop s.node es buffers) (in_loop t.node es buffers) None
still {R} {G} s t es buffers e =
    served_none _ _ (record {
      replica = ap (λ (d : RequestHandler R G). replica_of d.node) e;
      traffic = refl;
      kept = refl;
      requests = refl;
      hears = refl;
    })

-- a run begins so, with new buffers
begins : {R : Type 0} {G : Ghosts R} (x s : Node R G) (es : List WireEvent) (buffers : TurnBuffers) (hears : Bool) → x ≡ s →
    kept_of buffers.resender ≡ [] → requests_of buffers.resender ≡ [] → buffers.hears_asks ≡ hears →
    in_loop x es buffers ≡ run_state s es (new_buffers hears)
begins {R} {G} x s es buffers hears e k q h =
    same_is (run_state s es (new_buffers hears)) (in_loop x es buffers) (record {
      replica = ap (λ (n : Node R G). replica_of n) e;
      traffic = refl;
      kept = k;
      requests = q;
      hears = h;
    })

abbrev left_in : TurnBuffers → Buffers
left_in buffers = record { kept = kept_of buffers.resender; requests = requests_of buffers.resender; hears_asks = buffers.hears_asks }

-- one thing behind the other
pub hosted_over : {R : Type 0} {G : Ghosts R} (o m n : List WireEvent → Type 0) (x y z : List WireEvent → LoopState G)
    (a : Option NodeFault) → Moves o m (λ es es'. Hosted (x es) (y es') None) → Moves m n (λ es es'. Hosted (y es) (z es') a) →
    Moves o n (λ es es'. Hosted (x es) (z es') a)
hosted_over o m n x y z a f g es t =
    let r = f es t in
    let s = g r.0 r.1 in
    (s.0, s.1, hosted_then (x es) (y r.0) (z s.0) a r.2 s.2)

pub over_then : {R : Type 0} {G : Ghosts R} (o m n : List WireEvent → Type 0) (x y z : List WireEvent → LoopState G)
    (a : Option NodeFault) → Moves o m (λ es es'. Served (x es) (y es') None) → Moves m n (λ es es'. Served (y es) (z es') a) →
    Moves o n (λ es es'. Served (x es) (z es') a)
over_then o m n x y z a f g es t =
    let r = f es t in
    let s = g r.0 r.1 in
    (s.0, s.1, served_then (x es) (y r.0) (z s.0) a r.2 s.2)

-- turns alone
pub served_over : {R : Type 0} {G : Ghosts R} (o n : List WireEvent → Type 0) (x y : List WireEvent → LoopState G)
    (a : Option NodeFault) → Moves o n (λ es es'. Served (x es) (y es') a) → Moves o n (λ es es'. Hosted (x es) (y es') a)
served_over o n x y a f es t = let r = f es t in (r.0, r.1, hosted_served (x es) (y r.0) a r.2)

-- without a control socket: turns, and then turns
pub turns_then : {R D : Type 0} {G : Ghosts R} (o m n : List WireEvent → Type 0) (x y z : List WireEvent → LoopState G)
    (a : Option NodeFault) (d e : Option D) → Moves o m (λ es es'. Served (x es) (y es') None) × (d ≡ None) →
    (d ≡ None → Moves m n (λ es es'. Served (y es) (z es') a) × (e ≡ None)) →
    Moves o n (λ es es'. Served (x es) (z es') a) × (e ≡ None)
turns_then o m n x y z a d e (before, none) more = (over_then o m n x y z a before (more none).0, (more none).1)

-- a run between two nodes that are these
pub hosts : {R : Type 0} {G : Ghosts R} (x y s t : Node R G) (w v : List WireEvent) (first last : TurnBuffers) (hears : Bool)
    (a : Option NodeFault) (ended : Ended) → x ≡ s → t ≡ y →
    kept_of first.resender ≡ [] → requests_of first.resender ≡ [] → first.hears_asks ≡ hears →
    Hosted (in_loop x w first) (in_loop y v last) a → HostReports (front (learned_by t)) (applied_of t) a ended →
    Hosts s t w v hears ended
hosts {R} {G} x y s t w v first last hears a ended e f k q h hosted reported = record {
  answered = a;
  buffers = left_in last;
  hosted = subst (λ (p : LoopState G). Hosted p (in_loop t v last) a) (begins x s w first hears e k q h)
      (subst (λ (n : Node R G). Hosted (in_loop x w first) (in_loop n v last) a) (sym f) hosted);
  reported = reported;
}

pub serves : {R : Type 0} {G : Ghosts R} (x y s t : Node R G) (w v : List WireEvent) (first last : TurnBuffers) (hears : Bool)
    (a : Option NodeFault) (ended : Ended) → x ≡ s → t ≡ y →
    kept_of first.resender ≡ [] → requests_of first.resender ≡ [] → first.hears_asks ≡ hears →
    Served (in_loop x w first) (in_loop y v last) a → Reports (front (learned_by t)) (applied_of t) a ended →
    Serves s t w v ended
serves {R} {G} x y s t w v first last hears a ended e f k q h served reported = record {
  answered = a;
  hears = hears;
  buffers = left_in last;
  served = subst (λ (p : LoopState G). Served p (in_loop t v last) a) (begins x s w first hears e k q h)
      (subst (λ (n : Node R G). Served (in_loop x w first) (in_loop n v last) a) (sym f) served);
  reported = reported;
}

-- there is no control socket
pub no_control : {A E : Type 0} (r : Result (Option A) E) (control : Option A) → r ≡ Ok control → r ≡ Ok None → control ≡ None
no_control (Ok d) control is none = cc
no_control (Err e) control is none = absurd (cc)

pub some_control : {A E : Type 0} (r : Result (Option A) E) (e : E) → r ≡ Err e → r ≡ Ok None → ⊥
some_control (Ok d) e is none = cc
some_control (Err f) e is none = cc

-- ---- how it ends

-- a client that ends a run asked for that
pub ending_stops : (b : Bool) (control : Option ControlSocket) → is_ending b control ≡ true → b ≡ true
ending_stops true control e = refl
ending_stops false None e = e
ending_stops false (Some control) e = e

-- all rounds, and the last ones
pub made_all : (b : Bool) (turns waiting : ℕ) (o m n : List TimerEvent → Type 0) → MakesRounds b turns o m →
    WorksOff waiting m n → b ≡ false → MakesTurns turns o n
made_all b turns waiting o m n (k, few, looks) (more, adds, worked) none =
    makes_then turns (looks_in more) o m n (k, few none, looks) (TimerEvent.Ends ∷ more, refl, adds)

pub finished : (b : Bool) (turns waiting : ℕ) (o m n : List TimerEvent → Type 0) → MakesRounds b turns o m →
    WorksOff waiting m n → Finishes b turns waiting o n
finished b turns waiting o m n (k, few, (ts, is, first)) (more, adds, worked) = (
  ts,
  more,
  adds_then o m n ts (TimerEvent.Ends ∷ more) first adds,
  λ none. let f : turns ≤ 65 * k = few none in omega (arith, f, is),
  worked,
)

pub host_reports : (n k : ℕ) (r : Result Bool NodeFault) (ended : Ended) → ended ≡ ended_as n k r → HostReports n k (fault_of r) ended
host_reports n k (Ok false) ended is = inl (inl is)
host_reports n k (Ok true) ended is = inr (inl is)
host_reports n k (Err e) ended is = is

-- nobody asked for the end
pub reports : (n k : ℕ) (r : Result Bool NodeFault) (ended : Ended) → ended ≡ ended_as n k r → IfOk r (λ b. b ≡ false) →
    Reports n k (fault_of r) ended
reports n k (Ok false) ended is none = inl is
reports n k (Ok true) ended is none = absurd (let h : true ≡ false = none in cc)
reports n k (Err e) ended is none = is

-- all turns were made where it ends with them
pub on_front : (A : Type 0) (n k : ℕ) (r : Result Bool NodeFault) (ended : Ended) → ended ≡ ended_as n k r →
    IfOk r (λ b. b ≡ false → A) → OnFront ended A
on_front A n k (Ok false) ended is made = subst (λ (x : Ended). OnFront x A) (sym is) (made refl)
on_front A n k (Ok true) ended is made = subst (λ (x : Ended). OnFront x A) (sym is) tt
on_front A n k (Err e) ended is made = subst (λ (x : Ended). OnFront x A) (sym is) tt

-- where the control socket is missing
pub socketless_reports : (n k : ℕ) (ended : Ended) → IsSocketless ended → HostReports n k None ended
socketless_reports n k ended (inl is) = inr (inr (inl is))
socketless_reports n k ended (inr (inl is)) = inr (inr (inr is))
socketless_reports n k ended (inr (inr is)) = inl (inr (inr is))

pub socketless_front : (A : Type 0) (ended : Ended) → IsSocketless ended → OnFront ended A
socketless_front A ended (inl is) = subst (λ (x : Ended). OnFront x A) (sym is) tt
socketless_front A ended (inr (inl is)) = subst (λ (x : Ended). OnFront x A) (sym is) tt
socketless_front A ended (inr (inr is)) = subst (λ (x : Ended). OnFront x A) (sym is) tt

-- who is heard changes nothing that is shown
pub shown_hearing : (h : Hearing) (s : Seen) (made : Progress) (old new : Counters) → IsShown s made old new →
    IsShown (record s { hearing = h }) made old new
shown_hearing h s made old new i = record {
  up = i.up;
  stood = i.stood;
  outrun = i.outrun;
  large = i.large;
  unsent = i.unsent;
  dropped = i.dropped;
  ignored = i.ignored;
  turns = i.turns;
  ticks = i.ticks;
  peers = i.peers;
  members = i.members;
  clients = i.clients;
  served = i.served;
  refused = i.refused;
  unavailable = i.unavailable;
}
