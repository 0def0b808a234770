-- What requests ask of the node.
use Rattle.std.proofs.Common.{◌≡◌, ◌⊎◌, ◌≤◌, ◌+◌, ℕ, zero, suc, true, false, Bool, refl, sym, ap, subst, ◌∙◌, inl, inr, arith}
use Rattle.std.specs.Prelude.{if◌then◌else◌}
use Rattle.px_records.specs.declared.records.Records.{Ghosts}
use Rattle.px_replica.specs.declared.state.Replica.{Replica}
use Rattle.pf_entry.specs.Entry as entries
use Rattle.pf_node.specs.Nodes.{replica_of, applied_of}
use Rattle.pf_node.specs.declared.state.Node.{Node}
use Rattle.node_loop.specs.Hosting.{AskedOnce, AskedTimes, AsksUpTo}
use Rattle.node_requests.specs.Answers.{AnswerValue}
use Rattle.node_requests.specs.Changing.{bytes_of, ChangesIf, has_position}
use Rattle.node_requests.specs.Requests.{Answers}
use Rattle.node_requests.specs.declared.changing.Changed.{Changed}
use Rattle.node_requests.specs.declared.handler.RequestHandler.{RequestHandler}
use Rattle.node_requests.specs.declared.request.Request.{Request}
use Rattle.node_requests.specs.declared.request.Request.TheVariants as request
use Rattle.node_requests.specs.declared.counters.Counters.{Counters}
use Rattle.node_control.specs.inner.Handling.{is_change, IsKept}
use Rattle.node_control.specs.inner.Observing.{AreKept}
use Rattle.node_control.specs.inner.Runs.{AsksWithin, ServesFigures}
use Rattle.node_control.specs.declared.service.HttpService.{HttpService}

-- Nothing was asked of the node, or a command was, once; what is applied stays.
record Asked {R : Type 0} {G : Ghosts R} (s t : Node R G) : Type 0 where
  so : (replica_of t ≡ replica_of s) ⊎ AskedOnce (replica_of s) (replica_of t)
  applied : applied_of t ≡ applied_of s

same : {R : Type 0} {G : Ghosts R} (s t : Node R G) → t ≡ s → Asked s t
same {R} {G} s t e = record {
  so = inl (ap (λ (n : Node R G). replica_of n) e);
  applied = ap (λ (n : Node R G). applied_of n) e;
}

changed_if : {R : Type 0} {G : Ghosts R} (s t : Node R G) (command : entries.Command) (changed : Changed) (b : Bool) →
    ChangesIf b s t command changed → Asked s t
changed_if s t command changed true once =
    record { so = inr (bytes_of command, once.fault, once.call); applied = once.applied }
changed_if s t command changed false still = same s t still.0

answered_so : {R : Type 0} {G : Ghosts R} (s t : RequestHandler R G) (counted : Counters) (q : Request) (a : AnswerValue) →
    Answers s t counted q a → Asked s.node t.node
answered_so s t counted (request.Change command) a c = changed_if s.node t.node _ c.changed (has_position s.node) c.changes
answered_so {R} {G} s t counted (request.Read at r) a c = same s.node t.node (ap (λ (d : RequestHandler R G). d.node) c.0)
answered_so {R} {G} s t counted request.Stop a c = same s.node t.node (ap (λ (d : RequestHandler R G). d.node) c.0)

-- a change that was answered
asked_so : {R : Type 0} {G : Ghosts R} (c d : HttpService R G) → c.changes_left ≡ suc d.changes_left →
    Asked c.handler.node d.handler.node → AsksWithin c d
asked_so c d less a = elim a.so [
  | inl same ↦ record { asked = zero; fits = omega (arith, less); times = same }
  | inr once ↦ record { asked = suc zero; fits = omega (arith, less); times = (replica_of c.handler.node, refl, once) }
]

none_asked : {R : Type 0} {G : Ghosts R} (c d : HttpService R G) → d.handler.node ≡ c.handler.node → c.changes_left ≡ d.changes_left →
    AsksWithin c d
none_asked {R} {G} c d same left =
    record { asked = zero; fits = omega (arith, left); times = ap (λ (n : Node R G). replica_of n) same }

pub turned : {R : Type 0} {G : Ghosts R} (c d : HttpService R G) → d.handler ≡ c.handler → d.changes_left ≡ c.changes_left → AsksWithin c d
turned {R} {G} c d same left = none_asked c d (ap (λ (h : RequestHandler R G). h.node) same) (sym left)

-- a request that was answered
pub answered : {R : Type 0} {G : Ghosts R} (c d : HttpService R G) (counted : Counters) (q : Request) (a : AnswerValue) →
    c.changes_left ≡ (if is_change q then suc d.changes_left else d.changes_left) → Answers c.handler d.handler counted q a → AsksWithin c d
answered c d counted (request.Change command) a left k =
    asked_so c d left (answered_so c.handler d.handler counted (request.Change command) a k)
answered {R} {G} c d counted (request.Read at r) a left k =
    none_asked c d (ap (λ (h : RequestHandler R G). h.node) k.0) left
answered {R} {G} c d counted request.Stop a left k =
    none_asked c d (ap (λ (h : RequestHandler R G). h.node) k.0) left

-- requests one after another
times_then : {R : Type 0} {G : Ghosts R} (m n : ℕ) (s t u : Replica R G) → AskedTimes m s t → AskedTimes n t u →
    (k : ℕ) × (k ≡ n + m) × AskedTimes k s u
times_then {R} {G} m zero s t u a e = (m, omega arith, subst (λ (r : Replica R G). AskedTimes m s r) (sym e) a)
times_then m (suc n) s t u a (w, b, once) =
    let c = times_then m n s t w a b in
    let is : c.0 ≡ n + m = c.1 in
    (suc c.0, omega (arith, is), (w, c.2, once))

pub within_then : {R : Type 0} {G : Ghosts R} (c d e : HttpService R G) → AsksWithin c d → AsksWithin d e → AsksWithin c e
within_then c d e a b =
    let r = times_then a.asked b.asked (replica_of c.handler.node) (replica_of d.handler.node) (replica_of e.handler.node) a.times b.times in
    let is : r.0 ≡ b.asked + a.asked = r.1 in
    record { asked = r.0; fits = omega (arith, is, a.fits, b.fits); times = r.2 }

-- where what is counted aside was noted before
pub from_here : {R : Type 0} {G : Ghosts R} (c d e : HttpService R G) → d.handler ≡ c.handler → d.changes_left ≡ c.changes_left →
    AsksWithin d e → AsksWithin c e
from_here c d e same left w = within_then c d e (turned c d same left) w

-- from a round on
pub up_to : {R : Type 0} {G : Ghosts R} (c d : HttpService R G) → AsksWithin c d → AsksUpTo c.changes_left c.handler.node d.handler.node
up_to c d a = (a.asked, omega (arith, a.fits), a.times)

-- ---- where figures alone are served

pub figures_turned : {R : Type 0} {G : Ghosts R} (c d : HttpService R G) → d.handler ≡ c.handler → d.is_scraped ≡ c.is_scraped → ServesFigures c d
figures_turned c d same scraped = record { still = λ h. same; scraped = scraped }

pub figures_then : {R : Type 0} {G : Ghosts R} (c d e : HttpService R G) → ServesFigures c d → ServesFigures d e → ServesFigures c e
figures_then c d e a b =
    record { still = λ h. b.still (a.scraped ∙ h) ∙ a.still h; scraped = b.scraped ∙ a.scraped }

-- ---- what the loop reports of the node

same_counters : (t u : Counters) → u ≡ t → AreKept t u
same_counters t u e = record {
  up = ap (λ (k : Counters). k.up) e;
  peers = ap (λ (k : Counters). k.peers) e;
  stood = ap (λ (k : Counters). k.stood) e;
  outrun = ap (λ (k : Counters). k.outrun) e;
  large = ap (λ (k : Counters). k.large) e;
  members = ap (λ (k : Counters). k.members) e;
  unsent = ap (λ (k : Counters). k.unsent) e;
  dropped = ap (λ (k : Counters). k.dropped) e;
  ignored = ap (λ (k : Counters). k.ignored) e;
  turns = ap (λ (k : Counters). k.turns) e;
  ticks = ap (λ (k : Counters). k.ticks) e;
}

counted_then : (s t u : Counters) → AreKept s t → AreKept t u → AreKept s u
counted_then s t u a b = record {
  up = b.up ∙ a.up;
  peers = b.peers ∙ a.peers;
  stood = b.stood ∙ a.stood;
  outrun = b.outrun ∙ a.outrun;
  large = b.large ∙ a.large;
  members = b.members ∙ a.members;
  unsent = b.unsent ∙ a.unsent;
  dropped = b.dropped ∙ a.dropped;
  ignored = b.ignored ∙ a.ignored;
  turns = b.turns ∙ a.turns;
  ticks = b.ticks ∙ a.ticks;
}

pub kept_same : {R : Type 0} {G : Ghosts R} (c d : HttpService R G) → d.is_listening ≡ c.is_listening → d.counters ≡ c.counters → IsKept c d
kept_same c d l e = record { listening = l; counted = same_counters c.counters d.counters e }

pub kept_then : {R : Type 0} {G : Ghosts R} (c d e : HttpService R G) → IsKept c d → IsKept d e → IsKept c e
kept_then c d e a b = record {
  listening = b.listening ∙ a.listening;
  counted = counted_then c.counters d.counters e.counters a.counted b.counted;
}
