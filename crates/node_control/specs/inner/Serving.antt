-- What a client's connection has done, and what clients do between two rounds of the node.
use Rattle.std.specs.Prelude.{◌≡◌, ◌⊎◌, ℕ, zero, suc, Bool, List, Option, Some, None}
use Rattle.http_server.specs.Connection.{config_of, history}
use Rattle.http_server.specs.Exchange.{Call, Chain}
use Rattle.http_server.specs.History.{History, IsServed, Rests}
use Rattle.px_records.specs.declared.records.Records.{Ghosts}
use Rattle.node_control.specs.declared.client.Client.{Client}
use Rattle.node_control.specs.declared.control.ControlSocket.{ControlSocket}
use Rattle.node_control.specs.declared.service.HttpService.{HttpService}
use Rattle.node_loop.specs.declared.running.Progress.{Progress}
use Rattle.node_requests.specs.declared.counters.Counters.{Counters}
use Rattle.node_control.specs.inner.Ending.{client_count}
use Rattle.node_control.specs.inner.Handling.{AnswersRequest, counted_as}
use Rattle.node_control.specs.inner.Observing.{AreKept, IsShown, Seen}
use Rattle.pf_node.specs.declared.state.Node.{Node}

-- the requests that came over it, each with its answer, in order
abbrev pub calls_of : Client → List Call
calls_of c = (history c.connection).calls

-- those calls were for what came over it: one for each whole request, in order
abbrev pub HasServed : Client → Type 0
HasServed c =
    (h : History) × (h.calls ≡ calls_of c) × (h.received ≡ (history c.connection).received) ×
    ∥ IsServed (config_of c.connection) h ∥₁ × Rests (config_of c.connection) h

-- nothing is answered: what answers depend on is the same, but for where a request comes from and how many changes may
-- be asked
pub record IsSameService {R : Type 0} {G : Ghosts R} (c d : HttpService R G) : Type 0 where
  pub handler : d.handler ≡ c.handler
  pub counters : d.counters ≡ c.counters
  pub listening : d.is_listening ≡ c.is_listening

-- a connection ended with a refusal of this status, which is counted
pub record CountsRefusal {R : Type 0} {G : Ghosts R} (status : ℕ) (c d : HttpService R G) : Type 0 where
  pub handler : d.handler ≡ c.handler
  pub counters : d.counters ≡ counted_as c.is_scraped status c.counters
  pub listening : d.is_listening ≡ c.is_listening

-- requests were answered that came over one connection, one after the other; or one ended
abbrev pub ServesOnce : {R : Type 0} {G : Ghosts R} → (c d : HttpService R G) → Type 0
ServesOnce {R} {G} c d =
    ((calls : List Call) × Chain (λ (s : HttpService R G) q r t. AnswersRequest s q r t) c calls d) ⊎
    ((status : ℕ) × CountsRefusal status c d)

-- that happened n times, one after the other, and nothing else
abbrev pub ServesTimes : {R : Type 0} {G : Ghosts R} → (n : ℕ) → (c d : HttpService R G) → Type 0
ServesTimes zero c d = IsSameService c d
ServesTimes {R} {G} (suc n) c d = (x : HttpService R G) × (y : HttpService R G) × (z : HttpService R G) ×
    ServesTimes n c x × IsSameService x y × ServesOnce y z × IsSameService z d

abbrev pub Serves : {R : Type 0} {G : Ghosts R} → (c d : HttpService R G) → Type 0
Serves c d = (n : ℕ) × ServesTimes n c d

-- the clients of a control socket, if there is one, were served, whose number is reported; without one nothing was done
abbrev pub ServesAt : {R : Type 0} {G : Ghosts R} → Option ControlSocket → (c d : HttpService R G) → Type 0
ServesAt None c d = d ≡ c
ServesAt (Some control) c d = Serves (record c { counters = record c.counters { clients = client_count control } }) d

-- What a pass leaves: what was seen of the node behind its round is reported, and requests were answered over that, over
-- the node as the round left it and with the numbers that were accepted before, and over nothing else.
abbrev pub AnswersOver : {R : Type 0} {G : Ghosts R} → Option ControlSocket → Seen → (made : Progress) → (listens : Bool) →
    (c d : HttpService R G) → Type 0
AnswersOver {R} {G} control s made listens c d = (node : Node R G) × (counters : Counters) ×
    IsShown s made c.counters counters × AreKept counters d.counters ×
    ServesAt control (record c {
      handler = record c.handler { node = node };
      counters = counters;
      is_listening = listens;
    }) d
