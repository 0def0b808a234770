-- What becomes of a request that came as HTTP.
use Rattle.std.specs.Prelude.{◌≡◌, ◌⊎◌, ◌&&◌, ◌||◌, ◌==◌, ◌+◌, ℕ, suc, nat_lt, Bool, true, false, not, List, [], ◌∷◌, ◌++◌, codes}
use Rattle.std.specs.Prelude.{if◌then◌else◌}
use Rattle.http.specs.declared.request.Request as http
use Rattle.http_server.specs.declared.response.Response.{Response}
use Rattle.px_records.specs.declared.records.Records.{Ghosts}
use Rattle.node_requests.specs.declared.handler.RequestHandler.{RequestHandler}
use Rattle.node_requests.specs.declared.request.Read.{Read}
use Rattle.node_requests.specs.declared.request.Read.TheVariants as read
use Rattle.node_requests.specs.declared.request.Request.{Request}
use Rattle.node_requests.specs.declared.request.Request.TheVariants as request
use Rattle.node_requests.specs.declared.counters.Counters.{Counters}
use Rattle.node_requests.specs.Answers.{AnswerValue, refused}
use Rattle.node_requests.specs.Requests.{Answers}
use Rattle.node_requests.specs.Routing.{RoutedValue, Asked, Refused, Unread, request_value}
use Rattle.node_control.specs.declared.service.HttpService.{HttpService}
use Rattle.node_control.specs.inner.Asking.{path_of, asked_for, is_of_figures}
use Rattle.node_control.specs.inner.Observing.{AreKept}
use Rattle.node_control.specs.inner.Rows.{up_to_max}

-- a response has an answer's status and body; or it is 503 with an empty body, if it is out of memory for that
abbrev pub Carries : Response → AnswerValue → Type 0
Carries r a = ((r.status ≡ a.code) × (r.body.items ≡ a.body)) ⊎ ((r.status ≡ 503) × (r.body.items ≡ []))

-- the request handler answered the request, over what was counted, and the response has that answer
pub record IsAnswered {R : Type 0} {G : Ghosts R} (s t : RequestHandler R G) (counted : Counters) (request : Request)
    (r : Response) : Type 0 where
  pub answer : AnswerValue
  pub answers : Answers s t counted request answer
  pub carries : Carries r answer

-- nothing was asked and nothing changes; the response has this answer
pub record IsTurnedAway {R : Type 0} {G : Ghosts R} (c d : HttpService R G) (a : AnswerValue) (r : Response) :
    Type 0 where
  pub still : d.handler ≡ c.handler
  pub left : d.changes_left ≡ c.changes_left
  pub carries : Carries r a

-- clients change nothing of what the loop reports of the node
pub record IsKept {R : Type 0} {G : Ghosts R} (c d : HttpService R G) : Type 0 where
  pub listening : d.is_listening ≡ c.is_listening
  pub counted : AreKept c.counters d.counters

-- an answer with this status is counted by its class, but not where figures alone are served
abbrev pub counted_as : (is_scraped : Bool) → (status : ℕ) → Counters → Counters
counted_as true status c = c
counted_as false status c =
    if nat_lt status 400 then record c { served = up_to_max (c.served + 1) }
    else if nat_lt status 500 then record c { refused = up_to_max (c.refused + 1) }
    else record c { unavailable = up_to_max (c.unavailable + 1) }

-- ---- who is answered

abbrev pub is_of_health : Read → Bool
is_of_health read.Health = true
is_of_health read.Ready = true
is_of_health other = false

-- what is answered also where there are as many clients as may be
abbrev pub is_urgent : Request → Bool
is_urgent (request.Change command) = false
is_urgent (request.Read at r) = is_of_health r
is_urgent request.Stop = true

abbrev pub is_change : Request → Bool
is_change (request.Change command) = true
is_change (request.Read at r) = false
is_change request.Stop = false

abbrev pub is_read : Request → Bool
is_read (request.Change command) = false
is_read (request.Read at r) = true
is_read request.Stop = false

-- whether there is a connection for the request: where all are taken, there is one for what is urgent
abbrev pub is_seated : {R : Type 0} {G : Ghosts R} → HttpService R G → Request → Bool
is_seated c request = not c.is_spare || is_urgent request

-- Whether a request that was understood is answered: where there is a connection for it; a change unless the node is
-- catching up, or as many were asked since its last round as may be; and where figures alone are served, what only
-- reads.
abbrev pub is_asked : {R : Type 0} {G : Ghosts R} → HttpService R G → Request → Bool
is_asked c request =
    is_seated c request &&
    (if c.is_scraped then is_read request else not ((c.is_listening || (c.changes_left == 0)) && is_change request))

-- what a request is answered that is to come again, and one that isn't served there
abbrev pub waiting : AnswerValue
waiting = record { code = 503; body = codes "waiting" ++ 10 ∷ [] }

abbrev pub no_text : (status : ℕ) → AnswerValue
no_text status = record { code = status; body = [] }

abbrev pub not_found : AnswerValue
not_found = no_text 404

-- what it is answered else
abbrev pub away : {R : Type 0} {G : Ghosts R} → HttpService R G → Request → AnswerValue
away c request = if c.is_scraped && is_seated c request then not_found else waiting

-- a request that was understood is answered, or is answered so and nothing changes
abbrev pub PassedOnIf : {R : Type 0} {G : Ghosts R} → Bool → (c d : HttpService R G) → Request → Response → Type 0
PassedOnIf true c d request r =
    IsAnswered c.handler d.handler c.counters request r ×
    (c.changes_left ≡ (if is_change request then suc d.changes_left else d.changes_left))
PassedOnIf false c d request r = IsTurnedAway c d (away c request) r

abbrev pub IsPassedOn : {R : Type 0} {G : Ghosts R} → (c d : HttpService R G) → Request → Response → Type 0
IsPassedOn c d request r = PassedOnIf (is_asked c request) c d request r

-- ---- requests as HTTP has them

-- the request that is asked for is handled, and no other; what isn't served, or isn't understood, is answered by its
-- status or the line of its refusal, and nothing changes
abbrev pub HandledAs : {R : Type 0} {G : Ghosts R} → (c d : HttpService R G) → RoutedValue → Response → Type 0
HandledAs c d (Asked v) r = (request : Request) × (request_value request ≡ v) × IsPassedOn c d request r
HandledAs c d (Refused status) r = IsTurnedAway c d (no_text status) r
HandledAs c d (Unread code) r = IsTurnedAway c d (refused code 0) r

-- where figures alone are served, another path isn't found
abbrev pub HandledIf : {R : Type 0} {G : Ghosts R} → (served : Bool) → (c d : HttpService R G) → RoutedValue →
    Response → Type 0
HandledIf true c d asked r = HandledAs c d asked r
HandledIf false c d asked r = IsTurnedAway c d not_found r

abbrev pub is_served : {R : Type 0} {G : Ghosts R} → HttpService R G → http.Request (List ℕ) → Bool
is_served c q = not c.is_scraped || is_of_figures (path_of q)

-- what a request asks for is handled, and nothing else
abbrev pub IsHandled : {R : Type 0} {G : Ghosts R} → (c d : HttpService R G) → http.Request (List ℕ) → Response → Type 0
IsHandled c d q r = HandledIf (is_served c q) c d (asked_for q) r

-- The request is handled, and its answer is counted; where figures alone are served, the node and what was asked of it
-- stay as they were.
abbrev pub AnswersRequest : {R : Type 0} {G : Ghosts R} → (c : HttpService R G) → http.Request (List ℕ) → Response →
    (d : HttpService R G) → Type 0
AnswersRequest c q r d = IsHandled c d q r × (c.is_scraped ≡ true → d.handler ≡ c.handler) ×
    (d.is_scraped ≡ c.is_scraped) × IsKept c d × (d.counters ≡ counted_as c.is_scraped r.status c.counters)
