-- Requests at a control socket, one after another.
use Rattle.std.proofs.Common.{◌≡◌, ◌∙◌, ℕ, zero, suc, inl, inr, ◌<◌, Bool, true, false, List, [], ◌∷◌, Some, None, IfSome, length, get_or, slice_get, sym, ap, subst, refl}
use Rattle.std.proofs.lemmas.Option.{slice_get_read}
use Rattle.http.specs.declared.request.Request.{Request}
use Rattle.http_server.specs.Exchange.{Call, Chain}
use Rattle.http_server.specs.declared.response.Response.{Response}
use Rattle.px_records.specs.declared.records.Records.{Ghosts}
use Rattle.node_requests.specs.Answers.{AnswerValue}
use Rattle.node_requests.specs.Routing.{RoutedValue, Asked, Refused, Unread}
use Rattle.node_requests.specs.declared.handler.RequestHandler.{RequestHandler}
use Rattle.node_requests.specs.declared.request.Request as asked
use Rattle.node_control.specs.inner.Asking.{asked_for}
use Rattle.node_control.specs.inner.Serving.{IsSameService, Serves, ServesOnce, ServesTimes}
use Rattle.node_control.specs.inner.Handling.{AnswersRequest, counted_as, IsHandled, IsKept, IsTurnedAway, HandledAs, HandledIf, PassedOnIf, is_asked, is_served}
use Rattle.node_control.specs.inner.Runs.{AsksWithin, ServesFigures}
use Rattle.node_control.specs.declared.service.HttpService.{HttpService}
use Rattle.node_control.proofs.Asked.{turned, answered, within_then, figures_turned, figures_then, kept_same, kept_then}

away : {R : Type 0} {G : Ghosts R} (c d : HttpService R G) (a : AnswerValue) (r : Response) → IsTurnedAway c d a r → AsksWithin c d
away c d a r t = turned c d t.still t.left

-- what became of one request that was understood
passed_on : {R : Type 0} {G : Ghosts R} (b : Bool) (c d : HttpService R G) (request : asked.Request) (r : Response) →
    PassedOnIf b c d request r → AsksWithin c d
passed_on true c d request r (k, left) = answered c d c.counters request k.answer left k.answers
passed_on false c d request r t = away c d _ r t

-- what is handled as this, and what is handled if it is served
handled_as : {R : Type 0} {G : Ghosts R} (c d : HttpService R G) (v : RoutedValue) (r : Response) → HandledAs c d v r → AsksWithin c d
handled_as c d (Asked v) r (request, same, passed) = passed_on (is_asked c request) c d request r passed
handled_as c d (Refused status) r t = away c d _ r t
handled_as c d (Unread code) r t = away c d _ r t

handled_if : {R : Type 0} {G : Ghosts R} (served : Bool) (c d : HttpService R G) (v : RoutedValue) (r : Response) →
    HandledIf served c d v r → AsksWithin c d
handled_if true c d v r h = handled_as c d v r h
handled_if false c d v r t = away c d _ r t

handled : {R : Type 0} {G : Ghosts R} (c d : HttpService R G) (q : Request (List ℕ)) (r : Response) → IsHandled c d q r → AsksWithin c d
handled c d q r h = handled_if (is_served c q) c d (asked_for q) r h

-- a chain of calls of an HTTP service
pub chained : {R : Type 0} {G : Ghosts R} (answers : HttpService R G → Request (List ℕ) → Response → HttpService R G → Type 0) →
    ((c d : HttpService R G) (q : Request (List ℕ)) (r : Response) → answers c q r d → IsHandled c d q r) →
    (c d : HttpService R G) (calls : List Call) → Chain answers c calls d → AsksWithin c d
chained {R} {G} answers are c d [] e =
    turned c d (ap (λ (k : HttpService R G). k.handler) e) (ap (λ (k : HttpService R G). k.changes_left) e)
chained answers are c d (k ∷ calls) (next, one, rest) =
    within_then c next d (handled c next k.0 k.1 (are c next k.0 k.1 one)) (chained answers are next d calls rest)

-- the same where figures alone are served
pub figures_chained : {R : Type 0} {G : Ghosts R} (answers : HttpService R G → Request (List ℕ) → Response → HttpService R G → Type 0) →
    ((c d : HttpService R G) (q : Request (List ℕ)) (r : Response) → answers c q r d → ServesFigures c d) →
    (c d : HttpService R G) (calls : List Call) → Chain answers c calls d → ServesFigures c d
figures_chained {R} {G} answers are c d [] e =
    figures_turned c d (ap (λ (k : HttpService R G). k.handler) e) (ap (λ (k : HttpService R G). k.is_scraped) e)
figures_chained answers are c d (k ∷ calls) (next, one, rest) =
    figures_then c next d (are c next k.0 k.1 one) (figures_chained answers are next d calls rest)

-- and what the loop reports of the node
pub kept_chained : {R : Type 0} {G : Ghosts R} (answers : HttpService R G → Request (List ℕ) → Response → HttpService R G → Type 0) →
    ((c d : HttpService R G) (q : Request (List ℕ)) (r : Response) → answers c q r d → IsKept c d) →
    (c d : HttpService R G) (calls : List Call) → Chain answers c calls d → IsKept c d
kept_chained {R} {G} answers are c d [] e =
    kept_same c d (ap (λ (k : HttpService R G). k.is_listening) e) (ap (λ (k : HttpService R G). k.counters) e)
kept_chained answers are c d (k ∷ calls) (next, one, rest) =
    kept_then c next d (are c next k.0 k.1 one) (kept_chained answers are next d calls rest)

-- what holds of the one that is at a place
pub at_place : {X : Type 0} (P : X → Type 0) (xs : List X) (i : ℕ) (x : X) → i < length xs → x ≡ get_or xs i x → P x →
    IfSome (slice_get xs i) P
at_place P xs i x l at p = subst (λ o. IfSome o P) (sym (slice_get_read xs (length xs) i x refl l at)) p

pub is_there : {X A : Type 0} (xs : List X) (i : ℕ) (x : X) → i < length xs → x ≡ get_or xs i x → slice_get xs i ≡ None → A
is_there {X} xs i x l at none =
    let some : Some x ≡ None = sym (slice_get_read xs (length xs) i x refl l at) ∙ none in absurd (cc)

-- ---- what clients do, one after the other

pub service_same : {R : Type 0} {G : Ghosts R} (c d : HttpService R G) → d.handler ≡ c.handler → d.counters ≡ c.counters →
    d.is_listening ≡ c.is_listening → IsSameService c d
service_same c d h k l = record { handler = h; counters = k; listening = l }

service_then : {R : Type 0} {G : Ghosts R} (c d e : HttpService R G) → IsSameService c d → IsSameService d e → IsSameService c e
service_then c d e a b =
    record { handler = b.handler ∙ a.handler; counters = b.counters ∙ a.counters; listening = b.listening ∙ a.listening }

pub serves_same : {R : Type 0} {G : Ghosts R} (c d : HttpService R G) → IsSameService c d → Serves c d
serves_same c d a = (zero, a)

pub serves_none : {R : Type 0} {G : Ghosts R} (c d : HttpService R G) → d ≡ c → Serves c d
serves_none {R} {G} c d e = (
  zero,
  service_same c d (ap (λ (k : HttpService R G). k.handler) e)
      (ap (λ (k : HttpService R G). k.counters) e) (ap (λ (k : HttpService R G). k.is_listening) e),
)

pub serves_once : {R : Type 0} {G : Ghosts R} (c y d : HttpService R G) → IsSameService c y → ServesOnce y d → Serves c d
serves_once c y d a b = (suc zero, (c, y, d, service_same c c refl refl refl, a, b, service_same d d refl refl refl))

times_same : {R : Type 0} {G : Ghosts R} (n : ℕ) (c d e : HttpService R G) → ServesTimes n c d → IsSameService d e → ServesTimes n c e
times_same zero c d e a b = service_then c d e a b
times_same (suc n) c d e (x, y, z, a, s, o, t) b = (x, y, z, a, s, o, service_then z d e t b)

times_more : {R : Type 0} {G : Ghosts R} (m n : ℕ) (c d e : HttpService R G) → ServesTimes m c d → ServesTimes n d e → Serves c e
times_more m zero c d e a b = (m, times_same m c d e a b)
times_more m (suc n) c d e a (x, y, z, b, s, o, t) =
    let r = times_more m n c d x a b in (suc r.0, (x, y, z, r.1, s, o, t))

pub serves_then : {R : Type 0} {G : Ghosts R} (c d e : HttpService R G) → Serves c d → Serves d e → Serves c e
serves_then c d e (m, a) (n, b) = times_more m n c d e a b

-- a refusal was counted
pub serves_refusal : {R : Type 0} {G : Ghosts R} (status : ℕ) (c d : HttpService R G) → d.handler ≡ c.handler →
    d.counters ≡ counted_as c.is_scraped status c.counters → d.is_listening ≡ c.is_listening → Serves c d
serves_refusal status c d h k l = serves_once c c d (service_same c c refl refl refl)
    (inr (status, record { handler = h; counters = k; listening = l }))

-- requests were answered over one connection
pub serves_calls : {R : Type 0} {G : Ghosts R} (c y d : HttpService R G) (calls : List Call) → IsSameService c y →
    Chain (λ (s : HttpService R G) q r t. AnswersRequest s q r t) y calls d → Serves c d
serves_calls c y d calls a chain = serves_once c y d a (inl (calls, chain))
