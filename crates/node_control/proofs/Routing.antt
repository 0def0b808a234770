-- What a request that came as HTTP is handled as.
use Rattle.std.proofs.Common.{◌≡◌, ℕ, true, false, List, Result, Ok, Err, refl, sym, subst}
use Rattle.std.specs.Prelude.{OnOk}
use Rattle.http.specs.declared.request.Request as http
use Rattle.http_server.specs.declared.response.Response.{Response}
use Rattle.px_records.specs.declared.records.Records.{Ghosts}
use Rattle.node_requests.specs.Routing.{RoutedValue, Asked, request_value}
use Rattle.node_requests.specs.declared.request.Request.{Request}
use Rattle.node_control.specs.declared.service.HttpService.{HttpService}
use Rattle.node_control.specs.inner.Asking.{asked_for}
use Rattle.node_control.specs.inner.Handling.{IsHandled, IsTurnedAway, HandledAs, HandledIf}
use Rattle.node_control.specs.inner.Handling.{is_served, IsPassedOn, not_found}

-- a request that was understood is handled as what it asks for
pub passed_over : {R T E : Type 0} {G : Ghosts R} (o : Result T E) (c d : HttpService R G) (request : Request) (r : Response)
    (v : RoutedValue) → v ≡ Asked (request_value request) → OnOk o (IsPassedOn c d request r) → OnOk o (HandledAs c d v r)
passed_over (Err e) c d request r v is h = h
passed_over (Ok t) c d request r v is h = subst (λ x. HandledAs c d x r) (sym is) (request, refl, h)

-- what isn't served isn't found
pub unserved : {R T E : Type 0} {G : Ghosts R} (o : Result T E) (c d : HttpService R G) (q : http.Request (List ℕ)) (r : Response) →
    is_served c q ≡ false → IsTurnedAway c d not_found r → OnOk o (IsHandled c d q r)
unserved (Err e) c d q r none turned = tt
unserved (Ok t) c d q r none turned = subst (λ b. HandledIf b c d (asked_for q) r) (sym none) turned

-- what is served is handled as what it asks for
pub served_over : {R T E : Type 0} {G : Ghosts R} (o : Result T E) (c d : HttpService R G) (q : http.Request (List ℕ)) (r : Response)
    (v : RoutedValue) → is_served c q ≡ true → v ≡ asked_for q → OnOk o (HandledAs c d v r) → OnOk o (IsHandled c d q r)
served_over (Err e) c d q r v is asked h = h
served_over (Ok t) c d q r v is asked h =
    subst (λ b. HandledIf b c d (asked_for q) r) (sym is) (subst (λ x. HandledAs c d x r) asked h)
