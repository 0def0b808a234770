-- Which requests change something: what a method, a path, a query and a body ask for, by cases.
use Rattle.std.proofs.Common.{◌≡◌, ◌∙◌, ℕ, Bool, true, false, List, [], ◌∷◌, refl, sym, ap, subst, Option, Some, None}
use Rattle.std.proofs.Common.{◌⊎◌, ◌&&◌, ◌||◌, inl, inr, Result, Ok, Err}
use Rattle.std.specs.Prelude.{codes, length, nat_lt, nat_le, if◌then◌else◌, ◌↔◌}
use Rattle.std.specs.Str.{bytes_eq}
use Rattle.std.specs.List.{before_first, after_first, list_any}
use Rattle.std.proofs.Common.{true≢false}
use Rattle.std.proofs.lemmas.Slice.Eq.{bytes_eq-Decides}
use Rattle.clap.specs.Words.{Text, Row, first_of}
use Rattle.pf_addr.specs.declared.fault.AddrFault.TheVariants.{BadNumber, BadShape, BadLength}
use Rattle.pf_entry.specs.Entry.{Command, Entry}
use Rattle.pf_entry.specs.Reading.{reading}
use Rattle.pf_arguments.specs.Asked.{Asked as Answer, ActionValue, Change, CheckOnly, ShowRules, ShowTables, ShowAnchors, TableShow, TableTest, asked, given_in}
use Rattle.pf_arguments.specs.declared.fault.CommandFault.TheVariants.{Memory, Usage, BadPath, BadAddress, TooLong}
use Rattle.pf_scripts.specs.Ctl.{numbered, asked_at as action_at, is_standard, rows_in}
use Rattle.pf_scripts.specs.Lines.{words_in}
use Rattle.pf_scripts.specs.WordsRead.{change_of as command_of, change_in}
use Rattle.node_requests.specs.declared.target.Target.{Target}
use Rattle.node_requests.specs.declared.target.Target.TheVariants as to
use Rattle.node_requests.specs.Queries.{parameters, are_parameters}
use Rattle.node_requests.specs.Targets.{plain_target, method_of}
use Rattle.node_requests.specs.declared.routing.TheConstants.{PACKETS_MAX}
use Rattle.node_requests.specs.Routing.{RoutedValue, Asked, Refused, Unread, Changes, Reads, Stops, is_newline}
use Rattle.node_requests.specs.Routing.{changes_if, change_of, change_asked, change_by, entry_asked, showing, on_table, looked_up, lists, lists_if, test_of, target_asked}
use Rattle.node_requests.specs.Routing.{asked_by, request_number}
use Rattle.node_requests.specs.Routing.{reads, Verdicts, RequestStatus, asked_at, status_for, behind, routed_behind, routed, lines_in}
use Rattle.node_requests.specs.Answers.{status_of}
use Rattle.node_requests.specs.Posting.{PostsArguments, PostsEntry, PostsChange, PostsStop, refused_with, is_of_clients}

-- ---- what is refused

-- a refusal with a status of clients, or none
abbrev is_fair : {X : Type 0} → Result X ℕ → Bool
is_fair (Ok x) = true
is_fair (Err code) = is_of_clients (status_of code)

numbered_fair : (a : Answer) → is_fair (numbered a) ≡ true
numbered_fair (Ok action) = refl
numbered_fair (Err Memory) = refl
numbered_fair (Err Usage) = refl
numbered_fair (Err BadPath) = refl
numbered_fair (Err (BadAddress BadNumber)) = refl
numbered_fair (Err (BadAddress BadShape)) = refl
numbered_fair (Err (BadAddress BadLength)) = refl
numbered_fair (Err TooLong) = refl

fair_if : {X : Type 0} (b : Bool) (x y : Result X ℕ) → is_fair x ≡ true → is_fair y ≡ true → is_fair (if b then x else y) ≡ true
fair_if true x y h k = h
fair_if false x y h k = k

action_fair : (text : List ℕ) (o : Option (List Row)) → is_fair (action_at text o) ≡ true
action_fair text None = refl
action_fair text (Some rows) =
    fair_if (is_standard (first_of (codes "file") rows)) (numbered (asked (given_in rows) text)) (Err 40)
    (numbered_fair (asked (given_in rows) text)) refl

command_fair : (r : Result ActionValue ℕ) → is_fair r ≡ true → is_fair (command_of r) ≡ true
command_fair (Err code) h = h
command_fair (Ok (Change command)) h = refl
command_fair (Ok (CheckOnly p)) h = refl
command_fair (Ok (ShowRules p)) h = refl
command_fair (Ok (ShowTables p)) h = refl
command_fair (Ok ShowAnchors) h = refl
command_fair (Ok (TableShow p t)) h = refl
command_fair (Ok (TableTest p t list)) h = refl

change_fair : (words : List Text) (text : List ℕ) → is_fair (change_in words text) ≡ true
change_fair words text = command_fair (action_at text (rows_in words)) (action_fair text (rows_in words))

-- ---- what changes nothing

-- a read, or a refusal with a status of clients
abbrev still : RoutedValue → Bool
still (Asked (Changes command)) = false
still (Asked (Reads at r)) = true
still (Asked Stops) = false
still (Refused status) = is_of_clients status
still (Unread code) = is_of_clients (status_of code)

still_if : (b : Bool) (x y : RoutedValue) → still x ≡ true → still y ≡ true → still (if b then x else y) ≡ true
still_if true x y h k = h
still_if false x y h k = k

-- 405, 400 or this
guarded : (b c : Bool) (v : RoutedValue) → still v ≡ true → still (if b then (if c then v else Refused 400) else Refused 405) ≡ true
guarded b c v h = still_if b (if c then v else Refused 400) (Refused 405) (still_if c v (Refused 400) h refl) refl

-- what is asked at a path, its method and its parameters being right
plain : (m q b : List ℕ) (j : Bool) (t : Target) → still (asked_at t (parameters q) b j) ≡ true → still (asked_by m (Some t) q b j) ≡ true
plain m q b j t h = guarded (bytes_eq m (method_of t)) (are_parameters t (parameters q)) (asked_at t (parameters q) b j) h

listings_if : (given : List (Text × Text)) (r : Result ActionValue ℕ) → is_fair r ≡ true → still (lists_if given r) ≡ true
listings_if given (Ok action) h = refl
listings_if given (Err code) h = h

listings : (given : List (Text × Text)) (a : Answer) → still (lists given a) ≡ true
listings given a = listings_if given (numbered a) (numbered_fair a)

tests : (given : List (Text × Text)) (o : Option (List Text)) → still (test_of given o) ≡ true
tests given None = refl
tests given (Some packets) =
    still_if (nat_lt 0 (length packets) && nat_le (length packets) PACKETS_MAX) (reads given (Verdicts packets)) (Unread 40) refl refl

request_statuses : (o : Option (ℕ × ℕ)) (method query : List ℕ) → still (status_for o method query) ≡ true
request_statuses None method query = refl
request_statuses (Some r) method query =
    guarded (bytes_eq method (codes "GET")) (are_parameters to.Requests (parameters query)) (reads (parameters query) (RequestStatus r.0 r.1)) refl

-- ---- paths

abbrev is_changes : Option Target → Bool
is_changes None = false
is_changes (Some to.Changes) = true
is_changes (Some to.Entry) = false
is_changes (Some to.Requests) = false
is_changes (Some to.Rules) = false
is_changes (Some to.Tables) = false
is_changes (Some to.Anchors) = false
is_changes (Some to.Table) = false
is_changes (Some to.TableTest) = false
is_changes (Some to.Test) = false
is_changes (Some to.Log) = false
is_changes (Some to.Entries) = false
is_changes (Some to.Status) = false
is_changes (Some to.Health) = false
is_changes (Some to.Ready) = false
is_changes (Some to.Metrics) = false
is_changes (Some to.Stop) = false

abbrev is_stop : Option Target → Bool
is_stop None = false
is_stop (Some to.Changes) = false
is_stop (Some to.Entry) = false
is_stop (Some to.Requests) = false
is_stop (Some to.Rules) = false
is_stop (Some to.Tables) = false
is_stop (Some to.Anchors) = false
is_stop (Some to.Table) = false
is_stop (Some to.TableTest) = false
is_stop (Some to.Test) = false
is_stop (Some to.Log) = false
is_stop (Some to.Entries) = false
is_stop (Some to.Status) = false
is_stop (Some to.Health) = false
is_stop (Some to.Ready) = false
is_stop (Some to.Metrics) = false
is_stop (Some to.Stop) = true

abbrev is_entry : Option Target → Bool
is_entry None = false
is_entry (Some to.Changes) = false
is_entry (Some to.Entry) = true
is_entry (Some to.Requests) = false
is_entry (Some to.Rules) = false
is_entry (Some to.Tables) = false
is_entry (Some to.Anchors) = false
is_entry (Some to.Table) = false
is_entry (Some to.TableTest) = false
is_entry (Some to.Test) = false
is_entry (Some to.Log) = false
is_entry (Some to.Entries) = false
is_entry (Some to.Status) = false
is_entry (Some to.Health) = false
is_entry (Some to.Ready) = false
is_entry (Some to.Metrics) = false
is_entry (Some to.Stop) = false

-- the first that passes its test
abbrev picked : List (Bool × Target) → Option Target
picked [] = None
picked (x ∷ xs) = if x.0 then Some x.1 else picked xs

-- the paths, each with whether it is this one
abbrev tests_of : (path : List ℕ) → List (Bool × Target)
tests_of path =
    (bytes_eq path (codes "/v1/changes"), to.Changes)
    ∷ (bytes_eq path (codes "/v1/entry"), to.Entry)
    ∷ (bytes_eq path (codes "/v1/rules"), to.Rules)
    ∷ (bytes_eq path (codes "/v1/tables"), to.Tables)
    ∷ (bytes_eq path (codes "/v1/anchors"), to.Anchors)
    ∷ (bytes_eq path (codes "/v1/table"), to.Table)
    ∷ (bytes_eq path (codes "/v1/table-test"), to.TableTest)
    ∷ (bytes_eq path (codes "/v1/test"), to.Test)
    ∷ (bytes_eq path (codes "/v1/log"), to.Log)
    ∷ (bytes_eq path (codes "/v1/entries"), to.Entries)
    ∷ (bytes_eq path (codes "/v1/status"), to.Status)
    ∷ (bytes_eq path (codes "/healthz"), to.Health)
    ∷ (bytes_eq path (codes "/readyz"), to.Ready)
    ∷ (bytes_eq path (codes "/metrics"), to.Metrics)
    ∷ (bytes_eq path (codes "/v1/stop"), to.Stop)
    ∷ []

or_right : (a b : Bool) → b ≡ true → a || b ≡ true
or_right true b h = refl
or_right false b h = h

or_none : (b : Bool) → b || false ≡ true → b ≡ true
or_none true h = refl
or_none false h = h

-- what is picked is there, and passes
found : (p : Option Target → Bool) (xs : List (Bool × Target)) → p None ≡ false → p (picked xs) ≡ true →
    list_any (λ (x : Bool × Target). p (Some x.1) && x.0) xs ≡ true
found p [] n h = absurd (true≢false (sym h ∙ n))
found p ((true, t) ∷ xs) n h = ap (λ (q : Bool). (q && true) || list_any (λ (x : Bool × Target). p (Some x.1) && x.0) xs) h
found p ((false, t) ∷ xs) n h = or_right (p (Some t) && false) _ (found p xs n h)

at_changes : (path : List ℕ) → is_changes (plain_target path) ≡ true → path ≡ codes "/v1/changes"
at_changes path h = (bytes_eq-Decides path (codes "/v1/changes")).0 (or_none _ (found is_changes (tests_of path) refl h))

at_entry : (path : List ℕ) → is_entry (plain_target path) ≡ true → path ≡ codes "/v1/entry"
at_entry path h = (bytes_eq-Decides path (codes "/v1/entry")).0 (or_none _ (found is_entry (tests_of path) refl h))

at_stop : (path : List ℕ) → is_stop (plain_target path) ≡ true → path ≡ codes "/v1/stop"
at_stop path h = (bytes_eq-Decides path (codes "/v1/stop")).0 (or_none _ (found is_stop (tests_of path) refl h))

-- ---- all requests

abbrev Post : (at : List ℕ) → (m p q : List ℕ) → Type 0
Post at m p q = (m ≡ codes "POST") × (p ≡ at) × (parameters q ≡ [])

-- nothing is changed, or it is a change, as arguments or as an entry, or an end
abbrev Outcome : (m p q b : List ℕ) → RoutedValue → Type 0
Outcome m p q b v = (still v ≡ true) ⊎ ((Post (codes "/v1/changes") m p q × (v ≡ change_asked b))
    ⊎ ((Post (codes "/v1/entry") m p q × (v ≡ entry_asked b)) ⊎ (Post (codes "/v1/stop") m p q × (v ≡ Asked Stops))))

none_for_changes : (ps : List (Text × Text)) → are_parameters to.Changes ps ≡ true → ps ≡ []
none_for_changes [] e = refl
none_for_changes (p ∷ ps) e = cc

none_for_entry : (ps : List (Text × Text)) → are_parameters to.Entry ps ≡ true → ps ≡ []
none_for_entry [] e = refl
none_for_entry (p ∷ ps) e = cc

none_for_stop : (ps : List (Text × Text)) → are_parameters to.Stop ps ≡ true → ps ≡ []
none_for_stop [] e = refl
none_for_stop (p ∷ ps) e = cc

changes : (m p q b : List ℕ) (j : Bool) → p ≡ codes "/v1/changes" → Outcome m p q b (asked_by m (Some to.Changes) q b j)
changes m p q b j at =
    (elim (bytes_eq m (codes "POST")) as (λ x. bytes_eq m (codes "POST") ≡ x → Outcome m p q b (if x then target_asked to.Changes q b j else Refused 405)) [
      | true ↦ λ is. (elim (are_parameters to.Changes (parameters q)) as (λ y. are_parameters to.Changes (parameters q) ≡ y → Outcome m p q b (if y then change_asked b else Refused 400)) [
        | true ↦ λ bare. inr (inl (((bytes_eq-Decides m (codes "POST")).0 is, at, none_for_changes (parameters q) bare), refl))
        | false ↦ λ bare. inl refl
      ]) refl
      | false ↦ λ is. inl refl
    ]) refl

entries : (m p q b : List ℕ) (j : Bool) → p ≡ codes "/v1/entry" → Outcome m p q b (asked_by m (Some to.Entry) q b j)
entries m p q b j at =
    (elim (bytes_eq m (codes "POST")) as (λ x. bytes_eq m (codes "POST") ≡ x → Outcome m p q b (if x then target_asked to.Entry q b j else Refused 405)) [
      | true ↦ λ is. (elim (are_parameters to.Entry (parameters q)) as (λ y. are_parameters to.Entry (parameters q) ≡ y → Outcome m p q b (if y then entry_asked b else Refused 400)) [
        | true ↦ λ bare. inr (inr (inl (((bytes_eq-Decides m (codes "POST")).0 is, at, none_for_entry (parameters q) bare), refl)))
        | false ↦ λ bare. inl refl
      ]) refl
      | false ↦ λ is. inl refl
    ]) refl

stops : (m p q b : List ℕ) (j : Bool) → p ≡ codes "/v1/stop" → Outcome m p q b (asked_by m (Some to.Stop) q b j)
stops m p q b j at =
    (elim (bytes_eq m (codes "POST")) as (λ x. bytes_eq m (codes "POST") ≡ x → Outcome m p q b (if x then target_asked to.Stop q b j else Refused 405)) [
      | true ↦ λ is. (elim (are_parameters to.Stop (parameters q)) as (λ y. are_parameters to.Stop (parameters q) ≡ y → Outcome m p q b (if y then Asked Stops else Refused 400)) [
        | true ↦ λ bare. inr (inr (inr (((bytes_eq-Decides m (codes "POST")).0 is, at, none_for_stop (parameters q) bare), refl)))
        | false ↦ λ bare. inl refl
      ]) refl
      | false ↦ λ is. inl refl
    ]) refl

at_target : (m p q b : List ℕ) (j : Bool) (t : Option Target) → plain_target p ≡ t → Outcome m p q b (asked_by m t q b j)
at_target m p q b j None e = inl refl
at_target m p q b j (Some to.Changes) e = changes m p q b j (at_changes p (ap is_changes e))
at_target m p q b j (Some to.Entry) e = entries m p q b j (at_entry p (ap is_entry e))
at_target m p q b j (Some to.Requests) e = inl (plain m q b j to.Requests refl)
at_target m p q b j (Some to.Rules) e = inl (plain m q b j to.Rules (listings (parameters q) (asked (showing (parameters q) (codes "rules")) [])))
at_target m p q b j (Some to.Tables) e = inl (plain m q b j to.Tables (listings (parameters q) (asked (showing (parameters q) (codes "Tables")) [])))
at_target m p q b j (Some to.Anchors) e = inl (plain m q b j to.Anchors refl)
at_target m p q b j (Some to.Table) e = inl (plain m q b j to.Table (listings (parameters q) (asked (on_table (parameters q) (codes "show") []) [])))
at_target m p q b j (Some to.TableTest) e = inl (plain m q b j to.TableTest (listings (parameters q) (looked_up (parameters q) (lines_in b))))
at_target m p q b j (Some to.Test) e = inl (plain m q b j to.Test (tests (parameters q) (lines_in b)))
at_target m p q b j (Some to.Log) e = inl (plain m q b j to.Log refl)
at_target m p q b j (Some to.Entries) e = inl (plain m q b j to.Entries refl)
at_target m p q b j (Some to.Status) e = inl (plain m q b j to.Status refl)
at_target m p q b j (Some to.Health) e = inl (plain m q b j to.Health refl)
at_target m p q b j (Some to.Ready) e = inl (plain m q b j to.Ready refl)
at_target m p q b j (Some to.Metrics) e = inl (plain m q b j to.Metrics refl)
at_target m p q b j (Some to.Stop) e = stops m p q b j (at_stop p (ap is_stop e))

by_front : (m p q b : List ℕ) (j : Bool) (o : Option Text) → Outcome m p q b (routed_behind o m p q b j)
by_front m p q b j None = at_target m p q b j (plain_target p) refl
by_front m p q b j (Some name) = inl (request_statuses (request_number name) m q)

outcome : (m p q b : List ℕ) (j : Bool) → Outcome m p q b (routed m p q b j)
outcome m p q b j = by_front m p q b j (behind p)

-- ---- changes

abbrev is_end : RoutedValue → Bool
is_end (Asked (Changes command)) = false
is_end (Asked (Reads at r)) = false
is_end (Asked Stops) = true
is_end (Refused status) = false
is_end (Unread code) = false

-- the change, if one is asked for
abbrev asked_in : RoutedValue → Option Command
asked_in (Asked (Changes command)) = Some command
asked_in (Asked (Reads at r)) = None
asked_in (Asked Stops) = None
asked_in (Refused status) = None
asked_in (Unread code) = None

some_change : (r : Result Command ℕ) (command : Command) → asked_in (changes_if r) ≡ Some command → r ≡ Ok command
some_change (Ok c) command e = let same : Some c ≡ Some command = e in cc
some_change (Err code) command e = let none : None ≡ Some command = e in cc

change_from : (m p q b : List ℕ) (o : Option (List Text)) (command : Command) → words_in (before_first is_newline b) ≡ o →
    Post (codes "/v1/changes") m p q → asked_in (change_of o (after_first is_newline b)) ≡ Some command → PostsArguments m p q b command
change_from m p q b None command is post e = let none : None ≡ Some command = e in cc
change_from m p q b (Some ws) command is post e = record {
  posted = post.0;
  there = post.1;
  bare = post.2;
  words = ws;
  line = is;
  asks = some_change (change_in (codes "pfctl" ∷ ws) (after_first is_newline b)) command e;
}

entry_from : (m p q b : List ℕ) (o : Option Entry) (command : Command) → reading b ≡ o → Post (codes "/v1/entry") m p q →
    asked_in (change_by o) ≡ Some command → PostsEntry m p q b command
entry_from m p q b None command is post e = let none : None ≡ Some command = e in cc
entry_from m p q b (Some x) command is post e = record {
  posted = post.0;
  there = post.1;
  bare = post.2;
  entry = x;
  read = is;
  asks = let same : Some x.command ≡ Some command = e in cc;
}

no_stop_if : (r : Result Command ℕ) → is_end (changes_if r) ≡ false
no_stop_if (Ok command) = refl
no_stop_if (Err code) = refl

no_stop : (o : Option (List Text)) (text : List ℕ) → is_end (change_of o text) ≡ false
no_stop None text = refl
no_stop (Some ws) text = no_stop_if (change_in (codes "pfctl" ∷ ws) text)

no_stop_by : (o : Option Entry) → is_end (change_by o) ≡ false
no_stop_by None = refl
no_stop_by (Some x) = refl

-- what is asked, or a refusal with a status of clients
abbrev is_served : RoutedValue → Bool
is_served (Asked r) = true
is_served (Refused status) = is_of_clients status
is_served (Unread code) = is_of_clients (status_of code)

changes_served : (r : Result Command ℕ) → is_fair r ≡ true → is_served (changes_if r) ≡ true
changes_served (Ok command) h = refl
changes_served (Err code) h = h

change_served : (o : Option (List Text)) (text : List ℕ) → is_served (change_of o text) ≡ true
change_served None text = refl
change_served (Some ws) text =
    changes_served (change_in (codes "pfctl" ∷ ws) text) (change_fair (codes "pfctl" ∷ ws) text)

entry_served : (o : Option Entry) → is_served (change_by o) ≡ true
entry_served None = refl
entry_served (Some x) = refl

still_served : (v : RoutedValue) → still v ≡ true → is_served v ≡ true
still_served (Asked r) h = refl
still_served (Refused status) h = h
still_served (Unread code) h = h

served_status : (v : RoutedValue) (s : ℕ) → is_served v ≡ true → refused_with v ≡ Some s → is_of_clients s ≡ true
served_status (Asked r) s h e = cc
served_status (Refused status) s h e =
    let same : status ≡ s = ap (λ (n : Option ℕ). elim n [ None ↦ status | Some k ↦ k ]) e in subst (λ k. is_of_clients k ≡ true) same h
served_status (Unread code) s h e =
    let same : status_of code ≡ s = ap (λ (n : Option ℕ). elim n [ None ↦ status_of code | Some k ↦ k ]) e in
    subst (λ k. is_of_clients k ≡ true) same h

-- ---- laws

change_of_case : (m p q b : List ℕ) (v : RoutedValue) (command : Command) → Outcome m p q b v → v ≡ Asked (Changes command) →
    PostsChange m p q b command
change_of_case m p q b v command (inl h) e = absurd (true≢false (sym h ∙ ap still e))
change_of_case m p q b v command (inr (inl (post, is))) e =
    inl (change_from m p q b (words_in (before_first is_newline b)) command refl post (ap asked_in (sym is ∙ e)))
change_of_case m p q b v command (inr (inr (inl (post, is)))) e =
    inr (entry_from m p q b (reading b) command refl post (ap asked_in (sym is ∙ e)))
change_of_case m p q b v command (inr (inr (inr (post, is)))) e = absurd (true≢false (ap is_end (sym is ∙ e)))

posted_change : (m p q b : List ℕ) (j : Bool) (command : Command) → PostsChange m p q b command →
    routed m p q b j ≡ Asked (Changes command)
posted_change m p q b j command (inl h) =
    ap (λ (x : List ℕ). routed x p q b j) h.posted ∙ ap (λ (x : List ℕ). routed (codes "POST") x q b j) h.there
    ∙ ap (λ (ps : List (Text × Text)). if are_parameters to.Changes ps then change_asked b else Refused 400) h.bare
    ∙ ap (λ (o : Option (List Text)). change_of o (after_first is_newline b)) h.line ∙ ap changes_if h.asks
posted_change m p q b j command (inr h) =
    ap (λ (x : List ℕ). routed x p q b j) h.posted ∙ ap (λ (x : List ℕ). routed (codes "POST") x q b j) h.there
    ∙ ap (λ (ps : List (Text × Text)). if are_parameters to.Entry ps then entry_asked b else Refused 400) h.bare
    ∙ ap change_by h.read ∙ ap (λ (c : Command). Asked (Changes c)) h.asks

pub changes_posted : (m p q b : List ℕ) (j : Bool) (command : Command) →
    routed m p q b j ≡ Asked (Changes command) ↔ PostsChange m p q b command
changes_posted m p q b j command =
    (change_of_case m p q b (routed m p q b j) command (outcome m p q b j), posted_change m p q b j command)

stop_of_case : (m p q b : List ℕ) (v : RoutedValue) → Outcome m p q b v → v ≡ Asked Stops → PostsStop m p q
stop_of_case m p q b v (inl h) e = absurd (true≢false (sym h ∙ ap still e))
stop_of_case m p q b v (inr (inl (post, is))) e =
    absurd (true≢false (sym (ap is_end (sym is ∙ e)) ∙ no_stop (words_in (before_first is_newline b)) (after_first is_newline b)))
stop_of_case m p q b v (inr (inr (inl (post, is)))) e =
    absurd (true≢false (sym (ap is_end (sym is ∙ e)) ∙ no_stop_by (reading b)))
stop_of_case m p q b v (inr (inr (inr (post, is)))) e = record { posted = post.0; there = post.1; bare = post.2 }

posted_stop : (m p q b : List ℕ) (j : Bool) → PostsStop m p q → routed m p q b j ≡ Asked Stops
posted_stop m p q b j h =
    ap (λ (x : List ℕ). routed x p q b j) h.posted ∙ ap (λ (x : List ℕ). routed (codes "POST") x q b j) h.there
    ∙ ap (λ (ps : List (Text × Text)). if are_parameters to.Stop ps then Asked Stops else Refused 400) h.bare

pub stops_posted : (m p q b : List ℕ) (j : Bool) → routed m p q b j ≡ Asked Stops ↔ PostsStop m p q
stops_posted m p q b j = (stop_of_case m p q b (routed m p q b j) (outcome m p q b j), posted_stop m p q b j)

outcome_served : (m p q b : List ℕ) (v : RoutedValue) → Outcome m p q b v → is_served v ≡ true
outcome_served m p q b v (inl h) = still_served v h
outcome_served m p q b v (inr (inl (post, is))) =
    ap is_served is ∙ change_served (words_in (before_first is_newline b)) (after_first is_newline b)
outcome_served m p q b v (inr (inr (inl (post, is)))) = ap is_served is ∙ entry_served (reading b)
outcome_served m p q b v (inr (inr (inr (post, is)))) = ap is_served is

pub refusals_clients : (m p q b : List ℕ) (j : Bool) (s : ℕ) → refused_with (routed m p q b j) ≡ Some s → is_of_clients s ≡ true
refusals_clients m p q b j s =
    served_status (routed m p q b j) s (outcome_served m p q b (routed m p q b j) (outcome m p q b j))
