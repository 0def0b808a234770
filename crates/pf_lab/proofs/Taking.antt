-- What arrives at one member of a lab happens in the world.
use Rattle.std.proofs.Common.{◌≡◌, ◌≢◌, ◌∙◌, sym, ap, subst, refl, ℕ, zero, suc, ◌⊎◌, inl, inr, Bool, true, false, cond, List, [], ◌∷◌, ◌++◌, Option, Some, Result, Ok, Err, OnOk, OnErr, slice_get, length, take, drop, get_or, ◌<◌, ◌≤◌, ◌+◌, None, IfSome, nat_le, arith}
use Rattle.std.proofs.Math.ListN.{set}
use Rattle.std.proofs.lemmas.Bool.{false_from_ne_true}
use Rattle.std.proofs.lemmas.Bool.Decides.{nat_tests}
use Rattle.std.proofs.lemmas.Option.{slice_get_read, slice_get_within}
use Rattle.std.specs.Borrow.{MutBor}
use Rattle.std.specs.List.{IsItemAtMut}
use Rattle.std.proofs.lemmas.List.{append-nil, drop_more, take-append-drop}
use Rattle.std.specs.List.{flat_map}
use Rattle.px_model.specs.Node as node
use Rattle.px_model.specs.Node.{Input, Answer}
use Rattle.px_model.specs.Node.Input.{Comes}
use Rattle.px_model.specs.World.{World, NodeState, Action, Event, comes_to, happens, run, start, started, nothing_stored}
use Rattle.px_model.specs.World.Event.{Runs, StopAfter}
use Rattle.px_model.specs.Spelling.{Bytes}
use Rattle.px_model.proofs.AlwaysFits.{nothing_fits}
use Rattle.px_model.specs.Fits.{Passes}
use Rattle.px_wire.specs.declared.membership.Membership.{Membership}
use Rattle.px_wire.specs.Message.{Group, group, DatagramBytes}
use Rattle.px_wire.specs.Members.{as_sent, Passing}
use Rattle.px_wire.specs.Sent.{is_command}
use Rattle.px_replica.specs.Made.{same, answer, Makes}
use Rattle.px_replica.specs.Seen.{IsSound}
use Rattle.px_records.specs.declared.records.Records.{Ghosts}
use Rattle.px_replica.specs.Calls.{Call, Receives}
use Rattle.px_replica.specs.Faults.{IsOfStore, IsOfTheStore, SomeFails}
use Rattle.px_replica.specs.Replicas as replicas
use Rattle.px_replica.specs.Replicas.{records_of, membership_of, has_failed}
use Rattle.px_replica.specs.declared.fault.NodeFault.{NodeFault}
use Rattle.px_replica.specs.declared.fault.NodeFault.TheVariants as faults
use Rattle.px_replica.specs.declared.state.Replica.{Replica}
use Rattle.px_replica.specs.Spelled.{AreSpelled}
use Rattle.px_replica.specs.declared.datagram.Datagram.{Datagram}
use Rattle.px_replica.specs.declared.receiving.Received.{Received}
use Rattle.pf_node.specs.Nodes.{state_in}
use Rattle.pf_lab.specs.Coming.{model_events}
use Rattle.pf_lab.specs.inner.Coming.{IsInput, Came}
use Rattle.pf_lab.specs.Outcomes.{are_known, is_bad, is_nobodys, Reports}
use Rattle.pf_lab.specs.declared.event.LabFault.{LabFault}
use Rattle.pf_lab.specs.declared.event.LabFault.TheVariants as fault
use Rattle.pf_lab.specs.declared.event.Outcome.{Outcome}
use Rattle.pf_lab.specs.declared.event.LabEvent.{LabEvent}
use Rattle.pf_lab.specs.declared.coming.What.{What}
use Rattle.px_replica.specs.Spelled.{for_members}
use Rattle.pf_lab.specs.Labs.{IsHost, HostsAre, state_of, group_of, cluster_of}
use Rattle.pf_lab.specs.inner.Labs.{IsAnswered}
use Rattle.pf_lab.specs.declared.host.Host.{Host}
use Rattle.px_replica.proofs.Messages.{one_message}
use Rattle.pf_lab.proofs.Following.{lab_runs, lab_same, lab_stops_after, emptied_state}

-- ---- answers

pub answered_made : (g : Group) (me : ℕ) (s t : NodeState Bytes) (x : Input Bytes) (old new : List Datagram) →
    Makes g me s t x old new → old ≡ [] → IsAnswered g (answer g.members me s x) s t new
answered_made g me s t x old new m none =
    let all : new ≡ m.added = m.handed ∙ ap (λ (z : List Datagram). z ++ m.added) none in
    subst (λ (a : Answer Bytes). IsAnswered g a s t new) (sym m.steps)
    (m.follows, subst (λ (z : List Datagram). AreSpelled g m.plan.sends z) (sym all) m.spelled)

-- a message that comes is the one that the bytes spell
pub received_answered : {R : Type 0} {G : Ghosts R} (x y : Replica R G) (bytes : List ℕ) (old new : List Datagram) (r : Received)
    (from : ℕ) (message : node.Message Bytes) → old ≡ [] → has_failed x ≡ false → G.is_honest (records_of y) →
    Receives x y bytes old new (Ok r) →
    Passing (membership_of x).members from (membership_of x).me message →
    DatagramBytes (group (membership_of x)) from (membership_of x).me (as_sent message) bytes →
    IsAnswered (group (membership_of x)) (answer (membership_of x).members (membership_of x).me (replicas.state_in x) (Comes from message))
    (replicas.state_in x) (replicas.state_in y) new
received_answered x y bytes old new r from message none works honest (inl lost) passes spells =
    let is : true ≡ false = sym lost.failed ∙ works in absurd (cc)
received_answered x y bytes old new r from message none works honest (inr (inl passed)) passes spells =
    absurd (passed.unspelled from (as_sent message) spells)
received_answered x y bytes old new r from message none works honest (inr (inr handled)) passes spells =
    let g = group (membership_of x) in
    let me = (membership_of x).me in
    let s = replicas.state_in x in
    let t = replicas.state_in y in
    subst (λ (z : Input Bytes). IsAnswered g (answer g.members me s z) s t new)
    (one_message g me handled.sender from handled.message message bytes handled.passes passes handled.spelled spells)
    (answered_made g me s t (Comes handled.sender handled.message) old new (handled.call.made honest refl) none)

-- ---- refusals of a record that never fails

-- a call that such a record refuses leaves the member as it was
pub record IsUnmoved {R : Type 0} {G : Ghosts R} (x y : Replica R G) : Type 0 where
  pub state : replicas.state_in y ≡ replicas.state_in x
  pub works : has_failed y ≡ false
  pub membership : membership_of y ≡ membership_of x

no_store : (e : NodeFault) → (IsOfStore e → ⊥) → Some e ≢ Some faults.Store
no_store e never is = never (subst (λ (o : Option NodeFault). IsOfTheStore o) (sym is) tt)

pub call_unmoved : {R : Type 0} {G : Ghosts R} (x y : Replica R G) (i : Input Bytes) (old new : List Datagram) (e : NodeFault) →
    has_failed x ≡ false → G.is_honest (records_of y) → IsSound (membership_of x).members (replicas.state_in x).stored →
    (SomeFails G.may_fail → ⊥) → Call x y i old new (Some e) → IsUnmoved x y
call_unmoved x y i old new e works honest sound never call =
    let none : IsOfStore e → ⊥ = λ of. never (call.why honest sound of) in
    record {
      state = call.stays honest refl (no_store e none);
      works = false_from_ne_true (has_failed y) (λ h. none ((call.fails works).0 h));
      membership = call.membership;
    }

pub received_unmoved : {R : Type 0} {G : Ghosts R} (x y : Replica R G) (bytes : List ℕ) (old new : List Datagram) (e : NodeFault) →
    has_failed x ≡ false → G.is_honest (records_of y) → IsSound (membership_of x).members (replicas.state_in x).stored →
    (SomeFails G.may_fail → ⊥) → Receives x y bytes old new (Err e) → IsUnmoved x y
received_unmoved x y bytes old new e works honest sound never (inl lost) =
    let is : true ≡ false = sym lost.failed ∙ works in absurd (cc)
received_unmoved x y bytes old new e works honest sound never (inr (inl passed)) = absurd (let h = passed.answered in cc)
received_unmoved x y bytes old new e works honest sound never (inr (inr handled)) =
    call_unmoved x y (Comes handled.sender handled.message) old new e works honest sound never handled.call

-- a record that can be told stays one where a datagram is done or passed over
pub received_sound : {R : Type 0} {G : Ghosts R} (x y : Replica R G) (bytes : List ℕ) (old new : List Datagram) (r : Received) →
    has_failed x ≡ false → G.is_honest (records_of y) → IsSound (membership_of x).members (replicas.state_in x).stored →
    Receives x y bytes old new (Ok r) → IsSound (membership_of y).members (replicas.state_in y).stored
received_sound x y bytes old new r works honest sound (inl lost) =
    let is : true ≡ false = sym lost.failed ∙ works in absurd (cc)
received_sound {R} {G} x y bytes old new r works honest sound (inr (inl passed)) =
    subst (λ (z : Replica R G). IsSound (membership_of z).members (replicas.state_in z).stored) (sym passed.still) sound
received_sound x y bytes old new r works honest sound (inr (inr handled)) =
    subst (λ (m : Membership). IsSound m.members (replicas.state_in y).stored) (sym handled.call.membership)
    (handled.call.sound honest sound refl)

-- ---- one of the members

state_up : (y : Host) → y.is_up ≡ true → state_of y ≡ state_in y.node
state_up y up = ap (λ (b : Bool). state_as b (state_in y.node)) up
  where
    state_as : Bool → NodeState Bytes → NodeState Bytes
    state_as b s = record { is_up = b; stored = s.stored; volatile = s.volatile }

pub input_here : (g : Group) (m : ℕ) (p : Membership) (what : What) (x : Input Bytes) → group p ≡ g → p.me ≡ m →
    IsInput g m what x → IsInput (group p) p.me what x
input_here g m p what x e f is_spelled =
    subst (λ (k : ℕ). IsInput (group p) k what x) (sym f) (subst (λ (h : Group). IsInput h m what x) (sym e) is_spelled)

answered_up : (g : Group) (y z : Host) (a : NodeState Bytes → Answer Bytes) (out : List Datagram) → y.is_up ≡ true → z.is_up ≡ y.is_up →
    IsAnswered g (a (state_in y.node)) (state_in y.node) (state_in z.node) out →
    IsAnswered g (a (state_of y)) (state_of y) (state_of z) out
answered_up g y z a out up same is =
    subst (λ (t : NodeState Bytes). IsAnswered g (a (state_of y)) (state_of y) t out) (sym (state_up z (same ∙ up)))
    (subst (λ (s : NodeState Bytes). IsAnswered g (a s) s (state_in z.node) out) (sym (state_up y up)) is)

-- what arrives at a member that runs happens in the world
pub runs_at : {X E : Type 0} (r : Result X E) (hosts : List Host) (g : Group) (m : ℕ) (w : World Bytes) (a : Action Bytes) (what : What)
    (y z : Host) (sent out : List Datagram) → HostsAre hosts g sent w → slice_get hosts m ≡ Some y → y.is_up ≡ true →
    z.is_up ≡ y.is_up → group_of z ≡ group_of y → Came g w a m what →
    ((x : Input Bytes) → IsInput (group (group_of y)) (group_of y).me what x →
    OnOk r (IsAnswered (group (group_of y)) (answer (group_of y).members (group_of y).me (state_in y.node) x)
    (state_in y.node) (state_in z.node) out)) →
    OnOk r (HostsAre (set hosts m z) g (sent ++ for_members out) (happens same g.members w (Runs a)))
runs_at (Err e) hosts g m w a what y z sent out world at up kept same_group came went = tt
runs_at (Ok v) hosts g m w a what y z sent out world at up kept same_group came went =
    let host = world.hosts m y at in
    let x = came.input in
    let p = group_of y in
    lab_runs hosts state_of group_of g m w a x y z sent out world at up same_group came.comes
    (answered_up (group p) y z (λ s. answer p.members p.me s x) out up kept
    (went x (input_here g m p what x host.group host.me came.is_spelled)))

-- a member that is as it was leaves the world as it was
pub same_at : {X E : Type 0} (r : Result X E) (hosts : List Host) (g : Group) (m : ℕ) (w : World Bytes)
    (y z : Host) (sent : List Datagram) → HostsAre hosts g sent w → slice_get hosts m ≡ Some y → y.is_up ≡ true →
    z.is_up ≡ y.is_up → group_of z ≡ group_of y → OnErr r (state_in z.node ≡ state_in y.node) →
    OnErr r (HostsAre (set hosts m z) g sent w)
same_at (Ok v) hosts g m w y z sent world at up kept same_group is = tt
same_at (Err e) hosts g m w y z sent world at up kept same_group is =
    lab_same hosts state_of group_of g m w y z sent world at (state_up z (kept ∙ up) ∙ is ∙ sym (state_up y up)) same_group

-- a member stops after what it receives
pub stops_at : (hosts : List Host) (g : Group) (m : ℕ) (w : World Bytes) (a : Action Bytes) (what : What)
    (y z q : Host) (sent out : List Datagram) → HostsAre hosts g sent w → slice_get hosts m ≡ Some y → y.is_up ≡ true →
    z.is_up ≡ y.is_up → group_of z ≡ group_of y → group_of q ≡ group_of z → state_of q ≡ emptied_state false (state_of z) →
    Came g w a m what →
    ((x : Input Bytes) → IsInput (group (group_of y)) (group_of y).me what x →
    IsAnswered (group (group_of y)) (answer (group_of y).members (group_of y).me (state_in y.node) x)
    (state_in y.node) (state_in z.node) out) →
    HostsAre (set hosts m q) g sent (happens same g.members w (StopAfter a))
stops_at hosts g m w a what y z q sent out world at up kept same_group still after came went =
    let host = world.hosts m y at in
    let x = came.input in
    let p = group_of y in
    lab_stops_after hosts state_of group_of g m w a x y z q sent out world at up after (still ∙ same_group) came.comes
    (answered_up (group p) y z (λ s. answer p.members p.me s x) out up kept
    (went x (input_here g m p what x host.group host.me came.is_spelled)))

-- ---- the member that an action is for

-- a member that is lent is there
pub lent : {X : Type 0} (xs : List X) (i : ℕ) (x : MutBor X) (r : Option (MutBor X)) → Some x ≡ r → IsItemAtMut xs i r → slice_get xs i ≡ Some x.now
lent {X} xs i x r is item =
    let at = subst (λ (o : Option (MutBor X)). IsItemAtMut xs i o) (sym is) item in
    slice_get_read xs (length xs) i x.now refl at.3.0 at.1

-- where none is lent there are no more
pub none_lent : {X : Type 0} (xs : List X) (i : ℕ) (r : Option (MutBor X)) → None ≡ r → IsItemAtMut xs i r → length xs ≤ i
none_lent {X} xs i r is item = (subst (λ (o : Option (MutBor X)). IsItemAtMut xs i o) (sym is) item).3

pub came_as : (g : Group) (w : World Bytes) (a : Action Bytes) (r : Option (ℕ × What)) (m : ℕ) (what : What) → Some (m, what) ≡ r →
    IfSome r (λ p. Came g w a p.0 p.1) → Came g w a m what
came_as g w a r m what is came = subst (λ (o : Option (ℕ × What)). IfSome o (λ p. Came g w a p.0 p.1)) (sym is) came

pub inside : (hosts : List Host) (g : Group) (m : ℕ) (w : World Bytes) (y : Host) (sent : List Datagram) → HostsAre hosts g sent w →
    slice_get hosts m ≡ Some y → m < g.members
inside hosts g m w y sent world at = let within = slice_get_within hosts m y at in omega (arith, within, world.count)

-- the member of the world that a host is runs, or is stopped, as the host
pub is_up_at : (hosts : List Host) (g : Group) (m : ℕ) (w : World Bytes) (y : Host) (sent : List Datagram) (b : Bool) → HostsAre hosts g sent w →
    slice_get hosts m ≡ Some y → y.is_up ≡ b → (w.nodes m).is_up ≡ b
is_up_at hosts g m w y sent b world at up = ap (λ (s : NodeState Bytes). s.is_up) (world.hosts m y at).here ∙ up

-- a member that is lent and stays as it is leaves the world as it is
pub stays_at : (hosts : List Host) (g : Group) (m : ℕ) (w v : World Bytes) (y : Host) (sent : List Datagram) → HostsAre hosts g sent w →
    slice_get hosts m ≡ Some y → v ≡ w → HostsAre (set hosts m y) g sent v
stays_at hosts g m w v y sent world at is =
    subst (λ (z : World Bytes). HostsAre (set hosts m y) g sent z) (sym is)
    (lab_same hosts state_of group_of g m w y y sent world at refl refl)

-- what holds is there of a refusal
pub held : {X A E : Type 0} (r : Result A E) → X → OnErr r X
held (Ok v) x = tt
held (Err e) x = x

pub past_at : (hosts : List Host) (g : Group) (m : ℕ) (w : World Bytes) (sent : List Datagram) → HostsAre hosts g sent w → length hosts ≤ m →
    nat_le g.members m ≡ true
past_at hosts g m w sent world over = let past : g.members ≤ m = omega (arith, over, world.count) in grind (arith, nat_tests)

-- nobody is there for what comes past the last member
pub nobody_at : (hosts : List Host) (g : Group) (m : ℕ) (w : World Bytes) (a : Action Bytes) (what : What) (sent : List Datagram) →
    HostsAre hosts g sent w → Came g w a m what → length hosts ≤ m → is_nobodys g.members (comes_to w a) ≡ true
nobody_at hosts g m w a what sent world came over =
    ap (is_nobodys g.members) came.comes ∙ past_at hosts g m w sent world over

-- ---- the beginning

-- an empty record can be told
pub nothing_sound : (n : ℕ) → IsSound n nothing_stored
nothing_sound n = nothing_fits (Passes is_command) n

pub begun_sound : (n k : ℕ) (s : NodeState Bytes) (d : node.Record Bytes) → k ≡ n → s ≡ started d → d ≡ nothing_stored → IsSound k s.stored
begun_sound n k s d e is none =
    subst (λ (j : ℕ). IsSound j s.stored) (sym e)
    (subst (λ (r : node.Record Bytes). IsSound n r) (sym (ap (λ (z : NodeState Bytes). z.stored) is ∙ none)) (nothing_sound n))

-- a record that is as it was can be told as before
pub kept_sound : (p q : Membership) (s t : NodeState Bytes) → q ≡ p → t ≡ s → IsSound p.members s.stored → IsSound q.members t.stored
kept_sound p q s t e is sound =
    subst (λ (m : Membership). IsSound m.members t.stored) (sym e)
    (subst (λ (z : NodeState Bytes). IsSound p.members z.stored) (sym is) sound)

-- the members so far are those of the beginning
abbrev pub AreBegun : ℕ → List Host → Type 0
AreBegun n hosts = (k : ℕ) (x : Host) → slice_get hosts k ≡ Some x → IsHost start (cluster_of n) k (state_of x) (group_of x)

get_pushed : {M : Type 0} (xs : List M) (s : M) (k : ℕ) (x : M) → slice_get (xs ++ s ∷ []) k ≡ Some x →
    (slice_get xs k ≡ Some x) ⊎ ((k ≡ length xs) × (s ≡ x))
get_pushed [] s zero x h = inr (refl, cc)
get_pushed [] s (suc k) x h = absurd cc
get_pushed (y ∷ ys) s zero x h = inl h
get_pushed (y ∷ ys) s (suc k) x h = elim (get_pushed ys s k x h) [
  | inl there ↦ inl there
  | inr last ↦ inr (ap suc last.0, last.1)
]

pub pushed_begun : (n m : ℕ) (hosts : List Host) (s : Host) → AreBegun n hosts → length hosts ≡ m →
    IsHost start (cluster_of n) m (state_of s) (group_of s) → AreBegun n (hosts ++ s ∷ [])
pushed_begun n m hosts s begun count host k x h = elim (get_pushed hosts s k x h) [
  | inl there ↦ begun k x there
  | inr last ↦ subst (λ (j : ℕ). IsHost start (cluster_of n) j (state_of x) (group_of x)) (sym (last.0 ∙ count))
      (subst (λ (z : Host). IsHost start (cluster_of n) m (state_of z) (group_of z)) last.1 host)
]

-- ---- one event after another

pub run_append : (n : ℕ) (xs ys : List (Event Bytes)) (w : World Bytes) →
    run same n (xs ++ ys) w ≡ run same n ys (run same n xs w)
run_append n [] ys w = refl
run_append n (x ∷ xs) ys w = run_append n xs ys (happens same n w x)

pub one_more_event : (n : ℕ) (xs : List LabEvent) (x : LabEvent) (w : World Bytes) →
    run same n (flat_map model_events (xs ++ x ∷ [])) w ≡ run same n (model_events x) (run same n (flat_map model_events xs) w)
one_more_event n [] x w = ap (λ (es : List (Event Bytes)). run same n es w) (append-nil (model_events x))
one_more_event n (y ∷ ys) x w =
    run_append n (model_events y) (flat_map model_events (ys ++ x ∷ [])) w
    ∙ one_more_event n ys x (run same n (model_events y) w)
    ∙ ap (run same n (model_events x)) (sym (run_append n (model_events y) (flat_map model_events ys) w))

-- ---- events that name a member and a message

known_before : (b c d : Bool) → cond b false c ≡ true → (c ≡ true → d ≡ true) → cond b false d ≡ true
known_before true c d h f = h
known_before false c d h f = f h

unknown_behind : (b c : Bool) → c ≡ false → cond b false c ≡ false
unknown_behind true c e = refl
unknown_behind false c e = e

-- the next one is known too
pub known_more : (n : ℕ) (xs : List LabEvent) (x : LabEvent) (w : World Bytes) → are_known n xs w ≡ true →
    is_bad n (run same n (flat_map model_events xs) w) x ≡ false → are_known n (xs ++ x ∷ []) w ≡ true
known_more n [] x w known good = ap (λ (b : Bool). cond b false true) good
known_more n (y ∷ ys) x w known good =
    let v = run same n (model_events y) w in
    known_before (is_bad n w y) (are_known n ys v) (are_known n (ys ++ x ∷ []) v) known
    (λ so. known_more n ys x v so (ap (λ (u : World Bytes). is_bad n u x) (sym (run_append n (model_events y) (flat_map model_events ys) w)) ∙ good))

-- the next one isn't
pub known_no_more : (n : ℕ) (xs : List LabEvent) (x : LabEvent) (ys : List LabEvent) (w : World Bytes) →
    is_bad n (run same n (flat_map model_events xs) w) x ≡ true → are_known n (xs ++ x ∷ ys) w ≡ false
known_no_more n [] x ys w bad = ap (λ (b : Bool). cond b false (are_known n ys (run same n (model_events x) w))) bad
known_no_more n (y ∷ zs) x ys w bad =
    let v = run same n (model_events y) w in
    unknown_behind (is_bad n w y) (are_known n (zs ++ x ∷ ys) v)
    (known_no_more n zs x ys v (ap (λ (u : World Bytes). is_bad n u x) (sym (run_append n (model_events y) (flat_map model_events zs) w)) ∙ bad))

-- 81 comes of an event that isn't known
pub bad_reported : {X : Type 0} (r : Result X LabFault) (f : LabFault) (bad : Bool) (o : Outcome) → r ≡ Err f → r ≡ Err fault.BadEvent → Reports (Err f) bad o → bad ≡ true
bad_reported r fault.BadEvent bad o same is is_spelled = is_spelled
bad_reported r fault.Memory bad o same is is_spelled = absurd cc

-- a list around one of its places
pub cut_at : (xs : List LabEvent) (i : ℕ) (x : LabEvent) → i < length xs → x ≡ get_or xs i x → take i xs ++ x ∷ drop (i + 1) xs ≡ xs
cut_at xs i x lt is =
    ap (λ (z : LabEvent). take i xs ++ z ∷ drop (i + 1) xs) is
    ∙ ap (λ (zs : List LabEvent). take i xs ++ zs) (sym (drop_more xs i x lt))
    ∙ take-append-drop i xs
