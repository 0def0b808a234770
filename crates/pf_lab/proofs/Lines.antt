-- What the lines of a script do.
use Rattle.std.proofs.Common.{◌≡◌, ◌≢◌, ◌∙◌, sym, ap, subst, refl, ℕ, zero, suc, ◌≤◌, ◌+◌, Bool, true, false, cond, ◌||◌, nat_lt, nat_eq, List, [], ◌∷◌, ◌++◌, Option, Some, Result, Ok, Err, length, slice_get, arith, unwrap_or}
use Rattle.std.specs.List.{list_any}
use Rattle.std.proofs.lemmas.Bool.{lt-ltb, le-ltb, cond-true, cond-false}
use Rattle.std.proofs.lemmas.List.{append-nil, append_assoc}
use Rattle.px_model.specs.Node as node
use Rattle.px_model.specs.Node.{Envelope}
use Rattle.px_model.specs.World as worlds
use Rattle.px_model.specs.World.{World, Event, Action, happens, run}
use Rattle.px_model.specs.Spelling.{Bytes}
use Rattle.px_replica.specs.Made.{same}
use Rattle.px_replica.specs.declared.datagram.Datagram.{Datagram}
use Rattle.px_replica.specs.Spelled.{IsSpelled}
use Rattle.px_wire.specs.Message as wire
use Rattle.px_wire.specs.Members.{as_sent}
use Rattle.pf_lab.specs.Coming as coming
use Rattle.pf_lab.specs.Coming.{action_of, event_of, is_long, model_events}
use Rattle.pf_lab.specs.Outcomes.{Reports, is_bad, becomes}
use Rattle.pf_lab.specs.declared.event.LabFault.{LabFault}
use Rattle.pf_lab.specs.declared.event.LabFault.TheVariants as fault
use Rattle.std.specs.Prelude.{OnOk, OnErr}
use Rattle.pf_lab.specs.declared.event.LabAction.{LabAction}
use Rattle.pf_lab.specs.declared.event.LabAction.TheVariants as lab
use Rattle.pf_lab.specs.declared.event.LabEvent.{LabEvent}
use Rattle.pf_lab.specs.declared.event.LabEvent.TheVariants as event
use Rattle.pf_lab.specs.declared.event.Outcome.{Outcome}
use Rattle.pf_lab.specs.Scripts.{LabValue, with_world, world_action, world_event, world_events, asks_too_much, is_too_long, is_delivered, delivered_below, sent_line, sent_lines}
use Rattle.pf_lab.specs.inner.Seen.{action_value, event_value}
use Rattle.pf_lab.specs.Scripts.{happened}
use Rattle.pf_lab.specs.inner.Benches.{IsBench, Does}
use Rattle.pf_lab.specs.Labs.{IsWorld, cluster_of}
use Rattle.pf_lab.specs.declared.bench.Bench.{Bench}
use Rattle.pf_lab.specs.declared.state.Lab.{Lab}
use Rattle.px_replica.proofs.Sending.{are_length}
use Rattle.px_replica.proofs.Messages.{sent_at}
use Rattle.pf_scripts.specs.declared.waiting.Waiting.{Waiting}
use Rattle.pf_scripts.specs.inner.Seen.{waiting_of}
use Rattle.pf_lab.specs.Scripts.{words_done, at_end, all_shown}
use Rattle.std.specs.Prelude.{option_map}
use Rattle.pf_lab.proofs.Outcomes.{unknown_stays}
use Rattle.std.proofs.Common.{codes, Vec, Global}
use Rattle.clap.specs.Words.{Text}
use Rattle.px_model.specs.Step.{front}
use Rattle.px_model.specs.World.{NodeState}
use Rattle.px_records.specs.declared.records.Records.{Ghosts}
use Rattle.pf_config.specs.Map.{Configuration}
use Rattle.pf_command.specs.Effect.{empty}
use Rattle.pf_node.specs.Applied.{after}
use Rattle.pf_node.specs.Nodes.{learned_by}
use Rattle.pf_node.specs.declared.state.Node.{Node}
use Rattle.pf_scripts.specs.Lines.{line}
use Rattle.pf_scripts.specs.Ctl.{tested, text_of}
use Rattle.pf_lab.specs.Labs.{IsShown}
use Rattle.pf_lab.specs.Shown.{log_lines, message_line}
use Rattle.pf_lab.specs.Scripts.{all_delivered, of_running, learned_lines, verdict_line, config_at}

-- ---- an event of the code is one of the script

action_same : (a : LabAction) → action_of a ≡ world_action (action_value a)
action_same (lab.Ask m c) = refl
action_same (lab.Tick m) = refl
action_same (lab.Deliver k) = refl

action_long : (a : LabAction) → coming.is_too_long a ≡ asks_too_much (action_value a)
action_long (lab.Ask m c) = refl
action_long (lab.Tick m) = refl
action_long (lab.Deliver k) = refl

event_same : (e : LabEvent) → event_of e ≡ world_event (event_value e)
event_same (event.Runs a) = ap (λ (x : Action Bytes). worlds.Event.Runs x) (action_same a)
event_same (event.StopBefore a) = ap (λ (x : Action Bytes). worlds.Event.StopBefore x) (action_same a)
event_same (event.StopAfter a) = ap (λ (x : Action Bytes). worlds.Event.StopAfter x) (action_same a)
event_same (event.Restart m) = refl

event_long : (e : LabEvent) → is_long e ≡ is_too_long (event_value e)
event_long (event.Runs a) = action_long a
event_long (event.StopBefore a) = action_long a
event_long (event.StopAfter a) = action_long a
event_long (event.Restart m) = refl

pub events_same : (e : LabEvent) → model_events e ≡ world_events (event_value e)
events_same e =
    ap (λ (b : Bool). cond b [] (event_of e ∷ [])) (event_long e)
    ∙ ap (λ (x : Event Bytes). cond (is_too_long (event_value e)) [] (x ∷ [])) (event_same e)

next : (k : ℕ) → suc k ≡ k + 1
next k = omega arith

-- ---- deliveries

or_left : (a b : Bool) → a ≡ true → (a || b) ≡ true
or_left true b e = refl
or_left false b e = absurd cc

-- all messages below the mark were delivered
pub none_left : (v : LabValue) (k : ℕ) → k ≤ v.passed → delivered_below v k ≡ v.world
none_left v zero h = refl
none_left v (suc k) h =
    cond-true _ (delivered_below v k) _ (or_left (nat_lt k v.passed) (list_any (λ (j : ℕ). nat_eq j k) v.delivered) (lt-ltb k v.passed (omega (arith, h))))
    ∙ none_left v k (omega (arith, h))

-- all messages below the mark were shown
pub none_shown : (sent : List (Envelope Bytes)) (shown k : ℕ) → k ≤ shown → sent_lines sent shown k ≡ []
none_shown sent shown zero h = refl
none_shown sent shown (suc k) h =
    ap (λ (b : Bool). sent_lines sent shown k ++ cond b [] (sent_line k (slice_get sent k))) (lt-ltb k shown (omega (arith, h)))
    ∙ append-nil (sent_lines sent shown k) ∙ none_shown sent shown k (omega (arith, h))

-- one more is shown
pub more_shown : (sent : List (Envelope Bytes)) (shown k : ℕ) (x : Envelope Bytes) (before out now : List ℕ) → shown ≤ k →
    slice_get sent k ≡ Some x → out ≡ before ++ sent_lines sent shown k → now ≡ out ++ sent_line k (Some x) →
    now ≡ before ++ sent_lines sent shown (suc k)
more_shown sent shown k x before out now late at so printed =
    let here : sent_lines sent shown (suc k) ≡ sent_lines sent shown k ++ sent_line k (Some x) =
    ap (λ (b : Bool). sent_lines sent shown k ++ cond b [] (sent_line k (slice_get sent k))) (le-ltb k shown late)
    ∙ ap (λ (o : Option (Envelope Bytes)). sent_lines sent shown k ++ sent_line k o) at in
    printed ∙ ap (λ (xs : List ℕ). xs ++ sent_line k (Some x)) so
    ∙ append_assoc before (sent_lines sent shown k) (sent_line k (Some x)) ∙ ap (λ (xs : List ℕ). before ++ xs) (sym here)

-- ---- the lab of the code is the definition's

pub in_world : (b : Bench) (v : LabValue) (l : Lab) (w : World Bytes) → IsBench b v →
    IsWorld l (cluster_of v.members) w → IsBench (record b { lab = l }) (with_world v w)
in_world b v l w is world = record {
  world = world;
  members = is.members;
  passed = is.passed;
  delivered = is.delivered;
  shown = is.shown;
  some = is.some;
  few = is.few;
}

-- a message for nobody, or none, changes nothing
pub delivered_none : (b : Bench) (v : LabValue) (l : Lab) (k : ℕ) → IsBench b v → IsWorld l (cluster_of v.members) v.world →
    is_bad v.members v.world (event.Runs (lab.Deliver k)) ≡ true →
    IsBench (record b { lab = l }) (with_world v (happens same v.members v.world (worlds.Event.Runs (worlds.Action.Deliver k))))
delivered_none b v l k is world bad =
    in_world b v l (happens same v.members v.world (worlds.Event.Runs (worlds.Action.Deliver k))) is
    (subst (λ (w : World Bytes). IsWorld l (cluster_of v.members) w)
    (sym (unknown_stays v.members v.world (worlds.Event.Runs (worlds.Action.Deliver k)) bad)) world)

-- a message that was delivered, where memory didn't run out
pub delivered_step : {E : Type 0} (b : Bench) (v : LabValue) (l : Lab) (k : ℕ) (r : Result Outcome LabFault) (q : Result (Unit {0}) E) → IsBench b v →
    OnOk r (IsWorld l (cluster_of v.members) (run same v.members (model_events (event.Runs (lab.Deliver k))) v.world)) →
    OnErr r (IsWorld l (cluster_of v.members) v.world) →
    Reports r (is_bad v.members v.world (event.Runs (lab.Deliver k))) (becomes v.members v.world (event.Runs (lab.Deliver k))) →
    OnOk q (r ≢ Err fault.Memory) →
    OnOk q (IsBench (record b { lab = l }) (with_world v (happens same v.members v.world (worlds.Event.Runs (worlds.Action.Deliver k)))))
delivered_step b v l k (Ok o) (Ok u) is happened stays reported not = in_world b v l _ is happened
delivered_step b v l k (Err fault.BadEvent) (Ok u) is happened stays reported not = delivered_none b v l k is stays reported
delivered_step b v l k (Err fault.Memory) (Ok u) is happened stays reported not = absurd (not refl)
delivered_step b v l k r (Err e) is happened stays reported not = tt

-- ---- events

-- the world after an event of the code
pub world_after : (v : LabValue) (e : LabEvent) (l : Lab) →
    IsWorld l (cluster_of v.members) (run same v.members (model_events e) v.world) →
    IsWorld l (cluster_of v.members) (run same v.members (world_events (event_value e)) v.world)
world_after v e l world =
    subst (λ (es : List (Event Bytes)). IsWorld l (cluster_of v.members) (run same v.members es v.world)) (events_same e) world

-- ---- a pass

same_test : (b : Bench) (v : LabValue) (w : World Bytes) (k : ℕ) → IsBench b (with_world v w) →
    (nat_lt k b.passed || list_any (λ (j : ℕ). nat_eq j k) b.delivered.items) ≡ is_delivered v k
same_test b v w k is =
    ap (λ (p : ℕ). nat_lt k p || list_any (λ (j : ℕ). nat_eq j k) b.delivered.items) is.passed
    ∙ ap (λ (ks : List ℕ). nat_lt k v.passed || list_any (λ (j : ℕ). nat_eq j k) ks) is.delivered

pub stays_delivered : (b : Bench) (v : LabValue) (k : ℕ) → IsBench b (with_world v (delivered_below v k)) →
    (nat_lt k b.passed || list_any (λ (j : ℕ). nat_eq j k) b.delivered.items) ≡ true →
    IsBench b (with_world v (delivered_below v (k + 1)))
stays_delivered b v k is t =
    subst (λ (j : ℕ). IsBench b (with_world v (delivered_below v j))) (next k)
    (subst (λ (w : World Bytes). IsBench b (with_world v w))
    (sym (cond-true _ (delivered_below v k) _ (sym (same_test b v (delivered_below v k) k is) ∙ t))) is)

pub more_delivered : (b b' : Bench) (v : LabValue) (k : ℕ) → IsBench b (with_world v (delivered_below v k)) →
    (nat_lt k b.passed || list_any (λ (j : ℕ). nat_eq j k) b.delivered.items) ≡ false →
    IsBench b' (with_world v (happens same v.members (delivered_below v k) (worlds.Event.Runs (worlds.Action.Deliver k)))) →
    IsBench b' (with_world v (delivered_below v (k + 1)))
more_delivered b b' v k is t now =
    subst (λ (j : ℕ). IsBench b' (with_world v (delivered_below v j))) (next k)
    (subst (λ (w : World Bytes). IsBench b' (with_world v w))
    (sym (cond-false _ (delivered_below v k) _ (sym (same_test b v (delivered_below v k) k is) ∙ t))) now)

pub pass_begins : (b : Bench) (v : LabValue) (k : ℕ) → IsBench b v → k ≤ b.passed → IsBench b (with_world v (delivered_below v k))
pass_begins b v k is h =
    let all : delivered_below v k ≡ v.world = none_left v k (subst (λ (p : ℕ). k ≤ p) is.passed h) in
    record {
      world = subst (λ (w : World Bytes). IsWorld b.lab (cluster_of v.members) w) (sym all) is.world;
      members = is.members;
      passed = is.passed;
      delivered = is.delivered;
      shown = is.shown;
      some = is.some;
      few = is.few;
    }

pub pass_done : (b b' : Bench) (v : LabValue) (n : ℕ) (ds : Vec ℕ Global) → IsBench b v →
    IsBench b' (with_world v (delivered_below v n)) → n ≡ length b.lab.sent.items → ds.items ≡ [] →
    IsBench (record b' { passed = n; delivered = ds }) (all_delivered v)
pass_done b b' v n ds is now all none =
    let sent : n ≡ length v.world.sent = all ∙ are_length (cluster_of v.members) v.world.sent b.lab.sent.items is.world.is_spelled in
    record {
      world = subst (λ (k : ℕ). IsWorld b'.lab (cluster_of v.members) (delivered_below v k)) sent now.world;
      members = now.members;
      passed = sent;
      delivered = none;
      shown = now.shown;
      some = is.some;
      few = is.few;
    }

-- ---- what is shown

pub learned_shown : {R : Type 0} {G : Ghosts R} (s : NodeState Bytes) (n : Node R G) → IsShown s n →
    log_lines (learned_by n) (front (learned_by n) + 64) ≡ of_running s learned_lines
learned_shown s n is =
    sym (cond-true _ (learned_lines s) (line (codes "stopped")) is.up
    ∙ ap (λ (l : node.Log Bytes). log_lines l (front l + 64)) is.learned)

pub stopped_shown : (s : NodeState Bytes) (shows : NodeState Bytes → List ℕ) → s.is_up ≡ false →
    line (codes "stopped") ≡ of_running s shows
stopped_shown s shows down = sym (cond-false _ (shows s) (line (codes "stopped")) down)

pub verdict_shown : {R : Type 0} {G : Ghosts R} (s : NodeState Bytes) (n : Node R G) (c : Configuration) (packet : List Text) →
    IsShown s n → c ≡ config_at (learned_by n) → text_of (tested c packet) ≡ of_running s (verdict_line packet)
verdict_shown s n c packet is same =
    ap (λ (d : Configuration). text_of (tested d packet)) (same ∙ sym (ap config_at is.learned))
    ∙ sym (cond-true _ (verdict_line packet s) (line (codes "stopped")) is.up)

pub config_is : (log : node.Log Bytes) (k : ℕ) (c : Configuration) → after log k ≡ Some c → k ≡ front log → c ≡ config_at log
config_is log k c h e = sym (ap (λ (j : ℕ). unwrap_or (after log j) empty) (sym e) ∙ ap (λ (o : Option Configuration). unwrap_or o empty) h)

-- ---- a message's line

pub line_of : (k from to : ℕ) (m : wire.Message) (x : Envelope Bytes) → from ≡ x.sender → to ≡ x.addressee → m ≡ as_sent x.message →
    message_line k from to m ≡ sent_line k (Some x)
line_of k from to m x a b c =
    ap (λ (f : ℕ). message_line k f to m) a ∙ ap (λ (t : ℕ). message_line k x.sender t m) b
    ∙ ap (message_line k x.sender x.addressee) c

-- ---- the messages that weren't shown

-- before the first of them nothing is shown
pub shown_begins : (v : LabValue) (b : Bench) (k : ℕ) (out : List ℕ) → IsBench b v → k ≤ b.shown → out ≡ out ++ sent_lines v.world.sent v.shown k
shown_begins v b k out is h =
    sym (ap (λ (xs : List ℕ). out ++ xs) (none_shown v.world.sent v.shown k (subst (λ (s : ℕ). k ≤ s) is.shown h)) ∙ append-nil out)

-- a message's line is the definition's
pub shows_one : (v : LabValue) (b : Bench) (k : ℕ) (d : Datagram) (before out now : List ℕ) → IsBench b v → b.shown ≤ k →
    slice_get b.lab.sent.items k ≡ Some d → out ≡ before ++ sent_lines v.world.sent v.shown k →
    ((x : Envelope Bytes) → IsSpelled (cluster_of v.members) x d → now ≡ out ++ sent_line k (Some x)) →
    now ≡ before ++ sent_lines v.world.sent v.shown (k + 1)
shows_one v b k d before out now is late at so printed =
    let f = sent_at (cluster_of v.members) v.world.sent b.lab.sent.items k d is.world.is_spelled at in
    subst (λ (j : ℕ). now ≡ before ++ sent_lines v.world.sent v.shown j) (next k)
    (more_shown v.world.sent v.shown k f.0 before out now (subst (λ (s : ℕ). s ≤ k) is.shown late) f.1.0 so (printed f.0 f.1.1))

-- in the end all are shown
pub all_are_shown : (v : LabValue) (b : Bench) (k : ℕ) (before out : List ℕ) → IsBench b v → k ≡ length b.lab.sent.items →
    out ≡ before ++ sent_lines v.world.sent v.shown k → out ≡ before ++ sent_lines v.world.sent v.shown (length v.world.sent)
all_are_shown v b k before out is all so =
    so ∙ ap (λ (j : ℕ). before ++ sent_lines v.world.sent v.shown j)
    (all ∙ are_length (cluster_of v.members) v.world.sent b.lab.sent.items is.world.is_spelled)

-- and count as shown
pub shows_all : (b : Bench) (v : LabValue) (n : ℕ) → IsBench b v → n ≡ length b.lab.sent.items → IsBench (record b { shown = n }) (all_shown v)
shows_all b v n is all = record {
  world = is.world;
  members = is.members;
  passed = is.passed;
  delivered = is.delivered;
  shown = all ∙ are_length (cluster_of v.members) v.world.sent b.lab.sent.items is.world.is_spelled;
  some = is.some;
  few = is.few;
}

-- ---- lines

-- the end of a script ends a ruleset
pub ended : {E : Type 0} (v : LabValue) (r : Result (Unit {0}) E) (o : Option Waiting) (w : Waiting) (words : List Text) (text : List ℕ) (b : Bench) (before after : List ℕ) →
    o ≡ Some w → words ≡ (waiting_of w).words → text ≡ (waiting_of w).text → OnOk r (Does (words_done v words text) b before after) →
    OnOk r (after ≡ before ++ at_end v (option_map waiting_of o))
ended v (Ok u) o w words text b before after is same_words same_text h =
    subst (λ (x : Option Waiting). after ≡ before ++ at_end v (option_map waiting_of x)) (sym is)
    (h.1 ∙ ap (λ (ws : List Text). before ++ (words_done v ws text).output) same_words
    ∙ ap (λ (t : List ℕ). before ++ (words_done v (waiting_of w).words t).output) same_text)
ended v (Err e) o w words text b before after is same_words same_text h = tt
