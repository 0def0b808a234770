-- What a datagram spells is a message as it was sent, and the result of its step.
use Rattle.std.proofs.Common.{◌≡◌, ◌∙◌, ℕ, ◌≤◌, ◌^◌, List, [], refl, sym, ap, subst}
use Rattle.std.specs.Prelude.{nat_le, nat_eq, length}
use Rattle.std.proofs.lemmas.Bool.{cond_both}
use Rattle.px_model.specs.Node as node
use Rattle.px_model.specs.Node.{Record, Volatile, Meta, Log, Plan, Answer, Input, Envelope}
use Rattle.px_model.specs.Node.Input.{Asks, Ticks, Comes}
use Rattle.px_model.specs.Node.Answer.{Refused, Planned}
use Rattle.px_model.specs.Step.{step, on_ask, front, positions, queued}
use Rattle.px_model.specs.World.{NodeState}
use Rattle.px_model.specs.Fits.{sends_of}
use Rattle.px_model.specs.Spelling.{Bytes, spelled}
use Rattle.px_model.specs.Entries.{view_of}
use Rattle.px_model.specs.Seen.{come_of}
use Rattle.px_model.specs.declared.entry.EntryView.{EntryView}
use Rattle.px_model.specs.declared.message.Message as declared
use Rattle.px_model.specs.declared.message.Message.TheVariants as views
use Rattle.px_model.proofs.Reach.{ticks_learn_nothing}
use Rattle.px_wire.specs.declared.membership.Membership.{Membership}
use Rattle.px_wire.specs.Message.{Group, group, Message, ask, IsBody, DatagramBytes}
use Rattle.px_wire.specs.Members as members
use Rattle.px_wire.specs.Members.{as_sent, Passing}
use Rattle.px_wire.specs.Seen.{message_of}
use Rattle.px_wire.proofs.Members.{lent_is_sent}
use Rattle.px_replica.specs.Faults.{IsRefusedBy, IsReceiveFault}
use Rattle.px_replica.specs.inner.Faults.{IsFromBelow}
use Rattle.px_replica.specs.Made.{same, answer, Makes}
use Rattle.px_replica.specs.Spelled.{AreSpelled}
use Rattle.px_replica.specs.declared.datagram.Datagram.{Datagram}
use Rattle.px_replica.specs.declared.fault.NodeFault.{NodeFault}
use Rattle.px_replica.specs.declared.fault.NodeFault.TheVariants as fault
use Rattle.px_replica.proofs.Groups.{few_members}

-- ---- datagrams

-- what is asked from outside, by its origin
abbrev asked_from : EntryView → ℕ → Message
asked_from e o = ask (record {
  origin = o;
  number = (view_of e).number;
  bytes = spelled (record { origin = o; number = (view_of e).number; command = (view_of e).command });
})

lent_sent : (g : Group) (from to : ℕ) (x : declared.Message EntryView) → g.members ≤ 15 →
    Passing g.members from to (come_of x) → IsBody g from to (message_of x) → message_of x ≡ as_sent (come_of x)
lent_sent g from to (views.Ask e) le h body = ap (asked_from e) body.1
lent_sent g from to (views.Prepare b p) le h body = lent_is_sent g from to (views.Prepare b p) le h.between.0 h
lent_sent g from to (views.Promise b p a) le h body = lent_is_sent g from to (views.Promise b p a) le h.between.0 h
lent_sent g from to (views.PrepareAll b p) le h body = lent_is_sent g from to (views.PrepareAll b p) le h.between.0 h
lent_sent g from to (views.PromiseAll b p t a) le h body =
    lent_is_sent g from to (views.PromiseAll b p t a) le h.between.0 h
lent_sent g from to (views.Accept b p e) le h body = lent_is_sent g from to (views.Accept b p e) le h.between.0 h
lent_sent g from to (views.Vote b p e) le h body = lent_is_sent g from to (views.Vote b p e) le h.between.0 h
lent_sent g from to (views.Nack b p q) le h body = lent_is_sent g from to (views.Nack b p q) le h.between.0 h
lent_sent g from to (views.Need p) le h body = lent_is_sent g from to (views.Need p) le h.between.0 h
lent_sent g from to (views.Learned p e) le h body = lent_is_sent g from to (views.Learned p e) le h.between.0 h
lent_sent g from to (views.Asked t k) le h body = lent_is_sent g from to (views.Asked t k) le h.between.0 h
lent_sent g from to (views.AskRefused t c) le h body = lent_is_sent g from to (views.AskRefused t c) le h.between.0 h

-- what is decoded was sent
pub heard : (m z : Membership) (from : ℕ) (x : declared.Message EntryView) (bytes : List ℕ) → z ≡ m →
    DatagramBytes (group z) from z.me (message_of x) bytes → members.Comes z from x →
    Passing m.members from m.me (come_of x) × DatagramBytes (group m) from m.me (as_sent (come_of x)) bytes
heard m z from x bytes is d comes =
    let spelled' = subst (λ (v : Message). DatagramBytes (group z) from z.me v bytes)
    (lent_sent (group z) from z.me x (few_members z) comes d.fits.body) d in
    subst (λ (y : Membership). Passing y.members from y.me (come_of x) ×
    DatagramBytes (group y) from y.me (as_sent (come_of x)) bytes) is (comes, spelled')

-- ---- answers

-- no message is refused
comes_planned : (n me from : ℕ) (s : NodeState Bytes) (x : node.Message Bytes) (code : ℕ) →
    answer n me s (Comes from x) ≡ Refused code → ⊥
unfolding step
comes_planned n me from s x code h = cc

pub comes_unrefused : (n me from : ℕ) (s : NodeState Bytes) (x : node.Message Bytes) (e : NodeFault) → IsFromBelow e →
    IsRefusedBy e (answer n me s (Comes from x)) → IsReceiveFault e
comes_unrefused n me from s x fault.Memory below h = tt
comes_unrefused n me from s x fault.Store below h = tt
comes_unrefused n me from s x fault.BadStore below h = tt
comes_unrefused n me from s x fault.Failed below h = tt
comes_unrefused n me from s x fault.TooLong below h = absurd below
comes_unrefused n me from s x fault.Full below h = absurd (comes_planned n me from s x 60 h)
comes_unrefused n me from s x fault.BallotsSpent below h = absurd (comes_planned n me from s x 61 h)
comes_unrefused n me from s x fault.PositionsSpent below h = absurd (comes_planned n me from s x 62 h)

ask_sends_nothing : (me : ℕ) (meta : Meta) (log : Log Bytes) (v : Volatile Bytes) (c : Bytes) →
    sends_of (on_ask me meta log v c) ≡ []
unfolding on_ask
ask_sends_nothing me meta log v c =
    let P : Answer Bytes → Type 0 = λ a. sends_of a ≡ [] in
    cond_both (nat_le 64 (length v.waiting)) (Refused 60) _ P (λ _. refl) (λ _.
    cond_both (nat_eq (front log) positions) (Refused 62) _ P (λ _. refl) (λ _.
    cond_both (nat_le (2 ^ 48) meta.number) (Refused 62) (Planned (queued me meta v c)) P (λ _. refl) (λ _. refl)))

asks_send_nothing : (n me : ℕ) (s : NodeState Bytes) (c : Bytes) (plan : Plan Bytes) →
    answer n me s (Asks c) ≡ Planned plan → plan.sends ≡ []
unfolding step
asks_send_nothing n me s c plan h =
    sym (ap sends_of h) ∙ ask_sends_nothing me s.stored.meta s.stored.learned s.volatile c

-- nothing is sent for a command that is asked by a call
pub ask_makes : (g : Group) (me : ℕ) (s t : NodeState Bytes) (c : Bytes) (old new : List Datagram) →
    Makes g me s t (Asks c) old new → Makes g me s t (Asks c) [] []
ask_makes g me s t c old new m = record {
  plan = m.plan;
  steps = m.steps;
  follows = m.follows;
  added = [];
  handed = refl;
  spelled = subst (λ (xs : List (Envelope Bytes)). AreSpelled g xs []) (sym (asks_send_nothing g.members me s c m.plan m.steps)) tt;
}

-- a tick learns nothing
pub tick_learned : (g : Group) (me : ℕ) (s t : NodeState Bytes) (old new : List Datagram) → Makes g me s t Ticks old new →
    t.stored.learned ≡ s.stored.learned
tick_learned g me s t old new m =
    ap (λ (z : NodeState Bytes). z.stored.learned) m.follows ∙ ticks_learn_nothing same g.members me s m.plan m.steps
