-- What was sent, in the world and as datagrams.
use Rattle.std.proofs.Common.{◌≡◌, ◌∙◌, sym, ap, subst, refl, ℕ, zero, suc, Bool, true, false, not, cond, nat_eq, List, [], ◌∷◌, ◌++◌, Some, None, slice_get, length, ◌≤◌, arith}
use Rattle.px_model.specs.Node as node
use Rattle.px_model.specs.Node.{Envelope, client}
use Rattle.px_model.specs.Node.Input.{Comes}
use Rattle.px_model.specs.World as world
use Rattle.px_model.specs.World.{World, to_members, delivered, comes_to}
use Rattle.px_model.specs.Spelling.{Bytes}
use Rattle.px_wire.specs.Message.{Group, DatagramBytes}
use Rattle.px_wire.specs.Members.{as_sent, as_heard, Passing}
use Rattle.px_wire.proofs.Fronts.{no_front}
use Rattle.px_wire.proofs.Members.{heard_as_sent}
use Rattle.px_replica.specs.declared.datagram.Datagram.{Datagram}
use Rattle.px_replica.specs.Spelled.{IsSpelled, AreSpelled, for_members}
use Rattle.std.proofs.lemmas.List.{append-nil}

pub are_append : (g : Group) (xs ys : List (Envelope Bytes)) (ds es : List Datagram) →
    AreSpelled g xs ds → AreSpelled g ys es → AreSpelled g (xs ++ ys) (ds ++ es)
are_append g [] ys [] es a b = b
are_append g (x ∷ xs) ys (d ∷ ds) es a b = (a.0, are_append g xs ys ds es a.1 b)
are_append g [] ys (d ∷ ds) es a b = absurd a
are_append g (x ∷ xs) ys [] es a b = absurd a

one_more : (g : Group) (x : Envelope Bytes) (xs : List (Envelope Bytes)) (d : Datagram) (ds : List Datagram) (b : Bool) →
    IsSpelled g x d → AreSpelled g (to_members xs) (for_members ds) →
    AreSpelled g (cond b (to_members xs) (x ∷ to_members xs)) (cond (not b) (d ∷ for_members ds) (for_members ds))
one_more g x xs d ds true one rest = rest
one_more g x xs d ds false one rest = (one, rest)

pub are_members : (g : Group) (xs : List (Envelope Bytes)) (ds : List Datagram) →
    AreSpelled g xs ds → AreSpelled g (to_members xs) (for_members ds)
are_members g [] [] a = tt
are_members g (x ∷ xs) (d ∷ ds) a =
    let P : ℕ → Type 0 = λ to. AreSpelled g (cond (nat_eq x.addressee client) (to_members xs) (x ∷ to_members xs)) (cond (not (nat_eq to client)) (d ∷ for_members ds) (for_members ds)) in
    subst P (sym a.0.addressee) (one_more g x xs d ds (nat_eq x.addressee client) a.0 (are_members g xs ds a.1))
are_members g [] (d ∷ ds) a = absurd a
are_members g (x ∷ xs) [] a = absurd a

-- the k-th message, where there is a k-th datagram
pub sent_at : (g : Group) (xs : List (Envelope Bytes)) (ds : List Datagram) (k : ℕ) (d : Datagram) →
    AreSpelled g xs ds → slice_get ds k ≡ Some d → (x : Envelope Bytes) × ((slice_get xs k ≡ Some x) × IsSpelled g x d)
sent_at g [] [] k d a h = cc
sent_at g (x ∷ xs) (e ∷ es) zero d a h =
    let is : e ≡ d = cc in
    let P : Datagram → Type 0 = λ z. IsSpelled g x z in (x, (refl, subst P is a.0))
sent_at g (x ∷ xs) (e ∷ es) (suc k) d a h = sent_at g xs es k d a.1 h
sent_at g [] (e ∷ es) k d a h = absurd a
sent_at g (x ∷ xs) [] k d a h = absurd a

-- A datagram that was sent comes as the message that it spells.
pub record Delivered (g : Group) (w : World Bytes) (k : ℕ) (d : Datagram) : Type 0 where
  pub sender : ℕ
  pub message : node.Message Bytes
  pub comes : comes_to w (world.Action.Deliver k) ≡ Some (d.to, Comes sender message)
  pub passes : Passing g.members sender d.to message
  pub bytes : DatagramBytes g sender d.to (as_sent message) d.bytes.items

pub comes_spelled : (g : Group) (w : World Bytes) (sent : List Datagram) (k : ℕ) (d : Datagram) →
    AreSpelled g w.sent sent → slice_get sent k ≡ Some d → Delivered g w k d
comes_spelled g w sent k d a h =
    let f = sent_at g w.sent sent k d a h in
    let x = f.0 in
    let s = f.1.1 in
    record {
      sender = x.sender;
      message = x.message;
      comes = ap delivered f.1.0 ∙ ap (λ (to : ℕ). Some (to, Comes x.sender x.message)) (sym s.addressee);
      passes = subst (λ (to : ℕ). Passing g.members x.sender to x.message) (sym s.addressee) s.passes;
      bytes = subst (λ (to : ℕ). DatagramBytes g x.sender to (as_sent x.message) d.bytes.items) (sym s.addressee) s.bytes;
    }

-- what bytes spell is one message of one sender
pub one_message : (g : Group) (me from from' : ℕ) (x y : node.Message Bytes) (bytes : List ℕ) →
    Passing g.members from me x → Passing g.members from' me y →
    DatagramBytes g from me (as_sent x) bytes → DatagramBytes g from' me (as_sent y) bytes → Comes from x ≡ Comes from' y
one_message g me from from' x y bytes p q a b =
    let s = no_front g from me from' me (as_sent x) (as_sent y) bytes [] a
    (subst (λ (z : List ℕ). DatagramBytes g from' me (as_sent y) z) (sym (append-nil bytes)) b) in
    let ex : Envelope Bytes = record { sender = from; addressee = me; message = x } in
    let ey : Envelope Bytes = record { sender = from'; addressee = me; message = y } in
    let same : x ≡ y = sym (heard_as_sent g.members ex p) ∙ ap as_heard s.3 ∙ heard_as_sent g.members ey q in
    ap (λ (k : ℕ). Comes k x) s.1 ∙ ap (Comes from') same

-- behind the last datagram no message was sent
pub unsent : (g : Group) (xs : List (Envelope Bytes)) (ds : List Datagram) (k : ℕ) → AreSpelled g xs ds → length ds ≤ k → slice_get xs k ≡ None
unsent g [] [] zero a h = refl
unsent g [] [] (suc k) a h = refl
unsent g (x ∷ xs) (e ∷ es) zero a h = absurd (omega (arith, h))
unsent g (x ∷ xs) (e ∷ es) (suc k) a h = unsent g xs es k a.1 (omega (arith, h))
unsent g [] (e ∷ es) k a h = absurd a
unsent g (x ∷ xs) [] k a h = absurd a
