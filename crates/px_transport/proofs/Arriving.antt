-- What comes of packets.
use Rattle.std.proofs.Common.{◌≡◌, ◌∙◌, ℕ, ◌≤◌, Bool, true, false, List, [], ◌∷◌, length, take, ap, sym, subst, refl, arith, Option, Some}
use Rattle.std.specs.Prelude.{nat_le, if◌then◌else◌}
use Rattle.px_transport.specs.Wires.{within}
use Rattle.px_packet.specs.declared.header.Header.{Header}
use Rattle.px_packet.specs.declared.arrival.Arrival.{Arrival}
use Rattle.px_packet.specs.declared.arrival.Arrival.TheVariants as arrivals
use Rattle.px_packet.specs.declared.held.PiecesHeld.{PiecesHeld}
use Rattle.px_packet.specs.declared.start.Start.{Start}
use Rattle.px_transport.specs.declared.coming.Coming.{Coming}
use Rattle.px_transport.specs.declared.coming.Coming.TheVariants as coming
use Rattle.px_transport.specs.declared.receiver.Receiver.{Receiver}
use Rattle.px_transport.specs.Receiving.{Given, Whole, Joined, Held, Nothing, Dropped, Memory, Heard, Hears, heard_after, given_by}
use Rattle.px_transport.specs.Sending.{Sealer}
use Rattle.px_transport.specs.Wiring.{WireState, Comes, Takes, DoesAll, Duty, Again, opened, given_of, heard_with}
use Rattle.px_transport.specs.Wiring.{is_other_machine, more_if}

none_either : (fits : Bool) (m : List ℕ) → m ≡ [] → (if fits then m else []) ≡ []
none_either true m e = e
none_either false m e = refl

none_within : (room : ℕ) → within room [] ≡ []
none_within room = none_either (nat_le 0 room) [] refl

-- ---- of a packet that was opened

pub comes_whole : (p : Header × List ℕ) (g : Given) (m : List ℕ) (room n : ℕ) (into : List ℕ) → Whole m ≡ g →
    n ≤ length into → take n into ≡ within room m → Comes (Some p) (Some g) room (coming.Given n) into
comes_whole p g m room n into e l w =
    subst (λ x. Comes (Some p) (Some x) room (coming.Given n) into) e (l, w, refl, refl, refl)

pub comes_joined : (p : Header × List ℕ) (g : Given) (m : List ℕ) (room n : ℕ) (into : List ℕ) → Joined m ≡ g →
    n ≤ length into → take n into ≡ within room m → Comes (Some p) (Some g) room (coming.Given n) into
comes_joined p g m room n into e l w =
    subst (λ x. Comes (Some p) (Some x) room (coming.Given n) into) e (l, w, refl, refl, refl)

pub comes_held : (p : Header × List ℕ) (g : Given) (held : PiecesHeld) (room : ℕ) (into : List ℕ) → Held held ≡ g →
    Comes (Some p) (Some g) room (coming.Held p.0.from held) into
comes_held p g held room into e =
    subst (λ x. Comes (Some p) (Some x) room (coming.Held p.0.from held) into) e (refl, refl, refl, refl)

pub comes_nothing : (p : Header × List ℕ) (g : Given) (room : ℕ) (into : List ℕ) → Nothing ≡ g →
    Comes (Some p) (Some g) room (coming.Given 0) into
comes_nothing p g room into e =
    subst (λ x. Comes (Some p) (Some x) room (coming.Given 0) into) e
    (omega arith, sym (none_within room), refl, refl, refl)

pub comes_dropped : (p : Header × List ℕ) (g : Given) (a : Arrival) (room : ℕ) (into : List ℕ) → Dropped a ≡ g →
    is_other_machine a ≡ false → Comes (Some p) (Some g) room coming.Dropped into
comes_dropped p g a room into e f =
    subst (λ x. Comes (Some p) (Some x) room coming.Dropped into) e (refl, refl, refl, f)

pub comes_copy : (p : Header × List ℕ) (g : Given) (a : Arrival) (room : ℕ) (into : List ℕ) → Dropped a ≡ g →
    is_other_machine a ≡ true → Comes (Some p) (Some g) room coming.OtherMachine into
comes_copy p g a room into e f =
    subst (λ x. Comes (Some p) (Some x) room coming.OtherMachine into) e (refl, refl, refl, f)

-- a packet was opened, and what the receiver gives of it is what comes of it
pub comes_opened : (mine : Start) (m : Memory) (hs : List Heard) (o : Option (Header × List ℕ)) (p : Header × List ℕ)
    (now : ℕ) (r : Receiver) (room : ℕ) (x : Coming) (into : List ℕ) → o ≡ Some p →
    Hears mine (heard_after mine m hs p.0 p.1 now) r → Comes (Some p) (Some (given_by mine m hs p.0 p.1 now)) room x into →
    (n : Memory) × (Hears mine (heard_with mine n hs o now) r × Comes o (given_of mine n hs o now) room x into)
comes_opened mine m hs o p now r room x into is heard comes =
    let P : Option (Header × List ℕ) → Type 0 =
    λ y. Hears mine (heard_with mine m hs y now) r × Comes y (given_of mine m hs y now) room x into in
    (m, subst P (sym is) (heard, comes))

-- ---- what is done then

abbrev pub heard_then : (keys : List (List ℕ)) (s : Sealer) (now : ℕ) (came : List ℕ) (m : Memory) → WireState → WireState
heard_then keys s now came m k = record k { heard = heard_with s.start m k.heard (opened keys s came) now }

abbrev pub given_then : (keys : List (List ℕ)) (s : Sealer) (now : ℕ) (came : List ℕ) (m : Memory) → WireState → Option Given
given_then keys s now came m k = given_of s.start m k.heard (opened keys s came) now

none_done : (s : Sealer) (now : ℕ) (ds : List Duty) (k : WireState) → ds ≡ [] → DoesAll s now ds k k
none_done s now ds k e = subst (λ x. DoesAll s now x k k) (sym e) refl

empty_given : (room : ℕ) (m into : List ℕ) → m ≡ [] → take 0 into ≡ within room m
empty_given room m into e = sym (ap (within room) e ∙ none_within room)

pub takes_given : (keys : List (List ℕ)) (s : Sealer) (now : ℕ) (came : List ℕ) (m : Memory) (k : WireState)
    (room n : ℕ) (into : List ℕ) (dropped copies : ℕ) →
    Comes (opened keys s came) (given_then keys s now came m k) room (coming.Given n) into →
    Takes keys s now came room (take n into) k (heard_then keys s now came m k) dropped dropped copies copies
takes_given keys s now came m k room n into dropped copies x =
    record {
      memory = m;
      given_is = x.1;
      does = none_done s now _ _ x.2;
      dropped_is = sym (ap (λ b. more_if b dropped) x.3);
      copies_is = sym (ap (λ b. more_if b copies) x.4);
    }

pub takes_held : (keys : List (List ℕ)) (s : Sealer) (now : ℕ) (came : List ℕ) (m : Memory) (k k' : WireState)
    (room from : ℕ) (held : PiecesHeld) (into : List ℕ) (dropped dropped' copies copies' : ℕ) →
    Comes (opened keys s came) (given_then keys s now came m k) room (coming.Held from held) into →
    DoesAll s now (Again from held ∷ []) (heard_then keys s now came m k) k' → dropped' ≡ dropped →
    copies' ≡ copies → Takes keys s now came room (take 0 into) k k' dropped dropped' copies copies'
takes_held keys s now came m k k' room from held into dropped dropped' copies copies' x d e f =
    record {
      memory = m;
      given_is = empty_given room _ into x.0;
      does = subst (λ ds. DoesAll s now ds (heard_then keys s now came m k) k') (sym x.1) d;
      dropped_is = e ∙ sym (ap (λ b. more_if b dropped) x.2);
      copies_is = f ∙ sym (ap (λ b. more_if b copies) x.3);
    }

pub takes_dropped : (keys : List (List ℕ)) (s : Sealer) (now : ℕ) (came : List ℕ) (m : Memory) (k : WireState)
    (room : ℕ) (into : List ℕ) (dropped dropped' copies : ℕ) →
    Comes (opened keys s came) (given_then keys s now came m k) room coming.Dropped into →
    dropped' ≡ more_if true dropped →
    Takes keys s now came room (take 0 into) k (heard_then keys s now came m k) dropped dropped' copies copies
takes_dropped keys s now came m k room into dropped dropped' copies x e =
    record {
      memory = m;
      given_is = empty_given room _ into x.0;
      does = none_done s now _ _ x.1;
      dropped_is = e ∙ sym (ap (λ b. more_if b dropped) x.2);
      copies_is = sym (ap (λ b. more_if b copies) x.3);
    }

pub takes_copy : (keys : List (List ℕ)) (s : Sealer) (now : ℕ) (came : List ℕ) (m : Memory) (k : WireState)
    (room : ℕ) (into : List ℕ) (dropped dropped' copies copies' : ℕ) →
    Comes (opened keys s came) (given_then keys s now came m k) room coming.OtherMachine into →
    dropped' ≡ more_if true dropped → copies' ≡ more_if true copies →
    Takes keys s now came room (take 0 into) k (heard_then keys s now came m k) dropped dropped' copies copies'
takes_copy keys s now came m k room into dropped dropped' copies copies' x e f =
    record {
      memory = m;
      given_is = empty_given room _ into x.0;
      does = none_done s now _ _ x.1;
      dropped_is = e ∙ sym (ap (λ b. more_if b dropped) x.2);
      copies_is = f ∙ sym (ap (λ b. more_if b copies) x.3);
    }

pub not_other : (a : Arrival) → (a ≡ arrivals.OtherMachine → ⊥) → is_other_machine a ≡ false
not_other arrivals.OtherMachine h = absurd (h refl)
not_other arrivals.Accepted h = refl
not_other arrivals.OldStart h = refl
not_other arrivals.OtherEcho h = refl
not_other arrivals.Repeated h = refl
