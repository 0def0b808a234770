-- Never stuck: after any events, a majority of running members can learn each entry that waits at one of them, by ticks
-- and new messages among themselves alone. No clock and no fairness is assumed: the laws state what can happen, not
-- what will.
use Rattle.std.specs.Prelude.{◌≡◌, ℕ, ◌+◌, ◌-◌, ◌*◌, ◌^◌, ◌<◌, ◌≤◌, Bool, true, List, [], ◌∷◌, ◌++◌, length}
use Rattle.std.specs.Prelude.{Option, Some, None, if◌then◌else◌, nat_eq, slice_get}
use Rattle.px_model.specs.Node.{IsEquality, Entry, Envelope, round_of}
use Rattle.px_model.specs.Step.{IsMajority, positions, promised_at, front}
use Rattle.px_model.specs.World.{World, NodeState, Event, happens, run}
use Rattle.px_model.specs.World.Action.{Ask, AskFrom, Tick, Deliver}
use Rattle.px_model.specs.World.Event.{Runs, StopBefore, StopAfter, Restart}
use Rattle.px_model.specs.Law.{learned_of, world_after}

-- ---- what may happen from here on

-- a message was sent, by one of these members and to one of them
abbrev pub IsExchanged : {C : Type 0} → (members : ℕ → Bool) → Option (Envelope C) → Type 0
IsExchanged members None = ⊥
IsExchanged members (Some x) = (members x.sender ≡ true) × (members x.addressee ≡ true)

-- The event is a tick of one of these clocks, or the delivery of a message between these members, which isn't among
-- the first `old` messages.
abbrev pub IsWithin : {C : Type 0} → (old : ℕ) → (clocks members : ℕ → Bool) → World C → Event C → Type 0
IsWithin old clocks members w (Runs (Tick m)) = clocks m ≡ true
IsWithin old clocks members w (Runs (Deliver k)) = (old ≤ k) × IsExchanged members (slice_get w.sent k)
IsWithin old clocks members w (Runs (Ask m c)) = ⊥
IsWithin old clocks members w (Runs (AskFrom m token c)) = ⊥
IsWithin old clocks members w (StopBefore a) = ⊥
IsWithin old clocks members w (StopAfter a) = ⊥
IsWithin old clocks members w (Restart m) = ⊥

-- so is each of the events, in the world that those before it made
abbrev pub AreWithin : {C : Type 0} → (C → C → Bool) → (n old : ℕ) → (clocks members : ℕ → Bool) → World C →
    List (Event C) → Type 0
AreWithin same n old clocks members w [] = Unit {0}
AreWithin same n old clocks members w (e ∷ es) =
    IsWithin old clocks members w e × AreWithin same n old clocks members (happens same n w e) es

-- At most `limit` events lead to a world with this property: ticks of these clocks, and deliveries of messages that
-- these members send each other in these very events. Nothing that was sent before is delivered.
pub record CanReach {C : Type 0} (same : C → C → Bool) (n : ℕ) (clocks members : ℕ → Bool) (w : World C) (limit : ℕ)
    (Wanted : World C → Type 0) : Type 0 where
  pub events : List (Event C)
  pub few : length events ≤ limit
  pub within : AreWithin same n (length w.sent) clocks members w events
  pub reached : Wanted (run same n events w)

-- this member alone
abbrev pub only : (member : ℕ) → ℕ → Bool
only m k = nat_eq k m

-- ---- what must be left

-- The member accepted nothing from the position top on, and each round that it used, heard of or promised is at most r.
pub record IsUpTo {C : Type 0} (top r : ℕ) (s : NodeState C) : Type 0 where
  pub accepted : (p : ℕ) → top ≤ p → p < positions → (s.stored.slots p).accepted ≡ None
  pub promised : (p : ℕ) → round_of (promised_at s.stored.meta (s.stored.slots p)) ≤ r
  pub used : s.stored.meta.round ≤ r
  pub heard : s.volatile.seen ≤ r

-- A majority, whose members run, accepted nothing from the position top on, and know of no round above r.
pub record RunningMajority {C : Type 0} (n : ℕ) (w : World C) (members : ℕ → Bool) (top r : ℕ) : Type 0 where
  pub majority : IsMajority n members
  pub running : (k : ℕ) → k < n → members k ≡ true → (w.nodes k).is_up ≡ true
  pub up_to : (k : ℕ) → k < n → members k ≡ true → IsUpTo top r (w.nodes k)

-- the member learned the entry at some position
abbrev pub HasEntry : {C : Type 0} → (member : ℕ) → Entry C → World C → Type 0
HasEntry m e w = (p : ℕ) × (learned_of w m p ≡ Some e)

-- The entry e waits at the member m of a running majority, behind the entries `before`.
pub record Waits {C : Type 0} (n : ℕ) (w : World C) (members : ℕ → Bool) (top r m : ℕ) (before : List (Entry C))
    (e : Entry C) : Type 0 where
  pub majority_runs : RunningMajority n w members top r
  pub member : m < n
  pub belongs : members m ≡ true
  pub rest : List (Entry C)
  pub waiting : (w.nodes m).volatile.waiting ≡ before ++ e ∷ rest

-- the number of positions from the front to the last
abbrev pub positions_left : (front last : ℕ) → ℕ
positions_left front last = last - front + 1

-- ---- the laws

-- After any events, if e waits at the member m of a running majority, m can learn e by its own ticks and by new
-- messages between members of the majority. The last position that this may take is top, plus one for each entry that
-- waits before e: it must exist, with two rounds for each position up to it. Three ticks and six messages a member are
-- enough for each.
abbrev pub NeverStuck : (C : Type 0) → Type 0
NeverStuck C =
    (same : C → C → Bool) → IsEquality same → (n : ℕ) → 1 ≤ n → n ≤ 15 →
    (events : List (Event C)) (members : ℕ → Bool) (top r m : ℕ) (before : List (Entry C)) (e : Entry C) →
    let w : World C = world_after same n events in
    let last : ℕ = top + length before in
    Waits n w members top r m before e → last < positions →
    r + 2 * positions_left (front (learned_of w m)) last < 2 ^ 48 →
    CanReach same n (only m) members w (positions_left (front (learned_of w m)) last * (6 * n + 3)) (HasEntry m e)

-- each of these members learned the entry
abbrev pub AllHave : {C : Type 0} → (n : ℕ) → (members : ℕ → Bool) → Entry C → World C → Type 0
AllHave n members e w = (k : ℕ) → k < n → members k ≡ true → HasEntry k e w

-- The same of all members of the majority, by the ticks of all, with two rounds for each member and position.
abbrev pub AllLearn : (C : Type 0) → Type 0
AllLearn C =
    (same : C → C → Bool) → IsEquality same → (n : ℕ) → 1 ≤ n → n ≤ 15 →
    (events : List (Event C)) (members : ℕ → Bool) (top r m : ℕ) (before : List (Entry C)) (e : Entry C) →
    let w : World C = world_after same n events in
    let last : ℕ = top + length before in
    Waits n w members top r m before e → last < positions →
    r + 2 * ((n + 1) * (last + 1)) < 2 ^ 48 →
    CanReach same n members members w ((n + 1) * (last + 1) * (6 * n + 3)) (AllHave n members e)

-- ---- catching up

-- these two members
abbrev pub pair : (k m : ℕ) → ℕ → Bool
pair k m j = if nat_eq j k then true else nat_eq j m

-- After any events, a running member k at which nothing waits can reach the front of any other running member m, by its
-- own ticks and by new messages between the two: three events a position, with no round and no majority.
abbrev pub CatchesUp : (C : Type 0) → Type 0
CatchesUp C =
    (same : C → C → Bool) → IsEquality same → (n : ℕ) → 1 ≤ n → n ≤ 15 →
    (events : List (Event C)) (k m : ℕ) →
    let w : World C = world_after same n events in
    k < n → m < n → (w.nodes k).is_up ≡ true → (w.nodes m).is_up ≡ true → (w.nodes k).volatile.waiting ≡ [] →
    CanReach same n (only k) (pair k m) w (3 * (front (learned_of w m) - front (learned_of w k)))
    (λ z. front (learned_of w m) ≤ front (learned_of z k))
