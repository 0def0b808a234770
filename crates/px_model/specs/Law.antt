-- What is promised of every world that is reached. Paxos Made Simple asks for it in 2.1: nothing is chosen that
-- wasn't proposed, one value at most is chosen, nobody learns a value that isn't chosen.
use Rattle.std.specs.Prelude.{◌≡◌, ℕ, zero, suc, ◌<◌, ◌≤◌, Bool, true, ◌⊎◌, List, [], ◌∷◌}
use Rattle.std.specs.Prelude.{◌++◌, Option, Some, None}
use Rattle.px_model.specs.Node.{IsEquality, Entry, Log, Message}
use Rattle.px_model.specs.Node.Message.{Vote}
use Rattle.px_model.specs.Step.{IsMajority}
use Rattle.px_model.specs.World.{World, Event, run, start}

-- x is one of the list
abbrev pub Among : {X : Type 0} → List X → X → Type 0
Among [] x = ⊥
Among (y ∷ ys) x = (y ≡ x) ⊎ Among ys x

-- the member sent this message to somebody
abbrev pub HasSent : {C : Type 0} → World C → (member : ℕ) → Message C → Type 0
HasSent w m x = (to : ℕ) × Among w.sent (record { sender = m; addressee = to; message = x })

-- The member voted for the entry at the position, in the ballot (2.2, phase 2b).
abbrev pub Votes : {C : Type 0} → World C → (member position ballot : ℕ) → Entry C → Type 0
Votes w m p b e = HasSent w m (Vote b p e)

-- An entry is chosen at a position: the members of a majority all voted for it there in one ballot (2.2).
pub record Chosen {C : Type 0} (n : ℕ) (w : World C) (p : ℕ) (e : Entry C) : Type 0 where
  pub ballot : ℕ
  pub quorum : ℕ → Bool
  pub majority : IsMajority n quorum
  pub votes : (m : ℕ) → m < n → quorum m ≡ true → Votes w m p ballot e

-- the member ever learned the entry at the position
abbrev pub HasLearned : {C : Type 0} → World C → (member position : ℕ) → Entry C → Type 0
HasLearned w m p e = Among w.learned (record { member = m; position = p; entry = e })

-- ---- the members agree

-- What was ever learned at a position is one entry, chosen there and asked; at most one is chosen (2.1).
pub record Agree {C : Type 0} (n : ℕ) (w : World C) : Type 0 where
  pub one_learned : (p : ℕ) (e f : Entry C) (m k : ℕ) → HasLearned w m p e → HasLearned w k p f → e ≡ f
  pub was_chosen : (m p : ℕ) (e : Entry C) → HasLearned w m p e → Chosen n w p e
  pub was_asked : (m p : ℕ) (e : Entry C) → HasLearned w m p e → Among w.asked e
  pub one_chosen : (p : ℕ) (e f : Entry C) → Chosen n w p e → Chosen n w p f → e ≡ f

-- ---- an entry acts once

-- no element twice
abbrev pub NoneTwice : {X : Type 0} → List X → Type 0
NoneTwice [] = Unit {0}
NoneTwice (x ∷ xs) = ¬ (Among xs x) × NoneTwice xs

-- No entry is learned at two positions; a request that records its number makes one never asked before (own).
pub record Once {C : Type 0} (w : World C) : Type 0 where
  pub one_position : (e : Entry C) (m p k q : ℕ) → HasLearned w m p e → HasLearned w k q e → p ≡ q
  pub asked_once : NoneTwice w.asked
  pub one_name : (e f : Entry C) → Among w.asked e → Among w.asked f →
      e.origin ≡ f.origin → e.number ≡ f.number → e ≡ f

-- ---- nothing learned is lost

-- what the member has learned, in its record
abbrev pub learned_of : {C : Type 0} → World C → (member : ℕ) → Log C
learned_of w m = (w.nodes m).stored.learned

-- What a member ever learned is in its record, and nothing else is there as learned (own; 2.5).
pub record Kept {C : Type 0} (w : World C) : Type 0 where
  pub is_recorded : (m p : ℕ) (e : Entry C) → HasLearned w m p e → learned_of w m p ≡ Some e
  pub was_learned : (m p : ℕ) (e : Entry C) → learned_of w m p ≡ Some e → HasLearned w m p e

-- ---- equal logs give equal states

-- the state with the next entry taken up, if both are there
abbrev pub next_state : {C S : Type 0} → (S → Entry C → S) → Option S → Option (Entry C) → Option S
next_state f None e = None
next_state f (Some s) None = None
next_state f (Some s) (Some e) = Some (f s e)

-- the state that the entries at positions 0 to k-1 make of s, none where one of them isn't learned
abbrev pub state_after : {C S : Type 0} → (S → Entry C → S) → (s : S) → Log C → (k : ℕ) → Option S
state_after f s learned zero = Some s
state_after f s learned (suc k) = next_state f (state_after f s learned k) (learned k)

-- ---- the laws: for 1 to 15 members, and any events

-- the world of n members after these events, from the start on
abbrev pub world_after : {C : Type 0} → (C → C → Bool) → (n : ℕ) → List (Event C) → World C
world_after same n events = run same n events start

-- the members agree
abbrev pub AlwaysAgree : (C : Type 0) → Type 0
AlwaysAgree C =
    (same : C → C → Bool) → IsEquality same → (n : ℕ) → 1 ≤ n → n ≤ 15 →
    (events : List (Event C)) →
    Agree n (world_after same n events)

-- each entry acts once
abbrev pub AlwaysOnce : (C : Type 0) → Type 0
AlwaysOnce C =
    (same : C → C → Bool) → IsEquality same → (n : ℕ) → 1 ≤ n → n ≤ 15 →
    (events : List (Event C)) →
    Once (world_after same n events)

-- nothing learned is lost
abbrev pub AlwaysKept : (C : Type 0) → Type 0
AlwaysKept C =
    (same : C → C → Bool) → IsEquality same → (n : ℕ) → 1 ≤ n → n ≤ 15 →
    (events : List (Event C)) →
    Kept (world_after same n events)

-- At two moments of a run, two members that have learned positions 0 to k-1 make one state of them (3).
abbrev pub AlwaysSameState : (C S : Type 0) → Type 0
AlwaysSameState C S =
    (same : C → C → Bool) → IsEquality same → (n : ℕ) → 1 ≤ n → n ≤ 15 →
    (before after : List (Event C)) →
    (f : S → Entry C → S) (s : S) (k m j : ℕ) (x y : S) →
    state_after f s (learned_of (world_after same n before) m) k ≡ Some x →
    state_after f s (learned_of (world_after same n (before ++ after)) j) k ≡ Some y →
    x ≡ y
