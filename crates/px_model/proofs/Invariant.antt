-- What holds of every world that is reached, with its history.
use Rattle.std.proofs.Common.{◌≡◌, ℕ, ◌<◌, ◌≤◌, Bool, true, List, [], ◌∷◌, Option, Some, None}
use Rattle.px_model.specs.Node.{Entry, Proposal, Slot, Record, Phase, Attempt, Lead, Volatile, Message, ballot_of}
use Rattle.px_model.specs.Node.Phase.{Preparing, Accepting}
use Rattle.px_model.specs.Node.Message.{Prepare, Promise, PrepareAll, PromiseAll, Accept, Vote, Nack, Need, Learned, Ask, Asked, AskRefused}
use Rattle.px_model.specs.Step.{IsMajority, positions}
use Rattle.px_model.specs.World.{World}
use Rattle.px_model.proofs.Backed.{Acceptance, Accepted, record_of, AtMost, Pledge, Known, Backed}
use Rattle.px_model.specs.Law.{Among, HasSent, Votes, Chosen, HasLearned}

-- ---- messages

-- the ballot is m's own, of a round that m has recorded
pub record Owned {C : Type 0} (w : World C) (m b : ℕ) : Type 0 where
  pub round : ℕ
  pub is_ballot : b ≡ ballot_of round m
  pub positive : 1 ≤ round
  pub recorded : round ≤ (record_of w m).meta.round

-- e's origin learned another entry at each position before p
abbrev pub Placed : {C : Type 0} → World C → ℕ → Entry C → Type 0
Placed {C} w p e = (q : ℕ) → q < p → (f : Entry C) × ((record_of w e.origin).learned q ≡ Some f) × (f ≡ e → ⊥)

pub record Proposed {C : Type 0} (n : ℕ) (w : World C) (h : List (Acceptance C)) (m b p : ℕ) (e : Entry C) : Type 0 where
  pub owned : Owned w m b
  pub backed : Backed n w h p b e
  pub asked : Among w.asked e
  pub placed : Placed w p e

-- what m pledged at p, and that it accepted nothing from top on, as far as positions go
pub record Pledged {C : Type 0} (w : World C) (h : List (Acceptance C)) (m b p top : ℕ) (best : Option (Proposal C)) : Type 0 where
  pub here : Pledge w h m p b best
  pub above : (q : ℕ) → top ≤ q → q < positions → Pledge w h m q b None

abbrev pub SentOk : {C : Type 0} → (n : ℕ) → World C → List (Acceptance C) → (m : ℕ) → Message C → Type 0
SentOk n w h m (Accept b p e) = Proposed n w h m b p e
SentOk n w h m (Vote b p e) = Accepted h m p b e
SentOk n w h m (PromiseAll b p t a) = Pledged w h m b p t a × Known h p b a
SentOk n w h m (Learned p e) = Chosen n w p e
SentOk n w h m (Prepare b p) = Unit {0}
SentOk n w h m (Promise b p a) = Unit {0}
SentOk n w h m (PrepareAll b p) = Unit {0}
SentOk n w h m (Nack b p q) = Unit {0}
SentOk n w h m (Need p) = Unit {0}
SentOk n w h m (Ask t c) = Unit {0}
SentOk n w h m (Asked t k) = Unit {0}
SentOk n w h m (AskRefused t k) = Unit {0}

-- ---- nodes

abbrev pub IsReal : {C : Type 0} → List (Acceptance C) → (m p promised : ℕ) → Option (Proposal C) → Type 0
IsReal h m p promised None = Unit {0}
IsReal h m p promised (Some x) = Accepted h m p x.ballot x.entry × (x.ballot ≤ promised)

-- the slot has the proposal of highest ballot that m accepted at p
pub record SlotOk {C : Type 0} (h : List (Acceptance C)) (m p : ℕ) (slot : Slot C) : Type 0 where
  pub highest : (c : ℕ) (e : Entry C) → Accepted h m p c e → AtMost slot.accepted c
  pub real : IsReal h m p slot.promised slot.accepted

pub record RecordOk {C : Type 0} (n : ℕ) (w : World C) (h : List (Acceptance C)) (m : ℕ) (d : Record C) : Type 0 where
  pub slots : (p : ℕ) → SlotOk h m p (d.slots p)
  pub learned : (p : ℕ) (e : Entry C) → d.learned p ≡ Some e → Chosen n w p e

pub record WaitsOk {C : Type 0} (w : World C) (m : ℕ) (e : Entry C) : Type 0 where
  pub mine : e.origin ≡ m
  pub asked : Among w.asked e
  pub unlearned : (q : ℕ) (f : Entry C) → (record_of w m).learned q ≡ Some f → f ≡ e → ⊥

pub record Prepares {C : Type 0} (n : ℕ) (w : World C) (h : List (Acceptance C)) (m b p : ℕ) (counted : ℕ → Bool) (top : ℕ) (best : Option (Proposal C)) : Type 0 where
  pub owned : Owned w m b
  pub unused : (q : ℕ) (e : Entry C) → HasSent w m (Accept b q e) → ⊥
  pub below : (q : ℕ) → q < p → (f : Entry C) × ((record_of w m).learned q ≡ Some f)
  pub pledged : (k : ℕ) → k < n → counted k ≡ true → Pledged w h k b p top best
  pub known : Known h p b best

abbrev pub PhaseOk : {C : Type 0} → (n : ℕ) → World C → List (Acceptance C) → (m b p : ℕ) → Phase C → Type 0
PhaseOk n w h m b p (Preparing counted top best) = Prepares n w h m b p counted top best
PhaseOk n w h m b p (Accepting e) = Unit {0}

abbrev pub AttemptOk : {C : Type 0} → (n : ℕ) → World C → List (Acceptance C) → (m : ℕ) → Option (Attempt C) → Type 0
AttemptOk n w h m None = Unit {0}
AttemptOk n w h m (Some x) = PhaseOk n w h m x.ballot x.position x.phase

-- from here on a majority accepted nothing below b, and accepts nothing any more; nor was b used there
pub record Leads {C : Type 0} (n : ℕ) (w : World C) (h : List (Acceptance C)) (m b from : ℕ) : Type 0 where
  pub owned : Owned w m b
  pub unused : (q : ℕ) (e : Entry C) → HasSent w m (Accept b q e) → q < from
  pub quorum : ℕ → Bool
  pub majority : IsMajority n quorum
  pub pledges : (k : ℕ) → k < n → quorum k ≡ true → (q : ℕ) → from ≤ q → q < positions → Pledge w h k q b None

abbrev pub LeadOk : {C : Type 0} → (n : ℕ) → World C → List (Acceptance C) → (m : ℕ) → Option Lead → Type 0
LeadOk n w h m None = Unit {0}
LeadOk n w h m (Some x) = Leads n w h m x.ballot x.from

abbrev pub KeptOk : {C : Type 0} → (n : ℕ) → World C → ((position member : ℕ) → ℕ) → Type 0
KeptOk {C} n w kept = (p k : ℕ) → 0 < kept p k → (e : Entry C) × Votes w k p (kept p k) e

pub record VolatileOk {C : Type 0} (n : ℕ) (w : World C) (h : List (Acceptance C)) (m : ℕ) (v : Volatile C) : Type 0 where
  pub waiting : (e : Entry C) → Among v.waiting e → WaitsOk w m e
  pub attempt : AttemptOk n w h m v.attempt
  pub lead : LeadOk n w h m v.lead
  pub kept : KeptOk n w v.kept

-- ---- the whole

-- no two entries have one origin and number
abbrev pub NamedOnce : {C : Type 0} → List (Entry C) → Type 0
NamedOnce [] = Unit {0}
NamedOnce {C} (x ∷ xs) = ((e : Entry C) → Among xs e → e.origin ≡ x.origin → e.number ≡ x.number → ⊥) × NamedOnce xs

pub record Inv {C : Type 0} (n : ℕ) (w : World C) (h : List (Acceptance C)) : Type 0 where
  pub stored : (m : ℕ) → RecordOk n w h m (record_of w m)
  pub volatile : (m : ℕ) → VolatileOk n w h m (w.nodes m).volatile
  pub members : (m : ℕ) (x : Message C) → HasSent w m x → m < n
  pub sent : (m : ℕ) (x : Message C) → HasSent w m x → SentOk n w h m x
  -- no ballot carries two entries at a position
  pub unique : (m k b p : ℕ) (e f : Entry C) → HasSent w m (Accept b p e) → HasSent w k (Accept b p f) → e ≡ f
  pub history : (m p b : ℕ) (e : Entry C) → Accepted h m p b e → (k : ℕ) × HasSent w k (Accept b p e)
  pub learned : (m p : ℕ) (e : Entry C) → HasLearned w m p e → Chosen n w p e
  -- what was ever learned is what the records have
  pub recorded : (m p : ℕ) (e : Entry C) → HasLearned w m p e → (record_of w m).learned p ≡ Some e
  pub noted : (m p : ℕ) (e : Entry C) → (record_of w m).learned p ≡ Some e → HasLearned w m p e
  pub asked : (e : Entry C) → Among w.asked e → e.number < (record_of w e.origin).meta.number
  pub named_once : NamedOnce w.asked
