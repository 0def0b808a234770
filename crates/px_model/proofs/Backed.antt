-- The core fact: every proposal ever made is backed. h is the history: every proposal that a member ever accepted,
-- whether or not its votes were sent.
use Rattle.std.proofs.Common.{◌≡◌, ℕ, ◌<◌, ◌≤◌, Bool, true, List, Option, Some, None}
use Rattle.px_model.specs.Node.{Entry, Proposal, Record}
use Rattle.px_model.specs.Node.Message.{Accept}
use Rattle.px_model.specs.Step.{IsMajority, promised_at}
use Rattle.px_model.specs.World.{World}
use Rattle.px_model.specs.Law.{Among, HasSent, Votes, HasLearned, Chosen}

-- a member accepted an entry at a position, in a ballot
pub record Acceptance (C : Type 0) : Type 0 where
  pub member : ℕ
  pub position : ℕ
  pub ballot : ℕ
  pub entry : Entry C

abbrev pub Accepted : {C : Type 0} → List (Acceptance C) → (m p b : ℕ) → Entry C → Type 0
Accepted h m p b e = Among h (record { member = m; position = p; ballot = b; entry = e })

abbrev pub record_of : {C : Type 0} → World C → ℕ → Record C
record_of w m = (w.nodes m).stored

abbrev pub promised_in : {C : Type 0} → World C → (m p : ℕ) → ℕ
promised_in w m p = promised_at (record_of w m).meta ((record_of w m).slots p)

-- best is there, and of a ballot not below c
abbrev pub AtMost : {C : Type 0} → Option (Proposal C) → (c : ℕ) → Type 0
AtMost None c = ⊥
AtMost (Some x) c = c ≤ x.ballot

-- m accepts nothing below b at p any more, and nothing that it accepted there below b is above best
pub record Pledge {C : Type 0} (w : World C) (h : List (Acceptance C)) (m p b : ℕ) (best : Option (Proposal C)) : Type 0 where
  pub closed : b ≤ promised_in w m p
  pub bounds : (c : ℕ) (e : Entry C) → Accepted h m p c e → c < b → AtMost best c

-- best is none, or somebody accepted it at p, below b
abbrev pub Known : {C : Type 0} → List (Acceptance C) → (p b : ℕ) → Option (Proposal C) → Type 0
Known h p b None = Unit {0}
Known h p b (Some x) = (m : ℕ) × (x.ballot < b) × Accepted h m p x.ballot x.entry

abbrev pub IsFor : {C : Type 0} → Option (Proposal C) → Entry C → Type 0
IsFor None e = Unit {0}
IsFor (Some x) e = x.entry ≡ e

-- e may be proposed at p in b: there is a majority in which nobody accepts below b there any more, and of what they
-- had accepted there below b the one of highest ballot is for e, or there is none (Lamport's P2c)
pub record Backed {C : Type 0} (n : ℕ) (w : World C) (h : List (Acceptance C)) (p b : ℕ) (e : Entry C) : Type 0 where
  pub quorum : ℕ → Bool
  pub majority : IsMajority n quorum
  pub best : Option (Proposal C)
  pub pledges : (m : ℕ) → m < n → quorum m ≡ true → Pledge w h m p b best
  pub known : Known h p b best
  pub is_for : IsFor best e

-- What the agreement is drawn from: every proposal ever made is backed and was asked, no ballot carries two entries at
-- a position, a vote is of what was accepted, what was accepted was proposed, and what was learned was chosen.
pub record Grounds {C : Type 0} (n : ℕ) (w : World C) (h : List (Acceptance C)) : Type 0 where
  pub backed : (m b p : ℕ) (e : Entry C) → HasSent w m (Accept b p e) → Backed n w h p b e
  pub asked : (m b p : ℕ) (e : Entry C) → HasSent w m (Accept b p e) → Among w.asked e
  pub unique : (m k b p : ℕ) (e f : Entry C) → HasSent w m (Accept b p e) → HasSent w k (Accept b p f) → e ≡ f
  pub voted : (m p b : ℕ) (e : Entry C) → Votes w m p b e → Accepted h m p b e
  pub proposed : (m p b : ℕ) (e : Entry C) → Accepted h m p b e → (k : ℕ) × HasSent w k (Accept b p e)
  pub learned : (m p : ℕ) (e : Entry C) → HasLearned w m p e → Chosen n w p e
