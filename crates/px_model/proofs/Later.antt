-- What holds of the messages and nodes of a world goes on holding while ballots rise and the history grows.
use Rattle.std.proofs.Common.{◌≡◌, ℕ, ◌≤◌, Bool, ◌⊎◌, inl, inr, List, Option, Some, None, arith}
use Rattle.px_model.specs.Node.{Entry, Proposal, Phase, Attempt, Lead, Volatile, Message}
use Rattle.px_model.specs.Node.Phase.{Preparing, Accepting}
use Rattle.px_model.specs.Node.Message.{Prepare, Promise, PrepareAll, PromiseAll, Accept, Vote, Nack, Need, Learned, Ask, Asked, AskRefused}
use Rattle.px_model.specs.World.{World}
use Rattle.px_model.specs.Law.{Among, HasSent, Chosen}
use Rattle.px_model.proofs.Backed.{Acceptance, Accepted, record_of, promised_in, Pledge, Known, Backed}
use Rattle.px_model.proofs.Invariant.{Owned, Placed, Proposed, Pledged, SentOk, WaitsOk, Prepares, PhaseOk, AttemptOk, Leads, LeadOk, KeptOk, VolatileOk}

pub record Later {C : Type 0} (w w' : World C) (h h' : List (Acceptance C)) : Type 0 where
  pub promised : (m p : ℕ) → promised_in w m p ≤ promised_in w' m p
  pub round : (m : ℕ) → (record_of w m).meta.round ≤ (record_of w' m).meta.round
  pub number : (m : ℕ) → (record_of w m).meta.number ≤ (record_of w' m).meta.number
  pub learned : (m p : ℕ) (e : Entry C) → (record_of w m).learned p ≡ Some e → (record_of w' m).learned p ≡ Some e
  pub sent : (m : ℕ) (x : Message C) → HasSent w m x → HasSent w' m x
  pub asked : (e : Entry C) → Among w.asked e → Among w'.asked e
  pub history : (m p b : ℕ) (e : Entry C) → Accepted h m p b e → Accepted h' m p b e
  -- what is accepted anew isn't below what was promised
  pub only : (m p b : ℕ) (e : Entry C) → Accepted h' m p b e → Accepted h m p b e ⊎ (promised_in w m p ≤ b)

module _ {C : Type 0} (n : ℕ) (w w' : World C) (h h' : List (Acceptance C)) (l : Later w w' h h') where
  pub pledge_later : (m p b : ℕ) (best : Option (Proposal C)) → Pledge w h m p b best → Pledge w' h' m p b best
  pledge_later m p b best g = record {
    closed = (let a = g.closed in let u = l.promised m p in omega arith);
    bounds = λ c e acc under. elim (l.only m p c e acc) [
      | inl old ↦ g.bounds c e old under
      | inr up ↦ absurd (let a = g.closed in omega arith)
    ];
  }

  pub known_later : (p b : ℕ) (best : Option (Proposal C)) → Known h p b best → Known h' p b best
  known_later p b None k = k
  known_later p b (Some x) k = (k.0, k.1, l.history k.0 p x.ballot x.entry k.2)

  pub backed_later : (p b : ℕ) (e : Entry C) → Backed n w h p b e → Backed n w' h' p b e
  backed_later p b e g = record {
    quorum = g.quorum;
    majority = g.majority;
    best = g.best;
    pledges = λ m lt q. pledge_later m p b g.best (g.pledges m lt q);
    known = known_later p b g.best g.known;
    is_for = g.is_for;
  }

  pub chosen_later : (p : ℕ) (e : Entry C) → Chosen n w p e → Chosen n w' p e
  chosen_later p e c = record {
    ballot = c.ballot;
    quorum = c.quorum;
    majority = c.majority;
    votes = λ m lt q. l.sent m (Vote c.ballot p e) (c.votes m lt q);
  }

  pub owned_later : (m b : ℕ) → Owned w m b → Owned w' m b
  owned_later m b g = record {
    round = g.round;
    is_ballot = g.is_ballot;
    positive = g.positive;
    recorded = (let a = g.recorded in let u = l.round m in omega arith);
  }

  pub placed_later : (p : ℕ) (e : Entry C) → Placed w p e → Placed w' p e
  placed_later p e g q lt = let s = g q lt in (s.0, l.learned e.origin q s.0 s.1, s.2)

  pub proposed_later : (m b p : ℕ) (e : Entry C) → Proposed n w h m b p e → Proposed n w' h' m b p e
  proposed_later m b p e g = record {
    owned = owned_later m b g.owned;
    backed = backed_later p b e g.backed;
    asked = l.asked e g.asked;
    placed = placed_later p e g.placed;
  }

  pub pledged_later : (m b p top : ℕ) (best : Option (Proposal C)) → Pledged w h m b p top best → Pledged w' h' m b p top best
  pledged_later m b p top best g = record {
    here = pledge_later m p b best g.here;
    above = λ q over under. pledge_later m q b None (g.above q over under);
  }

  pub sent_later : (m : ℕ) (x : Message C) → SentOk n w h m x → SentOk n w' h' m x
  sent_later m (Accept b p e) g = proposed_later m b p e g
  sent_later m (Vote b p e) g = l.history m p b e g
  sent_later m (PromiseAll b p t a) g = (pledged_later m b p t a g.0, known_later p b a g.1)
  sent_later m (Learned p e) g = chosen_later p e g
  sent_later m (Prepare b p) g = tt
  sent_later m (Promise b p a) g = tt
  sent_later m (PrepareAll b p) g = tt
  sent_later m (Nack b p q) g = tt
  sent_later m (Need p) g = tt
  sent_later m (Ask t c) g = tt
  sent_later m (Asked t k) g = tt
  sent_later m (AskRefused t k) g = tt

  pub waits_later : (m : ℕ) (e : Entry C) → ((q : ℕ) (f : Entry C) → (record_of w' m).learned q ≡ Some f → (record_of w m).learned q ≡ Some f) → WaitsOk w m e → WaitsOk w' m e
  waits_later m e back g = record {
    mine = g.mine;
    asked = l.asked e g.asked;
    unlearned = λ q f is. g.unlearned q f (back q f is);
  }

  pub prepares_later : (m b p : ℕ) (counted : ℕ → Bool) (top : ℕ) (best : Option (Proposal C)) → ((b q : ℕ) (e : Entry C) → HasSent w' m (Accept b q e) → HasSent w m (Accept b q e)) → Prepares n w h m b p counted top best → Prepares n w' h' m b p counted top best
  prepares_later m b p counted top best back g = record {
    owned = owned_later m b g.owned;
    unused = λ q e s. g.unused q e (back b q e s);
    below = λ q lt. (let s = g.below q lt in (s.0, l.learned m q s.0 s.1));
    pledged = λ k lt c. pledged_later k b p top best (g.pledged k lt c);
    known = known_later p b best g.known;
  }

  pub phase_later : (m b p : ℕ) (x : Phase C) → ((b q : ℕ) (e : Entry C) → HasSent w' m (Accept b q e) → HasSent w m (Accept b q e)) → PhaseOk n w h m b p x → PhaseOk n w' h' m b p x
  phase_later m b p (Preparing counted top best) back g = prepares_later m b p counted top best back g
  phase_later m b p (Accepting e) back g = tt

  pub attempt_later : (m : ℕ) (x : Option (Attempt C)) → ((b q : ℕ) (e : Entry C) → HasSent w' m (Accept b q e) → HasSent w m (Accept b q e)) → AttemptOk n w h m x → AttemptOk n w' h' m x
  attempt_later m None back g = tt
  attempt_later m (Some x) back g = phase_later m x.ballot x.position x.phase back g

  pub leads_later : (m b from : ℕ) → ((b q : ℕ) (e : Entry C) → HasSent w' m (Accept b q e) → HasSent w m (Accept b q e)) → Leads n w h m b from → Leads n w' h' m b from
  leads_later m b from back g = record {
    owned = owned_later m b g.owned;
    unused = λ q e s. g.unused q e (back b q e s);
    quorum = g.quorum;
    majority = g.majority;
    pledges = λ k lt c q over under. pledge_later k q b None (g.pledges k lt c q over under);
  }

  pub lead_later : (m : ℕ) (x : Option Lead) → ((b q : ℕ) (e : Entry C) → HasSent w' m (Accept b q e) → HasSent w m (Accept b q e)) → LeadOk n w h m x → LeadOk n w' h' m x
  lead_later m None back g = tt
  lead_later m (Some x) back g = leads_later m x.ballot x.from back g

  pub kept_later : (kept : (position member : ℕ) → ℕ) → KeptOk n w kept → KeptOk n w' kept
  kept_later kept g p k over = let s = g p k over in (s.0, l.sent k (Vote (kept p k) p s.0) s.1)

  -- where the node itself learned nothing and proposed nothing
  pub volatile_later : (m : ℕ) (v : Volatile C) → ((q : ℕ) (f : Entry C) → (record_of w' m).learned q ≡ Some f → (record_of w m).learned q ≡ Some f) → ((b q : ℕ) (e : Entry C) → HasSent w' m (Accept b q e) → HasSent w m (Accept b q e)) → VolatileOk n w h m v → VolatileOk n w' h' m v
  volatile_later m v learned_back sent_back g = record {
    waiting = λ e a. waits_later m e learned_back (g.waiting e a);
    attempt = attempt_later m v.attempt sent_back g.attempt;
    lead = lead_later m v.lead sent_back g.lead;
    kept = kept_later v.kept g.kept;
  }
