-- From backed proposals to the agreement: Lamport's P2c gives his P2b, and that P2 (Paxos Made Simple, 2.2). How a
-- proposal is backed doesn't matter here.
use Rattle.std.proofs.Common.{◌≡◌, ℕ, zero, suc, ◌<◌, ◌≤◌, inl, inr, List, Option, Some, None, arith, sym, subst, ◌∙◌}
use Rattle.std.proofs.lemmas.Bool.{cases_lt}
use Rattle.px_model.specs.Node.{Entry, Proposal}
use Rattle.px_model.specs.Node.Message.{Accept}
use Rattle.px_model.specs.World.{World}
use Rattle.px_model.specs.Law.{HasSent, Chosen, Agree}
use Rattle.px_model.proofs.Basics.{majorities_meet}
use Rattle.px_model.proofs.Backed.{Acceptance, AtMost, Known, IsFor, Grounds}

module _ {C : Type 0} (n : ℕ) (w : World C) (h : List (Acceptance C)) (g : Grounds n w h) where
  -- what was chosen was proposed in that ballot
  pub chosen_proposed : (p : ℕ) (e : Entry C) (c : Chosen n w p e) → (k : ℕ) × HasSent w k (Accept c.ballot p e)
  chosen_proposed p e c =
      let s = majorities_meet n c.quorum c.quorum c.majority c.majority in
      g.proposed s.0 p c.ballot e (g.voted s.0 p c.ballot e (c.votes s.0 s.1 s.2))

  -- the entry of the best report is the chosen one, where that is so of lower ballots
  from_best : (p : ℕ) (e f : Entry C) (c b : ℕ) (best : Option (Proposal C)) → AtMost best c → Known h p b best → IsFor best f → ((k d : ℕ) (u : Entry C) → d < b → c ≤ d → HasSent w k (Accept d p u) → u ≡ e) → f ≡ e
  from_best p e f c b None at known is_for below = absurd at
  from_best p e f c b (Some x) at known is_for below =
      let s = g.proposed known.0 p x.ballot x.entry known.2 in
      sym is_for ∙ below s.0 x.ballot x.entry known.1 at s.1

  -- every proposal at or above the ballot of a choice is for the chosen entry (Lamport's P2b)
  safe : (limit p : ℕ) (e : Entry C) (c : Chosen n w p e) (k b : ℕ) (f : Entry C) → b < limit → c.ballot ≤ b → HasSent w k (Accept b p f) → f ≡ e
  safe zero p e c k b f under over s = absurd (omega arith)
  safe (suc limit) p e c k b f under over s =
      elim (cases_lt c.ballot b) [
        | inl higher ↦
            let backed = g.backed k b p f s in
            let both = majorities_meet n c.quorum backed.quorum c.majority backed.majority in
            let acc = g.voted both.0 p c.ballot e (c.votes both.0 both.1 both.2) in
            let at = (backed.pledges both.0 both.1 both.3).bounds c.ballot e acc higher in
            from_best p e f c.ballot b backed.best at backed.known backed.is_for
            (λ j d u lower upper t. safe limit p e c j d u (omega arith) upper t)
        | inr lower ↦
            let same : c.ballot ≡ b = omega arith in
            let first = chosen_proposed p e c in
            g.unique k first.0 b p f e s (subst (λ (d : ℕ). HasSent w first.0 (Accept d p e)) same first.1)
      ]

  pub one_chosen : (p : ℕ) (e f : Entry C) → Chosen n w p e → Chosen n w p f → e ≡ f
  one_chosen p e f c d =
      let s = chosen_proposed p e c in
      let t = chosen_proposed p f d in
      elim (cases_lt c.ballot d.ballot) [
        | inl l ↦ sym (safe (suc d.ballot) p e c t.0 d.ballot f (omega arith) (omega arith) t.1)
        | inr l ↦ safe (suc c.ballot) p f d s.0 c.ballot e (omega arith) l s.1
      ]

  pub agree : Agree n w
  agree = record {
    one_learned = λ p e f m k a b. one_chosen p e f (g.learned m p e a) (g.learned k p f b);
    was_chosen = g.learned;
    was_asked = λ m p e a.
        let c = g.learned m p e a in
        let s = chosen_proposed p e c in
        g.asked s.0 c.ballot p e s.1;
    one_chosen = one_chosen;
  }
