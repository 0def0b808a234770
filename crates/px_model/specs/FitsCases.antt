-- What fits and what doesn't, among three members, where commands below 100 have a spelling.
use Rattle.std.specs.Prelude.{◌≡◌, ℕ, ◌-◌, ◌^◌, true, None, nat_lt}
use Rattle.px_model.specs.Node.{Message, ballot_of, client}
use Rattle.px_model.specs.Node.Message.{PrepareAll, PromiseAll, Vote, Nack, Learned, Ask, Asked, AskRefused}
use Rattle.px_model.specs.Fits.{EnvelopeFits, MetaFits, SlotFits}
use Rattle.px_model.specs.Worked.{entry, proposal}
use Rattle.px_model.specs.Cases.{numbers, slot}

-- a command below 100
abbrev pub IsSmall : ℕ → Type 0
IsSmall c = nat_lt c 100 ≡ true

-- the message can go from one to the other
abbrev pub Goes : (from to : ℕ) → Message ℕ → Type 0
Goes from to x = EnvelopeFits IsSmall 3 (record { sender = from; addressee = to; message = x })

-- rounds are 1 to 2^48-1; a prepare request has the sender's ballot, an answer the addressee's, a vote any member's
pub record BallotsThatFit : Type 0 where
  pub first : Goes 0 1 (PrepareAll (ballot_of 1 0) 0)
  pub last : Goes 2 1 (PrepareAll (ballot_of (2 ^ 48 - 1) 2) 0)
  pub no_round : Goes 0 1 (PrepareAll (ballot_of 0 0) 0) → ⊥
  pub past_the_last : Goes 0 1 (PrepareAll (ballot_of (2 ^ 48) 0) 0) → ⊥
  pub of_another : Goes 0 1 (PrepareAll (ballot_of 1 1) 0) → ⊥
  pub vote_of_another : Goes 0 1 (Vote (ballot_of 1 2) 0 (entry 1 0 7))
  pub vote_of_nobody : Goes 0 1 (Vote (ballot_of 1 3) 0 (entry 1 0 7)) → ⊥
  pub answer : Goes 1 0 (Nack (ballot_of 1 0) 0 (ballot_of 1 1))
  pub answer_to_another : Goes 1 2 (Nack (ballot_of 1 0) 0 (ballot_of 1 1)) → ⊥
  pub lower_promise : Goes 0 1 (Nack (ballot_of 1 1) 0 (ballot_of 1 0)) → ⊥
  pub lower_report : Goes 1 0 (PromiseAll (ballot_of 2 0) 0 1 (proposal (ballot_of 1 2) (entry 1 0 7)))
  pub equal_report : Goes 1 0 (PromiseAll (ballot_of 2 0) 0 1 (proposal (ballot_of 2 0) (entry 1 0 7))) → ⊥

-- positions, tops, entries and commands at their borders, and what goes to and from a client
pub record OthersThatFit : Type 0 where
  pub last_position : Goes 0 1 (Learned 999_999 (entry 1 0 7))
  pub past_the_last : Goes 0 1 (Learned 1_000_000 (entry 1 0 7)) → ⊥
  pub top_at_the_end : Goes 0 1 (PromiseAll (ballot_of 1 1) 0 1_000_000 None)
  pub top_past_the_end : Goes 0 1 (PromiseAll (ballot_of 1 1) 0 1_000_001 None) → ⊥
  pub origin_of_nobody : Goes 0 1 (Learned 0 (entry 3 0 7)) → ⊥
  pub number_spent : Goes 0 1 (Learned 0 (entry 1 (2 ^ 48) 7)) → ⊥
  pub not_spelled : Goes 0 1 (Learned 0 (entry 1 0 100)) → ⊥
  pub nobody : Goes 0 3 (Learned 0 (entry 1 0 7)) → ⊥
  pub from_outside : Goes client 1 (Ask 5 7)
  pub from_a_member : Goes 0 1 (Ask 5 7) → ⊥
  pub answers_a_client : Goes 0 client (Asked 5 (2 ^ 48 - 1))
  pub answers_a_member : Goes 0 1 (Asked 5 0) → ⊥
  pub refused : Goes 0 client (AskRefused 5 62)
  pub refused_otherwise : Goes 0 client (AskRefused 5 61) → ⊥

-- a record's numbers and slots at the borders of what fits
pub record RowsThatFit : Type 0 where
  pub numbers_spent : MetaFits 3 (numbers (2 ^ 48 - 1) (2 ^ 48) (ballot_of 1 2))
  pub rounds_past : MetaFits 3 (numbers (2 ^ 48) 0 0) → ⊥
  pub floor_of_nobody : MetaFits 3 (numbers 0 0 (ballot_of 1 3)) → ⊥
  pub accepted_here : SlotFits IsSmall 3 (slot (ballot_of 1 0) (proposal (ballot_of 1 0) (entry 1 0 7)))
  pub accepted_above : SlotFits IsSmall 3 (slot (ballot_of 1 0) (proposal (ballot_of 1 1) (entry 1 0 7))) → ⊥
  pub promised_no_ballot : SlotFits IsSmall 3 (slot 255 None) → ⊥
