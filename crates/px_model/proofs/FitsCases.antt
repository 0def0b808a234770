-- What fits and what doesn't, case by case.
use Rattle.std.proofs.Common.{◌≡◌, ℕ, ◌-◌, ◌^◌, ◌<◌, ◌≤◌, true, false, inl, inr, arith, refl}
use Rattle.px_model.specs.Node.{ballot_of}
use Rattle.px_model.specs.Fits.{IsBallotOf, EntryFits}
use Rattle.px_model.specs.Worked.{entry}
use Rattle.px_model.proofs.Ranges.{own_ballot}
use Rattle.px_model.specs.FitsCases.{IsSmall, BallotsThatFit, OthersThatFit, RowsThatFit}

small_entry : EntryFits IsSmall 3 (entry 1 0 7)
small_entry = record { origin = omega arith; number = omega arith; command = refl }

own : (r m : ℕ) → 1 ≤ r → r < 2 ^ 48 → m < 3 → IsBallotOf 3 m (ballot_of r m)
own r m low high member = own_ballot 3 m r member (omega arith) low high

pub ballots_that_fit : BallotsThatFit
ballots_that_fit = record {
  first = record { between = (omega arith, omega arith); message = (own 1 0 (omega arith) (omega arith) (omega arith), omega arith) };
  last = record { between = (omega arith, omega arith); message = (own (2 ^ 48 - 1) 2 (omega arith) (omega arith) (omega arith), omega arith) };
  no_round = λ g. (let u = g.message.0.0.begun in absurd (omega arith));
  past_the_last = λ g. (let u = g.message.0.0.round in absurd (omega arith));
  of_another = λ g. (let u = g.message.0.1 in absurd (omega arith));
  vote_of_another = record { between = (omega arith, omega arith); message = ((own 1 2 (omega arith) (omega arith) (omega arith)).0, omega arith, small_entry) };
  vote_of_nobody = λ g. (let u = g.message.0.member in absurd (omega arith));
  answer = record { between = (omega arith, omega arith); message = (own 1 0 (omega arith) (omega arith) (omega arith), omega arith, (own 1 1 (omega arith) (omega arith) (omega arith)).0, omega arith) };
  answer_to_another = λ g. (let u = g.message.0.1 in absurd (omega arith));
  lower_promise = λ g. (let u = g.message.3 in absurd (omega arith));
  lower_report = record { between = (omega arith, omega arith); message = (own 2 0 (omega arith) (omega arith) (omega arith), omega arith, omega arith, (record { ballot = (own 1 2 (omega arith) (omega arith) (omega arith)).0; entry = small_entry }, omega arith)) };
  equal_report = λ g. (let u = g.message.3.1 in absurd (omega arith));
}

pub others_that_fit : OthersThatFit
others_that_fit = record {
  last_position = record { between = (omega arith, omega arith); message = (omega arith, small_entry) };
  past_the_last = λ g. (let u = g.message.0 in absurd (omega arith));
  top_at_the_end = record { between = (omega arith, omega arith); message = (own 1 1 (omega arith) (omega arith) (omega arith), omega arith, omega arith, tt) };
  top_past_the_end = λ g. (let u = g.message.2 in absurd (omega arith));
  origin_of_nobody = λ g. (let u = g.message.1.origin in absurd (omega arith));
  number_spent = λ g. (let u = g.message.1.number in absurd (omega arith));
  not_spelled = λ g. (let u : false ≡ true = g.message.1.command in absurd (cc));
  nobody = λ g. (let u = g.between.1 in absurd (omega arith));
  from_outside = record { between = (refl, omega arith); message = (omega arith, refl) };
  from_a_member = λ g. (let u = g.between.0 in absurd (omega arith));
  answers_a_client = record { between = (omega arith, refl); message = (omega arith, omega arith) };
  answers_a_member = λ g. (let u = g.between.1 in absurd (omega arith));
  refused = record { between = (omega arith, refl); message = (omega arith, inr refl) };
  refused_otherwise = λ g. elim g.message.1 [ inl u ↦ absurd (omega arith) | inr u ↦ absurd (omega arith) ];
}

pub rows_that_fit : RowsThatFit
rows_that_fit = record {
  numbers_spent = record { round = omega arith; number = omega arith; floor = inr (own 1 2 (omega arith) (omega arith) (omega arith)).0 };
  rounds_past = λ g. (let u = g.round in absurd (omega arith));
  floor_of_nobody = λ g. elim g.floor [ inl u ↦ absurd (omega arith) | inr u ↦ (let w = u.member in absurd (omega arith)) ];
  accepted_here = record { promised = inr (own 1 0 (omega arith) (omega arith) (omega arith)).0; accepted = (record { ballot = (own 1 0 (omega arith) (omega arith) (omega arith)).0; entry = small_entry }, omega arith) };
  accepted_above = λ g. (let u = g.accepted.1 in absurd (omega arith));
  promised_no_ballot = λ g. elim g.promised [ inl u ↦ absurd (omega arith) | inr u ↦ (let w = u.begun in absurd (omega arith)) ];
}
