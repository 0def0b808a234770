-- The single steps, computed.
use Rattle.std.proofs.Common.{◌≡◌, ℕ, ◌^◌, [], ◌∷◌, Some, arith, refl, sym, subst, if◌then◌else◌, nat_eq, nat_le}
use Rattle.px_model.specs.Step.{front, first_gap, step, on_ask, on_tick, new_round, use_lead, on_prepare, on_prepare_all, on_accept, on_promise_all, gathered, on_nack, on_vote, with_vote, on_learned, learn}
use Rattle.px_model.specs.Node.{Volatile}
use Rattle.px_model.specs.Node.Answer.{Refused, Planned}
use Rattle.px_model.specs.Step.{positions, idle, queued, tick_for}
use Rattle.px_model.specs.Worked.{entry}
use Rattle.px_model.proofs.Reading.{front_is}
use Rattle.px_model.specs.Cases.{NothingAfterTheLastPosition, numbers, waits, RefusalsComeInOrder, AClientIsAnswered, TheClockMakesProposals, APromiseBinds, APromiseCountsOnce, ANackDropsItsOwn, VotesCountInTheWindow, TheLearnedEntryLeaves}

pub refusals_come_in_order : RefusalsComeInOrder
unfolding step on_ask on_tick new_round use_lead on_prepare on_prepare_all on_accept on_promise_all gathered on_nack on_vote with_vote on_learned learn front first_gap
refusals_come_in_order = record {
  full = refl;
  one_less = refl;
  full_and_spent = refl;
  spent = refl;
  last_number = refl;
  rounds_spent = refl;
  rounds_heard_of = refl;
}

-- with every position learned the front is after the last
end_of : front (λ p. Some (entry 0 0 7)) ≡ positions
end_of = front_is _ positions (omega arith) (λ q under. (entry 0 0 7, refl)) (λ under. absurd (omega arith))

abbrev ticking : Volatile ℕ
ticking = waits (entry 0 1 8 ∷ [])

pub nothing_after_the_last_position : NothingAfterTheLastPosition
unfolding step on_ask on_tick
nothing_after_the_last_position = record {
  full = refl;
  spent = subst (λ (k : ℕ). (if nat_eq k positions then Refused 62 else (if nat_le (2 ^ 48) 1 then Refused 62 else Planned (queued 0 (numbers 1 1 0) (waits []) 7))) ≡ Refused 62) (sym end_of) refl;
  idles = subst (λ (k : ℕ). (if nat_eq k positions then Planned (idle ticking) else tick_for 3 0 (numbers 1 1 0) k ticking ticking.waiting) ≡ Planned (idle ticking)) (sym end_of) refl;
}

pub a_client_is_answered : AClientIsAnswered
unfolding step on_ask on_tick new_round use_lead on_prepare on_prepare_all on_accept on_promise_all gathered on_nack on_vote with_vote on_learned learn front first_gap
a_client_is_answered = record {
  numbered = refl;
  full = refl;
  spent = refl;
}

pub the_clock_makes_proposals : TheClockMakesProposals
unfolding step on_ask on_tick new_round use_lead on_prepare on_prepare_all on_accept on_promise_all gathered on_nack on_vote with_vote on_learned learn front first_gap
the_clock_makes_proposals = record {
  nothing_waits = refl;
  no_lead = refl;
  at_the_front = refl;
  above_the_front = refl;
  above_and_spent = refl;
}

pub a_promise_binds : APromiseBinds
unfolding step on_ask on_tick new_round use_lead on_prepare on_prepare_all on_accept on_promise_all gathered on_nack on_vote with_vote on_learned learn front first_gap
a_promise_binds = record {
  promised = refl;
  again = refl;
  here_alone = refl;
  here_again = refl;
  below = refl;
  equal = refl;
}

pub a_promise_counts_once : APromiseCountsOnce
unfolding step on_ask on_tick new_round use_lead on_prepare on_prepare_all on_accept on_promise_all gathered on_nack on_vote with_vote on_learned learn front first_gap
a_promise_counts_once = record {
  again = refl;
  report_adopted = refl;
  earlier_of_two = refl;
  majority = refl;
  highest_report = refl;
  nothing_to_propose = refl;
  other_ballot = refl;
  other_position = refl;
  for_one_position = refl;
}

pub a_nack_drops_its_own : ANackDropsItsOwn
unfolding step on_ask on_tick new_round use_lead on_prepare on_prepare_all on_accept on_promise_all gathered on_nack on_vote with_vote on_learned learn front first_gap
a_nack_drops_its_own = record {
  own = refl;
  other_position = refl;
  other_ballot = refl;
  not_lower = refl;
}

pub votes_count_in_the_window : VotesCountInTheWindow
unfolding step on_ask on_tick new_round use_lead on_prepare on_prepare_all on_accept on_promise_all gathered on_nack on_vote with_vote on_learned learn front first_gap
votes_count_in_the_window = record {
  last = refl;
  outside = refl;
  majority = refl;
  other_ballots = refl;
  lower_ballot_still_asked = refl;
  hears_learned = refl;
  hears_outside = refl;
}

pub the_learned_entry_leaves : TheLearnedEntryLeaves
unfolding step on_ask on_tick new_round use_lead on_prepare on_prepare_all on_accept on_promise_all gathered on_nack on_vote with_vote on_learned learn front first_gap
the_learned_entry_leaves = record {
  whole = refl;
  other_command = refl;
}
