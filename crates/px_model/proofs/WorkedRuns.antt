-- The worked runs, computed.
use Rattle.std.proofs.Common.{◌≡◌, ℕ, true, List, [], ◌∷◌, ◌++◌, length, refl, ap, nat_eq, ◌∙◌}
use Rattle.px_model.specs.Step.{front, first_gap, top_below, step, on_ask, on_tick, new_round, use_lead, on_prepare_all, on_accept, on_promise_all, gathered, on_vote, with_vote, learn, on_nack}
use Rattle.px_model.specs.World.{World, Event, start}
use Rattle.px_model.specs.Worked as worked
use Rattle.px_model.proofs.Small.{small, small_run, low_run}

-- what is computed of a run that accepts nothing from position 10 on
pub computed : {X : Type 0} (f : World ℕ → X) (n : ℕ) (events : List (List (Event ℕ))) (x : X) → low_run nat_eq n (worked.joined events) start ≡ true → f (small_run nat_eq n (worked.joined events) start) ≡ x → f (worked.world n events) ≡ x
computed f n events x low is = ap f (small nat_eq n (worked.joined events) low) ∙ is

pub a_later_ballot_takes_the_accepted_entry : worked.ALaterBallotTakesTheAcceptedEntry
unfolding front first_gap top_below step on_ask on_tick new_round use_lead on_prepare_all on_accept on_promise_all gathered on_vote with_vote learn on_nack
a_later_ballot_takes_the_accepted_entry = record {
  sent = computed (λ (w : World ℕ). w.sent) 3 worked.contested _ refl refl;
  rest_sent = computed (λ (w : World ℕ). length w.sent) 3 worked.contested_rest _ refl refl;
  rest_log = computed (λ (w : World ℕ). worked.log_of w 2) 3 worked.contested_rest _ refl refl;
  end_sent = computed (λ (w : World ℕ). length w.sent) 3 worked.contested_end _ refl refl;
  end_log = computed (λ (w : World ℕ). worked.log_of w 2) 3 worked.contested_end _ refl refl;
}

pub a_vote_counts_once_a_member : worked.AVoteCountsOnceAMember
unfolding front first_gap top_below step on_ask on_tick new_round use_lead on_prepare_all on_accept on_promise_all gathered on_vote with_vote learn
a_vote_counts_once_a_member = record {
  no_accept_yet = computed (λ (w : World ℕ). w.sent) 4 worked.two_promises _ refl refl;
  sent = computed (λ (w : World ℕ). w.sent) 4 worked.two_votes _ refl refl;
  two = computed (λ (w : World ℕ). worked.front_of w 0) 4 worked.two_votes _ refl refl;
  again = computed (λ (w : World ℕ). worked.front_of w 0) 4 worked.vote_again _ refl refl;
  nothing = computed (λ (w : World ℕ). w.learned) 4 worked.vote_again _ refl refl;
  third = computed (λ (w : World ℕ). worked.front_of w 0) 4 (worked.vote_again ++ worked.deliver (19 ∷ []) ∷ []) _ refl refl;
  learned = computed (λ (w : World ℕ). w.learned) 4 (worked.vote_again ++ worked.deliver (19 ∷ []) ∷ []) _ refl refl;
}

pub what_was_learned_is_kept : worked.WhatWasLearnedIsKept
unfolding front first_gap top_below step on_ask on_tick new_round use_lead on_prepare_all on_accept on_promise_all gathered on_vote with_vote learn
what_was_learned_is_kept = record {
  stopped_after = computed (λ (w : World ℕ). worked.front_of w 0) 4 worked.stop_after_vote _ refl refl;
  learned = computed (λ (w : World ℕ). w.learned) 4 worked.stop_after_vote _ refl refl;
  stopped_before = computed (λ (w : World ℕ). worked.front_of w 0) 4 worked.stop_before_vote _ refl refl;
  not_learned = computed (λ (w : World ℕ). w.learned) 4 worked.stop_before_vote _ refl refl;
  votes_again = computed (λ (w : World ℕ). worked.front_of w 0) 4 (worked.stop_before_vote ++ worked.deliver (11 ∷ 15 ∷ 19 ∷ []) ∷ []) _ refl refl;
}

pub a_stop_after_the_round : worked.AStopAfterTheRound
unfolding front first_gap top_below step on_ask on_tick new_round use_lead on_prepare_all on_accept on_promise_all gathered on_vote with_vote learn
a_stop_after_the_round = record {
  sent = computed (λ (w : World ℕ). w.sent) 3 worked.stopped _ refl refl;
  asked = computed (λ (w : World ℕ). w.asked) 3 worked.stopped _ refl refl;
  rounds = computed (λ (w : World ℕ). worked.rounds_of w) 3 worked.stopped _ refl refl;
  fronts = computed (λ (w : World ℕ). worked.fronts_of w) 3 worked.stopped _ refl refl;
  log = computed (λ (w : World ℕ). worked.log_of w 1) 3 worked.stopped _ refl refl;
  restarted_rounds = computed (λ (w : World ℕ). worked.rounds_of w) 3 (worked.stopped ++ worked.restart 0 ∷ []) _ refl refl;
  restarted_fronts = computed (λ (w : World ℕ). worked.fronts_of w) 3 (worked.stopped ++ worked.restart 0 ∷ []) _ refl refl;
  restarted_log = computed (λ (w : World ℕ). worked.log_of w 0) 3 (worked.stopped ++ worked.restart 0 ∷ []) _ refl refl;
}

pub learned_out_of_order : worked.LearnedOutOfOrder
unfolding front first_gap top_below step on_ask on_tick new_round use_lead on_prepare_all on_accept on_promise_all gathered on_vote with_vote learn
learned_out_of_order = record {
  sent = computed (λ (w : World ℕ). w.sent) 3 worked.second_first _ refl refl;
  first = computed (λ (w : World ℕ). worked.log_of w 0) 3 worked.by_the_lead _ refl refl;
  gap = computed (λ (w : World ℕ). worked.front_of w 2) 3 worked.second_first _ refl refl;
  second = computed (λ (w : World ℕ). worked.log_of w 2) 3 worked.second_first _ refl refl;
  no_more_sent = computed (λ (w : World ℕ). length w.sent) 3 worked.both_learned _ refl refl;
  both = computed (λ (w : World ℕ). worked.front_of w 2) 3 worked.both_learned _ refl refl;
  log = computed (λ (w : World ℕ). worked.log_of w 2) 3 worked.both_learned _ refl refl;
}

pub no_lead_below_a_counted_top : worked.NoLeadBelowACountedTop
unfolding front first_gap top_below step on_ask on_tick new_round use_lead on_prepare_all on_accept on_promise_all gathered on_vote with_vote learn
no_lead_below_a_counted_top = record {
  front_before = computed (λ (w : World ℕ). worked.front_of w 1) 3 worked.top_is_reported _ refl refl;
  sent = computed (λ (w : World ℕ). w.sent) 3 worked.above_the_top _ refl refl;
}
