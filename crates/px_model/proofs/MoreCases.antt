-- What no law would miss, computed.
use Rattle.std.proofs.Common.{ℕ, [], ◌∷◌, ◌++◌, refl}
use Rattle.px_model.specs.Step.{front, first_gap, top_below, step, on_ask, on_tick, new_round, use_lead, on_prepare, on_prepare_all, on_accept, on_promise_all, gathered, on_nack, on_need, on_vote, with_vote, on_learned, learn}
use Rattle.px_model.specs.World.{World, happens}
use Rattle.px_model.specs.World.Action.{Ask, Tick}
use Rattle.px_model.specs.World.Event.{StopBefore, StopAfter}
use Rattle.px_model.specs.Worked.{ask, restart}
use Rattle.px_model.specs.MoreCases.{AProposalFromNothing, NeedIsAnswered, LearningLetsGo, NothingIsLearnedTwice, APromiseHereBindsToo, ALeadComesToTheFront, TheBordersAreExact, AStopKeepsWhatWasRecorded, many, from_outside}
use Rattle.px_model.proofs.WorkedRuns.{computed}

pub a_proposal_from_nothing : AProposalFromNothing
unfolding front first_gap step on_ask on_tick new_round on_promise_all gathered
a_proposal_from_nothing = record {
  asked = refl;
  ticked = refl;
  one_promise = refl;
  again = refl;
  another = refl;
}

pub need_is_answered : NeedIsAnswered
unfolding happens front first_gap top_below step on_ask on_tick new_round use_lead on_prepare on_prepare_all on_accept on_promise_all gathered on_nack on_need on_vote with_vote on_learned learn
need_is_answered = record {
  learned = refl;
  not_learned = refl;
}

pub learning_lets_go : LearningLetsGo
unfolding happens front first_gap top_below step on_ask on_tick new_round use_lead on_prepare on_prepare_all on_accept on_promise_all gathered on_nack on_need on_vote with_vote on_learned learn
learning_lets_go = record {
  attempt = refl;
  lead = refl;
  seen = refl;
  votes = refl;
  other_votes = refl;
  above = refl;
  above_votes = refl;
}

pub nothing_is_learned_twice : NothingIsLearnedTwice
unfolding happens front first_gap top_below step on_ask on_tick new_round use_lead on_prepare on_prepare_all on_accept on_promise_all gathered on_nack on_need on_vote with_vote on_learned learn
nothing_is_learned_twice = record {
  vote = refl;
  hears_learned = refl;
}

pub a_promise_here_binds_too : APromiseHereBindsToo
unfolding happens front first_gap top_below step on_ask on_tick new_round use_lead on_prepare on_prepare_all on_accept on_promise_all gathered on_nack on_need on_vote with_vote on_learned learn
a_promise_here_binds_too = record {
  accept = refl;
  all = refl;
  reported = refl;
  kept = refl;
}

pub a_lead_comes_to_the_front : ALeadComesToTheFront
unfolding happens front first_gap top_below step on_ask on_tick new_round use_lead on_prepare on_prepare_all on_accept on_promise_all gathered on_nack on_need on_vote with_vote on_learned learn
a_lead_comes_to_the_front = record {
  moved = refl;
  higher_nack = refl;
}

pub the_borders_are_exact : TheBordersAreExact
unfolding happens front first_gap top_below step on_ask on_tick new_round use_lead on_prepare on_prepare_all on_accept on_promise_all gathered on_nack on_need on_vote with_vote on_learned learn
the_borders_are_exact = record {
  last = refl;
  past = refl;
  promised_alone = refl;
  accepted = refl;
}

pub a_stop_keeps_what_was_recorded : AStopKeepsWhatWasRecorded
unfolding happens front first_gap top_below step on_ask on_tick new_round use_lead on_prepare on_prepare_all on_accept on_promise_all gathered on_nack on_need on_vote with_vote on_learned learn
a_stop_keeps_what_was_recorded = record {
  asked = computed (λ (w : World ℕ). w.asked) 1 ((StopAfter (Ask 0 7) ∷ []) ∷ []) _ refl refl;
  lost = computed (λ (w : World ℕ). (w.nodes 0).volatile.waiting) 1 ((StopAfter (Ask 0 7) ∷ []) ∷ []) _ refl refl;
  not_asked = computed (λ (w : World ℕ). w.asked) 1 ((StopBefore (Ask 0 7) ∷ []) ∷ []) _ refl refl;
  from_outside_asked = computed (λ (w : World ℕ). w.asked) 1 (from_outside 0 9 7 ∷ []) _ refl refl;
  not_a_message = computed (λ (w : World ℕ). w.sent) 1 (from_outside 0 9 7 ∷ []) _ refl refl;
  refused_stops = computed (λ (w : World ℕ). (w.nodes 0).is_up) 1 (many 64 (ask 0 7) ++ (StopAfter (Ask 0 7) ∷ []) ∷ []) _ refl refl;
  stopped_is_deaf = computed (λ (w : World ℕ). w.asked) 1 ((StopBefore (Tick 0) ∷ []) ∷ ask 0 7 ∷ []) _ refl refl;
  restart_empties = computed (λ (w : World ℕ). (w.nodes 0).volatile.waiting) 1 (ask 0 7 ∷ restart 0 ∷ []) _ refl refl;
}
