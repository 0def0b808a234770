-- How the proofs go: The agreement (px_model).
--
-- ---- How the proof goes
--
-- Every world that is reached has a *history*, the list of all proposals that members ever accepted, whether or not their
-- votes were sent. The history isn't part of the world; it is carried by the induction over events. `Inv`
-- (`proofs/Invariant.antt`) defines what holds of world and history.
--
-- | File of `proofs/` | What it shows |
-- |---|---|
-- | `Basics` | two majorities share a member (`majorities_meet`); maps by position |
-- | `Backed` | the core fact, as a definition. A proposal of e at p in ballot b is backed: there is a majority in which nobody accepts below b at p any more (`Pledge.closed`), and of what they had accepted there below b, the proposal of highest ballot is for e, or there is none (`bounds`, `Known`, `IsFor`). `Grounds` lists all that the agreement is drawn from |
-- | `Agreement` | from `Grounds` to the law `Agree`, by induction on the ballot. This file and `Backed` know no prepare request and no promise, so another way to reach a backed proposal leaves them alone |
-- | `Invariant` | what holds of every message that was sent (`SentOk`), every record (`RecordOk`), every volatile part (`VolatileOk`) |
-- | `Later` | all of it goes on holding while promises rise and the history grows |
-- | `Moves` | `keeps`: one lemma for any change that a member commits and any one message that it sends. Runs, stops and restarts are instances |
-- | `Plans`, `Acceptor`, `Learner`, `Proposer`, `Ticks` | the step, case by case: its plan is one that `keeps` allows (`PlanOk`). A proposal is backed in two ways: by the promises counted at its position (`phase_two_ok`), or at or past a lead's first position (`use_lead_ok`) |
-- | `Runs` | every event keeps the invariant; the laws `agreement` and `kept` |
-- | `Once` | the law `once`: a proposal's entry is one whose origin learned another entry at each earlier position (`Placed`) |
-- | `States` | the law `same_state`: what is chosen stays chosen, so two moments of a run can be compared |
-- | `Reach` | a member learns at the 64 positions from its front on, so its log reaches no further; the front never falls |
-- | `Unread` | which inputs a step reads the slot for, and which the top |
-- | `Ranges`, `Fits` | the laws `steps_fit` and `starts_fit`: parts that fit, then the step, case by case (`AnswerFits`). They know nothing of histories and are beside the invariant |
-- | `Parts` | the law `parts_fit`: a step that reads parts that fit is one of a record that has these alone |
-- | `AlwaysFits` | every event keeps `WorldFits`: the law `always_fits`, and `always_answers` for what a member then answers |
-- | `Small`, `WorkedRuns`, `SingleSteps`, `MoreCases`, `FitsCases` | the worked cases |
-- | `Enough` | the law `reads_suffice`, from `Unread` |
-- | `Rising` | the law `steps_rise`, case by case as in `Reach` |
-- | `Going` | events within a group, one after another: `tick`, `deliver`, `then`, and `each` for one member after the other. What follows a step is an argument of the step, so that the invariant is known there (`Live`). A message is delivered only if it isn't among the first `since` (`IsFresh`); the laws set `since` to the number sent before |
-- | `Replies` | what a member answers in an attempt that succeeds, as a plan |
-- | `Attempts`, `Promising`, `Voting` | one attempt: a round begins (`begin`), the refusals raise the round (`all_refuse`), the group promises (`all_promise`), accepts and votes (`all_vote`) |
-- | `Finishing` | `attempt`: the member's front is learned; the law `never_stuck` by a measure, the positions left (`finish`) |
-- | `CatchingUp` | what is learned stays learned (`keeping`); a member at which nothing waits is sent the entry of a position (`learned_next`); the law `catches_up` |
-- | `Following` | a member of the group that is behind is sent an entry, or makes an attempt (`advances`); the law `all_learn` |
-- | `ProgressCases` | two worked cases of progress |
-- | `Commands` | spellings of entries: what is read of one names it, and what stands for it is spelled so again |
-- | `Reading` | lemmas for code over the definitions: a kept number is the front, or the top; lists of entries |
--
-- A run of a worked case can't be computed as it is: the top looks through a million positions. `Small` shows that as
-- long as nothing is accepted from position 10 on, the run is the same with the top of the first ten positions, and that
-- this premise can be computed along the run (`low_run`). So the cases speak of the real definitions.
--
-- ---- Traps
--
-- - The `front` and the `top` go through a million positions: keep them `unfoldable`, and unfold them where a run is
--   computed. `top` needs `Small`; `front` stops at the first gap.
-- - A fact about every position, as `front ≡ positions`, doesn't compute: `Reading.front_is` gives it.
-- - A catch-all clause is stuck on a variable. `MayCome` in `Runs` lists each message for that reason.
-- - A new kind of message needs a line in `SentOk`, `sent_later`, `MayCome` and `step_ok`; a new change one in `commit`,
--   `ChangeOk`, `grows`, `slots_after`, `learned_after`, `noted_after` and the case lemmas of `Moves`.
-- - Functions without a body have no mutants (`rt plant` calls them untested), and no edit of their code turns their
--   meaning.
-- - A law is used by citing its proof: `Runs.always_agree`, `always_once`, `always_kept`, `States.same_state_now`. For
--   commands that are compared as bytes the premise is `Reading.bytes_equality`.
-- - `Fits.step_fits`, `AlwaysFits.always_fits`, `nothing_fits` and `started_fits` hold for any predicate on commands; the
--   contracts of `laws` state it for tests, since a clause is of `Type 0` and can't range over predicates.
--   `Ranges.ballot_range` and `ballot_in_range` treat a ballot as one number.
--
-- ---- Wrong definitions
--
-- Each edit was made in a copy of the crate, and the check run. All were refused: with each, none of the four laws was
-- proved. The goal named is the first that failed; a worked case named beside it fails too, by computation. Such edits say
-- nothing about code, but show what the laws rest on. The last column is a run of an independent simulation of the edited
-- rules which breaks a law; the right rules broke none in 20,000 random runs.
--
-- | Wrong definition | Edit | Refused at | And it really breaks |
-- |---|---|---|---|
-- | half is a majority | `n ≤ 2 * count n set` | `Basics.majorities_meet`; `a_vote_counts_once_a_member` | two entries at a position, 2 members |
-- | own entry in spite of a report | `choice` takes the first that waits, if one does | `Proposer.is_for_choice`; `a_later_ballot_takes_the_accepted_entry` | two entries at a position |
-- | the first report wins | `better` keeps the first of two | `Proposer.at_most_right`; `a_promise_counts_once` | two entries at a position: 0 accepts in ballot 1.0, then 1 and 2 another in 1.1, and 0 hears itself first in 2.0 |
-- | a lead below a counted top | lead from `p + 1` | `Proposer.gathered_ok`; `no_lead_below_a_counted_top` | two entries at position 1, chosen by 0 and 1 before 2 leads |
-- | a top that leaves out what was accepted | `top` is 0 | `Plans.above_top`; all worked runs | the same run |
-- | a lead used twice at a position | lead stays at `front` | `Proposer.use_lead_ok`; `the_clock_makes_proposals` | no law, as far as is known: the first entry that waits stays the first until the front moves, so the ballot carries it again. The invariant asks for more than that |
-- | accepting below a promise | asks the slot's promise alone; or none at all | `Acceptor.accept_ok`; `a_later_ballot_takes_the_accepted_entry` | two entries at a position |
-- | a promise that isn't recorded | `PromiseAll` without a change | `Acceptor.prepare_all_ok`; `a_promise_binds` | two entries at a position |
-- | an accepted proposal that isn't recorded | only its ballot is, as a promise | `Acceptor.accept_ok`; `a_promise_binds` | two entries at a position |
-- | the round isn't recorded | `new_round` without a change; or `next_round` from what was heard alone | `Ticks.new_round_ok`; `a_stop_after_the_round` | two entries at a position: after the restart the old promises come again, and one ballot carries two entries |
-- | the number isn't recorded | the number stays | `Ticks.asked_ok`; `a_stop_after_the_round` | one entry asked twice |
-- | a learned entry stays in `waiting` | `on_learning` keeps it | `Learner.learn_ok`; `learned_out_of_order` | one entry at two positions |
-- | a test that doesn't find the entry itself | compares with the next number | `Learner.same_entry_self`; `learned_out_of_order` | the same |
-- | votes of two ballots add up | every kept vote counts | `Learner.vote_ok`; `votes_count_in_the_window` | two entries at a position |
-- | a restart forgets the record | `Restart` with an empty record | `Runs.happens_ok` | one entry asked twice; learned and not in the record |
--
-- Twenty more edits of the step send or keep a number out of its range: a round or a request number past the last, a clock
-- that goes on past the last position, a refusal that reports the slot's promise alone, an equal ballot promised again, a
-- lead past the end, an answer in the other's name, a vote in another ballot, and the like. With each, `steps_fit` isn't
-- proved, and each really breaks it: the edited definitions were evaluated on random states and inputs that fit, and a
-- plan that doesn't was found within 250 of them; the right ones gave none. Most of these edits stop other laws too; a
-- ballot that is heard of as a round stops those of `Fits` alone, beside a worked case.
pub mod Basics
pub mod Backed
pub mod Agreement
pub mod Invariant
pub mod Once
pub mod Later
pub mod Moves
pub mod Plans
pub mod Acceptor
pub mod Learner
pub mod Proposer
pub mod Ticks
pub mod Runs
pub mod Reading
pub mod States
pub mod Small
pub mod WorkedRuns
pub mod SingleSteps
pub mod Reach
pub mod Ranges
pub mod Fits
pub mod AlwaysFits
pub mod Parts
pub mod FitsCases
pub mod Unread
pub mod MoreCases
pub mod Commands
pub mod Enough
pub mod Rising
pub mod Going
pub mod Replies
pub mod Attempts
pub mod Promising
pub mod Voting
pub mod Finishing
pub mod CatchingUp
pub mod Following
pub mod ProgressCases
