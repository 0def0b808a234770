-- Worked runs, each with its whole outcome. Messages are in the order of sending: a message's number is its
-- place in the list, counted from 0. A command is a number here.
use Rattle.std.specs.Prelude.{◌≡◌, ℕ, suc, zero, List, [], ◌∷◌, ◌++◌, length, Option, Some, None}
use Rattle.std.specs.Prelude.{nat_eq}
use Rattle.px_model.specs.Node.{Entry, Proposal, Message, Envelope, ballot_of}
use Rattle.px_model.specs.Node.Message.{PrepareAll, PromiseAll, Accept, Vote}
use Rattle.px_model.specs.Step.{front}
use Rattle.px_model.specs.World.{World, Learning, Event}
use Rattle.px_model.specs.World.Action.{Ask, Tick, Deliver}
use Rattle.px_model.specs.World.Event.{Runs, StopBefore, StopAfter, Restart}
use Rattle.px_model.specs.Law.{learned_of, world_after}

-- the lists one after another
abbrev pub joined : {X : Type 0} → List (List X) → List X
joined [] = []
joined (xs ∷ rest) = xs ++ joined rest

-- the world after these events at that many members
abbrev pub world : (members : ℕ) → List (List (Event ℕ)) → World ℕ
world n events = world_after nat_eq n (joined events)

-- ---- events

-- the member is asked a command
abbrev pub ask : (member command : ℕ) → List (Event ℕ)
ask m c = Runs (Ask m c) ∷ []

-- the member's clock ticks
abbrev pub tick : (member : ℕ) → List (Event ℕ)
tick m = Runs (Tick m) ∷ []

-- the member restarts
abbrev pub restart : (member : ℕ) → List (Event ℕ)
restart m = Restart m ∷ []

-- the messages with these numbers are delivered, in this order
abbrev pub deliver : (numbers : List ℕ) → List (Event ℕ)
deliver [] = []
deliver (k ∷ ks) = Runs (Deliver k) ∷ deliver ks

-- the numbers from k on, that many of them
abbrev pub from : (k many : ℕ) → List ℕ
from k zero = []
from k (suc many) = k ∷ from (suc k) many

-- ---- messages

-- a message on its way from one to the other
abbrev pub between : (sender addressee : ℕ) → Message ℕ → Envelope ℕ
between m to x = record { sender = m; addressee = to; message = x }

-- to one member
abbrev pub one : (sender addressee : ℕ) → Message ℕ → List (Envelope ℕ)
one m to x = between m to x ∷ []

-- to each of three members
abbrev pub three : (sender : ℕ) → Message ℕ → List (Envelope ℕ)
three m x = between m 0 x ∷ between m 1 x ∷ between m 2 x ∷ []

-- to each of four members
abbrev pub four : (sender : ℕ) → Message ℕ → List (Envelope ℕ)
four m x = between m 0 x ∷ between m 1 x ∷ between m 2 x ∷ between m 3 x ∷ []

-- the entry with this origin, number and command
abbrev pub entry : (origin number command : ℕ) → Entry ℕ
entry m k c = record { origin = m; number = k; command = c }

-- an accepted proposal: this entry in this ballot
abbrev pub proposal : (ballot : ℕ) → Entry ℕ → Option (Proposal ℕ)
proposal b e = Some (record { ballot = b; entry = e })

-- ---- outcomes

-- the member learned the entry at the position
abbrev pub learning : (member position : ℕ) → Entry ℕ → Learning ℕ
learning m p e = record { member = m; position = p; entry = e }

-- the member's front
abbrev pub front_of : World ℕ → (member : ℕ) → ℕ
front_of w m = front (learned_of w m)

-- the fronts of members 0 to 2
abbrev pub fronts_of : World ℕ → List ℕ
fronts_of w = front_of w 0 ∷ front_of w 1 ∷ front_of w 2 ∷ []

-- the highest round that the member used
abbrev pub round_of_member : World ℕ → (member : ℕ) → ℕ
round_of_member w m = (w.nodes m).stored.meta.round

-- the same of each of three members
abbrev pub rounds_of : World ℕ → List ℕ
rounds_of w = round_of_member w 0 ∷ round_of_member w 1 ∷ round_of_member w 2 ∷ []

-- what the member learned at positions 0, 1, 2
abbrev pub log_of : World ℕ → (member : ℕ) → List (Option (Entry ℕ))
log_of w m = learned_of w m 0 ∷ learned_of w m 1 ∷ learned_of w m 2 ∷ []

-- ---- a later ballot takes the accepted entry

-- of three members, 0 alone accepts its entry; then 1, with an entry of its own, has a later ballot promised
abbrev pub contested : List (List (Event ℕ))
contested =
    ask 0 7 ∷ ask 1 8 ∷
    tick 0 ∷ deliver (0 ∷ 1 ∷ 3 ∷ 4 ∷ 5 ∷ []) ∷
    tick 1 ∷ deliver (11 ∷ 13 ∷ 15 ∷ 14 ∷ []) ∷ []

-- what wasn't delivered yet is delivered in the order of sending, until nothing is left
abbrev pub contested_rest : List (List (Event ℕ))
contested_rest =
    contested ++ deliver (2 ∷ []) ∷ deliver (from 6 5) ∷ deliver (12 ∷ []) ∷ deliver (from 16 18) ∷ []

-- 1 proposes its own, and everything is delivered again
abbrev pub contested_end : List (List (Event ℕ))
contested_end = contested_rest ++ tick 1 ∷ deliver (from 34 12) ∷ []

-- 1 proposes the entry that 0 had accepted at position 0, and its own entry at position 1
pub record ALaterBallotTakesTheAcceptedEntry : Type 0 where
  pub sent : (world 3 contested).sent ≡ joined (
      three 0 (PrepareAll (ballot_of 1 0) 0) ∷
      one 0 0 (PromiseAll (ballot_of 1 0) 0 0 None) ∷
      one 1 0 (PromiseAll (ballot_of 1 0) 0 0 None) ∷
      three 0 (Accept (ballot_of 1 0) 0 (entry 0 0 7)) ∷
      three 0 (Vote (ballot_of 1 0) 0 (entry 0 0 7)) ∷
      three 1 (PrepareAll (ballot_of 1 1) 0) ∷
      one 0 1 (PromiseAll (ballot_of 1 1) 0 1 (proposal (ballot_of 1 0) (entry 0 0 7))) ∷
      one 2 1 (PromiseAll (ballot_of 1 1) 0 0 None) ∷
      three 1 (Accept (ballot_of 1 1) 0 (entry 0 0 7)) ∷ [])
  pub rest_sent : length (world 3 contested_rest).sent ≡ 34
  pub rest_log : log_of (world 3 contested_rest) 2 ≡ Some (entry 0 0 7) ∷ None ∷ None ∷ []
  pub end_sent : length (world 3 contested_end).sent ≡ 46
  pub end_log : log_of (world 3 contested_end) 2 ≡ Some (entry 0 0 7) ∷ Some (entry 1 0 8) ∷ None ∷ []

-- ---- a vote counts once a member

-- four members, of whom three are a majority: 0 proposes when two other promises have come
abbrev pub two_promises : List (List (Event ℕ))
two_promises = ask 0 7 ∷ tick 0 ∷ deliver (0 ∷ 1 ∷ 2 ∷ 4 ∷ 5 ∷ []) ∷ []

-- the third promise comes, and 0 proposes
abbrev pub three_promises : List (List (Event ℕ))
three_promises = two_promises ++ deliver (6 ∷ []) ∷ []

-- three members accept, and two votes reach 0
abbrev pub two_votes : List (List (Event ℕ))
two_votes = three_promises ++ deliver (7 ∷ 8 ∷ 9 ∷ []) ∷ deliver (11 ∷ 15 ∷ []) ∷ []

-- the second comes again
abbrev pub vote_again : List (List (Event ℕ))
vote_again = two_votes ++ deliver (15 ∷ []) ∷ []

-- what is sent until three promises have come
abbrev pub promises_sent : List (List (Envelope ℕ))
promises_sent =
    four 0 (PrepareAll (ballot_of 1 0) 0) ∷
    one 0 0 (PromiseAll (ballot_of 1 0) 0 0 None) ∷
    one 1 0 (PromiseAll (ballot_of 1 0) 0 0 None) ∷
    one 2 0 (PromiseAll (ballot_of 1 0) 0 0 None) ∷ []

-- what is sent behind the promises: the accept requests and the votes
abbrev pub votes_sent : List (List (Envelope ℕ))
votes_sent =
    four 0 (Accept (ballot_of 1 0) 0 (entry 0 0 7)) ∷
    four 0 (Vote (ballot_of 1 0) 0 (entry 0 0 7)) ∷
    four 1 (Vote (ballot_of 1 0) 0 (entry 0 0 7)) ∷
    four 2 (Vote (ballot_of 1 0) 0 (entry 0 0 7)) ∷ []

-- a vote that comes again doesn't count; with the third member's vote 0 learns the entry
pub record AVoteCountsOnceAMember : Type 0 where
  pub no_accept_yet : (world 4 two_promises).sent ≡ joined promises_sent
  pub sent : (world 4 two_votes).sent ≡ joined (promises_sent ++ votes_sent)
  pub two : front_of (world 4 two_votes) 0 ≡ 0
  pub again : front_of (world 4 vote_again) 0 ≡ 0
  pub nothing : (world 4 vote_again).learned ≡ []
  pub third : front_of (world 4 (vote_again ++ deliver (19 ∷ []) ∷ [])) 0 ≡ 1
  pub learned : (world 4 (vote_again ++ deliver (19 ∷ []) ∷ [])).learned ≡ learning 0 0 (entry 0 0 7) ∷ []

-- ---- what was learned as a member stopped is kept

-- the third vote comes, 0 stops after it, and restarts
abbrev pub stop_after_vote : List (List (Event ℕ))
stop_after_vote = vote_again ++ (StopAfter (Deliver 19) ∷ []) ∷ restart 0 ∷ []

-- 0 stops before the third vote, and restarts
abbrev pub stop_before_vote : List (List (Event ℕ))
stop_before_vote = vote_again ++ (StopBefore (Deliver 19) ∷ []) ∷ restart 0 ∷ []

-- what was recorded as learned is there after the stop; where it wasn't, the votes must come again
pub record WhatWasLearnedIsKept : Type 0 where
  pub stopped_after : front_of (world 4 stop_after_vote) 0 ≡ 1
  pub learned : (world 4 stop_after_vote).learned ≡ learning 0 0 (entry 0 0 7) ∷ []
  pub stopped_before : front_of (world 4 stop_before_vote) 0 ≡ 0
  pub not_learned : (world 4 stop_before_vote).learned ≡ []
  pub votes_again : front_of (world 4 (stop_before_vote ++ deliver (11 ∷ 15 ∷ 19 ∷ []) ∷ [])) 0 ≡ 1

-- ---- a stop after the round

-- 0 stops as it has recorded its round, and is asked the same again when it has restarted; all is delivered
abbrev pub stopped : List (List (Event ℕ))
stopped = ask 0 7 ∷ (StopAfter (Tick 0) ∷ []) ∷ restart 0 ∷ ask 0 7 ∷ tick 0 ∷ deliver (from 0 18) ∷ []

-- the round from before the stop isn't used again, the entry that waited is lost, and the new one is learned
pub record AStopAfterTheRound : Type 0 where
  pub sent : (world 3 stopped).sent ≡ joined (
      three 0 (PrepareAll (ballot_of 2 0) 0) ∷
      one 0 0 (PromiseAll (ballot_of 2 0) 0 0 None) ∷
      one 1 0 (PromiseAll (ballot_of 2 0) 0 0 None) ∷
      one 2 0 (PromiseAll (ballot_of 2 0) 0 0 None) ∷
      three 0 (Accept (ballot_of 2 0) 0 (entry 0 1 7)) ∷
      three 0 (Vote (ballot_of 2 0) 0 (entry 0 1 7)) ∷
      three 1 (Vote (ballot_of 2 0) 0 (entry 0 1 7)) ∷
      three 2 (Vote (ballot_of 2 0) 0 (entry 0 1 7)) ∷ [])
  pub asked : (world 3 stopped).asked ≡ entry 0 1 7 ∷ entry 0 0 7 ∷ []
  pub rounds : rounds_of (world 3 stopped) ≡ 2 ∷ 0 ∷ 0 ∷ []
  pub fronts : fronts_of (world 3 stopped) ≡ 1 ∷ 1 ∷ 1 ∷ []
  pub log : log_of (world 3 stopped) 1 ≡ Some (entry 0 1 7) ∷ None ∷ None ∷ []
  pub restarted_rounds : rounds_of (world 3 (stopped ++ restart 0 ∷ [])) ≡ 2 ∷ 0 ∷ 0 ∷ []
  pub restarted_fronts : fronts_of (world 3 (stopped ++ restart 0 ∷ [])) ≡ 1 ∷ 1 ∷ 1 ∷ []
  pub restarted_log : log_of (world 3 (stopped ++ restart 0 ∷ [])) 0 ≡ Some (entry 0 1 7) ∷ None ∷ None ∷ []

-- ---- learned out of order

-- 0 learns position 0 with 1's vote, and by its lead proposes at position 1 without a second prepare request
abbrev pub by_the_lead : List (List (Event ℕ))
by_the_lead =
    ask 0 7 ∷ ask 0 8 ∷
    tick 0 ∷ deliver (0 ∷ 1 ∷ 3 ∷ 4 ∷ 5 ∷ 6 ∷ 8 ∷ 11 ∷ []) ∷
    tick 0 ∷ deliver (14 ∷ 15 ∷ []) ∷ []

-- the votes for position 1 reach 2 before those for position 0
abbrev pub second_first : List (List (Event ℕ))
second_first = by_the_lead ++ deliver (19 ∷ 22 ∷ []) ∷ []

-- those for position 0 reach 2 as well
abbrev pub both_learned : List (List (Event ℕ))
both_learned = second_first ++ deliver (10 ∷ 13 ∷ []) ∷ []

-- what is sent until 0 has learned position 0
abbrev pub first_sent : List (List (Envelope ℕ))
first_sent =
    three 0 (PrepareAll (ballot_of 1 0) 0) ∷
    one 0 0 (PromiseAll (ballot_of 1 0) 0 0 None) ∷
    one 1 0 (PromiseAll (ballot_of 1 0) 0 0 None) ∷
    three 0 (Accept (ballot_of 1 0) 0 (entry 0 0 7)) ∷
    three 0 (Vote (ballot_of 1 0) 0 (entry 0 0 7)) ∷
    three 1 (Vote (ballot_of 1 0) 0 (entry 0 0 7)) ∷
    three 0 (Accept (ballot_of 1 0) 1 (entry 0 1 8)) ∷
    three 0 (Vote (ballot_of 1 0) 1 (entry 0 1 8)) ∷ []

-- 2 learns position 1 before position 0, and its front moves past both when it has learned both
pub record LearnedOutOfOrder : Type 0 where
  pub sent : (world 3 second_first).sent ≡ joined (
      first_sent ++ three 1 (Vote (ballot_of 1 0) 1 (entry 0 1 8)) ∷ [])
  pub first : log_of (world 3 by_the_lead) 0 ≡ Some (entry 0 0 7) ∷ None ∷ None ∷ []
  pub gap : front_of (world 3 second_first) 2 ≡ 0
  pub second : log_of (world 3 second_first) 2 ≡ None ∷ Some (entry 0 1 8) ∷ None ∷ []
  pub no_more_sent : length (world 3 both_learned).sent ≡ 23
  pub both : front_of (world 3 both_learned) 2 ≡ 2
  pub log : log_of (world 3 both_learned) 2 ≡ Some (entry 0 0 7) ∷ Some (entry 0 1 8) ∷ None ∷ []

-- ---- no lead below a counted top

-- 0 alone has accepted at position 1. Then 1 has a ballot promised, and learns position 0 by it
abbrev pub top_is_reported : List (List (Event ℕ))
top_is_reported =
    ask 0 7 ∷ ask 0 8 ∷ ask 1 9 ∷
    tick 0 ∷ deliver (0 ∷ 1 ∷ 3 ∷ 4 ∷ 5 ∷ 6 ∷ 8 ∷ 11 ∷ []) ∷
    tick 0 ∷ deliver (14 ∷ []) ∷
    tick 1 ∷ deliver (20 ∷ 21 ∷ 23 ∷ 24 ∷ []) ∷ deliver (25 ∷ 26 ∷ 29 ∷ 32 ∷ []) ∷ []

-- its lead begins above position 1, so it prepares anew, and learns what was accepted there
abbrev pub above_the_top : List (List (Event ℕ))
above_the_top = top_is_reported ++ tick 1 ∷ deliver (34 ∷ 35 ∷ 37 ∷ 38 ∷ []) ∷ []

-- 1 heard that position 1 has something accepted: it prepares there anew, and proposes that
pub record NoLeadBelowACountedTop : Type 0 where
  pub front_before : front_of (world 3 top_is_reported) 1 ≡ 1
  pub sent : (world 3 above_the_top).sent ≡ joined (first_sent ++
      three 1 (PrepareAll (ballot_of 1 1) 0) ∷
      one 0 1 (PromiseAll (ballot_of 1 1) 0 2 (proposal (ballot_of 1 0) (entry 0 0 7))) ∷
      one 1 1 (PromiseAll (ballot_of 1 1) 0 1 (proposal (ballot_of 1 0) (entry 0 0 7))) ∷
      three 1 (Accept (ballot_of 1 1) 0 (entry 0 0 7)) ∷
      three 0 (Vote (ballot_of 1 1) 0 (entry 0 0 7)) ∷
      three 1 (Vote (ballot_of 1 1) 0 (entry 0 0 7)) ∷
      three 1 (PrepareAll (ballot_of 2 1) 1) ∷
      one 0 1 (PromiseAll (ballot_of 2 1) 1 2 (proposal (ballot_of 1 0) (entry 0 1 8))) ∷
      one 1 1 (PromiseAll (ballot_of 2 1) 1 1 None) ∷
      three 1 (Accept (ballot_of 2 1) 1 (entry 0 1 8)) ∷ [])
