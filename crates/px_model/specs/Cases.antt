-- Single steps, computed: member 0 of three, with the record and the volatile part of each case.
use Rattle.std.specs.Prelude.{◌≡◌, ℕ, zero, suc, ◌^◌, Bool, true, false, List, [], ◌∷◌, ◌++◌}
use Rattle.std.specs.Prelude.{Option, Some, None, nat_eq}
use Rattle.px_model.specs.Node.{Entry, Proposal, Slot, Meta, Change, Attempt, Volatile, Input, Plan, Answer, ballot_of}
use Rattle.px_model.specs.Node.{client}
use Rattle.px_model.specs.Node.Change.{NewRound, NewNumber, NewFloor, NewPromise, NewAccepted, NewLearned}
use Rattle.px_model.specs.Node.Phase.{Preparing, Accepting}
use Rattle.px_model.specs.Node.Message.{Prepare, Promise, PrepareAll, PromiseAll, Accept, Vote, Nack, Need, Learned}
use Rattle.px_model.specs.Node.Message.{Ask, Asked, AskRefused}
use Rattle.px_model.specs.Node.Input.{Asks, Ticks, Comes}
use Rattle.px_model.specs.Node.Answer.{Refused, Planned}
use Rattle.px_model.specs.Step.{nothing_volatile, idle, answered, put, keep, step}
use Rattle.px_model.specs.Worked.{entry, proposal, three, one}

-- a record's numbers: the highest round used, the next request number, the floor
abbrev pub numbers : (round number floor : ℕ) → Meta
numbers r k b = record { round = r; number = k; floor = b }

-- a slot with this ballot promised, and this proposal accepted, if any
abbrev pub slot : (promised : ℕ) → Option (Proposal ℕ) → Slot ℕ
slot b a = record { promised = b; accepted = a }

-- member 0 has learned nothing
abbrev pub stepped : Meta → Slot ℕ → (top : ℕ) → Volatile ℕ → Input ℕ → Answer ℕ
stepped meta slot top v input = step nat_eq 3 0 meta slot top (λ p. None) v input

-- with an empty slot
abbrev pub does : Meta → Volatile ℕ → Input ℕ → Answer ℕ
does meta v input = stepped meta (slot 0 None) 0 v input

-- the greatest round, and the last number of a request
abbrev pub greatest : ℕ
greatest = 281474976710655

-- the entry that many times
abbrev pub repeated : (many : ℕ) → Entry ℕ → List (Entry ℕ)
repeated zero e = []
repeated (suc k) e = e ∷ repeated k e

-- a volatile part in which these entries wait, and nothing else is
abbrev pub waits : List (Entry ℕ) → Volatile ℕ
waits es = record nothing_volatile { waiting = es }

-- ---- requests and the clock

-- a request is refused with 60 where 64 wait, else with 62 where numbers are spent; a tick with 61 where rounds are
pub record RefusalsComeInOrder : Type 0 where
  pub full : does (numbers 0 0 0) (waits (repeated 64 (entry 0 0 7))) (Asks 7) ≡ Refused 60
  pub one_less :
      does (numbers 0 0 0) (waits (repeated 63 (entry 0 5 8))) (Asks 7) ≡ Planned (record {
        change = Some (NewNumber 1);
        volatile = waits (repeated 63 (entry 0 5 8) ++ entry 0 0 7 ∷ []);
        sends = [];
      })
  pub full_and_spent :
      does (numbers 0 (2 ^ 48) 0) (waits (repeated 64 (entry 0 0 7))) (Asks 7) ≡ Refused 60
  pub spent : does (numbers 0 (2 ^ 48) 0) (waits []) (Asks 7) ≡ Refused 62
  pub last_number : does (numbers 0 greatest 0) (waits []) (Asks 7) ≡ Planned (record {
    change = Some (NewNumber (2 ^ 48));
    volatile = waits (entry 0 greatest 7 ∷ []);
    sends = [];
  })
  pub rounds_spent :
      does (numbers greatest 1 0) (waits (entry 0 0 7 ∷ [])) Ticks ≡ Refused 61
  pub rounds_heard_of :
      does (numbers 1 1 0) (record (waits (entry 0 0 7 ∷ [])) { seen = greatest }) Ticks ≡ Refused 61

-- member 0 has learned every position
abbrev pub does_at_the_end : Volatile ℕ → Input ℕ → Answer ℕ
does_at_the_end v input = step nat_eq 3 0 (numbers 1 1 0) (slot 0 None) 0 (λ p. Some (entry 0 0 7)) v input

-- with every position learned a request is refused with 60 or 62, and the clock does nothing
pub record NothingAfterTheLastPosition : Type 0 where
  pub full : does_at_the_end (waits (repeated 64 (entry 0 1 8))) (Asks 7) ≡ Refused 60
  pub spent : does_at_the_end (waits []) (Asks 7) ≡ Refused 62
  pub idles : does_at_the_end (waits (entry 0 1 8 ∷ [])) Ticks ≡ Planned (idle (waits (entry 0 1 8 ∷ [])))

-- a client is answered, and no member
pub record AClientIsAnswered : Type 0 where
  pub numbered : does (numbers 0 4 0) (waits []) (Comes client (Ask 9 7)) ≡ Planned (record {
    change = Some (NewNumber 5);
    volatile = waits (entry 0 4 7 ∷ []);
    sends = one 0 client (Asked 9 4);
  })
  pub full :
      does (numbers 0 4 0) (waits (repeated 64 (entry 0 0 7))) (Comes client (Ask 9 7)) ≡
      Planned (answered None (waits (repeated 64 (entry 0 0 7))) 0 client (AskRefused 9 60))
  pub spent :
      does (numbers 0 (2 ^ 48) 0) (waits []) (Comes client (Ask 9 7)) ≡
      Planned (answered None (waits []) 0 client (AskRefused 9 62))

-- an entry waits, and round 1 is led from this position on
abbrev pub leads : (from : ℕ) → Volatile ℕ
leads from = record (waits (entry 0 0 7 ∷ [])) { lead = Some (record { ballot = ballot_of 1 0; from = from }) }

-- member 0 prepares this round's ballot at position 0, and nobody has promised yet
abbrev pub preparing : (round : ℕ) → Option (Attempt ℕ)
preparing r = Some (record { position = 0; ballot = ballot_of r 0; phase = Preparing (λ m. false) 0 None })

-- a tick asks for what is missing where nothing waits; else it uses a lead at the front, or begins a round
pub record TheClockMakesProposals : Type 0 where
  pub nothing_waits : does (numbers 1 0 0) (waits []) Ticks ≡ Planned (record {
    change = None;
    volatile = waits [];
    sends = three 0 (Need 0);
  })
  pub no_lead : does (numbers 1 0 0) (waits (entry 0 0 7 ∷ [])) Ticks ≡ Planned (record {
    change = Some (NewRound 2);
    volatile = record (waits (entry 0 0 7 ∷ [])) { attempt = preparing 2 };
    sends = three 0 (PrepareAll (ballot_of 2 0) 0);
  })
  pub at_the_front : does (numbers 1 0 0) (leads 0) Ticks ≡ Planned (record {
    change = None;
    volatile = record (leads 1) {
      attempt = Some (record { position = 0; ballot = ballot_of 1 0; phase = Accepting (entry 0 0 7) });
    };
    sends = three 0 (Accept (ballot_of 1 0) 0 (entry 0 0 7));
  })
  pub above_the_front : does (numbers 1 0 0) (leads 1) Ticks ≡ Planned (record {
    change = Some (NewRound 2);
    volatile = record (waits (entry 0 0 7 ∷ [])) { attempt = preparing 2 };
    sends = three 0 (PrepareAll (ballot_of 2 0) 0);
  })
  pub above_and_spent : does (numbers greatest 0 0) (leads 1) Ticks ≡ Refused 61

-- ---- the acceptor

-- a higher ballot alone is promised; a proposal is accepted in the promised ballot, not in a lower one
pub record APromiseBinds : Type 0 where
  pub promised : stepped (numbers 0 0 0) (slot 256 None) 3 (waits []) (Comes 1 (PrepareAll 257 0)) ≡
      Planned (answered (Some (NewFloor 257)) (waits []) 0 1 (PromiseAll 257 0 3 None))
  pub again : stepped (numbers 0 0 257) (slot 256 None) 3 (waits []) (Comes 1 (PrepareAll 257 0)) ≡
      Planned (answered None (waits []) 0 1 (Nack 257 0 257))
  pub here_alone : stepped (numbers 0 0 0) (slot 256 None) 3 (waits []) (Comes 1 (Prepare 257 5)) ≡
      Planned (answered (Some (NewPromise 5 257)) (waits []) 0 1 (Promise 257 5 None))
  pub here_again : stepped (numbers 0 0 0) (slot 257 None) 3 (waits []) (Comes 1 (Prepare 257 5)) ≡
      Planned (answered None (waits []) 0 1 (Nack 257 5 257))
  pub below : does (numbers 0 0 257) (waits []) (Comes 1 (Accept 256 0 (entry 0 0 7))) ≡
      Planned (answered None (waits []) 0 1 (Nack 256 0 257))
  pub equal : does (numbers 0 0 257) (waits []) (Comes 1 (Accept 257 0 (entry 0 0 7))) ≡
      Planned (record {
        change = Some (NewAccepted 0 257 (entry 0 0 7));
        volatile = waits [];
        sends = three 0 (Vote 257 0 (entry 0 0 7));
      })

-- ---- the proposer

-- the promise of member 1 alone is counted
abbrev pub counted : ℕ → Bool
counted m = nat_eq m 1

-- ballot 512 is being prepared at position 0, with this top, this best report and these members counted
abbrev pub prepared : (top : ℕ) → (best : Option (Proposal ℕ)) → (test : ℕ → Bool) → Volatile ℕ
prepared t best test = record (waits (entry 0 0 7 ∷ [])) {
  attempt = Some (record { position = 0; ballot = 512; phase = Preparing test t best });
}

-- phase 2 of ballot 512 at position 0, which may be used again from here on
abbrev pub proposes : (from : ℕ) → Entry ℕ → Plan ℕ
proposes from e = record {
  change = None;
  volatile = record (waits (entry 0 0 7 ∷ [])) {
    attempt = Some (record { position = 0; ballot = 512; phase = Accepting e });
    lead = Some (record { ballot = 512; from = from });
  };
  sends = three 0 (Accept 512 0 e);
}

-- a member's promise counts once, for its ballot and position alone, though a proposal that it reports again is
-- accepted; at a majority phase 2 begins, or the attempt ends where nothing is to be proposed
pub record APromiseCountsOnce : Type 0 where
  pub again : does (numbers 2 1 0) (prepared 4 None counted) (Comes 1 (PromiseAll 512 0 9 None)) ≡
      Planned (idle (prepared 4 None (put counted 1 true)))
  pub report_adopted :
      does (numbers 2 1 0) (prepared 4 None counted)
      (Comes 1 (PromiseAll 512 0 9 (proposal 257 (entry 1 0 8)))) ≡
      Planned (idle (prepared 4 (proposal 257 (entry 1 0 8)) (put counted 1 true)))
  pub earlier_of_two :
      does (numbers 2 1 0) (prepared 4 (proposal 257 (entry 1 0 8)) counted)
      (Comes 1 (PromiseAll 512 0 9 (proposal 257 (entry 2 0 9)))) ≡
      Planned (idle (prepared 4 (proposal 257 (entry 1 0 8)) (put counted 1 true)))
  pub majority :
      does (numbers 2 1 0) (prepared 4 None counted) (Comes 2 (PromiseAll 512 0 9 None)) ≡
      Planned (proposes 9 (entry 0 0 7))
  pub highest_report :
      does (numbers 2 1 0) (prepared 4 (proposal 257 (entry 1 0 8)) counted)
      (Comes 2 (PromiseAll 512 0 0 (proposal 258 (entry 2 0 9)))) ≡
      Planned (proposes 4 (entry 2 0 9))
  pub nothing_to_propose :
      does (numbers 2 1 0) (record (prepared 0 None counted) { waiting = [] })
      (Comes 2 (PromiseAll 512 0 0 None)) ≡
      Planned (idle (record nothing_volatile { lead = Some (record { ballot = 512; from = 1 }) }))
  pub other_ballot :
      does (numbers 2 1 0) (prepared 4 None counted) (Comes 2 (PromiseAll 256 0 9 None)) ≡
      Planned (idle (prepared 4 None counted))
  pub other_position :
      does (numbers 2 1 0) (prepared 4 None counted) (Comes 2 (PromiseAll 512 1 9 None)) ≡
      Planned (idle (prepared 4 None counted))
  pub for_one_position :
      does (numbers 2 1 0) (prepared 4 None counted) (Comes 2 (Promise 512 0 None)) ≡
      Planned (idle (prepared 4 None counted))

-- member 0 proposes by ballot 512 at position 0, and has its lead
abbrev pub proposing : (seen : ℕ) → Volatile ℕ
proposing seen = record nothing_volatile {
  attempt = Some (record { position = 0; ballot = 512; phase = Accepting (entry 0 0 7) });
  lead = Some (record { ballot = 512; from = 1 });
  seen = seen;
}

-- 1025 is the ballot of round 4 of member 1
pub record ANackDropsItsOwn : Type 0 where
  pub own : does (numbers 2 1 0) (proposing 1) (Comes 1 (Nack 512 0 1025)) ≡
      Planned (idle (record nothing_volatile { seen = 4 }))
  pub other_position : does (numbers 2 1 0) (proposing 1) (Comes 1 (Nack 512 3 1025)) ≡
      Planned (idle (record (proposing 4) { lead = None }))
  pub other_ballot : does (numbers 2 1 0) (proposing 1) (Comes 1 (Nack 256 0 1025)) ≡
      Planned (idle (proposing 4))
  pub not_lower : does (numbers 2 1 0) (proposing 6) (Comes 1 (Nack 256 0 1025)) ≡
      Planned (idle (proposing 6))

-- ---- the learner

-- votes of ballot b are known from members 0 and 1 at position 0
abbrev pub known : (b : ℕ) → Volatile ℕ
known b = record nothing_volatile { kept = keep (keep (λ p m. 0) 0 0 b) 0 1 b }

-- the answer's change; a refusal has none
abbrev pub change_of : Answer ℕ → Option (Change ℕ)
change_of (Refused code) = None
change_of (Planned plan) = plan.change

-- the entries that wait after the answer, none of a refusal
abbrev pub waiting_of : Answer ℕ → List (Entry ℕ)
waiting_of (Refused code) = []
waiting_of (Planned plan) = plan.volatile.waiting

-- votes count at the 64 positions from the front on, and a majority of them in one ballot learns the entry
pub record VotesCountInTheWindow : Type 0 where
  pub last : does (numbers 0 0 0) (waits []) (Comes 1 (Vote 256 63 (entry 0 0 7))) ≡
      Planned (idle (record nothing_volatile { kept = keep (λ p m. 0) 63 1 256 }))
  pub outside : does (numbers 0 0 0) (waits []) (Comes 1 (Vote 256 64 (entry 0 0 7))) ≡
      Planned (idle (waits []))
  pub majority :
      change_of (does (numbers 0 0 0) (record nothing_volatile { kept = keep (λ p m. 0) 0 1 256 })
      (Comes 2 (Vote 256 0 (entry 0 0 7)))) ≡ Some (NewLearned 0 (entry 0 0 7))
  pub other_ballots :
      change_of (does (numbers 0 0 0) (record nothing_volatile { kept = keep (λ p m. 0) 0 1 512 })
      (Comes 2 (Vote 256 0 (entry 0 0 7)))) ≡ None
  pub lower_ballot_still_asked :
      change_of (does (numbers 0 0 0) (record nothing_volatile { kept = keep (known 256).kept 0 2 512 })
      (Comes 2 (Vote 256 0 (entry 0 0 7)))) ≡ Some (NewLearned 0 (entry 0 0 7))
  pub hears_learned : change_of (does (numbers 0 0 0) (waits []) (Comes 1 (Learned 63 (entry 0 0 7)))) ≡
      Some (NewLearned 63 (entry 0 0 7))
  pub hears_outside : does (numbers 0 0 0) (waits []) (Comes 1 (Learned 64 (entry 0 0 7))) ≡
      Planned (idle (waits []))

-- an entry leaves `waiting` only as a whole: another of its name stays
pub record TheLearnedEntryLeaves : Type 0 where
  pub whole :
      waiting_of (does (numbers 0 0 0) (waits (entry 0 0 7 ∷ entry 0 0 8 ∷ entry 0 1 7 ∷ []))
      (Comes 1 (Learned 0 (entry 0 0 7)))) ≡ entry 0 0 8 ∷ entry 0 1 7 ∷ []
  pub other_command :
      waiting_of (does (numbers 0 0 0) (waits (entry 0 0 7 ∷ []))
      (Comes 1 (Learned 0 (entry 0 0 9)))) ≡ entry 0 0 7 ∷ []
