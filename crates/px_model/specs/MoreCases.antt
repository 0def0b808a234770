-- Single steps and short runs beside those of `Cases`: what no law would miss.
use Rattle.std.specs.Prelude.{◌≡◌, ℕ, zero, suc, Bool, true, false, List, [], ◌∷◌, ◌++◌, Some, None}
use Rattle.std.specs.Prelude.{nat_eq}
use Rattle.px_model.specs.Node.{Log, Volatile, Input, Answer, ballot_of}
use Rattle.px_model.specs.Node.Change.{NewNumber, NewRound, NewPromise}
use Rattle.px_model.specs.Node.Phase.{Preparing, Accepting}
use Rattle.px_model.specs.Node.Message.{Prepare, Promise, PrepareAll, PromiseAll, Accept, Vote, Nack, Need, Learned}
use Rattle.px_model.specs.Node.Input.{Asks, Ticks, Comes}
use Rattle.px_model.specs.Node.Answer.{Refused, Planned}
use Rattle.px_model.specs.Step.{in_window, top_below, commit, nothing_volatile, idle, answered, put, keep, step}
use Rattle.px_model.specs.World.{Event, nothing_stored}
use Rattle.px_model.specs.World.Action.{Ask, AskFrom, Tick}
use Rattle.px_model.specs.World.Event.{Runs, StopBefore, StopAfter}
use Rattle.px_model.specs.Worked.{entry, proposal, three, world, ask, restart}
use Rattle.px_model.specs.Cases.{numbers, slot, stepped, does, waits, preparing, counted}

-- ballot 1 of member 0 is prepared at position 0, and these members have promised
abbrev pub gathering : (counted : ℕ → Bool) → Volatile ℕ
gathering counted = record (waits (entry 0 0 7 ∷ [])) {
  attempt = Some (record { position = 0; ballot = ballot_of 1 0; phase = Preparing counted 0 None });
}

-- member 0 of three from its first record on: it is asked, its clock ticks, and two promises make a majority
pub record AProposalFromNothing : Type 0 where
  pub asked : does (numbers 0 0 0) (waits []) (Asks 7) ≡ Planned (record {
    change = Some (NewNumber 1);
    volatile = waits (entry 0 0 7 ∷ []);
    sends = [];
  })
  pub ticked : does (numbers 0 1 0) (waits (entry 0 0 7 ∷ [])) Ticks ≡ Planned (record {
    change = Some (NewRound 1);
    volatile = record (waits (entry 0 0 7 ∷ [])) { attempt = preparing 1 };
    sends = three 0 (PrepareAll (ballot_of 1 0) 0);
  })
  pub one_promise : does (numbers 1 1 0) (gathering (λ m. false)) (Comes 1 (PromiseAll (ballot_of 1 0) 0 0 None)) ≡
      Planned (idle (gathering (put (λ m. false) 1 true)))
  pub again : does (numbers 1 1 0) (gathering counted) (Comes 1 (PromiseAll (ballot_of 1 0) 0 0 None)) ≡
      Planned (idle (gathering (put counted 1 true)))
  pub another : does (numbers 1 1 0) (gathering counted) (Comes 2 (PromiseAll (ballot_of 1 0) 0 0 None)) ≡
      Planned (record {
        change = None;
        volatile = record (waits (entry 0 0 7 ∷ [])) {
          attempt = Some (record { position = 0; ballot = ballot_of 1 0; phase = Accepting (entry 0 0 7) });
          lead = Some (record { ballot = ballot_of 1 0; from = 1 });
        };
        sends = three 0 (Accept (ballot_of 1 0) 0 (entry 0 0 7));
      })

-- member 0 has learned an entry at this position alone
abbrev pub learned_at : (position : ℕ) → Log ℕ
learned_at p = put (λ q. None) p (Some (entry 1 0 8))

-- what member 0 answers with this log and an empty slot, after one round and one request
abbrev pub does_with : Log ℕ → Volatile ℕ → Input ℕ → Answer ℕ
does_with log v input = step nat_eq 3 0 (numbers 1 1 0) (slot 0 None) 0 log v input

-- a member that is asked for a position reports what it learned there, or else nothing
pub record NeedIsAnswered : Type 0 where
  pub learned : does_with (learned_at 5) (waits []) (Comes 2 (Need 5)) ≡
      Planned (answered None (waits []) 0 2 (Learned 5 (entry 1 0 8)))
  pub not_learned : does_with (learned_at 5) (waits []) (Comes 2 (Need 4)) ≡ Planned (idle (waits []))

-- an attempt at position 0, a lead, a round heard of, votes at positions 0 and 1
abbrev pub busy : Volatile ℕ
busy = record nothing_volatile {
  attempt = Some (record { position = 0; ballot = 512; phase = Accepting (entry 0 0 7) });
  lead = Some (record { ballot = 512; from = 1 });
  seen = 3;
  kept = keep (keep (λ p m. 0) 0 1 512) 1 2 512;
}

-- the volatile part after the answer; of a refusal an empty one
abbrev pub volatile_of : Answer ℕ → Volatile ℕ
volatile_of (Refused code) = nothing_volatile
volatile_of (Planned plan) = plan.volatile

-- the volatile part where entry 1.0 is learned at the position of the attempt
abbrev pub learned_here : Volatile ℕ
learned_here = volatile_of (does (numbers 2 1 0) busy (Comes 1 (Learned 0 (entry 1 0 8))))

-- the volatile part where the same entry is learned at position 1 instead
abbrev pub learned_above : Volatile ℕ
learned_above = volatile_of (does (numbers 2 1 0) busy (Comes 1 (Learned 1 (entry 1 0 8))))

-- what is below the new front is let go: the attempt there, and the votes; the lead and the round heard of stay
pub record LearningLetsGo : Type 0 where
  pub attempt : learned_here.attempt ≡ None
  pub lead : learned_here.lead ≡ busy.lead
  pub seen : learned_here.seen ≡ 3
  pub votes : learned_here.kept 0 1 ≡ 0
  pub other_votes : learned_here.kept 1 2 ≡ 512
  pub above : learned_above.attempt ≡ busy.attempt
  pub above_votes : learned_above.kept 0 1 ≡ 512

-- votes of ballot 256 are known from members 0 and 1 at position 5
abbrev pub voted : Volatile ℕ
voted = record nothing_volatile { kept = keep (keep (λ p m. 0) 5 0 256) 5 1 256 }

-- where an entry is learned, neither a vote nor a `Learned` message changes anything
pub record NothingIsLearnedTwice : Type 0 where
  pub vote : does_with (learned_at 5) voted (Comes 2 (Vote 256 5 (entry 1 0 8))) ≡ Planned (idle voted)
  pub hears_learned : does_with (learned_at 5) (waits []) (Comes 2 (Learned 5 (entry 1 0 8)))
      ≡ Planned (idle (waits []))

-- a promise at one position alone binds there, and leaves the proposal accepted there as it was
pub record APromiseHereBindsToo : Type 0 where
  pub accept : stepped (numbers 0 0 0) (slot 257 None) 0 (waits []) (Comes 1 (Accept 256 0 (entry 0 0 7))) ≡
      Planned (answered None (waits []) 0 1 (Nack 256 0 257))
  pub all : stepped (numbers 0 0 0) (slot 257 None) 0 (waits []) (Comes 1 (PrepareAll 256 0)) ≡
      Planned (answered None (waits []) 0 1 (Nack 256 0 257))
  pub reported :
      stepped (numbers 0 0 0) (slot 256 (proposal 256 (entry 0 0 7))) 1 (waits []) (Comes 1 (Prepare 257 0)) ≡
      Planned (answered (Some (NewPromise 0 257)) (waits []) 0 1 (Promise 257 0 (proposal 256 (entry 0 0 7))))
  pub kept : (commit (Some (NewPromise 0 257)) (record nothing_stored {
    slots = put (λ p. slot 0 None) 0 (slot 256 (proposal 256 (entry 0 0 7)));
  })).slots 0 ≡ slot 257 (proposal 256 (entry 0 0 7))

-- a lead that began below the front
abbrev pub leads_below : (from : ℕ) → Volatile ℕ
leads_below k = record (waits (entry 0 0 7 ∷ [])) { lead = Some (record { ballot = ballot_of 1 0; from = k }) }

-- a lead from below the front is used at the front, and a refusal of another ballot leaves it
pub record ALeadComesToTheFront : Type 0 where
  pub moved : (volatile_of (does_with (learned_at 0) (leads_below 0) Ticks)).lead ≡
      Some (record { ballot = ballot_of 1 0; from = 2 })
  pub higher_nack : (volatile_of (does (numbers 2 1 0) busy (Comes 1 (Nack 768 0 1025)))).lead ≡ busy.lead

-- the window ends with the last position, and a top counts a proposal accepted, not a promise
pub record TheBordersAreExact : Type 0 where
  pub last : in_window 999_990 999_999 ≡ true
  pub past : in_window 999_990 1_000_000 ≡ false
  pub promised_alone : top_below (put (λ p. slot 0 None) 3 (slot 256 None)) 5 ≡ 0
  pub accepted : top_below (put (λ p. slot 0 None) 3 (slot 256 (proposal 256 (entry 0 0 7)))) 5 ≡ 4

-- the member is asked a command from outside the cluster, with this token
abbrev pub from_outside : (member token command : ℕ) → List (Event ℕ)
from_outside m t c = Runs (AskFrom m t c) ∷ []

-- the same events that many times
abbrev pub many : (times : ℕ) → List (Event ℕ) → List (List (Event ℕ))
many zero es = []
many (suc k) es = es ∷ many k es

-- a stop keeps what was recorded and loses the rest; a stopped member takes nothing
pub record AStopKeepsWhatWasRecorded : Type 0 where
  pub asked : (world 1 ((StopAfter (Ask 0 7) ∷ []) ∷ [])).asked ≡ entry 0 0 7 ∷ []
  pub lost : ((world 1 ((StopAfter (Ask 0 7) ∷ []) ∷ [])).nodes 0).volatile.waiting ≡ []
  pub not_asked : (world 1 ((StopBefore (Ask 0 7) ∷ []) ∷ [])).asked ≡ []
  pub from_outside_asked : (world 1 (from_outside 0 9 7 ∷ [])).asked ≡ entry 0 0 7 ∷ []
  pub not_a_message : (world 1 (from_outside 0 9 7 ∷ [])).sent ≡ []
  pub refused_stops : ((world 1 (many 64 (ask 0 7) ++ (StopAfter (Ask 0 7) ∷ []) ∷ [])).nodes 0).is_up ≡ false
  pub stopped_is_deaf : (world 1 ((StopBefore (Tick 0) ∷ []) ∷ ask 0 7 ∷ [])).asked ≡ []
  pub restart_empties : ((world 1 (ask 0 7 ∷ restart 0 ∷ [])).nodes 0).volatile.waiting ≡ []
