-- That logs agree, and that what a core keeps can be spelled, are propositions.
use Rattle.std.specs.Prelude.{◌≡◌, ◌%◌, ℕ, Bool, true, false, Option, None, Some, IfSome, refl}
use Rattle.std.specs.Coded.{×_prop, Unit-prop, Coded, Coded-set, code_by, coded×, coded_ℕ, coded_list, coded_option}
use mathlib.Core.Bool.{Bool-set}
use mathlib.Core.HLevel.{Π_set, Π_prop}
use Rattle.std.proofs.Math.Bridge.{le_prop}
use Rattle.px_model.specs.Node.{Entry, Proposal, Log, Phase, Attempt, Lead, Volatile}
use Rattle.px_model.specs.Node.Phase.{Preparing, Accepting}
use Rattle.px_model.specs.Fits.{Passes, IsBallot, EntryFits, ProposalFits, PhaseFits, AttemptFits, LeadFits}
use Rattle.px_model.specs.Fits.{VolatileFits, LogFits}
use Rattle.px_model.specs.Law.{Among}
use Rattle.px_model.specs.Spelling.{Bytes}
use Rattle.px_model.specs.Step.{front}
use Rattle.px_wire.specs.Sent.{is_command}
use Rattle.px_core.specs.Planning.{State}
use Rattle.px_core.specs.Fitting.{CoreFits}

abbrev entry_code : Coded (Entry Bytes)
entry_code =
    code_by (ℕ × (ℕ × Bytes)) (coded× coded_ℕ (coded× coded_ℕ (coded_list coded_ℕ)))
    (λ e. (e.origin, (e.number, e.command))) (λ p. record { origin = p.0; number = p.1.0; command = p.1.1 })
    (λ _. refl)

log_set : IsSet (Log Bytes)
log_set = Π_set (λ _. Coded-set (coded_option entry_code))

pub agree_prop : (failed : Bool) (Honest : Type 0) (a b : Log Bytes) → IsProp (failed ≡ false →
    Honest → a ≡ b)
agree_prop failed Honest a b = Π_prop (λ _. Π_prop (λ _. log_set a b))

number_prop : (a b : ℕ) → IsProp (a ≡ b)
number_prop a b = Coded-set coded_ℕ a b

ballot_prop : (n b : ℕ) → IsProp (IsBallot n b)
ballot_prop n b x y = λ i. record {
  begun = le_prop x.begun y.begun i;
  round = le_prop x.round y.round i;
  member = le_prop x.member y.member i;
}

entry_prop : (n : ℕ) (e : Entry Bytes) → IsProp (EntryFits (Passes is_command) n e)
entry_prop n e x y = λ i. record {
  origin = le_prop x.origin y.origin i;
  number = le_prop x.number y.number i;
  command = Bool-set (is_command e.command) true x.command y.command i;
}

proposal_prop : (n : ℕ) (e : Proposal Bytes) → IsProp (ProposalFits (Passes is_command) n e)
proposal_prop n e x y = λ i. record {
  ballot = ballot_prop n e.ballot x.ballot y.ballot i;
  entry = entry_prop n e.entry x.entry y.entry i;
}

best_prop : (n : ℕ) (best : Option (Proposal Bytes)) →
    IsProp (IfSome best (λ x. ProposalFits (Passes is_command) n x))
best_prop n None = Unit-prop
best_prop n (Some x) = proposal_prop n x

phase_prop : (n : ℕ) (phase : Phase Bytes) → IsProp (PhaseFits (Passes is_command) n phase)
phase_prop n (Preparing counted top best) = ×_prop le_prop (best_prop n best)
phase_prop n (Accepting e) = entry_prop n e

attempt_prop : (n me f : ℕ) (a : Attempt Bytes) → IsProp (AttemptFits (Passes is_command) n me f a)
attempt_prop n me f a x y = λ i. record {
  at_front = number_prop a.position f x.at_front y.at_front i;
  position = le_prop x.position y.position i;
  ballot = ×_prop (ballot_prop n a.ballot) (number_prop (a.ballot % 256) me) x.ballot y.ballot i;
  phase = phase_prop n a.phase x.phase y.phase i;
}

some_attempt_prop : (n me f : ℕ) (a : Option (Attempt Bytes)) →
    IsProp (IfSome a (λ x. AttemptFits (Passes is_command) n me f x))
some_attempt_prop n me f None = Unit-prop
some_attempt_prop n me f (Some a) = attempt_prop n me f a

lead_prop : (n me : ℕ) (l : Lead) → IsProp (LeadFits n me l)
lead_prop n me l x y = λ i. record {
  ballot = ×_prop (ballot_prop n l.ballot) (number_prop (l.ballot % 256) me) x.ballot y.ballot i;
  from = le_prop x.from y.from i;
}

some_lead_prop : (n me : ℕ) (l : Option Lead) → IsProp (IfSome l (λ x. LeadFits n me x))
some_lead_prop n me None = Unit-prop
some_lead_prop n me (Some l) = lead_prop n me l

waiting_prop : (n me : ℕ) (v : Volatile Bytes) →
    IsProp ((e : Entry Bytes) → Among v.waiting e → EntryFits (Passes is_command) n e × (e.origin ≡ me))
waiting_prop n me v = Π_prop (λ e. Π_prop (λ _. ×_prop (entry_prop n e) (number_prop e.origin me)))

volatile_prop : (n me f : ℕ) (v : Volatile Bytes) → IsProp (VolatileFits (Passes is_command) n me f v)
volatile_prop n me f v x y = λ i. record {
  room = le_prop x.room y.room i;
  waiting = waiting_prop n me v x.waiting y.waiting i;
  attempt = some_attempt_prop n me f v.attempt x.attempt y.attempt i;
  lead = some_lead_prop n me v.lead x.lead y.lead i;
  seen = le_prop x.seen y.seen i;
}

log_prop : (n : ℕ) (log : Log Bytes) → IsProp (LogFits (Passes is_command) n log)
log_prop n log = Π_prop (λ p. Π_prop (λ e. Π_prop (λ is. ×_prop le_prop (entry_prop n e))))

pub core_prop : (s : State) → IsProp (CoreFits is_command s)
core_prop s x y = λ i. record {
  learned = log_prop s.members s.learned x.learned y.learned i;
  volatile = volatile_prop s.members s.me (front s.learned) s.volatile x.volatile y.volatile i;
}
