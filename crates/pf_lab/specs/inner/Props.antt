-- That a record is sound is a proposition: it has at most one proof.
use Rattle.std.specs.Prelude.{◌≤◌, ℕ, true, Option, None, Some, IfSome, refl}
use Rattle.std.specs.Coded.{×_prop, Coded, Coded-set, code_by, coded×, coded_ℕ, coded_list, coded_option}
use mathlib.Core.Bool.{Bool-set}
use mathlib.Core.HLevel.{Π_prop}
use Rattle.std.proofs.Math.Bridge.{le_prop}
use Rattle.px_model.specs.Node.{Entry, Proposal, Slot, Log, Record}
use Rattle.px_model.specs.Fits.{Passes, IsBallot, EntryFits, ProposalFits, SlotFits, LogFits}
use Rattle.px_model.specs.Spelling.{Bytes}
use Rattle.px_records.specs.inner.Props.{IsPromise-prop, MetaFits-prop}
use Rattle.px_wire.specs.Sent.{is_command}
use Rattle.px_replica.specs.Seen.{IsSound}

abbrev entry_code : Coded (Entry Bytes)
entry_code =
    code_by (ℕ × (ℕ × Bytes)) (coded× coded_ℕ (coded× coded_ℕ (coded_list coded_ℕ)))
    (λ e. (e.origin, (e.number, e.command)))
    (λ p. record { origin = p.0; number = p.1.0; command = p.1.1 })
    (λ _. refl)

abbrev proposal_code : Coded (Proposal Bytes)
proposal_code =
    code_by (ℕ × Entry Bytes) (coded× coded_ℕ entry_code)
    (λ x. (x.ballot, x.entry))
    (λ p. record { ballot = p.0; entry = p.1 })
    (λ _. refl)

ballot_prop : (n b : ℕ) → IsProp (IsBallot n b)
ballot_prop n b x y = λ i. record {
  begun = le_prop x.begun y.begun i;
  round = le_prop x.round y.round i;
  member = le_prop x.member y.member i;
}

entry_prop : (n : ℕ) (e : Entry Bytes) → IsProp (EntryFits (Passes is_command) n e)
entry_prop n e x y = λ i. record {
  origin = le_prop x.origin y.origin i;
  number = le_prop x.number y.number i;
  command = Bool-set (is_command e.command) true x.command y.command i;
}

proposal_prop : (n : ℕ) (e : Proposal Bytes) → IsProp (ProposalFits (Passes is_command) n e)
proposal_prop n e x y = λ i. record {
  ballot = ballot_prop n e.ballot x.ballot y.ballot i;
  entry = entry_prop n e.entry x.entry y.entry i;
}

accepted_prop : (n promised : ℕ) (a : Option (Proposal Bytes)) →
    IsProp (IfSome a (λ x. ProposalFits (Passes is_command) n x × (x.ballot ≤ promised)))
accepted_prop n promised None x y = refl
accepted_prop n promised (Some p) x y = ×_prop (proposal_prop n p) le_prop x y

slot_prop : (n : ℕ) (s : Slot Bytes) → IsProp (SlotFits (Passes is_command) n s)
slot_prop n s x y = λ i. record {
  promised = IsPromise-prop n s.promised x.promised y.promised i;
  accepted = accepted_prop n s.promised s.accepted x.accepted y.accepted i;
}

log_prop : (n : ℕ) (log : Log Bytes) → IsProp (LogFits (Passes is_command) n log)
log_prop n log = Π_prop (λ p. Π_prop (λ e. Π_prop (λ is. ×_prop le_prop (entry_prop n e))))

pub sound_prop : (n : ℕ) (d : Record Bytes) → IsProp (IsSound n d)
sound_prop n d x y = λ i. record {
  meta = MetaFits-prop n d.meta x.meta y.meta i;
  slots = Π_prop (λ (p : ℕ). slot_prop n (d.slots p)) x.slots y.slots i;
  last = Π_prop (λ (p : ℕ). Π_prop (λ over. Coded-set (coded_option proposal_code) (d.slots p).accepted None))
      x.last y.last i;
  learned = log_prop n d.learned x.learned y.learned i;
}
