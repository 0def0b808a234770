-- What a record in memory keeps true of itself is a fact, and no more.
use Rattle.std.proofs.Common.{◌≡◌, inl, inr, ◌≤◌, ℕ, zero, suc, Option, None, Some, IfSome, ap, subst}
use Rattle.std.proofs.Common.{refl}
use Rattle.std.specs.Prelude.{◌/◌, is_some, true}
use Rattle.std.specs.Coded.{×_prop, Coded, code_by, coded×, coded_ℕ, coded_list, coded_option}
use base.Stored.{Coded-set}
use mathlib.Core.Bool.{Bool-set}
use mathlib.Core.HLevel.{Π_prop}
use Rattle.std.proofs.Math.Bridge.{le_prop, no_suc-le-zero}
use Rattle.std.specs.BTreeMap.{BTreeMap}
use Rattle.px_model.specs.Bounds.{AnyCommand}
use Rattle.px_model.specs.Node.{Entry, Proposal, Slot, Meta, Record, Log}
use Rattle.px_model.specs.Step.{top}
use Rattle.px_model.specs.Spelling.{Bytes}
use Rattle.px_model.specs.Fits.{IsBallot, IsPromise, EntryFits, ProposalFits, MetaFits, SlotFits, LogFits, RecordFits}
use Rattle.px_model.specs.declared.record.Slot as code
use Rattle.px_model.specs.declared.record.Meta as numbers
use Rattle.px_model.specs.declared.entry.Entry as entry
use Rattle.px_records.specs.Records.{IsEnd}
use Rattle.px_records.specs.Memory.{slots_in, record_of}
use Rattle.px_records.specs.inner.Memory.{AllFits}

-- ---- values that are distinguished

abbrev entry_code : Coded (Entry Bytes)
entry_code =
    code_by (ℕ × (ℕ × Bytes)) (coded× coded_ℕ (coded× coded_ℕ (coded_list coded_ℕ)))
    (λ e. (e.origin, (e.number, e.command)))
    (λ p. record { origin = p.0; number = p.1.0; command = p.1.1 })
    (λ _. refl)

abbrev proposal_code : Coded (Proposal Bytes)
proposal_code =
    code_by (ℕ × Entry Bytes) (coded× coded_ℕ entry_code)
    (λ x. (x.ballot, x.entry))
    (λ p. record { ballot = p.0; entry = p.1 })
    (λ _. refl)

-- ---- ranges

IsBallot-prop : (n b : ℕ) → IsProp (IsBallot n b)
IsBallot-prop n b x y = λ i. record {
  begun = le_prop x.begun y.begun i;
  round = le_prop x.round y.round i;
  member = le_prop x.member y.member i;
}

no_ballot : (n b : ℕ) → b ≡ 0 → IsBallot n b → ⊥
no_ballot n b e x = no_suc-le-zero (subst (λ (k : ℕ). 1 ≤ k / 256) e x.begun)

pub IsPromise-prop : (n b : ℕ) → IsProp (IsPromise n b)
IsPromise-prop n b (inl p) (inl q) = ap inl (Coded-set coded_ℕ b 0 p q)
IsPromise-prop n b (inr p) (inr q) = ap inr (IsBallot-prop n b p q)
IsPromise-prop n b (inl p) (inr q) = absurd (no_ballot n b p q)
IsPromise-prop n b (inr p) (inl q) = absurd (no_ballot n b q p)

EntryFits-prop : (n : ℕ) (e : Entry Bytes) → IsProp (EntryFits AnyCommand n e)
EntryFits-prop n e x y = λ i. record {
  origin = le_prop x.origin y.origin i;
  number = le_prop x.number y.number i;
  command = tt;
}

ProposalFits-prop : (n : ℕ) (e : Proposal Bytes) → IsProp (ProposalFits AnyCommand n e)
ProposalFits-prop n e x y = λ i. record {
  ballot = IsBallot-prop n e.ballot x.ballot y.ballot i;
  entry = EntryFits-prop n e.entry x.entry y.entry i;
}

pub MetaFits-prop : (n : ℕ) (m : Meta) → IsProp (MetaFits n m)
MetaFits-prop n m x y = λ i. record {
  round = le_prop x.round y.round i;
  number = le_prop x.number y.number i;
  floor = IsPromise-prop n m.floor x.floor y.floor i;
}

accepted_prop : (n promised : ℕ) (a : Option (Proposal Bytes)) →
    IsProp (IfSome a (λ x. ProposalFits AnyCommand n x × (x.ballot ≤ promised)))
accepted_prop n promised None x y = refl
accepted_prop n promised (Some p) x y = ×_prop (ProposalFits-prop n p) le_prop x y

SlotFits-prop : (n : ℕ) (s : Slot Bytes) → IsProp (SlotFits AnyCommand n s)
SlotFits-prop n s x y = λ i. record {
  promised = IsPromise-prop n s.promised x.promised y.promised i;
  accepted = accepted_prop n s.promised s.accepted x.accepted y.accepted i;
}

LogFits-prop : (n : ℕ) (log : Log Bytes) → IsProp (LogFits AnyCommand n log)
LogFits-prop n log = Π_prop (λ p. Π_prop (λ e. Π_prop (λ is. ×_prop le_prop (EntryFits-prop n e))))

pub RecordFits-prop : (n : ℕ) (d : Record Bytes) → IsProp (RecordFits AnyCommand n d)
RecordFits-prop n d x y = λ i. record {
  meta = MetaFits-prop n d.meta x.meta y.meta i;
  slots = Π_prop (λ (p : ℕ). SlotFits-prop n (d.slots p)) x.slots y.slots i;
  last = Π_prop (λ (p : ℕ). Π_prop (λ over. Coded-set (coded_option proposal_code) (d.slots p).accepted None))
      x.last y.last i;
  learned = LogFits-prop n d.learned x.learned y.learned i;
}

-- ---- the ends

pub IsTop-prop : (t : ℕ) (slots : BTreeMap ℕ code.Slot) → IsProp (t ≡ top (slots_in slots))
IsTop-prop t slots = Coded-set coded_ℕ t (top (slots_in slots))

pub IsEnd-prop : (log : Log Bytes) (end : ℕ) → IsProp (IsEnd log end)
IsEnd-prop log zero = Π_prop (λ p. Coded-set (coded_option entry_code) (log p) None)
IsEnd-prop log (suc last) =
    ×_prop (Bool-set (is_some (log last)) true)
    (Π_prop (λ p. Π_prop (λ le. Coded-set (coded_option entry_code) (log p) None)))

pub AllFits-prop : (members : ℕ) (meta : numbers.Meta) (slots : BTreeMap ℕ code.Slot)
    (learned : BTreeMap ℕ entry.Entry) →
    IsProp (AllFits members meta slots learned)
AllFits-prop members meta slots learned = RecordFits-prop members (record_of meta slots learned)
