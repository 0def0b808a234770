-- Bad rows, before and after a call that reads.
use Rattle.std.proofs.Common.{◌≡◌, ◌<◌, ◌≤◌, ℕ, zero, suc, IsSome, sym, subst, inl, inr, arith}
use Rattle.std.specs.Prelude.{IfSome}
use Rattle.std.proofs.lemmas.Bool.{cases_lt, false≢true}
use Rattle.px_model.specs.Node.{Record, Entry, Log}
use Rattle.px_model.specs.Fits.{Passes, EntryFits}
use Rattle.px_model.specs.Spelling.{Bytes}
use Rattle.px_records.specs.Records.{IsRead, IsEnd}
use Rattle.px_records.specs.Records.Place.{EntryAt, LastEntry}
use Rattle.px_records.specs.declared.records.Records.{Ghosts}
use Rattle.px_wire.specs.Sent.{is_command}
use Rattle.px_replica.specs.Calls.{IsBadEntry, HasBadEntry}

-- a log has one end
end_below : (log : Log Bytes) (a b : ℕ) → IsEnd log a → IsEnd log b → a ≤ b
end_below log zero b is other = omega arith
end_below log (suc last) zero is other = absurd (false≢true (subst IsSome (other last) is.0))
end_below log (suc last) (suc m) is other = elim (cases_lt last (suc m)) [
  | inl lt ↦ omega (arith, lt)
  | inr le ↦ absurd (false≢true (subst IsSome (other.1 last le) is.0))
]

module _ {R : Type 0} (G : Ghosts R) (r s : R) (n : ℕ) (honest : G.is_honest s) (none : G.failed s ≡ 0)
    (read : IsRead G.is_honest G.stored G.may_leave G.failed G.is_good r s) where
  entry_before : (p : ℕ) → IsBadEntry G s n p → IsBadEntry G r n p
  entry_before p (inl bad) = inl (λ good. bad ((read.rows honest none (EntryAt p)).0 good))
  entry_before p (inr bad) =
      inr (λ fits. bad (subst (λ (d : Record Bytes). IfSome (d.learned p) (λ (e : Entry Bytes). EntryFits (Passes is_command) n e))
      (sym (read.stays honest none)) fits))

  entry_after : (p : ℕ) → IsBadEntry G r n p → IsBadEntry G s n p
  entry_after p (inl bad) = inl (λ good. bad ((read.rows honest none (EntryAt p)).1 good))
  entry_after p (inr bad) =
      inr (λ fits. bad (subst (λ (d : Record Bytes). IfSome (d.learned p) (λ (e : Entry Bytes). EntryFits (Passes is_command) n e))
      (read.stays honest none) fits))

  -- what is bad later was bad before
  pub bad_before : HasBadEntry G s n → HasBadEntry G r n
  bad_before (inl bad) = inl (λ good. bad ((read.rows honest none LastEntry).0 good))
  bad_before (inr found) = inr (
    found.0,
    subst (λ (d : Record Bytes). IsEnd d.learned found.0) (read.stays honest none) found.1,
    (found.2.0, found.2.1, entry_before found.2.0 found.2.2),
  )

  pub bad_at_before : (p end : ℕ) → p < end → IsBadEntry G s n p → (q : ℕ) × (q < end) × IsBadEntry G r n q
  bad_at_before p end lt bad = (p, lt, entry_before p bad)

  -- what was bad before is bad later
  pub bad_after : HasBadEntry G r n → HasBadEntry G s n
  bad_after (inl bad) = inl (λ good. bad ((read.rows honest none LastEntry).1 good))
  bad_after (inr found) = inr (
    found.0,
    subst (λ (d : Record Bytes). IsEnd d.learned found.0) (sym (read.stays honest none)) found.1,
    (found.2.0, found.2.1, entry_after found.2.0 found.2.2),
  )

  -- the last entry was good before, and all up to there are good later
  pub all_good : (end : ℕ) → IsEnd (G.stored s).learned end → G.is_good r LastEntry →
      ((p : ℕ) → p < end → IsBadEntry G s n p → ⊥) → HasBadEntry G r n → ⊥
  all_good end last good below (inl bad) = bad good
  all_good end last good below (inr found) =
      let is : IsEnd (G.stored s).learned found.0 =
      subst (λ (d : Record Bytes). IsEnd d.learned found.0) (sym (read.stays honest none)) found.1 in
      let le : found.0 ≤ end = end_below (G.stored s).learned found.0 end is last in
      below found.2.0 (omega (arith, found.2.1, le)) (entry_after found.2.0 found.2.2)
