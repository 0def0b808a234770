-- Records in memory, after a change.
use Rattle.std.proofs.Common.{◌≡◌, ◌≤◌, ◌<◌, ◌+◌, ◌⊎◌, inl, inr, ℕ, zero, suc, true, false, Option, None, Some, IsSome, Result, Ok, Err, OnOk, OnErr, refl, sym, ap, subst, ◌∙◌, arith, nat_eq}
use Rattle.std.proofs.Math.Path.{fun_ext}
use Rattle.std.proofs.lemmas.Bool.{cases_lt, eq-eqb, ne_eqb, false≢true}
use Rattle.std.specs.BTreeMap.{BTreeMap}
use Rattle.px_model.specs.Node.{Slot, Entry, Log}
use Rattle.px_model.specs.Step.{put}
use Rattle.px_model.specs.Spelling.{Bytes}
use Rattle.px_model.specs.Seen.{meta_of}
use Rattle.px_model.specs.declared.entry.Entry as entry
use Rattle.px_model.specs.declared.record.Slot as code
use Rattle.px_model.specs.declared.record.Meta.{Meta}
use Rattle.px_records.specs.Records.{IsEnd}
use Rattle.px_records.specs.Memory.{slots_in, learned_in, record_of}

-- ---- the record, as its maps change

-- what a call did, whichever way it ended
pub either : {A B X E : Type 0} (r : Result X E) → OnOk r A → OnErr r B → A ⊎ B
either (Ok x) done refused = inl done
either (Err e) done refused = inr refused

pub slots_same : (meta : Meta) (a b : BTreeMap ℕ code.Slot) (learned : BTreeMap ℕ entry.Entry) → ((p : ℕ) → slots_in a p ≡ slots_in b p) → record_of meta a learned ≡ record_of meta b learned
slots_same meta a b learned h = ap (λ (f : ℕ → Slot Bytes). record { meta = meta_of meta; slots = f; learned = learned_in learned }) (fun_ext h)

pub slots_put : (meta : Meta) (a b : BTreeMap ℕ code.Slot) (learned : BTreeMap ℕ entry.Entry) (q : ℕ) (s : Slot Bytes) → ((p : ℕ) → slots_in a p ≡ put (slots_in b) q s p)
    → record_of meta a learned ≡ record (record_of meta b learned) { slots = put (slots_in b) q s }
slots_put meta a b learned q s h = ap (λ (f : ℕ → Slot Bytes). record { meta = meta_of meta; slots = f; learned = learned_in learned }) (fun_ext h)

pub log_same : (meta : Meta) (slots : BTreeMap ℕ code.Slot) (a b : BTreeMap ℕ entry.Entry) → ((p : ℕ) → learned_in a p ≡ learned_in b p) → record_of meta slots a ≡ record_of meta slots b
log_same meta slots a b h = ap (λ (f : Log Bytes). record { meta = meta_of meta; slots = slots_in slots; learned = f }) (fun_ext h)

pub log_put : (meta : Meta) (slots : BTreeMap ℕ code.Slot) (a b : BTreeMap ℕ entry.Entry) (q : ℕ) (e : Entry Bytes) → ((p : ℕ) → learned_in a p ≡ put (learned_in b) q (Some e) p)
    → record_of meta slots a ≡ record (record_of meta slots b) { learned = put (learned_in b) q (Some e) }
log_put meta slots a b q e h = ap (λ (f : Log Bytes). record { meta = meta_of meta; slots = slots_in slots; learned = f }) (fun_ext h)

-- ---- the end of what is learned

beyond : (log : Log Bytes) (end : ℕ) → IsEnd log end → (p : ℕ) → end ≤ p → log p ≡ None
beyond log zero h p le = h p
beyond log (suc last) h p le = h.1 p le

module _ (old new : Log Bytes) (q : ℕ) (e : Entry Bytes) (done : (p : ℕ) → new p ≡ put old q (Some e) p) where
  there : new q ≡ Some e
  there = let same : nat_eq q q ≡ true = eq-eqb q q refl in done q ∙ rw same refl

  apart : (p : ℕ) → (p ≡ q → ⊥) → new p ≡ old p
  apart p ne = let other : nat_eq p q ≡ false = ne_eqb p q ne in done p ∙ rw other refl

  moves : (end : ℕ) → IsEnd old end → end ≤ suc q → IsEnd new (suc q)
  moves end h le = (rw there refl, λ p over. apart p (λ same. omega (arith, over, same)) ∙ beyond old end h p (omega (arith, le, over)))

  stays : (end : ℕ) → IsEnd old end → suc q < end → IsEnd new end
  stays zero h lt = absurd (omega (arith, lt))
  stays (suc last) h lt = (
    subst IsSome (sym (apart last (λ same. omega (arith, lt, same)))) h.0,
    λ p over. apart p (λ same. omega (arith, lt, over, same)) ∙ h.1 p over,
  )

  pub end_put : (end : ℕ) → IsEnd old end → (u : ℕ) → (end ≤ q + 1 → u ≡ q + 1) × (q + 1 ≤ end → u ≡ end) → IsEnd new u
  end_put end h u is = elim (cases_lt (suc q) end) [
    | inl lt ↦ subst (IsEnd new) (sym (is.1 (omega (arith, lt)))) (stays end h lt)
    | inr le ↦
        let it : u ≡ suc q = omega (arith, is.0 (omega (arith, le))) in
        subst (IsEnd new) (sym it) (moves end h le)
  ]

pub end_same : (old new : Log Bytes) → ((p : ℕ) → new p ≡ old p) → (end : ℕ) → IsEnd old end → IsEnd new end
end_same old new same end h = subst (λ (f : Log Bytes). IsEnd f end) (sym (fun_ext same)) h

-- what is learned is below the bound of positions
pub end_within : (bound : ℕ) (log : Log Bytes) → ((p : ℕ) (e : Entry Bytes) → log p ≡ Some e → p < bound) → (end : ℕ) → IsEnd log end → end ≤ bound
end_within bound log fits zero h = omega arith
end_within bound log fits (suc last) h = last_within (log last) refl h.0 where
  last_within : (a : Option (Entry Bytes)) → log last ≡ a → IsSome a → suc last ≤ bound
  last_within None e some = absurd (false≢true some)
  last_within (Some x) e some = let lt = fits last x e in omega (arith, lt)
