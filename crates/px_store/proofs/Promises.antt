-- A change is made after the row that it replaces was read.
use Rattle.std.proofs.Common.{◌≡◌, inl, inr, ℕ, List, Bool, true, false, cond, ◌&&◌, ◌<◌, ◌≤◌, ◌+◌, ◌*◌, ◌^◌, ◌/◌, ◌%◌, None, Some, Ok, Err, Result, refl, sym, ap, ◌∙◌, arith, nat_eq, OnOk, length}
use Rattle.std.specs.Prelude.{nat_le, nat_lt}
use Rattle.std.proofs.lemmas.Bool.{and_parts, leb-true, le-leb, lt-ltb, ltb-true, eq-eqb, ne_eqb, eqb-true}
use Rattle.std.proofs.Math.Nat.{lt-div-mul-add}
use Rattle.px_model.specs.Bounds.{AnyCommand}
use Rattle.px_model.specs.Node.{Record, Slot, Entry}
use Rattle.px_model.specs.Step.{put}
use Rattle.px_model.specs.Spelling.{Bytes, spelled}
use Rattle.px_model.specs.Fits.{IsBallot, EntryFits}
use Rattle.px_store.specs.Entries.{entry_of, is_entry}
use Rattle.px_store.proofs.Spelled.{reads_back, spells_entry}
use Rattle.px_store.proofs.Stored.{not_zero}
use Rattle.px_records.specs.declared.records.StoreFault.TheVariants as fault
use Rattle.px_store.specs.Seen.{is_slot, is_ballot, is_proposal, is_none_or_ballot}
use Rattle.px_store.specs.inner.Seen.{slot_with}
use Rattle.px_store.specs.Store.{Stored}
use Rattle.px_store.specs.inner.Store.{Keeps, OnlyReads, LeavesOneOf, Changed, with_meta, with_slot, with_promise}
use Rattle.px_store.specs.inner.Store.{with_entry}
use Rattle.px_records.specs.declared.records.StoreFault.{StoreFault}

-- ---- a read, and then a change

pub keeps_then : {a b c : Stored} → Keeps a b → Keeps b c → Keeps a c
keeps_then h k = record { same = k.same ∙ h.same; rows = λ x good. k.rows x (h.rows x good); back = λ x good. h.back x (k.back x good) }

ok_as : {X E : Type 0} (r : Result X E) (now a b : Record Bytes) → a ≡ b → OnOk r (now ≡ a) → OnOk r (now ≡ b)
ok_as (Ok x) now a b is h = h ∙ is
ok_as (Err e) now a b is h = h

stop_then : (f : Record Bytes → Record Bytes) (s m t : Stored) → Keeps s m → ((r : Record Bytes) → m.may_leave r → s.may_leave r) → LeavesOneOf (f m.kept) m t → LeavesOneOf (f s.kept) s t
stop_then f s m t was leaves h r left = elim (h r left) [
  | inl old ↦ inl (leaves r old)
  | inr made ↦ inr (made ∙ ap f was.same)
]

pub read_then : (f : Record Bytes → Record Bytes) (s m t : Stored) (answer : Result (Unit {0}) StoreFault) → Keeps s m → ((r : Record Bytes) → m.may_leave r → s.may_leave r) → Changed (f m.kept) answer m t → Changed (f s.kept) answer s t
read_then f s m t answer was leaves h = record {
  ok = ok_as answer t.kept (f m.kept) (f s.kept) (ap f was.same) h.ok;
  memory = λ is. keeps_then was (h.memory is);
  stop = stop_then f s m t was leaves h.stop;
}

-- and where the read fails there is no change
pub not_read : (target : Record Bytes) (s m : Stored) (why : StoreFault) → OnlyReads s m → m.is_honest → (why ≡ fault.Memory → m.failed ≡ 0) → Changed target (Err why) s m
not_read target s m why reads honest none = record {
  ok = tt;
  memory = λ is. reads.keeps honest (none (let same = is in cc));
  stop = λ r left. inl (reads.leaves honest r left);
}

-- the slot that is put is the one that was read, with this promise
pub promise_is : (d : Record Bytes) (p ballot promised b : ℕ) (bytes : List ℕ) → slot_with promised b bytes ≡ d.slots p → with_slot d p ballot b bytes ≡ with_promise d p ballot
promise_is d p ballot promised b bytes read = ap (λ (s : Slot Bytes). record d { slots = put d.slots p (record { promised = ballot; accepted = s.accepted }) }) read

-- ---- ranges

pub ballot_range : (n b : ℕ) → is_ballot n b ≡ true → b < 2 ^ 63
ballot_range n b is =
    let a = and_parts (nat_le 1 (b / 256)) (nat_lt (b / 256) (2 ^ 48) && nat_lt (b % 256) n) is in
    let d = and_parts (nat_lt (b / 256) (2 ^ 48)) (nat_lt (b % 256) n) a.1 in
    let low : b / 256 < 2 ^ 48 = ltb-true (b / 256) (2 ^ 48) d.0 in
    let near : b < b / 256 * 256 + 256 = lt-div-mul-add (omega arith) in
    omega (arith, low, near)

pub promise_range : (n b : ℕ) → is_none_or_ballot n b ≡ true → b < 2 ^ 63
promise_range n b is = go (nat_eq b 0) refl is
  where
    go : (z : Bool) → nat_eq b 0 ≡ z → cond z true (is_ballot n b) ≡ true → b < 2 ^ 63
    go true zero ok = let e = eqb-true b 0 zero in omega (arith, e)
    go false some ok = ballot_range n b ok

-- what was accepted isn't above what is promised
pub slot_range : (n a b : ℕ) (bytes : List ℕ) → is_slot n a b bytes ≡ true → b < 2 ^ 63
slot_range n a b bytes is =
    let p = and_parts (is_none_or_ballot n a) (nat_le b a && is_proposal n b bytes) is in
    let q = and_parts (nat_le b a) (is_proposal n b bytes) p.1 in
    let le : b ≤ a = leb-true b a q.0 in
    let low = promise_range n a p.0 in
    omega (arith, le, low)

-- one read after another
pub only_then : {a b c : Stored} → b.failed ≡ 0 → OnlyReads a b → OnlyReads b c → OnlyReads a c
only_then none h k = record {
  was = λ honest. h.was (k.was honest);
  keeps = λ honest failed. keeps_then (h.keeps (k.was honest) none) (k.keeps honest failed);
  leaves = λ honest r left. h.leaves (k.was honest) r (k.leaves honest r left);
}

-- ---- changes of the record

pub round_is : (d : Record Bytes) (r k : ℕ) → k ≡ d.meta.number → with_meta d r k ≡ record d { meta = record d.meta { round = r } }
round_is d r k e = ap (λ (n : ℕ). record d { meta = record d.meta { round = r; number = n } }) e

pub number_is : (d : Record Bytes) (r k : ℕ) → r ≡ d.meta.round → with_meta d r k ≡ record d { meta = record d.meta { number = k } }
number_is d r k e = ap (λ (n : ℕ). record d { meta = record d.meta { round = n; number = k } }) e

abbrev accepted_slot : ℕ → Entry Bytes → Slot Bytes
accepted_slot b e = record { promised = b; accepted = Some (record { ballot = b; entry = e }) }

slot_is : (b : ℕ) (bytes : List ℕ) (e : Entry Bytes) → (b ≡ 0 → ⊥) → entry_of bytes ≡ e → slot_with b b bytes ≡ accepted_slot b e
slot_is b bytes e some is = let ne : nat_eq b 0 ≡ false = ne_eqb b 0 some in rw ne (ap (accepted_slot b) is)

pub accepted_is : (n : ℕ) (d : Record Bytes) (p b : ℕ) (e : Entry Bytes) (bytes : List ℕ) → bytes ≡ spelled e → IsBallot n b → EntryFits AnyCommand n e → 1 ≤ length e.command
    → with_slot d p b b bytes ≡ record d { slots = put d.slots p (record { promised = b; accepted = Some (record { ballot = b; entry = e }) }) }
accepted_is n d p b e bytes spells is fits long =
    ap (λ (s : Slot Bytes). record d { slots = put d.slots p s })
    (slot_is b bytes e (λ zero. not_zero n b zero is) (ap entry_of spells ∙ reads_back n e fits long))

pub learned_is : (n : ℕ) (d : Record Bytes) (p : ℕ) (e : Entry Bytes) (bytes : List ℕ) → bytes ≡ spelled e → EntryFits AnyCommand n e → 1 ≤ length e.command
    → with_entry d p bytes ≡ record d { learned = put d.learned p (Some e) }
learned_is n d p e bytes spells fits long = ap (λ (x : Entry Bytes). record d { learned = put d.learned p (Some x) }) (ap entry_of spells ∙ reads_back n e fits long)

-- ---- rows that are good

ballot_is : (n b : ℕ) → IsBallot n b → is_ballot n b ≡ true
ballot_is n b x = rw (le-leb 1 (b / 256) x.begun, lt-ltb (b / 256) (2 ^ 48) x.round, lt-ltb (b % 256) n x.member) refl

some_ballot : (n b : ℕ) → IsBallot n b → is_none_or_ballot n b ≡ true
some_ballot n b x = rw (ne_eqb b 0 (λ zero. not_zero n b zero x)) (ballot_is n b x)

-- a slot may promise more
pub raised : (n a more b : ℕ) (bytes : List ℕ) → is_slot n a b bytes ≡ true → IsBallot n more → a ≤ more → is_slot n more b bytes ≡ true
raised n a more b bytes good is up =
    let p = and_parts (is_none_or_ballot n a) (nat_le b a && is_proposal n b bytes) good in
    let q = and_parts (nat_le b a) (is_proposal n b bytes) p.1 in
    let le : b ≤ a = leb-true b a q.0 in
    rw (some_ballot n more is, le-leb b more (omega (arith, le, up)), q.1) refl

-- a slot with an accepted proposal
pub accepted_good : (n b : ℕ) (bytes : List ℕ) → IsBallot n b → is_entry n bytes ≡ true → is_slot n b b bytes ≡ true
accepted_good n b bytes is entry =
    rw (some_ballot n b is, le-leb b b (omega arith), ne_eqb b 0 (λ zero. not_zero n b zero is), ballot_is n b is, entry) refl

-- without a ballot there is no proposal
pub none_accepted : (d : Record Bytes) (p promised b : ℕ) (bytes : List ℕ) → slot_with promised b bytes ≡ d.slots p → b ≡ 0 → (d.slots p).accepted ≡ None
none_accepted d p promised b bytes read zero = ap (λ (s : Slot Bytes). s.accepted) (sym read) ∙ rw (eq-eqb b 0 zero) refl

-- the bytes of an entry that fits
pub entry_good : (n : ℕ) (e : Entry Bytes) (bytes : List ℕ) → bytes ≡ spelled e → EntryFits AnyCommand n e → 1 ≤ length e.command → is_entry n bytes ≡ true
entry_good n e bytes spells fits long = ap (is_entry n) spells ∙ spells_entry n e fits long
