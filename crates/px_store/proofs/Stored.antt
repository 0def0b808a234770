-- What the calls do to a record that a connection keeps.
use Rattle.std.proofs.Common.{◌≡◌, inl, inr, ℕ, pos, negsuc, ◌≤◌, List, [], ◌∷◌, true, false, refl, sym, ap, subst, subst₂, ◌∙◌, arith}
use Rattle.std.proofs.lemmas.Bool.{cases_eq, eq-eqb, ne_eqb, and_parts, eqb-true}
use Rattle.std.specs.Prelude.{◌/◌}
use Rattle.std.proofs.Math.Bridge.{no_suc-le-zero}
use Rattle.px_model.specs.Fits.{IsBallot}
use Rattle.sqlite.specs.declared.types.Value.{Value}
use Rattle.sqlite.specs.declared.types.Value.TheVariants.{Null, Int, Real, Text, Blob}
use Rattle.sqlite_value.specs.Order.{Row, column}
use Rattle.sqlite.specs.Effect.{Database}
use Rattle.sqlite.specs.Tree.{Trees}
use Rattle.sqlite.specs.State.{State, HasCleanDisk}
use Rattle.px_store.specs.Seen.{seen, is_key, are_slot_rows, are_learned_rows, meta_columns, meta_row, floor_columns}
use Rattle.px_store.specs.Seen.{number_at, record_in}
use Rattle.px_store.specs.inner.Seen.{IsKeyed, floor_row, floor_rows}
use Rattle.px_store.specs.inner.Effect.{Puts, IsSettled, IsAlike}
use Rattle.px_store.specs.Adopting.{LeavesOld}
use Rattle.px_store.specs.inner.Store.{Keeps, OnlyReads}
use Rattle.px_store.specs.Ready.{is_good, stored_of}
use Rattle.px_store.specs.inner.Ready.{IsMeta}
use Rattle.px_store.specs.declared.calls.Identity.{Identity}
use Rattle.px_model.specs.declared.record.Meta.{Meta}

-- ---- good rows have their key

key_is : (p : ℕ) (v : Value) → is_key p v ≡ true → v ≡ Int (pos p)
key_is p (Int (pos n)) e = ap (λ n. Int (pos n)) (eqb-true n p e)
key_is p (Int (negsuc n)) e = absurd cc
key_is p Null e = absurd cc
key_is p (Real x) e = absurd cc
key_is p (Text t) e = absurd cc
key_is p (Blob b) e = absurd cc

pub slot_keyed : (members p : ℕ) (rows : List Row) → are_slot_rows members p rows ≡ true → IsKeyed p rows
slot_keyed members p [] good = tt
slot_keyed members p (r ∷ []) good = key_is p (column r 0) (and_parts _ _ good).0
slot_keyed members p (r ∷ x ∷ more) good = absurd cc

pub learned_keyed : (members p : ℕ) (rows : List Row) → are_learned_rows members p rows ≡ true → IsKeyed p rows
learned_keyed members p [] good = tt
learned_keyed members p (r ∷ []) good = key_is p (column r 0) (and_parts _ _ good).0
learned_keyed members p (r ∷ x ∷ more) good = absurd cc

-- ---- a call that only reads

pub keeps : (members f g : ℕ) (old new : State) → new.committed ≡ old.committed → Keeps (stored_of members f old) (stored_of members g new)
keeps members f g old new same =
    let e : new.committed.trees ≡ old.committed.trees = ap (λ (d : Database). d.trees) same in record {
      same = ap (λ (t : Trees). record_in t) e;
      rows = λ x good. subst (λ (t : Trees). is_good members t x) (sym e) good;
      back = λ x good. subst (λ (t : Trees). is_good members t x) e good;
    }

pub reads : (members f g : ℕ) (old new : State) → (HasCleanDisk new → HasCleanDisk old) → (HasCleanDisk new → g ≡ 0 → new.committed ≡ old.committed) → (HasCleanDisk new → LeavesOld old new)
    → OnlyReads (stored_of members f old) (stored_of members g new)
reads members f g old new was same leaves = record {
  was = was;
  keeps = λ honest none. keeps members f g old new (same honest none);
  leaves = λ honest r left. (left.0, leaves honest left.0 left.1, left.2);
}

-- what is committed after a call that put a row
pub committed_put : (tree p : ℕ) (columns : List ℕ) (row : Row) (old new : State) → IsSettled new → old.now ≡ old.committed → Puts tree p columns row old.now.trees new.now.trees → Puts tree p columns row old.committed.trees new.committed.trees
committed_put tree p columns row old new s begun h = subst₂ (λ (a b : Database). Puts tree p columns row a.trees b.trees) begun (sym s.committed) h

-- ---- what the rows for the whole node show

pub meta_put : (id : Identity) (m : Meta) (round number : ℕ) (old new : Trees) → IsMeta id m old → Puts 0 1 meta_columns (meta_row 3 id.cluster id.members id.node round number) old new
    → IsMeta id (record m { round = round; number = number }) new
meta_put id m round number old new h p = (p.put, ap (λ rows. seen floor_columns rows 1) (p.trees 2 (λ e. cc)) ∙ h.1)

positive : (b : ℕ) → ((b ≡ 0) → ⊥) → floor_rows b ≡ floor_row b ∷ []
positive b ne = rw (ne_eqb b 0 ne) refl

pub floor_put : (id : Identity) (m : Meta) (b : ℕ) (old new : Trees) → IsMeta id m old → (b ≡ 0 → ⊥) → Puts 2 1 floor_columns (floor_row b) old new → IsMeta id (record m { floor = b }) new
floor_put id m b old new h ne p = (ap (λ rows. seen meta_columns rows 1) (p.trees 0 (λ e. cc)) ∙ h.0, p.put ∙ sym (positive b ne))

pub other_put : (id : Identity) (m : Meta) (old new : Trees) → IsMeta id m old → new 0 ≡ old 0 → new 2 ≡ old 2 → IsMeta id m new
other_put id m old new h zero two = (ap (λ rows. seen meta_columns rows 1) zero ∙ h.0, ap (λ rows. seen floor_columns rows 1) two ∙ h.1)

floor_back : (b : ℕ) → number_at 1 (floor_rows b) ≡ b
floor_back b = elim (cases_eq b 0) [
  | inl zero ↦ rw (eq-eqb b 0 zero) (sym zero)
  | inr ne ↦ rw (ne_eqb b 0 ne) refl
]

-- the numbers that are kept beside the connection are those of the record
pub numbers_are : (id : Identity) (m : Meta) (db : Trees) → IsMeta id m db → (record_in db).meta ≡ record { round = m.round; number = m.number; floor = m.floor }
numbers_are id m db h =
    let r : number_at 5 (seen meta_columns (db 0) 1) ≡ m.round = ap (number_at 5) h.0 in
    let k : number_at 6 (seen meta_columns (db 0) 1) ≡ m.number = ap (number_at 6) h.0 in
    let f : number_at 1 (seen floor_columns (db 2) 1) ≡ m.floor = ap (number_at 1) h.1 ∙ floor_back m.floor in
    rw (r, k, f) refl

-- ---- rows that a query answered

pub alike_slot : (members p : ℕ) (rows answer : List Row) → IsAlike rows answer → are_slot_rows members p answer ≡ true → rows ≡ answer
alike_slot members p rows answer (inl same) good = same
alike_slot members p rows [] (inr two) good = absurd (omega (arith, two.1))
alike_slot members p rows (r ∷ []) (inr two) good = absurd (omega (arith, two.1))
alike_slot members p rows (r ∷ x ∷ more) (inr two) good = absurd cc

pub not_alike_slot : (members p : ℕ) (rows answer : List Row) → IsAlike rows answer → are_slot_rows members p answer ≡ false → are_slot_rows members p rows ≡ false
not_alike_slot members p rows answer (inl same) bad = ap (are_slot_rows members p) same ∙ bad
not_alike_slot members p [] answer (inr two) bad = absurd (omega (arith, two.0))
not_alike_slot members p (r ∷ []) answer (inr two) bad = absurd (omega (arith, two.0))
not_alike_slot members p (r ∷ x ∷ more) answer (inr two) bad = refl

pub alike_entry : (members p : ℕ) (rows answer : List Row) → IsAlike rows answer → are_learned_rows members p answer ≡ true → rows ≡ answer
alike_entry members p rows answer (inl same) good = same
alike_entry members p rows [] (inr two) good = absurd (omega (arith, two.1))
alike_entry members p rows (r ∷ []) (inr two) good = absurd (omega (arith, two.1))
alike_entry members p rows (r ∷ x ∷ more) (inr two) good = absurd cc

pub not_alike_entry : (members p : ℕ) (rows answer : List Row) → IsAlike rows answer → are_learned_rows members p answer ≡ false → are_learned_rows members p rows ≡ false
not_alike_entry members p rows answer (inl same) bad = ap (are_learned_rows members p) same ∙ bad
not_alike_entry members p [] answer (inr two) bad = absurd (omega (arith, two.0))
not_alike_entry members p (r ∷ []) answer (inr two) bad = absurd (omega (arith, two.0))
not_alike_entry members p (r ∷ x ∷ more) answer (inr two) bad = refl

-- a ballot isn't 0
pub not_zero : (n b : ℕ) → b ≡ 0 → IsBallot n b → ⊥
not_zero n b e x = no_suc-le-zero (subst (λ (k : ℕ). 1 ≤ k / 256) e x.begun)
