-- Which store is refused.
use Rattle.std.proofs.Common.{◌≡◌, ℕ, List, [], ◌∷◌, cond, Bool, true, false, not, ◌&&◌, ◌||◌, ◌==◌, Option, None, Some, Result, Ok, Err, refl, sym, ap, ◌∙◌, subst, inl, inr}
use Rattle.std.specs.Prelude.{IfErr}
use Rattle.std.proofs.lemmas.Bool.{eq-eqb}
use Rattle.sqlite.specs.Effect.{Database}
use Rattle.sqlite.specs.Held.{Held, state}
use Rattle.sqlite.specs.State.{State}
use Rattle.sqlite_trees.specs.declared.store.Store as store
use Rattle.sqlite.specs.Tree.{Trees}
use Rattle.sqlite_value.specs.Order.{Row, column}
use Rattle.px_records.specs.declared.records.Records.{Ghosts}
use Rattle.px_replica.specs.declared.fault.NodeFault.{NodeFault}
use Rattle.px_store.specs.Adopting.{Began, IsSame, IsVerdict}
use Rattle.px_store.specs.Formats.{record_at, trees_at}
use Rattle.px_store.specs.Judging.{identity_in, is_owner, has_format, names_member, has_numbers, has_owner, are_floor_rows, has_rows, owner_in_rows, owner_in, row_refusal, refusal_of, reopen_refusal}
use Rattle.px_store.specs.Seen.{seen, meta_columns, floor_columns, record_in, number_in}
use Rattle.px_store.specs.declared.calls.Identity.{Identity}
use Rattle.px_store.specs.declared.fault.AdoptFault.{AdoptFault}
use Rattle.px_store.specs.declared.fault.AdoptFault.TheVariants.{StoreVersion, BadStore, WrongNode}
use Rattle.px_store.specs.declared.formats.Format.TheVariants.{Three}
use Rattle.cli_show.specs.Showing.{IsRefused}
use Rattle.cli_show.specs.Stores.{closed_for, IsOwned, IsRefusedTo, IsClosed}
use Rattle.cli_show.specs.declared.shown.Shown.{Shown}
use Rattle.cli_show.specs.declared.store.Closed.{Closed}
use Rattle.cli_show.proofs.Reading.{begins_again}

-- ---- a store isn't refused to its owner as another node's

same_number : (n : ℕ) → (n == n) ≡ true
same_number n = eq-eqb n n refl

owned : (c m n : ℕ) → is_owner (record { cluster = c; members = m; node = n }) c m n ≡ true
owned c m n = rw (same_number c, same_number m, same_number n) refl

named : (a b : Bool) (i owner : Identity) → cond {A = Result Identity AdoptFault} (not a) (Err StoreVersion) (cond b (Ok i) (Err BadStore)) ≡ Ok owner → owner ≡ i
named false b i owner e = absurd cc
named true false i owner e = absurd cc
named true true i owner e = cc

never : (a b c : Bool) → c ≡ true → cond (not a) (Some StoreVersion) (cond (not b) (Some BadStore) (cond c None (Some WrongNode))) ≡ Some WrongNode → ⊥
never false b c is e = cc
never true false c is e = cc
never true true false is e = cc
never true true true is e = cc

of_row : (owner : Identity) (floor : List Row) (r : Row) → owner ≡ identity_in r → row_refusal 3 owner floor r ≡ Some WrongNode → ⊥
of_row owner floor r is h = never (has_format 3 r)
    (names_member r && has_numbers r && are_floor_rows (number_in (column r 3)) floor)
    (has_owner (identity_in r) r) (owned (number_in (column r 2)) (number_in (column r 3)) (number_in (column r 4))) (rw is at h)

of_rows : (owner : Identity) (meta floor : List Row) (more : Bool) → owner_in_rows 3 meta ≡ Ok owner →
    cond (has_rows meta) (refusal_of 3 owner meta floor more) (Some BadStore) ≡ Some WrongNode → ⊥
of_rows owner [] floor more names h = cc
of_rows owner (r ∷ x ∷ rest) floor more names h = cc
of_rows owner (r ∷ []) floor more names h =
    of_row owner floor r (named (has_format 3 r) (names_member r && has_numbers r) (identity_in r) owner names) h

not_another : (owner : Identity) (db : Trees) → owner_in Three db ≡ Ok owner → reopen_refusal Three owner db ≡ Some WrongNode → ⊥
not_another owner db names h =
    of_rows owner (seen meta_columns (db 0) 1) (seen floor_columns (trees_at Three db 2) 1) (has_rows (db 1) || has_rows (trees_at Three db 3)) names h

-- ---- why nothing is shown

pub closed_refused : {R S : Type 0} {G : Ghosts R} {g : store.Ghosts S} (held : Held S) (came : State) (c : Closed) (i : Identity) (o : IsOwned (state g held)) →
    IsSame (state g held) came → i ≡ o.owner → (Began Three came → IsRefusedTo i came c) → IsClosed G g held c
closed_refused {R} {S} {G} {g} held came c i o same is refused =
    let given = state g held in
    let h : IsRefusedTo i came c = refused (begins_again given came o.began same) in
    let judged : IsVerdict h.fault → reopen_refusal Three o.owner given.now.trees ≡ Some h.fault =
    subst (λ (d : Database). IsVerdict h.fault → reopen_refusal Three o.owner d.trees ≡ Some h.fault) same.now
    (subst (λ (x : Identity). IsVerdict h.fault → reopen_refusal Three x came.now.trees ≡ Some h.fault) is h.judged) in
    let own : h.fault ≡ WrongNode → ⊥ = λ e. not_another o.owner given.now.trees o.names (judged (subst IsVerdict (sym e) tt) ∙ ap Some e) in
    inr (o, inl (record { fault = h.fault; numbered = h.numbered; judged = judged }, own))

pub closed_unopened : {R S : Type 0} {G : Ghosts R} {g : store.Ghosts S} (held : Held S) (came : State) (c : Closed) (o : IsOwned (state g held)) (answer : Result Shown NodeFault)
    (fault : NodeFault) (adopted back : R) → IsSame (state g held) came → G.is_honest back → G.is_honest adopted → c ≡ closed_for fault → answer ≡ Err fault →
    IfErr answer (λ e. IsRefused G o.owner.members adopted e back) →
    (G.is_honest adopted → Began Three came → G.stored adopted ≡ record_at Three came.now.trees) → IsClosed G g held c
closed_unopened {R} {S} {G} {g} held came c o answer fault adopted back same honest was e is refused rows =
    let h : IsRefused G o.owner.members adopted fault back =
    subst (λ (r : Result Shown NodeFault). IfErr r (λ x. IsRefused G o.owner.members adopted x back)) is refused in
    inr (
      o,
      inr (record {
        fault = fault;
        numbered = e;
        given = adopted;
        back = back;
        refused = h;
        honest = honest;
        was = was;
        rows = rows was (begins_again (state g held) came o.began same) ∙ ap (λ (d : Database). record_in d.trees) same.now;
      }),
    )
