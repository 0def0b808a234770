-- a store that is taken has the tables of a format, and its rows as they were found
use Rattle.std.proofs.Common.{◌≡◌, ◌∙◌, true, false, Result, Ok, Err, Option, Some, None, IfOk, inl, inr, refl, sym, ap, subst, List, [], ◌∷◌, Bool}
use Rattle.std.specs.Result.{IfErr}
use Rattle.sqlite_trees.specs.declared.store.Store.{Ghosts}
use Rattle.sqlite.specs.Held.{Held, state}
use Rattle.sqlite.specs.Effect.{Database}
use Rattle.sqlite.specs.Schema.{Schema}
use Rattle.sqlite.specs.Table.{Table}
use Rattle.sqlite.specs.State.{HasCleanDisk}
use Rattle.sqlite.specs.Tree.{Trees}
use Rattle.px_store.specs.Tables.{no_schema}
use Rattle.px_store.specs.Formats.{schema_at, record_at}
use Rattle.px_store.specs.Adopting.{IsBrought}
use Rattle.px_store.specs.Judging.{IsOwn, has_rows, refusal, reopen_refusal}
use Rattle.px_store.specs.Seen.{seen, meta_columns}
use Rattle.px_store.specs.View.{IsOpened, connection_of, connection_after}
use Rattle.px_store.specs.declared.calls.Identity.{Identity}
use Rattle.px_store.specs.declared.fault.AdoptFault.{AdoptFault}
use Rattle.px_store.specs.declared.fault.AdoptFault.TheVariants.{BadStore}
use Rattle.px_store.specs.declared.keeper.SqlRecords.{SqlRecords}
use Rattle.px_store.specs.declared.formats.Format.{Format}
use Rattle.px_store.specs.declared.formats.Format.TheVariants.{One, Two, Three}
use Rattle.px_store.proofs.Adopts.{same_then, still}
use Rattle.px_store.proofs.keeper.SqlRecords.reopen.Goals as goal

both_ok : {X E : Type 0} {P Q W : X → Type 0} (r : Result X E) → ((x : X) → P x → Q x → W x) → IfOk r P → IfOk r Q → IfOk r W
both_ok (Ok x) f p q = f x p q
both_ok (Err e) f p q = tt

both_err : {X E : Type 0} {P Q W : E → Type 0} (r : Result X E) → ((e : E) → P e → Q e → W e) → IfErr r P → IfErr r Q → IfErr r W
both_err (Ok x) f p q = tt
both_err (Err e) f p q = f e p q

all_ok : {X E : Type 0} {W : Type 0} (r : Result X E) → W → IfOk r (λ _. W)
all_ok (Ok x) w = w
all_ok (Err e) w = tt

clean_before : {S : Type 0} {g : Ghosts S} {C : Type 0} (r : Result (SqlRecords S g) (AdoptFault × Held S)) →
    IfOk r (λ x. HasCleanDisk (state g (connection_of x)) → C) → IfErr r (λ e. HasCleanDisk (state g e.1) → C) →
    HasCleanDisk (state g (connection_after r)) → C
clean_before (Ok x) ok err clean = ok clean
clean_before (Err e) ok err clean = err clean

abbrev is_some : List Table → Bool
is_some [] = false
is_some (t ∷ more) = true

has_tables : (f : Format) → schema_at f ≡ no_schema → ⊥
has_tables One e = let n : true ≡ false = ap (λ (s : Schema). is_some s.tables) e in cc
has_tables Two e = let n : true ≡ false = ap (λ (s : Schema). is_some s.tables) e in cc
has_tables Three e = let n : true ≡ false = ap (λ (s : Schema). is_some s.tables) e in cc

with_row : (f : Format) (id : Identity) (db : Trees) (x : Option AdoptFault) → has_rows (seen meta_columns (db 0) 1) ≡ true → refusal f id db ≡ x → reopen_refusal f id db ≡ x
with_row f id db x row h = rw row h

without_row : (f : Format) (id : Identity) (db : Trees) (e : AdoptFault) → has_rows (seen meta_columns (db 0) 1) ≡ false → e ≡ BadStore → reopen_refusal f id db ≡ Some e
without_row f id db e row is = rw (row, is) refl

pub returns-in-Ok-clause-known : goal.returns-in-Ok-clause-known
returns-in-Ok-clause-known g c = all_ok c.adopt.result (c.in-Ok._format, c.in-Ok.ensures.known)

pub returns-in-Ok-clause-clean : goal.returns-in-Ok-clause-clean
returns-in-Ok-clause-clean g c = both_ok c.adopt.result (λ r clean again has. c.in-Ok.ensures.clean (clean has))
    c.adopt.ensures.clean c.adopt.ensures.clean

pub returns-in-Ok-clause-refused : goal.returns-in-Ok-clause-refused
returns-in-Ok-clause-refused g c = both_err c.adopt.result (λ e clean again has. c.in-Ok.ensures.clean (clean has))
    c.adopt.ensures.refused c.adopt.ensures.refused

pub returns-in-Ok-clause-lost : goal.returns-in-Ok-clause-lost
returns-in-Ok-clause-lost g c = λ none auto. absurd (has_tables _ (sym (c.in-Ok.ensures.known).schema ∙ none))

pub returns-in-Ok-clause-unknown : goal.returns-in-Ok-clause-unknown
returns-in-Ok-clause-unknown g c = λ unknown auto. absurd (unknown (inr (c.in-Ok._format, (c.in-Ok.ensures.known).schema)))

pub returns-in-Ok-clause-as_it_was : goal.returns-in-Ok-clause-as_it_was
returns-in-Ok-clause-as_it_was g c = both_err c.adopt.result
    (λ e clean was has verdict. same_then (c.in-Ok.ensures.stays (clean has)) (was has verdict))
    c.adopt.ensures.refused c.adopt.ensures.as_it_was

pub returns-in-Ok-clause-rows : goal.returns-in-Ok-clause-rows
returns-in-Ok-clause-rows g c = both_ok c.adopt.result
    (λ r clean rows has f began.
    let same = c.in-Ok.ensures.stays (clean has) in
    subst (λ (d : Database). IsOpened g.S.Store r (record_at f d.trees)) same.now (rows has f (still same began)))
    c.adopt.ensures.clean c.adopt.ensures.rows

pub returns-in-Ok-clause-adopted : goal.returns-in-Ok-clause-adopted
returns-in-Ok-clause-adopted g c = both_ok c.adopt.result
    (λ r clean adopted has f began.
    let same = c.in-Ok.ensures.stays (clean has) in
    with_row f c.args.identity (state g.S.Store c.args.conn).now.trees None (c.in-Ok.ensures.row (clean has))
    (subst (λ (d : Database). refusal f c.args.identity d.trees ≡ None) same.now (adopted has f (still same began))))
    c.adopt.ensures.clean c.adopt.ensures.adopted

pub returns-in-Ok-clause-judged : goal.returns-in-Ok-clause-judged
returns-in-Ok-clause-judged g c = both_err c.adopt.result
    (λ e clean judged has f began verdict.
    let same = c.in-Ok.ensures.stays (clean has) in
    with_row f c.args.identity (state g.S.Store c.args.conn).now.trees (Some e.0) (c.in-Ok.ensures.row (clean has))
    (subst (λ (d : Database). refusal f c.args.identity d.trees ≡ Some e.0) same.now (judged has f (still same began) verdict)))
    c.adopt.ensures.refused c.adopt.ensures.judged

pub returns-in-Ok-clause-found : goal.returns-in-Ok-clause-found
returns-in-Ok-clause-found g c = both_ok c.adopt.result
    (λ r clean found has own.
    let same = c.in-Ok.ensures.stays (clean has) in
    let known = still same c.in-Ok.ensures.known in
    subst (λ (d : Database). IsOpened g.S.Store r (record_at Three d.trees)) same.now
    (found has (subst (λ (d : Database). IsOwn c.args.identity d.trees) (sym same.now) own) (λ none. has_tables _ (sym known.schema ∙ none))))
    c.adopt.ensures.clean c.adopt.ensures.found

pub returns-in-Ok-clause-unfound : goal.returns-in-Ok-clause-unfound
returns-in-Ok-clause-unfound g c = both_err c.adopt.result
    (λ e clean unfound has own verdict.
    let same = c.in-Ok.ensures.stays (clean has) in
    unfound has (subst (λ (d : Database). IsOwn c.args.identity d.trees) (sym same.now) own) verdict)
    c.adopt.ensures.refused c.adopt.ensures.unfound

pub returns-in-Ok-clause-stop : goal.returns-in-Ok-clause-stop
returns-in-Ok-clause-stop g c = λ clean f began db left.
    let before = clean_before c.adopt.result c.adopt.ensures.clean c.adopt.ensures.refused clean in
    let same = c.in-Ok.ensures.stays before in
    elim (c.adopt.ensures.stop clean f (still same began) db left) [
      | inl was ↦ inl (c.in-Ok.ensures.crash before db was)
      | inr is ↦ inr (subst (λ (d : Database). IsBrought f c.args.identity d.trees db) same.now is)
    ]

pub returns-in-Err-clause-lost : goal.returns-in-Err-clause-lost
returns-in-Err-clause-lost g c = λ none auto.
    let is = c.in-Err.ensures.unknown auto (λ f has. has_tables f (sym has ∙ none)) in
    let e = is.0 in
    let same = is.1 in
    cc

pub returns-in-Err-clause-unknown : goal.returns-in-Err-clause-unknown
returns-in-Err-clause-unknown g c = λ unknown auto.
    let is = c.in-Err.ensures.unknown auto (λ f has. unknown (inr (f, has))) in
    let e = is.0 in
    let same = is.1 in
    cc

pub returns-in-Err-clause-judged : goal.returns-in-Err-clause-judged
returns-in-Err-clause-judged g c = λ clean f began verdict.
    elim (c.in-Err.ensures.refused clean verdict) [
      | inl none ↦ absurd (none.1 f began)
      | inr is ↦ without_row f c.args.identity (state g.S.Store c.args.conn).now.trees _ is.1 is.0
    ]

pub returns-in-Err-clause-unfound : goal.returns-in-Err-clause-unfound
returns-in-Err-clause-unfound g c = λ clean own verdict.
    elim (c.in-Err.ensures.refused clean verdict) [
      | inl none ↦ none.0
      | inr is ↦ absurd (let e : true ≡ false = sym own.row ∙ is.1 in cc)
    ]

pub returns-in-Err-clause-stop : goal.returns-in-Err-clause-stop
returns-in-Err-clause-stop g c = λ clean f began db left. inl (c.in-Err.ensures.crash clean db left)
