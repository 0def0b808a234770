-- What keeps a node from its store.
use Rattle.std.proofs.Common.{◌≡◌, ◌≢◌, ◌⊎◌, Bool, true, false, ℕ, Result, Ok, Err, refl, sym, subst, inl, inr, arith}
use Rattle.std.specs.Prelude.{IfOk, IfErr, OnErr, if◌then◌else◌}
use Rattle.px_store.specs.declared.fault.AdoptFault.{AdoptFault}
use Rattle.px_store.specs.declared.fault.AdoptFault.TheVariants as adopt
use Rattle.cli_node.specs.declared.outcome.Outcome.{Outcome}
use Rattle.cli_node.specs.declared.outcome.Outcome.TheVariants.{Memory, Refused, Sound}
use Rattle.cli_node.specs.declared.store.Found.{Found}
use Rattle.cli_node.specs.declared.store.Found.TheVariants as found
use Rattle.cli_node.specs.declared.store.Opening.{Opening}
use Rattle.cli_node.specs.declared.store.Opening.TheVariants.{Opens, Makes, Refuses}
use Rattle.cli_node.specs.Endings.{adopt_outcome}
use Rattle.cli_node.specs.Stores.{IsNone, IsRefused, IsOpening, IsRefusal, IsStoreless, IsUnmade, MayRun}

-- refusals of one outcome have one number
pub same_number : (a b : ℕ) → Refused a ≡ Refused b → a ≡ b
same_number a b e = cc

same_refusal : (a b : ℕ) → Refuses a ≡ Refuses b → a ≡ b
same_refusal a b e = cc

-- what is refused with another number is neither 93 nor 94
pub other : (file new : Bool) (code : ℕ) → (code ≡ 93 → ⊥) → (code ≡ 94 → ⊥) → IsStoreless file new (Refused code)
other file new code f g = record {
  missing = λ e. absurd (f (same_number code 93 e));
  there = λ e. absurd (g (same_number code 94 e));
}

pub err_is : {C : Type 0} (o p : Outcome) → ◌≡◌ {A = Result C Outcome} (Err o) (Err p) → o ≡ p
err_is o p e = cc

-- nothing that is no matter of a store is refused with 93
pub not_lost : (o : Outcome) → ((file new : Bool) → IsStoreless file new o) → o ≢ Refused 93
not_lost o h e = let f : false ≡ true = ((h false false).missing e).0 in cc

-- ---- what becomes of what is there

abbrev pub table : (file new : Bool) → Found → Opening
table file new found.Nothing = if new then Makes else (if file then Refuses 93 else Makes)
table file new found.Empty = if new then Makes else (if file then Refuses 93 else Makes)
table file new found.Store = if new then Refuses 94 else Opens
table file new found.Other = Refuses 70

no_store : IsNone found.Store → ⊥
no_store (inl e) = cc
no_store (inr e) = cc

makes : (file new : Bool) (f : Found) → (file ≡ true → new ≡ false → ⊥) → IsNone f → IsOpening file new f Makes
makes file new f not_so none = record {
  kept = λ a b m. not_so a b;
  made = λ m. none;
  opened = λ o. absurd (cc);
  held = λ n s. absurd (no_store (subst IsNone s none));
  lost = λ a b n. absurd (not_so a b);
  refused = λ code r. absurd (cc);
}

loses : (f : Found) → IsNone f → IsOpening true false f (Refuses 93)
loses f none = record {
  kept = λ a b m. cc;
  made = λ m. absurd (cc);
  opened = λ o. absurd (cc);
  held = λ n s. absurd (cc);
  lost = λ a b n. refl;
  refused = λ code r. inl (sym (same_refusal 93 code r), refl, refl, none);
}

keeps : (file : Bool) → IsOpening file true found.Store (Refuses 94)
keeps file = record {
  kept = λ a b m. cc;
  made = λ m. absurd (cc);
  opened = λ o. absurd (cc);
  held = λ n s. refl;
  lost = λ a b n. absurd (cc);
  refused = λ code r. inr (inl (sym (same_refusal 94 code r), refl, refl));
}

no_other : IsNone found.Other → ⊥
no_other (inl e) = cc
no_other (inr e) = cc

opens_store : (file : Bool) → IsOpening file false found.Store Opens
opens_store file = record {
  kept = λ a b m. cc;
  made = λ m. absurd (cc);
  opened = λ o. refl;
  held = λ n s. absurd (cc);
  lost = λ a b n. absurd (no_store n);
  refused = λ code r. absurd (cc);
}

none_there : (file new : Bool) → IsOpening file new found.Other (Refuses 70)
none_there file new = record {
  kept = λ a b m. cc;
  made = λ m. absurd (cc);
  opened = λ o. absurd (cc);
  held = λ n s. absurd (cc);
  lost = λ a b n. absurd (no_other n);
  refused = λ code r. inr (inr (sym (same_refusal 70 code r), refl));
}

by_table : (file new : Bool) (f : Found) → IsOpening file new f (table file new f)
by_table true false found.Nothing = loses found.Nothing (inl refl)
by_table false false found.Nothing = makes false false found.Nothing (λ a b. cc) (inl refl)
by_table file true found.Nothing = makes file true found.Nothing (λ a b. cc) (inl refl)
by_table true false found.Empty = loses found.Empty (inr refl)
by_table false false found.Empty = makes false false found.Empty (λ a b. cc) (inr refl)
by_table file true found.Empty = makes file true found.Empty (λ a b. cc) (inr refl)
by_table file true found.Store = keeps file
by_table file false found.Store = opens_store file
by_table file new found.Other = none_there file new

pub is_opening : (file new : Bool) (f : Found) (o : Opening) → o ≡ table file new f → IsOpening file new f o
is_opening file new f o e = subst (λ (x : Opening). IsOpening file new f x) (sym e) (by_table file new f)

by_refused : (file new : Bool) (f : Found) (code : ℕ) → IsRefused file new f code → IsStoreless file new (Refused code)
by_refused file new f code (inl w) = record {
  missing = λ e. (w.1, w.2);
  there = λ e. let a : code ≡ 93 = w.0 in let b : code ≡ 94 = same_number code 94 e in absurd (omega (arith, a, b));
}
by_refused file new f code (inr (inl w)) = record {
  missing = λ e. let a : code ≡ 94 = w.0 in let b : code ≡ 93 = same_number code 93 e in absurd (omega (arith, a, b));
  there = λ e. w.1;
}
by_refused file new f code (inr (inr w)) =
    let a : code ≡ 70 = w.0 in
    other file new code (λ b. absurd (omega (arith, a, b))) (λ b. absurd (omega (arith, a, b)))

-- what is there
pub by_opening : (file new : Bool) (f : Found) (o : Opening) (code : ℕ) → IsOpening file new f o → o ≡ Refuses code →
    IsStoreless file new (Refused code)
by_opening file new f o code is e = by_refused file new f code (is.refused code e)

-- out of memory
pub by_memory : (file new : Bool) → IsStoreless file new Memory
by_memory file new = record { missing = λ e. absurd (cc); there = λ e. absurd (cc) }

-- nothing is refused
pub sound : (file new : Bool) → IsStoreless file new Sound
sound file new = record { missing = λ e. absurd (cc); there = λ e. absurd (cc) }

-- the system, or the database, where it refuses the file
pub refused_70 : (file new : Bool) → IsStoreless file new (Refused 70)
refused_70 file new = other file new 70 (λ b. absurd (omega (arith, b))) (λ b. absurd (omega (arith, b)))

pub by_file : {C : Type 0} (file new : Bool) (r : Result C Outcome) (outcome : Outcome) → r ≡ Err outcome →
    OnErr r ((r ≡ Err Memory) ⊎ (r ≡ Err (Refused 70))) → IsStoreless file new outcome
by_file file new (Ok c) outcome is h = absurd (cc)
by_file file new (Err o) outcome is (inl h) =
    let same : outcome ≡ Memory = cc in rw same (by_memory file new)
by_file file new (Err o) outcome is (inr h) =
    let same : outcome ≡ Refused 70 = cc in rw same (refused_70 file new)

-- what its rows say
pub by_fault : (file new : Bool) (e : AdoptFault) → IsStoreless file new (adopt_outcome e)
by_fault file new adopt.Memory = by_memory file new
by_fault file new adopt.Failed = refused_70 file new
by_fault file new adopt.StoreVersion = other file new 73 (λ b. absurd (omega (arith, b))) (λ b. absurd (omega (arith, b)))
by_fault file new adopt.BadStore = other file new 72 (λ b. absurd (omega (arith, b))) (λ b. absurd (omega (arith, b)))
by_fault file new adopt.WrongNode = other file new 71 (λ b. absurd (omega (arith, b))) (λ b. absurd (omega (arith, b)))

pub by_read : (file new : Bool) (o : Outcome) → (o ≡ Memory) ⊎ (o ≡ Refused 70) → IsStoreless file new o
by_read file new o (inl e) = subst (λ (x : Outcome). IsStoreless file new x) (sym e) (by_memory file new)
by_read file new o (inr e) = subst (λ (x : Outcome). IsStoreless file new x) (sym e) (refused_70 file new)

-- the outcome of a store that isn't taken is a refusal, or it is out of memory
pub kind_of_fault : (e : AdoptFault) → IsRefusal (adopt_outcome e)
kind_of_fault adopt.Memory = tt
kind_of_fault adopt.Failed = tt
kind_of_fault adopt.StoreVersion = tt
kind_of_fault adopt.BadStore = tt
kind_of_fault adopt.WrongNode = tt

-- the outcome of a store that isn't taken is none of a failed node
pub unfailed_fault : (e : AdoptFault) → adopt_outcome e ≢ Refused 80
unfailed_fault adopt.Memory e = cc
unfailed_fault adopt.Failed e = let b : 70 ≡ 80 = same_number 70 80 e in omega (arith, b)
unfailed_fault adopt.StoreVersion e = let b : 73 ≡ 80 = same_number 73 80 e in omega (arith, b)
unfailed_fault adopt.BadStore e = let b : 72 ≡ 80 = same_number 72 80 e in omega (arith, b)
unfailed_fault adopt.WrongNode e = let b : 71 ≡ 80 = same_number 71 80 e in omega (arith, b)

-- a store isn't made
of_unmade : (file new : Bool) (o : Outcome) → IsUnmade o → IsStoreless file new o
of_unmade file new o (inl e) = subst (λ (x : Outcome). IsStoreless file new x) (sym e) (by_memory file new)
of_unmade file new o (inr (inl e)) = subst (λ (x : Outcome). IsStoreless file new x) (sym e) (refused_70 file new)
of_unmade file new o (inr (inr (inl e))) = subst (λ (x : Outcome). IsStoreless file new x) (sym e)
    (other file new 82 (λ b. absurd (omega (arith, b))) (λ b. absurd (omega (arith, b))))
of_unmade file new o (inr (inr (inr e))) = subst (λ (x : Outcome). IsStoreless file new x) (sym e)
    (other file new 84 (λ b. absurd (omega (arith, b))) (λ b. absurd (omega (arith, b))))

pub by_making : {C : Type 0} (file new : Bool) (r : Result C Outcome) (outcome : Outcome) → r ≡ Err outcome →
    IfErr r IsUnmade → IsStoreless file new outcome
by_making file new (Ok c) outcome is h = absurd (cc)
by_making file new (Err o) outcome is h = let same : o ≡ outcome = cc in of_unmade file new outcome (subst IsUnmade same h)

-- ---- where 93 comes no store is there

pub none_opened : {C : Type 0} (r : Result C Outcome) → OnErr r ((r ≡ Err Memory) ⊎ (r ≡ Err (Refused 70))) →
    r ≡ Err (Refused 93) → ⊥
none_opened r h e = not_lost (Refused 93) (λ file new. by_file file new r (Refused 93) e h) refl

pub none_made : {C : Type 0} (r : Result C Outcome) → IfErr r IsUnmade → r ≡ Err (Refused 93) → ⊥
none_made r h e = not_lost (Refused 93) (λ file new. by_making file new r (Refused 93) e h) refl

none_refused : (file new : Bool) (f : Found) (code : ℕ) → IsRefused file new f code → code ≡ 93 → IsNone f
none_refused file new f code (inl w) e = w.3
none_refused file new f code (inr (inl w)) e = let a : code ≡ 94 = w.0 in absurd (omega (arith, a, e))
none_refused file new f code (inr (inr w)) e = let a : code ≡ 70 = w.0 in absurd (omega (arith, a, e))

pub none_at : (file new : Bool) (f : Found) (o : Opening) (code : ℕ) → IsOpening file new f o → o ≡ Refuses code →
    Refused code ≡ Refused 93 → IsNone f
none_at file new f o code is opens e =
    none_refused file new f code (is.refused code opens) (same_number code 93 e)

-- ---- where a store is opened or made a node may run over it

opened : (file new : Bool) (f : Found) (o : Opening) → IsOpening file new f o → o ≡ Opens → MayRun file new f
opened file true f o is e = let held : o ≡ Refuses 94 = is.held refl (is.opened e) in absurd (cc)
opened file false f o is e = inr (is.opened e, refl)

made : (file new : Bool) (f : Found) (o : Opening) → IsOpening file new f o → o ≡ Makes → MayRun file new f
made file true found.Nothing o is e = inl refl
made false false found.Nothing o is e = inl refl
made true false found.Nothing o is e = absurd (is.kept refl refl e)
made file true found.Empty o is e = inl refl
made false false found.Empty o is e = inl refl
made true false found.Empty o is e = absurd (is.kept refl refl e)
made file new found.Store o is e = absurd (no_store (is.made e))
made file new found.Other o is e = absurd (no_other (is.made e))

pub may_open : {C : Type 0} (file new : Bool) (f : Found) (o : Opening) (r : Result C Outcome) → IsOpening file new f o →
    o ≡ Opens → IfOk r (λ c. MayRun file new f)
may_open file new f o (Ok c) is e = opened file new f o is e
may_open file new f o (Err x) is e = tt

pub may_make : {C : Type 0} (file new : Bool) (f : Found) (o : Opening) (r : Result C Outcome) → IsOpening file new f o →
    o ≡ Makes → IfOk r (λ c. MayRun file new f)
may_make file new f o (Ok c) is e = made file new f o is e
may_make file new f o (Err x) is e = tt
