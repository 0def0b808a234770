-- Runs one after the other.
use Rattle.std.proofs.Common.{◌≡◌, ◌∙◌, ℕ, Bool, List, [], ◌∷◌, ◌++◌, Option, Some, None, Result, Ok, Err, refl, sym, ap, ap₂, subst, append_assoc, append-nil}
use Rattle.std.specs.Prelude.{option_map, option_and_then, if◌then◌else◌, IfOk, IfErr}
use Rattle.std.proofs.KnownBytes.{Appends-nil, Appends-trans}
use Rattle.std.proofs.lemmas.Bool.{eq-eqb}
use Rattle.std.proofs.Math.Bool.{or_assoc, or-false}
use Rattle.cli_ask.specs.declared.exchange.AskFault.{AskFault}
use Rattle.cli_ask.specs.declared.exchange.Reply.{Reply}
use Rattle.cli_io.specs.Written.{AppendsFront}
use Rattle.cli_io.proofs.Fronts.{nothing_written}
use Rattle.cli_follow.specs.declared.files.TextFiles.{TextFiles}
use Rattle.cli_follow.specs.declared.follower.Due.{Due}
use Rattle.cli_follow.specs.declared.follower.WriteFault.{WriteFault}
use Rattle.cli_follow.specs.declared.follower.WriteFault.TheVariants as fault
use Rattle.cli_follow.specs.Exchanges.{Exchange, Entries, Status, Adds, asked}
use Rattle.cli_follow.specs.Files.{Act}
use Rattle.cli_follow.specs.Output.{Wanted, Follower, Stage, AsksEntries, AsksStatus, Reached, after, after_one, behind, stays, start, Went, Stopped, LeftTo, Ends}
use Rattle.cli_follow.specs.Output.{after_entries, after_status}
use Rattle.cli_follow.specs.inner.Seen.{due_in, Leads, Fails}

-- ---- answers one after the other

behind_assoc : (a b c : Reached) → behind a (behind b c) ≡ behind (behind a b) c
behind_assoc a b c =
    ap₂ (λ (o : List ℕ) (d : Bool). record { stage = c.stage; out = o; is_due = d }) (sym (append_assoc a.out b.out c.out)) (sym (or_assoc a.is_due b.is_due c.is_due))

behind_nothing : (r : Reached) → behind r (stays r.stage) ≡ r
behind_nothing r = ap₂ (λ (o : List ℕ) (d : Bool). record { stage = r.stage; out = o; is_due = d }) (append-nil r.out) (or-false r.is_due)

abbrev On : Wanted → List Exchange → List Exchange → Type 0
On w xs ys = (s : Stage) (u r : Reached) → after w s xs ≡ Some u → after w u.stage ys ≡ Some r → after w s (xs ++ ys) ≡ Some (behind u r)

abbrev via : Wanted → List Exchange → Option Reached → Option Reached
via w es o = option_and_then (λ u. option_map (behind u) (after w u.stage es)) o

some_is : (x y : Reached) → Some x ≡ Some y → x ≡ y
some_is x y e = cc

on_more : (w : Wanted) (xs ys : List Exchange) → On w xs ys → (v : Reached) (m : Option Reached) (u r : Reached) →
    after w v.stage xs ≡ m → option_map (behind v) m ≡ Some u → after w u.stage ys ≡ Some r →
    option_map (behind v) (after w v.stage (xs ++ ys)) ≡ Some (behind u r)
on_more w xs ys ih v None u r e p q = absurd cc
on_more w xs ys ih v (Some x) u r e p q =
    let same : behind v x ≡ u = some_is _ _ p in
    let next : after w x.stage ys ≡ Some r = ap (λ (y : Reached). after w y.stage ys) same ∙ q in
    ap (λ (o : Option Reached). option_map (behind v) o) (ih v.stage x r e next)
    ∙ ap Some (behind_assoc v x r)
    ∙ ap (λ (y : Reached). Some (behind y r)) same

on_one : (w : Wanted) (xs ys : List Exchange) → On w xs ys → (o : Option Reached) (u r : Reached) →
    via w xs o ≡ Some u → after w u.stage ys ≡ Some r → via w (xs ++ ys) o ≡ Some (behind u r)
on_one w xs ys ih None u r p q = absurd cc
on_one w xs ys ih (Some v) u r p q = on_more w xs ys ih v (after w v.stage xs) u r refl p q

on_nothing : (w : Wanted) (ys : List Exchange) (s : Stage) (u r : Reached) → stays s ≡ u → after w u.stage ys ≡ Some r → after w s ys ≡ Some (behind u r)
on_nothing w ys s u r same q =
    ap (λ (y : Reached). after w y.stage ys) same ∙ q ∙ ap (λ (y : Reached). Some (behind y r)) same

pub run_on : (w : Wanted) (xs ys : List Exchange) → On w xs ys
unfolding after
run_on w [] ys s u r p q = on_nothing w ys s u r (some_is _ _ p) q
run_on w (e ∷ xs) ys s u r p q = on_one w xs ys (run_on w xs ys) (after_one w s e) u r p q

pub run_one : (w : Wanted) (s : Stage) (e : Exchange) (r : Reached) → after_one w s e ≡ Some r → after w s (e ∷ []) ≡ Some r
unfolding after
run_one w s e r h = ap (λ (o : Option Reached). via w [] o) h ∙ ap Some (behind_nothing r)

pub run_two : (w : Wanted) (s t : Stage) (d e : Exchange) (r : Reached) → after_one w s d ≡ Some (stays t) → after_one w t e ≡ Some r →
    after w s (d ∷ e ∷ []) ≡ Some r
run_two w s t d e r p q = run_on w (d ∷ []) (e ∷ []) s (stays t) r (run_one w s d (stays t) p) (run_one w t e r q)

-- ---- what was asked and written

pub adds_more : {X : Type 0} (x y z : List X → Type 0) (es fs : List X) → Adds x y es → Adds y z fs → Adds x z (es ++ fs)
adds_more x y z es fs p q = λ ds h. subst z (append_assoc ds es fs) (q (ds ++ es) (p ds h))

pub adds_nothing : {X : Type 0} (x : List X → Type 0) → Adds x x []
adds_nothing x = λ ds h. subst x (sym (append-nil ds)) h

pub went_nowhere : (x : List Exchange → Type 0) (w : Wanted) (s : Stage) (b : Option (List ℕ)) → Went x x w s s b b
unfolding after
went_nowhere x w s b = ([], stays s, adds_nothing x, refl, refl, Appends-nil b)

pub went_on : (x y z : List Exchange → Type 0) (w : Wanted) (s t u : Stage) (a b c : Option (List ℕ)) → Went x y w s t a b → Went y z w t u b c → Went x z w s u a c
went_on x y z w s t u a b c p q =
    let (es, r, given, led, at, wrote) = p in
    let (fs, v, given2, led2, at2, wrote2) = q in
    (es ++ fs, behind r v, adds_more x y z es fs given given2, run_on w es fs s r v led (ap (λ (k : Stage). after w k fs) at ∙ led2), at2, Appends-trans a b c r.out v.out wrote wrote2)

pub stopped_on : (x y z : List Exchange → Type 0) (w : Wanted) (s t : Stage) (a b c : Option (List ℕ)) → Went x y w s t a b → Stopped y z w t b c → Stopped x z w s a c
stopped_on x y z w s t a b c p q =
    let (es, u, given, led, at, wrote) = p in
    let (fs, r, given2, led2, wrote2) = q in
    let (front, rest, split, wrote3) = wrote2 in (
      es ++ fs,
      behind u r,
      adds_more x y z es fs given given2,
      run_on w es fs s u r led (ap (λ (k : Stage). after w k fs) at ∙ led2),
      (u.out ++ front, rest, ap (λ (l : List ℕ). u.out ++ l) split ∙ sym (append_assoc u.out front rest), Appends-trans a b c u.out front wrote wrote3),
    )

pub stopped_here : (x y : List Exchange → Type 0) (w : Wanted) (s t : Stage) (a b : Option (List ℕ)) → Went x y w s t a b → Stopped x y w s a b
stopped_here x y w s t a b p =
    let (es, r, given, led, at, wrote) = p in
    (es, r, given, led, (r.out, [], sym (append-nil r.out), wrote))

-- ---- one turn

pub entries_one : (w : Wanted) (f : Follower) (a : Result Reply AskFault) → after_one w (AsksEntries f) (asked (Entries f.followed.position) a) ≡ Some (after_entries w f a)
entries_one w f a = ap (λ (b : Bool). if b then Some (after_entries w f a) else None) (eq-eqb f.followed.position f.followed.position refl)

pub entries_led : (w : Wanted) (f : Follower) (a : Result Reply AskFault) → after w (AsksEntries f) (asked (Entries f.followed.position) a ∷ []) ≡ Some (after_entries w f a)
entries_led w f a = run_one w (AsksEntries f) (asked (Entries f.followed.position) a) (after_entries w f a) (entries_one w f a)

pub status_led : (w : Wanted) (f g : Follower) (a b : Result Reply AskFault) → after_entries w f a ≡ stays (AsksStatus g) →
    after w (AsksEntries f) (asked (Entries f.followed.position) a ∷ asked Status b ∷ []) ≡ Some (after_status w g b)
status_led w f g a b h =
    run_two w (AsksEntries f) (AsksStatus g) (asked (Entries f.followed.position) a) (asked Status b) (after_status w g b)
    (entries_one w f a ∙ ap Some h) refl

-- an answer that was taken
pub entries_lead : (x y : List Exchange → Type 0) (w v : Wanted) (f g : Follower) (a : Result Reply AskFault) (d : Due) → Adds x y (asked (Entries f.followed.position) a ∷ []) →
    v ≡ w → after_entries w f a ≡ due_in v g d → Leads x y w (AsksEntries f) (due_in w g d)
entries_lead x y w v f g a d given same h =
    (asked (Entries f.followed.position) a ∷ [], given, entries_led w f a ∙ ap Some (h ∙ ap (λ (u : Wanted). due_in u g d) same))

-- one that wasn't
pub entries_fail : {T E : Type 0} (r : Result T E) (x y : List Exchange → Type 0) (w : Wanted) (f : Follower) (a : Result Reply AskFault) →
    Adds x y (asked (Entries f.followed.position) a ∷ []) → IfErr r (λ e. Fails x y w (AsksEntries f))
entries_fail (Ok v) x y w f a given = tt
entries_fail (Err e) x y w f a given = (after_entries w f a, (asked (Entries f.followed.position) a ∷ [], given, entries_led w f a))

-- the status was asked for too
pub status_leads : {E : Type 0} (r : Result Due E) (x y z : List Exchange → Type 0) (w v u : Wanted) (f : Follower) (n : ℕ) (g h : ℕ → Follower) (a b : Result Reply AskFault) →
    Adds x y (asked (Entries f.followed.position) a ∷ []) → Adds y z (asked Status b ∷ []) → v ≡ w → u ≡ v → after_entries w f a ≡ stays (AsksStatus (g n)) →
    IfOk r (λ d. (k : ℕ) → after_status v (g k) b ≡ due_in u (h k) d) → IfOk r (λ d. Leads x z w (AsksEntries f) (due_in w (h n) d))
status_leads (Err e) x y z w v u f n g h a b first second same again leads due = tt
status_leads (Ok d) x y z w v u f n g h a b first second same again leads due = (
  asked (Entries f.followed.position) a ∷ asked Status b ∷ [],
  adds_more x y z (asked (Entries f.followed.position) a ∷ []) (asked Status b ∷ []) first second,
  status_led w f (g n) a b leads ∙ ap Some (ap (λ (k : Wanted). after_status k (g n) b) (sym same) ∙ due n ∙ ap (λ (k : Wanted). due_in k (h n) d) (again ∙ same)),
)

pub status_fails : {T E : Type 0} (r : Result T E) (x y z : List Exchange → Type 0) (w : Wanted) (f g : Follower) (a b : Result Reply AskFault) →
    Adds x y (asked (Entries f.followed.position) a ∷ []) → Adds y z (asked Status b ∷ []) → after_entries w f a ≡ stays (AsksStatus g) →
    IfErr r (λ e. Fails x z w (AsksEntries f))
status_fails (Ok v) x y z w f g a b first second leads = tt
status_fails (Err e) x y z w f g a b first second leads = (
  after_status w g b,
  (
    asked (Entries f.followed.position) a ∷ asked Status b ∷ [],
    adds_more x y z (asked (Entries f.followed.position) a ∷ []) (asked Status b ∷ []) first second,
    status_led w f g a b leads,
  ),
)

-- ---- what was written

pub stopped_before : (x y : List Exchange → Type 0) (w : Wanted) (s : Stage) (r : Reached) (a : Option (List ℕ)) → Leads x y w s r → Stopped x y w s a a
stopped_before x y w s r a h = let (es, given, led) = h in (es, r, given, led, nothing_written a r.out)

pub stopped_within : (x y : List Exchange → Type 0) (w : Wanted) (s : Stage) (r : Reached) (a b : Option (List ℕ)) → Leads x y w s r → AppendsFront a b r.out → Stopped x y w s a b
stopped_within x y w s r a b h front = let (es, given, led) = h in (es, r, given, led, front)

pub if_err : {T E : Type 0} (r : Result T E) (P : Type 0) → P → IfErr r (λ e. P)
if_err (Ok v) P h = tt
if_err (Err e) P h = h

-- ---- the loop

pub ends_early : (x y : List Exchange → Type 0) (p q : List Act → Type 0) (w : Wanted) (files : Option TextFiles) (turns : ℕ) (e : WriteFault) (a b : Option (List ℕ)) →
    (e ≡ fault.Another → ⊥) → Stopped x y w (AsksEntries start) a b → LeftTo x y p q w files → Ends x y p q w files turns (Err e) a b
ends_early x y p q w files turns fault.Another a b other h left = absurd (other refl)
ends_early x y p q w files turns fault.Memory a b other h left = (h, left)
ends_early x y p q w files turns fault.Closed a b other h left = (h, left)

-- a turn behind those before it
pub turned : (x y z : List Exchange → Type 0) (w v : Wanted) (s t u k : Stage) (a b c : Option (List ℕ)) → v ≡ w → u ≡ k → Went x y w s t a b → Went y z v t u b c → Went x z w s k a c
turned x y z w v s t u k a b c same is p q =
    went_on x y z w s t k a b c p (subst (λ (r : Wanted). Went y z r t k b c) same (subst (λ (r : Stage). Went y z v t r b c) is q))

pub stopped_turn : (x y z : List Exchange → Type 0) (w v : Wanted) (s t : Stage) (a b c : Option (List ℕ)) → v ≡ w → Went x y w s t a b → Stopped y z v t b c → Stopped x z w s a c
stopped_turn x y z w v s t a b c same p q = stopped_on x y z w s t a b c p (subst (λ (r : Wanted). Stopped y z r t b c) same q)
