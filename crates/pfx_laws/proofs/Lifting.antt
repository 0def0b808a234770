-- An order of what goes over lower layers of all members is one of what goes over the layers above.
use Rattle.std.proofs.Common.{◌≡◌, ◌∙◌, ◌⊎◌, sym, ap, subst, refl, ℕ, zero, suc, ◌<◌, ◌≤◌, false, nat_eq, List, [], ◌∷◌, ◌++◌, map, Option, Some, None, inl, inr, arith, append_assoc}
use Rattle.std.proofs.lemmas.Bool.{cond-true, cond-false, eq-eqb}
use Rattle.std.proofs.lemmas.Bool.Decides.{eqb_tells}
use Rattle.std.proofs.lemmas.List.{append-nil}
use Rattle.px_model.specs.Node.{Record}
use Rattle.px_model.specs.Spelling.{Bytes}
use Rattle.px_model.specs.Step.{put}
use Rattle.px_wire.specs.Message.{Group}
use Rattle.node_loop.specs.Moves.{LeavesThere}
use Rattle.pfx_laws.specs.Members.{RunEvent, Starts, During, Run, AreRuns, events_at}

-- ---- one member's

-- its events, with its number
abbrev pub tagged : {X : Type 0} → ℕ → List X → List (ℕ × X)
tagged m [] = []
tagged m (x ∷ xs) = (m, x) ∷ tagged m xs

at_append : {X : Type 0} (m : ℕ) (xs ys : List (ℕ × X)) → events_at m (xs ++ ys) ≡ events_at m xs ++ events_at m ys
at_append m [] ys = refl
at_append m (x ∷ xs) ys =
    elim (eqb_tells m x.0) [
      | inl is ↦ cond-true (nat_eq m x.0) _ _ is.0 ∙ ap (λ (zs : List _). x.1 ∷ zs) (at_append m xs ys)
          ∙ sym (ap (λ (zs : List _). zs ++ events_at m ys) (cond-true (nat_eq m x.0) (x.1 ∷ events_at m xs) (events_at m xs) is.0))
      | inr other ↦ cond-false (nat_eq m x.0) _ _ other.0 ∙ at_append m xs ys
          ∙ sym (ap (λ (zs : List _). zs ++ events_at m ys) (cond-false (nat_eq m x.0) (x.1 ∷ events_at m xs) (events_at m xs) other.0))
    ]

at_own : {X : Type 0} (m : ℕ) (xs : List X) → events_at m (tagged m xs) ≡ xs
at_own m [] = refl
at_own m (x ∷ xs) = cond-true (nat_eq m m) _ _ (eq-eqb m m refl) ∙ ap (λ (zs : List _). x ∷ zs) (at_own m xs)

at_other : {X : Type 0} (k m : ℕ) (xs : List X) → nat_eq k m ≡ false → events_at k (tagged m xs) ≡ []
at_other k m [] other = refl
at_other k m (x ∷ xs) other = cond-false (nat_eq k m) _ _ other ∙ at_other k m xs other

-- each is of a member below this one
abbrev pub AreBelow : {X : Type 0} → (n : ℕ) → List (ℕ × X) → Type 0
AreBelow n [] = Unit {0}
AreBelow n (x ∷ xs) = (x.0 < n) × AreBelow n xs

below_append : {X : Type 0} (n : ℕ) (xs ys : List (ℕ × X)) → AreBelow n xs → AreBelow n ys → AreBelow n (xs ++ ys)
below_append n [] ys a b = b
below_append n (x ∷ xs) ys a b = (a.0, below_append n xs ys a.1 b)

below_tagged : {X : Type 0} (n m : ℕ) (xs : List X) → m < n → AreBelow n (tagged m xs)
below_tagged n m [] l = tt
below_tagged n m (x ∷ xs) l = (l, below_tagged n m xs l)

-- what holds of what is left of each member: with the first one of a member, and behind it
pub each_first : {X : Type 0} (P : ℕ → List X → Type 0) (n m : ℕ) (x : X) (xs : List (ℕ × X)) → m < n →
    ((k : ℕ) → k < n → P k (events_at k ((m, x) ∷ xs))) → P m (x ∷ events_at m xs)
each_first P n m x xs below each =
    subst (λ (es : List _). P m es) (cond-true (nat_eq m m) (x ∷ events_at m xs) (events_at m xs) (eq-eqb m m refl)) (each m below)

pub each_rest : {X : Type 0} (P : ℕ → List X → Type 0) (n m : ℕ) (x : X) (xs : List (ℕ × X)) → P m (events_at m xs) →
    ((k : ℕ) → k < n → P k (events_at k ((m, x) ∷ xs))) → (k : ℕ) → k < n → P k (events_at k xs)
each_rest P n m x xs mine each k l =
    elim (eqb_tells k m) [
      | inl is ↦ subst (λ (j : ℕ). P j (events_at j xs)) (sym is.1) mine
      | inr other ↦ subst (λ (es : List _). P k es) (cond-false (nat_eq k m) (x ∷ events_at k xs) (events_at k xs) other.0) (each k l)
    ]

-- ---- a layer: each of its steps is at most one event of the layer below

module _ {L A : Type 0} (lower : L → Option A) where
  abbrev one_below : Option A → List A
  one_below None = []
  one_below (Some a) = a ∷ []

  abbrev pub lowers : List L → List A
  lowers [] = []
  lowers (l ∷ ls) = one_below (lower l) ++ lowers ls

  abbrev tag : ℕ → Option A → List (ℕ × A)
  tag m None = []
  tag m (Some a) = (m, a) ∷ []

  abbrev pub all_lower : List (ℕ × L) → List (ℕ × A)
  all_lower [] = []
  all_lower (x ∷ xs) = tag x.0 (lower x.1) ++ all_lower xs

  lower_append : (xs ys : List (ℕ × L)) → all_lower (xs ++ ys) ≡ all_lower xs ++ all_lower ys
  lower_append [] ys = refl
  lower_append (x ∷ xs) ys =
      ap (λ (zs : List (ℕ × A)). tag x.0 (lower x.1) ++ zs) (lower_append xs ys)
      ∙ sym (append_assoc (tag x.0 (lower x.1)) (all_lower xs) (all_lower ys))

  silent : (m : ℕ) (ls : List L) → lowers ls ≡ [] → all_lower (tagged m ls) ≡ []
  silent m [] e = refl
  silent m (l ∷ ls) e = at (lower l) e (λ h. silent m ls h)
    where
      at : (o : Option A) → one_below o ++ lowers ls ≡ [] → (lowers ls ≡ [] → all_lower (tagged m ls) ≡ []) →
          tag m o ++ all_lower (tagged m ls) ≡ []
      at None h more = more h
      at (Some a) h more = absurd (cc)

  -- the first step that is one of the layer below
  record Split (ls : List L) (a : A) (later : List A) : Type 0 where
    before : List L
    it : L
    after : List L
    is : ls ≡ before ++ it ∷ after
    quiet : lowers before ≡ []
    low : lower it ≡ Some a
    rest : lowers after ≡ later

  split : (ls : List L) (a : A) (later : List A) → lowers ls ≡ a ∷ later → Split ls a later
  split [] a later e = absurd (cc)
  split (l ∷ ls) a later e = at (lower l) refl e (λ h. split ls a later h)
    where
      at : (o : Option A) → lower l ≡ o → one_below o ++ lowers ls ≡ a ∷ later → (lowers ls ≡ a ∷ later → Split ls a later) →
          Split (l ∷ ls) a later
      at None is h more =
          let r = more h in
          record {
            before = l ∷ r.before;
            it = r.it;
            after = r.after;
            is = ap (λ (zs : List L). l ∷ zs) r.is;
            quiet = ap (λ (p : Option A). one_below p ++ lowers r.before) is ∙ r.quiet;
            low = r.low;
            rest = r.rest;
          }
      at (Some b) is h more =
          let one : b ≡ a = cc in
          let same : lowers ls ≡ later = cc in
          record { before = []; it = l; after = ls; is = refl; quiet = refl; low = is ∙ ap Some one; rest = same }

  -- ---- all members

  pub record Lifted (n : ℕ) (net : List (ℕ × A)) (steps : ℕ → List L) : Type 0 where
    pub above : List (ℕ × L)
    pub own : (m : ℕ) → m < n → events_at m above ≡ steps m
    pub low : all_lower above ≡ net
    pub within : AreBelow n above

  -- what is left of the members before this one
  abbrev ends : (steps : ℕ → List L) → ℕ → List (ℕ × L)
  ends steps zero = []
  ends steps (suc k) = tagged k (steps k) ++ ends steps k

  ends_above : (steps : ℕ → List L) (k m : ℕ) → k ≤ m → events_at m (ends steps k) ≡ []
  ends_above steps zero m le = refl
  ends_above steps (suc k) m le =
      at_append m (tagged k (steps k)) (ends steps k)
      ∙ elim (eqb_tells m k) [
        | inl is ↦ absurd (let same = is.1 in omega (arith, le, same))
        | inr other ↦ ap (λ (zs : List L). zs ++ events_at m (ends steps k)) (at_other m k (steps k) other.0)
            ∙ ends_above steps k m (omega (arith, le))
      ]

  ends_below : (steps : ℕ → List L) (k m : ℕ) → m < k → events_at m (ends steps k) ≡ steps m
  ends_below steps zero m l = absurd (omega (arith, l))
  ends_below steps (suc k) m l =
      at_append m (tagged k (steps k)) (ends steps k)
      ∙ elim (eqb_tells m k) [
        | inl is ↦ ap (λ (j : ℕ). events_at j (tagged k (steps k)) ++ events_at j (ends steps k)) is.1
            ∙ ap (λ (zs : List L). zs ++ events_at k (ends steps k)) (at_own k (steps k))
            ∙ ap (λ (zs : List L). steps k ++ zs) (ends_above steps k k (omega arith)) ∙ append-nil (steps k)
            ∙ ap steps (sym is.1)
        | inr other ↦ ap (λ (zs : List L). zs ++ events_at m (ends steps k)) (at_other m k (steps k) other.0)
            ∙ ends_below steps k m (let differ = other.1 in omega (arith, l, differ))
      ]

  ends_silent : (steps : ℕ → List L) (k : ℕ) → ((m : ℕ) → m < k → lowers (steps m) ≡ []) → all_lower (ends steps k) ≡ []
  ends_silent steps zero none = refl
  ends_silent steps (suc k) none =
      lower_append (tagged k (steps k)) (ends steps k)
      ∙ ap (λ (zs : List (ℕ × A)). zs ++ all_lower (ends steps k)) (silent k (steps k) (none k (omega arith)))
      ∙ ends_silent steps k (λ m l. none m (omega (arith, l)))

  ends_within : (n : ℕ) (steps : ℕ → List L) (k : ℕ) → k ≤ n → AreBelow n (ends steps k)
  ends_within n steps zero le = tt
  ends_within n steps (suc k) le =
      below_append n (tagged k (steps k)) (ends steps k) (below_tagged n k (steps k) (omega (arith, le))) (ends_within n steps k (omega (arith, le)))

  pub lift : (n : ℕ) (net : List (ℕ × A)) (steps : ℕ → List L) → ((m : ℕ) → m < n → events_at m net ≡ lowers (steps m)) →
      AreBelow n net → Lifted n net steps
  lift n [] steps own within = record {
    above = ends steps n;
    own = λ m l. ends_below steps n m l;
    low = ends_silent steps n (λ m l. sym (own m l));
    within = ends_within n steps n (omega arith);
  }
  lift n ((m, a) ∷ net) steps own within =
      let mine : lowers (steps m) ≡ a ∷ events_at m net = sym (own m within.0) ∙ cond-true (nat_eq m m) _ _ (eq-eqb m m refl) in
      let s = split (steps m) a (events_at m net) mine in
      let then = put steps m s.after in
      let r = lift n net then
      (λ k l. elim (eqb_tells k m) [
        | inl is ↦ ap (λ (j : ℕ). events_at j net) is.1 ∙ sym s.rest ∙ ap lowers (sym (cond-true (nat_eq k m) s.after (steps k) is.0))
        | inr other ↦ sym (cond-false (nat_eq k m) _ _ other.0) ∙ own k l ∙ ap lowers (sym (cond-false (nat_eq k m) s.after (steps k) other.0))
      ]) within.1 in
      let front = tagged m s.before in
      record {
        above = front ++ (m, s.it) ∷ r.above;
        own = λ k l.
            at_append k front ((m, s.it) ∷ r.above)
            ∙ elim (eqb_tells k m) [
              | inl is ↦ ap (λ (zs : List L). events_at k front ++ zs) (cond-true (nat_eq k m) (s.it ∷ events_at k r.above) (events_at k r.above) is.0
                  ∙ ap (λ (zs : List L). s.it ∷ zs) (r.own k l ∙ cond-true (nat_eq k m) s.after (steps k) is.0))
                  ∙ ap (λ (j : ℕ). events_at j front ++ (s.it ∷ s.after)) is.1
                  ∙ ap (λ (zs : List L). zs ++ (s.it ∷ s.after)) (at_own m s.before)
                  ∙ sym s.is ∙ ap steps (sym is.1)
              | inr other ↦ ap (λ (zs : List L). events_at k front ++ zs) (cond-false (nat_eq k m) (s.it ∷ events_at k r.above) (events_at k r.above) other.0
                  ∙ r.own k l ∙ cond-false (nat_eq k m) s.after (steps k) other.0)
                  ∙ ap (λ (zs : List L). zs ++ steps k) (at_other k m s.before other.0)
            ];
        low = lower_append front ((m, s.it) ∷ r.above)
            ∙ ap (λ (zs : List (ℕ × A)). zs ++ (tag m (lower s.it) ++ all_lower r.above)) (silent m s.before s.quiet)
            ∙ ap (λ (o : Option A). tag m o ++ all_lower r.above) s.low ∙ ap (λ (zs : List (ℕ × A)). (m, a) ∷ zs) r.low;
        within = below_append n front ((m, s.it) ∷ r.above) (below_tagged n m s.before within.0) (within.0, r.within);
      }

-- ---- a layer of runs: starts are on both sides of it, and each of its steps is events of the layer above, too

-- what goes over it in a run
abbrev pub during : {K X : Type 0} → List X → List (RunEvent K X)
during xs = map (λ x. During x) xs

pub during_append : {K X : Type 0} (xs ys : List X) (zs : List (RunEvent K X)) → during (xs ++ ys) ++ zs ≡ during xs ++ (during ys ++ zs)
during_append [] ys zs = refl
during_append (x ∷ xs) ys zs = ap (λ (es : List (RunEvent _ _)). During x ∷ es) (during_append xs ys zs)

pub below_or : (m n : ℕ) → (m < n) ⊎ (n ≤ m)
below_or m zero = inr (omega arith)
below_or zero (suc n) = inl (omega arith)
below_or (suc m) (suc n) = elim (below_or m n) [ inl l ↦ inl (omega (arith, l)) | inr h ↦ inr (omega (arith, h)) ]

abbrev pub highs : {L Y : Type 0} → (high : ℕ → L → List Y) → ℕ → List L → List Y
highs high m [] = []
highs high m (l ∷ ls) = high m l ++ highs high m ls

module _ {K L X Y : Type 0} (low : L → Option X) (high : ℕ → L → List Y) where
  abbrev some_during : Option X → Option (RunEvent K X)
  some_during None = None
  some_during (Some x) = Some (During x)

  abbrev pub low_of : RunEvent K L → Option (RunEvent K X)
  low_of (Starts k) = Some (Starts k)
  low_of (During l) = some_during (low l)

  abbrev pub high_of : ℕ → RunEvent K L → List (RunEvent K Y)
  high_of m (Starts k) = Starts k ∷ []
  high_of m (During l) = during (high m l)

  abbrev pub run_highs : ℕ → List (RunEvent K L) → List (RunEvent K Y)
  run_highs m [] = []
  run_highs m (e ∷ es) = high_of m e ++ run_highs m es

  -- over all members' layers above
  abbrev pub upper : List (ℕ × RunEvent K L) → List (ℕ × RunEvent K Y)
  upper [] = []
  upper (x ∷ xs) = tagged x.0 (high_of x.0 x.1) ++ upper xs

  pub upper_at : (k : ℕ) (xs : List (ℕ × RunEvent K L)) → events_at k (upper xs) ≡ run_highs k (events_at k xs)
  upper_at k [] = refl
  upper_at k (x ∷ xs) =
      let hs = high_of x.0 x.1 in
      at_append k (tagged x.0 hs) (upper xs)
      ∙ elim (eqb_tells k x.0) [
        | inl is ↦ ap (λ (j : ℕ). events_at j (tagged x.0 hs) ++ events_at k (upper xs)) is.1
            ∙ ap (λ (zs : List (RunEvent K Y)). zs ++ events_at k (upper xs)) (at_own x.0 hs)
            ∙ ap (λ (zs : List (RunEvent K Y)). hs ++ zs) (upper_at k xs)
            ∙ ap (λ (j : ℕ). high_of j x.1 ++ run_highs k (events_at k xs)) (sym is.1)
            ∙ ap (λ (es : List (RunEvent K L)). run_highs k es) (sym (cond-true (nat_eq k x.0) (x.1 ∷ events_at k xs) (events_at k xs) is.0))
        | inr other ↦ ap (λ (zs : List (RunEvent K Y)). zs ++ events_at k (upper xs)) (at_other k x.0 hs other.0) ∙ upper_at k xs
            ∙ ap (λ (es : List (RunEvent K L)). run_highs k es) (sym (cond-false (nat_eq k x.0) (x.1 ∷ events_at k xs) (events_at k xs) other.0))
      ]

  lowers_during : (ls : List L) (later : List (RunEvent K L)) →
      lowers low_of (during ls ++ later) ≡ during (lowers low ls) ++ lowers low_of later
  lowers_during [] later = refl
  lowers_during (l ∷ ls) later = at (low l) (lowers_during ls later)
    where
      at : (o : Option X) → lowers low_of (during ls ++ later) ≡ during (lowers low ls) ++ lowers low_of later →
          one_below low_of (some_during o) ++ lowers low_of (during ls ++ later) ≡ during (one_below low o ++ lowers low ls) ++ lowers low_of later
      at None rest = rest
      at (Some x) rest = ap (λ (es : List (RunEvent K X)). During x ∷ es) rest

  highs_during : (m : ℕ) (ls : List L) (later : List (RunEvent K L)) →
      run_highs m (during ls ++ later) ≡ during (highs high m ls) ++ run_highs m later
  highs_during m [] later = refl
  highs_during m (l ∷ ls) later =
      ap (λ (es : List (RunEvent K Y)). during (high m l) ++ es) (highs_during m ls later)
      ∙ sym (during_append (high m l) (highs high m ls) (run_highs m later))

  -- A run over the layer below is one over the layer above, with these steps between, of which this holds.
  abbrev pub Raises : (m : ℕ) → (Is : Run K → List X → Type 0) → (Above : Run K → List Y → Type 0) →
      (Good : List (RunEvent K L) → Type 0) → Type 0
  Raises m Is Above Good =
      (r : Run K) (own : List X) → Is r own →
      (ls : List L) × (own ≡ lowers low ls) × Above r (highs high m ls) ×
      ((later : List (RunEvent K L)) → Good later → Good (Starts r.key ∷ (during ls ++ later)))

  -- the same of runs one after another
  record Raised (g : Group) (m : ℕ) (Above : Run K → List Y → Type 0) (Good : List (RunEvent K L) → Type 0)
      (IsLeft : Record Bytes → Type 0) (runs : List (Run K)) (events : List (RunEvent K X)) : Type 0 where
    steps : List (RunEvent K L)
    low_is : events ≡ lowers low_of steps
    good : Good steps
    are : AreRuns g m Above IsLeft runs (run_highs m steps)

  raise : (g : Group) (m : ℕ) (Is : Run K → List X → Type 0) (Above : Run K → List Y → Type 0) (Good : List (RunEvent K L) → Type 0) →
      Good [] → Raises m Is Above Good → (IsLeft : Record Bytes → Type 0) (runs : List (Run K)) (events : List (RunEvent K X)) →
      AreRuns g m Is IsLeft runs events → Raised g m Above Good IsLeft runs events
  raise g m Is Above Good none each IsLeft [] events are = record { steps = []; low_is = are; good = none; are = refl }
  raise g m Is Above Good none each IsLeft (r ∷ rs) events (left, own, later, is, all, more) =
      let one = each r own is in
      let rest = raise g m Is Above Good none each (LeavesThere g m r.unanswered r.end) rs later more in
      record {
        steps = Starts r.key ∷ (during one.0 ++ rest.steps);
        low_is = all ∙ ap (λ (es : List (RunEvent K X)). Starts r.key ∷ es)
            (ap (λ (xs : List X). during xs ++ later) one.1
            ∙ ap (λ (es : List (RunEvent K X)). during (lowers low one.0) ++ es) rest.low_is
            ∙ sym (lowers_during one.0 rest.steps));
        good = one.3 rest.steps rest.good;
        are = (
          left,
          highs high m one.0,
          run_highs m rest.steps,
          one.2,
          ap (λ (es : List (RunEvent K Y)). Starts r.key ∷ es) (highs_during m one.0 rest.steps),
          rest.are,
        );
      }

  -- ---- of all members

  pub record Up (g : Group) (Above : (m : ℕ) → Run K → List Y → Type 0) (Good : ℕ → List (RunEvent K L) → Type 0)
      (IsLeft : Record Bytes → Type 0) (network : List (ℕ × RunEvent K X)) (runs : ℕ → List (Run K)) : Type 0 where
    pub above : List (ℕ × RunEvent K L)
    pub low_is : all_lower low_of above ≡ network
    pub within : AreBelow g.members above
    pub good : (m : ℕ) → m < g.members → Good m (events_at m above)
    pub are : (m : ℕ) → m < g.members → AreRuns g m (Above m) IsLeft (runs m) (events_at m (upper above))

  module _ (g : Group) (Is : (m : ℕ) → Run K → List X → Type 0) (Above : (m : ℕ) → Run K → List Y → Type 0)
      (Good : ℕ → List (RunEvent K L) → Type 0) (none : (m : ℕ) → Good m []) (each : (m : ℕ) → Raises m (Is m) (Above m) (Good m))
      (IsLeft : Record Bytes → Type 0) (network : List (ℕ × RunEvent K X)) (runs : ℕ → List (Run K))
      (are : (m : ℕ) → m < g.members → AreRuns g m (Is m) IsLeft (runs m) (events_at m network)) where
    raised : (m : ℕ) → m < g.members → Raised g m (Above m) (Good m) IsLeft (runs m) (events_at m network)
    raised m below = raise g m (Is m) (Above m) (Good m) (none m) (each m) IsLeft (runs m) (events_at m network) (are m below)

    abbrev steps_of : (m : ℕ) → (m < g.members) ⊎ (g.members ≤ m) → List (RunEvent K L)
    steps_of m (inl below) = (raised m below).steps
    steps_of m (inr above) = []

    abbrev steps_at : ℕ → List (RunEvent K L)
    steps_at m = steps_of m (below_or m g.members)

    low_at : (m : ℕ) (w : (m < g.members) ⊎ (g.members ≤ m)) → m < g.members → events_at m network ≡ lowers low_of (steps_of m w)
    low_at m (inl b) below = (raised m b).low_is
    low_at m (inr above) below = absurd (omega (arith, above, below))

    good_at : (m : ℕ) (w : (m < g.members) ⊎ (g.members ≤ m)) → m < g.members → Good m (steps_of m w)
    good_at m (inl b) below = (raised m b).good
    good_at m (inr above) below = absurd (omega (arith, above, below))

    are_at : (m : ℕ) (w : (m < g.members) ⊎ (g.members ≤ m)) → m < g.members → AreRuns g m (Above m) IsLeft (runs m) (run_highs m (steps_of m w))
    are_at m (inl b) below = (raised m b).are
    are_at m (inr above) below = absurd (omega (arith, above, below))

    pub up : AreBelow g.members network → Up g Above Good IsLeft network runs
    up within =
        let l = lift low_of g.members network steps_at (λ m below. low_at m (below_or m g.members) below) within in
        record {
          above = l.above;
          low_is = l.low;
          within = l.within;
          good = λ m below. subst (λ (es : List (RunEvent K L)). Good m es) (sym (l.own m below)) (good_at m (below_or m g.members) below);
          are = λ m below. subst (λ (es : List (RunEvent K Y)). AreRuns g m (Above m) IsLeft (runs m) es)
              (sym (upper_at m l.above ∙ ap (λ (es : List (RunEvent K L)). run_highs m es) (l.own m below)))
              (are_at m (below_or m g.members) below);
        }
