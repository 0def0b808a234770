-- The names of tables that rules refer to, gathered.
use Rattle.std.proofs.Common.{◌≡◌, ℕ, ◌||◌, Bool, true, false, cond, List, [], ◌∷◌, Ordering, refl, sym, subst, ap, ◌∙◌}
use Rattle.std.specs.List.{list_any}
use Rattle.std.specs.Str.{bytes_eq}
use Rattle.std.specs.Global.{Vec}
use Rattle.std.specs.Ordering.{nat_cmp, is_eq}
use Rattle.std.specs.Set.{KeepsOthers}
use Rattle.std.specs.Cmp.Lexicographic.{slice_cmp}
use Rattle.std.specs.BTreeSet.{BTreeSet, UpdatesBy, Updates, contains_by}
use Rattle.std.proofs.lemmas.Cmp.{eq_by_cmp_equiv, nat_list_cmp_total, nat_list_eq_equiv}
use Rattle.std.proofs.lemmas.Slice.Eq.{bytes_eq-Decides}
use Rattle.std.proofs.lemmas.Map.Text.{is_eq-slice_cmp}
use Rattle.pf_rules.specs.Names.{Name}
use Rattle.pf_config.specs.SkippedNames.{is_listed}
use Rattle.pf_config.specs.inner.Referring.{names_in, Gains, AreJust}

-- ---- the set

abbrev by_bytes : Vec ℕ → Vec ℕ → Ordering
by_bytes x y = slice_cmp nat_cmp x.items y.items

abbrev has : BTreeSet (Vec ℕ) → List ℕ → Bool
has known name = contains_by (λ (k : Vec ℕ). slice_cmp nat_cmp name k.items) known

apart : (bs cs ks : List ℕ) → bytes_eq bs cs ≡ false → is_eq (slice_cmp nat_cmp bs ks) ≡ true → is_eq (slice_cmp nat_cmp cs ks) ≡ false
apart bs cs ks n y = is_eq-slice_cmp cs ks ∙ nat_list_eq_equiv.symm cs ks ∙ sym (nat_list_eq_equiv.congr bs ks cs (sym (is_eq-slice_cmp bs ks) ∙ y)) ∙ n

-- what is found of each name where one is put in
has_after : (m n : BTreeSet (Vec ℕ)) (bs : List ℕ) → UpdatesBy by_bytes (λ (k : Vec ℕ). slice_cmp nat_cmp bs k.items) m n true → (cs : List ℕ) → has n cs ≡ cond (bytes_eq bs cs) true (has m cs)
unfolding KeepsOthers
has_after m n bs h cs = cases (bytes_eq bs cs) refl
  where
    cases : (b : Bool) → bytes_eq bs cs ≡ b → has n cs ≡ cond b true (has m cs)
    cases true e = ap (λ (name : List ℕ). has n name) (sym ((bytes_eq-Decides bs cs).0 e)) ∙ h.1
    cases false e = h.3 _ (λ x y. (eq_by_cmp_equiv nat_list_cmp_total).congr cs x.items y.items) (λ k. apart bs cs k.items e)

-- what is found of a name among the keys
pub found_is : (n : Name) (m : BTreeSet (Vec ℕ)) → contains_by (λ (k : Vec ℕ). slice_cmp nat_cmp n k.items) m ≡ is_listed n (names_in m.keys)
found_is n m = go m.keys
  where
    go : (keys : List (Vec ℕ)) → list_any (λ (k : Vec ℕ). is_eq (slice_cmp nat_cmp n k.items)) keys ≡ is_listed n (names_in keys)
    go [] = refl
    go (k ∷ keys) =
        let e : is_eq (slice_cmp nat_cmp n k.items) ≡ bytes_eq k.items n = is_eq-slice_cmp n k.items ∙ nat_list_eq_equiv.symm n k.items in
        rw e (ap (λ b. bytes_eq k.items n || b) (go keys))

or_cond : (a b : Bool) → cond a true b ≡ (a || b)
or_cond true b = refl
or_cond false b = refl

pub gains_one : (n : Name) (m k : BTreeSet (Vec ℕ)) (key : Vec ℕ) → key.items ≡ n → Updates by_bytes m k key true → Gains (names_in m.keys) (λ q. bytes_eq n q) (names_in k.keys)
gains_one n m k key same set = λ q. sym (found_is q k) ∙ has_after m k n (subst (λ (bs : List ℕ). UpdatesBy by_bytes (λ (x : Vec ℕ). slice_cmp nat_cmp bs x.items) m k true) same set) q
    ∙ ap (λ (b : Bool). cond (bytes_eq n q) true b) (found_is q m) ∙ or_cond (bytes_eq n q) (is_listed q (names_in m.keys))

-- ---- gains

pub gains_nothing : (names : List Name) → Gains names (λ n. false) names
gains_nothing names = λ n. refl

or_turned : (a b c : Bool) → (b || (a || c)) ≡ ((a || b) || c)
or_turned true true c = refl
or_turned true false c = refl
or_turned false b c = refl

-- one gain after another
pub gains_both : (f g : Name → Bool) (old mid new : List Name) → Gains old f mid → Gains mid g new → Gains old (λ n. f n || g n) new
gains_both f g old mid new h k = λ n. k n ∙ ap (λ b. g n || b) (h n) ∙ or_turned (f n) (g n) (is_listed n old)

or_none : (b : Bool) → (b || false) ≡ b
or_none true = refl
or_none false = refl

-- what is gained from nothing is all there is
pub of_none : (f : Name → Bool) (old new : List Name) → old ≡ [] → Gains old f new → AreJust new f
of_none f old new e h = λ n. h n ∙ ap (λ ns. f n || is_listed n ns) e ∙ or_none (f n)

-- with what is left all is gained
abbrev pub GainsLeft : List Name → (Name → Bool) → (Name → Bool) → List Name → Type 0
GainsLeft old all left new = (n : Name) → (left n || is_listed n new) ≡ (all n || is_listed n old)

or_behind : (a b c : Bool) → (a || (b || c)) ≡ ((b || a) || c)
or_behind true true c = refl
or_behind true false c = refl
or_behind false true c = refl
or_behind false false c = refl

pub gains_next : (all left more f : Name → Bool) (old mid new : List Name) → ((n : Name) → left n ≡ (f n || more n)) → GainsLeft old all left mid → Gains mid f new → GainsLeft old all more new
gains_next all left more f old mid new e h k = λ n. ap (λ b. more n || b) (k n) ∙ or_behind (more n) (f n) (is_listed n mid) ∙ ap (λ b. b || is_listed n mid) (sym (e n)) ∙ h n

pub gains_end : (all left : Name → Bool) (old new : List Name) → ((n : Name) → left n ≡ false) → GainsLeft old all left new → Gains old all new
gains_end all left old new e h = λ n. sym (ap (λ b. b || is_listed n new) (e n)) ∙ h n
