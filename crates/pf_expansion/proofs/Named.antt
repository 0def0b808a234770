-- The names of tables, with one table more.
use Rattle.std.proofs.Common.{◌≡◌, ℕ, ◌||◌, Bool, true, false, cond, List, [], ◌∷◌, ◌++◌, refl, sym, ap, subst, ◌∙◌}
use Rattle.std.specs.Prelude.{bytes_eq}
use Rattle.std.specs.Global.{Vec}
use Rattle.std.specs.Ordering.{nat_cmp, is_eq}
use Rattle.std.specs.declared.cmp.Ordering.{Ordering}
use Rattle.std.specs.Cmp.Lexicographic.{slice_cmp}
use Rattle.std.specs.Set.{KeepsOthers}
use Rattle.std.specs.BTreeSet.{BTreeSet, UpdatesBy, Updates, contains_by}
use Rattle.std.proofs.lemmas.Cmp.{eq_by_cmp_equiv, nat_list_cmp_total, nat_list_eq_equiv}
use Rattle.std.proofs.lemmas.List.Folds.{list_any-append}
use Rattle.std.proofs.lemmas.Map.Text.{is_eq-slice_cmp}
use Rattle.std.proofs.lemmas.Slice.Eq.{bytes_eq-Decides}
use Rattle.pf_rules.specs.Rulesets.{TableValue}
use Rattle.pf_expansion.specs.Tables.{is_defined}
use Rattle.pf_expansion.specs.inner.Tables.{AreNames}

abbrev by_bytes : Vec ℕ → Vec ℕ → Ordering
by_bytes x y = slice_cmp nat_cmp x.items y.items

abbrev has : BTreeSet (Vec ℕ) → List ℕ → Bool
has names name = contains_by (λ (k : Vec ℕ). slice_cmp nat_cmp name k.items) names

apart : (bs cs ks : List ℕ) → bytes_eq bs cs ≡ false → is_eq (slice_cmp nat_cmp bs ks) ≡ true → is_eq (slice_cmp nat_cmp cs ks) ≡ false
apart bs cs ks n y = is_eq-slice_cmp cs ks ∙ nat_list_eq_equiv.symm cs ks ∙ sym (nat_list_eq_equiv.congr bs ks cs (sym (is_eq-slice_cmp bs ks) ∙ y)) ∙ n

-- what is found of each name where one is put in
has_after : (m n : BTreeSet (Vec ℕ)) (bs : List ℕ) → UpdatesBy by_bytes (λ (k : Vec ℕ). slice_cmp nat_cmp bs k.items) m n true → (cs : List ℕ) → has n cs ≡ cond (bytes_eq bs cs) true (has m cs)
unfolding KeepsOthers
has_after m n bs h cs = cases (bytes_eq bs cs) refl
  where
    cases : (b : Bool) → bytes_eq bs cs ≡ b → has n cs ≡ cond b true (has m cs)
    cases true e = ap (λ (name : List ℕ). has n name) (sym ((bytes_eq-Decides bs cs).0 e)) ∙ h.1
    cases false e = h.3 _ (λ x y. (eq_by_cmp_equiv nat_list_cmp_total).congr cs x.items y.items) (λ k. apart bs cs k.items e)

pub names_none : (m : BTreeSet (Vec ℕ)) → m.keys ≡ [] → AreNames m []
names_none m e = λ name. rw e refl

pub names_more : (ts : List TableValue) (t : TableValue) (m n : BTreeSet (Vec ℕ)) (name : Vec ℕ) → name.items ≡ t.name → Updates by_bytes m n name true → AreNames m ts → AreNames n (ts ++ t ∷ [])
names_more ts t m n name same set are = λ q. has_after m n t.name (subst (λ (bs : List ℕ). UpdatesBy by_bytes (λ (k : Vec ℕ). slice_cmp nat_cmp bs k.items) m n true) same set) q
    ∙ ap (λ (b : Bool). cond (bytes_eq t.name q) true b) (are q) ∙ cases (bytes_eq t.name q) (is_defined ts q)
    ∙ sym (list_any-append (λ (u : TableValue). bytes_eq u.name q) ts (t ∷ []))
  where
    cases : (a b : Bool) → cond a true b ≡ (b || (a || false))
    cases true true = refl
    cases true false = refl
    cases false true = refl
    cases false false = refl
