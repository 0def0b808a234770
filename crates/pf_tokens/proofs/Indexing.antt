-- Where the last definition of each name stands, with one definition more.
use Rattle.std.proofs.Common.{◌≡◌, ℕ, zero, suc, Bool, true, false, cond, List, [], ◌∷◌, ◌++◌, length, Option, Some, None, refl, sym, ap, subst, ◌∙◌}
use Rattle.std.specs.Prelude.{bytes_eq, is_some, option_map}
use Rattle.std.specs.Global.{Vec}
use Rattle.std.specs.Ordering.{nat_cmp, is_eq}
use Rattle.std.specs.declared.cmp.Ordering.{Ordering}
use Rattle.std.specs.Cmp.Lexicographic.{slice_cmp}
use Rattle.std.specs.List.{slice_get}
use Rattle.std.specs.Map.{KeepsOthers}
use Rattle.std.specs.BTreeMap.{BTreeMap, UpdatesBy, Updates}
use Rattle.std.proofs.lemmas.Bool.{false≢true}
use Rattle.std.proofs.lemmas.Cmp.{eq_by_cmp_equiv, nat_list_cmp_total, nat_list_eq_equiv}
use Rattle.std.proofs.lemmas.Map.Text.{is_eq-slice_cmp}
use Rattle.std.proofs.lemmas.Slice.Eq.{bytes_eq-Decides}
use Rattle.pf_tokens.specs.Macros.{Definition, text_of}
use Rattle.pf_tokens.specs.inner.Indexed.{text_at, is_there, place_of, IsIndex, IsWithin}
use Rattle.pf_tokens.proofs.Pulling.{text_more}

abbrev by_bytes : Vec ℕ → Vec ℕ → Ordering
by_bytes x y = slice_cmp nat_cmp x.items y.items

apart : (bs cs ks : List ℕ) → bytes_eq bs cs ≡ false → is_eq (slice_cmp nat_cmp bs ks) ≡ true → is_eq (slice_cmp nat_cmp cs ks) ≡ false
apart bs cs ks n y = is_eq-slice_cmp cs ks ∙ nat_list_eq_equiv.symm cs ks ∙ sym (nat_list_eq_equiv.congr bs ks cs (sym (is_eq-slice_cmp bs ks) ∙ y)) ∙ n

-- what is found at each name where one place was set
place_after : (m n : BTreeMap (Vec ℕ) ℕ) (bs : List ℕ) (at : ℕ) → UpdatesBy by_bytes (λ (k : Vec ℕ). slice_cmp nat_cmp bs k.items) m n (Some at) → (cs : List ℕ) → place_of n cs ≡ cond (bytes_eq bs cs) (Some at) (place_of m cs)
unfolding KeepsOthers
place_after m n bs at h cs = cases (bytes_eq bs cs) refl
  where
    cases : (b : Bool) → bytes_eq bs cs ≡ b → place_of n cs ≡ cond b (Some at) (place_of m cs)
    cases true e = ap (λ (name : List ℕ). place_of n name) (sym ((bytes_eq-Decides bs cs).0 e)) ∙ h.1
    cases false e = h.3 _ (λ x y. (eq_by_cmp_equiv nat_list_cmp_total).congr cs x.items y.items) (λ k. apart bs cs k.items e)

last_there : (ds : List Definition) (d : Definition) → slice_get (ds ++ d ∷ []) (length ds) ≡ Some d
last_there [] d = refl
last_there (x ∷ ds) d = last_there ds d

others_there : (ds : List Definition) (d : Definition) (at : ℕ) → is_some (slice_get ds at) ≡ true → slice_get (ds ++ d ∷ []) at ≡ slice_get ds at
others_there [] d at h = absurd (false≢true h)
others_there (x ∷ ds) d zero h = refl
others_there (x ∷ ds) d (suc at) h = others_there ds d at h

module _ (ds : List Definition) (d : Definition) (m n : BTreeMap (Vec ℕ) ℕ) (within : IsWithin ds m) (name : Vec ℕ) (at : ℕ) (same : name.items ≡ d.name) (len : at ≡ length ds) (set : Updates by_bytes m n name (Some at)) where
  h : UpdatesBy by_bytes (λ (k : Vec ℕ). slice_cmp nat_cmp d.name k.items) m n (Some (length ds))
  h = subst (λ (i : ℕ). UpdatesBy by_bytes (λ (k : Vec ℕ). slice_cmp nat_cmp d.name k.items) m n (Some i)) len (subst (λ (bs : List ℕ). UpdatesBy by_bytes (λ (k : Vec ℕ). slice_cmp nat_cmp bs k.items) m n (Some at)) same set)

  pub index_more : IsIndex ds m → IsIndex (ds ++ d ∷ []) n
  index_more index = λ q. rw (place_after m n d.name (length ds) h q, text_more ds d q) (cases (text_of ds q) (bytes_eq d.name q) (place_of m q) (index q) (within q))
    where
      cases : (text : Option (List ℕ)) (b : Bool) (o : Option ℕ) → text ≡ text_at ds o → is_there ds o ≡ true → cond b (Some d.text) text ≡ text_at (ds ++ d ∷ []) (cond b (Some (length ds)) o)
      cases text true o e w = sym (ap (λ (x : Option Definition). option_map (λ (y : Definition). y.text) x) (last_there ds d))
      cases text false None e w = e
      cases text false (Some at) e w = e ∙ sym (ap (λ (x : Option Definition). option_map (λ (y : Definition). y.text) x) (others_there ds d at w))

  pub within_more : IsWithin (ds ++ d ∷ []) n
  within_more = λ q. rw (place_after m n d.name (length ds) h q) (cases (bytes_eq d.name q) (place_of m q) (within q))
    where
      cases : (b : Bool) (o : Option ℕ) → is_there ds o ≡ true → is_there (ds ++ d ∷ []) (cond b (Some (length ds)) o) ≡ true
      cases true o w = ap is_some (last_there ds d)
      cases false None w = refl
      cases false (Some at) w = ap is_some (others_there ds d at w) ∙ w
