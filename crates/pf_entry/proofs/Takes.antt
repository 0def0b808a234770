-- A field that is read is the field that was written, and what was written is read again.
use Rattle.std.proofs.Common.{◌≡◌, ℕ, zero, suc, ◌+◌, ◌^◌, ◌<◌, ◌≤◌, Bool, true, false, cond, ltb, leb, List, [], ◌∷◌, ◌++◌, length, get_or, take, drop, Option, Some, None, refl, sym, ap, subst, ◌∙◌, append_assoc, arith, inl, inr}
use Rattle.std.specs.Prelude.{◌&&◌, ◌⊎◌}
use Rattle.std.specs.List.{flat_map, list_all}
use Rattle.std.specs.Int.{Width, w16, w32, w64, byte_len, from_be_bytes, to_be_bytes}
use Rattle.std.proofs.lemmas.Bool.{cases_lt, ltb-false, le-ltb}
use Rattle.std.proofs.lemmas.Bool.Decides.{nat_tests}
use Rattle.std.proofs.lemmas.List.{take_at, drop_at, take-append-drop, length-append, length-take, get_or-drop, get_or-take, get_or_past}
use Rattle.std.proofs.lemmas.List.Concat.{flat_map-cons}
use Rattle.std.proofs.lemmas.Nat.{be_bytes_2, be_bytes_4, be_bytes_8, from_be_bytes-to_be_bytes_2, from_be_bytes-to_be_bytes_4, from_be_bytes-to_be_bytes_8}
use Rattle.pf_entry.specs.Entry.{counted, path, is_name, is_table, are_names}
use Rattle.pf_entry.specs.Reading.{◌>>=◌, only, byte_at, number_at, text_at, counted_at, name_at, many_at, names_at, path_at, table_at}

abbrev pub IsBytes : List ℕ → Type 0
IsBytes bytes = (i : ℕ) → get_or bytes i 0 < 256

pub IsBytes-drop : (n : ℕ) (bytes : List ℕ) → IsBytes bytes → IsBytes (drop n bytes)
IsBytes-drop n bytes h i = rw get_or-drop (h (n + i))

pub IsBytes-take : (n : ℕ) (bytes : List ℕ) → IsBytes bytes → IsBytes (take n bytes)
IsBytes-take n bytes h i =
    elim (cases_lt i n) [
      | inl lt ↦ rw (get_or-take n bytes i 0 lt) (h i)
      | inr le ↦ rw (get_or_past (take n bytes) i 0 (omega (arith, length-take n bytes))) (omega arith)
    ]

pub IsBytes-rest : (b : ℕ) (bytes : List ℕ) → IsBytes (b ∷ bytes) → IsBytes bytes
IsBytes-rest b bytes h i = h (suc i)

-- ---- the steps of a reading that found a value

pub bind_ok : {A B : Type 0} (r : Option A) (f : A → Option B) (y : B) → (r >>= f) ≡ Some y → (x : A) × (r ≡ Some x) × (f x ≡ Some y)
bind_ok (Some x) f y e = (x, refl, e)
bind_ok None f y e = absurd cc

pub only_ok : {A : Type 0} (b : Bool) (x y : A) → only b x ≡ Some y → (b ≡ true) × (x ≡ y)
only_ok true x y e = (refl, cc)
only_ok false x y e = absurd cc

pub guard_ok : {A : Type 0} (b : Bool) (r : Option A) (y : A) → cond b None r ≡ Some y → (b ≡ false) × (r ≡ Some y)
guard_ok true r y e = absurd cc
guard_ok false r y e = (refl, e)

pub chosen : {A : Type 0} (b : Bool) (x y z : A) → cond b x y ≡ z → ((b ≡ true) × (x ≡ z)) ⊎ ((b ≡ false) × (y ≡ z))
chosen true x y z e = inl (refl, e)
chosen false x y z e = inr (refl, e)

pub some_is : {A : Type 0} (x y : A) → Some x ≡ Some y → x ≡ y
some_is x y e = cc

pub both_true : (a b : Bool) → (a && b) ≡ true → (a ≡ true) × (b ≡ true)
both_true true b e = (refl, e)
both_true false b e = absurd cc

pub and_true : (a b : Bool) → a ≡ true → b ≡ true → (a && b) ≡ true
and_true a b p q = rw p q

-- what a reader took from the front
pub record Takes (bytes text rest : List ℕ) : Type 0 where
  pub parts : bytes ≡ text ++ rest
  pub rest_fits : IsBytes rest

pub Takes-then : (a x b y c : List ℕ) → Takes a x b → Takes b y c → Takes a (x ++ y) c
Takes-then a x b y c p q = record { parts = p.parts ∙ ap (λ (t : List ℕ). x ++ t) q.parts ∙ sym (append_assoc x y c); rest_fits = q.rest_fits }

-- ---- bytes, numbers, rulesets

pub byte_takes : (bytes : List ℕ) (x : ℕ × List ℕ) → IsBytes bytes → byte_at bytes ≡ Some x → Takes bytes (x.0 ∷ []) x.1 × (x.0 < 256)
byte_takes [] x fits e = absurd cc
byte_takes (b ∷ more) x fits e =
    subst (λ (q : ℕ × List ℕ). Takes (b ∷ more) (q.0 ∷ []) q.1 × (q.0 < 256)) (some_is (b, more) x e) (record { parts = refl; rest_fits = IsBytes-rest b more fits }, fits 0)

pub record IsWide (w : Width) (limit : ℕ) : Type 0 where
  pub len : (n : ℕ) → length (to_be_bytes w n) ≡ byte_len w
  pub back : (bytes : List ℕ) → length bytes ≡ byte_len w → IsBytes bytes → to_be_bytes w (from_be_bytes w bytes) ≡ bytes
  pub again : (n : ℕ) → n < limit → from_be_bytes w (to_be_bytes w n) ≡ n
  pub below : (bytes : List ℕ) → IsBytes bytes → from_be_bytes w bytes < limit

pub wide16 : IsWide w16 (2 ^ 16)
wide16 = record {
  len = λ n. refl;
  back = λ bytes len fits. be_bytes_2 bytes _ len fits refl;
  again = λ n lt. from_be_bytes-to_be_bytes_2 n lt;
  below = λ bytes fits. omega (arith, fits 0, fits 1);
}

pub wide32 : IsWide w32 (2 ^ 32)
wide32 = record {
  len = λ n. refl;
  back = λ bytes len fits. be_bytes_4 bytes _ len fits refl;
  again = λ n lt. from_be_bytes-to_be_bytes_4 n lt;
  below = λ bytes fits. omega (arith, fits 0, fits 1, fits 2, fits 3);
}

pub wide64 : IsWide w64 (2 ^ 64)
wide64 = record {
  len = λ n. refl;
  back = λ bytes len fits. be_bytes_8 bytes _ len fits refl;
  again = λ n lt. from_be_bytes-to_be_bytes_8 n lt;
  below = λ bytes fits. omega (arith, fits 0, fits 1, fits 2, fits 3, fits 4, fits 5, fits 6, fits 7);
}

pub number_takes : (w : Width) (limit : ℕ) (wide : IsWide w limit) (bytes : List ℕ) (x : ℕ × List ℕ) → IsBytes bytes → number_at w bytes ≡ Some x → Takes bytes (to_be_bytes w x.0) x.1 × (x.0 < limit)
number_takes w limit wide bytes x fits e =
    let g = guard_ok (ltb (length bytes) (byte_len w)) (Some (from_be_bytes w (take (byte_len w) bytes), drop (byte_len w) bytes)) x e in
    let long : byte_len w ≤ length bytes = ltb-false _ _ g.0 in
    let front : to_be_bytes w (from_be_bytes w (take (byte_len w) bytes)) ≡ take (byte_len w) bytes = wide.back (take (byte_len w) bytes) (omega (arith, length-take (byte_len w) bytes)) (IsBytes-take (byte_len w) bytes fits) in
    subst (λ (q : ℕ × List ℕ). Takes bytes (to_be_bytes w q.0) q.1 × (q.0 < limit)) (some_is (from_be_bytes w (take (byte_len w) bytes), drop (byte_len w) bytes) x g.1)
    (record { parts = rw front (sym (take-append-drop (byte_len w) bytes)); rest_fits = IsBytes-drop (byte_len w) bytes fits }, wide.below (take (byte_len w) bytes) (IsBytes-take (byte_len w) bytes fits))

pub number_again : (w : Width) (limit : ℕ) (wide : IsWide w limit) (n : ℕ) (rest : List ℕ) → n < limit → number_at w (to_be_bytes w n ++ rest) ≡ Some (n, rest)
number_again w limit wide n rest lt =
    let len = wide.len n in
    let long : ltb (length (to_be_bytes w n ++ rest)) (byte_len w) ≡ false = le-ltb _ _ (omega (arith, length-append (to_be_bytes w n) rest)) in
    rw (long, take_at (to_be_bytes w n) rest (byte_len w) len, drop_at (to_be_bytes w n) rest (byte_len w) len, wide.again n lt) refl

pub text_takes : (n : ℕ) (bytes : List ℕ) (x : List ℕ × List ℕ) → IsBytes bytes → text_at n bytes ≡ Some x → Takes bytes x.0 x.1 × (length x.0 ≡ n)
text_takes n bytes x fits e =
    let g = guard_ok (ltb (length bytes) n) (Some (take n bytes, drop n bytes)) x e in
    let long : n ≤ length bytes = ltb-false _ _ g.0 in
    subst (λ (q : List ℕ × List ℕ). Takes bytes q.0 q.1 × (length q.0 ≡ n)) (some_is (take n bytes, drop n bytes) x g.1)
    (record { parts = sym (take-append-drop n bytes); rest_fits = IsBytes-drop n bytes fits }, omega (arith, length-take n bytes))

pub text_again : (text rest : List ℕ) → text_at (length text) (text ++ rest) ≡ Some (text, rest)
text_again text rest =
    let long : ltb (length (text ++ rest)) (length text) ≡ false = le-ltb _ _ (omega (arith, length-append text rest)) in
    rw (long, take_at text rest (length text) refl, drop_at text rest (length text) refl) refl

pub counted_takes : (bytes : List ℕ) (x : List ℕ × List ℕ) → IsBytes bytes → counted_at bytes ≡ Some x → Takes bytes (counted x.0) x.1
unfolding counted_at
counted_takes bytes x fits e =
    let a = bind_ok (byte_at bytes) (λ n. text_at n.0 n.1) x e in
    let t0 = byte_takes bytes a.0 fits a.1 in
    let t1 = text_takes a.0.0 a.0.1 x t0.0.rest_fits a.2 in
    let both : Takes bytes (a.0.0 ∷ x.0) x.1 = Takes-then bytes (a.0.0 ∷ []) a.0.1 x.0 x.1 t0.0 t1.0 in
    subst (λ (k : ℕ). Takes bytes (k ∷ x.0) x.1) (sym t1.1) both

pub counted_again : (text rest : List ℕ) → counted_at (counted text ++ rest) ≡ Some (text, rest)
unfolding counted_at
counted_again text rest = text_again text rest

pub name_takes : (bytes : List ℕ) (x : List ℕ × List ℕ) → IsBytes bytes → name_at bytes ≡ Some x → Takes bytes (counted x.0) x.1 × (is_name x.0 ≡ true)
unfolding name_at
name_takes bytes x fits e =
    let a = bind_ok (counted_at bytes) (λ name. only (is_name name.0) name) x e in
    let g = only_ok (is_name a.0.0) a.0 x a.2 in
    subst (λ (y : List ℕ × List ℕ). Takes bytes (counted y.0) y.1 × (is_name y.0 ≡ true)) g.1 (counted_takes bytes a.0 fits a.1, g.0)

pub name_again : (name rest : List ℕ) → is_name name ≡ true → name_at (counted name ++ rest) ≡ Some (name, rest)
unfolding name_at
name_again name rest h = rw (counted_again name rest, h) refl

pub table_takes : (bytes : List ℕ) (x : List ℕ × List ℕ) → IsBytes bytes → table_at bytes ≡ Some x → Takes bytes (counted x.0) x.1 × (is_table x.0 ≡ true)
unfolding table_at
table_takes bytes x fits e =
    let a = bind_ok (counted_at bytes) (λ name. only (is_table name.0) name) x e in
    let g = only_ok (is_table a.0.0) a.0 x a.2 in
    subst (λ (y : List ℕ × List ℕ). Takes bytes (counted y.0) y.1 × (is_table y.0 ≡ true)) g.1 (counted_takes bytes a.0 fits a.1, g.0)

pub table_again : (name rest : List ℕ) → is_table name ≡ true → table_at (counted name ++ rest) ≡ Some (name, rest)
unfolding table_at
table_again name rest h = rw (counted_again name rest, h) refl

-- ---- several of one kind

-- what is read is spelled so, and allowed
pub record IsField {A : Type 0} (item : List ℕ → Option (A × List ℕ)) (spell : A → List ℕ) (allowed : A → Bool) : Type 0 where
  pub takes : (bytes : List ℕ) (x : A × List ℕ) → IsBytes bytes → item bytes ≡ Some x → Takes bytes (spell x.0) x.1 × (allowed x.0 ≡ true)
  pub again : (a : A) (rest : List ℕ) → allowed a ≡ true → item (spell a ++ rest) ≡ Some (a, rest)

pub many_takes : {A : Type 0} (item : List ℕ → Option (A × List ℕ)) (spell : A → List ℕ) (allowed : A → Bool) → IsField item spell allowed → (n : ℕ) (bytes : List ℕ) (x : List A × List ℕ) → IsBytes bytes → many_at item n bytes ≡ Some x
    → Takes bytes (flat_map spell x.0) x.1 × (length x.0 ≡ n) × (list_all allowed x.0 ≡ true)
unfolding many_at
many_takes {A = A} item spell allowed law zero bytes x fits e =
    subst (λ (y : List A × List ℕ). Takes bytes (flat_map spell y.0) y.1 × (length y.0 ≡ 0) × (list_all allowed y.0 ≡ true)) (some_is ([], bytes) x e) (record { parts = refl; rest_fits = fits }, refl, refl)
many_takes {A = A} item spell allowed law (suc n) bytes x fits e =
    let a = bind_ok (item bytes) (λ first. many_at item n first.1 >>= λ others. Some (first.0 ∷ others.0, others.1)) x e in
    let b = bind_ok (many_at item n a.0.1) (λ others. Some (a.0.0 ∷ others.0, others.1)) x a.2 in
    let first = law.takes bytes a.0 fits a.1 in
    let second = many_takes item spell allowed law n a.0.1 b.0 first.0.rest_fits b.1 in
    let both = Takes-then bytes (spell a.0.0) a.0.1 (flat_map spell b.0.0) b.0.1 first.0 second.0 in
    let made : List A × List ℕ = (a.0.0 ∷ b.0.0, b.0.1) in
    subst (λ (y : List A × List ℕ). Takes bytes (flat_map spell y.0) y.1 × (length y.0 ≡ suc n) × (list_all allowed y.0 ≡ true)) (some_is made x b.2)
    (rw flat_map-cons both, ap suc second.1, and_true (allowed a.0.0) (list_all allowed b.0.0) first.1 second.2)

pub many_again : {A : Type 0} (item : List ℕ → Option (A × List ℕ)) (spell : A → List ℕ) (allowed : A → Bool) → IsField item spell allowed → (xs : List A) (rest : List ℕ) → list_all allowed xs ≡ true → many_at item (length xs) (flat_map spell xs ++ rest) ≡ Some (xs, rest)
unfolding many_at
many_again item spell allowed law [] rest h = refl
many_again item spell allowed law (x ∷ xs) rest h =
    let p = both_true (allowed x) (list_all allowed xs) h in
    let regrouped : flat_map spell (x ∷ xs) ++ rest ≡ spell x ++ (flat_map spell xs ++ rest) = ap (λ (t : List ℕ). t ++ rest) (flat_map-cons spell x xs) ∙ append_assoc (spell x) (flat_map spell xs) rest in
    ap (many_at item (suc (length xs))) regrouped ∙ rw (law.again x (flat_map spell xs ++ rest) p.0, many_again item spell allowed law xs rest p.1) refl

pub name_field : IsField name_at counted is_name
name_field = record { takes = name_takes; again = name_again }

pub path_takes : (bytes : List ℕ) (x : List (List ℕ) × List ℕ) → IsBytes bytes → path_at bytes ≡ Some x → Takes bytes (path x.0) x.1 × (are_names x.0 ≡ true)
unfolding path_at
path_takes bytes x fits e =
    let a = bind_ok (byte_at bytes) (λ n. cond (ltb 8 n.0) None (names_at n.0 n.1)) x e in
    let g = guard_ok (ltb 8 a.0.0) (names_at a.0.0 a.0.1) x a.2 in
    let t0 = byte_takes bytes a.0 fits a.1 in
    let t1 = many_takes name_at counted is_name name_field a.0.0 a.0.1 x t0.0.rest_fits g.1 in
    let few : a.0.0 ≤ 8 = ltb-false _ _ g.0 in
    let few_is : leb (length x.0) 8 ≡ true = rw t1.1 (grind (arith, nat_tests, few)) in
    let both : Takes bytes (a.0.0 ∷ flat_map counted x.0) x.1 = Takes-then bytes (a.0.0 ∷ []) a.0.1 (flat_map counted x.0) x.1 t0.0 t1.0 in
    (subst (λ (k : ℕ). Takes bytes (k ∷ flat_map counted x.0) x.1) (sym t1.1) both, and_true (leb (length x.0) 8) (list_all is_name x.0) few_is t1.2)

leb_ltb : (a b : ℕ) → leb a b ≡ true → ltb b a ≡ false
leb_ltb a b h = grind (arith, nat_tests)

pub path_again : (names : List (List ℕ)) (rest : List ℕ) → are_names names ≡ true → path_at (path names ++ rest) ≡ Some (names, rest)
unfolding path_at
path_again names rest h =
    let p = both_true (leb (length names) 8) (list_all is_name names) h in
    rw (leb_ltb (length names) 8 p.0) (many_again name_at counted is_name name_field names rest p.1)
