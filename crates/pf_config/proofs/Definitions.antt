-- Tables are defined in any order that leaves those of each name in theirs.
use Rattle.std.proofs.Common.{◌≡◌, Bool, true, false, cond, List, [], ◌∷◌, Option, None, Some, map, refl, sym, subst, ap, ap₂, ◌∙◌}
use Rattle.std.specs.Prelude.{fold, filter, not, ◌&&◌}
use Rattle.std.specs.Str.{bytes_eq}
use Rattle.std.specs.Cmp.{IsStrictWeakOrder}
use Rattle.std.specs.List.Sorted.{IsStableBy, ties}
use Rattle.std.proofs.lemmas.Cmp.{nat_list_cmp_total, nat_list_eq_equiv}
use Rattle.std.proofs.lemmas.List.MinMax.{ranks_by}
use Rattle.pf_rules.specs.Names.{Name, is_before}
use Rattle.pf_tables.specs.Tables.{TableValue}
use Rattle.pf_config.specs.Map.{named}
use Rattle.pf_config.specs.Changes.{Definition, entries_in, listed, defined, defined_table, with_table}
use Rattle.pf_config.specs.Ordered.{AreOrdered}
use Rattle.pf_config.specs.inner.Texts.{of_name}
use Rattle.pf_config.proofs.Treed.{bytes_same, before_other, never}
use Rattle.pf_config.proofs.Ordered.{above, above_chain, none_above, put, with_is_put, ordered_with, same}

-- ---- one table takes its place

itself : (n : Name) → bytes_eq n n ≡ true
itself n = nat_list_eq_equiv.refl n

-- what is found of a name afterwards
abbrev after : Name → Name → TableValue → Option TableValue → Option TableValue
after n m v o = cond (bytes_eq m n) (Some v) o

named_put : (n m : Name) (v : TableValue) (ts : List (Name × TableValue)) → named n (put ts m v) ≡ after n m v (named n ts)
named_put n m v [] = refl
named_put n m v (t ∷ ts) =
    (elim (is_before t.0 m) as (λ b. is_before t.0 m ≡ b → named n (cond b (t ∷ put ts m v) (cond (is_before m t.0) ((m, v) ∷ t ∷ ts) ((m, v) ∷ ts))) ≡ after n m v (named n (t ∷ ts))) [
      | true ↦ λ h. (elim (bytes_eq t.0 n) as (λ b. bytes_eq t.0 n ≡ b → cond b (Some t.1) (named n (put ts m v)) ≡ after n m v (cond b (Some t.1) (named n ts))) [
        | true ↦ λ e. (let o : bytes_eq m n ≡ false = subst (λ (x : Name). bytes_eq m x ≡ false) (bytes_same t.0 n e) (nat_list_eq_equiv.symm m t.0 ∙ before_other t.0 m h) in rw o refl)
        | false ↦ λ e. named_put n m v ts
      ]) refl
      | false ↦ λ h. (elim (is_before m t.0) as (λ b. is_before m t.0 ≡ b → named n (cond b ((m, v) ∷ t ∷ ts) ((m, v) ∷ ts)) ≡ after n m v (named n (t ∷ ts))) [
        | true ↦ λ k. refl
        | false ↦ λ k. subst (λ (x : Name). after n m v (named n ts) ≡ after n m v (cond (bytes_eq x n) (Some t.1) (named n ts))) (sym (same t.0 m h k)) (over (bytes_eq m n) (named n ts) t.1 v)
      ]) refl
    ]) refl
  where
    over : (b : Bool) (o : Option TableValue) (w v : TableValue) → cond b (Some v) o ≡ cond b (Some v) (cond b (Some w) o)
    over true o w v = refl
    over false o w v = refl

named_with : (n m : Name) (v : TableValue) (ts : List (Name × TableValue)) → AreOrdered ts → named n (with_table ts m v) ≡ after n m v (named n ts)
named_with n m v ts s = ap (named n) (with_is_put ts m v s) ∙ named_put n m v ts

-- ---- tables in order are known by what is found

found_first : (n : Name) (v : TableValue) (ts : List (Name × TableValue)) → named n ((n, v) ∷ ts) ≡ Some v
found_first n v ts = rw (itself n) refl

none_first : (n : Name) (t : Name × TableValue) (ts : List (Name × TableValue)) → AreOrdered (t ∷ ts) → is_before n t.0 ≡ true → named n (t ∷ ts) ≡ None
none_first n t ts s h = none_above n (t ∷ ts) (rw h (above_chain n t.0 ts h s.0))

pub found_alike : (xs ys : List (Name × TableValue)) → AreOrdered xs → AreOrdered ys → ((n : Name) → named n xs ≡ named n ys) → xs ≡ ys
found_alike [] [] s u h = refl
found_alike [] (y ∷ ys) s u h = let bad : None ≡ Some y.1 = h y.0 ∙ found_first y.0 y.1 ys in absurd (cc)
found_alike (x ∷ xs) [] s u h = let bad : None ≡ Some x.1 = sym (h x.0) ∙ found_first x.0 x.1 xs in absurd (cc)
found_alike (x ∷ xs) (y ∷ ys) s u h =
    (elim (is_before x.0 y.0) as (λ b. is_before x.0 y.0 ≡ b → x ∷ xs ≡ y ∷ ys) [
      | true ↦ λ k. (let bad : Some x.1 ≡ None = sym (found_first x.0 x.1 xs) ∙ h x.0 ∙ none_first x.0 y ys u k in cc)
      | false ↦ λ k. (elim (is_before y.0 x.0) as (λ b. is_before y.0 x.0 ≡ b → x ∷ xs ≡ y ∷ ys) [
        | true ↦ λ l. (let bad : Some y.1 ≡ None = sym (found_first y.0 y.1 ys) ∙ sym (h y.0) ∙ none_first y.0 x xs s l in cc)
        | false ↦ λ l. alike (λ e. found_alike xs ys s.1 u.1 (λ n. rest e n (bytes_eq x.0 n) refl)) (same x.0 y.0 k l)
      ]) refl
    ]) refl
  where
    value : (o p : Option TableValue) (v w : TableValue) → o ≡ Some v → p ≡ Some w → o ≡ p → v ≡ w
    value o p v w a b e = cc

    step : (n : Name) (b c : Bool) → b ≡ false → c ≡ false → cond b (Some x.1) (named n xs) ≡ cond c (Some y.1) (named n ys) → named n xs ≡ named n ys
    step n true c k l g = cc
    step n false true k l g = cc
    step n false false k l g = g

    rest : x.0 ≡ y.0 → (n : Name) (b : Bool) → bytes_eq x.0 n ≡ b → named n xs ≡ named n ys
    rest e n true k =
        let is : x.0 ≡ n = bytes_same x.0 n k in
        subst (λ (m : Name). named m xs ≡ None) is (none_above x.0 xs s.0) ∙ sym (subst (λ (m : Name). named m ys ≡ None) (sym e ∙ is) (none_above y.0 ys u.0))
    rest e n false k = step n (bytes_eq x.0 n) (bytes_eq y.0 n) k (subst (λ (m : Name). bytes_eq m n ≡ false) e k) (h n)

    first : x.0 ≡ y.0 → x ≡ y
    first e = ap₂ (λ (n : Name) (v : TableValue). (n, v)) e (value (named x.0 (x ∷ xs)) (named x.0 (y ∷ ys)) x.1 y.1 (found_first x.0 x.1 xs) (subst (λ (n : Name). named n (y ∷ ys) ≡ Some y.1) (sym e) (found_first y.0 y.1 ys)) (h x.0))

    alike : (x.0 ≡ y.0 → xs ≡ ys) → x.0 ≡ y.0 → x ∷ xs ≡ y ∷ ys
    alike tail e = ap₂ (λ (t : Name × TableValue) (ts : List (Name × TableValue)). t ∷ ts) (first e) (tail e)

-- ---- definitions

ordered_all : (ts : List (Name × TableValue)) (ds : List Definition) → AreOrdered ts → AreOrdered (fold defined ts ds)
ordered_all ts [] s = s
ordered_all ts (d ∷ ds) s = ordered_all (defined ts d) ds (ordered_with ts d.name (defined_table ts d) s)

-- what a definition leaves of what was found of its name
abbrev left : Option TableValue → Definition → Option TableValue
left o d = Some (record { persist = d.persist; is_const = d.is_const; entries = listed d.entries (entries_in o) })

named_all : (n : Name) (ts : List (Name × TableValue)) (ds : List Definition) → AreOrdered ts → named n (fold defined ts ds) ≡ fold left (named n ts) (of_name n ds)
named_all n ts [] s = refl
named_all n ts (d ∷ ds) s =
    named_all n (defined ts d) ds (ordered_with ts d.name (defined_table ts d) s) ∙ ap (λ o. fold left o (of_name n ds)) (named_with n d.name (defined_table ts d) ts s) ∙
    (elim (bytes_eq d.name n) as (λ b. bytes_eq d.name n ≡ b → fold left (cond b (Some (defined_table ts d)) (named n ts)) (of_name n ds) ≡ fold left (named n ts) (cond b (d ∷ of_name n ds) (of_name n ds))) [
      | true ↦ λ k. ap (λ (m : Name). fold left (left (named m ts) d) (of_name n ds)) (bytes_same d.name n k)
      | false ↦ λ k. refl
    ]) refl

pub in_any_order : (ts : List (Name × TableValue)) (ds es : List Definition) → AreOrdered ts → ((n : Name) → of_name n ds ≡ of_name n es) → fold defined ts ds ≡ fold defined ts es
in_any_order ts ds es s h = found_alike (fold defined ts ds) (fold defined ts es) (ordered_all ts ds s) (ordered_all ts es s) (λ n. named_all n ts ds s ∙ ap (fold left (named n ts)) (h n) ∙ sym (named_all n ts es s))

-- ---- sorting leaves those of each name in their order

pub ranks : {X : Type 0} (name : X → Name) → IsStrictWeakOrder (λ (x y : X). is_before (name x) (name y))
ranks name = ranks_by nat_list_cmp_total name

tied : (a b n : Name) → a ≡ n → (not (is_before a b) && not (is_before b a)) ≡ bytes_eq b n
tied a b n e = subst (λ (m : Name). (not (is_before a b) && not (is_before b a)) ≡ bytes_eq b m) e (go (is_before a b) (is_before b a) refl refl)
  where
    go : (p q : Bool) → is_before a b ≡ p → is_before b a ≡ q → (not p && not q) ≡ bytes_eq b a
    go true q h k = sym (nat_list_eq_equiv.symm b a ∙ before_other a b h)
    go false true h k = sym (before_other b a k)
    go false false h k = sym (subst (λ (m : Name). bytes_eq m a ≡ true) (same a b h k) (itself a))

alike_filter : {X : Type 0} (p q : X → Bool) (xs : List X) → ((x : X) → p x ≡ q x) → filter p xs ≡ filter q xs
alike_filter p q [] h = refl
alike_filter {X} p q (x ∷ xs) h = ap₂ (λ (b : Bool) (ys : List X). cond b (x ∷ ys) ys) (h x) (alike_filter p q xs h)

mapped : {X : Type 0} (name : X → Name) (definition : X → Definition) → ((x : X) → (definition x).name ≡ name x) → (n : Name) (xs : List X) → of_name n (map definition xs) ≡ map definition (filter (λ (x : X). bytes_eq (name x) n) xs)
mapped name definition h n [] = refl
mapped {X} name definition h n (x ∷ xs) =
    ap₂ (λ (m : Name) (ys : List Definition). cond (bytes_eq m n) (definition x ∷ ys) ys) (h x) (mapped name definition h n xs) ∙ over (bytes_eq (name x) n) (filter (λ (y : X). bytes_eq (name y) n) xs)
  where
    over : (b : Bool) (ys : List X) → cond b (definition x ∷ map definition ys) (map definition ys) ≡ map definition (cond b (x ∷ ys) ys)
    over true ys = refl
    over false ys = refl

-- the first that passes does
first_passes : {X : Type 0} (p : X → Bool) (xs : List X) (y : X) (ys : List X) → filter p xs ≡ y ∷ ys → p y ≡ true
first_passes p [] y ys h = cc
first_passes {X} p (x ∷ xs) y ys h = go (first_passes p xs y ys) (p x) refl h
  where
    go : (filter p xs ≡ y ∷ ys → p y ≡ true) → (b : Bool) → p x ≡ b → cond b (x ∷ filter p xs) (filter p xs) ≡ y ∷ ys → p y ≡ true
    go later true k g = let e : x ≡ y = cc in subst (λ (z : X). p z ≡ true) e k
    go later false k g = later g

-- it has that name
abbrev has_name : {X : Type 0} → (X → Name) → Name → X → Bool
has_name name n x = bytes_eq (name x) n

stays : {X : Type 0} (name : X → Name) (old new : List X) → IsStableBy (λ (x y : X). is_before (name x) (name y)) old new → (n : Name) → filter (has_name name n) new ≡ filter (has_name name n) old
stays {X} name old new stable n = go (filter (has_name name n) new) (filter (has_name name n) old) refl refl
  where
    by : (x : X) → has_name name n x ≡ true → filter (has_name name n) new ≡ filter (has_name name n) old
    by x e =
        let each : (y : X) → ties (λ (a b : X). is_before (name a) (name b)) x y ≡ has_name name n y = λ y. tied (name x) (name y) n (bytes_same (name x) n e) in
        sym (alike_filter (ties (λ (a b : X). is_before (name a) (name b)) x) (has_name name n) new each) ∙ stable x ∙ alike_filter (ties (λ (a b : X). is_before (name a) (name b)) x) (has_name name n) old each

    go : (xs ys : List X) → filter (has_name name n) new ≡ xs → filter (has_name name n) old ≡ ys → filter (has_name name n) new ≡ filter (has_name name n) old
    go [] [] a b = a ∙ sym b
    go (x ∷ xs) ys a b = by x (first_passes (has_name name n) new x xs a)
    go [] (y ∷ ys) a b = by y (first_passes (has_name name n) old y ys b)

pub stable_names : {X : Type 0} (name : X → Name) (definition : X → Definition) → ((x : X) → (definition x).name ≡ name x) → (old new : List X) → IsStableBy (λ (x y : X). is_before (name x) (name y)) old new → (n : Name) → of_name n (map definition new) ≡ of_name n (map definition old)
stable_names name definition h old new stable n = mapped name definition h n new ∙ ap (map definition) (stays name old new stable n) ∙ sym (mapped name definition h n old)
