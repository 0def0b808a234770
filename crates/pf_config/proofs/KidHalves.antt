-- An anchor is looked for by halves among those in the order of their names.
use Rattle.std.proofs.Common.{◌≡◌, ℕ, zero, suc, true, false, cond, List, [], ◌∷◌, ◌++◌, Some, None, take, drop, take-append-drop, refl, sym, subst, ap, ◌∙◌}
use Rattle.std.specs.declared.cmp.Ordering.TheVariants.{Less, Equal, Greater}
use Rattle.std.specs.declared.rc.Rc.{Rc}
use Rattle.std.specs.Prelude.{find, slice_get}
use Rattle.std.specs.Str.{bytes_eq}
use Rattle.std.specs.Ordering.{is_lt, is_eq, nat_cmp, ordering_reverse}
use Rattle.std.specs.Cmp.Lexicographic.{slice_cmp}
use Rattle.std.proofs.lemmas.Cmp.{nat_list_eq_equiv}
use Rattle.std.proofs.lemmas.Map.Lookups.{exact_bytes}
use Rattle.std.proofs.lemmas.Map.Text.{is_eq-slice_cmp}
use Rattle.pf_rules.specs.Names.{Name, is_before}
use Rattle.pf_config.specs.Map.{Path}
use Rattle.pf_config.specs.Trees.{AnchorTree, AreKids, shared, last_name}
use Rattle.pf_config.specs.inner.Trees.{is_named}
use Rattle.pf_config.specs.inner.KidOrder.{AreInOrder}
use Rattle.pf_config.proofs.Treed.{both_true, name_chain, before_other, kids_above, kids_above_chain, same_bytes}
use Rattle.pf_config.proofs.Ordered.{turned}

-- the anchors below an anchor stand so
pub kids_in_order : (p : Path) (ks : List AnchorTree) → AreKids p ks → AreInOrder ks
kids_in_order p [] h = tt
kids_in_order p (k ∷ ks) h = (h.1, kids_in_order p ks h.2)

find_append : (n : Name) (ks js : List AnchorTree) → find (is_named n) ks ≡ None → find (is_named n) (ks ++ js) ≡ find (is_named n) js
find_append n [] js h = refl
find_append n (k ∷ ks) js h = (elim (is_named n k) as (λ b. cond b (Some k) (find (is_named n) ks) ≡ None → cond b (Some k) (find (is_named n) (ks ++ js)) ≡ find (is_named n) js) [ true ↦ λ e. cc | false ↦ λ e. find_append n ks js e ]) h

none_in_front : (n : Name) (ks : List AnchorTree) (m : AnchorTree) (js : List AnchorTree) → AreInOrder (ks ++ m ∷ js) → ((x : Name) → is_before x (last_name m.names) ≡ true → is_before x n ≡ true) → find (is_named n) ks ≡ None
none_in_front n [] m js s h = refl
none_in_front n (k ∷ ks) m js s h = rw (before_other (last_name k.names) n (h (last_name k.names) (at_end ks s.0))) (none_in_front n ks m js s.1 h)
  where
    at_end : (ks : List AnchorTree) → kids_above (last_name k.names) (ks ++ m ∷ js) ≡ true → is_before (last_name k.names) (last_name m.names) ≡ true
    at_end [] e = (both_true (is_before (last_name k.names) (last_name m.names)) (kids_above (last_name k.names) js) e).0
    at_end (x ∷ ks) e = at_end ks (both_true (is_before (last_name k.names) (last_name x.names)) (kids_above (last_name k.names) (ks ++ m ∷ js)) e).1

none_above : (n : Name) (ks : List AnchorTree) → kids_above n ks ≡ true → find (is_named n) ks ≡ None
none_above n [] h = refl
none_above n (k ∷ ks) h =
    let both = both_true (is_before n (last_name k.names)) (kids_above n ks) h in
    let o : bytes_eq (last_name k.names) n ≡ false = nat_list_eq_equiv.symm (last_name k.names) n ∙ before_other n (last_name k.names) both.0 in
    rw o (none_above n ks both.1)

pub order_back : (ks js : List AnchorTree) → AreInOrder (ks ++ js) → AreInOrder js
order_back [] js s = s
order_back (k ∷ ks) js s = order_back ks js s.1

pub order_front : (ks js : List AnchorTree) → AreInOrder (ks ++ js) → AreInOrder ks
order_front [] js s = tt
order_front (k ∷ ks) js s = (front (last_name k.names) ks s.0, order_front ks js s.1)
  where
    front : (m : Name) (ks : List AnchorTree) → kids_above m (ks ++ js) ≡ true → kids_above m ks ≡ true
    front m [] h = refl
    front m (x ∷ ks) h = let both = both_true (is_before m (last_name x.names)) (kids_above m (ks ++ js)) h in rw both.0 (front m ks both.1)

found_behind : (n : Name) (ks : List AnchorTree) (m : AnchorTree) (js : List AnchorTree) → AreInOrder (ks ++ m ∷ js) → slice_cmp nat_cmp (last_name m.names) n ≡ Less → find (is_named n) (ks ++ m ∷ js) ≡ find (is_named n) js
found_behind n ks m js s o = find_append n ks (m ∷ js) (none_in_front n ks m js s (λ x k. name_chain x (last_name m.names) n k (ap is_lt o))) ∙ rw (before_other (last_name m.names) n (ap is_lt o)) refl

stays : (n : Name) (ks js : List AnchorTree) → find (is_named n) js ≡ None → find (is_named n) (ks ++ js) ≡ find (is_named n) ks
stays n [] js h = h
stays n (k ∷ ks) js h = elim (is_named n k) as (λ b. cond b (Some k) (find (is_named n) (ks ++ js)) ≡ cond b (Some k) (find (is_named n) ks)) [ true ↦ refl | false ↦ stays n ks js h ]

found_in_front : (n : Name) (ks : List AnchorTree) (m : AnchorTree) (js : List AnchorTree) → AreInOrder (ks ++ m ∷ js) → slice_cmp nat_cmp (last_name m.names) n ≡ Greater → find (is_named n) (ks ++ m ∷ js) ≡ find (is_named n) ks
found_in_front n ks m js s o =
    let k : is_before n (last_name m.names) ≡ true = ap is_lt (turned (last_name m.names) n ∙ ap ordering_reverse o) in
    let b = order_back ks (m ∷ js) s in
    stays n ks (m ∷ js) (none_above n (m ∷ js) (rw k (kids_above_chain n (last_name m.names) js k b.0)))

found_here : (n : Name) (ks : List AnchorTree) (m : AnchorTree) (js : List AnchorTree) → AreInOrder (ks ++ m ∷ js) → slice_cmp nat_cmp (last_name m.names) n ≡ Equal → find (is_named n) (ks ++ m ∷ js) ≡ Some m
found_here n ks m js s o =
    let e : bytes_eq (last_name m.names) n ≡ true = sym (is_eq-slice_cmp (last_name m.names) n) ∙ ap is_eq o in
    find_append n ks (m ∷ js) (none_in_front n ks m js s (λ x k. subst (λ (y : Name). is_before x y ≡ true) (exact_bytes (last_name m.names) n o) k)) ∙ rw e refl

-- one half of the anchors is left
pub record KidHalves (n : Name) (ks front : List AnchorTree) (m : AnchorTree) (behind : List AnchorTree) : Type 0 where
  pub here : slice_cmp nat_cmp (last_name m.names) n ≡ Equal → find (is_named n) ks ≡ Some m
  pub back : slice_cmp nat_cmp (last_name m.names) n ≡ Less → find (is_named n) ks ≡ find (is_named n) behind
  pub first : slice_cmp nat_cmp (last_name m.names) n ≡ Greater → find (is_named n) ks ≡ find (is_named n) front
  pub in_order_behind : AreInOrder behind
  pub in_order_first : AreInOrder front

pub shared_append : {Z : Type 0} (ks js : List (Rc AnchorTree Z)) → shared (ks ++ js) ≡ shared ks ++ shared js
shared_append [] js = refl
shared_append (k ∷ ks) js = ap (λ (r : List AnchorTree). k.value ∷ r) (shared_append ks js)

pub kid_halves : {Z : Type 0} (n : Name) (i : ℕ) (ks : List (Rc AnchorTree Z)) (m : Rc AnchorTree Z) (behind : List (Rc AnchorTree Z)) → AreInOrder (shared ks) → drop i ks ≡ m ∷ behind → KidHalves n (shared ks) (shared (take i ks)) m.value (shared behind)
kid_halves {Z} n i ks m behind s h =
    let front = shared (take i ks) in
    let e : front ++ m.value ∷ shared behind ≡ shared ks = sym (shared_append (take i ks) (m ∷ behind)) ∙ ap (λ r. shared (take i ks ++ r)) (sym h) ∙ ap shared (take-append-drop i ks) in
    let t : AreInOrder (front ++ m.value ∷ shared behind) = subst AreInOrder (sym e) s in
    record {
      here = λ o. subst (λ r. find (is_named n) r ≡ Some m.value) e (found_here n front m.value (shared behind) t o);
      back = λ o. subst (λ r. find (is_named n) r ≡ find (is_named n) (shared behind)) e (found_behind n front m.value (shared behind) t o);
      first = λ o. subst (λ r. find (is_named n) r ≡ find (is_named n) front) e (found_in_front n front m.value (shared behind) t o);
      in_order_behind = (order_back front (m.value ∷ shared behind) t).1;
      in_order_first = order_front front (m.value ∷ shared behind) t;
    }

-- ---- each of them is found by its name

got : (x k : AnchorTree) → Some x ≡ Some k → x ≡ k
got x k h = cc

above_at : (n : Name) (ks : List AnchorTree) (i : ℕ) (k : AnchorTree) → kids_above n ks ≡ true → slice_get ks i ≡ Some k → is_before n (last_name k.names) ≡ true
above_at n [] i k h g = cc
above_at n (x ∷ ks) zero k h g = subst (λ (t : AnchorTree). is_before n (last_name t.names) ≡ true) (got x k g) (both_true (is_before n (last_name x.names)) (kids_above n ks) h).0
above_at n (x ∷ ks) (suc i) k h g = above_at n ks i k (both_true (is_before n (last_name x.names)) (kids_above n ks) h).1 g

pub kid_found : (ks : List AnchorTree) (i : ℕ) (k : AnchorTree) → AreInOrder ks → slice_get ks i ≡ Some k → find (is_named (last_name k.names)) ks ≡ Some k
kid_found [] i k s g = cc
kid_found (x ∷ ks) zero k s g = subst (λ (t : AnchorTree). find (is_named (last_name t.names)) (x ∷ ks) ≡ Some t) (got x k g) (rw (same_bytes (last_name x.names)) refl)
kid_found (x ∷ ks) (suc i) k s g = rw (before_other (last_name x.names) (last_name k.names) (above_at (last_name x.names) ks i k s.0 g)) (kid_found ks i k s.1 g)
