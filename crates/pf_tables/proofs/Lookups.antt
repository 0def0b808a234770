-- Entries in order, and what is found among them.
use Rattle.std.proofs.Common.{◌≡◌, ℕ, Bool, true, false, ◌&&◌, ◌||◌, cond, List, [], ◌∷◌, ◌++◌, Option, Some, None, length, take, drop, refl, sym, subst, ap, ◌∙◌, arith, take-append-drop, take_all, drop-cons, length-drop, get_or, ◌-◌, ◌≤◌}
use Rattle.std.specs.declared.cmp.Ordering.TheVariants.{Less, Equal, Greater}
use Rattle.std.specs.Prelude.{if◌then◌else◌, filter, not}
use Rattle.std.specs.List.{list_all, list_any}
use Rattle.std.specs.Ordering.{is_lt, is_eq}
use Rattle.pf_addr.specs.Blocks.{Block}
use Rattle.pf_rules.specs.declared.ruleset.TableEntry.{TableEntry}
use Rattle.pf_tables.specs.Tables.{bool_eq}
use Rattle.pf_tables.specs.inner.Tables.{or_else}
use Rattle.pf_tables.specs.Contents.{is_prefix, entries_before, entries_behind, put_entry, with_entries, same_entry}
use Rattle.pf_tables.specs.Contents.{unlisted}
use Rattle.pf_tables.specs.inner.Contents.{entry_at, has_sign}
use Rattle.pf_addr.specs.Order.{prefix_cmp}
use Rattle.pf_tables.specs.Parts.{IsOrdered}
use Rattle.pf_addr.proofs.Order.{total, is_less, is_equal, never, itself, chain, turned, turned_less, same}

pub both_true : (a b : Bool) → (a && b) ≡ true → (a ≡ true) × (b ≡ true)
both_true true true h = (refl, refl)
both_true true false h = cc
both_true false b h = cc

-- all are behind the prefix
abbrev pub above : Block → List TableEntry → Bool
above p es = list_all (λ (f : TableEntry). is_lt (prefix_cmp p f.prefix)) es

-- a prefix before another is before what is behind that one
pub above_chain : (p q : Block) (es : List TableEntry) → is_lt (prefix_cmp p q) ≡ true → above q es ≡ true → above p es ≡ true
above_chain p q [] h k = refl
above_chain p q (e ∷ es) h k = let both = both_true (is_lt (prefix_cmp q e.prefix)) (above q es) k in rw (chain p q e.prefix h both.0) (above_chain p q es h both.1)

-- what is behind the prefix is another one
pub less_other : (p q : Block) → is_lt (prefix_cmp p q) ≡ true → is_eq (prefix_cmp q p) ≡ false
less_other p q h = ap is_eq (turned_less p q (is_less _ h))

-- the prefix isn't among those behind it
pub none_above : (p : Block) (es : List TableEntry) → above p es ≡ true → entry_at p es ≡ None
none_above p [] h = refl
none_above p (e ∷ es) h = let both = both_true (is_lt (prefix_cmp p e.prefix)) (above p es) h in rw (less_other p e.prefix both.0) (none_above p es both.1)

pub no_any_above : (p : Block) (es : List TableEntry) → above p es ≡ true → list_any (is_prefix p) es ≡ false
no_any_above p [] h = refl
no_any_above p (e ∷ es) h = let both = both_true (is_lt (prefix_cmp p e.prefix)) (above p es) h in rw (less_other p e.prefix both.0) (no_any_above p es both.1)

-- ---- two lists in order that answer alike are one list

some_same : {X : Type 0} (x y : X) → Some x ≡ Some y → x ≡ y
some_same x y h = cc

head_at : (e : TableEntry) (es : List TableEntry) → entry_at e.prefix (e ∷ es) ≡ Some e
head_at e es = rw (itself e.prefix) refl

-- a prefix that isn't the first one is looked for behind it
behind_head : (p : Block) (e : TableEntry) (es : List TableEntry) → is_eq (prefix_cmp e.prefix p) ≡ false → entry_at p (e ∷ es) ≡ entry_at p es
behind_head p e es h = rw h refl

abbrev Alike : List TableEntry → List TableEntry → Type 0
Alike es fs = (p : Block) → entry_at p es ≡ entry_at p fs

tails_alike : (e : TableEntry) (es fs : List TableEntry) → above e.prefix es ≡ true → above e.prefix fs ≡ true → Alike (e ∷ es) (e ∷ fs) → Alike es fs
tails_alike e es fs h k a p =
    (elim (is_eq (prefix_cmp e.prefix p)) as (λ b. is_eq (prefix_cmp e.prefix p) ≡ b → entry_at p es ≡ entry_at p fs) [
      | true ↦ λ t. let s : e.prefix ≡ p = same e.prefix p (is_equal _ t) in subst (λ q. entry_at q es ≡ entry_at q fs) s (none_above e.prefix es h ∙ sym (none_above e.prefix fs k))
      | false ↦ λ t. sym (behind_head p e es t) ∙ a p ∙ behind_head p e fs t
    ]) refl

pub one_list : (es fs : List TableEntry) → IsOrdered es → IsOrdered fs → ((p : Block) → entry_at p es ≡ entry_at p fs) → es ≡ fs
one_list [] [] s t a = refl
one_list [] (f ∷ fs) s t a = let g : None ≡ Some f = a f.prefix ∙ head_at f fs in cc
one_list (e ∷ es) [] s t a = let g : Some e ≡ None = sym (head_at e es) ∙ a e.prefix in cc
one_list (e ∷ es) (f ∷ fs) s t a =
    (elim (prefix_cmp e.prefix f.prefix) as (λ o. prefix_cmp e.prefix f.prefix ≡ o → (e ∷ es) ≡ (f ∷ fs)) [
      | Less ↦ λ o. let g : Some e ≡ None = sym (head_at e es) ∙ a e.prefix ∙ none_above e.prefix (f ∷ fs) (rw o (above_chain e.prefix f.prefix fs (ap is_lt o) t.0)) in cc
      | Greater ↦ λ o. let g : None ≡ Some f = sym (none_above f.prefix (e ∷ es) (rw (turned e.prefix f.prefix o) (above_chain f.prefix e.prefix es (ap is_lt (turned e.prefix f.prefix o)) s.0))) ∙ a f.prefix ∙ head_at f fs in cc
      | Equal ↦ λ o.
          let p : e.prefix ≡ f.prefix = same e.prefix f.prefix o in
          let g : Some e ≡ Some f = sym (head_at e es) ∙ a e.prefix ∙ subst (λ q. entry_at q (f ∷ fs) ≡ Some f) (sym p) (head_at f fs) in
          let same_entry : e ≡ f = some_same e f g in
          let k : above e.prefix fs ≡ true = subst (λ q. above q fs ≡ true) (sym p) t.0 in
          let a' : Alike (e ∷ es) (e ∷ fs) = subst (λ x. Alike (e ∷ es) (x ∷ fs)) (sym same_entry) a in
          let rest : es ≡ fs = one_list es fs s.1 t.1 (tails_alike e es fs s.0 k a') in
          cc
    ]) refl

-- ---- what is put in

pub or_else_chain : {X : Type 0} (a b c : Option X) → or_else (or_else a b) c ≡ or_else a (or_else b c)
or_else_chain None b c = refl
or_else_chain (Some x) b c = refl

pub or_none : {X : Type 0} (a : Option X) → or_else a None ≡ a
or_none None = refl
or_none (Some x) = refl

pub at_append : (p : Block) (es fs : List TableEntry) → entry_at p (es ++ fs) ≡ or_else (entry_at p es) (entry_at p fs)
at_append p [] fs = refl
at_append p (e ∷ es) fs = elim (is_eq (prefix_cmp e.prefix p)) as (λ b. cond b (Some e) (entry_at p (es ++ fs)) ≡ or_else (cond b (Some e) (entry_at p es)) (entry_at p fs)) [ true ↦ refl | false ↦ at_append p es fs ]

-- the prefix is looked for among the entries that a test keeps, which it does or doesn't keep
at_filter : (p : Block) (test : TableEntry → Bool) (kept : Bool) → ((e : TableEntry) → is_eq (prefix_cmp e.prefix p) ≡ true → test e ≡ kept) → (es : List TableEntry) → entry_at p (filter test es) ≡ (if kept then entry_at p es else None)
at_filter p test true h [] = refl
at_filter p test false h [] = refl
at_filter p test true h (e ∷ es) =
    (elim (is_eq (prefix_cmp e.prefix p)) as (λ b. is_eq (prefix_cmp e.prefix p) ≡ b → entry_at p (filter test (e ∷ es)) ≡ cond b (Some e) (entry_at p es)) [
      | true ↦ λ t. rw (h e t, t) refl
      | false ↦ λ t. elim (test e) as (λ k. entry_at p (cond k (e ∷ filter test es) (filter test es)) ≡ entry_at p es) [ true ↦ rw t (at_filter p test true h es) | false ↦ at_filter p test true h es ]
    ]) refl
at_filter p test false h (e ∷ es) =
    (elim (is_eq (prefix_cmp e.prefix p)) as (λ b. is_eq (prefix_cmp e.prefix p) ≡ b → entry_at p (filter test (e ∷ es)) ≡ None) [
      | true ↦ λ t. rw (h e t) (at_filter p test false h es)
      | false ↦ λ t. elim (test e) as (λ k. entry_at p (cond k (e ∷ filter test es) (filter test es)) ≡ None) [ true ↦ rw t (at_filter p test false h es) | false ↦ at_filter p test false h es ]
    ]) refl

alike_left : (e : TableEntry) (p q : Block) → is_eq (prefix_cmp e.prefix p) ≡ true → prefix_cmp e.prefix q ≡ prefix_cmp p q
alike_left e p q h = total.congr e.prefix p q (is_equal _ h)

at_before : (p q : Block) (es : List TableEntry) → entry_at p (entries_before q es) ≡ (if is_lt (prefix_cmp p q) then entry_at p es else None)
at_before p q es = at_filter p (λ (e : TableEntry). is_lt (prefix_cmp e.prefix q)) (is_lt (prefix_cmp p q)) (λ e h. ap is_lt (alike_left e p q h)) es

at_behind : (p q : Block) (es : List TableEntry) → entry_at p (entries_behind q es) ≡ (if is_lt (prefix_cmp q p) then entry_at p es else None)
at_behind p q es = at_filter p (λ (e : TableEntry). is_lt (prefix_cmp q e.prefix)) (is_lt (prefix_cmp q p)) (λ e h. let s : e.prefix ≡ p = same e.prefix p (is_equal _ h) in ap (λ r. is_lt (prefix_cmp q r)) s) es

-- there is one of that prefix exactly where one is found
pub any_at : (p : Block) (es : List TableEntry) → list_any (is_prefix p) es ≡ true → (f : Option TableEntry) → or_else (entry_at p es) f ≡ entry_at p es
any_at p [] h f = cc
any_at p (e ∷ es) h f = (elim (is_eq (prefix_cmp e.prefix p)) as (λ b. (b || list_any (is_prefix p) es) ≡ true → or_else (cond b (Some e) (entry_at p es)) f ≡ cond b (Some e) (entry_at p es)) [ true ↦ λ k. refl | false ↦ λ k. any_at p es k f ]) h

pub none_at : (p : Block) (es : List TableEntry) → list_any (is_prefix p) es ≡ false → entry_at p es ≡ None
none_at p [] h = refl
none_at p (e ∷ es) h = (elim (is_eq (prefix_cmp e.prefix p)) as (λ b. (b || list_any (is_prefix p) es) ≡ false → cond b (Some e) (entry_at p es) ≡ None) [ true ↦ λ k. cc | false ↦ λ k. none_at p es k ]) h

abbrev pub only : TableEntry → Block → Option TableEntry
only e p = if is_eq (prefix_cmp e.prefix p) then Some e else None

at_placed : (p : Block) (e : TableEntry) (es : List TableEntry) → list_any (is_prefix e.prefix) es ≡ false →
    entry_at p (entries_before e.prefix es ++ e ∷ entries_behind e.prefix es) ≡ or_else (entry_at p es) (only e p)
at_placed p e es h =
    at_append p (entries_before e.prefix es) (e ∷ entries_behind e.prefix es) ∙ rw (at_before p e.prefix es, at_behind p e.prefix es)
    ((elim (prefix_cmp e.prefix p) as (λ o. prefix_cmp e.prefix p ≡ o → or_else (if is_lt (prefix_cmp p e.prefix) then entry_at p es else None) (cond (is_eq o) (Some e) (if is_lt o then entry_at p es else None)) ≡ or_else (entry_at p es) (if is_eq o then Some e else None)) [
      | Less ↦ λ o. rw (turned_less e.prefix p o) (sym (or_none (entry_at p es)))
      | Equal ↦ λ o. let s : e.prefix ≡ p = same e.prefix p o in
          let n : entry_at p es ≡ None = subst (λ q. entry_at q es ≡ None) s (none_at e.prefix es h) in
          rw (n, ap (λ q. is_lt (prefix_cmp p q)) s, never p) refl
      | Greater ↦ λ o. rw (turned e.prefix p o) refl
    ]) refl)

pub at_put : (p : Block) (es : List TableEntry) (e : TableEntry) → entry_at p (put_entry es e) ≡ or_else (entry_at p es) (only e p)
at_put p es e =
    (elim (list_any (is_prefix e.prefix) es) as (λ b. list_any (is_prefix e.prefix) es ≡ b → entry_at p (if b then es else entries_before e.prefix es ++ e ∷ entries_behind e.prefix es) ≡ or_else (entry_at p es) (only e p)) [
      | true ↦ λ h. (elim (is_eq (prefix_cmp e.prefix p)) as (λ c. is_eq (prefix_cmp e.prefix p) ≡ c → entry_at p es ≡ or_else (entry_at p es) (if c then Some e else None)) [
        | true ↦ λ t. let s : e.prefix ≡ p = same e.prefix p (is_equal _ t) in sym (any_at p es (subst (λ q. list_any (is_prefix q) es ≡ true) s h) (Some e))
        | false ↦ λ t. sym (or_none (entry_at p es))
      ]) refl
      | false ↦ λ h. at_placed p e es h
    ]) refl

pub at_cons : (p : Block) (e : TableEntry) (es : List TableEntry) → or_else (only e p) (entry_at p es) ≡ entry_at p (e ∷ es)
at_cons p e es = elim (is_eq (prefix_cmp e.prefix p)) as (λ b. or_else (if b then Some e else None) (entry_at p es) ≡ cond b (Some e) (entry_at p es)) [ true ↦ refl | false ↦ refl ]

-- the entry of a prefix after entries were put in: its own, else the first one of them
pub at_with : (p : Block) (es more : List TableEntry) → entry_at p (with_entries es more) ≡ or_else (entry_at p es) (entry_at p more)
at_with p es [] = sym (or_none (entry_at p es))
at_with p es (e ∷ more) = at_with p (put_entry es e) more ∙ ap (λ f. or_else f (entry_at p more)) (at_put p es e) ∙ or_else_chain (entry_at p es) (only e p) (entry_at p more) ∙ ap (or_else (entry_at p es)) (at_cons p e more)

-- ---- what is put in stays in order

above_filter : (p : Block) (test : TableEntry → Bool) (es : List TableEntry) → above p es ≡ true → above p (filter test es) ≡ true
above_filter p test [] h = refl
above_filter p test (e ∷ es) h = let both = both_true (is_lt (prefix_cmp p e.prefix)) (above p es) h in elim (test e) as (λ k. above p (cond k (e ∷ filter test es) (filter test es)) ≡ true) [ true ↦ rw both.0 (above_filter p test es both.1) | false ↦ above_filter p test es both.1 ]

pub ordered_filter : (test : TableEntry → Bool) (es : List TableEntry) → IsOrdered es → IsOrdered (filter test es)
ordered_filter test [] s = tt
ordered_filter test (e ∷ es) s = elim (test e) as (λ k. IsOrdered (cond k (e ∷ filter test es) (filter test es))) [ true ↦ (above_filter e.prefix test es s.0, ordered_filter test es s.1) | false ↦ ordered_filter test es s.1 ]

above_behind : (p : Block) (es : List TableEntry) → above p (entries_behind p es) ≡ true
above_behind p [] = refl
above_behind p (e ∷ es) = (elim (is_lt (prefix_cmp p e.prefix)) as (λ b. is_lt (prefix_cmp p e.prefix) ≡ b → above p (cond b (e ∷ entries_behind p es) (entries_behind p es)) ≡ true) [ true ↦ λ h. rw h (above_behind p es) | false ↦ λ h. above_behind p es ]) refl

pub above_append : (p : Block) (es fs : List TableEntry) → above p es ≡ true → above p fs ≡ true → above p (es ++ fs) ≡ true
above_append p [] fs h k = k
above_append p (e ∷ es) fs h k = let both = both_true (is_lt (prefix_cmp p e.prefix)) (above p es) h in rw both.0 (above_append p es fs both.1 k)

-- what is before a prefix, the prefix, and what is behind it
ordered_around : (e : TableEntry) (es fs : List TableEntry) → IsOrdered es → IsOrdered fs → above e.prefix fs ≡ true → IsOrdered (entries_before e.prefix es ++ e ∷ fs)
ordered_around e [] fs s t h = (h, t)
ordered_around e (x ∷ es) fs s t h =
    (elim (is_lt (prefix_cmp x.prefix e.prefix)) as (λ b. is_lt (prefix_cmp x.prefix e.prefix) ≡ b → IsOrdered (cond b (x ∷ entries_before e.prefix es) (entries_before e.prefix es) ++ e ∷ fs)) [
      | true ↦ λ k. (above_append x.prefix (entries_before e.prefix es) (e ∷ fs) (above_filter x.prefix (λ (f : TableEntry). is_lt (prefix_cmp f.prefix e.prefix)) es s.0) (rw k (above_chain x.prefix e.prefix fs k h)), ordered_around e es fs s.1 t h)
      | false ↦ λ k. ordered_around e es fs s.1 t h
    ]) refl

pub ordered_put : (es : List TableEntry) (e : TableEntry) → IsOrdered es → IsOrdered (put_entry es e)
ordered_put es e s = elim (list_any (is_prefix e.prefix) es) as (λ b. IsOrdered (if b then es else entries_before e.prefix es ++ e ∷ entries_behind e.prefix es)) [ true ↦ s | false ↦ ordered_around e es (entries_behind e.prefix es) s (ordered_filter (λ (f : TableEntry). is_lt (prefix_cmp e.prefix f.prefix)) es s) (above_behind e.prefix es) ]

pub ordered_with : (es more : List TableEntry) → IsOrdered es → IsOrdered (with_entries es more)
ordered_with es [] s = s
ordered_with es (e ∷ more) s = ordered_with (put_entry es e) more (ordered_put es e s)

-- ---- parts of a list in order

pub above_parts : (p : Block) (es fs : List TableEntry) → above p (es ++ fs) ≡ true → (above p es ≡ true) × (above p fs ≡ true)
above_parts p [] fs h = (refl, h)
above_parts p (e ∷ es) fs h =
    let both = both_true (is_lt (prefix_cmp p e.prefix)) (above p (es ++ fs)) h in
    let parts = above_parts p es fs both.1 in
    (rw both.0 parts.0, parts.1)

pub ordered_front : (es fs : List TableEntry) → IsOrdered (es ++ fs) → IsOrdered es
ordered_front [] fs s = tt
ordered_front (e ∷ es) fs s = ((above_parts e.prefix es fs s.0).0, ordered_front es fs s.1)

pub ordered_back : (es fs : List TableEntry) → IsOrdered (es ++ fs) → IsOrdered fs
ordered_back [] fs s = s
ordered_back (e ∷ es) fs s = ordered_back es fs s.1

-- those in front of an entry that isn't behind the prefix are other ones
none_in_front : (p : Block) (es : List TableEntry) (m : TableEntry) (fs : List TableEntry) → IsOrdered (es ++ m ∷ fs) → ((x : TableEntry) → is_lt (prefix_cmp x.prefix m.prefix) ≡ true → is_lt (prefix_cmp x.prefix p) ≡ true) → entry_at p es ≡ None
none_in_front p [] m fs s h = refl
none_in_front p (e ∷ es) m fs s h =
    let parts = above_parts e.prefix es (m ∷ fs) s.0 in
    let here = both_true (is_lt (prefix_cmp e.prefix m.prefix)) (above e.prefix fs) parts.1 in
    rw (less_back e.prefix p (h e here.0)) (none_in_front p es m fs s.1 h)
  where
    less_back : (q r : Block) → is_lt (prefix_cmp q r) ≡ true → is_eq (prefix_cmp q r) ≡ false
    less_back q r k = ap is_eq (is_less _ k)

pub found_behind : (p : Block) (es : List TableEntry) (m : TableEntry) (fs : List TableEntry) → IsOrdered (es ++ m ∷ fs) → prefix_cmp m.prefix p ≡ Less → entry_at p (es ++ m ∷ fs) ≡ entry_at p fs
found_behind p es m fs s o =
    let n : entry_at p es ≡ None = none_in_front p es m fs s (λ x k. chain x.prefix m.prefix p k (ap is_lt o)) in
    at_append p es (m ∷ fs) ∙ rw (n, o) refl

pub found_in_front : (p : Block) (es : List TableEntry) (m : TableEntry) (fs : List TableEntry) → IsOrdered (es ++ m ∷ fs) → prefix_cmp m.prefix p ≡ Greater → entry_at p (es ++ m ∷ fs) ≡ entry_at p es
found_in_front p es m fs s o =
    let back : IsOrdered (m ∷ fs) = ordered_back es (m ∷ fs) s in
    let k : is_lt (prefix_cmp p m.prefix) ≡ true = ap is_lt (turned m.prefix p o) in
    let n : entry_at p (m ∷ fs) ≡ None = none_above p (m ∷ fs) (rw k (above_chain p m.prefix fs k back.0)) in
    at_append p es (m ∷ fs) ∙ rw n (or_none (entry_at p es))

pub found_here : (p : Block) (es : List TableEntry) (m : TableEntry) (fs : List TableEntry) → IsOrdered (es ++ m ∷ fs) → prefix_cmp m.prefix p ≡ Equal → entry_at p (es ++ m ∷ fs) ≡ Some m
found_here p es m fs s o =
    let q : m.prefix ≡ p = same m.prefix p o in
    let n : entry_at p es ≡ None = none_in_front p es m fs s (λ x k. subst (λ r. is_lt (prefix_cmp x.prefix r) ≡ true) q k) in
    at_append p es (m ∷ fs) ∙ rw (n, o) refl

-- a list cut in two
pub cut_at : (n : ℕ) (es : List TableEntry) (m : TableEntry) (fs : List TableEntry) → drop n es ≡ m ∷ fs → take n es ++ m ∷ fs ≡ es
cut_at n es m fs h = ap (λ r. take n es ++ r) (sym h) ∙ take-append-drop n es

-- one half of the entries is left
pub record Halves (p : Block) (es front : List TableEntry) (m : TableEntry) (behind : List TableEntry) : Type 0 where
  pub here : prefix_cmp m.prefix p ≡ Equal → entry_at p es ≡ Some m
  pub back : prefix_cmp m.prefix p ≡ Less → entry_at p es ≡ entry_at p behind
  pub first : prefix_cmp m.prefix p ≡ Greater → entry_at p es ≡ entry_at p front
  pub ordered_behind : IsOrdered behind
  pub ordered_first : IsOrdered front

pub halves : (p : Block) (n : ℕ) (es : List TableEntry) (m : TableEntry) (behind : List TableEntry) → IsOrdered es → drop n es ≡ m ∷ behind → Halves p es (take n es) m behind
halves p n es m behind s h =
    let e : take n es ++ m ∷ behind ≡ es = cut_at n es m behind h in
    let t : IsOrdered (take n es ++ m ∷ behind) = subst IsOrdered (sym e) s in
    record {
      here = λ o. subst (λ r. entry_at p r ≡ Some m) e (found_here p (take n es) m behind t o);
      back = λ o. subst (λ r. entry_at p r ≡ entry_at p behind) e (found_behind p (take n es) m behind t o);
      first = λ o. subst (λ r. entry_at p r ≡ entry_at p (take n es)) e (found_in_front p (take n es) m behind t o);
      ordered_behind = (ordered_back (take n es) (m ∷ behind) t).1;
      ordered_first = ordered_front (take n es) (m ∷ behind) t;
    }

-- ---- one of the same sign

pub same_at : (e : TableEntry) (es : List TableEntry) → IsOrdered es → list_any (same_entry e) es ≡ has_sign e.negated (entry_at e.prefix es)
same_at e [] s = refl
same_at e (f ∷ es) s =
    (elim (is_eq (prefix_cmp f.prefix e.prefix)) as (λ b. is_eq (prefix_cmp f.prefix e.prefix) ≡ b → ((b && bool_eq e.negated f.negated) || list_any (same_entry e) es) ≡ has_sign e.negated (cond b (Some f) (entry_at e.prefix es))) [
      | true ↦ λ t. let q : f.prefix ≡ e.prefix = same f.prefix e.prefix (is_equal _ t) in
          let n : entry_at e.prefix es ≡ None = none_above e.prefix es (subst (λ r. above r es ≡ true) q s.0) in
          rw (same_at e es s.1, n) (or_false (bool_eq e.negated f.negated))
      | false ↦ λ t. same_at e es s.1
    ]) refl
  where
    or_false : (b : Bool) → (b || false) ≡ b
    or_false true = refl
    or_false false = refl

pub ordered_unlisted : (es listed : List TableEntry) → IsOrdered es → IsOrdered (unlisted es listed)
ordered_unlisted es listed s = ordered_filter (λ (e : TableEntry). not (list_any (same_entry e) listed)) es s

-- a list that isn't empty is its first element and the rest
pub cons_is : {X : Type 0} (xs : List X) (x : X) → 1 ≤ length xs → x ≡ get_or xs 0 x → x ∷ take (length xs - 1) (drop 1 xs) ≡ xs
cons_is xs x h k = ap (λ r. x ∷ r) (take_all (length xs - 1) (drop 1 xs) (omega (arith, length-drop 1 xs))) ∙ ap (λ z. z ∷ drop 1 xs) k ∙ sym (drop-cons xs 0 x (omega (arith, h)))

pub none_found : (p : Block) (left es : List TableEntry) → length left ≡ 0 → entry_at p left ≡ entry_at p es → None ≡ entry_at p es
none_found p [] es h e = e
none_found p (x ∷ left) es h e = absurd (omega (arith, h))
