-- What is read as a whole entry is spelled so, and what is spelled so is read.
use Rattle.std.proofs.Common.{◌≡◌, ℕ, ◌^◌, ◌<◌, ◌≤◌, true, false, ltb, leb, eqb, List, [], ◌∷◌, ◌++◌, length, Some, refl, sym, ap, subst, ◌∙◌, append_assoc, arith, inl, inr}
use Rattle.std.specs.Prelude.{◌&&◌, not, IfOk, IsOkAnd, option_map, Result, Ok, Err}
use Rattle.std.specs.Result.{result_ok}
use Rattle.std.specs.Int.{w32, w64, to_be_bytes}
use Rattle.std.proofs.lemmas.Bool.{ltb-true, lt-ltb, leb-true, eqb-true}
use Rattle.std.proofs.lemmas.Bool.Decides.{nat_tests}
use Rattle.std.proofs.lemmas.List.{length-append, append-nil, nil_from_length}
use Rattle.pf_rules.specs.declared.profile.Profile.{Profile}
use Rattle.pf_rules.specs.declared.profile.Profile.TheVariants.{One, Two}
use Rattle.pf_entry.specs.Entry.{Address, Command, load, flush_rules, flush_tables, flush_all, add, delete, replace, flush_table, Entry, counted, path, addresses, format, kind, path_of, rest, spelling, is_table, is_origin, are_names, are_addresses, rest_fits, Fits, EntryBytes}
use Rattle.pf_entry.specs.Reading.{◌>>=◌, only, byte_at, number_at, text_at, table_at, path_at, list_at, load_at, change_at, add_at, delete_at, replace_at, flush_table_at, rest_at, command_at, asked_at, entry_at, reading}
use Rattle.pf_entry.proofs.Takes.{IsBytes, bind_ok, only_ok, guard_ok, chosen, some_is, both_true, and_true, Takes, Takes-then, byte_takes, wide32, wide64, number_takes, number_again, text_takes, text_again, table_takes, table_again, path_takes, path_again}
use Rattle.pf_entry.proofs.Entries.{list_takes, list_again}

-- the command that the rest spells, by format, kind and path
pub record IsRest (f k : ℕ) (p : List (List ℕ)) (c : Command) : Type 0 where
  pub format_is : format c ≡ f
  pub kind_is : kind c ≡ k
  pub path_is : path_of c ≡ p
  pub rest_is : rest_fits c ≡ true

abbrev Reads : ℕ → ℕ → List (List ℕ) → List ℕ → (Command × List ℕ) → Type 0
Reads f k p bytes y = Takes bytes (rest y.0) y.1 × IsRest f k p y.0

abbrev number_of : Profile → ℕ
number_of One = 1
number_of Two = 2

load_format : (p : List (List ℕ)) (profile : Profile) (text : List ℕ) → format (load p profile text) ≡ number_of profile
load_format p One text = refl
load_format p Two text = refl

load_takes : (profile : Profile) (p : List (List ℕ)) (bytes : List ℕ) (x : Command × List ℕ) → IsBytes bytes → load_at profile p bytes ≡ Some x → Reads (number_of profile) 1 p bytes x
unfolding load_at
load_takes profile p bytes x fits e =
    let a = bind_ok (number_at w32 bytes) (λ n. text_at n.0 n.1 >>= λ text. Some (load p profile text.0, text.1)) x e in
    let b = bind_ok (text_at a.0.0 a.0.1) (λ text. Some (load p profile text.0, text.1)) x a.2 in
    let t0 = number_takes w32 (2 ^ 32) wide32 bytes a.0 fits a.1 in
    let t1 = text_takes a.0.0 a.0.1 b.0 t0.0.rest_fits b.1 in
    let both : Takes bytes (to_be_bytes w32 a.0.0 ++ b.0.0) b.0.1 = Takes-then bytes (to_be_bytes w32 a.0.0) a.0.1 b.0.0 b.0.1 t0.0 t1.0 in
    let spelled : Takes bytes (to_be_bytes w32 (length b.0.0) ++ b.0.0) b.0.1 = subst (λ (k : ℕ). Takes bytes (to_be_bytes w32 k ++ b.0.0) b.0.1) (sym t1.1) both in
    let made : Command × List ℕ = (load p profile b.0.0, b.0.1) in
    subst (λ (y : Command × List ℕ). Reads (number_of profile) 1 p bytes y) (some_is made x b.2) (spelled, record { format_is = load_format p profile b.0.0; kind_is = refl; path_is = refl; rest_is = refl })

load_again : (profile : Profile) (p : List (List ℕ)) (text more : List ℕ) → length text < 2 ^ 32 → load_at profile p ((to_be_bytes w32 (length text) ++ text) ++ more) ≡ Some (load p profile text, more)
unfolding load_at
load_again profile p text more lt =
    let regrouped : (to_be_bytes w32 (length text) ++ text) ++ more ≡ to_be_bytes w32 (length text) ++ (text ++ more) = append_assoc (to_be_bytes w32 (length text)) text more in
    ap (load_at profile p) regrouped ∙ rw (number_again w32 (2 ^ 32) wide32 (length text) (text ++ more) lt, text_again text more) refl

change_takes : (least : ℕ) (bytes : List ℕ) (x : List ℕ × List Address × List ℕ) → IsBytes bytes → change_at least bytes ≡ Some x → Takes bytes (counted x.0 ++ addresses x.1) x.2 × ((is_table x.0 && are_addresses least x.1) ≡ true)
unfolding change_at
change_takes least bytes x fits e =
    let a = bind_ok (table_at bytes) (λ table. list_at least table.1 >>= λ list. Some (table.0, list.0, list.1)) x e in
    let b = bind_ok (list_at least a.0.1) (λ list. Some (a.0.0, list.0, list.1)) x a.2 in
    let t0 = table_takes bytes a.0 fits a.1 in
    let t1 = list_takes least a.0.1 b.0 t0.0.rest_fits b.1 in
    let both = Takes-then bytes (counted a.0.0) a.0.1 (addresses b.0.0) b.0.1 t0.0 t1.0 in
    let made : List ℕ × List Address × List ℕ = (a.0.0, b.0.0, b.0.1) in
    subst (λ (y : List ℕ × List Address × List ℕ). Takes bytes (counted y.0 ++ addresses y.1) y.2 × ((is_table y.0 && are_addresses least y.1) ≡ true)) (some_is made x b.2) (both, and_true (is_table a.0.0) (are_addresses least b.0.0) t0.1 t1.1)

change_again : (least : ℕ) (table : List ℕ) (list : List Address) (more : List ℕ) → (is_table table && are_addresses least list) ≡ true → change_at least ((counted table ++ addresses list) ++ more) ≡ Some (table, list, more)
unfolding change_at
change_again least table list more h =
    let p = both_true (is_table table) (are_addresses least list) h in
    let regrouped : (counted table ++ addresses list) ++ more ≡ counted table ++ (addresses list ++ more) = append_assoc (counted table) (addresses list) more in
    ap (change_at least) regrouped ∙ rw (table_again table (addresses list ++ more) p.0, list_again least list more p.1) refl

add_takes : (p : List (List ℕ)) (bytes : List ℕ) (x : Command × List ℕ) → IsBytes bytes → add_at p bytes ≡ Some x → Reads 1 5 p bytes x
unfolding add_at
add_takes p bytes x fits e =
    let a = bind_ok (change_at 1 bytes) (λ y. Some (add p y.0 y.1, y.2)) x e in
    let t = change_takes 1 bytes a.0 fits a.1 in
    let made : Command × List ℕ = (add p a.0.0 a.0.1, a.0.2) in
    subst (λ (y : Command × List ℕ). Reads 1 5 p bytes y) (some_is made x a.2) (t.0, record { format_is = refl; kind_is = refl; path_is = refl; rest_is = t.1 })

delete_takes : (p : List (List ℕ)) (bytes : List ℕ) (x : Command × List ℕ) → IsBytes bytes → delete_at p bytes ≡ Some x → Reads 1 6 p bytes x
unfolding delete_at
delete_takes p bytes x fits e =
    let a = bind_ok (change_at 1 bytes) (λ y. Some (delete p y.0 y.1, y.2)) x e in
    let t = change_takes 1 bytes a.0 fits a.1 in
    let made : Command × List ℕ = (delete p a.0.0 a.0.1, a.0.2) in
    subst (λ (y : Command × List ℕ). Reads 1 6 p bytes y) (some_is made x a.2) (t.0, record { format_is = refl; kind_is = refl; path_is = refl; rest_is = t.1 })

replace_takes : (p : List (List ℕ)) (bytes : List ℕ) (x : Command × List ℕ) → IsBytes bytes → replace_at p bytes ≡ Some x → Reads 1 7 p bytes x
unfolding replace_at
replace_takes p bytes x fits e =
    let a = bind_ok (change_at 0 bytes) (λ y. Some (replace p y.0 y.1, y.2)) x e in
    let t = change_takes 0 bytes a.0 fits a.1 in
    let made : Command × List ℕ = (replace p a.0.0 a.0.1, a.0.2) in
    subst (λ (y : Command × List ℕ). Reads 1 7 p bytes y) (some_is made x a.2) (t.0, record { format_is = refl; kind_is = refl; path_is = refl; rest_is = t.1 })

flush_table_takes : (p : List (List ℕ)) (bytes : List ℕ) (x : Command × List ℕ) → IsBytes bytes → flush_table_at p bytes ≡ Some x → Reads 1 8 p bytes x
unfolding flush_table_at
flush_table_takes p bytes x fits e =
    let a = bind_ok (table_at bytes) (λ table. Some (flush_table p table.0, table.1)) x e in
    let t = table_takes bytes a.0 fits a.1 in
    let made : Command × List ℕ = (flush_table p a.0.0, a.0.1) in
    subst (λ (y : Command × List ℕ). Reads 1 8 p bytes y) (some_is made x a.2) (t.0, record { format_is = refl; kind_is = refl; path_is = refl; rest_is = t.1 })

-- a command that ends with its path
bare : (f k : ℕ) (p : List (List ℕ)) (bytes : List ℕ) (c : Command) (x : Command × List ℕ) → IsBytes bytes → rest c ≡ [] → IsRest f k p c → Some (c, bytes) ≡ Some x → Reads f k p bytes x
bare f k p bytes c x fits nothing is e =
    subst (λ (y : Command × List ℕ). Reads f k p bytes y) (some_is (c, bytes) x e) (rw nothing (record { parts = refl; rest_fits = fits }), is)

bare_is : (f k k' : ℕ) (p : List (List ℕ)) (c : Command) → not (eqb f 1) ≡ false → eqb k k' ≡ true → format c ≡ 1 → kind c ≡ k' → path_of c ≡ p → rest_fits c ≡ true → IsRest f k p c
bare_is f k k' p c one is ef ek ep er = record { format_is = ef ∙ sym (eqb-true f 1 (is_one f one)); kind_is = ek ∙ sym (eqb-true k k' is); path_is = ep; rest_is = er }
  where
    is_one : (f : ℕ) → not (eqb f 1) ≡ false → eqb f 1 ≡ true
    is_one f h = grind (arith, nat_tests)

along : (f f' k k' : ℕ) (p : List (List ℕ)) (bytes : List ℕ) (x : Command × List ℕ) → f' ≡ f → k' ≡ k → Reads f' k' p bytes x → Reads f k p bytes x
along f f' k k' p bytes x ef ek r = (r.0, record { format_is = r.1.format_is ∙ ef; kind_is = r.1.kind_is ∙ ek; path_is = r.1.path_is; rest_is = r.1.rest_is })

one_is : (f : ℕ) → not (eqb f 1) ≡ false → 1 ≡ f
one_is f h = grind (arith, nat_tests)

rest_takes : (f k : ℕ) (p : List (List ℕ)) (bytes : List ℕ) (x : Command × List ℕ) → IsBytes bytes → rest_at f k p bytes ≡ Some x → Reads f k p bytes x
unfolding rest_at
rest_takes f k p bytes x fits e =
    elim (chosen (eqb k 1) _ _ _ e) [
      | inl k1 ↦
          elim (chosen (eqb f 1) _ _ _ k1.1) [
            | inl f1 ↦ along f 1 k 1 p bytes x (sym (eqb-true f 1 f1.0)) (sym (eqb-true k 1 k1.0)) (load_takes One p bytes x fits f1.1)
            | inr f_other ↦
                elim (chosen (eqb f 2) _ _ _ f_other.1) [
                  | inl f2 ↦ along f 2 k 1 p bytes x (sym (eqb-true f 2 f2.0)) (sym (eqb-true k 1 k1.0)) (load_takes Two p bytes x fits f2.1)
                  | inr bad ↦ absurd (cc (bad.1))
                ]
          ]
      | inr k_other ↦
          let g = guard_ok (not (eqb f 1)) _ x k_other.1 in
          let f_is : 1 ≡ f = one_is f g.0 in
          elim (chosen (eqb k 2) _ _ _ g.1) [
            | inl k2 ↦ bare f k p bytes (flush_rules p) x fits refl (bare_is f k 2 p (flush_rules p) g.0 k2.0 refl refl refl refl) k2.1
            | inr n2 ↦ elim (chosen (eqb k 3) _ _ _ n2.1) [
              | inl k3 ↦ bare f k p bytes (flush_tables p) x fits refl (bare_is f k 3 p (flush_tables p) g.0 k3.0 refl refl refl refl) k3.1
              | inr n3 ↦ elim (chosen (eqb k 4) _ _ _ n3.1) [
                | inl k4 ↦ bare f k p bytes (flush_all p) x fits refl (bare_is f k 4 p (flush_all p) g.0 k4.0 refl refl refl refl) k4.1
                | inr n4 ↦ elim (chosen (eqb k 5) _ _ _ n4.1) [
                  | inl k5 ↦ along f 1 k 5 p bytes x f_is (sym (eqb-true k 5 k5.0)) (add_takes p bytes x fits k5.1)
                  | inr n5 ↦ elim (chosen (eqb k 6) _ _ _ n5.1) [
                    | inl k6 ↦ along f 1 k 6 p bytes x f_is (sym (eqb-true k 6 k6.0)) (delete_takes p bytes x fits k6.1)
                    | inr n6 ↦ elim (chosen (eqb k 7) _ _ _ n6.1) [
                      | inl k7 ↦ along f 1 k 7 p bytes x f_is (sym (eqb-true k 7 k7.0)) (replace_takes p bytes x fits k7.1)
                      | inr n7 ↦ elim (chosen (eqb k 8) _ _ _ n7.1) [
                        | inl k8 ↦ along f 1 k 8 p bytes x f_is (sym (eqb-true k 8 k8.0)) (flush_table_takes p bytes x fits k8.1)
                        | inr bad ↦ absurd (cc (bad.1))
                      ]
                    ]
                  ]
                ]
              ]
            ]
          ]
    ]

rest_again : (c : Command) (more : List ℕ) → rest_fits c ≡ true → length (rest c) < 2 ^ 32 → rest_at (format c) (kind c) (path_of c) (rest c ++ more) ≡ Some (c, more)
unfolding rest_at add_at delete_at replace_at flush_table_at
rest_again (load p One text) more h lt = load_again One p text more (omega (arith, length-append (to_be_bytes w32 (length text)) text))
rest_again (load p Two text) more h lt = load_again Two p text more (omega (arith, length-append (to_be_bytes w32 (length text)) text))
rest_again (flush_rules p) more h lt = refl
rest_again (flush_tables p) more h lt = refl
rest_again (flush_all p) more h lt = refl
rest_again (add p table list) more h lt = rw (change_again 1 table list more h) refl
rest_again (delete p table list) more h lt = rw (change_again 1 table list more h) refl
rest_again (replace p table list) more h lt = rw (change_again 0 table list more h) refl
rest_again (flush_table p table) more h lt = rw (table_again table more h) refl

-- kind, path, rest
abbrev command_bytes : Command → List ℕ
command_bytes c = kind c ∷ (path (path_of c) ++ rest c)

command_takes : (f : ℕ) (bytes : List ℕ) (x : Command × List ℕ) → IsBytes bytes → command_at f bytes ≡ Some x → Takes bytes (command_bytes x.0) x.1 × (format x.0 ≡ f) × (are_names (path_of x.0) ≡ true) × (rest_fits x.0 ≡ true)
unfolding command_at
command_takes f bytes x fits e =
    let a = bind_ok (byte_at bytes) (λ k. path_at k.1 >>= λ p. rest_at f k.0 p.0 p.1) x e in
    let b = bind_ok (path_at a.0.1) (λ p. rest_at f a.0.0 p.0 p.1) x a.2 in
    let t0 = byte_takes bytes a.0 fits a.1 in
    let t1 = path_takes a.0.1 b.0 t0.0.rest_fits b.1 in
    let t2 = rest_takes f a.0.0 b.0.0 b.0.1 x t1.0.rest_fits b.2 in
    let e12 = Takes-then a.0.1 (path b.0.0) b.0.1 (rest x.0) x.1 t1.0 t2.0 in
    let e02 : Takes bytes (a.0.0 ∷ (path b.0.0 ++ rest x.0)) x.1 = Takes-then bytes (a.0.0 ∷ []) a.0.1 (path b.0.0 ++ rest x.0) x.1 t0.0 e12 in
    let P : ℕ → List (List ℕ) → Type 0 = λ k p. Takes bytes (k ∷ (path p ++ rest x.0)) x.1 in (
      subst (λ (k : ℕ). P k (path_of x.0)) (sym t2.1.kind_is) (subst (λ (p : List (List ℕ)). P a.0.0 p) (sym t2.1.path_is) e02),
      t2.1.format_is,
      ap are_names t2.1.path_is ∙ t1.1,
      t2.1.rest_is,
    )

command_again : (c : Command) (more : List ℕ) → are_names (path_of c) ≡ true → rest_fits c ≡ true → length (rest c) < 2 ^ 32 → command_at (format c) (command_bytes c ++ more) ≡ Some (c, more)
unfolding command_at
command_again c more names h lt =
    let regrouped : (path (path_of c) ++ rest c) ++ more ≡ path (path_of c) ++ (rest c ++ more) = append_assoc (path (path_of c)) (rest c) more in
    let one : path_at ((path (path_of c) ++ rest c) ++ more) ≡ Some (path_of c, rest c ++ more) = ap path_at regrouped ∙ path_again (path_of c) (rest c ++ more) names in
    rw one (rest_again c more h lt)

asked_takes : (bytes : List ℕ) (x : (ℕ × ℕ) × List ℕ) → IsBytes bytes → asked_at bytes ≡ Some x → Takes bytes (x.0.0 ∷ to_be_bytes w64 x.0.1) x.1 × (is_origin x.0.0 ≡ true) × (x.0.1 < 2 ^ 48)
unfolding asked_at
asked_takes bytes x fits e =
    let a = bind_ok (byte_at bytes) (λ o. number_at w64 o.1 >>= λ n. only (is_origin o.0 && ltb n.0 (2 ^ 48)) ((o.0, n.0), n.1)) x e in
    let b = bind_ok (number_at w64 a.0.1) (λ n. only (is_origin a.0.0 && ltb n.0 (2 ^ 48)) ((a.0.0, n.0), n.1)) x a.2 in
    let made : (ℕ × ℕ) × List ℕ = ((a.0.0, b.0.0), b.0.1) in
    let g = only_ok (is_origin a.0.0 && ltb b.0.0 (2 ^ 48)) made x b.2 in
    let p = both_true (is_origin a.0.0) (ltb b.0.0 (2 ^ 48)) g.0 in
    let t0 = byte_takes bytes a.0 fits a.1 in
    let t1 = number_takes w64 (2 ^ 64) wide64 a.0.1 b.0 t0.0.rest_fits b.1 in
    let both = Takes-then bytes (a.0.0 ∷ []) a.0.1 (to_be_bytes w64 b.0.0) b.0.1 t0.0 t1.0 in
    subst (λ (y : (ℕ × ℕ) × List ℕ). Takes bytes (y.0.0 ∷ to_be_bytes w64 y.0.1) y.1 × (is_origin y.0.0 ≡ true) × (y.0.1 < 2 ^ 48)) g.1 (both, p.0, ltb-true _ _ p.1)

asked_again : (o n : ℕ) (more : List ℕ) → is_origin o ≡ true → n < 2 ^ 48 → asked_at (o ∷ (to_be_bytes w64 n ++ more)) ≡ Some ((o, n), more)
unfolding asked_at
asked_again o n more h lt =
    let small : ltb n (2 ^ 48) ≡ true = lt-ltb _ _ lt in
    rw (number_again w64 (2 ^ 64) wide64 n more (omega arith), h, small) refl

-- format, origin, number, then the command
abbrev entry_bytes : Entry → List ℕ
entry_bytes e = format e.command ∷ (e.origin ∷ (to_be_bytes w64 e.number ++ command_bytes e.command))

as_spelled : (e : Entry) → entry_bytes e ≡ spelling e
as_spelled e = simp append_assoc

-- all that an entry has to keep but its length
pub record Keeps (e : Entry) : Type 0 where
  pub origin : is_origin e.origin ≡ true
  pub number : e.number < 2 ^ 48
  pub names : are_names (path_of e.command) ≡ true
  pub rest : rest_fits e.command ≡ true

entry_takes : (bytes : List ℕ) (x : Entry × List ℕ) → IsBytes bytes → entry_at bytes ≡ Some x → Takes bytes (entry_bytes x.0) x.1 × Keeps x.0
unfolding entry_at
entry_takes bytes x fits e =
    let a = bind_ok (byte_at bytes) (λ f. asked_at f.1 >>= λ q. command_at f.0 q.1 >>= λ c. Some (record { origin = q.0.0; number = q.0.1; command = c.0 }, c.1)) x e in
    let b = bind_ok (asked_at a.0.1) (λ q. command_at a.0.0 q.1 >>= λ c. Some (record { origin = q.0.0; number = q.0.1; command = c.0 }, c.1)) x a.2 in
    let d = bind_ok (command_at a.0.0 b.0.1) (λ c. Some (record { origin = b.0.0.0; number = b.0.0.1; command = c.0 }, c.1)) x b.2 in
    let t0 = byte_takes bytes a.0 fits a.1 in
    let t1 = asked_takes a.0.1 b.0 t0.0.rest_fits b.1 in
    let t2 = command_takes a.0.0 b.0.1 d.0 t1.0.rest_fits d.1 in
    let e12 = Takes-then a.0.1 (b.0.0.0 ∷ to_be_bytes w64 b.0.0.1) b.0.1 (command_bytes d.0.0) d.0.1 t1.0 t2.0 in
    let e02 : Takes bytes (a.0.0 ∷ (b.0.0.0 ∷ (to_be_bytes w64 b.0.0.1 ++ command_bytes d.0.0))) d.0.1 = Takes-then bytes (a.0.0 ∷ []) a.0.1 (b.0.0.0 ∷ (to_be_bytes w64 b.0.0.1 ++ command_bytes d.0.0)) d.0.1 t0.0 e12 in
    let made : Entry × List ℕ = (record { origin = b.0.0.0; number = b.0.0.1; command = d.0.0 }, d.0.1) in
    subst (λ (y : Entry × List ℕ). Takes bytes (entry_bytes y.0) y.1 × Keeps y.0) (some_is made x d.2)
    (subst (λ (f : ℕ). Takes bytes (f ∷ (b.0.0.0 ∷ (to_be_bytes w64 b.0.0.1 ++ command_bytes d.0.0))) d.0.1) (sym t2.1) e02, record { origin = t1.1; number = t1.2; names = t2.2; rest = t2.3 })

entry_again : (e : Entry) (more : List ℕ) → Keeps e → length (rest e.command) < 2 ^ 32 → entry_at (entry_bytes e ++ more) ≡ Some (e, more)
unfolding entry_at
entry_again e more k lt =
    let one : asked_at (e.origin ∷ ((to_be_bytes w64 e.number ++ command_bytes e.command) ++ more)) ≡ Some ((e.origin, e.number), command_bytes e.command ++ more) = asked_again e.origin e.number (command_bytes e.command ++ more) k.origin k.number in
    rw (one, command_again e.command more k.names k.rest lt) refl

short_rest : (e : Entry) → length (spelling e) ≤ 32768 → length (rest e.command) < 2 ^ 32
short_rest e h =
    let s : length (entry_bytes e) ≤ 32768 = subst (λ (t : List ℕ). length t ≤ 32768) (sym (as_spelled e)) h in
    omega (arith, length-append (path (path_of e.command)) (rest e.command), s)

keeps : (e : Entry) → Fits e → Keeps e
keeps e f = record { origin = f.origin; number = f.number; names = f.names; rest = f.rest }

-- what is read is spelled so
pub reading_takes : (bytes : List ℕ) (e : Entry) → IsBytes bytes → reading bytes ≡ Some e → EntryBytes e bytes
unfolding reading
reading_takes bytes e fits h =
    let a = bind_ok (only (leb (length bytes) 32768) bytes) (λ whole. entry_at whole >>= λ x. only (eqb (length x.1) 0) x.0) e h in
    let g = only_ok (leb (length bytes) 32768) bytes a.0 a.1 in
    let h' : (entry_at bytes >>= λ x. only (eqb (length x.1) 0) x.0) ≡ Some e = rw g.1 (a.2) in
    let b = bind_ok (entry_at bytes) (λ x. only (eqb (length x.1) 0) x.0) e h' in
    let k = only_ok (eqb (length b.0.1) 0) b.0.0 e b.2 in
    let t = entry_takes bytes b.0 fits b.1 in
    let nothing : b.0.1 ≡ [] = nil_from_length b.0.1 (eqb-true _ _ k.0) in
    let is : bytes ≡ spelling b.0.0 = t.0.parts ∙ ap (λ (r : List ℕ). entry_bytes b.0.0 ++ r) nothing ∙ append-nil (entry_bytes b.0.0) ∙ as_spelled b.0.0 in
    let short : length bytes ≤ 32768 = leb-true _ _ g.0 in
    let made : EntryBytes b.0.0 bytes = record { fits = record { origin = t.1.origin; number = t.1.number; names = t.1.names; rest = t.1.rest; whole = subst (λ (t : List ℕ). length t ≤ 32768) is short }; spelled = is } in
    subst (λ (y : Entry). EntryBytes y bytes) k.1 made

-- what is spelled so is read
pub reading_again : (e : Entry) → Fits e → reading (spelling e) ≡ Some e
unfolding reading
reading_again e f =
    let short : leb (length (spelling e)) 32768 ≡ true = is_short (length (spelling e)) f.whole in
    let one : entry_at (spelling e) ≡ Some (e, []) = ap entry_at (sym (as_spelled e) ∙ sym (append-nil (entry_bytes e))) ∙ entry_again e [] (keeps e f) (short_rest e f.whole) in
    rw (short, one) refl
  where
    is_short : (n : ℕ) → n ≤ 32768 → leb n 32768 ≡ true
    is_short n h = grind (arith, nat_tests)

-- no spelling is a proper front of another
pub no_front : (e f : Entry) (a more : List ℕ) → EntryBytes e a → EntryBytes f (a ++ more) → (more ≡ []) × (e ≡ f)
no_front e f a more p q =
    let one : entry_at (entry_bytes e ++ more) ≡ Some (e, more) = entry_again e more (keeps e p.fits) (short_rest e p.fits.whole) in
    let two : entry_at (entry_bytes f ++ []) ≡ Some (f, []) = entry_again f [] (keeps f q.fits) (short_rest f q.fits.whole) in
    let same : entry_bytes e ++ more ≡ entry_bytes f ++ [] = ap (λ (t : List ℕ). t ++ more) (as_spelled e ∙ sym p.spelled) ∙ q.spelled ∙ sym (as_spelled f) ∙ sym (append-nil (entry_bytes f)) in
    let eq : (e, more) ≡ (f, []) = some_is (e, more) (f, []) (sym one ∙ ap entry_at same ∙ two) in
    (ap (λ (y : Entry × List ℕ). y.1) eq, ap (λ (y : Entry × List ℕ). y.0) eq)

-- ---- what `decode` answers

pub found_is : {V X : Type 0} (view : V → Entry) (r : Result V X) (bytes : List ℕ) → IsBytes bytes → option_map view (result_ok r) ≡ reading bytes → IfOk r (λ v. EntryBytes (view v) bytes)
found_is view (Ok v) bytes fits e = reading_takes bytes (view v) fits (sym e)
found_is view (Err x) bytes fits e = tt

pub only_is : {V X : Type 0} (view : V → Entry) (r : Result V X) (bytes : List ℕ) (e : Entry) → option_map view (result_ok r) ≡ reading bytes → EntryBytes e bytes → IsOkAnd r (λ v. view v ≡ e)
only_is view (Ok v) bytes e read h =
    let one : reading bytes ≡ Some e = ap reading h.spelled ∙ reading_again e h.fits in
    some_is (view v) e (read ∙ one)
only_is view (Err x) bytes e read h =
    let one : reading bytes ≡ Some e = ap reading h.spelled ∙ reading_again e h.fits in
    absurd (cc (read ∙ one))

-- one entry has one spelling, and one spelling one entry
pub one_entry : (e f : Entry) (bytes : List ℕ) → EntryBytes e bytes → EntryBytes f bytes → e ≡ f
one_entry e f bytes p q = (no_front e f bytes [] p (record { fits = q.fits; spelled = append-nil bytes ∙ q.spelled })).1
