-- What the bytes are where fields have no fault.
use Rattle.std.proofs.Common.{◌≡◌, ℕ, ◌+◌, ◌^◌, ◌≤◌, Bool, true, false, cond, ltb, List, [], ◌∷◌, ◌++◌, length, take, drop, Option, Some, None, refl, sym, ap, subst, ◌∙◌, arith}
use Rattle.std.specs.Prelude.{option_map}
use Rattle.std.specs.Int.{Width, w8, w32, byte_len, from_be_bytes, to_be_bytes}
use Rattle.std.proofs.lemmas.Bool.{ltb-false}
use Rattle.std.proofs.lemmas.List.{length-take, length-drop, drop-drop, take-append-drop, append-nil, nil_from_length}
use Rattle.pf_entry.specs.Entry.{EntryBytes}
use Rattle.pf_entry.specs.Reading.{reading}
use Rattle.pf_entry.proofs.Takes.{IsBytes, IsBytes-drop, IsBytes-take, IsWide, wide32, some_is}
use Rattle.pf_entry.proofs.Whole.{reading_takes}
use Rattle.px_wire.specs.declared.fault.WireFault.{WireFault}
use Rattle.px_wire.specs.Message.{Lent, IsSpelling, sized}
use Rattle.px_wire.specs.Fields.{Field, field, fault, fault_of, or_else, first_fault, number, u8, u32, len, entry, lent, lent_in, entry_bytes, entry_value, is_entry}

-- ---- a field without a fault

fault_clear : (short allowed : Bool) (a b : WireFault) → cond short (Some a) (cond allowed None (Some b)) ≡ None → (short ≡ false) × (allowed ≡ true)
fault_clear true allowed a b e = absurd cc
fault_clear false true a b e = (refl, refl)
fault_clear false false a b e = absurd cc

or_else_clear : (a b : Option WireFault) → or_else a b ≡ None → (a ≡ None) × (b ≡ None)
or_else_clear None b e = (refl, e)
or_else_clear (Some x) b e = absurd cc

-- its bytes are there, its value is allowed, and the fields after it have no fault
pub clear_field : (f : Field) (fs : List Field) (end : ℕ) (bytes : List ℕ) → first_fault (f ∷ fs) end bytes ≡ None → (f.at + f.len ≤ length bytes) × (f.allowed ≡ true) × (first_fault fs (f.at + f.len) bytes ≡ None)
unfolding fault_of
clear_field f fs end bytes e =
    let a = or_else_clear (fault_of f bytes) (first_fault fs (f.at + f.len) bytes) e in
    let b = fault_clear (ltb (length bytes) (f.at + f.len)) f.allowed (fault 50 f.at) (fault f.code f.at) a.0 in
    (ltb-false _ _ b.0, b.1, a.1)

pub clear_end : (end : ℕ) (bytes : List ℕ) → first_fault [] end bytes ≡ None → length bytes ≤ end
clear_end end bytes e = go (ltb end (length bytes)) refl e
  where
    go : (b : Bool) → ltb end (length bytes) ≡ b → cond b (Some (fault 56 end)) None ≡ None → length bytes ≤ end
    go true is e = absurd cc
    go false is e = ltb-false _ _ is

-- the bytes from a field on are the spelling of its number, and those after it
pub cut : (w : Width) (limit : ℕ) (wide : IsWide w limit) (at : ℕ) (bytes : List ℕ) → IsBytes bytes → at + byte_len w ≤ length bytes → drop at bytes ≡ to_be_bytes w (number w at bytes) ++ drop (at + byte_len w) bytes
unfolding number
cut w limit wide at bytes fits le =
    let there : IsBytes (drop at bytes) = IsBytes-drop at bytes fits in
    let k : length (take (byte_len w) (drop at bytes)) ≡ byte_len w = omega (arith, length-take (byte_len w) (drop at bytes), length-drop at bytes) in
    let back : to_be_bytes w (from_be_bytes w (take (byte_len w) (drop at bytes))) ≡ take (byte_len w) (drop at bytes) = wide.back (take (byte_len w) (drop at bytes)) k (IsBytes-take (byte_len w) (drop at bytes) there) in
    rw (back, ← drop-drop (byte_len w) at bytes) (sym (take-append-drop (byte_len w) (drop at bytes)))

cut8_at_0 : (bytes : List ℕ) → IsBytes bytes → 1 ≤ length bytes → bytes ≡ from_be_bytes w8 (take 1 bytes) ∷ drop 1 bytes
cut8_at_0 [] fits le = absurd (omega arith)
cut8_at_0 (b ∷ more) fits le = ap (λ (x : ℕ). x ∷ more) (omega arith)

pub cut8 : (at : ℕ) (bytes : List ℕ) → IsBytes bytes → at + 1 ≤ length bytes → drop at bytes ≡ u8 at bytes ∷ drop (at + 1) bytes
unfolding number
cut8 at bytes fits le =
    let e = cut8_at_0 (drop at bytes) (IsBytes-drop at bytes fits) (omega (arith, length-drop at bytes)) in
    e ∙ ap (λ (t : List ℕ). from_be_bytes w8 (take 1 (drop at bytes)) ∷ t) (drop-drop 1 at bytes)

pub nothing_left : (end : ℕ) (bytes : List ℕ) → length bytes ≤ end → drop end bytes ≡ []
nothing_left end bytes le = nil_from_length (drop end bytes) (omega (arith, length-drop end bytes))

-- ---- the entry that ends a datagram

allowed_origin : (origin : ℕ → Bool) (r : Option Lent) (x : Lent) → r ≡ Some x → is_entry origin r ≡ true → origin x.origin ≡ true
allowed_origin origin r x is h = rw is at h

pub option_map_ok : {A B : Type 0} (f : A → B) (r : Option A) (y : B) → option_map f r ≡ Some y → (x : A) × (r ≡ Some x) × (f x ≡ y)
option_map_ok f None y e = absurd cc
option_map_ok f (Some x) y e = (x, refl, some_is (f x) y e)

-- what was read from bytes is spelled by them
pub lent_spelled : (text : List ℕ) (x : Lent) → IsBytes text → lent_in text ≡ Some x → (x.bytes ≡ text) × IsSpelling x
unfolding lent_in
lent_spelled text x fits is =
    let r = option_map_ok (lent text) (reading text) x is in
    let spelled : EntryBytes r.0 text = reading_takes text r.0 fits r.1 in
    subst (λ (y : Lent). (y.bytes ≡ text) × IsSpelling y) r.2 (refl, record { entry = r.0; spelled = spelled; origin = refl; number = refl })

pub entry_law : (origin : ℕ → Bool) (at end : ℕ) (bytes : List ℕ) (x : Lent) → IsBytes bytes → first_fault (entry origin at bytes) end bytes ≡ None → entry_value at bytes ≡ Some x
    → (drop at bytes ≡ sized x) × IsSpelling x × (origin x.origin ≡ true)
entry_law origin at end bytes x fits clear is =
    let n : ℕ = u32 at bytes in
    let f1 : Field = field (at + 4) (u32 at bytes) 57 (is_entry origin (lent_in (entry_bytes at bytes))) in
    let s0 = clear_field (len at bytes) (f1 ∷ []) end bytes clear in
    let s1 = clear_field f1 [] (at + 4) bytes s0.2 in
    let last : length bytes ≤ at + 4 + n = clear_end (at + 4 + n) bytes s1.2 in
    let there : IsBytes (drop (at + 4) bytes) = IsBytes-drop (at + 4) bytes fits in
    let law = lent_spelled (entry_bytes at bytes) x (IsBytes-take n (drop (at + 4) bytes) there) is in
    let size : length (drop (at + 4) bytes) ≡ n = omega (arith, length-drop (at + 4) bytes, s1.0, last) in
    let none : drop n (drop (at + 4) bytes) ≡ [] = nothing_left n (drop (at + 4) bytes) (omega (arith, size)) in
    let all : drop (at + 4) bytes ≡ take n (drop (at + 4) bytes) = sym (take-append-drop n (drop (at + 4) bytes)) ∙ ap (λ (t : List ℕ). take n (drop (at + 4) bytes) ++ t) none ∙ append-nil (take n (drop (at + 4) bytes)) in
    let text : drop (at + 4) bytes ≡ x.bytes = all ∙ sym law.0 in
    let n_is : n ≡ length x.bytes = sym size ∙ ap length text in
    let front : drop at bytes ≡ to_be_bytes w32 n ++ drop (at + 4) bytes = cut w32 (2 ^ 32) wide32 at bytes fits (s0.0) in
    (front ∙ ap (λ (t : List ℕ). to_be_bytes w32 n ++ t) text ∙ ap (λ (k : ℕ). to_be_bytes w32 k ++ x.bytes) n_is, law.1, allowed_origin origin (lent_in (entry_bytes at bytes)) x is s1.1)
