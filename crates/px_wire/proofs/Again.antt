-- What is spelled as a datagram has no fault, and is read as its message.
use Rattle.std.proofs.Common.{◌≡◌, ℕ, suc, ◌+◌, ◌^◌, ◌%◌, ◌<◌, ◌≤◌, Bool, true, false, cond, ltb, leb, eqb, List, [], ◌∷◌, ◌++◌, length, take, drop, Option, Some, None, refl, sym, ap, subst, ◌∙◌, append_assoc, arith, lit≤}
use Rattle.std.specs.Prelude.{◌&&◌, option_map, IsOkAnd, Result, Ok, Err}
use Rattle.std.specs.Int.{Width, w8, w32, w64, byte_len, to_be_bytes}
use Rattle.std.proofs.lemmas.Bool.{ltb-true, le-ltb, lt-ltb, leb-true, le-leb, eq-eqb}
use Rattle.std.proofs.lemmas.Bool.Decides.{nat_tests}
use Rattle.std.proofs.lemmas.List.{length-append, length-drop, drop-drop, append-nil, take_at, drop_at}
use Rattle.pf_entry.specs.Reading.{reading}
use Rattle.pf_entry.proofs.Takes.{IsWide, wide32, wide64, both_true, and_true, some_is}
use Rattle.pf_entry.proofs.Whole.{reading_again}
use Rattle.px_wire.specs.declared.fault.WireFault.{WireFault}
use Rattle.px_wire.specs.declared.membership.Membership.{Membership}
use Rattle.px_wire.specs.Message as messages
use Rattle.px_wire.specs.Message.{Group, group, Lent, IsSpelling, Message, prepare, promise, accept, vote, nack, need, learned, ask, asked, ask_refused, prepare_all, promise_all, sized, reported, is_member, is_party, is_kind, is_ballot, is_ballot_of, is_accepted, is_refusal, is_top, is_position, is_number, IsReported, IsBody, HasSpelling, DatagramBytes}
use Rattle.px_wire.specs.Fields.{Field, field, fault_of, first_fault, number, u8, u32, u64, len, lent, lent_in, ballot, any_ballot, position, token, promised, entry, entry_bytes, entry_value, is_entry, accepted, accepted_value, body, value, fields, datagram}
use Rattle.px_wire.specs.Seen.{Answers}
use Rattle.px_wire.proofs.Lengths.{long_enough}

-- ---- a field that is allowed

pub field_clear : (f : Field) (fs : List Field) (end : ℕ) (bytes : List ℕ) → f.at + f.len ≤ length bytes → f.allowed ≡ true → first_fault fs (f.at + f.len) bytes ≡ None → first_fault (f ∷ fs) end bytes ≡ None
unfolding fault_of
field_clear f fs end bytes le allowed others =
    let short : ltb (length bytes) (f.at + f.len) ≡ false = le-ltb _ _ le in
    rw (short, allowed) others

pub end_clear : (end : ℕ) (bytes : List ℕ) → length bytes ≤ end → first_fault [] end bytes ≡ None
end_clear end bytes le =
    let short : ltb end (length bytes) ≡ false = le-ltb _ _ le in
    rw short refl

-- what is at an offset
pub record IsReadAt (w : Width) (at : ℕ) (bytes : List ℕ) (n : ℕ) (more : List ℕ) : Type 0 where
  pub is : number w at bytes ≡ n
  pub after : drop (at + byte_len w) bytes ≡ more
  pub there : at + byte_len w ≤ length bytes

read_at : (w : Width) (limit : ℕ) (wide : IsWide w limit) (at : ℕ) (bytes : List ℕ) (n : ℕ) (more : List ℕ) → 1 ≤ byte_len w → n < limit → drop at bytes ≡ to_be_bytes w n ++ more → IsReadAt w at bytes n more
unfolding number
read_at w limit wide at bytes n more some lt e =
    let k = wide.len n in
    let size : length (drop at bytes) ≡ byte_len w + length more = ap length e ∙ length-append (to_be_bytes w n) more ∙ ap (λ (x : ℕ). x + length more) k in
    record {
      is = rw (e, take_at (to_be_bytes w n) more (byte_len w) k) (wide.again n lt);
      after = rw (← drop-drop (byte_len w) at bytes, e) (drop_at (to_be_bytes w n) more (byte_len w) k);
      there = omega (arith, length-drop at bytes, size);
    }

pub read32_at : (at : ℕ) (bytes : List ℕ) (n : ℕ) (more : List ℕ) → n < 2 ^ 32 → drop at bytes ≡ to_be_bytes w32 n ++ more → IsReadAt w32 at bytes n more
read32_at at bytes n more lt e = read_at w32 (2 ^ 32) wide32 at bytes n more (lit≤ tt) lt e

pub read64_at : (at : ℕ) (bytes : List ℕ) (n : ℕ) (more : List ℕ) → n < 2 ^ 64 → drop at bytes ≡ to_be_bytes w64 n ++ more → IsReadAt w64 at bytes n more
read64_at at bytes n more lt e = read_at w64 (2 ^ 64) wide64 at bytes n more (lit≤ tt) lt e

pub stands8 : (at : ℕ) (bytes : List ℕ) (n : ℕ) (more : List ℕ) → drop at bytes ≡ n ∷ more → IsReadAt w8 at bytes n more
unfolding number
stands8 at bytes n more e =
    let size : length (drop at bytes) ≡ suc (length more) = ap length e in
    record {
      is = rw e (omega arith);
      after = rw (← drop-drop 1 at bytes, e) refl;
      there = omega (arith, length-drop at bytes, size);
    }

ended : (end : ℕ) (bytes : List ℕ) → drop end bytes ≡ [] → length bytes ≤ end
ended end bytes e =
    let size : length (drop end bytes) ≡ 0 = ap length e in
    omega (arith, length-drop end bytes, size)

take_all : (xs : List ℕ) → take (length xs) xs ≡ xs
take_all xs = ap (take (length xs)) (sym (append-nil xs)) ∙ take_at xs [] (length xs) refl

-- ---- the entry that ends a datagram

pub record Ends {X : Type 0} (fs : List Field) (end : ℕ) (bytes : List ℕ) (found : Option X) (x : X) : Type 0 where
  pub clear : first_fault fs end bytes ≡ None
  pub is : found ≡ Some x

abbrev made : ℕ → ℕ → List ℕ → Lent
made o k bytes = record { origin = o; number = k; bytes = bytes }

lent_is : (x : Lent) (is : IsSpelling x) → lent x.bytes is.entry ≡ x
lent_is x is =
    ap (λ (o : ℕ). made o is.entry.number x.bytes) is.origin ∙ ap (λ (k : ℕ). made x.origin k x.bytes) is.number

-- what spells an entry is read as it
pub lent_again : (x : Lent) → IsSpelling x → lent_in x.bytes ≡ Some x
unfolding lent_in
lent_again x is =
    let read : reading x.bytes ≡ Some is.entry = ap reading is.spelled.spelled ∙ reading_again is.entry is.spelled.fits in
    ap (option_map (lent x.bytes)) read ∙ ap (λ (y : Lent). Some y) (lent_is x is)

entry_ends : (origin : ℕ → Bool) (at end : ℕ) (bytes : List ℕ) (x : Lent) → IsSpelling x → origin x.origin ≡ true → drop at bytes ≡ sized x → Ends (entry origin at bytes) end bytes (entry_value at bytes) x
entry_ends origin at end bytes x is allowed here =
    let n : ℕ = length x.bytes in
    let range = long_enough x is in
    let s = read32_at at bytes n x.bytes (omega (arith, range.1)) here in
    let size : length (drop (at + 4) bytes) ≡ n = ap length s.after in
    let text : entry_bytes at bytes ≡ x.bytes = ap (λ (k : ℕ). take k (drop (at + 4) bytes)) s.is ∙ ap (take n) s.after ∙ take_all x.bytes in
    let read : lent_in (entry_bytes at bytes) ≡ Some x = ap lent_in text ∙ lent_again x is in
    let lo : leb 1 n ≡ true = le-leb _ _ range.0 in
    let hi : leb n 32768 ≡ true = le-leb _ _ range.1 in
    let len_ok : (leb 1 (u32 at bytes) && leb (u32 at bytes) 32768) ≡ true = ap (λ (k : ℕ). leb 1 k && leb k 32768) s.is ∙ and_true (leb 1 n) (leb n 32768) lo hi in
    let origin_ok : is_entry origin (lent_in (entry_bytes at bytes)) ≡ true = ap (is_entry origin) read ∙ allowed in
    let there : at + 4 + n ≤ length bytes = omega (arith, length-drop (at + 4) bytes, size, range.0) in
    let there' : at + 4 + u32 at bytes ≤ length bytes = subst (λ (k : ℕ). at + 4 + k ≤ length bytes) (sym s.is) there in
    let last : length bytes ≤ at + 4 + n = omega (arith, length-drop (at + 4) bytes, size) in
    let last' : length bytes ≤ at + 4 + u32 at bytes = subst (λ (k : ℕ). length bytes ≤ at + 4 + k) (sym s.is) last in
    let f1 : Field = field (at + 4) (u32 at bytes) 57 (is_entry origin (lent_in (entry_bytes at bytes))) in
    record {
      clear = field_clear (len at bytes) (f1 ∷ []) end bytes s.there len_ok
          (field_clear f1 [] (at + 4) bytes there' origin_ok (end_clear (at + 4 + u32 at bytes) bytes last'));
      is = read;
    }

pub wide_ballot : (g : Group) (b : ℕ) → is_ballot g b ≡ true → (256 ≤ b) × (b < 2 ^ 64)
wide_ballot g b h =
    let p = both_true (leb 256 b && ltb b (2 ^ 56)) (is_member g (b % 256)) h in
    let q = both_true (leb 256 b) (ltb b (2 ^ 56)) p.0 in
    let lt : b < 2 ^ 56 = ltb-true _ _ q.1 in
    (leb-true _ _ q.0, omega arith)

reported_ends : (m : Membership) (below at end : ℕ) (bytes : List ℕ) (a : Option (ℕ × Lent)) → IsReported (group m) below a → drop at bytes ≡ reported a → Ends (accepted m below at bytes) end bytes (accepted_value at bytes) a
reported_ends m below at end bytes None h here =
    let s = read64_at at bytes 0 [] (omega arith) (here ∙ sym (append-nil (to_be_bytes w64 0))) in
    let zero_is : eqb (u64 at bytes) 0 ≡ true = ap (λ (k : ℕ). eqb k 0) s.is in
    let allowed : is_accepted (group m) below (u64 at bytes) ≡ true = rw zero_is refl in
    record {
      clear = field_clear (field at 8 57 (is_accepted (group m) below (u64 at bytes))) (cond (eqb (u64 at bytes) 0) [] (entry (is_member (group m)) (at + 8) bytes)) end bytes s.there allowed
          (rw zero_is (end_clear (at + 8) bytes (ended (at + 8) bytes s.after)));
      is = rw zero_is refl;
    }
reported_ends m below at end bytes (Some a) h here =
    let w = wide_ballot (group m) a.0 h.0 in
    let s = read64_at at bytes a.0 (sized a.1) w.1 here in
    let none_zero : eqb a.0 0 ≡ false = positive a.0 w.0 in
    let zero_is : eqb (u64 at bytes) 0 ≡ false = ap (λ (k : ℕ). eqb k 0) s.is ∙ none_zero in
    let below_is : ltb a.0 below ≡ true = lt-ltb _ _ h.1 in
    let allowed : is_accepted (group m) below (u64 at bytes) ≡ true = ap (is_accepted (group m) below) s.is ∙ (rw (none_zero) (and_true (is_ballot (group m) a.0) (ltb a.0 below) h.0 below_is)) in
    let x = entry_ends (is_member (group m)) (at + 8) (at + 8) bytes a.1 h.2.0 h.2.1 s.after in
    record {
      clear = field_clear (field at 8 57 (is_accepted (group m) below (u64 at bytes))) (cond (eqb (u64 at bytes) 0) [] (entry (is_member (group m)) (at + 8) bytes)) end bytes s.there allowed (rw zero_is x.clear);
      is = rw (zero_is, x.is, s.is) refl;
    }
  where
    positive : (n : ℕ) → 256 ≤ n → eqb n 0 ≡ false
    positive n le = grind (arith, nat_tests)

-- ---- the bodies

pub small : (p : ℕ) → is_position p ≡ true → p < 2 ^ 32
small p h =
    let le = leb-true p 999999 h in
    omega arith

pub slot0 : (bytes : List ℕ) (b p : ℕ) (t : List ℕ) → b < 2 ^ 64 → drop 13 bytes ≡ (to_be_bytes w64 b ++ to_be_bytes w32 p) ++ t → IsReadAt w64 13 bytes b (to_be_bytes w32 p ++ t)
slot0 bytes b p t lt here = read64_at 13 bytes b (to_be_bytes w32 p ++ t) lt (here ∙ append_assoc (to_be_bytes w64 b) (to_be_bytes w32 p) t)

-- a ballot and a position, and what follows
slot_ends : (f : Field) (bytes : List ℕ) (b p : ℕ) (t : List ℕ) (fs : List Field) → f.at ≡ 13 → f.len ≡ 8 → b < 2 ^ 64 → (number w64 13 bytes ≡ b → f.allowed ≡ true) → is_position p ≡ true
    → drop 13 bytes ≡ (to_be_bytes w64 b ++ to_be_bytes w32 p) ++ t → first_fault fs 25 bytes ≡ None → first_fault (f ∷ position 21 bytes ∷ fs) 13 bytes ≡ None
slot_ends f bytes b p t fs at_is len_is lt allowed pos here others =
    let s0 = slot0 bytes b p t lt here in
    let s1 = read32_at 21 bytes p t (small p pos) s0.after in
    let le : f.at + f.len ≤ length bytes = rw (at_is, len_is) s0.there in
    let pos' : is_position (u32 21 bytes) ≡ true = ap is_position s1.is ∙ pos in
    field_clear f (position 21 bytes ∷ fs) 13 bytes le (allowed s0.is)
    (field_clear (position 21 bytes) fs 21 bytes s1.there pos' others)

slot1 : (bytes : List ℕ) (b p : ℕ) (t : List ℕ) → b < 2 ^ 64 → is_position p ≡ true → drop 13 bytes ≡ (to_be_bytes w64 b ++ to_be_bytes w32 p) ++ t → IsReadAt w32 21 bytes p t
slot1 bytes b p t lt pos here = read32_at 21 bytes p t (small p pos) (slot0 bytes b p t lt here).after

pub token_small : (n : ℕ) → is_number n ≡ true → n < 2 ^ 64
token_small n h =
    let lt : n < 2 ^ 48 = ltb-true _ _ h in
    omega arith

body_ends : (m : Membership) (from : ℕ) (bytes : List ℕ) (message : Message) → IsBody (group m) from m.me message → drop 13 bytes ≡ messages.body message → Ends (body m from (messages.kind message) bytes) 13 bytes (value (messages.kind message) bytes) message
body_ends m from bytes (prepare b p) h here =
    let lt = (wide_ballot (group m) b (both_true (is_ballot (group m) b) (eqb (b % 256) from) h.0).0).1 in
    let here' : drop 13 bytes ≡ (to_be_bytes w64 b ++ to_be_bytes w32 p) ++ [] = here ∙ sym (append-nil (to_be_bytes w64 b ++ to_be_bytes w32 p)) in
    let s0 = slot0 bytes b p ([]) lt here' in
    let s1 = slot1 bytes b p ([]) lt h.1 here' in
    record {
      clear = slot_ends (ballot m from 13 bytes) bytes b p ([]) ([]) refl refl lt (λ e. ap (is_ballot_of (group m) from) e ∙ h.0) h.1 here' (end_clear 25 bytes (ended 25 bytes s1.after));
      is = rw (s0.is, s1.is) refl;
    }
body_ends m from bytes (promise b p a) h here =
    let lt = (wide_ballot (group m) b (both_true (is_ballot (group m) b) (eqb (b % 256) m.me) h.0).0).1 in
    let here' : drop 13 bytes ≡ (to_be_bytes w64 b ++ to_be_bytes w32 p) ++ reported a = here in
    let s0 = slot0 bytes b p (reported a) lt here' in
    let s1 = slot1 bytes b p (reported a) lt h.1 here' in
    let below : accepted m (u64 13 bytes) 25 bytes ≡ accepted m b 25 bytes = ap (λ (k : ℕ). accepted m k 25 bytes) s0.is in
    let x = reported_ends m b 25 25 bytes a h.2 s1.after in
    record {
      clear = slot_ends (ballot m m.me 13 bytes) bytes b p (reported a) (accepted m (u64 13 bytes) 25 bytes) refl refl lt (λ e. ap (is_ballot_of (group m) m.me) e ∙ h.0) h.1 here' (subst (λ (fs : List Field). first_fault fs 25 bytes ≡ None) (sym below) x.clear);
      is = rw (x.is, s0.is, s1.is) refl;
    }
body_ends m from bytes (accept b p e) h here =
    let lt = (wide_ballot (group m) b (both_true (is_ballot (group m) b) (eqb (b % 256) from) h.0).0).1 in
    let here' : drop 13 bytes ≡ (to_be_bytes w64 b ++ to_be_bytes w32 p) ++ sized e = here in
    let s0 = slot0 bytes b p (sized e) lt here' in
    let s1 = slot1 bytes b p (sized e) lt h.1 here' in
    let x = entry_ends (is_member (group m)) 25 25 bytes e h.2.0 h.2.1 s1.after in
    record {
      clear = slot_ends (ballot m from 13 bytes) bytes b p (sized e) (entry (is_member (group m)) 25 bytes) refl refl lt (λ e. ap (is_ballot_of (group m) from) e ∙ h.0) h.1 here' (x.clear);
      is = rw (x.is, s0.is, s1.is) refl;
    }
body_ends m from bytes (vote b p e) h here =
    let lt = (wide_ballot (group m) b h.0).1 in
    let here' : drop 13 bytes ≡ (to_be_bytes w64 b ++ to_be_bytes w32 p) ++ sized e = here in
    let s0 = slot0 bytes b p (sized e) lt here' in
    let s1 = slot1 bytes b p (sized e) lt h.1 here' in
    let x = entry_ends (is_member (group m)) 25 25 bytes e h.2.0 h.2.1 s1.after in
    record {
      clear = slot_ends (any_ballot m 13 bytes) bytes b p (sized e) (entry (is_member (group m)) 25 bytes) refl refl lt (λ e. ap (is_ballot (group m)) e ∙ h.0) h.1 here' (x.clear);
      is = rw (x.is, s0.is, s1.is) refl;
    }
body_ends m from bytes (nack b p q) h here =
    let lt = (wide_ballot (group m) b (both_true (is_ballot (group m) b) (eqb (b % 256) m.me) h.0).0).1 in
    let here' : drop 13 bytes ≡ (to_be_bytes w64 b ++ to_be_bytes w32 p) ++ to_be_bytes w64 q = here in
    let s0 = slot0 bytes b p (to_be_bytes w64 q) lt here' in
    let s1 = slot1 bytes b p (to_be_bytes w64 q) lt h.1 here' in
    let wq = wide_ballot (group m) q h.2 in
    let s2 = read64_at 25 bytes q [] wq.1 (s1.after ∙ sym (append-nil (to_be_bytes w64 q))) in
    let not_below : leb b q ≡ true = le-leb _ _ h.3 in
    let ok : (is_ballot (group m) (u64 25 bytes) && leb (u64 13 bytes) (u64 25 bytes)) ≡ true = ap (λ (k : ℕ). is_ballot (group m) k && leb (u64 13 bytes) k) s2.is ∙ ap (λ (k : ℕ). is_ballot (group m) q && leb k q) s0.is ∙ and_true (is_ballot (group m) q) (leb b q) h.2 not_below in
    record {
      clear = slot_ends (ballot m m.me 13 bytes) bytes b p (to_be_bytes w64 q) (promised m (u64 13 bytes) 25 bytes ∷ []) refl refl lt (λ e. ap (is_ballot_of (group m) m.me) e ∙ h.0) h.1 here' (field_clear (promised m (u64 13 bytes) 25 bytes) [] 25 bytes s2.there ok (end_clear 33 bytes (ended 33 bytes s2.after)));
      is = rw (s0.is, s1.is, s2.is) refl;
    }
body_ends m from bytes (need p) h here =
    let s0 = read32_at 13 bytes p [] (small p h) (here ∙ sym (append-nil (to_be_bytes w32 p))) in
    record { clear = field_clear (position 13 bytes) [] 13 bytes s0.there (ap is_position s0.is ∙ h) (end_clear 17 bytes (ended 17 bytes s0.after)); is = rw s0.is refl }
body_ends m from bytes (learned p e) h here =
    let s0 = read32_at 13 bytes p (sized e) (small p h.0) here in
    let x = entry_ends (is_member (group m)) 17 17 bytes e h.1.0 h.1.1 s0.after in
    record { clear = field_clear (position 13 bytes) (entry (is_member (group m)) 17 bytes) 13 bytes s0.there (ap is_position s0.is ∙ h.0) x.clear; is = rw (x.is, s0.is) refl }
body_ends m from bytes (ask e) h here =
    let x = entry_ends (λ origin. eqb origin 255) 13 13 bytes e h.0 (eq-eqb e.origin 255 h.1) here in
    record { clear = x.clear; is = rw x.is refl }
body_ends m from bytes (asked t n) h here =
    let s0 = read64_at 13 bytes t (to_be_bytes w64 n) (token_small t h.0) here in
    let s1 = read64_at 21 bytes n [] (token_small n h.1) (s0.after ∙ sym (append-nil (to_be_bytes w64 n))) in
    record { clear = field_clear (token 13 bytes) (token 21 bytes ∷ []) 13 bytes s0.there (ap is_number s0.is ∙ h.0) (field_clear (token 21 bytes) [] 21 bytes s1.there (ap is_number s1.is ∙ h.1) (end_clear 29 bytes (ended 29 bytes s1.after))); is = rw (s0.is, s1.is) refl }
body_ends m from bytes (ask_refused t c) h here =
    let s0 = read64_at 13 bytes t (c ∷ []) (token_small t h.0) here in
    let s1 = stands8 21 bytes c [] s0.after in
    record { clear = field_clear (token 13 bytes) (field 21 1 57 (is_refusal (u8 21 bytes)) ∷ []) 13 bytes s0.there (ap is_number s0.is ∙ h.0) (field_clear (field 21 1 57 (is_refusal (u8 21 bytes))) [] 21 bytes s1.there (ap is_refusal s1.is ∙ h.1) (end_clear 22 bytes (ended 22 bytes s1.after))); is = rw (s0.is, s1.is) refl }
body_ends m from bytes (prepare_all b p) h here =
    let lt = (wide_ballot (group m) b (both_true (is_ballot (group m) b) (eqb (b % 256) from) h.0).0).1 in
    let here' : drop 13 bytes ≡ (to_be_bytes w64 b ++ to_be_bytes w32 p) ++ [] = here ∙ sym (append-nil (to_be_bytes w64 b ++ to_be_bytes w32 p)) in
    let s0 = slot0 bytes b p ([]) lt here' in
    let s1 = slot1 bytes b p ([]) lt h.1 here' in
    record {
      clear = slot_ends (ballot m from 13 bytes) bytes b p ([]) ([]) refl refl lt (λ e. ap (is_ballot_of (group m) from) e ∙ h.0) h.1 here' (end_clear 25 bytes (ended 25 bytes s1.after));
      is = rw (s0.is, s1.is) refl;
    }
body_ends m from bytes (promise_all b p top a) h here =
    let lt = (wide_ballot (group m) b (both_true (is_ballot (group m) b) (eqb (b % 256) m.me) h.0).0).1 in
    let here' : drop 13 bytes ≡ (to_be_bytes w64 b ++ to_be_bytes w32 p) ++ (to_be_bytes w32 top ++ reported a) = here ∙ append_assoc (to_be_bytes w64 b ++ to_be_bytes w32 p) (to_be_bytes w32 top) (reported a) in
    let s0 = slot0 bytes b p ((to_be_bytes w32 top ++ reported a)) lt here' in
    let s1 = slot1 bytes b p ((to_be_bytes w32 top ++ reported a)) lt h.1 here' in
    let top_le = leb-true top 1000000 h.2 in
    let s2 = read32_at 25 bytes top (reported a) (omega arith) s1.after in
    let below : accepted m (u64 13 bytes) 29 bytes ≡ accepted m b 29 bytes = ap (λ (k : ℕ). accepted m k 29 bytes) s0.is in
    let x = reported_ends m b 29 29 bytes a h.3 s2.after in
    record {
      clear = slot_ends (ballot m m.me 13 bytes) bytes b p ((to_be_bytes w32 top ++ reported a)) (field 25 4 57 (is_top (u32 25 bytes)) ∷ accepted m (u64 13 bytes) 29 bytes) refl refl lt (λ e. ap (is_ballot_of (group m) m.me) e ∙ h.0) h.1 here' (field_clear (field 25 4 57 (is_top (u32 25 bytes))) (accepted m (u64 13 bytes) 29 bytes) 25 bytes s2.there (ap is_top s2.is ∙ h.2) (subst (λ (fs : List Field). first_fault fs 29 bytes ≡ None) (sym below) x.clear));
      is = rw (x.is, s0.is, s1.is, s2.is) refl;
    }

-- ---- the whole

pub datagram_again : (m : Membership) (bytes : List ℕ) (from : ℕ) (message : Message) → m.cluster < 2 ^ 32 → DatagramBytes (group m) from m.me message bytes → Ends (fields m bytes) 0 bytes (datagram bytes) (from, message)
datagram_again m bytes from message small_cluster d =
    let k : ℕ = messages.kind message in
    let t : List ℕ = messages.body message in
    let s0 = read32_at 0 bytes 0x50465852 (1 ∷ (to_be_bytes w32 m.cluster ++ (m.members ∷ (from ∷ (m.me ∷ (k ∷ t)))))) (omega arith) d.spelled in
    let s1 = stands8 4 bytes 1 (to_be_bytes w32 m.cluster ++ (m.members ∷ (from ∷ (m.me ∷ (k ∷ t))))) s0.after in
    let s2 = read32_at 5 bytes m.cluster (m.members ∷ (from ∷ (m.me ∷ (k ∷ t)))) small_cluster s1.after in
    let s3 = stands8 9 bytes m.members (from ∷ (m.me ∷ (k ∷ t))) s2.after in
    let s4 = stands8 10 bytes from (m.me ∷ (k ∷ t)) s3.after in
    let s5 = stands8 11 bytes m.me (k ∷ t) s4.after in
    let s6 = stands8 12 bytes k t s5.after in
    let x = body_ends m from bytes message d.fits.body s6.after in
    let tail : first_fault (body m (u8 10 bytes) (u8 12 bytes) bytes) 13 bytes ≡ None = ap (λ (f : ℕ). first_fault (body m f (u8 12 bytes) bytes) 13 bytes) s4.is ∙ ap (λ (f : ℕ). first_fault (body m from f bytes) 13 bytes) s6.is ∙ x.clear in
    let rest6 : List Field = body m (u8 10 bytes) (u8 12 bytes) bytes in
    let f6 : Field = field 12 1 55 (is_kind (u8 10 bytes) m.me (u8 12 bytes)) in
    let f5 : Field = field 11 1 54 (eqb (u8 11 bytes) m.me) in
    let f4 : Field = field 10 1 54 (is_party (group m) (u8 10 bytes)) in
    let f3 : Field = field 9 1 54 (eqb (u8 9 bytes) m.members) in
    let f2 : Field = field 5 4 53 (eqb (u32 5 bytes) m.cluster) in
    let f1 : Field = field 4 1 52 (eqb (u8 4 bytes) 1) in
    let f0 : Field = field 0 4 51 (eqb (u32 0 bytes) 0x50465852) in
    let a6 : is_kind (u8 10 bytes) m.me (u8 12 bytes) ≡ true = ap (λ (f : ℕ). is_kind f m.me (u8 12 bytes)) s4.is ∙ ap (is_kind from m.me) s6.is ∙ d.fits.kind in
    record {
      clear =
          field_clear f0 (f1 ∷ f2 ∷ f3 ∷ f4 ∷ f5 ∷ f6 ∷ rest6) 0 bytes s0.there (eq-eqb _ _ s0.is)
          (field_clear f1 (f2 ∷ f3 ∷ f4 ∷ f5 ∷ f6 ∷ rest6) 4 bytes s1.there (eq-eqb _ _ s1.is)
          (field_clear f2 (f3 ∷ f4 ∷ f5 ∷ f6 ∷ rest6) 5 bytes s2.there (eq-eqb _ _ s2.is)
          (field_clear f3 (f4 ∷ f5 ∷ f6 ∷ rest6) 9 bytes s3.there (eq-eqb _ _ s3.is)
          (field_clear f4 (f5 ∷ f6 ∷ rest6) 10 bytes s4.there (ap (is_party (group m)) s4.is ∙ d.fits.sender)
          (field_clear f5 (f6 ∷ rest6) 11 bytes s5.there (eq-eqb _ _ s5.is)
          (field_clear f6 rest6 12 bytes s6.there a6 tail))))));
      is = ap (λ (f : ℕ). option_map (λ v. (u8 10 bytes, v)) (value f bytes)) s6.is ∙ ap (option_map (λ v. (u8 10 bytes, v))) x.is ∙ ap (λ (f : ℕ). Some (f, message)) s4.is;
    }

pub only_is : {V : Type 0} (view : V → ℕ × Message) (m : Membership) (bytes : List ℕ) (r : Result V WireFault) (from : ℕ) (message : Message) → m.cluster < 2 ^ 32 → Answers (λ x. Some (view x)) r (first_fault (fields m bytes) 0 bytes) (datagram bytes)
    → DatagramBytes (group m) from m.me message bytes → IsOkAnd r (λ x. ((view x).0 ≡ from) × ((view x).1 ≡ message))
only_is view m bytes (Ok x) from message lt e d =
    let a = datagram_again m bytes from message lt d in
    let same : view x ≡ (from, message) = some_is (view x) (from, message) (e.1 ∙ a.is) in
    (ap (λ (p : ℕ × Message). p.0) same, ap (λ (p : ℕ × Message). p.1) same)
only_is view m bytes (Err f) from message lt e d =
    let a = datagram_again m bytes from message lt d in
    absurd (cc (sym e ∙ a.clear))
