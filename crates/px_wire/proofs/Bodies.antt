-- A body without a fault is the spelling of its message.
use Rattle.std.proofs.Common.{◌≡◌, ℕ, ◌+◌, ◌^◌, ◌≤◌, Bool, true, false, cond, ltb, leb, eqb, List, [], ◌∷◌, ◌++◌, length, drop, Option, Some, None, refl, sym, ap, subst, ◌∙◌, append_assoc, arith}
use Rattle.std.specs.Prelude.{◌&&◌, ◌||◌, option_map}
use Rattle.std.specs.Int.{w32, w64, to_be_bytes}
use Rattle.std.proofs.lemmas.Bool.{ltb-true, leb-true, eqb-true, eqb-false}
use Rattle.std.proofs.lemmas.List.{append-nil}
use Rattle.pf_entry.proofs.Takes.{IsBytes, wide32, wide64, both_true, some_is}
use Rattle.px_wire.specs.declared.membership.Membership.{Membership}
use Rattle.px_wire.specs.Message as messages
use Rattle.px_wire.specs.Message.{group, Lent, Message, sized, reported, is_member, is_ballot, is_ballot_of, is_accepted, is_refusal, is_top, IsMembers, IsReported, IsBody}
use Rattle.px_wire.specs.Fields.{field, first_fault, u8, u32, u64, ballot, any_ballot, position, token, promised, entry, entry_value, accepted, accepted_value, body, value, prepare_fields, prepare_value, promise_fields, promise_value, accept_fields, accept_value, vote_fields, vote_value, nack_fields, nack_value, need_fields, need_value, learned_fields, learned_value, ask_fields, ask_value, asked_fields, asked_value, ask_refused_fields, ask_refused_value, prepare_all_fields, prepare_all_value, promise_all_fields, promise_all_value}
use Rattle.px_wire.proofs.Slices.{clear_field, clear_end, cut, cut8, nothing_left, option_map_ok, entry_law}

-- the body is of this kind, allowed, and spelled by the bytes from 13 on
pub record IsBodyOf (m : Membership) (from k : ℕ) (bytes : List ℕ) (message : Message) : Type 0 where
  pub kind_is : messages.kind message ≡ k
  pub allowed : IsBody (group m) from m.me message
  pub body_is : drop 13 bytes ≡ messages.body message

-- a ballot and a position, and what follows
slot : (bytes t : List ℕ) → IsBytes bytes → 25 ≤ length bytes → drop 25 bytes ≡ t → drop 13 bytes ≡ (to_be_bytes w64 (u64 13 bytes) ++ to_be_bytes w32 (u32 21 bytes)) ++ t
slot bytes t fits le is =
    let c0 : drop 13 bytes ≡ to_be_bytes w64 (u64 13 bytes) ++ drop 21 bytes = cut w64 (2 ^ 64) wide64 13 bytes fits (omega arith) in
    let c1 : drop 21 bytes ≡ to_be_bytes w32 (u32 21 bytes) ++ drop 25 bytes = cut w32 (2 ^ 32) wide32 21 bytes fits (omega arith) in
    c0 ∙ ap (λ (x : List ℕ). to_be_bytes w64 (u64 13 bytes) ++ x) (c1 ∙ ap (λ (x : List ℕ). to_be_bytes w32 (u32 21 bytes) ++ x) is) ∙ sym (append_assoc (to_be_bytes w64 (u64 13 bytes)) (to_be_bytes w32 (u32 21 bytes)) t)

-- one number, and what follows
wide : (at : ℕ) (bytes t : List ℕ) → IsBytes bytes → at + 8 ≤ length bytes → drop (at + 8) bytes ≡ t → drop at bytes ≡ to_be_bytes w64 (u64 at bytes) ++ t
wide at bytes t fits le is = cut w64 (2 ^ 64) wide64 at bytes fits le ∙ ap (λ (x : List ℕ). to_be_bytes w64 (u64 at bytes) ++ x) is

narrow : (at : ℕ) (bytes t : List ℕ) → IsBytes bytes → at + 4 ≤ length bytes → drop (at + 4) bytes ≡ t → drop at bytes ≡ to_be_bytes w32 (u32 at bytes) ++ t
narrow at bytes t fits le is = cut w32 (2 ^ 32) wide32 at bytes fits le ∙ ap (λ (x : List ℕ). to_be_bytes w32 (u32 at bytes) ++ x) is

reported_go : (m : Membership) (below at : ℕ) (bytes : List ℕ) (a : Option (ℕ × Lent)) (b : Bool) → eqb (u64 at bytes) 0 ≡ b → IsBytes bytes → at + 8 ≤ length bytes
    → (b || (is_ballot (group m) (u64 at bytes) && ltb (u64 at bytes) below)) ≡ true
    → first_fault (cond b [] (entry (is_member (group m)) (at + 8) bytes)) (at + 8) bytes ≡ None → cond b (Some None) (option_map (λ e. Some (u64 at bytes, e)) (entry_value (at + 8) bytes)) ≡ Some a
    → (drop at bytes ≡ reported a) × IsReported (group m) below a
reported_go m below at bytes a true zero_is fits le allowed clear is =
    let last = clear_end (at + 8) bytes clear in
    let front : drop at bytes ≡ to_be_bytes w64 (u64 at bytes) ++ [] = wide at bytes [] fits le (nothing_left (at + 8) bytes last) in
    let none : drop at bytes ≡ to_be_bytes w64 0 = front ∙ append-nil (to_be_bytes w64 (u64 at bytes)) ∙ ap (to_be_bytes w64) (eqb-true (u64 at bytes) 0 zero_is) in
    subst (λ (y : Option (ℕ × Lent)). (drop at bytes ≡ reported y) × IsReported (group m) below y) (some_is None a is) (none, tt)
reported_go m below at bytes a false zero_is fits le allowed clear is =
    let x = option_map_ok (λ e. Some (u64 at bytes, e)) (entry_value (at + 8) bytes) a is in
    let p = both_true (is_ballot (group m) (u64 at bytes)) (ltb (u64 at bytes) below) allowed in
    let law = entry_law (is_member (group m)) (at + 8) (at + 8) bytes x.0 fits clear x.1 in
    let front : drop at bytes ≡ to_be_bytes w64 (u64 at bytes) ++ sized x.0 = wide at bytes (sized x.0) fits le law.0 in
    subst (λ (y : Option (ℕ × Lent)). (drop at bytes ≡ reported y) × IsReported (group m) below y) x.2 (front, (p.0, ltb-true _ _ p.1, (law.1, law.2)))

reported_law : (m : Membership) (below at end : ℕ) (bytes : List ℕ) (a : Option (ℕ × Lent)) → IsBytes bytes → first_fault (accepted m below at bytes) end bytes ≡ None → accepted_value at bytes ≡ Some a
    → (drop at bytes ≡ reported a) × IsReported (group m) below a
reported_law m below at end bytes a fits clear is =
    let s0 = clear_field (field at 8 57 (is_accepted (group m) below (u64 at bytes))) (cond (eqb (u64 at bytes) 0) [] (entry (is_member (group m)) (at + 8) bytes)) end bytes clear in
    reported_go m below at bytes a (eqb (u64 at bytes) 0) refl fits s0.0 s0.1 s0.2 is

prepare_law : (m : Membership) (from : ℕ) (bytes : List ℕ) (message : Message) → IsBytes bytes → first_fault (prepare_fields m from bytes) 13 bytes ≡ None → prepare_value bytes ≡ Some message → IsBodyOf m from 1 bytes message
prepare_law m from bytes message fits clear is =
    let s0 = clear_field (ballot m from 13 bytes) (position 21 bytes ∷ []) 13 bytes clear in
    let s1 = clear_field (position 21 bytes) ([]) 21 bytes s0.2 in
    let none = nothing_left 25 bytes (clear_end 25 bytes s1.2) in
    subst (λ (y : Message). IsBodyOf m from 1 bytes y) (some_is (messages.prepare (u64 13 bytes) (u32 21 bytes)) message is) (record { kind_is = refl; allowed = (s0.1, s1.1); body_is = slot bytes [] fits s1.0 none ∙ append-nil (to_be_bytes w64 (u64 13 bytes) ++ to_be_bytes w32 (u32 21 bytes)) })

prepare_all_law : (m : Membership) (from : ℕ) (bytes : List ℕ) (message : Message) → IsBytes bytes → first_fault (prepare_all_fields m from bytes) 13 bytes ≡ None → prepare_all_value bytes ≡ Some message → IsBodyOf m from 11 bytes message
prepare_all_law m from bytes message fits clear is =
    let s0 = clear_field (ballot m from 13 bytes) (position 21 bytes ∷ []) 13 bytes clear in
    let s1 = clear_field (position 21 bytes) ([]) 21 bytes s0.2 in
    let none = nothing_left 25 bytes (clear_end 25 bytes s1.2) in
    subst (λ (y : Message). IsBodyOf m from 11 bytes y) (some_is (messages.prepare_all (u64 13 bytes) (u32 21 bytes)) message is) (record { kind_is = refl; allowed = (s0.1, s1.1); body_is = slot bytes [] fits s1.0 none ∙ append-nil (to_be_bytes w64 (u64 13 bytes) ++ to_be_bytes w32 (u32 21 bytes)) })

accept_law : (m : Membership) (from : ℕ) (bytes : List ℕ) (message : Message) → IsBytes bytes → first_fault (accept_fields m from bytes) 13 bytes ≡ None → accept_value bytes ≡ Some message → IsBodyOf m from 3 bytes message
accept_law m from bytes message fits clear is =
    let s0 = clear_field (ballot m from 13 bytes) (position 21 bytes ∷ entry (is_member (group m)) 25 bytes) 13 bytes clear in
    let s1 = clear_field (position 21 bytes) (entry (is_member (group m)) 25 bytes) 21 bytes s0.2 in
    let x = option_map_ok (λ e. messages.accept (u64 13 bytes) (u32 21 bytes) e) (entry_value 25 bytes) message is in
    let law = entry_law (is_member (group m)) 25 25 bytes x.0 fits s1.2 x.1 in
    subst (λ (y : Message). IsBodyOf m from 3 bytes y) x.2 (record { kind_is = refl; allowed = (s0.1, s1.1, (law.1, law.2)); body_is = slot bytes (sized x.0) fits s1.0 law.0 })

vote_law : (m : Membership) (from : ℕ) (bytes : List ℕ) (message : Message) → IsBytes bytes → first_fault (vote_fields m bytes) 13 bytes ≡ None → vote_value bytes ≡ Some message → IsBodyOf m from 4 bytes message
vote_law m from bytes message fits clear is =
    let s0 = clear_field (any_ballot m 13 bytes) (position 21 bytes ∷ entry (is_member (group m)) 25 bytes) 13 bytes clear in
    let s1 = clear_field (position 21 bytes) (entry (is_member (group m)) 25 bytes) 21 bytes s0.2 in
    let x = option_map_ok (λ e. messages.vote (u64 13 bytes) (u32 21 bytes) e) (entry_value 25 bytes) message is in
    let law = entry_law (is_member (group m)) 25 25 bytes x.0 fits s1.2 x.1 in
    subst (λ (y : Message). IsBodyOf m from 4 bytes y) x.2 (record { kind_is = refl; allowed = (s0.1, s1.1, (law.1, law.2)); body_is = slot bytes (sized x.0) fits s1.0 law.0 })

promise_law : (m : Membership) (from : ℕ) (bytes : List ℕ) (message : Message) → IsBytes bytes → first_fault (promise_fields m bytes) 13 bytes ≡ None → promise_value bytes ≡ Some message → IsBodyOf m from 2 bytes message
promise_law m from bytes message fits clear is =
    let s0 = clear_field (ballot m m.me 13 bytes) (position 21 bytes ∷ accepted m (u64 13 bytes) 25 bytes) 13 bytes clear in
    let s1 = clear_field (position 21 bytes) (accepted m (u64 13 bytes) 25 bytes) 21 bytes s0.2 in
    let x = option_map_ok (λ a. messages.promise (u64 13 bytes) (u32 21 bytes) a) (accepted_value 25 bytes) message is in
    let law = reported_law m (u64 13 bytes) 25 25 bytes x.0 fits s1.2 x.1 in
    subst (λ (y : Message). IsBodyOf m from 2 bytes y) x.2 (record { kind_is = refl; allowed = (s0.1, s1.1, law.1); body_is = slot bytes (reported x.0) fits s1.0 law.0 })

nack_law : (m : Membership) (from : ℕ) (bytes : List ℕ) (message : Message) → IsBytes bytes → first_fault (nack_fields m bytes) 13 bytes ≡ None → nack_value bytes ≡ Some message → IsBodyOf m from 5 bytes message
nack_law m from bytes message fits clear is =
    let s0 = clear_field (ballot m m.me 13 bytes) (position 21 bytes ∷ promised m (u64 13 bytes) 25 bytes ∷ []) 13 bytes clear in
    let s1 = clear_field (position 21 bytes) (promised m (u64 13 bytes) 25 bytes ∷ []) 21 bytes s0.2 in
    let s2 = clear_field (promised m (u64 13 bytes) 25 bytes) [] 25 bytes s1.2 in
    let none = nothing_left 33 bytes (clear_end 33 bytes s2.2) in
    let p = both_true (is_ballot (group m) (u64 25 bytes)) (leb (u64 13 bytes) (u64 25 bytes)) s2.1 in
    subst (λ (y : Message). IsBodyOf m from 5 bytes y) (some_is (messages.nack (u64 13 bytes) (u32 21 bytes) (u64 25 bytes)) message is) (record { kind_is = refl; allowed = (s0.1, s1.1, p.0, leb-true _ _ p.1); body_is = slot bytes (to_be_bytes w64 (u64 25 bytes)) fits s1.0 (wide 25 bytes [] fits s2.0 none ∙ append-nil (to_be_bytes w64 (u64 25 bytes))) })

need_law : (m : Membership) (from : ℕ) (bytes : List ℕ) (message : Message) → IsBytes bytes → first_fault (need_fields bytes) 13 bytes ≡ None → need_value bytes ≡ Some message → IsBodyOf m from 6 bytes message
need_law m from bytes message fits clear is =
    let s0 = clear_field (position 13 bytes) [] 13 bytes clear in
    let none = nothing_left 17 bytes (clear_end 17 bytes s0.2) in
    subst (λ (y : Message). IsBodyOf m from 6 bytes y) (some_is (messages.need (u32 13 bytes)) message is) (record { kind_is = refl; allowed = s0.1; body_is = narrow 13 bytes [] fits s0.0 none ∙ append-nil (to_be_bytes w32 (u32 13 bytes)) })

learned_law : (m : Membership) (from : ℕ) (bytes : List ℕ) (message : Message) → IsBytes bytes → first_fault (learned_fields m bytes) 13 bytes ≡ None → learned_value bytes ≡ Some message → IsBodyOf m from 7 bytes message
learned_law m from bytes message fits clear is =
    let s0 = clear_field (position 13 bytes) (entry (is_member (group m)) 17 bytes) 13 bytes clear in
    let x = option_map_ok (λ e. messages.learned (u32 13 bytes) e) (entry_value 17 bytes) message is in
    let law = entry_law (is_member (group m)) 17 17 bytes x.0 fits s0.2 x.1 in
    subst (λ (y : Message). IsBodyOf m from 7 bytes y) x.2 (record { kind_is = refl; allowed = (s0.1, (law.1, law.2)); body_is = narrow 13 bytes (sized x.0) fits s0.0 law.0 })

ask_law : (m : Membership) (from : ℕ) (bytes : List ℕ) (message : Message) → IsBytes bytes → first_fault (ask_fields bytes) 13 bytes ≡ None → ask_value bytes ≡ Some message → IsBodyOf m from 8 bytes message
ask_law m from bytes message fits clear is =
    let x = option_map_ok (λ e. messages.ask e) (entry_value 13 bytes) message is in
    let law = entry_law (λ origin. eqb origin 255) 13 13 bytes x.0 fits clear x.1 in
    subst (λ (y : Message). IsBodyOf m from 8 bytes y) x.2 (record { kind_is = refl; allowed = (law.1, eqb-true _ _ law.2); body_is = law.0 })

asked_law : (m : Membership) (from : ℕ) (bytes : List ℕ) (message : Message) → IsBytes bytes → first_fault (asked_fields bytes) 13 bytes ≡ None → asked_value bytes ≡ Some message → IsBodyOf m from 9 bytes message
asked_law m from bytes message fits clear is =
    let s0 = clear_field (token 13 bytes) (token 21 bytes ∷ []) 13 bytes clear in
    let s1 = clear_field (token 21 bytes) [] 21 bytes s0.2 in
    let none = nothing_left 29 bytes (clear_end 29 bytes s1.2) in
    subst (λ (y : Message). IsBodyOf m from 9 bytes y) (some_is (messages.asked (u64 13 bytes) (u64 21 bytes)) message is) (record { kind_is = refl; allowed = (s0.1, s1.1); body_is = wide 13 bytes (to_be_bytes w64 (u64 21 bytes)) fits s0.0 (wide 21 bytes [] fits s1.0 none ∙ append-nil (to_be_bytes w64 (u64 21 bytes))) })

ask_refused_law : (m : Membership) (from : ℕ) (bytes : List ℕ) (message : Message) → IsBytes bytes → first_fault (ask_refused_fields bytes) 13 bytes ≡ None → ask_refused_value bytes ≡ Some message → IsBodyOf m from 10 bytes message
ask_refused_law m from bytes message fits clear is =
    let s0 = clear_field (token 13 bytes) (field 21 1 57 (is_refusal (u8 21 bytes)) ∷ []) 13 bytes clear in
    let s1 = clear_field (field 21 1 57 (is_refusal (u8 21 bytes))) [] 21 bytes s0.2 in
    let none = nothing_left 22 bytes (clear_end 22 bytes s1.2) in
    subst (λ (y : Message). IsBodyOf m from 10 bytes y) (some_is (messages.ask_refused (u64 13 bytes) (u8 21 bytes)) message is) (record { kind_is = refl; allowed = (s0.1, s1.1); body_is = wide 13 bytes (u8 21 bytes ∷ []) fits s0.0 (cut8 21 bytes fits s1.0 ∙ ap (λ (t : List ℕ). u8 21 bytes ∷ t) none) })

promise_all_law : (m : Membership) (from : ℕ) (bytes : List ℕ) (message : Message) → IsBytes bytes → first_fault (promise_all_fields m bytes) 13 bytes ≡ None → promise_all_value bytes ≡ Some message → IsBodyOf m from 12 bytes message
promise_all_law m from bytes message fits clear is =
    let s0 = clear_field (ballot m m.me 13 bytes) (position 21 bytes ∷ field 25 4 57 (is_top (u32 25 bytes)) ∷ accepted m (u64 13 bytes) 29 bytes) 13 bytes clear in
    let s1 = clear_field (position 21 bytes) (field 25 4 57 (is_top (u32 25 bytes)) ∷ accepted m (u64 13 bytes) 29 bytes) 21 bytes s0.2 in
    let s2 = clear_field (field 25 4 57 (is_top (u32 25 bytes))) (accepted m (u64 13 bytes) 29 bytes) 25 bytes s1.2 in
    let x = option_map_ok (λ a. messages.promise_all (u64 13 bytes) (u32 21 bytes) (u32 25 bytes) a) (accepted_value 29 bytes) message is in
    let law = reported_law m (u64 13 bytes) 29 29 bytes x.0 fits s2.2 x.1 in
    subst (λ (y : Message). IsBodyOf m from 12 bytes y) x.2 (record { kind_is = refl; allowed = (s0.1, s1.1, s2.1, law.1); body_is = slot bytes (to_be_bytes w32 (u32 25 bytes) ++ reported x.0) fits s1.0 (narrow 25 bytes (reported x.0) fits s2.0 law.0) ∙ sym (append_assoc (to_be_bytes w64 (u64 13 bytes) ++ to_be_bytes w32 (u32 21 bytes)) (to_be_bytes w32 (u32 25 bytes)) (reported x.0)) })

along : (m : Membership) (from k k' : ℕ) (bytes : List ℕ) (message : Message) → k' ≡ k → IsBodyOf m from k' bytes message → IsBodyOf m from k bytes message
along m from k k' bytes message e law = record { kind_is = law.kind_is ∙ e; allowed = law.allowed; body_is = law.body_is }

from_12 : (m : Membership) (from k : ℕ) (bytes : List ℕ) (message : Message) → 12 ≤ k → k ≤ 12 → IsBytes bytes → first_fault (promise_all_fields m bytes) 13 bytes ≡ None → promise_all_value bytes ≡ Some message → IsBodyOf m from k bytes message
from_12 m from k bytes message lo hi fits clear is = along m from k 12 bytes message (omega arith) (promise_all_law m from bytes message fits clear is)

from_11 : (m : Membership) (from k : ℕ) (bytes : List ℕ) (message : Message) → 11 ≤ k → k ≤ 12 → IsBytes bytes → first_fault (cond (eqb k 11) (prepare_all_fields m from bytes) (promise_all_fields m bytes)) 13 bytes ≡ None → cond (eqb k 11) (prepare_all_value bytes) (promise_all_value bytes) ≡ Some message → IsBodyOf m from k bytes message
from_11 m from k bytes message lo hi fits clear is = go (eqb k 11) refl clear is
  where
    go : (b : Bool) → eqb k 11 ≡ b → first_fault (cond b (prepare_all_fields m from bytes) (promise_all_fields m bytes)) 13 bytes ≡ None → cond b (prepare_all_value bytes) (promise_all_value bytes) ≡ Some message → IsBodyOf m from k bytes message
    go true test clear' is' = along m from k 11 bytes message (sym (eqb-true k 11 test)) (prepare_all_law m from bytes message fits clear' is')
    go false test clear' is' = from_12 m from k bytes message (omega (arith, eqb-false k 11 test)) hi fits clear' is'

from_10 : (m : Membership) (from k : ℕ) (bytes : List ℕ) (message : Message) → 10 ≤ k → k ≤ 12 → IsBytes bytes → first_fault (cond (eqb k 10) (ask_refused_fields bytes) (cond (eqb k 11) (prepare_all_fields m from bytes) (promise_all_fields m bytes))) 13 bytes ≡ None → cond (eqb k 10) (ask_refused_value bytes) (cond (eqb k 11) (prepare_all_value bytes) (promise_all_value bytes)) ≡ Some message → IsBodyOf m from k bytes message
from_10 m from k bytes message lo hi fits clear is = go (eqb k 10) refl clear is
  where
    go : (b : Bool) → eqb k 10 ≡ b → first_fault (cond b (ask_refused_fields bytes) (cond (eqb k 11) (prepare_all_fields m from bytes) (promise_all_fields m bytes))) 13 bytes ≡ None → cond b (ask_refused_value bytes) (cond (eqb k 11) (prepare_all_value bytes) (promise_all_value bytes)) ≡ Some message → IsBodyOf m from k bytes message
    go true test clear' is' = along m from k 10 bytes message (sym (eqb-true k 10 test)) (ask_refused_law m from bytes message fits clear' is')
    go false test clear' is' = from_11 m from k bytes message (omega (arith, eqb-false k 10 test)) hi fits clear' is'

from_9 : (m : Membership) (from k : ℕ) (bytes : List ℕ) (message : Message) → 9 ≤ k → k ≤ 12 → IsBytes bytes → first_fault (cond (eqb k 9) (asked_fields bytes) (cond (eqb k 10) (ask_refused_fields bytes) (cond (eqb k 11) (prepare_all_fields m from bytes) (promise_all_fields m bytes)))) 13 bytes ≡ None → cond (eqb k 9) (asked_value bytes) (cond (eqb k 10) (ask_refused_value bytes) (cond (eqb k 11) (prepare_all_value bytes) (promise_all_value bytes))) ≡ Some message → IsBodyOf m from k bytes message
from_9 m from k bytes message lo hi fits clear is = go (eqb k 9) refl clear is
  where
    go : (b : Bool) → eqb k 9 ≡ b → first_fault (cond b (asked_fields bytes) (cond (eqb k 10) (ask_refused_fields bytes) (cond (eqb k 11) (prepare_all_fields m from bytes) (promise_all_fields m bytes)))) 13 bytes ≡ None → cond b (asked_value bytes) (cond (eqb k 10) (ask_refused_value bytes) (cond (eqb k 11) (prepare_all_value bytes) (promise_all_value bytes))) ≡ Some message → IsBodyOf m from k bytes message
    go true test clear' is' = along m from k 9 bytes message (sym (eqb-true k 9 test)) (asked_law m from bytes message fits clear' is')
    go false test clear' is' = from_10 m from k bytes message (omega (arith, eqb-false k 9 test)) hi fits clear' is'

from_8 : (m : Membership) (from k : ℕ) (bytes : List ℕ) (message : Message) → 8 ≤ k → k ≤ 12 → IsBytes bytes → first_fault (cond (eqb k 8) (ask_fields bytes) (cond (eqb k 9) (asked_fields bytes) (cond (eqb k 10) (ask_refused_fields bytes) (cond (eqb k 11) (prepare_all_fields m from bytes) (promise_all_fields m bytes))))) 13 bytes ≡ None → cond (eqb k 8) (ask_value bytes) (cond (eqb k 9) (asked_value bytes) (cond (eqb k 10) (ask_refused_value bytes) (cond (eqb k 11) (prepare_all_value bytes) (promise_all_value bytes)))) ≡ Some message → IsBodyOf m from k bytes message
from_8 m from k bytes message lo hi fits clear is = go (eqb k 8) refl clear is
  where
    go : (b : Bool) → eqb k 8 ≡ b → first_fault (cond b (ask_fields bytes) (cond (eqb k 9) (asked_fields bytes) (cond (eqb k 10) (ask_refused_fields bytes) (cond (eqb k 11) (prepare_all_fields m from bytes) (promise_all_fields m bytes))))) 13 bytes ≡ None → cond b (ask_value bytes) (cond (eqb k 9) (asked_value bytes) (cond (eqb k 10) (ask_refused_value bytes) (cond (eqb k 11) (prepare_all_value bytes) (promise_all_value bytes)))) ≡ Some message → IsBodyOf m from k bytes message
    go true test clear' is' = along m from k 8 bytes message (sym (eqb-true k 8 test)) (ask_law m from bytes message fits clear' is')
    go false test clear' is' = from_9 m from k bytes message (omega (arith, eqb-false k 8 test)) hi fits clear' is'

from_7 : (m : Membership) (from k : ℕ) (bytes : List ℕ) (message : Message) → 7 ≤ k → k ≤ 12 → IsBytes bytes → first_fault (cond (eqb k 7) (learned_fields m bytes) (cond (eqb k 8) (ask_fields bytes) (cond (eqb k 9) (asked_fields bytes) (cond (eqb k 10) (ask_refused_fields bytes) (cond (eqb k 11) (prepare_all_fields m from bytes) (promise_all_fields m bytes)))))) 13 bytes ≡ None → cond (eqb k 7) (learned_value bytes) (cond (eqb k 8) (ask_value bytes) (cond (eqb k 9) (asked_value bytes) (cond (eqb k 10) (ask_refused_value bytes) (cond (eqb k 11) (prepare_all_value bytes) (promise_all_value bytes))))) ≡ Some message → IsBodyOf m from k bytes message
from_7 m from k bytes message lo hi fits clear is = go (eqb k 7) refl clear is
  where
    go : (b : Bool) → eqb k 7 ≡ b → first_fault (cond b (learned_fields m bytes) (cond (eqb k 8) (ask_fields bytes) (cond (eqb k 9) (asked_fields bytes) (cond (eqb k 10) (ask_refused_fields bytes) (cond (eqb k 11) (prepare_all_fields m from bytes) (promise_all_fields m bytes)))))) 13 bytes ≡ None → cond b (learned_value bytes) (cond (eqb k 8) (ask_value bytes) (cond (eqb k 9) (asked_value bytes) (cond (eqb k 10) (ask_refused_value bytes) (cond (eqb k 11) (prepare_all_value bytes) (promise_all_value bytes))))) ≡ Some message → IsBodyOf m from k bytes message
    go true test clear' is' = along m from k 7 bytes message (sym (eqb-true k 7 test)) (learned_law m from bytes message fits clear' is')
    go false test clear' is' = from_8 m from k bytes message (omega (arith, eqb-false k 7 test)) hi fits clear' is'

from_6 : (m : Membership) (from k : ℕ) (bytes : List ℕ) (message : Message) → 6 ≤ k → k ≤ 12 → IsBytes bytes → first_fault (cond (eqb k 6) (need_fields bytes) (cond (eqb k 7) (learned_fields m bytes) (cond (eqb k 8) (ask_fields bytes) (cond (eqb k 9) (asked_fields bytes) (cond (eqb k 10) (ask_refused_fields bytes) (cond (eqb k 11) (prepare_all_fields m from bytes) (promise_all_fields m bytes))))))) 13 bytes ≡ None → cond (eqb k 6) (need_value bytes) (cond (eqb k 7) (learned_value bytes) (cond (eqb k 8) (ask_value bytes) (cond (eqb k 9) (asked_value bytes) (cond (eqb k 10) (ask_refused_value bytes) (cond (eqb k 11) (prepare_all_value bytes) (promise_all_value bytes)))))) ≡ Some message → IsBodyOf m from k bytes message
from_6 m from k bytes message lo hi fits clear is = go (eqb k 6) refl clear is
  where
    go : (b : Bool) → eqb k 6 ≡ b → first_fault (cond b (need_fields bytes) (cond (eqb k 7) (learned_fields m bytes) (cond (eqb k 8) (ask_fields bytes) (cond (eqb k 9) (asked_fields bytes) (cond (eqb k 10) (ask_refused_fields bytes) (cond (eqb k 11) (prepare_all_fields m from bytes) (promise_all_fields m bytes))))))) 13 bytes ≡ None → cond b (need_value bytes) (cond (eqb k 7) (learned_value bytes) (cond (eqb k 8) (ask_value bytes) (cond (eqb k 9) (asked_value bytes) (cond (eqb k 10) (ask_refused_value bytes) (cond (eqb k 11) (prepare_all_value bytes) (promise_all_value bytes)))))) ≡ Some message → IsBodyOf m from k bytes message
    go true test clear' is' = along m from k 6 bytes message (sym (eqb-true k 6 test)) (need_law m from bytes message fits clear' is')
    go false test clear' is' = from_7 m from k bytes message (omega (arith, eqb-false k 6 test)) hi fits clear' is'

from_5 : (m : Membership) (from k : ℕ) (bytes : List ℕ) (message : Message) → 5 ≤ k → k ≤ 12 → IsBytes bytes → first_fault (cond (eqb k 5) (nack_fields m bytes) (cond (eqb k 6) (need_fields bytes) (cond (eqb k 7) (learned_fields m bytes) (cond (eqb k 8) (ask_fields bytes) (cond (eqb k 9) (asked_fields bytes) (cond (eqb k 10) (ask_refused_fields bytes) (cond (eqb k 11) (prepare_all_fields m from bytes) (promise_all_fields m bytes)))))))) 13 bytes ≡ None → cond (eqb k 5) (nack_value bytes) (cond (eqb k 6) (need_value bytes) (cond (eqb k 7) (learned_value bytes) (cond (eqb k 8) (ask_value bytes) (cond (eqb k 9) (asked_value bytes) (cond (eqb k 10) (ask_refused_value bytes) (cond (eqb k 11) (prepare_all_value bytes) (promise_all_value bytes))))))) ≡ Some message → IsBodyOf m from k bytes message
from_5 m from k bytes message lo hi fits clear is = go (eqb k 5) refl clear is
  where
    go : (b : Bool) → eqb k 5 ≡ b → first_fault (cond b (nack_fields m bytes) (cond (eqb k 6) (need_fields bytes) (cond (eqb k 7) (learned_fields m bytes) (cond (eqb k 8) (ask_fields bytes) (cond (eqb k 9) (asked_fields bytes) (cond (eqb k 10) (ask_refused_fields bytes) (cond (eqb k 11) (prepare_all_fields m from bytes) (promise_all_fields m bytes)))))))) 13 bytes ≡ None → cond b (nack_value bytes) (cond (eqb k 6) (need_value bytes) (cond (eqb k 7) (learned_value bytes) (cond (eqb k 8) (ask_value bytes) (cond (eqb k 9) (asked_value bytes) (cond (eqb k 10) (ask_refused_value bytes) (cond (eqb k 11) (prepare_all_value bytes) (promise_all_value bytes))))))) ≡ Some message → IsBodyOf m from k bytes message
    go true test clear' is' = along m from k 5 bytes message (sym (eqb-true k 5 test)) (nack_law m from bytes message fits clear' is')
    go false test clear' is' = from_6 m from k bytes message (omega (arith, eqb-false k 5 test)) hi fits clear' is'

from_4 : (m : Membership) (from k : ℕ) (bytes : List ℕ) (message : Message) → 4 ≤ k → k ≤ 12 → IsBytes bytes → first_fault (cond (eqb k 4) (vote_fields m bytes) (cond (eqb k 5) (nack_fields m bytes) (cond (eqb k 6) (need_fields bytes) (cond (eqb k 7) (learned_fields m bytes) (cond (eqb k 8) (ask_fields bytes) (cond (eqb k 9) (asked_fields bytes) (cond (eqb k 10) (ask_refused_fields bytes) (cond (eqb k 11) (prepare_all_fields m from bytes) (promise_all_fields m bytes))))))))) 13 bytes ≡ None → cond (eqb k 4) (vote_value bytes) (cond (eqb k 5) (nack_value bytes) (cond (eqb k 6) (need_value bytes) (cond (eqb k 7) (learned_value bytes) (cond (eqb k 8) (ask_value bytes) (cond (eqb k 9) (asked_value bytes) (cond (eqb k 10) (ask_refused_value bytes) (cond (eqb k 11) (prepare_all_value bytes) (promise_all_value bytes)))))))) ≡ Some message → IsBodyOf m from k bytes message
from_4 m from k bytes message lo hi fits clear is = go (eqb k 4) refl clear is
  where
    go : (b : Bool) → eqb k 4 ≡ b → first_fault (cond b (vote_fields m bytes) (cond (eqb k 5) (nack_fields m bytes) (cond (eqb k 6) (need_fields bytes) (cond (eqb k 7) (learned_fields m bytes) (cond (eqb k 8) (ask_fields bytes) (cond (eqb k 9) (asked_fields bytes) (cond (eqb k 10) (ask_refused_fields bytes) (cond (eqb k 11) (prepare_all_fields m from bytes) (promise_all_fields m bytes))))))))) 13 bytes ≡ None → cond b (vote_value bytes) (cond (eqb k 5) (nack_value bytes) (cond (eqb k 6) (need_value bytes) (cond (eqb k 7) (learned_value bytes) (cond (eqb k 8) (ask_value bytes) (cond (eqb k 9) (asked_value bytes) (cond (eqb k 10) (ask_refused_value bytes) (cond (eqb k 11) (prepare_all_value bytes) (promise_all_value bytes)))))))) ≡ Some message → IsBodyOf m from k bytes message
    go true test clear' is' = along m from k 4 bytes message (sym (eqb-true k 4 test)) (vote_law m from bytes message fits clear' is')
    go false test clear' is' = from_5 m from k bytes message (omega (arith, eqb-false k 4 test)) hi fits clear' is'

from_3 : (m : Membership) (from k : ℕ) (bytes : List ℕ) (message : Message) → 3 ≤ k → k ≤ 12 → IsBytes bytes → first_fault (cond (eqb k 3) (accept_fields m from bytes) (cond (eqb k 4) (vote_fields m bytes) (cond (eqb k 5) (nack_fields m bytes) (cond (eqb k 6) (need_fields bytes) (cond (eqb k 7) (learned_fields m bytes) (cond (eqb k 8) (ask_fields bytes) (cond (eqb k 9) (asked_fields bytes) (cond (eqb k 10) (ask_refused_fields bytes) (cond (eqb k 11) (prepare_all_fields m from bytes) (promise_all_fields m bytes)))))))))) 13 bytes ≡ None → cond (eqb k 3) (accept_value bytes) (cond (eqb k 4) (vote_value bytes) (cond (eqb k 5) (nack_value bytes) (cond (eqb k 6) (need_value bytes) (cond (eqb k 7) (learned_value bytes) (cond (eqb k 8) (ask_value bytes) (cond (eqb k 9) (asked_value bytes) (cond (eqb k 10) (ask_refused_value bytes) (cond (eqb k 11) (prepare_all_value bytes) (promise_all_value bytes))))))))) ≡ Some message → IsBodyOf m from k bytes message
from_3 m from k bytes message lo hi fits clear is = go (eqb k 3) refl clear is
  where
    go : (b : Bool) → eqb k 3 ≡ b → first_fault (cond b (accept_fields m from bytes) (cond (eqb k 4) (vote_fields m bytes) (cond (eqb k 5) (nack_fields m bytes) (cond (eqb k 6) (need_fields bytes) (cond (eqb k 7) (learned_fields m bytes) (cond (eqb k 8) (ask_fields bytes) (cond (eqb k 9) (asked_fields bytes) (cond (eqb k 10) (ask_refused_fields bytes) (cond (eqb k 11) (prepare_all_fields m from bytes) (promise_all_fields m bytes)))))))))) 13 bytes ≡ None → cond b (accept_value bytes) (cond (eqb k 4) (vote_value bytes) (cond (eqb k 5) (nack_value bytes) (cond (eqb k 6) (need_value bytes) (cond (eqb k 7) (learned_value bytes) (cond (eqb k 8) (ask_value bytes) (cond (eqb k 9) (asked_value bytes) (cond (eqb k 10) (ask_refused_value bytes) (cond (eqb k 11) (prepare_all_value bytes) (promise_all_value bytes))))))))) ≡ Some message → IsBodyOf m from k bytes message
    go true test clear' is' = along m from k 3 bytes message (sym (eqb-true k 3 test)) (accept_law m from bytes message fits clear' is')
    go false test clear' is' = from_4 m from k bytes message (omega (arith, eqb-false k 3 test)) hi fits clear' is'

from_2 : (m : Membership) (from k : ℕ) (bytes : List ℕ) (message : Message) → 2 ≤ k → k ≤ 12 → IsBytes bytes → first_fault (cond (eqb k 2) (promise_fields m bytes) (cond (eqb k 3) (accept_fields m from bytes) (cond (eqb k 4) (vote_fields m bytes) (cond (eqb k 5) (nack_fields m bytes) (cond (eqb k 6) (need_fields bytes) (cond (eqb k 7) (learned_fields m bytes) (cond (eqb k 8) (ask_fields bytes) (cond (eqb k 9) (asked_fields bytes) (cond (eqb k 10) (ask_refused_fields bytes) (cond (eqb k 11) (prepare_all_fields m from bytes) (promise_all_fields m bytes))))))))))) 13 bytes ≡ None → cond (eqb k 2) (promise_value bytes) (cond (eqb k 3) (accept_value bytes) (cond (eqb k 4) (vote_value bytes) (cond (eqb k 5) (nack_value bytes) (cond (eqb k 6) (need_value bytes) (cond (eqb k 7) (learned_value bytes) (cond (eqb k 8) (ask_value bytes) (cond (eqb k 9) (asked_value bytes) (cond (eqb k 10) (ask_refused_value bytes) (cond (eqb k 11) (prepare_all_value bytes) (promise_all_value bytes)))))))))) ≡ Some message → IsBodyOf m from k bytes message
from_2 m from k bytes message lo hi fits clear is = go (eqb k 2) refl clear is
  where
    go : (b : Bool) → eqb k 2 ≡ b → first_fault (cond b (promise_fields m bytes) (cond (eqb k 3) (accept_fields m from bytes) (cond (eqb k 4) (vote_fields m bytes) (cond (eqb k 5) (nack_fields m bytes) (cond (eqb k 6) (need_fields bytes) (cond (eqb k 7) (learned_fields m bytes) (cond (eqb k 8) (ask_fields bytes) (cond (eqb k 9) (asked_fields bytes) (cond (eqb k 10) (ask_refused_fields bytes) (cond (eqb k 11) (prepare_all_fields m from bytes) (promise_all_fields m bytes))))))))))) 13 bytes ≡ None → cond b (promise_value bytes) (cond (eqb k 3) (accept_value bytes) (cond (eqb k 4) (vote_value bytes) (cond (eqb k 5) (nack_value bytes) (cond (eqb k 6) (need_value bytes) (cond (eqb k 7) (learned_value bytes) (cond (eqb k 8) (ask_value bytes) (cond (eqb k 9) (asked_value bytes) (cond (eqb k 10) (ask_refused_value bytes) (cond (eqb k 11) (prepare_all_value bytes) (promise_all_value bytes)))))))))) ≡ Some message → IsBodyOf m from k bytes message
    go true test clear' is' = along m from k 2 bytes message (sym (eqb-true k 2 test)) (promise_law m from bytes message fits clear' is')
    go false test clear' is' = from_3 m from k bytes message (omega (arith, eqb-false k 2 test)) hi fits clear' is'

from_1 : (m : Membership) (from k : ℕ) (bytes : List ℕ) (message : Message) → 1 ≤ k → k ≤ 12 → IsBytes bytes → first_fault (cond (eqb k 1) (prepare_fields m from bytes) (cond (eqb k 2) (promise_fields m bytes) (cond (eqb k 3) (accept_fields m from bytes) (cond (eqb k 4) (vote_fields m bytes) (cond (eqb k 5) (nack_fields m bytes) (cond (eqb k 6) (need_fields bytes) (cond (eqb k 7) (learned_fields m bytes) (cond (eqb k 8) (ask_fields bytes) (cond (eqb k 9) (asked_fields bytes) (cond (eqb k 10) (ask_refused_fields bytes) (cond (eqb k 11) (prepare_all_fields m from bytes) (promise_all_fields m bytes)))))))))))) 13 bytes ≡ None → cond (eqb k 1) (prepare_value bytes) (cond (eqb k 2) (promise_value bytes) (cond (eqb k 3) (accept_value bytes) (cond (eqb k 4) (vote_value bytes) (cond (eqb k 5) (nack_value bytes) (cond (eqb k 6) (need_value bytes) (cond (eqb k 7) (learned_value bytes) (cond (eqb k 8) (ask_value bytes) (cond (eqb k 9) (asked_value bytes) (cond (eqb k 10) (ask_refused_value bytes) (cond (eqb k 11) (prepare_all_value bytes) (promise_all_value bytes))))))))))) ≡ Some message → IsBodyOf m from k bytes message
from_1 m from k bytes message lo hi fits clear is = go (eqb k 1) refl clear is
  where
    go : (b : Bool) → eqb k 1 ≡ b → first_fault (cond b (prepare_fields m from bytes) (cond (eqb k 2) (promise_fields m bytes) (cond (eqb k 3) (accept_fields m from bytes) (cond (eqb k 4) (vote_fields m bytes) (cond (eqb k 5) (nack_fields m bytes) (cond (eqb k 6) (need_fields bytes) (cond (eqb k 7) (learned_fields m bytes) (cond (eqb k 8) (ask_fields bytes) (cond (eqb k 9) (asked_fields bytes) (cond (eqb k 10) (ask_refused_fields bytes) (cond (eqb k 11) (prepare_all_fields m from bytes) (promise_all_fields m bytes)))))))))))) 13 bytes ≡ None → cond b (prepare_value bytes) (cond (eqb k 2) (promise_value bytes) (cond (eqb k 3) (accept_value bytes) (cond (eqb k 4) (vote_value bytes) (cond (eqb k 5) (nack_value bytes) (cond (eqb k 6) (need_value bytes) (cond (eqb k 7) (learned_value bytes) (cond (eqb k 8) (ask_value bytes) (cond (eqb k 9) (asked_value bytes) (cond (eqb k 10) (ask_refused_value bytes) (cond (eqb k 11) (prepare_all_value bytes) (promise_all_value bytes))))))))))) ≡ Some message → IsBodyOf m from k bytes message
    go true test clear' is' = along m from k 1 bytes message (sym (eqb-true k 1 test)) (prepare_law m from bytes message fits clear' is')
    go false test clear' is' = from_2 m from k bytes message (omega (arith, eqb-false k 1 test)) hi fits clear' is'

-- the body of a datagram without a fault
pub body_law : (m : Membership) (from k : ℕ) (bytes : List ℕ) (message : Message) → 1 ≤ k → k ≤ 12 → IsBytes bytes → first_fault (body m from k bytes) 13 bytes ≡ None → value k bytes ≡ Some message → IsBodyOf m from k bytes message
body_law m from k bytes message lo hi fits clear is = from_1 m from k bytes message lo hi fits clear is
