-- A node commits a change, takes a new volatile part and sends one message to some: the invariant is kept where the
-- change, the message and the volatile part are right.
use Rattle.std.proofs.Common.{◌≡◌, ℕ, ◌+◌, ◌*◌, ◌<◌, ◌≤◌, Bool, ◌⊎◌, inl, inr, List, [], ◌∷◌, ◌++◌, Option, Some, None, arith, refl, sym, ap, subst, subst₂, ◌∙◌, le_refl, lt_of_lt_of_le}
use Rattle.px_model.specs.Node.{Entry, Proposal, Slot, Meta, Record, Change, Volatile, Message, Envelope, Input}
use Rattle.px_model.specs.Node.Change.{NewRound, NewNumber, NewFloor, NewPromise, NewAccepted, NewLearned}
use Rattle.px_model.specs.Node.Message.{Accept}
use Rattle.px_model.specs.Step.{promised_at, commit}
use Rattle.px_model.specs.World.{World, NodeState, Learning, moved, learned_by, to_members, command_of, asked_by}
use Rattle.px_model.specs.Law.{Among, HasSent, HasLearned, Chosen}
use Rattle.px_model.proofs.Basics.{among_left, among_right, among_cases, among_to_members, put_same, put_other, put_all}
use Rattle.px_model.proofs.Backed.{Acceptance, Accepted, record_of, promised_in, AtMost}
use Rattle.px_model.proofs.Invariant.{Owned, Proposed, SentOk, IsReal, SlotOk, RecordOk, VolatileOk, NamedOnce, Inv}
use Rattle.px_model.proofs.Later.{Later, sent_later, chosen_later, volatile_later, owned_later}

-- ---- the change

-- what a change adds to the history
abbrev pub history_by : {C : Type 0} → (m : ℕ) → Option (Change C) → List (Acceptance C)
history_by m (Some (NewAccepted p b e)) = record { member = m; position = p; ballot = b; entry = e } ∷ []
history_by m _ = []

abbrev pub ChangeOk : {C : Type 0} → (n : ℕ) → World C → Record C → Option (Change C) → Type 0
ChangeOk n w d None = Unit {0}
ChangeOk n w d (Some (NewRound r)) = d.meta.round ≤ r
ChangeOk n w d (Some (NewNumber k)) = k ≡ d.meta.number + 1
ChangeOk n w d (Some (NewFloor b)) = d.meta.floor ≤ b
ChangeOk n w d (Some (NewPromise p b)) = promised_at d.meta (d.slots p) ≤ b
ChangeOk n w d (Some (NewAccepted p b e)) = (promised_at d.meta (d.slots p) ≤ b) × ((k : ℕ) × HasSent w k (Accept b p e))
ChangeOk n w d (Some (NewLearned p e)) = (d.learned p ≡ None) × Chosen n w p e

pub record Grows {C : Type 0} (d d' : Record C) : Type 0 where
  pub promised : (p : ℕ) → promised_at d.meta (d.slots p) ≤ promised_at d'.meta (d'.slots p)
  pub round : d.meta.round ≤ d'.meta.round
  pub number : d.meta.number ≤ d'.meta.number
  pub learned : (p : ℕ) (e : Entry C) → d.learned p ≡ Some e → d'.learned p ≡ Some e

pub grows : {C : Type 0} (n : ℕ) (w : World C) (d : Record C) (ch : Option (Change C)) → ChangeOk n w d ch → Grows d (commit ch d)
grows n w d None ok = record { promised = λ p. le_refl _; round = le_refl _; number = le_refl _; learned = λ p e is. is }
grows n w d (Some (NewRound r)) ok = record { promised = λ p. le_refl _; round = ok; number = le_refl _; learned = λ p e is. is }
grows n w d (Some (NewNumber k)) ok = record { promised = λ p. le_refl _; round = le_refl _; number = omega arith; learned = λ p e is. is }
grows n w d (Some (NewFloor b)) ok = record { promised = λ p. omega arith; round = le_refl _; number = le_refl _; learned = λ p e is. is }
grows {C} n w d (Some (NewPromise p b)) ok = record {
  promised = put_all (λ (q : ℕ) (s : Slot C). promised_at d.meta (d.slots q) ≤ promised_at d.meta s) d.slots p _ (omega arith) (λ q ne. le_refl _);
  round = le_refl _;
  number = le_refl _;
  learned = λ p e is. is;
}
grows {C} n w d (Some (NewAccepted p b e)) ok = record {
  promised = put_all (λ (q : ℕ) (s : Slot C). promised_at d.meta (d.slots q) ≤ promised_at d.meta s) d.slots p _ (let u = ok.0 in omega arith) (λ q ne. le_refl _);
  round = le_refl _;
  number = le_refl _;
  learned = λ p e is. is;
}
grows {C} n w d (Some (NewLearned p e)) ok = record {
  promised = λ p. le_refl _;
  round = le_refl _;
  number = le_refl _;
  learned = put_all (λ (q : ℕ) (o : Option (Entry C)). (f : Entry C) → d.learned q ≡ Some f → o ≡ Some f) d.learned p (Some e)
      (λ f is. let no = ok.0 in absurd (cc)) (λ q ne f is. is);
}

-- ---- the history

-- what is in the history anew is m's, and the change's
pub history_cases : {C : Type 0} (m : ℕ) (ch : Option (Change C)) (h : List (Acceptance C)) (k p b : ℕ) (e : Entry C) → Accepted (history_by m ch ++ h) k p b e → Accepted h k p b e ⊎ ((k ≡ m) × (ch ≡ Some (NewAccepted p b e)))
history_cases {C} m (Some (NewAccepted q c f)) h k p b e a =
    elim a [
      | inl is ↦ inr (
        sym (ap (λ (x : Acceptance C). x.member) is),
        ap (λ (x : Acceptance C). Some (NewAccepted x.position x.ballot x.entry)) is,
      )
      | inr old ↦ inl old
    ]
history_cases m None h k p b e a = inl a
history_cases m (Some (NewRound r)) h k p b e a = inl a
history_cases m (Some (NewNumber r)) h k p b e a = inl a
history_cases m (Some (NewFloor r)) h k p b e a = inl a
history_cases m (Some (NewPromise q r)) h k p b e a = inl a
history_cases m (Some (NewLearned q f)) h k p b e a = inl a

learned_cases : {C : Type 0} (m : ℕ) (ch : Option (Change C)) (xs : List (Learning C)) (k p : ℕ) (e : Entry C) → Among (learned_by m ch ++ xs) (record { member = k; position = p; entry = e }) → Among xs (record { member = k; position = p; entry = e }) ⊎ ((k ≡ m) × (ch ≡ Some (NewLearned p e)))
learned_cases {C} m (Some (NewLearned q f)) xs k p e a =
    elim a [
      | inl is ↦ inr (
        sym (ap (λ (x : Learning C). x.member) is),
        ap (λ (x : Learning C). Some (NewLearned x.position x.entry)) is,
      )
      | inr old ↦ inl old
    ]
learned_cases m None xs k p e a = inl a
learned_cases m (Some (NewRound r)) xs k p e a = inl a
learned_cases m (Some (NewNumber r)) xs k p e a = inl a
learned_cases m (Some (NewFloor r)) xs k p e a = inl a
learned_cases m (Some (NewPromise q r)) xs k p e a = inl a
learned_cases m (Some (NewAccepted q r f)) xs k p e a = inl a

-- an entry that is asked anew has the number that the change passes
asked_cases : {C : Type 0} (m : ℕ) (meta : Meta) (o : Option C) (ch : Option (Change C)) (xs : List (Entry C)) (e : Entry C) → Among (asked_by m meta o ch ++ xs) e → Among xs e ⊎ ((k : ℕ) × (e.origin ≡ m) × (e.number ≡ meta.number) × (ch ≡ Some (NewNumber k)))
asked_cases {C} m meta (Some c) (Some (NewNumber k)) xs e a =
    elim a [
      | inl is ↦ inr (k, sym (ap (λ (x : Entry C). x.origin) is), sym (ap (λ (x : Entry C). x.number) is), refl)
      | inr old ↦ inl old
    ]
asked_cases m meta (Some c) None xs e a = inl a
asked_cases m meta (Some c) (Some (NewRound r)) xs e a = inl a
asked_cases m meta (Some c) (Some (NewFloor r)) xs e a = inl a
asked_cases m meta (Some c) (Some (NewPromise q r)) xs e a = inl a
asked_cases m meta (Some c) (Some (NewAccepted q r f)) xs e a = inl a
asked_cases m meta (Some c) (Some (NewLearned q f)) xs e a = inl a
asked_cases m meta None ch xs e a = inl a

asked_twice : {C : Type 0} (m : ℕ) (meta : Meta) (o : Option C) (ch : Option (Change C)) (xs : List (Entry C)) → ((e : Entry C) → Among xs e → e.origin ≡ m → e.number ≡ meta.number → ⊥) → NamedOnce xs → NamedOnce (asked_by m meta o ch ++ xs)
asked_twice m meta (Some c) (Some (NewNumber k)) xs new none = (new, none)
asked_twice m meta (Some c) None xs new none = none
asked_twice m meta (Some c) (Some (NewRound r)) xs new none = none
asked_twice m meta (Some c) (Some (NewFloor r)) xs new none = none
asked_twice m meta (Some c) (Some (NewPromise q r)) xs new none = none
asked_twice m meta (Some c) (Some (NewAccepted q r f)) xs new none = none
asked_twice m meta (Some c) (Some (NewLearned q f)) xs new none = none
asked_twice m meta None ch xs new none = none

-- ---- the slots and what is learned, after the change

real_up : {C : Type 0} (h h' : List (Acceptance C)) (m p low high : ℕ) (a : Option (Proposal C)) → low ≤ high → ((b : ℕ) (e : Entry C) → Accepted h m p b e → Accepted h' m p b e) → IsReal h m p low a → IsReal h' m p high a
real_up h h' m p low high None le more r = tt
real_up h h' m p low high (Some x) le more r = (more x.ballot x.entry r.0, (let u = r.1 in omega arith))

pub at_most_real : {C : Type 0} (h : List (Acceptance C)) (m p promised b c : ℕ) (a : Option (Proposal C)) → promised ≤ b → AtMost a c → IsReal h m p promised a → c ≤ b
at_most_real h m p promised b c None le at r = absurd at
at_most_real h m p promised b c (Some x) le at r = let u = r.1 in omega arith

slots_after : {C : Type 0} (n : ℕ) (w : World C) (h : List (Acceptance C)) (m : ℕ) (d : Record C) (ch : Option (Change C)) → ChangeOk n w d ch → ((p : ℕ) → SlotOk h m p (d.slots p)) → (p : ℕ) → SlotOk (history_by m ch ++ h) m p ((commit ch d).slots p)
slots_after n w h m d None ok s = s
slots_after n w h m d (Some (NewRound r)) ok s = s
slots_after n w h m d (Some (NewNumber r)) ok s = s
slots_after n w h m d (Some (NewFloor r)) ok s = s
slots_after n w h m d (Some (NewLearned p e)) ok s = s
slots_after {C} n w h m d (Some (NewPromise p b)) ok s =
    put_all (λ (q : ℕ) (x : Slot C). SlotOk h m q x) d.slots p _
    (record {
      highest = (s p).highest;
      real = real_up h h m p (d.slots p).promised b (d.slots p).accepted (omega arith) (λ c f a. a) (s p).real;
    })
    (λ q ne. s q)
slots_after {C} n w h m d (Some (NewAccepted p b e)) ok s =
    put_all (λ (q : ℕ) (x : Slot C). SlotOk (record { member = m; position = p; ballot = b; entry = e } ∷ h) m q x) d.slots p _
    (record {
      highest = λ c f a. elim a [
        | inl is ↦ le_of (ap (λ (x : Acceptance C). x.ballot) is)
        | inr old ↦ at_most_real h m p (d.slots p).promised b c (d.slots p).accepted (let u = ok.0 in omega arith) ((s p).highest c f old) (s p).real
      ];
      real = (inl refl, le_refl b);
    })
    (λ q ne. record {
      highest = λ c f a. elim a [
        | inl is ↦ absurd (ne (sym (ap (λ (x : Acceptance C). x.position) is)))
        | inr old ↦ (s q).highest c f old
      ];
      real = real_up h (record { member = m; position = p; ballot = b; entry = e } ∷ h) m q (d.slots q).promised (d.slots q).promised (d.slots q).accepted (le_refl _) (λ c f a. inr a) (s q).real;
    })
  where
    le_of : {x y : ℕ} → x ≡ y → y ≤ x
    le_of same = omega arith

learned_after : {C : Type 0} (n : ℕ) (w w' : World C) (h h' : List (Acceptance C)) (l : Later w w' h h') (d : Record C) (ch : Option (Change C)) → ChangeOk n w d ch → ((p : ℕ) (e : Entry C) → d.learned p ≡ Some e → Chosen n w p e) → (p : ℕ) (e : Entry C) → (commit ch d).learned p ≡ Some e → Chosen n w' p e
learned_after n w w' h h' l d None ok g p e is = chosen_later n w w' h h' l p e (g p e is)
learned_after n w w' h h' l d (Some (NewRound r)) ok g p e is = chosen_later n w w' h h' l p e (g p e is)
learned_after n w w' h h' l d (Some (NewNumber r)) ok g p e is = chosen_later n w w' h h' l p e (g p e is)
learned_after n w w' h h' l d (Some (NewFloor r)) ok g p e is = chosen_later n w w' h h' l p e (g p e is)
learned_after n w w' h h' l d (Some (NewPromise q r)) ok g p e is = chosen_later n w w' h h' l p e (g p e is)
learned_after n w w' h h' l d (Some (NewAccepted q r f)) ok g p e is = chosen_later n w w' h h' l p e (g p e is)
learned_after {C} n w w' h h' l d (Some (NewLearned q f)) ok g r e is =
    put_all (λ (p : ℕ) (o : Option (Entry C)). (e : Entry C) → o ≡ Some e → Chosen n w' p e) d.learned q (Some f)
    (λ e is. let same : f ≡ e = cc in subst (λ (x : Entry C). Chosen n w' q x) same (chosen_later n w w' h h' l q f ok.1))
    (λ p ne e is. chosen_later n w w' h h' l p e (g p e is)) r e is

-- what the record has as learned is among what was ever learned
noted_after : {C : Type 0} (m : ℕ) (d : Record C) (ch : Option (Change C)) (xs : List (Learning C)) → ((p : ℕ) (e : Entry C) → d.learned p ≡ Some e → Among xs (record { member = m; position = p; entry = e })) → (p : ℕ) (e : Entry C) → (commit ch d).learned p ≡ Some e → Among (learned_by m ch ++ xs) (record { member = m; position = p; entry = e })
noted_after m d None xs g p e is = g p e is
noted_after m d (Some (NewRound r)) xs g p e is = g p e is
noted_after m d (Some (NewNumber r)) xs g p e is = g p e is
noted_after m d (Some (NewFloor r)) xs g p e is = g p e is
noted_after m d (Some (NewPromise q r)) xs g p e is = g p e is
noted_after m d (Some (NewAccepted q r f)) xs g p e is = g p e is
noted_after {C} m d (Some (NewLearned q f)) xs g r e is =
    put_all (λ (p : ℕ) (o : Option (Entry C)). (e : Entry C) → o ≡ Some e → Among (record { member = m; position = q; entry = f } ∷ xs) (record { member = m; position = p; entry = e })) d.learned q (Some f)
    (λ e is. inl (let same : f ≡ e = cc in ap (λ (x : Entry C). record { member = m; position = q; entry = x }) same))
    (λ p ne e is. inr (g p e is)) r e is

number_grows : {C : Type 0} (n : ℕ) (w : World C) (d : Record C) (k : ℕ) (ch : Option (Change C)) → ChangeOk n w d ch → ch ≡ Some (NewNumber k) → d.meta.number < (commit ch d).meta.number
number_grows n w d k (Some (NewNumber j)) ok is = omega arith
number_grows n w d k None ok is = absurd (cc)
number_grows n w d k (Some (NewRound r)) ok is = absurd (cc)
number_grows n w d k (Some (NewFloor r)) ok is = absurd (cc)
number_grows n w d k (Some (NewPromise q r)) ok is = absurd (cc)
number_grows n w d k (Some (NewAccepted q r f)) ok is = absurd (cc)
number_grows n w d k (Some (NewLearned q f)) ok is = absurd (cc)

-- ---- the world after

-- each envelope is m's, with this message
abbrev pub AllAre : {C : Type 0} → (m : ℕ) → Message C → List (Envelope C) → Type 0
AllAre {C} m x sends = (y : Envelope C) → Among sends y → (y.sender ≡ m) × (y.message ≡ x)

-- a proposal is made at a position where m's ballot carries none yet
abbrev pub IsFresh : {C : Type 0} → World C → (m : ℕ) → Message C → Type 0
IsFresh {C} w m (Accept b p e) = (f : Entry C) → HasSent w m (Accept b p f) → ⊥
IsFresh w m _ = Unit {0}

pub accepted_ok : {C : Type 0} (n : ℕ) (w : World C) (d : Record C) (p b : ℕ) (e : Entry C) (ch : Option (Change C)) → ChangeOk n w d ch → ch ≡ Some (NewAccepted p b e) → (promised_at d.meta (d.slots p) ≤ b) × ((k : ℕ) × HasSent w k (Accept b p e))
accepted_ok n w d p b e ch ok is = subst (λ (c : Option (Change _)). ChangeOk n w d c) is ok

pub learned_ok : {C : Type 0} (n : ℕ) (w : World C) (d : Record C) (p : ℕ) (e : Entry C) (ch : Option (Change C)) → ChangeOk n w d ch → ch ≡ Some (NewLearned p e) → (d.learned p ≡ None) × Chosen n w p e
learned_ok n w d p e ch ok is = subst (λ (c : Option (Change _)). ChangeOk n w d c) is ok

module _ {C : Type 0} (n : ℕ) (w : World C) (h : List (Acceptance C)) (m : ℕ) (input : Input C) (ch : Option (Change C)) (up : Bool) (v : Volatile C) (sends : List (Envelope C)) where
  pub later_moved : ChangeOk n w (record_of w m) ch → Later w (moved w m input ch up v sends) h (history_by m ch ++ h)
  later_moved ok =
      let g = grows n w (record_of w m) ch ok in
      record {
        promised = put_all (λ (k : ℕ) (x : NodeState C). (p : ℕ) → promised_in w k p ≤ promised_at x.stored.meta (x.stored.slots p)) w.nodes m _ g.promised (λ k ne p. le_refl _);
        round = put_all (λ (k : ℕ) (x : NodeState C). (record_of w k).meta.round ≤ x.stored.meta.round) w.nodes m _ g.round (λ k ne. le_refl _);
        number = put_all (λ (k : ℕ) (x : NodeState C). (record_of w k).meta.number ≤ x.stored.meta.number) w.nodes m _ g.number (λ k ne. le_refl _);
        learned = put_all (λ (k : ℕ) (x : NodeState C). (p : ℕ) (e : Entry C) → (record_of w k).learned p ≡ Some e → x.stored.learned p ≡ Some e) w.nodes m _ g.learned (λ k ne p e is. is);
        sent = λ k x s. (s.0, among_left w.sent (to_members sends) _ s.1);
        asked = λ e a. among_right (asked_by m (record_of w m).meta (command_of input) ch) w.asked e a;
        history = λ k p b e a. among_right (history_by m ch) h _ a;
        only = λ k p b e a. elim (history_cases m ch h k p b e a) [
          | inl old ↦ inl old
          | inr new ↦ inr (subst (λ (j : ℕ). promised_in w j p ≤ b) (sym new.0) (accepted_ok n w (record_of w m) p b e ch ok new.1).0)
        ];
      }

  pub sent_cases : (x : Message C) → AllAre m x sends → (k : ℕ) (y : Message C) → HasSent (moved w m input ch up v sends) k y → HasSent w k y ⊎ ((k ≡ m) × (y ≡ x))
  sent_cases x all k y s =
      elim (among_cases w.sent (to_members sends) _ s.1) [ inl a ↦ inl (s.0, a) | inr b ↦ inr (all _ (among_to_members sends _ b)) ]

  one_owner : (w' : World C) (k j b : ℕ) → k < 256 → j < 256 → Owned w' k b → Owned w' j b → k ≡ j
  one_owner w' k j b kl jl o u =
      let r : b ≡ o.round * 256 + k = o.is_ballot in
      let s : b ≡ u.round * 256 + j = u.is_ballot in
      omega arith

  -- a proposal that is made anew is at a position where no other was made in its ballot
  clash : (x : Message C) → n ≤ 15 → Inv n w h → m < n → ChangeOk n w (record_of w m) ch → SentOk n (moved w m input ch up v sends) (history_by m ch ++ h) m x → IsFresh w m x → (k b p : ℕ) (e f : Entry C) → Accept b p e ≡ x → HasSent w k (Accept b p f) → ⊥
  clash x small inv member ok new fresh k b p e f is s =
      let w' = moved w m input ch up v sends in
      let h' = history_by m ch ++ h in
      let mine : Proposed n w' h' m b p e = subst (λ (z : Message C). SentOk n w' h' m z) (sym is) new in
      let none : (g : Entry C) → HasSent w m (Accept b p g) → ⊥ = subst (λ (z : Message C). IsFresh w m z) (sym is) fresh in
      let theirs : Owned w' k b = owned_later n w w' h h' (later_moved ok) k b (inv.sent k (Accept b p f) s).owned in
      let low : k < n = inv.members k (Accept b p f) s in
      let same : k ≡ m = one_owner w' k m b (omega arith) (omega arith) theirs mine.owned in
      none f (subst (λ (j : ℕ). HasSent w j (Accept b p f)) same s)

  unique_after : (x : Message C) → n ≤ 15 → Inv n w h → m < n → ChangeOk n w (record_of w m) ch → AllAre m x sends → SentOk n (moved w m input ch up v sends) (history_by m ch ++ h) m x → IsFresh w m x → (k j b p : ℕ) (e f : Entry C) → HasSent (moved w m input ch up v sends) k (Accept b p e) → HasSent (moved w m input ch up v sends) j (Accept b p f) → e ≡ f
  unique_after x small inv member ok all new fresh k j b p e f s t =
      elim (sent_cases x all k (Accept b p e) s) [
        | inl s1 ↦ (elim (sent_cases x all j (Accept b p f) t) [
          | inl t1 ↦ inv.unique k j b p e f s1 t1
          | inr t2 ↦ absurd (clash x small inv member ok new fresh k b p f e t2.1 s1)
        ])
        | inr s2 ↦ (elim (sent_cases x all j (Accept b p f) t) [
          | inl t1 ↦ absurd (clash x small inv member ok new fresh j b p e f s2.1 t1)
          | inr t2 ↦ (let a = s2.1 in let c = t2.1 in cc)
        ])
      ]

  sent_after : (x : Message C) → Inv n w h → ChangeOk n w (record_of w m) ch → AllAre m x sends → SentOk n (moved w m input ch up v sends) (history_by m ch ++ h) m x → (k : ℕ) (y : Message C) → HasSent (moved w m input ch up v sends) k y → SentOk n (moved w m input ch up v sends) (history_by m ch ++ h) k y
  sent_after x inv ok all new k y s =
      let w' = moved w m input ch up v sends in
      let h' = history_by m ch ++ h in
      elim (sent_cases x all k y s) [
        | inl old ↦ sent_later n w w' h h' (later_moved ok) k y (inv.sent k y old)
        | inr is ↦
            let g : SentOk n w' h' m y = subst (λ (z : Message C). SentOk n w' h' m z) (sym is.1) new in
            subst (λ (j : ℕ). SentOk n w' h' j y) (sym is.0) g
      ]

  asked_after : Inv n w h → ChangeOk n w (record_of w m) ch → (e : Entry C) → Among (moved w m input ch up v sends).asked e → e.number < (record_of (moved w m input ch up v sends) e.origin).meta.number
  asked_after inv ok e a =
      let w' = moved w m input ch up v sends in
      let d' : Record C = commit ch (record_of w m) in
      let node : NodeState C = record { is_up = up; stored = d'; volatile = v } in
      elim (asked_cases m (record_of w m).meta (command_of input) ch w.asked e a) [
        | inl old ↦ lt_of_lt_of_le (inv.asked e old) ((later_moved ok).number e.origin)
        | inr is ↦
            let more = number_grows n w (record_of w m) is.0 ch ok is.3 in
            let here : (record_of w' m).meta.number ≡ d'.meta.number = ap (λ (z : NodeState C). z.stored.meta.number) (put_same w.nodes m node) in
            let there : (record_of w' e.origin).meta.number ≡ (record_of w' m).meta.number = ap (λ (j : ℕ). (record_of w' j).meta.number) is.1 in
            subst₂ (λ (a b : ℕ). a < b) (sym is.2) (sym (there ∙ here)) more
      ]

  -- the invariant after the move
  pub keeps : (x : Message C) → n ≤ 15 → Inv n w h → m < n → ChangeOk n w (record_of w m) ch → AllAre m x sends → SentOk n (moved w m input ch up v sends) (history_by m ch ++ h) m x → IsFresh w m x → VolatileOk n (moved w m input ch up v sends) (history_by m ch ++ h) m v → Inv n (moved w m input ch up v sends) (history_by m ch ++ h)
  keeps x small inv member ok all new fresh vol =
      let w' = moved w m input ch up v sends in
      let h' = history_by m ch ++ h in
      let l = later_moved ok in
      let node : NodeState C = record { is_up = up; stored = commit ch (record_of w m); volatile = v } in
      let other : (k : ℕ) → (k ≡ m → ⊥) → w'.nodes k ≡ w.nodes k = put_other w.nodes m node in
      record {
        stored = put_all (λ (k : ℕ) (z : NodeState C). RecordOk n w' h' k z.stored) w.nodes m node
            (record {
              slots = slots_after n w h m (record_of w m) ch ok (inv.stored m).slots;
              learned = learned_after n w w' h h' l (record_of w m) ch ok (inv.stored m).learned;
            })
            (λ k ne. record {
              slots = λ p. record {
                highest = λ c e a. (elim (history_cases m ch h k p c e a) [
                  | inl old ↦ ((inv.stored k).slots p).highest c e old
                  | inr is ↦ absurd (ne is.0)
                ]);
                real = real_up h h' k p ((record_of w k).slots p).promised ((record_of w k).slots p).promised ((record_of w k).slots p).accepted (le_refl _) (λ b e a. l.history k p b e a) ((inv.stored k).slots p).real;
              };
              learned = λ p e is. chosen_later n w w' h h' l p e ((inv.stored k).learned p e is);
            });
        volatile = put_all (λ (k : ℕ) (z : NodeState C). VolatileOk n w' h' k z.volatile) w.nodes m node vol
            (λ k ne. volatile_later n w w' h h' l k (w.nodes k).volatile
            (λ q f is. sym (ap (λ (z : NodeState C). z.stored.learned q) (other k ne)) ∙ is)
            (λ b q e s. elim (sent_cases x all k (Accept b q e) s) [ inl old ↦ old | inr is ↦ absurd (ne is.0) ])
            (inv.volatile k));
        members = λ k y s. elim (sent_cases x all k y s) [
          | inl old ↦ inv.members k y old
          | inr is ↦ subst (λ (j : ℕ). j < n) (sym is.0) member
        ];
        sent = sent_after x inv ok all new;
        unique = unique_after x small inv member ok all new fresh;
        history = λ k p b e a. elim (history_cases m ch h k p b e a) [
          | inl old ↦ (let s = inv.history k p b e old in (s.0, l.sent s.0 (Accept b p e) s.1))
          | inr is ↦ (let s = (accepted_ok n w (record_of w m) p b e ch ok is.1).1 in (s.0, l.sent s.0 (Accept b p e) s.1))
        ];
        learned = λ k p e a. elim (learned_cases m ch w.learned k p e a) [
          | inl old ↦ chosen_later n w w' h h' l p e (inv.learned k p e old)
          | inr is ↦ chosen_later n w w' h h' l p e (learned_ok n w (record_of w m) p e ch ok is.1).1
        ];
        recorded = λ k p e a. elim (learned_cases m ch w.learned k p e a) [
          | inl old ↦ l.learned k p e (inv.recorded k p e old)
          | inr is ↦
              let here : (record_of w' m).learned p ≡ (commit ch (record_of w m)).learned p = ap (λ (z : NodeState C). z.stored.learned p) (put_same w.nodes m node) in
              let there : (commit ch (record_of w m)).learned p ≡ Some e = subst (λ (c : Option (Change C)). (commit c (record_of w m)).learned p ≡ Some e) (sym is.1) (put_same (record_of w m).learned p (Some e)) in
              subst (λ (j : ℕ). (record_of w' j).learned p ≡ Some e) (sym is.0) (here ∙ there)
        ];
        noted = put_all (λ (k : ℕ) (z : NodeState C). (p : ℕ) (e : Entry C) → z.stored.learned p ≡ Some e → HasLearned w' k p e) w.nodes m node
            (noted_after m (record_of w m) ch w.learned (inv.noted m))
            (λ k ne p e is. among_right (learned_by m ch) w.learned _ (inv.noted k p e is));
        asked = asked_after inv ok;
        named_once = asked_twice m (record_of w m).meta (command_of input) ch w.asked
            (λ e a mine number.
            let u = inv.asked e a in
            let same : (record_of w e.origin).meta.number ≡ (record_of w m).meta.number = ap (λ (j : ℕ). (record_of w j).meta.number) mine in
            omega arith)
            inv.named_once;
      }
