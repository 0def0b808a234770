-- What fits has a spelling, and what is for all has one to each.
use Rattle.std.proofs.Common.{◌≡◌, ℕ, ◌/◌, ◌%◌, ◌^◌, ◌<◌, ◌≤◌, Bool, true, false, cond, ltb, leb, eqb, Option, Some, None, refl, ap, subst, ◌∙◌, arith, inl, inr}
use Rattle.std.specs.Prelude.{◌&&◌, ◌||◌, ◌⊎◌, not}
use Rattle.std.proofs.lemmas.Bool.{not-true, ltb-true, lt-ltb, le-leb, leb-true, eq-eqb, eqb-true}
use Rattle.std.proofs.lemmas.Bool.Decides.{nat_tests}
use Rattle.pf_entry.specs.Entry.{is_origin}
use Rattle.pf_entry.proofs.Takes.{IsBytes, both_true, and_true}
use Rattle.px_wire.specs.Message as messages
use Rattle.px_wire.specs.Message.{Group, Lent, IsSpelling, IsMembers, Message, prepare, promise, accept, vote, nack, need, learned, ask, asked, ask_refused, prepare_all, promise_all, is_member, is_party, is_kind, is_ballot, is_ballot_of, is_refusal, IsReported, IsBody, HasSpelling}
use Rattle.px_wire.specs.Sent as sent
use Rattle.px_model.specs.Spelling.{command_in}
use Rattle.px_wire.specs.Sent.{asked_by, is_for_all, lent_bytes, reported_bytes}
use Rattle.px_wire.proofs.Commands.{asked_spells, command_of_spelling}

-- ---- numbers

divided : (b : ℕ) → 1 ≤ b / 256 → b / 256 < 2 ^ 48 → (256 ≤ b) × (b < 2 ^ 56)
divided b lo hi = (omega (arith, lo), omega (arith, hi))

ballot_fits : (g : Group) (b : ℕ) → sent.IsBallot g.members b → is_ballot g b ≡ true
ballot_fits g b h =
    let d = divided b h.begun h.round in
    and_true (leb 256 b && ltb b (2 ^ 56)) (is_member g (b % 256)) (and_true (leb 256 b) (ltb b (2 ^ 56)) (le-leb _ _ d.0) (lt-ltb _ _ d.1)) (lt-ltb _ _ h.member)

own_fits : (g : Group) (node b : ℕ) → sent.IsBallotOf g.members node b → is_ballot_of g node b ≡ true
own_fits g node b h = and_true (is_ballot g b) (eqb (b % 256) node) (ballot_fits g b h.0) (eq-eqb _ _ h.1)

position_fits : (p : ℕ) → p < 1_000_000 → leb p 999999 ≡ true
position_fits p lt = le-leb _ _ (omega arith)

origin_fits : (n o : ℕ) → n ≤ 15 → o < n → is_origin o ≡ true
origin_fits n o le lt = grind (arith, nat_tests)

entry_fits : (IsOrigin : ℕ → Type 0) (x : Lent) → is_origin x.origin ≡ true → sent.EntryFits IsOrigin x → IsSpelling x
entry_fits IsOrigin x origin h =
    let made = asked_spells x.origin x.number (command_in x.bytes) h.command origin h.number in
    record { entry = made.entry; spelled = record { fits = made.spelled.fits; spelled = h.bytes ∙ made.spelled.spelled }; origin = made.origin; number = made.number }

members_fits : (g : Group) (x : Lent) → g.members ≤ 15 → sent.MembersFits g.members x → IsMembers g x
members_fits g x le h = (entry_fits (λ o. o < g.members) x (origin_fits g.members x.origin le h.origin) h, lt-ltb _ _ h.origin)

report_fits : (g : Group) (b : ℕ) (a : Option (ℕ × Lent)) → g.members ≤ 15 → sent.ReportFits g.members b a → IsReported g b a
report_fits g b None le h = tt
report_fits g b (Some a) le h = (ballot_fits g a.0 h.0, h.1, members_fits g a.1 le h.2)

body_fits : (g : Group) (from to : ℕ) (x : Message) → g.members ≤ 15 → sent.MessageFits g.members from to x → IsBody g from to x
body_fits g from to (prepare b p) le h = (own_fits g from b h.0, position_fits p h.1)
body_fits g from to (promise b p a) le h = (own_fits g to b h.0, position_fits p h.1, report_fits g b a le h.2)
body_fits g from to (accept b p e) le h = (own_fits g from b h.0, position_fits p h.1, members_fits g e le h.2)
body_fits g from to (vote b p e) le h = (ballot_fits g b h.0, position_fits p h.1, members_fits g e le h.2)
body_fits g from to (nack b p q) le h = (own_fits g to b h.0, position_fits p h.1, ballot_fits g q h.2, h.3)
body_fits g from to (need p) le h = position_fits p h
body_fits g from to (learned p e) le h = (position_fits p h.0, members_fits g e le h.1)
body_fits g from to (ask e) le h = (entry_fits (λ o. o ≡ 255) e (ap is_origin h.origin) h, h.origin)
body_fits g from to (asked t k) le h = (lt-ltb _ _ h.0, lt-ltb _ _ h.1)
body_fits g from to (ask_refused t code) le h = (lt-ltb _ _ h.0, refusal h.1)
  where
    refusal : (code ≡ 60) ⊎ (code ≡ 62) → is_refusal code ≡ true
    refusal h = grind (arith, nat_tests)
body_fits g from to (prepare_all b p) le h = (own_fits g from b h.0, position_fits p h.1)
body_fits g from to (promise_all b p top a) le h = (own_fits g to b h.0, position_fits p h.1, le-leb _ _ h.2, report_fits g b a le h.3)

-- ---- who sends to whom

member_is_party : (g : Group) (m : ℕ) → m < g.members → is_party g m ≡ true
member_is_party g m lt = ap (λ (b : Bool). b || eqb m 255) (lt-ltb m g.members lt)

client_is_party : (g : Group) (m : ℕ) → m ≡ 255 → is_party g m ≡ true
client_is_party g m is = grind (arith, nat_tests)

member_isnt_client : (n m : ℕ) → n ≤ 15 → m < n → eqb m 255 ≡ false
member_isnt_client n m le lt = grind (arith, nat_tests)

-- between members
both_members : (g : Group) (from to : ℕ) (x : Message) → g.members ≤ 15 → (from < g.members) × (to < g.members) → (eqb from 255 ≡ false → eqb to 255 ≡ false → is_kind from to (messages.kind x) ≡ true) → IsBody g from to x → HasSpelling g from to x
both_members g from to x le h kind body = record {
  sender = member_is_party g from h.0;
  addressee = member_is_party g to h.1;
  kind = kind (member_isnt_client g.members from le h.0) (member_isnt_client g.members to le h.1);
  body = body;
}

pub fits_has : (g : Group) (from to : ℕ) (x : Message) → g.members ≤ 15 → sent.Fits g.members from to x → HasSpelling g from to x
fits_has g from to (prepare b p) le h = both_members g from to (prepare b p) le h.between (λ a c. rw (a, c) refl) (body_fits g from to (prepare b p) le h.message)
fits_has g from to (promise b p x) le h = both_members g from to (promise b p x) le h.between (λ a c. rw (a, c) refl) (body_fits g from to (promise b p x) le h.message)
fits_has g from to (accept b p e) le h = both_members g from to (accept b p e) le h.between (λ a c. rw (a, c) refl) (body_fits g from to (accept b p e) le h.message)
fits_has g from to (vote b p e) le h = both_members g from to (vote b p e) le h.between (λ a c. rw (a, c) refl) (body_fits g from to (vote b p e) le h.message)
fits_has g from to (nack b p q) le h = both_members g from to (nack b p q) le h.between (λ a c. rw (a, c) refl) (body_fits g from to (nack b p q) le h.message)
fits_has g from to (need p) le h = both_members g from to (need p) le h.between (λ a c. rw (a, c) refl) (body_fits g from to (need p) le h.message)
fits_has g from to (learned p e) le h = both_members g from to (learned p e) le h.between (λ a c. rw (a, c) refl) (body_fits g from to (learned p e) le h.message)
fits_has g from to (ask e) le h =
    let a : eqb from 255 ≡ true = eq-eqb _ _ h.between.0 in
    let c : eqb to 255 ≡ false = member_isnt_client g.members to le h.between.1 in
    record { sender = client_is_party g from h.between.0; addressee = member_is_party g to h.between.1; kind = rw (a, c) refl; body = body_fits g from to (ask e) le h.message }
fits_has g from to (asked t k) le h =
    let a : eqb from 255 ≡ false = member_isnt_client g.members from le h.between.0 in
    let c : eqb to 255 ≡ true = eq-eqb _ _ h.between.1 in
    record { sender = member_is_party g from h.between.0; addressee = client_is_party g to h.between.1; kind = rw (a, c) refl; body = body_fits g from to (asked t k) le h.message }
fits_has g from to (ask_refused t code) le h =
    let a : eqb from 255 ≡ false = member_isnt_client g.members from le h.between.0 in
    let c : eqb to 255 ≡ true = eq-eqb _ _ h.between.1 in
    record { sender = member_is_party g from h.between.0; addressee = client_is_party g to h.between.1; kind = rw (a, c) refl; body = body_fits g from to (ask_refused t code) le h.message }
fits_has g from to (prepare_all b p) le h = both_members g from to (prepare_all b p) le h.between (λ a c. rw (a, c) refl) (body_fits g from to (prepare_all b p) le h.message)
fits_has g from to (promise_all b p top x) le h = both_members g from to (promise_all b p top x) le h.between (λ a c. rw (a, c) refl) (body_fits g from to (promise_all b p top x) le h.message)

-- ---- to each member

sender_of : (from to : ℕ) (x : Message) → is_kind from to (messages.kind x) ≡ true → cond (eqb (messages.kind x) 8) (eqb from 255) (not (eqb from 255)) ≡ true
sender_of from to x h =
    let k : ℕ = messages.kind x in
    let a = both_true (leb 1 k && leb k 12 && cond (eqb k 8) (eqb from 255) (not (eqb from 255))) (cond (eqb k 9 || eqb k 10) (eqb to 255) (not (eqb to 255))) h in
    (both_true (leb 1 k && leb k 12) (cond (eqb k 8) (eqb from 255) (not (eqb from 255))) a.0).1

other : (g : Group) (from to to' : ℕ) (x : Message) → g.members ≤ 15 → to' < g.members → HasSpelling g from to x → (eqb to' 255 ≡ false → is_kind from to' (messages.kind x) ≡ true) → IsBody g from to' x → HasSpelling g from to' x
other g from to to' x le lt h kind body = record { sender = h.sender; addressee = member_is_party g to' lt; kind = kind (member_isnt_client g.members to' le lt); body = body }

pub to_each : (g : Group) (from to to' : ℕ) (x : Message) → g.members ≤ 15 → is_for_all x ≡ true → to' < g.members → HasSpelling g from to x → HasSpelling g from to' x
to_each g from to to' (prepare b p) le all lt h = other g from to to' (prepare b p) le lt h (λ c. rw (not-true (eqb from 255) (sender_of from to (prepare b p) h.kind), c) refl) h.body
to_each g from to to' (accept b p e) le all lt h = other g from to to' (accept b p e) le lt h (λ c. rw (not-true (eqb from 255) (sender_of from to (accept b p e) h.kind), c) refl) h.body
to_each g from to to' (vote b p e) le all lt h = other g from to to' (vote b p e) le lt h (λ c. rw (not-true (eqb from 255) (sender_of from to (vote b p e) h.kind), c) refl) h.body
to_each g from to to' (need p) le all lt h = other g from to to' (need p) le lt h (λ c. rw (not-true (eqb from 255) (sender_of from to (need p) h.kind), c) refl) h.body
to_each g from to to' (learned p e) le all lt h = other g from to to' (learned p e) le lt h (λ c. rw (not-true (eqb from 255) (sender_of from to (learned p e) h.kind), c) refl) h.body
to_each g from to to' (ask e) le all lt h = other g from to to' (ask e) le lt h (λ c. rw (sender_of from to (ask e) h.kind, c) refl) h.body
to_each g from to to' (prepare_all b p) le all lt h = other g from to to' (prepare_all b p) le lt h (λ c. rw (not-true (eqb from 255) (sender_of from to (prepare_all b p) h.kind), c) refl) h.body
to_each g from to to' (promise b p a) le all lt h = absurd cc
to_each g from to to' (nack b p q) le all lt h = absurd cc
to_each g from to to' (asked t k) le all lt h = absurd cc
to_each g from to to' (ask_refused t code) le all lt h = absurd cc
to_each g from to to' (promise_all b p top a) le all lt h = absurd cc

-- ---- what has a spelling fits

has_ballot : (g : Group) (b : ℕ) → is_ballot g b ≡ true → sent.IsBallot g.members b
has_ballot g b h =
    let p = both_true (leb 256 b && ltb b (2 ^ 56)) (is_member g (b % 256)) h in
    let q = both_true (leb 256 b) (ltb b (2 ^ 56)) p.0 in
    let lo = leb-true 256 b q.0 in
    let hi = ltb-true b (2 ^ 56) q.1 in
    record { begun = omega (arith, lo); round = omega (arith, hi); member = ltb-true _ _ p.1 }

has_own : (g : Group) (node b : ℕ) → is_ballot_of g node b ≡ true → sent.IsBallotOf g.members node b
has_own g node b h =
    let p = both_true (is_ballot g b) (eqb (b % 256) node) h in
    (has_ballot g b p.0, eqb-true _ _ p.1)

has_position : (p : ℕ) → leb p 999999 ≡ true → p < 1_000_000
has_position p h =
    let le = leb-true p 999999 h in
    omega (arith, le)

has_entry : (IsOrigin : ℕ → Type 0) (x : Lent) → IsBytes x.bytes → IsOrigin x.origin → IsSpelling x → sent.EntryFits IsOrigin x
has_entry IsOrigin x fits origin is =
    let c = command_of_spelling x fits is in
    record { origin = origin; number = subst (λ (k : ℕ). k < 2 ^ 48) is.number is.spelled.fits.number; command = c.0; bytes = c.1 }

has_members : (g : Group) (x : Lent) → IsBytes x.bytes → IsMembers g x → sent.MembersFits g.members x
has_members g x fits h = has_entry (λ o. o < g.members) x fits (ltb-true _ _ h.1) h.0

has_report : (g : Group) (b : ℕ) (a : Option (ℕ × Lent)) → IsBytes (reported_bytes a) → IsReported g b a → sent.ReportFits g.members b a
has_report g b None fits h = tt
has_report g b (Some a) fits h = (has_ballot g a.0 h.0, h.1, has_members g a.1 fits h.2)

has_body : (g : Group) (from to : ℕ) (x : Message) → IsBytes (lent_bytes x) → IsBody g from to x → sent.MessageFits g.members from to x
has_body g from to (prepare b p) fits h = (has_own g from b h.0, has_position p h.1)
has_body g from to (promise b p a) fits h = (has_own g to b h.0, has_position p h.1, has_report g b a fits h.2)
has_body g from to (accept b p e) fits h = (has_own g from b h.0, has_position p h.1, has_members g e fits h.2)
has_body g from to (vote b p e) fits h = (has_ballot g b h.0, has_position p h.1, has_members g e fits h.2)
has_body g from to (nack b p q) fits h = (has_own g to b h.0, has_position p h.1, has_ballot g q h.2, h.3)
has_body g from to (need p) fits h = has_position p h
has_body g from to (learned p e) fits h = (has_position p h.0, has_members g e fits h.1)
has_body g from to (ask e) fits h = has_entry (λ o. o ≡ 255) e fits h.1 h.0
has_body g from to (asked t k) fits h = (ltb-true _ _ h.0, ltb-true _ _ h.1)
has_body g from to (ask_refused t code) fits h = (ltb-true _ _ h.0, codes (eqb code 60) (eqb code 62) refl refl h.1)
  where
    codes : (a b : Bool) → eqb code 60 ≡ a → eqb code 62 ≡ b → (a || b) ≡ true → (code ≡ 60) ⊎ (code ≡ 62)
    codes true b ea eb e = inl (eqb-true code 60 ea)
    codes false true ea eb e = inr (eqb-true code 62 eb)
    codes false false ea eb e = absurd cc
has_body g from to (prepare_all b p) fits h = (has_own g from b h.0, has_position p h.1)
has_body g from to (promise_all b p top a) fits h = (has_own g to b h.0, has_position p h.1, leb-true top 1000000 h.2, has_report g b a fits h.3)

addressee_of : (from to : ℕ) (x : Message) → is_kind from to (messages.kind x) ≡ true → cond (eqb (messages.kind x) 9 || eqb (messages.kind x) 10) (eqb to 255) (not (eqb to 255)) ≡ true
addressee_of from to x h =
    let k : ℕ = messages.kind x in
    (both_true (leb 1 k && leb k 12 && cond (eqb k 8) (eqb from 255) (not (eqb from 255))) (cond (eqb k 9 || eqb k 10) (eqb to 255) (not (eqb to 255))) h).1

first_holds : (a b : Bool) → (a || b) ≡ true → b ≡ false → a ≡ true
first_holds true b h n = refl
first_holds false true h n = absurd cc
first_holds false false h n = absurd cc

party_member : (g : Group) (m : ℕ) → is_party g m ≡ true → not (eqb m 255) ≡ true → m < g.members
party_member g m h n = ltb-true _ _ (first_holds (is_member g m) (eqb m 255) h (not-true (eqb m 255) n))

of_members : (g : Group) (from to : ℕ) (x : Message) → HasSpelling g from to x → not (eqb from 255) ≡ true → not (eqb to 255) ≡ true → (from < g.members) × (to < g.members)
of_members g from to x h a c = (party_member g from h.sender a, party_member g to h.addressee c)

pub has_fits : (g : Group) (from to : ℕ) (x : Message) → IsBytes (lent_bytes x) → HasSpelling g from to x → sent.Fits g.members from to x
has_fits g from to (prepare b p) fits h = record { between = of_members g from to (prepare b p) h (sender_of from to (prepare b p) h.kind) (addressee_of from to (prepare b p) h.kind); message = has_body g from to (prepare b p) fits h.body }
has_fits g from to (promise b p a) fits h = record { between = of_members g from to (promise b p a) h (sender_of from to (promise b p a) h.kind) (addressee_of from to (promise b p a) h.kind); message = has_body g from to (promise b p a) fits h.body }
has_fits g from to (accept b p e) fits h = record { between = of_members g from to (accept b p e) h (sender_of from to (accept b p e) h.kind) (addressee_of from to (accept b p e) h.kind); message = has_body g from to (accept b p e) fits h.body }
has_fits g from to (vote b p e) fits h = record { between = of_members g from to (vote b p e) h (sender_of from to (vote b p e) h.kind) (addressee_of from to (vote b p e) h.kind); message = has_body g from to (vote b p e) fits h.body }
has_fits g from to (nack b p q) fits h = record { between = of_members g from to (nack b p q) h (sender_of from to (nack b p q) h.kind) (addressee_of from to (nack b p q) h.kind); message = has_body g from to (nack b p q) fits h.body }
has_fits g from to (need p) fits h = record { between = of_members g from to (need p) h (sender_of from to (need p) h.kind) (addressee_of from to (need p) h.kind); message = has_body g from to (need p) fits h.body }
has_fits g from to (learned p e) fits h = record { between = of_members g from to (learned p e) h (sender_of from to (learned p e) h.kind) (addressee_of from to (learned p e) h.kind); message = has_body g from to (learned p e) fits h.body }
has_fits g from to (ask e) fits h = record { between = (eqb-true _ _ (sender_of from to (ask e) h.kind), party_member g to h.addressee (addressee_of from to (ask e) h.kind)); message = has_body g from to (ask e) fits h.body }
has_fits g from to (asked t k) fits h = record { between = (party_member g from h.sender (sender_of from to (asked t k) h.kind), eqb-true _ _ (addressee_of from to (asked t k) h.kind)); message = has_body g from to (asked t k) fits h.body }
has_fits g from to (ask_refused t code) fits h = record { between = (party_member g from h.sender (sender_of from to (ask_refused t code) h.kind), eqb-true _ _ (addressee_of from to (ask_refused t code) h.kind)); message = has_body g from to (ask_refused t code) fits h.body }
has_fits g from to (prepare_all b p) fits h = record { between = of_members g from to (prepare_all b p) h (sender_of from to (prepare_all b p) h.kind) (addressee_of from to (prepare_all b p) h.kind); message = has_body g from to (prepare_all b p) fits h.body }
has_fits g from to (promise_all b p top a) fits h = record { between = of_members g from to (promise_all b p top a) h (sender_of from to (promise_all b p top a) h.kind) (addressee_of from to (promise_all b p top a) h.kind); message = has_body g from to (promise_all b p top a) fits h.body }
