-- Numbers, lists, the parts of a record and messages that fit.
use Rattle.std.proofs.Common.{◌≡◌, ℕ, zero, suc, ◌+◌, ◌*◌, ◌/◌, ◌%◌, ◌^◌, ◌<◌, ◌≤◌, max, Bool, ◌&&◌, inl, inr, List, [], ◌∷◌, ◌++◌, length, Option, Some, None, IfSome, arith, refl, ap, subst, eqb, ltb, ltb-false}
use Rattle.std.proofs.lemmas.Bool.{cond_both, cases_lt}
use Rattle.std.proofs.lemmas.Nat.{div-mul-add, mod-mul-add}
use Rattle.px_model.specs.Node as node
use Rattle.px_model.specs.Node.{Entry, Proposal, Slot, Record, Attempt, Lead, Message, Envelope, ballot_of}
use Rattle.px_model.specs.Node.Change.{NewRound, NewNumber, NewFloor, NewPromise, NewAccepted, NewLearned}
use Rattle.px_model.specs.Step.{positions, commit, top, to_all, better, choice, without, not_below, drop_attempt, drop_lead}
use Rattle.px_model.specs.Law.{Among}
use Rattle.px_model.specs.Fits.{IsPosition, IsBallot, IsBallotOf, IsPromise, EntryFits, ProposalFits, ReportFits, EnvelopeFits, SlotFits, RecordFits, AttemptFits, LeadFits, SendsFit}
use Rattle.px_model.proofs.Basics.{among_cases, put_all}
use Rattle.px_model.proofs.Plans.{top_reached}

-- ---- numbers

pub own_ballot : (n me r : ℕ) → me < n → n ≤ 15 → 1 ≤ r → r < 2 ^ 48 → IsBallotOf n me (ballot_of r me)
own_ballot n me r member small low high =
    let q : (r * 256 + me) / 256 ≡ r = div-mul-add r 256 me (omega arith) in
    let m : (r * 256 + me) % 256 ≡ me = mod-mul-add r 256 me (omega arith) in
    (record { begun = omega arith; round = omega arith; member = omega arith }, m)

-- a ballot as the one number that it is
pub ballot_range : (n b : ℕ) → IsBallot n b → (256 ≤ b) × (b < 2 ^ 56) × (b % 256 < n)
ballot_range n b g =
    let low = g.begun in
    let high = g.round in
    (omega arith, omega arith, g.member)

pub ballot_in_range : (n b : ℕ) → 256 ≤ b → b < 2 ^ 56 → b % 256 < n → IsBallot n b
ballot_in_range n b low high member = record { begun = omega arith; round = omega arith; member = member }

pub max_promise : (n a b : ℕ) → IsPromise n a → IsPromise n b → IsPromise n (max a b)
max_promise n a b p q =
    elim (cases_lt a b) [
      | inl less ↦ (let is : b ≡ max a b = omega arith in subst (λ (z : ℕ). IsPromise n z) is q)
      | inr more ↦ (let is : a ≡ max a b = omega arith in subst (λ (z : ℕ). IsPromise n z) is p)
    ]

-- a promise at or above a ballot is a ballot
pub promised_ballot : (n b q : ℕ) → IsBallot n b → IsPromise n q → b ≤ q → IsBallot n q
promised_ballot n b q g p le =
    elim p [
      | inl none ↦ (let low = g.begun in absurd (omega arith))
      | inr is ↦ is
    ]

pub top_within : {C : Type 0} (slots : ℕ → Slot C) → top slots ≤ positions
top_within slots =
    elim (cases_lt 0 (top slots)) [
      | inl over ↦ (let r = top_reached slots over in let is = r.1 in let low = r.2 in omega arith)
      | inr none ↦ omega arith
    ]

-- ---- lists

pub length_more : {X : Type 0} (xs : List X) (x : X) → length (xs ++ x ∷ []) ≡ suc (length xs)
length_more [] x = refl
length_more (y ∷ ys) x = ap (λ (k : ℕ). suc k) (length_more ys x)

pub without_shorter : {C : Type 0} (same : C → C → Bool) (e : Entry C) (ws : List (Entry C)) → length (without same e ws) ≤ length ws
without_shorter same e [] = omega arith
without_shorter {C} same e (w ∷ ws) =
    let r = without_shorter same e ws in
    cond_both (node.same_entry same w e) (without same e ws) (w ∷ without same e ws) (λ (z : List (Entry C)). length z ≤ suc (length ws)) (λ t. omega arith) (λ f. omega arith)

-- ---- options

module _ {C : Type 0} (S : C → Type 0) (n : ℕ) where
  pub better_fits : (a b : Option (Proposal C)) → IfSome a (λ x. ProposalFits S n x) → IfSome b (λ x. ProposalFits S n x) → IfSome (better a b) (λ x. ProposalFits S n x)
  better_fits a None g h = g
  better_fits None (Some y) g h = h
  better_fits (Some x) (Some y) g h = cond_both (ltb x.ballot y.ballot) (Some y) (Some x) (λ (z : Option (Proposal C)). IfSome z (λ x. ProposalFits S n x)) (λ t. h) (λ f. g)

  pub reported_fits : (b : ℕ) (a : Option (Proposal C)) → ReportFits S n b a → IfSome a (λ x. ProposalFits S n x)
  reported_fits b None g = tt
  reported_fits b (Some x) g = g.0

  -- what was accepted is reported with a ballot above it
  pub report_of : (b promised : ℕ) (a : Option (Proposal C)) → promised < b → IfSome a (λ x. ProposalFits S n x × (x.ballot ≤ promised)) → ReportFits S n b a
  report_of b promised None less g = tt
  report_of b promised (Some x) less g = (g.0, (let u = g.1 in omega arith))

  -- what was accepted stays below a promise that rises
  accepted_stays : (a : Option (Proposal C)) (promised b : ℕ) → promised ≤ b → IfSome a (λ x. ProposalFits S n x × (x.ballot ≤ promised)) → IfSome a (λ x. ProposalFits S n x × (x.ballot ≤ b))
  accepted_stays None promised b le g = tt
  accepted_stays (Some x) promised b le g = (g.0, (let u = g.1 in omega arith))

  pub choice_fits : (best : Option (Proposal C)) (ws : List (Entry C)) → IfSome best (λ x. ProposalFits S n x) → ((e : Entry C) → Among ws e → EntryFits S n e) → IfSome (choice best ws) (λ e. EntryFits S n e)
  choice_fits (Some x) ws g waits = g.entry
  choice_fits None [] g waits = tt
  choice_fits None (e ∷ rest) g waits = waits e (inl refl)

  module _ (me : ℕ) where
    pub attempt_not_below : (k j : ℕ) (a : Option (Attempt C)) → k ≤ j → IfSome a (λ x. AttemptFits S n me k x) → IfSome (not_below j a) (λ x. AttemptFits S n me j x)
    attempt_not_below k j None le g = tt
    attempt_not_below k j (Some x) le g =
        cond_both (ltb x.position j) None (Some x) (λ (z : Option (Attempt C)). IfSome z (λ x. AttemptFits S n me j x)) (λ t. tt)
        (λ f. record { at_front = (let a = g.at_front in let b = ltb-false x.position j f in omega arith); position = g.position; ballot = g.ballot; phase = g.phase })

    pub attempt_dropped : (k b p : ℕ) (a : Option (Attempt C)) → IfSome a (λ x. AttemptFits S n me k x) → IfSome (drop_attempt b p a) (λ x. AttemptFits S n me k x)
    attempt_dropped k b p None g = tt
    attempt_dropped k b p (Some x) g = cond_both (eqb x.ballot b && eqb x.position p) None (Some x) (λ (z : Option (Attempt C)). IfSome z (λ x. AttemptFits S n me k x)) (λ t. tt) (λ f. g)

    pub lead_dropped : (b : ℕ) (a : Option Lead) → IfSome a (λ x. LeadFits n me x) → IfSome (drop_lead b a) (λ x. LeadFits n me x)
    lead_dropped b None g = tt
    lead_dropped b (Some x) g = cond_both (eqb x.ballot b) None (Some x) (λ (z : Option Lead). IfSome z (λ x. LeadFits n me x)) (λ t. tt) (λ f. g)

  -- ---- the record after a change

  module _ (d : Record C) (g : RecordFits S n d) where
    pub new_round_fits : (r : ℕ) → r < 2 ^ 48 → RecordFits S n (commit (Some (NewRound r)) d)
    new_round_fits r low = record { meta = record { round = low; number = g.meta.number; floor = g.meta.floor }; slots = g.slots; last = g.last; learned = g.learned }

    pub new_number_fits : (k : ℕ) → k ≤ 2 ^ 48 → RecordFits S n (commit (Some (NewNumber k)) d)
    new_number_fits k low = record { meta = record { round = g.meta.round; number = low; floor = g.meta.floor }; slots = g.slots; last = g.last; learned = g.learned }

    pub new_floor_fits : (b : ℕ) → IsBallot n b → RecordFits S n (commit (Some (NewFloor b)) d)
    new_floor_fits b is = record { meta = record { round = g.meta.round; number = g.meta.number; floor = inr is }; slots = g.slots; last = g.last; learned = g.learned }

    pub new_promise_fits : (p b : ℕ) → IsBallot n b → (d.slots p).promised ≤ b → RecordFits S n (commit (Some (NewPromise p b)) d)
    new_promise_fits p b is le = record {
      meta = g.meta;
      slots = put_all (λ (q : ℕ) (z : Slot C). SlotFits S n z) d.slots p _
          (record { promised = inr is; accepted = accepted_stays (d.slots p).accepted (d.slots p).promised b le (g.slots p).accepted })
          (λ q ne. g.slots q);
      last = put_all (λ (q : ℕ) (z : Slot C). positions ≤ q → z.accepted ≡ None) d.slots p _ (g.last p) (λ q ne. g.last q);
      learned = g.learned;
    }

    pub new_accepted_fits : (p b : ℕ) (e : Entry C) → IsPosition p → IsBallot n b → EntryFits S n e → RecordFits S n (commit (Some (NewAccepted p b e)) d)
    new_accepted_fits p b e at is fits = record {
      meta = g.meta;
      slots = put_all (λ (q : ℕ) (z : Slot C). SlotFits S n z) d.slots p _
          (record { promised = inr is; accepted = (record { ballot = is; entry = fits }, omega arith) })
          (λ q ne. g.slots q);
      last = put_all (λ (q : ℕ) (z : Slot C). positions ≤ q → z.accepted ≡ None) d.slots p _ (λ over. absurd (omega arith)) (λ q ne. g.last q);
      learned = g.learned;
    }

    pub new_learned_fits : (p : ℕ) (e : Entry C) → IsPosition p → EntryFits S n e → RecordFits S n (commit (Some (NewLearned p e)) d)
    new_learned_fits p e at fits = record {
      meta = g.meta;
      slots = g.slots;
      last = g.last;
      learned = put_all (λ (q : ℕ) (o : Option (Entry C)). (f : Entry C) → o ≡ Some f → IsPosition q × EntryFits S n f) d.learned p (Some e)
          (λ f is. (let same : e ≡ f = cc in (at, subst (λ (z : Entry C). EntryFits S n z) same fits)))
          (λ q ne f is. g.learned q f is);
    }

-- ---- the messages

module _ {C : Type 0} (S : C → Type 0) (n me : ℕ) where
  abbrev pub Sends : (to : ℕ) → Message C → Type 0
  Sends to x = EnvelopeFits S n (record { sender = me; addressee = to; message = x })

  pub one_fits : (to : ℕ) (x : Message C) → Sends to x → SendsFit S n me (record { sender = me; addressee = to; message = x } ∷ [])
  one_fits to x g y a =
      elim a [
        | inl is ↦ subst (λ (z : Envelope C). (z.sender ≡ me) × EnvelopeFits S n z) is (refl, g)
        | inr nil ↦ absurd nil
      ]

  pub all_fit : (k : ℕ) (x : Message C) → ((to : ℕ) → to < k → Sends to x) → SendsFit S n me (to_all k me x)
  all_fit zero x each y a = absurd a
  all_fit (suc k) x each y a =
      elim (among_cases (to_all k me x) (record { sender = me; addressee = k; message = x } ∷ []) y a) [
        | inl b ↦ all_fit k x (λ to lt. each to (omega arith)) y b
        | inr b ↦ one_fits k x (each k (omega arith)) y b
      ]
