-- The calls of a wire of packets, step by step.
use Rattle.std.proofs.Common.{◌≡◌, ◌≢◌, ◌∙◌, ◌⊎◌, ℕ, zero, suc, ◌+◌, ◌-◌, ◌*◌, ◌<◌, ◌≤◌, ◌^◌, Bool, true, false, List, [], ◌∷◌, ◌++◌, length, map, take, ap, sym, subst, refl, arith, inl, inr, Option, Some, None}
use Rattle.std.specs.Prelude.{◌==◌, not, nat_lt, nat_le, if◌then◌else◌, replicate, option_map, slice_get, slice_index_or, slice_set}
use Rattle.std.specs.List.{All, Contains, position_or_len}
use Rattle.std.proofs.lemmas.Bool.{eq-eqb, eqb-true, eqb-false, ltb-true, leb-true, and_parts}
use Rattle.std.proofs.lemmas.List.{append-nil, append_assoc, length-set, length-replicate}
use Rattle.std.proofs.lemmas.List.Elements.{All-nil, All-head, All-tail, All-push, Contains-append_right}
use Rattle.px_packet.specs.declared.start.Start.{Start}
use Rattle.px_packet.specs.declared.held.PiecesHeld.{PiecesHeld}
use Rattle.px_packet.specs.Held.{has_bit}
use Rattle.px_packet.specs.Reassembling.{due_held}
use Rattle.px_packet.specs.Pieces.{count_of, piece_of}
use Rattle.px_packet.specs.Sending.{Sent, CanBeCut, is_kept, name_of, place_of, sent_after, cut_with, latest}
use Rattle.px_packet.specs.PieceLaws.{Keeps, NamedOnce, CutIsPiece, log_after}
use Rattle.px_transport.specs.Wires.{WireEvent, Gave, Handed, hands, gives, within}
use Rattle.px_transport.specs.Receiving.{Heard, Memory, reported_of, of_member}
use Rattle.px_transport.specs.Sending.{ToMember, Unsealed, Sealer, SendsUpTo, packet, packets, to_member, new_to, counted, counted_for, counted_all}
use Rattle.px_transport.specs.Sending.{refilled, refilled_for, stated, state, again, again_of, burst, pieces, piece, lacked}
use Rattle.px_transport.specs.Sending.{is_short, named, whole, is_other, can_be_cut, next_state}
use Rattle.px_transport.specs.Wiring.{WireState, Duty, State, Report, Again, reports, start_of, Does, DoesAll, upkeep, duties_of}
use Rattle.px_transport.specs.Wiring.{opened, given_of, heard_with, datagram_of, TakesAny, IsSent, IsNew, Call, Receive, Wait, Send, Calls, can_send}
use Rattle.px_transport.specs.Laws.{Traffic, IsBodyOf}
use Rattle.px_transport.specs.Steps.{Step, Hears, Puts, Takes, Reports, below_of, above_of, below_in, above_in, wholes_for, cuts_for, heard_in, handed_for, IsStep, AreSteps, CallsAreSteps}

-- ---- what a sender has of a member

abbrev sent_of : List ToMember → ℕ → Sent
sent_of os to = (to_member os to).sent

-- as another is put in the place of one
sent_set : (os : List ToMember) (m to : ℕ) (o : ToMember) → o.sent ≡ sent_of os m →
    sent_of (slice_set os m o) to ≡ sent_of os to
sent_set [] m to o e = refl
sent_set (x ∷ os) zero zero o e = e
sent_set (x ∷ os) zero (suc to) o e = refl
sent_set (x ∷ os) (suc m) zero o e = refl
sent_set (x ∷ os) (suc m) (suc to) o e = sent_set os m to o e

sent_other : (os : List ToMember) (m to : ℕ) (o : ToMember) → m ≢ to → sent_of (slice_set os m o) to ≡ sent_of os to
sent_other [] m to o ne = refl
sent_other (x ∷ os) zero zero o ne = absurd (ne refl)
sent_other (x ∷ os) zero (suc to) o ne = refl
sent_other (x ∷ os) (suc m) zero o ne = refl
sent_other (x ∷ os) (suc m) (suc to) o ne = sent_other os m to o (λ e. ne (ap suc e))

sent_same : (os : List ToMember) (m : ℕ) (o : ToMember) → m < length os → sent_of (slice_set os m o) m ≡ o.sent
sent_same [] m o l = absurd (omega (arith, l))
sent_same (x ∷ os) zero o l = refl
sent_same (x ∷ os) (suc m) o l = sent_same os m o (omega (arith, l))

abbrev refilled_at : (b : Bool) → ToMember → ℕ → ToMember
refilled_at b o now = if b then record o { since = now; left = 92 } else o

refilled_sent : (now : ℕ) (o : ToMember) → (refilled now o).sent ≡ o.sent
refilled_sent now o = at (nat_le 5 (now - o.since))
  where
    at : (b : Bool) → (refilled_at b o now).sent ≡ o.sent
    at true = refl
    at false = refl

-- ---- datagrams that were cut

abbrev IsCut : List (List ℕ) → (ℕ × List ℕ) → Type 0
IsCut log c = slice_get log c.0 ≡ Some c.1

found_in : (log : List (List ℕ)) (name : ℕ) (m : List ℕ) (cuts : List (ℕ × List ℕ)) → All (IsCut log) cuts →
    option_map (λ (c : ℕ × List ℕ). c.1) (slice_get cuts (position_or_len (λ (c : ℕ × List ℕ). c.0 == name) cuts)) ≡ Some m →
    slice_get log name ≡ Some m
found_in log name m [] all e = absurd cc
found_in log name m (c ∷ cuts) all e = at (found_in log name m cuts (All-tail (IsCut log) c cuts all)) (c.0 == name) refl e
  where
    at : (option_map (λ (c : ℕ × List ℕ). c.1) (slice_get cuts (position_or_len (λ (c : ℕ × List ℕ). c.0 == name) cuts)) ≡ Some m →
        slice_get log name ≡ Some m) → (b : Bool) → (c.0 == name) ≡ b →
        option_map (λ (c : ℕ × List ℕ). c.1) (slice_get (c ∷ cuts)
        (if not b then 1 + position_or_len (λ (c : ℕ × List ℕ). c.0 == name) cuts else 0)) ≡ Some m →
        slice_get log name ≡ Some m
    at rest true f h = ap (slice_get log) (sym (eqb-true c.0 name f)) ∙ All-head (IsCut log) c cuts all ∙ h
    at rest false f h =
        let p = position_or_len (λ (c : ℕ × List ℕ). c.0 == name) cuts in
        let one : 1 + p ≡ suc p = omega arith in
        rest (subst (λ (n : ℕ). option_map (λ (c : ℕ × List ℕ). c.1) (slice_get (c ∷ cuts) n) ≡ Some m) one h)

found : (log : List (List ℕ)) (s : Sent) (name : ℕ) (m : List ℕ) → Keeps log s → cut_with s name ≡ Some m →
    slice_get log name ≡ Some m
found log s name m keeps e = found_in log name m s.cuts keeps.kept e

all_there : (log : List (List ℕ)) (name : ℕ) (m : List ℕ) → All CanBeCut log → slice_get log name ≡ Some m → CanBeCut m
all_there [] name m all e = absurd cc
all_there (x ∷ log) zero m all e = subst CanBeCut (some_is e) (All-head CanBeCut x log all)
  where
    some_is : Some x ≡ Some m → x ≡ m
    some_is h = cc
all_there (x ∷ log) (suc n) m all e = all_there log n m (All-tail CanBeCut x log all) e

-- ---- packets that may be sent

-- what was handed over for each member
abbrev Handovers : Type 0
Handovers = ℕ → Traffic

abbrev IsGood : Sealer → Handovers → Unsealed → Type 0
IsGood s t p = IsBodyOf (t p.to) p.kind s.me s.start p.body

abbrev AreGood : Sealer → Handovers → List Unsealed → Type 0
AreGood s t [] = Unit {0}
AreGood s t (p ∷ ps) = IsGood s t p × AreGood s t ps

good_front : (s : Sealer) (t : Handovers) (ps qs : List Unsealed) → AreGood s t (ps ++ qs) → AreGood s t ps
good_front s t [] qs g = tt
good_front s t (p ∷ ps) qs g = (g.0, good_front s t ps qs g.1)

good_take : (s : Sealer) (t : Handovers) (n : ℕ) (ps : List Unsealed) → AreGood s t ps → AreGood s t (take n ps)
good_take s t zero ps g = tt
good_take s t (suc n) [] g = tt
good_take s t (suc n) (p ∷ ps) g = (g.0, good_take s t n ps g.1)

part_inside : (size k : ℕ) → k < count_of size → 1160 * k < size
part_inside size k l = omega (arith, l)

good_pieces : (s : Sealer) (t : Handovers) (to : ℕ) (echo : Start) (held : PiecesHeld) (m : List ℕ) → CutIsPiece →
    slice_get ((t to).cuts s.me s.start) held.name ≡ Some m → CanBeCut m → (n i : ℕ) → i + n ≤ count_of (length m) →
    AreGood s t (map (piece to echo held.name m) (lacked held.bits i n))
good_pieces s t to echo held m is there can zero i le = tt
good_pieces s t to echo held m is there can (suc n) i le =
    at (good_pieces s t to echo held m is there can n (i + 1) (omega (arith, le))) (has_bit held.bits i)
  where
    one : IsGood s t (piece to echo held.name m i)
    one = (
      piece_of held.name m i,
      refl,
      is ((t to).cuts s.me s.start) held.name m i there can (part_inside (length m) i (omega (arith, le))),
    )

    at : AreGood s t (map (piece to echo held.name m) (lacked held.bits (i + 1) n)) → (b : Bool) →
        AreGood s t (map (piece to echo held.name m) (if not b then i ∷ lacked held.bits (i + 1) n else lacked held.bits (i + 1) n))
    at rest true = rest
    at rest false = (one, rest)

good_again : (s : Sealer) (t : Handovers) (to : ℕ) (echo : Start) (held : PiecesHeld) (sent : Sent) → CutIsPiece →
    Keeps ((t to).cuts s.me s.start) sent → All CanBeCut ((t to).cuts s.me s.start) → (o : Option (List ℕ)) →
    cut_with sent held.name ≡ o → AreGood s t (again_of to echo held o)
good_again s t to echo held sent is keeps can None e = tt
good_again s t to echo held sent is keeps can (Some m) e =
    let log = (t to).cuts s.me s.start in
    let there = found log sent held.name m keeps e in
    good_pieces s t to echo held m is there (all_there log held.name m can there) (count_of (length m) - 0) 0 (omega arith)

good_report : (s : Sealer) (t : Handovers) (to : ℕ) (echo : Start) (o : Option PiecesHeld) → AreGood s t (reports to echo o)
good_report s t to echo None = tt
good_report s t to echo (Some held) = (tt, tt)

-- ---- after steps, the latest first

abbrev below_then : List Step → List WireEvent
below_then [] = []
below_then (x ∷ before) = below_then before ++ below_of x

abbrev above_then : List Step → List WireEvent
above_then [] = []
above_then (x ∷ before) = above_then before ++ above_of x

module _ (keys : List (List ℕ)) (s : Sealer) (named_once : NamedOnce) (is_piece : CutIsPiece) where
  abbrev AreAll : List Step → Type 0
  AreAll [] = Unit {0}
  AreAll (x ∷ before) = IsStep keys s before x × AreAll before

  abbrev cuts_at : List Step → ℕ → List (List ℕ)
  cuts_at before to = cuts_for to before

  -- what is so after steps
  record At (traffic : List WireEvent) (os : List ToMember) (heard : List Heard) (es : List WireEvent) : Type 0 where
    before : List Step
    are : AreAll before
    below_is : below_then before ≡ traffic
    above_is : above_then before ≡ es
    heard_is : heard ≡ heard_in keys s before
    count : length os ≡ s.members
    logs : (to : ℕ) → Keeps (cuts_for to before) (sent_of os to)
    can : (to : ℕ) → All CanBeCut (cuts_for to before)

  abbrev AtState : WireState → List WireEvent → Type 0
  AtState k es = At k.traffic k.outgoing k.heard es

  -- what was sent to members is noted otherwise
  abbrev noted : (t : List WireEvent) (os os' : List ToMember) (hs : List Heard) (es : List WireEvent) → At t os hs es →
      length os' ≡ length os → ((to : ℕ) → sent_of os' to ≡ sent_of os to) → At t os' hs es
  noted t os os' hs es a size same =
      record {
        before = a.before;
        are = a.are;
        below_is = a.below_is;
        above_is = a.above_is;
        heard_is = a.heard_is;
        can = a.can;
        count = size ∙ a.count;
        logs = λ to. subst (Keeps (cuts_for to a.before)) (sym (same to)) (a.logs to);
      }

  -- a packet goes
  abbrev put : (t : List WireEvent) (os : List ToMember) (hs : List Heard) (es : List WireEvent) (a : At t os hs es) (p : Unsealed) →
      IsGood s (λ to. handed_for to a.before) p →
      At (t ++ Handed p.to (packet s p ((to_member os p.to).counter + 1)).1 ∷ []) (counted_for os p.to) hs es
  put t os hs es a p good =
      let c = (to_member os p.to).counter + 1 in
      let it = Puts p.to (packet s p c).1 in
      record {
        before = it ∷ a.before;
        are = (record { what = p; counter = c; to_is = refl; bytes_is = refl; body_is = good }, a.are);
        below_is = ap (λ (x : List WireEvent). x ++ Handed p.to (packet s p c).1 ∷ []) a.below_is;
        above_is = append-nil (above_then a.before) ∙ a.above_is;
        heard_is = a.heard_is;
        count = length-set os p.to (counted (to_member os p.to)) ∙ a.count;
        logs = λ to. subst (Keeps (cuts_for to a.before)) (sym (sent_set os p.to to (counted (to_member os p.to)) refl)) (a.logs to);
        can = a.can;
      }

  puts : (ps : List Unsealed) (t : List WireEvent) (os : List ToMember) (hs : List Heard) (es : List WireEvent) (a : At t os hs es) →
      AreGood s (λ to. handed_for to a.before) ps → At (t ++ hands (packets s os ps)) (counted_all os ps) hs es
  puts [] t os hs es a good = subst (λ (x : List WireEvent). At x os hs es) (sym (append-nil t)) a
  puts (p ∷ ps) t os hs es a good =
      let d = packet s p ((to_member os p.to).counter + 1) in
      subst (λ (x : List WireEvent). At x (counted_all (counted_for os p.to) ps) hs es)
      (append_assoc t (Handed d.0 d.1 ∷ []) (hands (packets s (counted_for os p.to) ps)))
      (puts ps (t ++ Handed d.0 d.1 ∷ []) (counted_for os p.to) hs es (put t os hs es a p good.0) good.1)

  puts_upto : (b : Bool) (ps : List Unsealed) (t t' : List WireEvent) (os os' : List ToMember) (hs : List Heard) (es : List WireEvent)
      (a : At t os hs es) → AreGood s (λ to. handed_for to a.before) ps →
      SendsUpTo s b ps (λ more. t' ≡ t ++ more) os os' → At t' os' hs es
  puts_upto b ps t t' os os' hs es a good (first, rest, split, whole_is, sent) =
      subst (λ (x : List WireEvent). At x os' hs es) (sym sent.0)
      (subst (λ (x : List ToMember). At (t ++ hands (packets s os first)) x hs es) (sym sent.1)
      (puts first t os hs es a
      (good_front s (λ to. handed_for to a.before) first rest (subst (AreGood s (λ to. handed_for to a.before)) split good))))

  -- ---- duties

  abbrev reported : (t : List WireEvent) (os : List ToMember) (hs : List Heard) (es : List WireEvent) (member now : ℕ) → At t os hs es →
      At t os (reported_of hs member now) es
  reported t os hs es member now a =
      record {
        before = Reports member now ∷ a.before;
        are = (tt, a.are);
        below_is = append-nil (below_then a.before) ∙ a.below_is;
        above_is = append-nil (above_then a.before) ∙ a.above_is;
        heard_is = ap (λ (x : List Heard). reported_of x member now) a.heard_is;
        count = a.count;
        logs = a.logs;
        can = a.can;
      }

  abbrev refilled_noted : (t : List WireEvent) (os : List ToMember) (hs : List Heard) (es : List WireEvent) (to now : ℕ) → At t os hs es →
      At t (refilled_for os to now) hs es
  refilled_noted t os hs es to now a =
      noted t os (refilled_for os to now) hs es a (length-set os to (refilled now (to_member os to)))
      (λ k. sent_set os to k (refilled now (to_member os to)) (refilled_sent now (to_member os to)))

  duty : (now : ℕ) (d : Duty) (k k' : WireState) (es : List WireEvent) → Does s now d k k' → AtState k es → AtState k' es
  duty now (State to) k k' es d a =
      at (nat_lt now (next_state (to_member k.outgoing to) (start_of k.heard to))) d.sends
    where
      at : (b : Bool) → SendsUpTo s d.is_all (if b then [] else state to (start_of k.heard to) ∷ [])
          (λ more. k'.traffic ≡ k.traffic ++ more)
          (if b then k.outgoing else slice_set k.outgoing to (stated now (start_of k.heard to) (to_member k.outgoing to)))
          k'.outgoing → AtState k' es
      at true sends =
          subst (λ (hs : List Heard). At k'.traffic k'.outgoing hs es) (sym d.heard_is)
          (puts_upto d.is_all [] k.traffic k'.traffic k.outgoing k'.outgoing k.heard es a tt sends)
      at false sends =
          let o = stated now (start_of k.heard to) (to_member k.outgoing to) in
          let b = noted k.traffic k.outgoing (slice_set k.outgoing to o) k.heard es a (length-set k.outgoing to o)
          (λ x. sent_set k.outgoing to x o refl) in
          subst (λ (hs : List Heard). At k'.traffic k'.outgoing hs es) (sym d.heard_is)
          (puts_upto d.is_all (state to (start_of k.heard to) ∷ []) k.traffic k'.traffic (slice_set k.outgoing to o) k'.outgoing k.heard es
          b (tt, tt) sends)
  duty now (Report to) k k' es d a =
      let b = reported k.traffic k.outgoing k.heard es to now a in
      let o = due_held now (of_member k.heard to).unfinished in
      subst (λ (hs : List Heard). At k'.traffic k'.outgoing hs es) (sym d.heard_is)
      (puts_upto d.is_all (reports to (start_of k.heard to) o) k.traffic k'.traffic k.outgoing k'.outgoing (reported_of k.heard to now) es b
      (good_report s (λ m. handed_for m b.before) to (start_of k.heard to) o) d.sends)
  duty now (Again to held) k k' es d a =
      let os1 = refilled_for k.outgoing to now in
      let b = refilled_noted k.traffic k.outgoing k.heard es to now a in
      let t : Handovers = λ m. handed_for m b.before in
      let all : AreGood s t (again_of to (start_of k.heard to) held (cut_with (sent_of os1 to) held.name)) =
      good_again s t to (start_of k.heard to) held (sent_of os1 to) is_piece (b.logs to) (b.can to) (cut_with (sent_of os1 to) held.name) refl in
      subst (λ (hs : List Heard). At k'.traffic k'.outgoing hs es) (sym d.heard_is)
      (puts_upto d.is_all (again os1 to (start_of k.heard to) held) k.traffic k'.traffic os1 k'.outgoing k.heard es b
      (good_take s t (to_member os1 to).left (again_of to (start_of k.heard to) held (cut_with (sent_of os1 to) held.name)) all) d.sends)

  all_duties : (now : ℕ) (ds : List Duty) (k k' : WireState) (es : List WireEvent) → DoesAll s now ds k k' → AtState k es → AtState k' es
  all_duties now [] k k' es d a = subst (λ (x : WireState). AtState x es) (sym d) a
  all_duties now (x ∷ ds) k k' es (between, first, rest) a =
      all_duties now ds between k' es rest (duty now x k between es first a)

  -- ---- a receive

  within_is : (room : ℕ) (d : List ℕ) → (within room d ≡ []) ⊎ (within room d ≡ d)
  within_is room d = at (nat_le (length d) room)
    where
      at : (b : Bool) → ((if b then d else []) ≡ []) ⊎ ((if b then d else []) ≡ d)
      at true = inr refl
      at false = inl refl

  is_heard : (room : ℕ) (given d : List ℕ) → given ≡ within room d → (given ≡ []) ⊎ (given ≡ d)
  is_heard room given d e = elim (within_is room d) [ inl none ↦ inl (e ∙ none) | inr all ↦ inr (e ∙ all) ]

  hears : (t : List WireEvent) (os : List ToMember) (hs : List Heard) (es : List WireEvent) (came given : List ℕ) (memory : Memory)
      (now : ℕ) → (given ≡ []) ⊎ (given ≡ datagram_of (given_of s.start memory hs (opened keys s came) now)) → At t os hs es →
      At (t ++ Gave came ∷ []) os (heard_with s.start memory hs (opened keys s came) now) (es ++ Gave given ∷ [])
  hears t os hs es came given memory now is a =
      record {
        before = Hears came given memory now ∷ a.before;
        are = (
          subst (λ (x : List Heard). (given ≡ []) ⊎ (given ≡ datagram_of (given_of s.start memory x (opened keys s came) now))) a.heard_is is,
          a.are,
        );
        below_is = ap (λ (x : List WireEvent). x ++ Gave came ∷ []) a.below_is;
        above_is = ap (λ (x : List WireEvent). x ++ Gave given ∷ []) a.above_is;
        heard_is = ap (λ (x : List Heard). heard_with s.start memory x (opened keys s came) now) a.heard_is;
        count = a.count;
        logs = a.logs;
        can = a.can;
      }

  takes_any : (now : ℕ) (came given : Option (List ℕ)) (room failed : ℕ) (k k' : WireState) (d d' c c' : ℕ) (es : List WireEvent) →
      TakesAny keys s now came room given (record k { traffic = k.traffic ++ gives came; failures = failed }) k' d d' c c' →
      AtState k es → AtState k' (es ++ gives given)
  takes_any now None given room failed k k' d d' c c' es t a =
      subst (λ (x : WireState). AtState x (es ++ gives given)) (sym t.1)
      (subst (λ (g : Option (List ℕ)). At (k.traffic ++ []) k.outgoing k.heard (es ++ gives g)) (sym t.0)
      (subst (λ (x : List WireEvent). At x k.outgoing k.heard (es ++ [])) (sym (append-nil k.traffic))
      (subst (λ (x : List WireEvent). At k.traffic k.outgoing k.heard x) (sym (append-nil es)) a)))
  takes_any now (Some b) None room failed k k' d d' c c' es t a = absurd t
  takes_any now (Some b) (Some g) room failed k k' d d' c c' es t a =
      all_duties now (duties_of (opened keys s b) (given_of s.start t.memory k.heard (opened keys s b) now))
      (record k { traffic = k.traffic ++ Gave b ∷ []; failures = failed; heard = heard_with s.start t.memory k.heard (opened keys s b) now })
      k' (es ++ Gave g ∷ []) t.does
      (hears k.traffic k.outgoing k.heard es b g t.memory now
      (is_heard room g (datagram_of (given_of s.start t.memory k.heard (opened keys s b) now)) t.given_is) a)

  -- ---- a send

  abbrev takes_whole : (t : List WireEvent) (os : List ToMember) (hs : List Heard) (es : List WireEvent) (to : ℕ) (m : List ℕ) → At t os hs es →
      At t os hs (es ++ Handed to m ∷ [])
  takes_whole t os hs es to m a =
      record {
        before = Takes to m false ∷ a.before;
        are = ((λ e. absurd cc), a.are);
        below_is = append-nil (below_then a.before) ∙ a.below_is;
        above_is = ap (λ (x : List WireEvent). x ++ Handed to m ∷ []) a.above_is;
        heard_is = a.heard_is;
        count = a.count;
        logs = a.logs;
        can = a.can;
      }

  abbrev named_at : List ToMember → ℕ → List ℕ → List ToMember
  named_at os to m = slice_set os to (named m (to_member os to))

  takes_cut : (t : List WireEvent) (os : List ToMember) (hs : List Heard) (es : List WireEvent) (to : ℕ) (m : List ℕ) → CanBeCut m →
      to < length os → is_kept (sent_of os to) m ≡ false → (sent_of os to).count < 2 ^ 32 → At t os hs es →
      At t (named_at os to m) hs (es ++ Handed to m ∷ [])
  takes_cut t os hs es to m can inside new left a =
      let o = named m (to_member os to) in
      record {
        before = Takes to m true ∷ a.before;
        are = ((λ e. subst (λ (n : ℕ). n < 2 ^ 32) (a.logs to).count_is left), a.are);
        below_is = append-nil (below_then a.before) ∙ a.below_is;
        above_is = ap (λ (x : List WireEvent). x ++ Handed to m ∷ []) a.above_is;
        heard_is = a.heard_is;
        count = length-set os to o ∙ a.count;
        logs = λ k. logs_at k (to == k) refl;
        can = λ k. can_at k (to == k);
      }
    where
      keeps : Keeps (log_after (cuts_for to a.before) (sent_of os to) m) (sent_after (sent_of os to) m)
      keeps = (named_once (cuts_for to a.before) (sent_of os to) m (a.logs to)).0

      longer : log_after (cuts_for to a.before) (sent_of os to) m ≡ cuts_for to a.before ++ m ∷ []
      longer = ap (λ (b : Bool). if b then cuts_for to a.before else cuts_for to a.before ++ m ∷ []) new

      logs_at : (k : ℕ) (b : Bool) → (to == k) ≡ b →
          Keeps (if b then cuts_for k a.before ++ m ∷ [] else cuts_for k a.before) (sent_of (named_at os to m) k)
      logs_at k true e =
          let same : to ≡ k = eqb-true to k e in
          subst (λ (j : ℕ). Keeps (cuts_for j a.before ++ m ∷ []) (sent_of (named_at os to m) j)) same
          (subst (Keeps (cuts_for to a.before ++ m ∷ [])) (sym (sent_same os to (named m (to_member os to)) inside))
          (subst (λ (l : List (List ℕ)). Keeps l (sent_after (sent_of os to) m)) longer keeps))
      logs_at k false e =
          subst (Keeps (cuts_for k a.before)) (sym (sent_other os to k (named m (to_member os to)) (eqb-false to k e))) (a.logs k)

      can_at : (k : ℕ) (b : Bool) → All CanBeCut (if b then cuts_for k a.before ++ m ∷ [] else cuts_for k a.before)
      can_at k true = All-push CanBeCut (cuts_for k a.before) m (a.can k) can
      can_at k false = a.can k

  -- the datagram is the last that was handed over for the member
  whole_there : (to : ℕ) (m : List ℕ) (before : List Step) → Contains (wholes_for to (Takes to m false ∷ before)) m
  whole_there to m before =
      subst (λ (b : Bool). Contains (if b then wholes_for to before ++ m ∷ [] else wholes_for to before) m) (sym (eq-eqb to to refl))
      (Contains-append_right (wholes_for to before) (m ∷ []) m (0, omega arith, refl))

  can_is : (m : List ℕ) → can_be_cut m ≡ true → CanBeCut m
  can_is m e =
      let both = and_parts (nat_lt 0 (length m)) (nat_le (length m) 33640) e in
      record { some = ltb-true 0 (length m) both.0; short = leb-true (length m) 33640 both.1 }

  sends_cut : (r : Bool) (t t' : List WireEvent) (os os' : List ToMember) (hs : List Heard) (es : List WireEvent) (to : ℕ) (echo : Start)
      (m : List ℕ) → CanBeCut m → to < length os → name_of (sent_of os to) m < 2 ^ 32 → At t os hs es →
      SendsUpTo s r (burst os to (pieces to echo (record { name = name_of (sent_of os to) m; bits = 0 }) m)) (λ more. t' ≡ t ++ more)
      (named_at os to m) os' → At t' os' hs (es ++ Handed to m ∷ [])
  unfolding takes_cut
  sends_cut r t t' os os' hs es to echo m can inside left a sends = at (is_kept (sent_of os to) m) refl
    where
      held : PiecesHeld
      held = record { name = name_of (sent_of os to) m; bits = 0 }

      there : slice_get (log_after (cuts_for to a.before) (sent_of os to) m) held.name ≡ Some m
      there = (named_once (cuts_for to a.before) (sent_of os to) m (a.logs to)).1

      go : (b : At t (named_at os to m) hs (es ++ Handed to m ∷ [])) → slice_get (cuts_for to b.before) held.name ≡ Some m →
          At t' os' hs (es ++ Handed to m ∷ [])
      go b is =
          puts_upto r (burst os to (pieces to echo held m)) t t' (named_at os to m) os' hs (es ++ Handed to m ∷ []) b
          (good_take s (λ k. handed_for k b.before) (to_member os to).left (pieces to echo held m)
          (good_pieces s (λ k. handed_for k b.before) to echo held m is_piece is can (count_of (length m) - 0) 0 (omega arith))) sends

      at : (b : Bool) → is_kept (sent_of os to) m ≡ b → At t' os' hs (es ++ Handed to m ∷ [])
      at true e =
          let o = named m (to_member os to) in
          let same : o.sent ≡ sent_of os to =
          ap (λ (b : Bool). if b then sent_of os to
          else record {
            count = (sent_of os to).count + 1;
            cuts = latest ((sent_of os to).cuts ++ ((sent_of os to).count, m) ∷ []);
          }) e in
          let w = takes_whole t os hs es to m a in
          let b = noted t os (named_at os to m) hs (es ++ Handed to m ∷ []) w (length-set os to o) (λ k. sent_set os to k o same) in
          go b (subst (λ (l : List (List ℕ)). slice_get l held.name ≡ Some m)
          (ap (λ (b : Bool). if b then cuts_for to a.before else cuts_for to a.before ++ m ∷ []) e) there)
      at false e =
          let l : (sent_of os to).count < 2 ^ 32 =
          subst (λ (c : Bool). (if c then (slice_index_or (sent_of os to).cuts (place_of (sent_of os to).cuts m) (0, [])).0
          else (sent_of os to).count) < 2 ^ 32) e left in
          let b = takes_cut t os hs es to m can inside e l a in
          go b (subst (λ (c : Bool). slice_get (if c then cuts_for to a.before ++ m ∷ [] else cuts_for to a.before) held.name ≡ Some m)
          (sym (eq-eqb to to refl)) (subst (λ (l : List (List ℕ)). slice_get l held.name ≡ Some m)
          (ap (λ (b : Bool). if b then cuts_for to a.before else cuts_for to a.before ++ m ∷ []) e) there))

  sends : (to : ℕ) (m : List ℕ) (sent : Bool) (k k' : WireState) (es : List WireEvent) → IsSent s to m sent k k' → AtState k es →
      AtState k' (es ++ Handed to m ∷ [])
  sends to m sent k k' es is a =
      subst (λ (hs : List Heard). At k'.traffic k'.outgoing hs (es ++ Handed to m ∷ [])) (sym is.heard_is) (at (can_send s to m) refl)
    where
      os1 : List ToMember
      os1 = refilled_for k.outgoing to is.now

      b : At k.traffic os1 k.heard es
      b = refilled_noted k.traffic k.outgoing k.heard es to is.now a

      nothing : k'.traffic ≡ k.traffic → k'.outgoing ≡ os1 → At k'.traffic k'.outgoing k.heard (es ++ Handed to m ∷ [])
      nothing t o =
          subst (λ (x : List WireEvent). At x k'.outgoing k.heard (es ++ Handed to m ∷ [])) (sym t)
          (subst (λ (x : List ToMember). At k.traffic x k.heard (es ++ Handed to m ∷ [])) (sym o)
          (takes_whole k.traffic os1 k.heard es to m b))

      short : (c : Bool) → CanBeCut m → to < length os1 → (c ≡ false → name_of (sent_of os1 to) m < 2 ^ 32) →
          SendsUpTo s sent (if c then whole to (start_of k.heard to) m ∷ []
          else burst os1 to (pieces to (start_of k.heard to) (record { name = name_of (sent_of os1 to) m; bits = 0 }) m))
          (λ more. k'.traffic ≡ k.traffic ++ more) (if c then os1 else named_at os1 to m) k'.outgoing →
          At k'.traffic k'.outgoing k.heard (es ++ Handed to m ∷ [])
      short true can inside left up =
          let w = takes_whole k.traffic os1 k.heard es to m b in
          puts_upto sent (whole to (start_of k.heard to) m ∷ []) k.traffic k'.traffic os1 k'.outgoing k.heard (es ++ Handed to m ∷ []) w
          (whole_there to m b.before, tt) up
      short false can inside left up =
          sends_cut sent k.traffic k'.traffic os1 k'.outgoing k.heard es to (start_of k.heard to) m can inside (left refl) b up

      at : (c : Bool) → can_send s to m ≡ c → At k'.traffic k'.outgoing k.heard (es ++ Handed to m ∷ [])
      at false e = let n = is.cannot e in nothing n.0 n.1
      at true e =
          let both = and_parts (is_other s to) (can_be_cut m) e in
          let l : to < s.members = ltb-true to s.members (and_parts (nat_lt to s.members) (not (to == s.me)) both.0).0 in
          let c = b.count in
          elim is.sends [
            | inl none ↦ nothing none.1 none.2
            | inr up ↦ short (is_short m) (can_is m both.1) (omega (arith, l, c)) up.0 up.1
          ]

  -- ---- calls

  new : (k : WireState) → IsNew s k → AtState k []
  new k is =
      record {
        before = [];
        are = tt;
        below_is = sym is.traffic_is;
        above_is = refl;
        heard_is = is.heard_is;
        count = ap (λ (x : List ToMember). length x) is.outgoing_is ∙ length-replicate s.members new_to;
        logs = λ to. subst (λ (x : List ToMember). Keeps [] (sent_of x to)) (sym is.outgoing_is)
            (subst (Keeps []) (sym (never_sent s.members to)) (record { count_is = refl; kept = All-nil (IsCut []) }));
        can = λ to. All-nil CanBeCut;
      }
    where
      never_sent : (n to : ℕ) → sent_of (replicate n new_to) to ≡ new_to.sent
      never_sent zero to = refl
      never_sent (suc n) zero = refl
      never_sent (suc n) (suc to) = never_sent n to

  call : (k k' : WireState) (es more : List WireEvent) → Call keys s k k' more → AtState k es → AtState k' (es ++ more)
  call k k' es more (Receive room given d d' c c' r is) a =
      subst (λ (x : List WireEvent). AtState k' (es ++ x)) (sym is)
      (takes_any r.now r.came given room r.failed r.before k' d d' c c' es r.takes (all_duties r.now (upkeep s) k r.before es r.does a))
  call k k' es more (Wait w is) a =
      subst (λ (x : List WireEvent). AtState k' (es ++ x)) (sym is)
      (subst (λ (x : WireState). AtState x (es ++ [])) (sym w.after)
      (subst (λ (x : List WireEvent). At w.before.traffic w.before.outgoing w.before.heard x) (sym (append-nil es))
      (all_duties w.now (upkeep s) k w.before es w.does a)))
  call k k' es more (Send to m sent is is_more) a =
      subst (λ (x : List WireEvent). AtState k' (es ++ x)) (sym is_more) (sends to m sent k k' es is a)

  calls : (n : ℕ) (k : WireState) (es : List WireEvent) → Calls keys s n k es → AtState k es
  calls zero k es (is, none) = subst (λ (x : List WireEvent). AtState k x) (sym none) (new k is)
  calls (suc n) k es (j, before, more, made, one, split) =
      subst (λ (x : List WireEvent). AtState k x) (sym split) (call j k before more one (calls n j before made))

  -- ---- in order

  abbrev onto : List Step → List Step → List Step
  onto [] xs = xs
  onto (x ∷ before) xs = onto before (x ∷ xs)

  below_onto : (before xs : List Step) → below_in (onto before xs) ≡ below_then before ++ below_in xs
  below_onto [] xs = refl
  below_onto (x ∷ before) xs = below_onto before (x ∷ xs) ∙ sym (append_assoc (below_then before) (below_of x) (below_in xs))

  above_onto : (before xs : List Step) → above_in (onto before xs) ≡ above_then before ++ above_in xs
  above_onto [] xs = refl
  above_onto (x ∷ before) xs = above_onto before (x ∷ xs) ∙ sym (append_assoc (above_then before) (above_of x) (above_in xs))

  are_onto : (before xs : List Step) → AreAll before → AreSteps keys s xs before → AreSteps keys s (onto before xs) []
  are_onto [] xs all rest = rest
  are_onto (x ∷ before) xs all rest = are_onto before (x ∷ xs) all.1 (all.0, rest)

  pub in_steps : (n : ℕ) (k : WireState) (es : List WireEvent) → Calls keys s n k es →
      (steps : List Step) × (below_in steps ≡ k.traffic) × (above_in steps ≡ es) × AreSteps keys s steps []
  in_steps n k es made =
      let a = calls n k es made in (
        onto a.before [],
        below_onto a.before [] ∙ append-nil (below_then a.before) ∙ a.below_is,
        above_onto a.before [] ∙ append-nil (above_then a.before) ∙ a.above_is,
        are_onto a.before [] a.are tt,
      )

pub calls_are_steps : NamedOnce → CutIsPiece → CallsAreSteps
calls_are_steps named_once is_piece keys s n k es made = in_steps keys s named_once is_piece n k es made
