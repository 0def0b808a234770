-- What is given of sealed packets was handed over.
use Rattle.std.proofs.Common.{◌≡◌, ◌∙◌, ◌⊎◌, ℕ, zero, suc, ◌<◌, ◌≤◌, ◌^◌, Bool, true, false, List, [], ◌∷◌, ◌++◌, length, drop, ap, sym, subst, refl, arith, inl, inr, Option, Some, None}
use Rattle.std.specs.Prelude.{◌==◌, ◌&&◌, ◌||◌, get_or, not, nat_lt, slice_index, is_some, unwrap_or, if◌then◌else◌}
use Rattle.std.specs.List.{Contains}
use Rattle.std.specs.Int.{w32, w64, to_be_bytes, from_be_bytes}
use Rattle.std.proofs.lemmas.Bool.{eqb-true, eq-eqb, not-false, and_parts, and_from, both_ways, cases_eq}
use Rattle.std.proofs.lemmas.Nat.{be_bytes_4}
use Rattle.std.proofs.lemmas.List.{length-append}
use Rattle.std.proofs.lemmas.List.Elements.{All-nil, Contains-append_left, Contains-append_right, Contains-append_cases}
use Rattle.px_packet.specs.declared.start.Start.{Start}
use Rattle.px_packet.specs.declared.kind.Kind.{Kind}
use Rattle.px_packet.specs.declared.kind.Kind.TheVariants as kinds
use Rattle.px_packet.specs.declared.header.Header.{Header}
use Rattle.px_packet.specs.declared.fault.PacketFault.{PacketFault}
use Rattle.px_packet.specs.declared.fault.PacketFault.TheVariants as faults
use Rattle.px_packet.specs.Arrivals.{is_start}
use Rattle.px_packet.specs.Headers.{number_of, number, start_bytes, header_bytes, header_fault, header_in, kind_in}
use Rattle.px_packet.specs.Packets.{front_of, packet_fault, is_authentic}
use Rattle.px_packet.specs.PacketLaws.{FrontWasSealed}
use Rattle.px_packet.specs.Pieces.{Piece, piece_of}
use Rattle.px_packet.specs.Reassembling.{Unfinished, due_after}
use Rattle.px_packet.specs.PieceLaws.{ArePartsOf, IsPieceOf, JoinedWasCut, ReportKeeps, LogGrows}
use Rattle.px_transport.specs.Receiving.{Heard, Given, Whole, Joined, Held, Nothing, Dropped, Memory, of_member, heard_by}
use Rattle.px_transport.specs.Sending.{Sealer, header_of}
use Rattle.px_transport.specs.Wiring.{opened, opened_as, given_of, heard_with, datagram_of}
use Rattle.px_transport.specs.Laws.{Traffic, IsBodyOf, WasHandedOver}
use Rattle.px_transport.specs.Steps.{Step, Hears, Puts, Takes, Reports, wholes_for, cuts_for, heard_in, handed_for, IsPut, IsStep}
use Rattle.px_transport.specs.Networks.{Cluster, StartsDiffer, Network, Before, with_step, AreSteps, PacketsCarried, DatagramsCarried, SealedIsCarried}
use Rattle.px_transport.proofs.Handed.{AreOf, packet_keeps}
use Rattle.px_transport.proofs.Members.{heard_nobody, set_each}

-- ---- a packet that is opened

seventh : (a b c d f g h : Bool) (p q r s t u v : PacketFault) (x : Option PacketFault) →
    (if a then Some p else if b then Some q else if c then Some r else if d then Some s else if f then Some t
    else if g then Some u else if h then Some v else x) ≡ None → h ≡ false
seventh true b c d f g h p q r s t u v x e = absurd cc
seventh false true c d f g h p q r s t u v x e = absurd cc
seventh false false true d f g h p q r s t u v x e = absurd cc
seventh false false false true f g h p q r s t u v x e = absurd cc
seventh false false false false true g h p q r s t u v x e = absurd cc
seventh false false false false false true h p q r s t u v x e = absurd cc
seventh false false false false false false true p q r s t u v x e = absurd cc
seventh false false false false false false false p q r s t u v x e = refl

both : (b : Bool) (x : Option PacketFault) (f : PacketFault) → (if b then x else Some f) ≡ None → (b ≡ true) × (x ≡ None)
both true x f e = (refl, e)
both false x f e = absurd cc

-- it is for this member
receiver : (cluster members me : ℕ) (b : List ℕ) → header_fault cluster members me b ≡ None → slice_index b 11 ≡ me
receiver cluster members me b e =
    eqb-true (slice_index b 11) me
    (not-false (slice_index b 11 == me)
    (seventh (nat_lt (length b) 37) (not (number w32 0 b == 0x50465853)) (not (slice_index b 4 == 2))
    (not (number w32 5 b == cluster)) (not (slice_index b 9 == members))
    (not (nat_lt (slice_index b 10) members) || (slice_index b 10 == me)) (not (slice_index b 11 == me)) faults.Short
    faults.Magic faults.Version faults.Cluster faults.Members faults.Sender faults.Receiver
    (if not (is_some (kind_in (slice_index b 12))) then Some faults.Kind
    else if number w32 13 b == 0 then Some faults.Start else if number w64 29 b == 0 then Some faults.Counter else None) e))

some_is : (x y : Header × List ℕ) → Some x ≡ Some y → x ≡ y
some_is x y e = ap (λ (o : Option (Header × List ℕ)). unwrap_or o x) e

record Opening (keys : List (List ℕ)) (s : Sealer) (came : List ℕ) (h : Header) (b : List ℕ) : Type 0 where
  fault : header_fault s.cluster s.members s.me (front_of came) ≡ None
  header : header_in (front_of came) ≡ h
  body : drop 37 (front_of came) ≡ b

opening : (keys : List (List ℕ)) (s : Sealer) (came : List ℕ) (h : Header) (b : List ℕ) → opened keys s came ≡ Some (h, b) →
    Opening keys s came h b
opening keys s came h b e = at (packet_fault keys s.cluster s.members s.me came) refl e
  where
    at : (o : Option PacketFault) → packet_fault keys s.cluster s.members s.me came ≡ o → opened_as o came ≡ Some (h, b) →
        Opening keys s came h b
    at (Some f) g e = absurd cc
    at None g e = record {
      fault = (both (is_authentic keys came) (header_fault s.cluster s.members s.me (front_of came)) faults.Tag g).1;
      header = ap (λ (p : Header × List ℕ). p.0) (some_is (header_in (front_of came), drop 37 (front_of came)) (h, b) e);
      body = ap (λ (p : Header × List ℕ). p.1) (some_is (header_in (front_of came), drop 37 (front_of came)) (h, b) e);
    }

-- ---- as steps go on

wholes_grow : (to : ℕ) (x : Step) (b : List Step) (m : List ℕ) → Contains (wholes_for to b) m → Contains (wholes_for to (x ∷ b)) m
wholes_grow to (Hears came given memory now) b m h = h
wholes_grow to (Puts k bytes) b m h = h
wholes_grow to (Takes k d is_cut) b m h = at (k == to)
  where
    at : (c : Bool) → Contains (if c then wholes_for to b ++ d ∷ [] else wholes_for to b) m
    at true = Contains-append_left (wholes_for to b) (d ∷ []) m h
    at false = h
wholes_grow to (Reports member now) b m h = h

cuts_in : (to : ℕ) (b : List Step) (m : List ℕ) → Contains (cuts_for to b) m → Contains (wholes_for to b) m
cuts_in to [] m h = h
cuts_in to (Hears came given memory now ∷ b) m h = cuts_in to b m h
cuts_in to (Puts k bytes ∷ b) m h = cuts_in to b m h
cuts_in to (Takes k d false ∷ b) m h = wholes_grow to (Takes k d false) b m (cuts_in to b m h)
cuts_in to (Takes k d true ∷ b) m h = at (cuts_in to b m) (k == to) h
  where
    at : (Contains (cuts_for to b) m → Contains (wholes_for to b) m) → (c : Bool) →
        Contains (if c then cuts_for to b ++ d ∷ [] else cuts_for to b) m →
        Contains (if c then wholes_for to b ++ d ∷ [] else wholes_for to b) m
    at rest true g =
        elim (Contains-append_cases (cuts_for to b) (d ∷ []) m g) [
          | inl before ↦ Contains-append_left (wholes_for to b) (d ∷ []) m (rest before)
          | inr last ↦ Contains-append_right (wholes_for to b) (d ∷ []) m last
        ]
    at rest false g = rest g
cuts_in to (Reports member now ∷ b) m h = cuts_in to b m h

module _ (grows : LogGrows) where
  parts_grow : (to : ℕ) (x : Step) (b : List Step) (us : List Unfinished) → ArePartsOf (cuts_for to b) us → ArePartsOf (cuts_for to (x ∷ b)) us
  parts_grow to (Hears came given memory now) b us h = h
  parts_grow to (Puts k bytes) b us h = h
  parts_grow to (Takes k d false) b us h = h
  parts_grow to (Takes k d true) b us h = at (k == to)
    where
      at : (c : Bool) → ArePartsOf (if c then cuts_for to b ++ d ∷ [] else cuts_for to b) us
      at true = (grows (cuts_for to b) d us (piece_of 0 [] 0)).0 h
      at false = h
  parts_grow to (Reports member now) b us h = h

  piece_grows : (to : ℕ) (x : Step) (b : List Step) (p : Piece) → IsPieceOf (cuts_for to b) p → IsPieceOf (cuts_for to (x ∷ b)) p
  piece_grows to (Hears came given memory now) b p h = h
  piece_grows to (Puts k bytes) b p h = h
  piece_grows to (Takes k d false) b p h = h
  piece_grows to (Takes k d true) b p h = at (k == to)
    where
      at : (c : Bool) → IsPieceOf (if c then cuts_for to b ++ d ∷ [] else cuts_for to b) p
      at true = (grows (cuts_for to b) d [] p).1 h
      at false = h
  piece_grows to (Reports member now) b p h = h

  body_grows : (to : ℕ) (x : Step) (b : List Step) (kind : Kind) (member : ℕ) (start : Start) (body : List ℕ) →
      IsBodyOf (handed_for to b) kind member start body → IsBodyOf (handed_for to (x ∷ b)) kind member start body
  body_grows to x b kinds.State member start body h = tt
  body_grows to x b kinds.Whole member start body h = wholes_grow to x b body h
  body_grows to x b kinds.Piece member start body h = (h.0, h.1, piece_grows to x b h.0 h.2)
  body_grows to x b kinds.PiecesHeld member start body h = tt

  put_grows : (s : Sealer) (b : List Step) (x : Step) (to : ℕ) (bytes : List ℕ) → IsPut s b to bytes → IsPut s (x ∷ b) to bytes
  put_grows s b x to bytes p = record {
    what = p.what;
    counter = p.counter;
    to_is = p.to_is;
    bytes_is = p.bytes_is;
    body_is = body_grows to x b p.what.kind s.me s.start p.what.body p.body_is;
  }

-- what holds of each run's steps, and of one's with one more
each : (Q : ℕ → List Step → Type 0) (before : Before) (m : ℕ) (x : Step) → ((k : ℕ) → Q k (before k)) → Q m (x ∷ before m) →
    (k : ℕ) → Q k (with_step before m x k)
each Q before m x old new k = at (k == m) refl
  where
    at : (b : Bool) → (k == m) ≡ b → Q k (if b then x ∷ before k else before k)
    at true e = subst (λ (j : ℕ). Q j (x ∷ before j)) (sym (eqb-true k m e)) new
    at false e = old k

kind_again : (k : Kind) → unwrap_or (kind_in (number_of k)) kinds.State ≡ k
kind_again kinds.State = refl
kind_again kinds.Whole = refl
kind_again kinds.Piece = refl
kind_again kinds.PiecesHeld = refl

-- ---- starts as headers have them

abbrev start_with : (number salt : ℕ) → Start
start_with n z = record { number = n; salt = z }

shown : Start → Start
shown s = start_with (from_be_bytes w32 (to_be_bytes w32 s.number)) (from_be_bytes w32 (to_be_bytes w32 s.salt))

are_bytes : (n : ℕ) (i : ℕ) → get_or (to_be_bytes w32 n) i 0 < 256
are_bytes n zero = omega arith
are_bytes n (suc zero) = omega arith
are_bytes n (suc (suc zero)) = omega arith
are_bytes n (suc (suc (suc zero))) = omega arith
are_bytes n (suc (suc (suc (suc i)))) = omega arith

same_number : (m n : ℕ) → from_be_bytes w32 (to_be_bytes w32 m) ≡ from_be_bytes w32 (to_be_bytes w32 n) → to_be_bytes w32 m ≡ to_be_bytes w32 n
same_number m n e =
    let k = from_be_bytes w32 (to_be_bytes w32 m) in
    sym (be_bytes_4 (to_be_bytes w32 m) k refl (are_bytes m) refl) ∙ be_bytes_4 (to_be_bytes w32 n) k refl (are_bytes n) e

-- starts that are shown as one have the same bytes
same_bytes : (s t : Start) → is_start (shown s) (shown t) ≡ true → start_bytes s ≡ start_bytes t
unfolding shown
same_bytes s t e =
    let p = and_parts ((shown s).number == (shown t).number) ((shown s).salt == (shown t).salt) e in
    ap (λ (b : List ℕ). b ++ to_be_bytes w32 s.salt) (same_number s.number t.number (eqb-true (shown s).number (shown t).number p.0))
    ∙ ap (λ (b : List ℕ). to_be_bytes w32 t.number ++ b) (same_number s.salt t.salt (eqb-true (shown s).salt (shown t).salt p.1))

start_shown : (h : Header) (body : List ℕ) → (header_in (header_bytes h ++ body)).start ≡ shown h.start
unfolding number shown
start_shown h body = refl

-- ---- the cluster

module _ (c : Cluster) (n : ℕ) (differ : StartsDiffer c n) (front : FrontWasSealed) (cut : JoinedWasCut) (keeps : ReportKeeps)
    (grows : LogGrows) where
  abbrev heard_at : ℕ → List Step → List Heard
  heard_at j b = heard_in (c.keys j) (c.sealer j) b

  abbrev me_of : ℕ → ℕ
  me_of r = (c.sealer r).me

  abbrev start_of : ℕ → Start
  start_of r = shown (c.sealer r).start

  -- the run of a member with a start
  abbrev is_run : (run member : ℕ) → Start → Bool
  is_run r member start = (me_of r == member) && is_start (start_of r) start

  abbrev run_of : (runs member : ℕ) → Start → ℕ
  run_of zero member start = zero
  run_of (suc k) member start = if is_run k member start then k else run_of k member start

  found : (k i : ℕ) → k ≤ n → i < k → run_of k (me_of i) (start_of i) ≡ i
  found zero i le l = absurd (omega (arith, l))
  found (suc k) i le l = at (λ less. found k i (omega (arith, le)) less) (is_run k (me_of i) (start_of i)) refl
    where
      same : is_run i (me_of i) (start_of i) ≡ true
      same =
          and_from (me_of i == me_of i) (is_start (start_of i) (start_of i)) (eq-eqb (me_of i) (me_of i) refl)
          (and_from _ _ (eq-eqb (start_of i).number (start_of i).number refl) (eq-eqb (start_of i).salt (start_of i).salt refl))

      at : (i < k → run_of k (me_of i) (start_of i) ≡ i) → (b : Bool) → is_run k (me_of i) (start_of i) ≡ b →
          (if b then k else run_of k (me_of i) (start_of i)) ≡ i
      at rest true e =
          let p = and_parts (me_of k == me_of i) (is_start (start_of k) (start_of i)) e in
          differ k i (omega (arith, le)) (omega (arith, le, l)) (eqb-true (me_of k) (me_of i) p.0)
          (same_bytes (c.sealer k).start (c.sealer i).start p.1)
      at rest false e = elim (cases_eq i k) [
        | inl is ↦ absurd (both_ways (is_run k (me_of i) (start_of i)) e (subst (λ (j : ℕ). is_run j (me_of i) (start_of i) ≡ true) is same))
        | inr other ↦ rest (omega (arith, l, other))
      ]

  -- what was handed over by each member at each start for the member of this run
  abbrev handed_to : Before → ℕ → Traffic
  handed_to before j = record {
    wholes = λ member start. wholes_for (me_of j) (before (run_of n member start));
    cuts = λ member start. cuts_for (me_of j) (before (run_of n member start));
  }

  abbrev PartsAt : Before → ℕ → List Heard → Type 0
  PartsAt before j hs = (k : ℕ) → AreOf (handed_to before j) k (of_member hs k)

  record Holds (before : Before) (went handed : List (List ℕ)) : Type 0 where
    puts : (bytes : List ℕ) → Contains went bytes → (i : ℕ) × (i < n) × (to : ℕ) × IsPut (c.sealer i) (before i) to bytes
    parts : (j : ℕ) → PartsAt before j (heard_at j (before j))
    few : (to k : ℕ) → length (cuts_for to (before k)) ≤ 2 ^ 32
    known : (to k : ℕ) (m : List ℕ) → Contains (wholes_for to (before k)) m → Contains handed m

  -- a body of a packet of a run
  body_to : (before : Before) (j i : ℕ) → i < n → (kind : Kind) (member : ℕ) (start : Start) (body : List ℕ) →
      IsBodyOf (handed_for (me_of j) (before i)) kind member start body →
      IsBodyOf (handed_to before j) kind (me_of i) (start_of i) body
  body_to before j i less kinds.State member start body h = tt
  body_to before j i less kinds.Whole member start body h =
      subst (λ (r : ℕ). Contains (wholes_for (me_of j) (before r)) body) (sym (found n i (omega arith) less)) h
  body_to before j i less kinds.Piece member start body h =
      (h.0, h.1, subst (λ (r : ℕ). IsPieceOf (cuts_for (me_of j) (before r)) h.0) (sym (found n i (omega arith) less)) h.2)
  body_to before j i less kinds.PiecesHeld member start body h = tt

  -- what is opened of a packet that went has what was handed over
  body_of : (before : Before) (j : ℕ) → j < n → (came : List ℕ) (h : Header) (b : List ℕ) → opened (c.keys j) (c.sealer j) came ≡ Some (h, b) →
      (i : ℕ) → i < n → (to : ℕ) → IsPut (c.sealer i) (before i) to came → IsBodyOf (handed_to before j) h.kind h.from h.start b
  body_of before j below came h b e i less to p =
      let o = opening (c.keys j) (c.sealer j) came h b e in
      let s = c.sealer i in
      let f = header_bytes (header_of s p.what p.counter) ++ p.what.body in
      let is : front_of came ≡ f = ap front_of p.bytes_is ∙ front s.key f in
      let t = c.sealer j in
      let fault : header_fault t.cluster t.members t.me f ≡ None = ap (header_fault t.cluster t.members t.me) (sym is) ∙ o.fault in
      let mine : p.what.to ≡ t.me = receiver t.cluster t.members t.me f fault in
      let for_j : to ≡ t.me = sym p.to_is ∙ mine in
      let body : IsBodyOf (handed_for t.me (before i)) p.what.kind s.me s.start p.what.body =
      subst (λ (k : ℕ). IsBodyOf (handed_for k (before i)) p.what.kind s.me s.start p.what.body) for_j p.body_is in
      let there : IsBodyOf (handed_to before j) p.what.kind s.me (start_of i) p.what.body =
      body_to before j i less p.what.kind s.me s.start p.what.body body in
      let named : IsBodyOf (handed_to before j) (header_in f).kind s.me (start_of i) p.what.body =
      subst (λ (k : Kind). IsBodyOf (handed_to before j) k s.me (start_of i) p.what.body) (sym (kind_again p.what.kind)) there in
      let from : IsBodyOf (handed_to before j) (header_in f).kind (header_in f).from (header_in f).start (drop 37 f) =
      subst (λ (x : Start). IsBodyOf (handed_to before j) (header_in f).kind s.me x p.what.body)
      (sym (start_shown (header_of s p.what p.counter) p.what.body)) named in
      subst (λ (x : List ℕ). IsBodyOf (handed_to before j) h.kind h.from h.start x) (ap (drop 37) (sym is) ∙ o.body)
      (subst (λ (x : Header). IsBodyOf (handed_to before j) x.kind x.from x.start (drop 37 f)) (ap header_in (sym is) ∙ o.header) from)

  -- ---- a packet comes

  abbrev IsKnown : List (List ℕ) → List ℕ → Type 0
  IsKnown handed d = Contains handed d ⊎ (d ≡ [])

  given_known : (before : Before) (went handed : List (List ℕ)) → Holds before went handed → (j k : ℕ) (start : Start) (g : Given) →
      WasHandedOver (handed_to before j) k start g → IsKnown handed (datagram_of (Some g))
  given_known before went handed i j k start (Whole d) h = inl (i.known (me_of j) (run_of n k start) d h)
  given_known before went handed i j k start (Joined d) h =
      let r = run_of n k start in inl (i.known (me_of j) r d (cuts_in (me_of j) (before r) d h))
  given_known before went handed i j k start (Held held) h = inr refl
  given_known before went handed i j k start Nothing h = inr refl
  given_known before went handed i j k start (Dropped a) h = inr refl

  comes : (before : Before) (went handed : List (List ℕ)) → Holds before went handed → (j : ℕ) → j < n → (came : List ℕ) (memory : Memory)
      (now : ℕ) → Contains went came ⊎ (opened (c.keys j) (c.sealer j) came ≡ None) → (o : Option (Header × List ℕ)) →
      opened (c.keys j) (c.sealer j) came ≡ o →
      IsKnown handed (datagram_of (given_of (c.sealer j).start memory (heard_at j (before j)) o now)) ×
      PartsAt before j (heard_with (c.sealer j).start memory (heard_at j (before j)) o now)
  comes before went handed i j below came memory now whence None e = (inr refl, i.parts j)
  comes before went handed i j below came memory now (inr none) (Some (h, b)) e = absurd (let f : None ≡ Some (h, b) = sym none ∙ e in cc)
  comes before went handed i j below came memory now (inl there) (Some (h, b)) e =
      let p = i.puts came there in
      let hs = heard_at j (before j) in
      let t = handed_to before j in
      let body = body_of before j below came h b e p.0 p.1 p.2 p.3 in
      let mine = (c.sealer j).start in
      let r = packet_keeps t mine memory (of_member hs h.from) h b now cut (λ member start. i.few (me_of j) (run_of n member start)) (i.parts j h.from) body in (
        known (nat_lt h.from (length hs)) r.1,
        set_each (λ (k : ℕ) (x : Heard). AreOf t k x) hs h.from
            (heard_by mine memory (of_member hs h.from) h b now).heard (i.parts j) r.0,
      )
    where
      known : (x : Bool) → WasHandedOver (handed_to before j) h.from h.start
          (heard_by (c.sealer j).start memory (of_member (heard_at j (before j)) h.from) h b now).given →
          IsKnown handed (datagram_of (Some (if x then
          (heard_by (c.sealer j).start memory (of_member (heard_at j (before j)) h.from) h b now).given else Nothing)))
      known true w = given_known before went handed i j h.from h.start _ w
      known false w = inr refl

  -- ---- one step

  parts_after : (before : Before) (m : ℕ) (x : Step) → ((j : ℕ) → PartsAt before j (heard_at j (before j))) →
      PartsAt before m (heard_at m (x ∷ before m)) → (j : ℕ) → PartsAt (with_step before m x) j (heard_at j (with_step before m x j))
  parts_after before m x old new j k =
      let hs = heard_at j (with_step before m x j) in
      let e = of_member hs k in
      let r = run_of n k e.known.start in
      grown r (r == m) e.unfinished (each (λ (j : ℕ) (b : List Step). PartsAt before j (heard_at j b)) before m x old new j k)
    where
      grown : (r : ℕ) (b : Bool) (us : List Unfinished) → ArePartsOf (cuts_for (me_of j) (before r)) us →
          ArePartsOf (cuts_for (me_of j) (if b then x ∷ before r else before r)) us
      grown r true us h = parts_grow grows (me_of j) x (before r) us h
      grown r false us h = h

  put_after : (before : Before) (m : ℕ) (x : Step) (i to : ℕ) (bytes : List ℕ) → IsPut (c.sealer i) (before i) to bytes →
      IsPut (c.sealer i) (with_step before m x i) to bytes
  put_after before m x i to bytes p = at (i == m)
    where
      at : (b : Bool) → IsPut (c.sealer i) (if b then x ∷ before i else before i) to bytes
      at true = put_grows grows (c.sealer i) (before i) x to bytes p
      at false = p

  puts_after : (before : Before) (m : ℕ) (x : Step) (went : List (List ℕ)) →
      ((bytes : List ℕ) → Contains went bytes → (i : ℕ) × (i < n) × (to : ℕ) × IsPut (c.sealer i) (before i) to bytes) →
      (bytes : List ℕ) → Contains went bytes → (i : ℕ) × (i < n) × (to : ℕ) × IsPut (c.sealer i) (with_step before m x i) to bytes
  puts_after before m x went puts bytes h =
      let p = puts bytes h in (p.0, p.1, p.2, put_after before m x p.0 p.2 bytes p.3)

  few_after : (before : Before) (m : ℕ) (x : Step) → IsStep (c.keys m) (c.sealer m) (before m) x → ((j k : ℕ) → length (cuts_for j (before k)) ≤ 2 ^ 32) →
      (j k : ℕ) → length (cuts_for j (with_step before m x k)) ≤ 2 ^ 32
  few_after before m x is few j =
      each (λ (k : ℕ) (b : List Step). length (cuts_for j b) ≤ 2 ^ 32) before m x (few j) (size_at x is)
    where
      size_at : (x : Step) → IsStep (c.keys m) (c.sealer m) (before m) x → length (cuts_for j (x ∷ before m)) ≤ 2 ^ 32
      size_at (Hears came given memory now) h = few j m
      size_at (Puts to bytes) h = few j m
      size_at (Takes to d false) h = few j m
      size_at (Takes to d true) h = at (to == j) refl
        where
          at : (b : Bool) → (to == j) ≡ b → length (if b then cuts_for j (before m) ++ d ∷ [] else cuts_for j (before m)) ≤ 2 ^ 32
          at true e =
              let less : length (cuts_for j (before m)) < 2 ^ 32 = subst (λ (k : ℕ). length (cuts_for k (before m)) < 2 ^ 32) (eqb-true to j e) (h refl) in
              omega (arith, less, length-append (cuts_for j (before m)) (d ∷ []))
          at false e = few j m
      size_at (Reports member now) h = few j m

  known_after : (before : Before) (m : ℕ) (x : Step) (handed : List (List ℕ)) →
      ((j : ℕ) → (d : List ℕ) → Contains (wholes_for j (x ∷ before m)) d → Contains handed d) →
      ((j k : ℕ) (d : List ℕ) → Contains (wholes_for j (before k)) d → Contains handed d) →
      (j k : ℕ) (d : List ℕ) → Contains (wholes_for j (with_step before m x k)) d → Contains handed d
  known_after before m x handed new old j =
      each (λ (k : ℕ) (b : List Step). (d : List ℕ) → Contains (wholes_for j b) d → Contains handed d) before m x (old j) (new j)

  -- ---- all steps

  carried : (xs : Network) (before : Before) (went handed : List (List ℕ)) → Holds before went handed → AreSteps c xs before →
      PacketsCarried c n xs went → DatagramsCarried xs handed
  carried [] before went handed i steps carry = tt
  carried ((m, Hears came given memory now) ∷ xs) before went handed i (is, more) (below, whence, rest) =
      let x = Hears came given memory now in
      let r = comes before went handed i m below came memory now whence (opened (c.keys m) (c.sealer m) came) refl in (
        elim is [ inl none ↦ inr none | inr all ↦ subst (IsKnown handed) (sym all) r.0 ],
        carried xs (with_step before m x) went handed
            (record {
              puts = puts_after before m x went i.puts;
              parts = parts_after before m x i.parts r.1;
              few = few_after before m x is i.few;
              known = known_after before m x handed (λ j. i.known j m) i.known;
            }) more rest,
      )
  carried ((m, Puts to bytes) ∷ xs) before went handed i (is, more) (below, rest) =
      let x = Puts to bytes in
      carried xs (with_step before m x) (went ++ bytes ∷ []) handed
      (record {
        puts = puts_after before m x (went ++ bytes ∷ []) (λ b h. elim (Contains-append_cases went (bytes ∷ []) b h) [
          | inl old ↦ i.puts b old
          | inr new ↦ (m, below, to, subst (IsPut (c.sealer m) (before m) to) (only bytes b new) is)
        ]);
        parts = parts_after before m x i.parts (i.parts m);
        few = few_after before m x is i.few;
        known = known_after before m x handed (λ j. i.known j m) i.known;
      }) more rest
    where
      only : (a b : List ℕ) → Contains (a ∷ []) b → a ≡ b
      only a b (zero, l, e) = e
      only a b (suc k, l, e) = absurd (omega (arith, l))
  carried ((m, Takes to d is_cut) ∷ xs) before went handed i (is, more) (below, rest) =
      let x = Takes to d is_cut in
      carried xs (with_step before m x) went (handed ++ d ∷ [])
      (record {
        puts = puts_after before m x went i.puts;
        parts = parts_after before m x i.parts (i.parts m);
        few = few_after before m x is i.few;
        known = known_after before m x (handed ++ d ∷ []) (λ j e h. new j e (to == j) h)
            (λ j k e h. Contains-append_left handed (d ∷ []) e (i.known j k e h));
      }) more rest
    where
      new : (j : ℕ) (e : List ℕ) (b : Bool) → Contains (if b then wholes_for j (before m) ++ d ∷ [] else wholes_for j (before m)) e →
          Contains (handed ++ d ∷ []) e
      new j e true h = elim (Contains-append_cases (wholes_for j (before m)) (d ∷ []) e h) [
        | inl old ↦ Contains-append_left handed (d ∷ []) e (i.known j m e old)
        | inr last ↦ Contains-append_right handed (d ∷ []) e last
      ]
      new j e false h = Contains-append_left handed (d ∷ []) e (i.known j m e h)
  carried ((m, Reports member now) ∷ xs) before went handed i (is, more) (below, rest) =
      let x = Reports member now in
      let hs = heard_at m (before m) in
      let e = of_member hs member in
      carried xs (with_step before m x) went handed
      (record {
        puts = puts_after before m x went i.puts;
        parts = parts_after before m x i.parts
            (set_each (λ (k : ℕ) (y : Heard). AreOf (handed_to before m) k y) hs member
            (record e { unfinished = due_after now e.unfinished }) (i.parts m)
            (keeps (cuts_for (me_of m) (before (run_of n member e.known.start))) e.unfinished now (i.parts m member)));
        few = few_after before m x is i.few;
        known = known_after before m x handed (λ j. i.known j m) i.known;
      }) more rest

  pub all_carried : (xs : Network) → AreSteps c xs (λ m. []) → PacketsCarried c n xs [] → DatagramsCarried xs []
  all_carried xs steps carry =
      carried xs (λ m. []) [] []
      (record {
        puts = λ bytes h. absurd (let l : h.0 < 0 = h.1 in omega (arith, l));
        parts = λ j k. subst (λ (x : Heard). AreOf (handed_to (λ m. []) j) k x) (sym (heard_nobody (c.sealer j).members k)) (All-nil _);
        few = λ j k. omega arith;
        known = λ j k m h. absurd (let l : h.0 < 0 = h.1 in omega (arith, l));
      }) steps carry

pub sealed_is_carried : FrontWasSealed → JoinedWasCut → ReportKeeps → LogGrows → SealedIsCarried
sealed_is_carried front cut keeps grows c n xs differ steps carry = all_carried c n differ front cut keeps grows xs steps carry
