-- Headers that are written and read.
use Rattle.std.proofs.Common.{◌≡◌, ◌∙◌, ◌≢◌, ℕ, ◌+◌, ◌<◌, ◌≤◌, Bool, true, false, List, ◌∷◌, ◌++◌, length, take, drop, ap, sym, refl, arith, subst, inl, inr, Option, Some, None}
use Rattle.std.specs.Prelude.{not, nat_lt, ◌==◌, ◌||◌, slice_index, unwrap_or, is_some, if◌then◌else◌}
use Rattle.std.specs.Int.{w32, w64, to_be_bytes}
use Rattle.std.proofs.lemmas.Bool.{cases_lt, lt-ltb, le-ltb, ltb-true, ltb-false, eqb-true, eqb-false, eq-eqb, ne_eqb, not_from_true, not-false, or_parts, or_from}
use Rattle.std.proofs.lemmas.List.{take-append-drop, length-append, length-take, length-drop, get_or-take, get_or-drop, get_or_past, drop-drop, drop_more}
use Rattle.std.proofs.lemmas.Nat.{be_bytes_4, be_bytes_8, from_be_bytes-to_be_bytes_4, from_be_bytes-to_be_bytes_8}
use Rattle.px_packet.specs.declared.start.Start.{Start}
use Rattle.px_packet.specs.declared.kind.Kind.{Kind}
use Rattle.px_packet.specs.declared.kind.Kind.TheVariants as kinds
use Rattle.px_packet.specs.declared.header.Header.{Header}
use Rattle.px_packet.specs.declared.fault.PacketFault.{PacketFault}
use Rattle.px_packet.specs.Headers.{number_of, header_bytes, number, kind_in, start_at, header_fault, header_in}
use Rattle.px_packet.specs.PacketLaws.{AreBytes, HeaderIsRead, HeaderIsWritten}

-- ---- without a fault

skip : (b : Bool) (x y z : Option PacketFault) → b ≡ false → y ≡ z → (if b then x else y) ≡ z
skip true x y z e r = absurd cc
skip false x y z e r = r

stop : (b : Bool) (x : PacketFault) (y : Option PacketFault) → (if b then Some x else y) ≡ None → (b ≡ false) × (y ≡ None)
stop true x y e = absurd cc
stop false x y e = (refl, e)

-- what holds of bytes of which a header is read
pub record Reads (cluster members me : ℕ) (b : List ℕ) : Type 0 where
  pub long : nat_lt (length b) 37 ≡ false
  pub magic : not (number w32 0 b == 0x50465853) ≡ false
  pub version : not (slice_index b 4 == 2) ≡ false
  pub cluster_is : not (number w32 5 b == cluster) ≡ false
  pub members_is : not (slice_index b 9 == members) ≡ false
  pub sender : (not (nat_lt (slice_index b 10) members) || (slice_index b 10 == me)) ≡ false
  pub receiver : not (slice_index b 11 == me) ≡ false
  pub kind : not (is_some (kind_in (slice_index b 12))) ≡ false
  pub start : (number w32 13 b == 0) ≡ false
  pub counter : (number w64 29 b == 0) ≡ false

pub no_fault : (cluster members me : ℕ) (b : List ℕ) → Reads cluster members me b →
    header_fault cluster members me b ≡ None
no_fault cluster members me b r =
    skip _ _ _ _ r.long (skip _ _ _ _ r.magic (skip _ _ _ _ r.version (skip _ _ _ _ r.cluster_is (skip _ _ _ _ r.members_is
    (skip _ _ _ _ r.sender (skip _ _ _ _ r.receiver (skip _ _ _ _ r.kind (skip _ _ _ _ r.start
    (skip _ _ _ _ r.counter refl)))))))))

pub reads : (cluster members me : ℕ) (b : List ℕ) → header_fault cluster members me b ≡ None →
    Reads cluster members me b
reads cluster members me b e =
    let a = stop _ _ _ e in
    let c = stop _ _ _ a.1 in
    let d = stop _ _ _ c.1 in
    let f = stop _ _ _ d.1 in
    let g = stop _ _ _ f.1 in
    let h = stop _ _ _ g.1 in
    let i = stop _ _ _ h.1 in
    let j = stop _ _ _ i.1 in
    let k = stop _ _ _ j.1 in
    let l = stop _ _ _ k.1 in
    record {
      long = a.0;
      magic = c.0;
      version = d.0;
      cluster_is = f.0;
      members_is = g.0;
      sender = h.0;
      receiver = i.0;
      kind = j.0;
      start = k.0;
      counter = l.0;
    }

same_test : (x y : ℕ) → x ≡ y → not (x == y) ≡ false
same_test x y e = not_from_true (x == y) (eq-eqb x y e)

test_same : (x y : ℕ) → not (x == y) ≡ false → x ≡ y
test_same x y e = eqb-true x y (not-false (x == y) e)

-- ---- kinds

pub kind_of : (k : Kind) → kind_in (number_of k) ≡ Some k
kind_of kinds.State = refl
kind_of kinds.Whole = refl
kind_of kinds.Piece = refl
kind_of kinds.PiecesHeld = refl

number_at : (n : ℕ) (a b c d : Bool) → (n == 0) ≡ a → (n == 1) ≡ b → (n == 2) ≡ c → (n == 3) ≡ d →
    not (is_some (if a then Some kinds.State else if b then Some kinds.Whole else if c then Some kinds.Piece
    else if d then Some kinds.PiecesHeld else None)) ≡ false →
    number_of (unwrap_or (if a then Some kinds.State else if b then Some kinds.Whole else if c then Some kinds.Piece
    else if d then Some kinds.PiecesHeld else None) kinds.State) ≡ n
number_at n true b c d p q r s h = sym (eqb-true n 0 p)
number_at n false true c d p q r s h = sym (eqb-true n 1 q)
number_at n false false true d p q r s h = sym (eqb-true n 2 r)
number_at n false false false true p q r s h = sym (eqb-true n 3 s)
number_at n false false false false p q r s h = absurd cc

-- the number of a kind that is known is that which was read
pub number_is : (n : ℕ) → not (is_some (kind_in n)) ≡ false → number_of (unwrap_or (kind_in n) kinds.State) ≡ n
number_is n h = number_at n (n == 0) (n == 1) (n == 2) (n == 3) refl refl refl refl h

-- ---- what is written is read

-- a start and a header of their fields
abbrev start_of : (number salt : ℕ) → Start
start_of n z = record { number = n; salt = z }

same_start : (n z : ℕ) (s : Start) → n ≡ s.number → z ≡ s.salt → start_of n z ≡ s
same_start n z s a b = ap (λ x. start_of x z) a ∙ ap (λ x. start_of s.number x) b

abbrev made : (cluster members from to : ℕ) → Kind → (start echo : Start) → (counter : ℕ) → Header
made cluster members from to kind start echo counter =
    record {
      cluster = cluster;
      members = members;
      from = from;
      to = to;
      kind = kind;
      start = start;
      echo = echo;
      counter = counter;
    }

abbrev kind_at : List ℕ → Kind
kind_at b = unwrap_or (kind_in (slice_index b 12)) kinds.State

pub header_is_read : HeaderIsRead
unfolding number
header_is_read cluster members me h body fits for =
    let b = header_bytes h ++ body in
    let magic : number w32 0 b ≡ 0x50465853 = refl in
    let at5 : number w32 5 b ≡ h.cluster = from_be_bytes-to_be_bytes_4 h.cluster fits.cluster in
    let at13 : number w32 13 b ≡ h.start.number = from_be_bytes-to_be_bytes_4 h.start.number fits.start_number in
    let at17 : number w32 17 b ≡ h.start.salt = from_be_bytes-to_be_bytes_4 h.start.salt fits.start_salt in
    let at21 : number w32 21 b ≡ h.echo.number = from_be_bytes-to_be_bytes_4 h.echo.number fits.echo_number in
    let at25 : number w32 25 b ≡ h.echo.salt = from_be_bytes-to_be_bytes_4 h.echo.salt fits.echo_salt in
    let at29 : number w64 29 b ≡ h.counter = from_be_bytes-to_be_bytes_8 h.counter fits.counter in
    let kind : kind_in (slice_index b 12) ≡ Some h.kind = kind_of h.kind in
    let all : Reads cluster members me b =
    record {
      long = le-ltb (length b) 37 (let n : length b ≡ 37 + length body = length-append (header_bytes h) body in omega (arith, n));
      magic = same_test _ _ magic;
      version = refl;
      cluster_is = same_test _ _ (at5 ∙ for.cluster_is);
      members_is = same_test h.members members for.members_is;
      sender = or_from _ _ (not_from_true _ (lt-ltb h.from members for.sender)) (ne_eqb h.from me for.not_me);
      receiver = same_test h.to me for.receiver;
      kind = ap (λ k. not (is_some k)) kind;
      start = ne_eqb _ 0 (λ z. for.start (sym at13 ∙ z));
      counter = ne_eqb _ 0 (λ z. for.counter (sym at29 ∙ z));
    } in (
      no_fault cluster members me b all,
      whole b h at5 refl refl refl (ap (λ k. unwrap_or k kinds.State) kind) at13 at17 at21 at25 at29,
      refl,
    )
  where
    whole : (b : List ℕ) (h : Header) → number w32 5 b ≡ h.cluster → slice_index b 9 ≡ h.members → slice_index b 10 ≡ h.from →
        slice_index b 11 ≡ h.to → unwrap_or (kind_in (slice_index b 12)) kinds.State ≡ h.kind →
        number w32 13 b ≡ h.start.number → number w32 17 b ≡ h.start.salt → number w32 21 b ≡ h.echo.number →
        number w32 25 b ≡ h.echo.salt → number w64 29 b ≡ h.counter → header_in b ≡ h
    whole b h e1 e2 e3 e4 e5 e6 e7 e8 e9 e10 =
        let start : start_at 13 b ≡ h.start = same_start (number w32 13 b) (number w32 17 b) h.start e6 e7 in
        let echo : start_at 21 b ≡ h.echo = same_start (number w32 21 b) (number w32 25 b) h.echo e8 e9 in
        ap (λ x. made x (slice_index b 9) (slice_index b 10) (slice_index b 11) (kind_at b) (start_at 13 b) (start_at 21 b)
        (number w64 29 b)) e1
        ∙ ap (λ x. made h.cluster x (slice_index b 10) (slice_index b 11) (kind_at b) (start_at 13 b) (start_at 21 b)
        (number w64 29 b)) e2
        ∙ ap (λ x. made h.cluster h.members x (slice_index b 11) (kind_at b) (start_at 13 b) (start_at 21 b)
        (number w64 29 b)) e3
        ∙ ap (λ x. made h.cluster h.members h.from x (kind_at b) (start_at 13 b) (start_at 21 b) (number w64 29 b)) e4
        ∙ ap (λ x. made h.cluster h.members h.from h.to x (start_at 13 b) (start_at 21 b) (number w64 29 b)) e5
        ∙ ap (λ x. made h.cluster h.members h.from h.to h.kind x (start_at 21 b) (number w64 29 b)) start
        ∙ ap (λ x. made h.cluster h.members h.from h.to h.kind h.start x (number w64 29 b)) echo
        ∙ ap (λ x. made h.cluster h.members h.from h.to h.kind h.start h.echo x) e10

-- ---- what the reader finds

pub no_fault_from : (cluster members me : ℕ) (b : List ℕ) → 37 ≤ length b → number w32 0 b ≡ 0x50465853 →
    slice_index b 4 ≡ 2 → number w32 5 b ≡ cluster → slice_index b 9 ≡ members → slice_index b 10 < members →
    slice_index b 10 ≢ me → slice_index b 11 ≡ me → is_some (kind_in (slice_index b 12)) ≡ true → number w32 13 b ≢ 0 →
    number w64 29 b ≢ 0 → header_fault cluster members me b ≡ None
no_fault_from cluster members me b long magic version c m from other to kind start counter =
    no_fault cluster members me b (record {
      long = le-ltb (length b) 37 long;
      magic = same_test _ _ magic;
      version = same_test _ _ version;
      cluster_is = same_test _ _ c;
      members_is = same_test _ _ m;
      sender = or_from _ _ (not_from_true _ (lt-ltb (slice_index b 10) members from)) (ne_eqb (slice_index b 10) me other);
      receiver = same_test _ _ to;
      kind = not_from_true _ kind;
      start = ne_eqb _ 0 start;
      counter = ne_eqb _ 0 counter;
    })

pub header_from : (cluster members me : ℕ) (b : List ℕ) (kind : Kind) (start echo : Start) (counter : ℕ) →
    number w32 5 b ≡ cluster → slice_index b 9 ≡ members → slice_index b 11 ≡ me → Some kind ≡ kind_in (slice_index b 12) →
    start ≡ start_at 13 b → echo ≡ start_at 21 b → counter ≡ number w64 29 b →
    made cluster members (slice_index b 10) me kind start echo counter ≡ header_in b
header_from cluster members me b kind start echo counter e1 e2 e3 e4 e5 e6 e7 =
    let from = slice_index b 10 in
    ap (λ x. made x members from me kind start echo counter) (sym e1)
    ∙ ap (λ x. made (number w32 5 b) x from me kind start echo counter) (sym e2)
    ∙ ap (λ x. made (number w32 5 b) (slice_index b 9) from x kind start echo counter) (sym e3)
    ∙ ap (λ x. made (number w32 5 b) (slice_index b 9) from (slice_index b 11) (unwrap_or x kinds.State) start echo
    counter) e4
    ∙ ap (λ x. made (number w32 5 b) (slice_index b 9) from (slice_index b 11) (kind_at b) x echo counter) e5
    ∙ ap (λ x. made (number w32 5 b) (slice_index b 9) from (slice_index b 11) (kind_at b) (start_at 13 b) x counter) e6
    ∙ ap (λ x. made (number w32 5 b) (slice_index b 9) from (slice_index b 11) (kind_at b) (start_at 13 b)
    (start_at 21 b) x) e7

-- ---- what is read was written

bytes_of : (n m : ℕ) (b : List ℕ) → AreBytes b → AreBytes (take n (drop m b))
bytes_of n m b h i =
    let P : ℕ → Type 0 = λ x. x < 256 in
    elim (cases_lt i n) [
      | inl l ↦ subst P (sym (get_or-take n (drop m b) i 0 l ∙ get_or-drop m b i 0)) (h (m + i))
      | inr g ↦ subst P (sym (get_or_past (take n (drop m b)) i 0 (omega (arith, length-take n (drop m b), g)))) (omega arith)
    ]

four : (m : ℕ) (b : List ℕ) → AreBytes b → m + 4 ≤ length b →
    drop m b ≡ to_be_bytes w32 (number w32 m b) ++ drop (m + 4) b
unfolding number
four m b h l =
    let same : to_be_bytes w32 (number w32 m b) ≡ take 4 (drop m b) =
    be_bytes_4 (take 4 (drop m b)) (number w32 m b) (omega (arith, l, length-take 4 (drop m b), length-drop m b))
    (bytes_of 4 m b h) refl in
    sym (ap (λ x. x ++ drop (m + 4) b) same ∙ ap (λ x. take 4 (drop m b) ++ x) (sym (drop-drop 4 m b))
    ∙ take-append-drop 4 (drop m b))

eight : (m : ℕ) (b : List ℕ) → AreBytes b → m + 8 ≤ length b →
    drop m b ≡ to_be_bytes w64 (number w64 m b) ++ drop (m + 8) b
unfolding number
eight m b h l =
    let same : to_be_bytes w64 (number w64 m b) ≡ take 8 (drop m b) =
    be_bytes_8 (take 8 (drop m b)) (number w64 m b) (omega (arith, l, length-take 8 (drop m b), length-drop m b))
    (bytes_of 8 m b h) refl in
    sym (ap (λ x. x ++ drop (m + 8) b) same ∙ ap (λ x. take 8 (drop m b) ++ x) (sym (drop-drop 8 m b))
    ∙ take-append-drop 8 (drop m b))

one : (m : ℕ) (b : List ℕ) → m < length b → drop m b ≡ slice_index b m ∷ drop (m + 1) b
one m b l = drop_more b m 0 l

pub header_is_written : HeaderIsWritten
header_is_written cluster members me b h e =
    let r = reads cluster members me b e in
    let long : 37 ≤ length b = ltb-false (length b) 37 r.long in
    let magic : number w32 0 b ≡ 0x50465853 = test_same _ _ r.magic in
    let version : slice_index b 4 ≡ 2 = test_same _ _ r.version in
    let sender : (not (nat_lt (slice_index b 10) members) ≡ false) × ((slice_index b 10 == me) ≡ false) =
    or_parts _ _ r.sender in
    let k = kind_in (slice_index b 12) in
    let to29 = eight 29 b h (omega arith) in
    let to25 = four 25 b h (omega arith) ∙ ap (λ x. to_be_bytes w32 (number w32 25 b) ++ x) to29 in
    let to21 = four 21 b h (omega arith) ∙ ap (λ x. to_be_bytes w32 (number w32 21 b) ++ x) to25 in
    let to17 = four 17 b h (omega arith) ∙ ap (λ x. to_be_bytes w32 (number w32 17 b) ++ x) to21 in
    let to13 = four 13 b h (omega arith) ∙ ap (λ x. to_be_bytes w32 (number w32 13 b) ++ x) to17 in
    let to12 = one 12 b (omega arith) ∙ ap (λ x. x ∷ drop 13 b) (sym (number_is (slice_index b 12) r.kind))
    ∙ ap (λ x. number_of (unwrap_or k kinds.State) ∷ x) to13 in
    let to11 = one 11 b (omega arith) ∙ ap (λ x. slice_index b 11 ∷ x) to12 in
    let to10 = one 10 b (omega arith) ∙ ap (λ x. slice_index b 10 ∷ x) to11 in
    let to9 = one 9 b (omega arith) ∙ ap (λ x. slice_index b 9 ∷ x) to10 in
    let to5 = four 5 b h (omega arith) ∙ ap (λ x. to_be_bytes w32 (number w32 5 b) ++ x) to9 in
    let to4 = one 4 b (omega arith) ∙ ap (λ x. x ∷ drop 5 b) version ∙ ap (λ x. 2 ∷ x) to5 in
    let to0 = four 0 b h (omega arith) ∙ ap (λ n. to_be_bytes w32 n ++ drop 4 b) magic
    ∙ ap (λ x. to_be_bytes w32 0x50465853 ++ x) to4 in (
      to0,
      record {
        cluster_is = test_same _ _ r.cluster_is;
        members_is = test_same _ _ r.members_is;
        sender = ltb-true _ _ (not-false _ sender.0);
        not_me = eqb-false _ _ sender.1;
        receiver = test_same _ _ r.receiver;
        start = eqb-false _ _ r.start;
        counter = eqb-false _ _ r.counter;
      },
    )
