-- What is given was handed over.
use Rattle.std.proofs.Common.{◌≡◌, ◌∙◌, ℕ, zero, suc, ◌*◌, ◌^◌, ◌<◌, ◌≤◌, Bool, true, false, List, [], ◌∷◌, length, drop, ap, sym, refl, arith, subst, Option, Some, None}
use Rattle.std.specs.Prelude.{IfSome, slice_get, slice_index_or, nat_lt, if◌then◌else◌}
use Rattle.std.specs.List.{All, Contains}
use Rattle.std.proofs.lemmas.List.{length-take, length-drop}
use Rattle.std.proofs.lemmas.List.Elements.{All-nil, All-cons, All-head, All-tail}
use Rattle.px_packet.specs.declared.start.Start.{Start}
use Rattle.px_packet.specs.declared.kind.Kind.{Kind}
use Rattle.px_packet.specs.declared.kind.Kind.TheVariants as kinds
use Rattle.px_packet.specs.declared.header.Header.{Header}
use Rattle.px_packet.specs.Arrivals.{Known, arrival_of, known_after}
use Rattle.px_packet.specs.ReplayLaws.{is_accepted}
use Rattle.px_packet.specs.Pieces.{Piece, IsFormed, piece_of, piece_bytes}
use Rattle.px_packet.specs.Reassembling.{finished_by}
use Rattle.px_packet.specs.Sending.{CanBeCut}
use Rattle.px_packet.specs.PieceLaws.{IsPieceOf, ArePartsOf, JoinedWasCut, ReportKeeps}
use Rattle.px_packet.specs.declared.held.PiecesHeld.{PiecesHeld}
use Rattle.px_transport.specs.Bodies.{piece_in, held_in}
use Rattle.px_transport.specs.Receiving.{Heard, Given, Nothing, Dropped, Memory, Enough, NoPiece, NoDatagram, Outcome, with_header, as_joined, as_held, with_piece, with_body, unchanged, heard_by, of_member, given_by, never}
use Rattle.px_transport.specs.Laws.{Event, Starts, Comes, Reports, nobody, given_all, Traffic, NamesFit, IsBodyOf, WasSealed, WasHandedOver, GivenWasSent}
use Rattle.px_transport.proofs.Bodies.{piece_read}
use Rattle.px_transport.proofs.Members.{accepted_start, start_stays, body_known, heard_nobody, set_each}

-- ---- pieces that were cut

some_there : (log : List (List ℕ)) (i : ℕ) (m d : List ℕ) → slice_get log i ≡ Some m →
    (i < length log) × (slice_index_or log i d ≡ m)
some_there [] i m d e = absurd cc
some_there (x ∷ log) zero m d e = (omega arith, cc)
some_there (x ∷ log) (suc i) m d e = let r = some_there log i m d e in (omega (arith, r.0), r.1)

contained : (log : List (List ℕ)) (i : ℕ) (m : List ℕ) → slice_get log i ≡ Some m → Contains log m
contained log i m e = let r = some_there log i m m e in (i, r.0, r.1)

pub formed_piece : (name : ℕ) (m : List ℕ) (k : ℕ) → CanBeCut m → 1160 * k < length m → IsFormed (piece_of name m k)
formed_piece name m k can inside = record {
  short = can.short;
  inside = inside;
  long = (let d : List ℕ = drop (1160 * k) m in omega (arith, length-take 1160 d, length-drop (1160 * k) m));
}

piece_of_log : (log : List (List ℕ)) (p : Piece) → length log ≤ 2 ^ 32 → IsPieceOf log p →
    piece_in (piece_bytes p) ≡ Some p
piece_of_log log p few of =
    let m = of.0 in
    let name : p.name < 2 ^ 32 = (let l = (some_there log p.name m m of.1).0 in omega (arith, l, few)) in
    let P : Piece → Type 0 = λ q. IsFormed q in
    piece_read p name (subst P (sym of.4) (formed_piece p.name m p.index of.2 of.3))

-- ---- one member

-- its unfinished datagrams are some that it cut at its start
abbrev pub AreOf : Traffic → (member : ℕ) → Heard → Type 0
AreOf t member e = ArePartsOf (t.cuts member e.known.start) e.unfinished

none_of : (log : List (List ℕ)) → ArePartsOf log []
none_of log = All-nil _

header_of : (t : Traffic) (mine : Start) (e : Heard) (h : Header) → AreOf t h.from e → AreOf t h.from (with_header mine e h)
header_of t mine e h is =
    let k = known_after mine e.known h in
    at (nat_lt e.known.start.number k.start.number) refl
  where
    at : (b : Bool) → nat_lt e.known.start.number (known_after mine e.known h).start.number ≡ b →
        ArePartsOf (t.cuts h.from (known_after mine e.known h).start) (if b then [] else e.unfinished)
    at true f = none_of (t.cuts h.from (known_after mine e.known h).start)
    at false f =
        let P : Start → Type 0 = λ s. ArePartsOf (t.cuts h.from s) e.unfinished in
        subst P (sym (start_stays mine e.known h f)) is

-- so it is with a packet of that start, and what is given was handed over at it
abbrev Keeps : Traffic → (member : ℕ) → Start → Outcome → Type 0
Keeps t member s o = ArePartsOf (t.cuts member s) o.heard.unfinished × WasHandedOver t member s o.given

joined_of : (t : Traffic) (member name : ℕ) (s : Start) (o : Option (List ℕ)) →
    IfSome o (λ m. slice_get (t.cuts member s) name ≡ Some m) → WasHandedOver t member s (as_joined o)
joined_of t member name s None h = tt
joined_of t member name s (Some m) h = contained (t.cuts member s) name m h

held_of : (t : Traffic) (member : ℕ) (s : Start) (o : Option PiecesHeld) → WasHandedOver t member s (as_held o)
held_of t member s None = tt
held_of t member s (Some held) = tt

piece_keeps : (t : Traffic) (member : ℕ) (s : Start) (m : Memory) (e : Heard) (p : Piece) (now : ℕ) → JoinedWasCut →
    ArePartsOf (t.cuts member s) e.unfinished → IsPieceOf (t.cuts member s) p →
    Keeps t member s (with_piece m e (Some p) now)
piece_keeps t member s Enough e p now cut is of =
    let both = cut (t.cuts member s) e.unfinished p now is of in
    (both.0, joined_of t member p.name s (finished_by e.unfinished p now) both.1)
piece_keeps t member s NoPiece e p now cut is of = (is, tt)
piece_keeps t member s NoDatagram e p now cut is of = ((cut (t.cuts member s) e.unfinished p now is of).0, tt)

body_keeps : (t : Traffic) (member : ℕ) (s : Start) (m : Memory) (e : Heard) (kind : Kind) (b : List ℕ) (now : ℕ) →
    JoinedWasCut → NamesFit t → ArePartsOf (t.cuts member s) e.unfinished → IsBodyOf t kind member s b →
    Keeps t member s (with_body m e kind b now)
body_keeps t member s m e kinds.State b now cut fits is body = (is, tt)
body_keeps t member s m e kinds.Whole b now cut fits is body = (is, body)
body_keeps t member s m e kinds.Piece b now cut fits is body =
    let p = body.0 in
    let read : piece_in b ≡ Some p = ap piece_in body.1 ∙ piece_of_log (t.cuts member s) p (fits member s) body.2 in
    let P : Option Piece → Type 0 = λ o. Keeps t member s (with_piece m e o now) in
    subst P (sym read) (piece_keeps t member s m e p now cut is body.2)
body_keeps t member s m e kinds.PiecesHeld b now cut fits is body = (is, held_of t member s (held_in b))

-- with any packet
pub packet_keeps : (t : Traffic) (mine : Start) (m : Memory) (e : Heard) (h : Header) (b : List ℕ) (now : ℕ) →
    JoinedWasCut → NamesFit t → AreOf t h.from e → IsBodyOf t h.kind h.from h.start b →
    AreOf t h.from (heard_by mine m e h b now).heard × WasHandedOver t h.from h.start (heard_by mine m e h b now).given
packet_keeps t mine m e h b now cut fits is body = at (is_accepted (arrival_of mine e.known h)) refl
  where
    at : (c : Bool) → is_accepted (arrival_of mine e.known h) ≡ c →
        let o = if c then with_body m (with_header mine e h) h.kind b now
        else unchanged (with_header mine e h) (Dropped (arrival_of mine e.known h)) in
        AreOf t h.from o.heard × WasHandedOver t h.from h.start o.given
    at true f =
        let e' = with_header mine e h in
        let same : e'.known.start ≡ h.start = accepted_start mine e.known h f in
        let P : Start → Type 0 = λ s. ArePartsOf (t.cuts h.from s) e'.unfinished in
        let o = with_body m e' h.kind b now in
        let both = body_keeps t h.from h.start m e' h.kind b now cut fits (subst P same (header_of t mine e h is)) body in
        let Q : Start → Type 0 = λ s. ArePartsOf (t.cuts h.from s) o.heard.unfinished in
        let start : h.start ≡ o.heard.known.start =
        sym same ∙ sym (ap (λ (k : Known). k.start) (body_known m e' h.kind b now)) in
        (subst Q start both.0, both.1)
    at false f = (header_of t mine e h is, tt)

-- ---- all members

nobody_of : (t : Traffic) (members k : ℕ) → AreOf t k (of_member (nobody members) k)
nobody_of t members k =
    let P : Heard → Type 0 = AreOf t k in subst P (sym (heard_nobody members k)) (none_of (t.cuts k never))

abbrev Handed : Traffic → Header × Given → Type 0
Handed t x = WasHandedOver t x.0.from x.0.start x.1

all_handed : (t : Traffic) (members : ℕ) (mine : Start) (hs : List Heard) (es : List Event) → JoinedWasCut →
    ReportKeeps → NamesFit t → ((k : ℕ) → AreOf t k (of_member hs k)) → All (WasSealed t) es →
    All (Handed t) (given_all members mine hs es)
all_handed t members mine hs [] cut keeps fits is all = All-nil (Handed t)
all_handed t members mine hs (Starts next ∷ es) cut keeps fits is all =
    all_handed t members next (nobody members) es cut keeps fits (nobody_of t members) (All-tail (WasSealed t) _ es all)
all_handed t members mine hs (Comes h b now m ∷ es) cut keeps fits is all =
    let both = packet_keeps t mine m (of_member hs h.from) h b now cut fits (is h.from)
    (All-head (WasSealed t) (Comes h b now m) es all) in
    All-cons (Handed t) (h, given_by mine m hs h b now) _ (of_any (nat_lt h.from (length hs)) both.1)
    (all_handed t members mine _ es cut keeps fits (set_each (AreOf t) hs h.from _ is both.0)
    (All-tail (WasSealed t) _ es all))
  where
    of_any : (c : Bool) → WasHandedOver t h.from h.start (heard_by mine m (of_member hs h.from) h b now).given →
        WasHandedOver t h.from h.start (if c then (heard_by mine m (of_member hs h.from) h b now).given else Nothing)
    of_any true g = g
    of_any false g = tt
all_handed t members mine hs (Reports member now ∷ es) cut keeps fits is all =
    all_handed t members mine _ es cut keeps fits
    (set_each (AreOf t) hs member _ is
    (keeps (t.cuts member (of_member hs member).known.start) (of_member hs member).unfinished now (is member)))
    (All-tail (WasSealed t) _ es all)

pub given_was_sent : JoinedWasCut → ReportKeeps → GivenWasSent
given_was_sent cut keeps t members mine es fits all =
    all_handed t members mine (nobody members) es cut keeps fits (nobody_of t members) all
