-- How much unfinished datagrams take.
use Rattle.std.proofs.Common.{◌≡◌, ◌∙◌, ℕ, suc, Bool, true, false, List, [], ◌∷◌, length, ap, sym, refl, subst, Some, None}
use Rattle.std.specs.Prelude.{◌&&◌, nat_le, nat_lt, if◌then◌else◌}
use Rattle.std.specs.List.{list_all}
use Rattle.px_packet.specs.declared.start.Start.{Start}
use Rattle.px_packet.specs.declared.kind.Kind.{Kind}
use Rattle.px_packet.specs.declared.kind.Kind.TheVariants as kinds
use Rattle.px_packet.specs.declared.header.Header.{Header}
use Rattle.px_packet.specs.Arrivals.{arrival_of, known_after}
use Rattle.px_packet.specs.ReplayLaws.{is_accepted}
use Rattle.px_packet.specs.Pieces.{Piece, IsFormed}
use Rattle.px_packet.specs.Reassembling.{Unfinished, is_due, reported, due_after}
use Rattle.px_packet.specs.PieceLaws as pieces
use Rattle.px_packet.specs.PieceLaws.{is_bounded}
use Rattle.px_transport.specs.Bodies.{is_formed, fields_in}
use Rattle.px_transport.specs.Receiving.{Heard, Dropped, Memory, Enough, NoPiece, NoDatagram, with_header, with_piece, with_body, unchanged, heard_by, of_member}
use Rattle.px_transport.specs.Laws.{Event, Starts, Comes, Reports, nobody, heard_all, StaysBounded}
use Rattle.px_transport.proofs.Bodies.{is_formed_is}
use Rattle.px_transport.proofs.Members.{heard_nobody, set_each}

-- ---- one member

abbrev IsSmall : Heard → Type 0
IsSmall e = is_bounded e.unfinished ≡ true

either : (b : Bool) (us vs : List Unfinished) → is_bounded us ≡ true → is_bounded vs ≡ true →
    is_bounded (if b then us else vs) ≡ true
either true us vs h k = h
either false us vs h k = k

piece_small : (m : Memory) (e : Heard) (p : Piece) (now : ℕ) → pieces.StaysBounded → IsFormed p → IsSmall e →
    IsSmall (with_piece m e (Some p) now).heard
piece_small Enough e p now stays formed small = stays e.unfinished p now formed small
piece_small NoPiece e p now stays formed small = small
piece_small NoDatagram e p now stays formed small = stays e.unfinished p now formed small

body_small : (m : Memory) (e : Heard) (kind : Kind) (b : List ℕ) (now : ℕ) → pieces.StaysBounded → IsSmall e →
    IsSmall (with_body m e kind b now).heard
body_small m e kinds.State b now stays small = small
body_small m e kinds.Whole b now stays small = small
body_small m e kinds.Piece b now stays small = at (is_formed (fields_in b)) refl
  where
    at : (c : Bool) → is_formed (fields_in b) ≡ c →
        IsSmall (with_piece m e (if c then Some (fields_in b) else None) now).heard
    at true f = piece_small m e (fields_in b) now stays (is_formed_is (fields_in b) f) small
    at false f = small
body_small m e kinds.PiecesHeld b now stays small = small

packet_small : (mine : Start) (m : Memory) (e : Heard) (h : Header) (b : List ℕ) (now : ℕ) → pieces.StaysBounded →
    IsSmall e → IsSmall (heard_by mine m e h b now).heard
packet_small mine m e h b now stays small = at (is_accepted (arrival_of mine e.known h))
  where
    header : IsSmall (with_header mine e h)
    header = either (nat_lt e.known.start.number (known_after mine e.known h).start.number) [] e.unfinished refl small

    at : (c : Bool) → IsSmall (if c then with_body m (with_header mine e h) h.kind b now
        else unchanged (with_header mine e h) (Dropped (arrival_of mine e.known h))).heard
    at true = body_small m (with_header mine e h) h.kind b now stays header
    at false = header

-- ---- a report

due_length : (now : ℕ) (us : List Unfinished) → length (due_after now us) ≡ length us
due_length now [] = refl
due_length now (u ∷ us) = at (is_due now u) (due_length now us)
  where
    at : (b : Bool) → length (due_after now us) ≡ length us →
        length (if b then reported now u ∷ us else u ∷ due_after now us) ≡ length (u ∷ us)
    at true e = refl
    at false e = ap suc e

abbrev is_small : Unfinished → Bool
is_small u = nat_le (length u.parts) 29 && list_all (λ part. nat_le (length part) 1160) u.parts

due_all_small : (now : ℕ) (us : List Unfinished) → list_all is_small (due_after now us) ≡ list_all is_small us
due_all_small now [] = refl
due_all_small now (u ∷ us) = at (is_due now u) (due_all_small now us)
  where
    at : (b : Bool) → list_all is_small (due_after now us) ≡ list_all is_small us →
        list_all is_small (if b then reported now u ∷ us else u ∷ due_after now us) ≡ list_all is_small (u ∷ us)
    at true e = refl
    at false e = ap (λ c. is_small u && c) e

due_small : (now : ℕ) (us : List Unfinished) → is_bounded us ≡ true → is_bounded (due_after now us) ≡ true
due_small now us h =
    ap (λ n. nat_le n 8 && list_all is_small (due_after now us)) (due_length now us)
    ∙ ap (λ c. nat_le (length us) 8 && c) (due_all_small now us) ∙ h

-- ---- all members

nobody_small : (members k : ℕ) → IsSmall (of_member (nobody members) k)
nobody_small members k = let P : Heard → Type 0 = IsSmall in subst P (sym (heard_nobody members k)) refl

all_small : (members : ℕ) (mine : Start) (hs : List Heard) (es : List Event) → pieces.StaysBounded →
    ((k : ℕ) → IsSmall (of_member hs k)) → (member : ℕ) → IsSmall (of_member (heard_all members mine hs es) member)
all_small members mine hs [] stays small = small
all_small members mine hs (Starts next ∷ es) stays small =
    all_small members next (nobody members) es stays (nobody_small members)
all_small members mine hs (Comes h b now m ∷ es) stays small =
    all_small members mine _ es stays
    (set_each (λ k e. IsSmall e) hs h.from _ small
    (packet_small mine m (of_member hs h.from) h b now stays (small h.from)))
all_small members mine hs (Reports other now ∷ es) stays small =
    all_small members mine _ es stays
    (set_each (λ k e. IsSmall e) hs other _ small (due_small now (of_member hs other).unfinished (small other)))

pub stays_bounded : pieces.StaysBounded → StaysBounded
stays_bounded stays members mine es = all_small members mine (nobody members) es stays (nobody_small members)
