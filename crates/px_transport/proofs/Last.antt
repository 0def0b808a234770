-- The last piece of a datagram.
use Rattle.std.proofs.Common.{◌≡◌, ◌∙◌, List, ◌∷◌, Some, ap, sym, subst, length}
use Rattle.std.specs.Prelude.{if◌then◌else◌}
use Rattle.std.proofs.lemmas.Bool.{lt-ltb}
use Rattle.px_packet.specs.declared.kind.Kind.{Kind}
use Rattle.px_packet.specs.Arrivals.{arrival_of}
use Rattle.px_packet.specs.ReplayLaws.{is_accepted}
use Rattle.px_packet.specs.Pieces.{piece_of, piece_bytes}
use Rattle.px_packet.specs.Reassembling.{Unfinished, unfinished_after, finished_by}
use Rattle.px_packet.specs.PieceLaws.{Pending, PiecesAreJoined}
use Rattle.px_transport.specs.Bodies.{piece_in}
use Rattle.px_transport.specs.Receiving.{Heard, Nothing, Dropped, Enough, Outcome, with_header, as_joined, with_piece, with_body, unchanged, heard_by, of_member, heard_after, given_by}
use Rattle.px_transport.specs.Laws.{LastPieceGives}
use Rattle.px_transport.proofs.Bodies.{piece_read}
use Rattle.px_transport.proofs.Handed.{formed_piece}
use Rattle.px_transport.proofs.Members.{of_same}

pub last_piece_gives : PiecesAreJoined → LastPieceGives
last_piece_gives joined mine hs h name d ks k now inside accepted kind fits can part pending =
    let e = of_member hs h.from in
    let m = with_header mine e h in
    let p = piece_of name d k in
    let b = piece_bytes p in
    let o = heard_by mine Enough e h b now in
    let read : piece_in b ≡ Some p = piece_read p fits (formed_piece name d k can part) in
    let is : o ≡ with_piece Enough m (Some p) now =
    ap (λ c. if c then with_body Enough m h.kind b now else unchanged m (Dropped (arrival_of mine e.known h)))
    (ap is_accepted accepted) ∙ ap (λ (x : Kind). with_body Enough m x b now) kind
    ∙ ap (λ x. with_piece Enough m x now) read in
    let given : given_by mine Enough hs h b now ≡ as_joined (finished_by m.unfinished p now) =
    ap (λ c. if c then o.given else Nothing) (lt-ltb h.from (length hs) inside)
    ∙ ap (λ (x : Outcome). x.given) is in
    let after : (of_member (heard_after mine Enough hs h b now) h.from).unfinished ≡ unfinished_after m.unfinished p now =
    ap (λ (x : Heard). x.unfinished) (of_same hs h.from o.heard inside) ∙ ap (λ (x : Outcome). x.heard.unfinished) is in
    let both = joined m.unfinished name d ks k now can part pending in
    let P : List Unfinished → Type 0 = λ us. Pending us name d (k ∷ ks) in (
      λ all. given ∙ ap as_joined (both.0 all),
      λ j inner not_yet. let next = both.1 j inner not_yet in (given ∙ ap as_joined next.0, subst P (sym after) next.1),
    )
