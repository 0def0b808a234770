-- the body is the piece that was read
use Rattle.std.proofs.Common.{rules, ◌≡◌, ◌∙◌, Some, None, ap, refl}
use Rattle.px_packet.specs.Seen.{seen}
use Rattle.px_transport.specs.Bodies.{piece_in}
use Rattle.px_transport.proofs.Bodies.{piece_read}
use Rattle.px_transport.proofs.Entries.{piece_handled, piece_refused}
use Rattle.px_transport.proofs.receiver.Entry.take_piece.Goals as goal

pub returns-in-Ok-Some : goal.returns-in-Ok-Some
returns-in-Ok-Some c h is =
    let p = c.in-Some.piece in
    let read : piece_in c.args.body.now ≡ Some (seen p) =
    ap piece_in c.in-Some.ensures.read ∙ piece_read (seen p) (search rules)
    (record { short = p.short; inside = p.inside; long = p.long }) in
    piece_handled h c.args.self.now.peer c.args.self.now.reassembly c.take.new.self (piece_in c.args.body.now) (seen p)
    c.args.now (Some c.in-Ok-Some.datagram.items) _ is read (search rules) (search rules) refl

pub returns-in-Ok-None : goal.returns-in-Ok-None
returns-in-Ok-None c h is =
    let p = c.in-Some.piece in
    let read : piece_in c.args.body.now ≡ Some (seen p) =
    ap piece_in c.in-Some.ensures.read ∙ piece_read (seen p) (search rules)
    (record { short = p.short; inside = p.inside; long = p.long }) in
    piece_handled h c.args.self.now.peer c.args.self.now.reassembly c.take.new.self (piece_in c.args.body.now) (seen p)
    c.args.now None _ is read (search rules) (search rules) refl

pub returns-in-Err : goal.returns-in-Err
returns-in-Err c h is =
    let p = c.in-Some.piece in
    let read : piece_in c.args.body.now ≡ Some (seen p) =
    ap piece_in c.in-Some.ensures.read ∙ piece_read (seen p) (search rules)
    (record { short = p.short; inside = p.inside; long = p.long }) in
    piece_refused h c.args.self.now.peer c.args.self.now.reassembly c.take.new.self (piece_in c.args.body.now) (seen p)
    c.args.now is read c.in-Err.ensures.refused
