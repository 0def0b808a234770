-- Only who is no member asks.
use Rattle.std.proofs.Common.{◌≡◌, ℕ, true, leb, eqb, List, subst, eqb-true}
use Rattle.std.specs.Prelude.{◌&&◌}
use Rattle.std.proofs.lemmas.Bool.{and_parts}
use Rattle.px_model.specs.Node as node
use Rattle.px_model.specs.Node.Message.{Ask}
use Rattle.px_model.specs.Spelling.{Bytes}
use Rattle.px_records.specs.declared.records.Records.{Ghosts}
use Rattle.px_wire.specs.Message.{Group, is_kind, DatagramBytes}
use Rattle.px_wire.specs.Members.{as_sent}
use Rattle.node_loop.specs.Asking.{MembersAskNothing}

asks : (from to : ℕ) → is_kind from to 8 ≡ true → eqb from 255 ≡ true
asks from to h = (and_parts (leb 1 8 && leb 8 12) _ (and_parts _ _ h).0).1

client_ask : (g : Group) (from to : ℕ) (x : node.Message Bytes) (token : ℕ) (command bytes : List ℕ) →
    DatagramBytes g from to (as_sent x) bytes → x ≡ Ask token command → from ≡ 255
client_ask g from to x token command bytes d is =
    let e : DatagramBytes g from to (as_sent (Ask token command)) bytes =
    subst (λ (z : node.Message Bytes). DatagramBytes g from to (as_sent z) bytes) is d in
    eqb-true from 255 (asks from to e.fits.kind)

pub members_ask_nothing : {R : Type 0} (G : Ghosts R) → MembersAskNothing G
members_ask_nothing G s t bytes old new result it other token command is =
    other (client_ask _ _ _ _ token command bytes it.spelled is)
