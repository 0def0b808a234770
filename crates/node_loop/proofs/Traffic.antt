-- What goes over a wire, stretch after stretch.
use Rattle.std.proofs.Common.{◌≡◌, ◌∙◌, ℕ, Bool, List, [], ◌∷◌, ◌++◌, Option, Some, None, refl, sym, ap, subst, inl, inr, append_assoc}
use Rattle.std.proofs.lemmas.List.{append-nil}
use Rattle.px_model.proofs.Basics.{among_left, among_right, among_cases}
use Rattle.px_model.specs.Law.{Among}
use Rattle.px_model.specs.Node as node
use Rattle.px_model.specs.Spelling.{Bytes}
use Rattle.node_loop.proofs.Among.{among_is, among_front, among_sides, among_all, among_then, among_both, among_none}
use Rattle.node_loop.specs.Again.{AreAmong}
use Rattle.px_transport.specs.Wires.{WireEvent, Gave, Handed, gives, hands}
use Rattle.px_wire.specs.Message.{Group, DatagramBytes}
use Rattle.px_wire.specs.Members.{as_sent}
use Rattle.px_replica.specs.Traces.{TraceEvent}
use Rattle.px_replica.specs.Traces.TraceEvent.{Calls, Stops, Opens}
use Rattle.node_loop.specs.Resending.{IsKnown, IsPassedOver, came_in}
use Rattle.node_loop.specs.Turns.{handed_over}
use Rattle.node_loop.specs.Moves.{Heard, message_in, messages_of, AllFromMembers, AreBrought, sent_by}
use Rattle.node_loop.specs.Moves.{Move, Does, Passes, Repeats, trace_of, events_of, came_by, IsBrought, AreMoves}

-- ---- lists of what is kept

-- what is among a list and more, which is among another and more
pub among_chain : {X : Type 0} (xs ys zs vs ws : List X) → AreAmong ys (xs ++ vs) → AreAmong zs (ys ++ ws) → AreAmong zs (xs ++ (vs ++ ws))
among_chain {X} xs ys zs vs ws a b =
    subst (λ (us : List X). AreAmong zs us) (append_assoc xs vs ws)
    (among_then zs (ys ++ ws) ((xs ++ vs) ++ ws) b (among_sides ys ws (xs ++ vs) ws a (among_all ws)))

-- and nothing more
pub among_nil : {X : Type 0} (xs ys : List X) → AreAmong xs ys → AreAmong xs (ys ++ [])
among_nil xs ys a = among_front xs ys [] a

-- one of the first list
among_one : {X : Type 0} (xs : List X) (y : X) (ys zs : List X) → AreAmong zs (xs ++ y ∷ ys) → AreAmong zs ((xs ++ y ∷ []) ++ ys)
among_one {X} xs y ys zs a = subst (λ (us : List X). AreAmong zs us) (sym (append_assoc xs (y ∷ []) ys)) a

-- ---- messages and what is handed out, trace after trace

pub messages_then : (xs ys : List TraceEvent) → messages_of (xs ++ ys) ≡ messages_of xs ++ messages_of ys
messages_then [] ys = refl
messages_then (Calls x t out ∷ xs) ys =
    ap (λ (ms : List Heard). message_in x ++ ms) (messages_then xs ys)
    ∙ sym (append_assoc (message_in x) (messages_of xs) (messages_of ys))
messages_then (Stops x left ∷ xs) ys =
    ap (λ (ms : List Heard). message_in x ++ ms) (messages_then xs ys)
    ∙ sym (append_assoc (message_in x) (messages_of xs) (messages_of ys))
messages_then (Opens ∷ xs) ys = messages_then xs ys

pub sent_then : (xs ys : List TraceEvent) → sent_by (xs ++ ys) ≡ sent_by xs ++ sent_by ys
sent_then [] ys = refl
sent_then (Calls x t out ∷ xs) ys =
    ap (λ (ds : List (ℕ × Bytes)). handed_over out ++ ds) (sent_then xs ys)
    ∙ sym (append_assoc (handed_over out) (sent_by xs) (sent_by ys))
sent_then (Stops x left ∷ xs) ys = sent_then xs ys
sent_then (Opens ∷ xs) ys = sent_then xs ys

-- ---- moves, one behind the other

pub trace_then : (ms ns : List Move) → trace_of (ms ++ ns) ≡ trace_of ms ++ trace_of ns
trace_then [] ns = refl
trace_then (Does came i t out ∷ ms) ns = ap (λ (ds : List TraceEvent). Calls i t out ∷ ds) (trace_then ms ns)
trace_then (Passes b ∷ ms) ns = trace_then ms ns
trace_then (Repeats to b ∷ ms) ns = trace_then ms ns

pub events_then : (ms ns : List Move) → events_of (ms ++ ns) ≡ events_of ms ++ events_of ns
events_then [] ns = refl
events_then (Does came i t out ∷ ms) ns =
    ap (λ (es : List WireEvent). (gives came ++ hands (handed_over out)) ++ es) (events_then ms ns)
    ∙ sym (append_assoc (gives came ++ hands (handed_over out)) (events_of ms) (events_of ns))
events_then (Passes b ∷ ms) ns = ap (λ (es : List WireEvent). Gave b ∷ es) (events_then ms ns)
events_then (Repeats to b ∷ ms) ns = ap (λ (es : List WireEvent). Handed to b ∷ es) (events_then ms ns)

pub came_then : (ms ns : List Move) → came_by (ms ++ ns) ≡ came_by ms ++ came_by ns
came_then [] ns = refl
came_then (Does came i t out ∷ ms) ns =
    ap (λ (bs : List Bytes). came_in came ++ bs) (came_then ms ns) ∙ sym (append_assoc (came_in came) (came_by ms) (came_by ns))
came_then (Passes b ∷ ms) ns = ap (λ (bs : List Bytes). b ∷ bs) (came_then ms ns)
came_then (Repeats to b ∷ ms) ns = came_then ms ns

over_after : (g : Group) (me : ℕ) (hears : Bool) (few many : List Bytes) (b : Bytes) → AreAmong few many →
    IsPassedOver g me hears few b → IsPassedOver g me hears many b
over_after g me hears few many b a (inl nobody) = inl nobody
over_after g me hears few many b a (inr (inl known)) = inr (inl (a b known))
over_after g me hears few many b a (inr (inr outside)) = inr (inr outside)

-- more came before, and more is kept
pub moves_after : (g : Group) (me : ℕ) (hears : Bool) (ms : List Move) (few many : List Bytes) (less more : List (ℕ × Bytes)) →
    AreAmong few many → AreAmong less more → AreMoves g me hears ms few less → AreMoves g me hears ms many more
moves_after g me hears [] few many less more a k m = tt
moves_after g me hears (Does came i t out ∷ ms) few many less more a k m = (
  m.0,
  moves_after g me hears ms (few ++ came_in came) (many ++ came_in came) (less ++ handed_over out) (more ++ handed_over out)
      (among_sides few (came_in came) many (came_in came) a (among_all (came_in came)))
      (among_sides less (handed_over out) more (handed_over out) k (among_all (handed_over out))) m.1,
)
moves_after g me hears (Passes b ∷ ms) few many less more a k m = (
  over_after g me hears few many b a m.0,
  moves_after g me hears ms (few ++ b ∷ []) (many ++ b ∷ []) less more
      (among_sides few (b ∷ []) many (b ∷ []) a (among_all (b ∷ []))) k m.1,
)
moves_after g me hears (Repeats to b ∷ ms) few many less more a k m =
    (k (to, b) m.0, moves_after g me hears ms few many less more a k m.1)

-- one of the first list
among_behind : {X : Type 0} (xs ys us zs : List X) → AreAmong zs (xs ++ (ys ++ us)) → AreAmong zs ((xs ++ ys) ++ us)
among_behind {X} xs ys us zs a = subst (λ (vs : List X). AreAmong zs vs) (sym (append_assoc xs ys us)) a

pub moves_then : (g : Group) (me : ℕ) (hears : Bool) (ms ns : List Move) (before later : List Bytes)
    (kept keeps : List (ℕ × Bytes)) → AreMoves g me hears ms before kept → AreMoves g me hears ns later keeps →
    AreAmong later (before ++ came_by ms) → AreAmong keeps (kept ++ sent_by (trace_of ms)) →
    AreMoves g me hears (ms ++ ns) before kept
moves_then g me hears [] ns before later kept keeps a b r k =
    moves_after g me hears ns later before keeps kept
    (among_then later (before ++ []) before r (among_is (before ++ []) before (append-nil before)))
    (among_then keeps (kept ++ []) kept k (among_is (kept ++ []) kept (append-nil kept))) b
moves_then g me hears (Does came i t out ∷ ms) ns before later kept keeps a b r k = (
  a.0,
  moves_then g me hears ms ns (before ++ came_in came) later (kept ++ handed_over out) keeps a.1 b
      (among_behind before (came_in came) (came_by ms) later r)
      (among_behind kept (handed_over out) (sent_by (trace_of ms)) keeps k),
)
moves_then g me hears (Passes c ∷ ms) ns before later kept keeps a b r k =
    (a.0, moves_then g me hears ms ns (before ++ c ∷ []) later kept keeps a.1 b (among_one before c (came_by ms) later r) k)
moves_then g me hears (Repeats to c ∷ ms) ns before later kept keeps a b r k =
    (a.0, moves_then g me hears ms ns before later kept keeps a.1 b r k)

-- ---- who sent what came

pub members_then : (xs ys : List TraceEvent) → AllFromMembers xs → AllFromMembers ys → AllFromMembers (xs ++ ys)
members_then xs ys a b x m =
    elim (among_cases (messages_of xs) (messages_of ys) x (subst (λ (hs : List Heard). Among hs x) (messages_then xs ys) m)) [
      | inl here ↦ a x here
      | inr later ↦ b x later
    ]

-- ---- what is idle

-- as moves
abbrev pub idly : List WireEvent → List Move
idly [] = []
idly (Gave b ∷ es) = Passes b ∷ idly es
idly (Handed to b ∷ es) = Repeats to b ∷ idly es

pub idle_trace : (es : List WireEvent) → trace_of (idly es) ≡ []
idle_trace [] = refl
idle_trace (Gave b ∷ es) = idle_trace es
idle_trace (Handed to b ∷ es) = idle_trace es

pub idle_events : (es : List WireEvent) → events_of (idly es) ≡ es
idle_events [] = refl
idle_events (Gave b ∷ es) = ap (λ (fs : List WireEvent). Gave b ∷ fs) (idle_events es)
idle_events (Handed to b ∷ es) = ap (λ (fs : List WireEvent). Handed to b ∷ fs) (idle_events es)

-- an event of a member with these requests and this kept
abbrev pub Idles : Group → (me : ℕ) → (hears : Bool) → (before : List Bytes) → (kept : List (ℕ × Bytes)) → WireEvent → Type 0
Idles g me hears before kept (Gave b) = IsKnown g me hears before b
Idles g me hears before kept (Handed to b) = Among kept (to, b)

pub idle_moves : (g : Group) (me : ℕ) (hears : Bool) (es : List WireEvent) (before : List Bytes) (kept : List (ℕ × Bytes)) →
    ((e : WireEvent) → Among es e → Idles g me hears before kept e) → AreMoves g me hears (idly es) before kept
idle_moves g me hears [] before kept i = tt
idle_moves g me hears (Gave b ∷ es) before kept i = (
  inr (i (Gave b) (inl refl)),
  moves_after g me hears (idly es) before (before ++ b ∷ []) kept kept (among_front before before (b ∷ []) (among_all before))
      (among_all kept) (idle_moves g me hears es before kept (λ e m. i e (inr m))),
)
idle_moves g me hears (Handed to b ∷ es) before kept i =
    (i (Handed to b) (inl refl), idle_moves g me hears es before kept (λ e m. i e (inr m)))

-- ---- what datagrams bring

pub none_brought : (g : Group) (me : ℕ) (gave : List Bytes) → AreBrought g me gave []
none_brought g me gave x among = absurd among

pub one_brought : (g : Group) (me : ℕ) (bytes : Bytes) (sender : ℕ) (message : node.Message Bytes) →
    DatagramBytes g sender me (as_sent message) bytes → AreBrought g me (bytes ∷ []) ((sender, message) ∷ [])
one_brought g me bytes sender message spelled x (inl is) =
    (bytes, inl refl, subst (λ (z : Heard). DatagramBytes g z.0 me (as_sent z.1) bytes) is spelled)
one_brought g me bytes sender message spelled x (inr none) = absurd none

-- more was given
pub brought_more : (g : Group) (me : ℕ) (cs bs : List Bytes) (xs : List Heard) → AreBrought g me cs xs → AreBrought g me (cs ++ bs) xs
brought_more g me cs bs xs a x among = let r = a x among in (r.0, among_left cs bs r.0 r.1, r.2)

pub brought_then : (g : Group) (me : ℕ) (cs bs : List Bytes) (xs ys : List Heard) → AreBrought g me cs xs → AreBrought g me bs ys →
    AreBrought g me (cs ++ bs) (xs ++ ys)
brought_then g me cs bs xs ys a b x among =
    elim (among_cases xs ys x among) [
      | inl here ↦ (let r = a x here in (r.0, among_left cs bs r.0 r.1, r.2))
      | inr there ↦ (let r = b x there in (r.0, among_right cs bs r.0 r.1, r.2))
    ]
