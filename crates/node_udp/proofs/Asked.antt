-- The bytes of a command that is asked are viewed as that command, and may be sent to a member.
use Rattle.std.proofs.Common.{◌≡◌, ◌∙◌, ℕ, suc, ◌^◌, ◌<◌, true, leb, length, List, Option, Some, None, IsSome, IfSome}
use Rattle.std.proofs.Common.{option_map, refl, sym, ap, subst, arith, inl, inr}
use Rattle.std.proofs.lemmas.Bool.{le-leb}
use Rattle.pf_entry.specs.Entry as entries
use Rattle.pf_entry.proofs.Takes.{wide64, some_is}
use Rattle.px_model.specs.Node as node
use Rattle.px_model.specs.Spelling.{Bytes, command_in, entry_in, spelled}
use Rattle.px_model.specs.Entries.{view_of}
use Rattle.px_model.specs.declared.entry.EntryView.{EntryView}
use Rattle.px_wire.proofs.Lending.{ten_bytes}
use Rattle.px_wire.specs.Message.{Group, Lent, Message, DatagramBytes}
use Rattle.px_wire.specs.Seen.{lent_of}
use Rattle.node_udp.specs.declared.answer.AskAnswer.{AskAnswer}
use Rattle.node_udp.specs.declared.answer.AskAnswer.TheVariants.{NoAnswer}
use Rattle.px_transport.specs.Wires.{WireEvent}
use Rattle.node_udp.specs.Asking.{ask_answer, Answers, Hears, Listens}

abbrev seen : (o k : ℕ) → Bytes → node.Entry Bytes
seen o k c = record { origin = o; number = k; command = c }

abbrev lent : List ℕ → entries.Entry → Lent
lent bytes e = record { origin = e.origin; number = e.number; bytes = bytes }

spelling_seen : (e : entries.Entry) → e.number < 2 ^ 64 →
    entry_in (entries.spelling e) ≡ Some (seen e.origin e.number (command_in (entries.spelling e)))
unfolding entry_in
spelling_seen e lt =
    let long : leb 10 (length (entries.spelling e)) ≡ true = le-leb 10 (length (entries.spelling e)) (ten_bytes e) in
    rw long (ap (λ (k : ℕ). Some (seen e.origin k (command_in (entries.spelling e)))) (wide64.again e.number lt))

pub view_some : (e : entries.Entry) (bytes : List ℕ) (r : Option EntryView) → entries.EntryBytes e bytes →
    option_map view_of r ≡ entry_in bytes → IsSome r
view_some e bytes None d same =
    let small : e.number < 2 ^ 48 = d.fits.number in
    let is : None ≡ Some (seen e.origin e.number (command_in (entries.spelling e))) = same ∙ ap entry_in d.spelled ∙ spelling_seen e (omega (arith, small)) in
    absurd cc
view_some e bytes (Some v) d same = refl

pub view_lent : (e : entries.Entry) (bytes : List ℕ) (r : Option EntryView) → entries.EntryBytes e bytes →
    option_map view_of r ≡ entry_in bytes → IfSome r (λ v. spelled (view_of v) ≡ bytes) →
    IfSome r (λ v. lent_of v ≡ lent (entries.spelling e) e)
view_lent e bytes None d same text = tt
view_lent e bytes (Some v) d same text =
    let small : e.number < 2 ^ 48 = d.fits.number in
    let is : view_of v ≡ seen e.origin e.number (command_in (entries.spelling e)) =
    some_is _ _ (same ∙ ap entry_in d.spelled ∙ spelling_seen e (omega (arith, small))) in
    let o : (view_of v).origin ≡ e.origin = ap (λ (x : node.Entry Bytes). x.origin) is in
    let k : (view_of v).number ≡ e.number = ap (λ (x : node.Entry Bytes). x.number) is in
    let as_lent : ℕ → ℕ → List ℕ → Lent = λ a b c. record { origin = a; number = b; bytes = c } in
    ap (λ (x : ℕ). as_lent x (view_of v).number (spelled (view_of v))) o
    ∙ ap (λ (x : ℕ). as_lent e.origin x (spelled (view_of v))) k
    ∙ ap (λ (x : List ℕ). as_lent e.origin e.number x) (text ∙ d.spelled)

-- ---- answers

-- a message of the node is the answer that it gives, or none
pub answers_reported : (g : Group) (from me n : ℕ) (bytes : List ℕ) (x : Message) (r : Option AskAnswer) → me ≡ 255 →
    from ≡ n → DatagramBytes g from me x bytes → r ≡ ask_answer x →
    ((f : ℕ) (y : Message) → DatagramBytes g f me y bytes → (from ≡ f) × (x ≡ y)) → Answers g n (Some bytes) r
answers_reported g from me n bytes x (Some a) e f d t only =
    (x, subst (λ (k : ℕ). DatagramBytes g k 255 x bytes) f (subst (λ (m : ℕ). DatagramBytes g from m x bytes) e d), sym t)
answers_reported g from me n bytes x None e f d t only = λ a is.
    let y = is.0 in
    let at_me : DatagramBytes g n me y bytes = subst (λ (m : ℕ). DatagramBytes g n m y bytes) (sym e) is.1 in
    let same : x ≡ y = (only n y at_me).1 in
    let bad : None ≡ Some a = t ∙ ap ask_answer same ∙ is.2 in
    absurd cc

-- ---- waits

pub heard_at : (g : Group) (node n k : ℕ) (given : List WireEvent) (a : AskAnswer) (given' : List WireEvent) →
    n ≡ suc k → Hears g node given (Some a) given' → Listens g node n given a given'
unfolding Listens
heard_at g node n k given a given' e h =
    subst (λ (i : ℕ). Listens g node i given a given') (sym e) (inl h)

pub passed_at : (g : Group) (node n k : ℕ) (given next : List WireEvent) (a : AskAnswer)
    (given' : List WireEvent) → n ≡ suc k → Hears g node given None next → Listens g node k next a given' →
    Listens g node n given a given'
unfolding Listens
passed_at g node n k given next a given' e h l =
    subst (λ (i : ℕ). Listens g node i given a given') (sym e) (inr (next, h, l))

pub ended_at : (g : Group) (node n : ℕ) (given : List WireEvent) → n ≡ 0 → Listens g node n given NoAnswer given
unfolding Listens
ended_at g node n given e = subst (λ (i : ℕ). Listens g node i given NoAnswer given) (sym e) (refl, refl)
