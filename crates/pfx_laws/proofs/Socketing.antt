-- What goes over members' sockets is what goes over their wires.
use Rattle.std.proofs.Common.{◌≡◌, ◌∙◌, ◌⊎◌, sym, ap, subst, refl, ℕ, ◌<◌, List, [], ◌∷◌, ◌++◌, Option, Some, None, inl, inr}
use Rattle.std.specs.List.{AllByRecursion}
use Rattle.px_model.specs.Spelling.{Bytes}
use Rattle.node_loop.specs.Again.{AreAmong}
use Rattle.node_loop.proofs.Among.{among_all, among_front, among_none, among_sides}
use Rattle.px_transport.specs.Wires.{WireEvent, Gave, Handed}
use Rattle.px_wire.specs.Message.{Group, DatagramBytes}
use Rattle.node_udp.specs.Sockets.{SocketEvent, Came, Went, Passage, Hears, Sends, Loses, IsSound, above_in, below_in}
use Rattle.node_udp.specs.declared.address.Address.{Address}
use Rattle.pfx_laws.specs.Members.{RunEvent, Starts, During, Runs, IsEmpty, events_at}
use Rattle.px_records.specs.declared.records.Records.{Ghosts}
use Rattle.pfx_laws.specs.Sockets.{WasHanded, Network, SocketsCarry, IsRun, RanOver, SocketsGo, SocketsNeverDiffer}
use Rattle.pfx_laws.specs.Sockets.{SocketsLearnWhatWasAsked, EquallyAppliedAtSockets}
use Rattle.pfx_laws.proofs.Keeping.{ever_learned}
use Rattle.pfx_laws.proofs.Members.{AllLearned, never_differ, learn_what_was_asked, equally_applied}
use Rattle.pfx_laws.proofs.Lifting as lifting
use Rattle.pfx_laws.proofs.Lifting.{AreBelow, during, each_first, each_rest}
use Rattle.pfx_laws.proofs.Networking.{Carries}
use Rattle.pfx_laws.proofs.Looping.{IsAbove, above_keeps, carried_more, no_message, loops_go}

-- over the socket
abbrev pub low : Passage → Option SocketEvent
low (Hears from came given) = Some (Came from came)
low (Sends to bytes there) = Some (Went there bytes)
low (Loses to bytes) = None

pub lowers_are : (xs : List Passage) → lifting.lowers low xs ≡ below_in xs
lowers_are [] = refl
lowers_are (Hears from came given ∷ xs) = ap (λ (es : List SocketEvent). Came from came ∷ es) (lowers_are xs)
lowers_are (Sends to bytes there ∷ xs) = ap (λ (es : List SocketEvent). Went there bytes ∷ es) (lowers_are xs)
lowers_are (Loses to bytes ∷ xs) = lowers_are xs

-- over the wire
abbrev pub high : ℕ → Passage → List WireEvent
high m (Hears from came given) = Gave given ∷ []
high m (Sends to bytes there) = Handed to bytes ∷ []
high m (Loses to bytes) = Handed to bytes ∷ []

pub highs_are : (m : ℕ) (xs : List Passage) → above_in xs ≡ lifting.highs high m xs
highs_are m [] = refl
highs_are m (Hears from came given ∷ xs) = ap (λ (es : List WireEvent). Gave given ∷ es) (highs_are m xs)
highs_are m (Sends to bytes there ∷ xs) = ap (λ (es : List WireEvent). Handed to bytes ∷ es) (highs_are m xs)
highs_are m (Loses to bytes ∷ xs) = ap (λ (es : List WireEvent). Handed to bytes ∷ es) (highs_are m xs)

-- ---- it is carried

-- what comes is given, or an empty datagram
abbrev IsFaithful : Passage → Type 0
IsFaithful (Hears from came given) = (given ≡ came) ⊎ (given ≡ [])
IsFaithful (Sends to bytes there) = Unit {0}
IsFaithful (Loses to bytes) = Unit {0}

abbrev pub AreFaithful : {K : Type 0} → List (RunEvent K Passage) → Type 0
AreFaithful [] = Unit {0}
AreFaithful (Starts k ∷ xs) = AreFaithful xs
AreFaithful (During x ∷ xs) = IsFaithful x × AreFaithful xs

pub faithful : {K : Type 0} (addresses : List Address) (me : ℕ) (xs : List Passage) (later : List (RunEvent K Passage)) →
    AllByRecursion (IsSound addresses me) xs → AreFaithful later → AreFaithful (during xs ++ later)
faithful addresses me [] later s f = f
faithful addresses me (Hears from came given ∷ xs) later s f = (s.0, faithful addresses me xs later s.1 f)
faithful addresses me (Sends to bytes there ∷ xs) later s f = (tt, faithful addresses me xs later s.1 f)
faithful addresses me (Loses to bytes ∷ xs) later s f = (tt, faithful addresses me xs later s.1 f)

-- each member's
abbrev pub AllFaithful : {K : Type 0} → (n : ℕ) → List (ℕ × RunEvent K Passage) → Type 0
AllFaithful n xs = (m : ℕ) → m < n → AreFaithful (events_at m xs)

carries_above : (g : Group) (xs : List (ℕ × RunEvent (Unit {0}) Passage)) (went handed : List Bytes) → AllFaithful g.members xs → AreAmong went handed →
    AreBelow g.members xs → SocketsCarry g (lifting.all_lower (lifting.low_of low high) xs) went → Carries g (lifting.upper low high xs) handed
carries_above g [] went handed f a b c = tt
carries_above g ((m, Starts k) ∷ xs) went handed f a b c =
    let own = each_first (λ j es. AreFaithful es) g.members m (Starts k) xs b.0 f in
    (b.0, carries_above g xs went handed (each_rest (λ j es. AreFaithful es) g.members m (Starts k) xs own f) a b.1 c.1)
carries_above g ((m, During (Hears from came given)) ∷ xs) went handed f a b c =
    let own = each_first (λ j es. AreFaithful es) g.members m (During (Hears from came given)) xs b.0 f in (
      b.0,
      elim own.0 [
        | inl same ↦ subst (λ (x : Bytes). WasHanded g handed m x) (sym same) (carried_more g m came went handed a c.1)
        | inr empty ↦ inr (λ k message spelled. no_message g k m message (subst (λ (x : Bytes). DatagramBytes g k m message x) empty spelled))
      ],
      carries_above g xs went handed (each_rest (λ j es. AreFaithful es) g.members m (During (Hears from came given)) xs own.1 f) a b.1 c.2,
    )
carries_above g ((m, During (Sends to bytes there)) ∷ xs) went handed f a b c =
    let own = each_first (λ j es. AreFaithful es) g.members m (During (Sends to bytes there)) xs b.0 f in (
      b.0,
      carries_above g xs (went ++ bytes ∷ []) (handed ++ bytes ∷ []) (each_rest (λ j es. AreFaithful es) g.members m (During (Sends to bytes there)) xs own.1 f)
          (among_sides went (bytes ∷ []) handed (bytes ∷ []) a (among_all (bytes ∷ []))) b.1 c.1,
    )
carries_above g ((m, During (Loses to bytes)) ∷ xs) went handed f a b c =
    let own = each_first (λ j es. AreFaithful es) g.members m (During (Loses to bytes)) xs b.0 f in (
      b.0,
      carries_above g xs went (handed ++ bytes ∷ []) (each_rest (λ j es. AreFaithful es) g.members m (During (Loses to bytes)) xs own.1 f)
          (among_front went handed (bytes ∷ []) a) b.1 c,
    )

are_below : (g : Group) (network : Network) (went : List Bytes) → SocketsCarry g network went →
    AreBelow g.members network
are_below g [] went c = tt
are_below g ((m, Starts k) ∷ xs) went c = (c.0, are_below g xs went c.1)
are_below g ((m, During (Came from b)) ∷ xs) went c = (c.0, are_below g xs went c.2)
are_below g ((m, During (Went to b)) ∷ xs) went c = (c.0, are_below g xs _ c.1)

-- ---- the laws

raises : (g : Group) (m : ℕ) → lifting.Raises {K = Unit {0}} low high m (IsRun g m) (IsAbove g m) AreFaithful
raises g m r own ran = (
  ran.passages,
  ran.below_is ∙ sym (lowers_are ran.passages),
  subst (λ (es : List WireEvent). IsAbove g m r es) (highs_are m ran.passages) ran.ran,
  λ later good. faithful ran.addresses ran.me ran.passages later ran.sound good,
)

pub sockets_go : SocketsGo
sockets_go g network runs r =
    let u = lifting.up low high g (IsRun g) (IsAbove g) (λ m. AreFaithful) (λ m. tt) (raises g) IsEmpty network runs r.ran (are_below g network [] r.carry) in
    loops_go g (lifting.upper low high u.above) runs r.group
    (carries_above g u.above [] [] u.good (among_none []) u.within
    (subst (λ (net : Network). SocketsCarry g net []) (sym u.low_is) r.carry)) u.are

all_learned : (g : Group) (network : Network) (runs : Runs (Unit {0})) → RanOver g network runs → AllLearned g runs
all_learned g network runs r m p e below ever =
    ever_learned g m (IsRun g m) (λ t own q f is h. above_keeps g m t _ q f is.ran h) p e IsEmpty _ (runs m) (events_at m network) (r.ran m below) ever

pub sockets_never_differ : SocketsNeverDiffer
sockets_never_differ g network runs r =
    let n = sockets_go g network runs r in never_differ g runs n.0 n.1 (all_learned g network runs r)

pub sockets_learn_what_was_asked : SocketsLearnWhatWasAsked
sockets_learn_what_was_asked g network runs r =
    let n = sockets_go g network runs r in (n.0, n.1, learn_what_was_asked g runs n.0 n.1 (all_learned g network runs r))

pub equally_applied_at_sockets : {R Q : Type 0} (G : Ghosts R) (H : Ghosts Q) → EquallyAppliedAtSockets G H
equally_applied_at_sockets G H g network runs r = equally_applied G H g runs (sockets_never_differ g network runs r)
