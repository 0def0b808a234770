-- No packet gives something twice.
use Rattle.std.proofs.Common.{◌≡◌, ◌∙◌, ℕ, ◌<◌, ◌≤◌, ◌⊎◌, Bool, true, false, List, [], ◌∷◌, length, ap, sym, refl, arith, subst, inl, inr}
use Rattle.std.specs.Prelude.{◌==◌, ◌&&◌, ◌||◌, not, nat_lt, if◌then◌else◌}
use Rattle.std.specs.List.{list_any}
use Rattle.std.proofs.lemmas.Bool.{cases_lt, lt-ltb, ltb-true, le-ltb, eqb-true, eqb-false, and_parts, or_parts, or_from}
use Rattle.std.proofs.lemmas.List.{length-set, length-replicate}
use Rattle.px_packet.specs.declared.start.Start.{Start}
use Rattle.px_packet.specs.declared.kind.Kind.{Kind}
use Rattle.px_packet.specs.declared.kind.Kind.TheVariants as kinds
use Rattle.px_packet.specs.declared.header.Header.{Header}
use Rattle.px_packet.specs.Arrivals.{Known, is_start, is_state, arrival_of, known_after}
use Rattle.px_packet.specs.ReplayLaws as replay
use Rattle.px_packet.specs.ReplayLaws.{is_accepted, accepted_of, AreDistinct, is_packet, AreOnce, HeardOnce}
use Rattle.px_transport.specs.Receiving.{Heard, Nothing, Dropped, Memory, with_header, with_body, unchanged, heard_by, of_member, heard_after, given_by, reported_of, never, unheard}
use Rattle.px_transport.specs.Laws.{Event, Starts, Comes, Reports, nobody, given_all, is_given, given_of, starts_of, GivenOnce, GivenIsPresent}
use Rattle.px_transport.proofs.Members.{same_start, accepted_start, accepted_for, heard_known, heard_nobody, of_same, of_other, set_each}

-- ---- some of a list, in order

abbrev Sub : List Header → List Header → Type 0
Sub xs [] = xs ≡ []
Sub xs (y ∷ ys) = Sub xs ys ⊎ ((zs : List Header) × (xs ≡ y ∷ zs) × Sub zs ys)

sub_none : (h : Header) (ys xs : List Header) → Sub xs ys → list_any (is_packet h) ys ≡ false →
    list_any (is_packet h) xs ≡ false
sub_none h [] xs s none = ap (list_any (is_packet h)) s
sub_none h (y ∷ ys) xs (inl s) none =
    sub_none h ys xs s (or_parts (is_packet h y) (list_any (is_packet h) ys) none).1
sub_none h (y ∷ ys) xs (inr s) none =
    let parts = or_parts (is_packet h y) (list_any (is_packet h) ys) none in
    ap (list_any (is_packet h)) s.1 ∙ or_from _ _ parts.0 (sub_none h ys s.0 s.2 parts.1)

sub_once : (ys xs : List Header) → Sub xs ys → AreOnce ys → AreOnce xs
sub_once [] xs s once = let P : List Header → Type 0 = AreOnce in subst P (sym s) tt
sub_once (y ∷ ys) xs (inl s) once = sub_once ys xs s once.1
sub_once (y ∷ ys) xs (inr s) once =
    let P : List Header → Type 0 = AreOnce in
    subst P (sym s.1) (sub_none y ys s.0 s.2 once.0, sub_once ys s.0 s.2 once.1)

sub_more : (a b : Bool) (h : Header) (xs ys : List Header) → (a ≡ true → b ≡ true) → Sub xs ys →
    Sub (if a then h ∷ xs else xs) (if b then h ∷ ys else ys)
sub_more true true h xs ys f s = inr (xs, refl, s)
sub_more true false h xs ys f s = let e : false ≡ true = f refl in absurd cc
sub_more false true h xs ys f s = inl s
sub_more false false h xs ys f s = s

-- ---- of one member

-- what gives something is accepted, and isn't of kind state
gives_kind : (m : Memory) (e : Heard) (kind : Kind) (b : List ℕ) (now : ℕ) →
    is_given (with_body m e kind b now).given ≡ true → not (is_state kind) ≡ true
gives_kind m e kinds.State b now g = absurd cc
gives_kind m e kinds.Whole b now g = refl
gives_kind m e kinds.Piece b now g = refl
gives_kind m e kinds.PiecesHeld b now g = refl

gives_accepted : (mine : Start) (m : Memory) (e : Heard) (h : Header) (b : List ℕ) (now : ℕ) →
    is_given (heard_by mine m e h b now).given ≡ true → (is_accepted (arrival_of mine e.known h) && not (is_state h.kind)) ≡ true
gives_accepted mine m e h b now = at (is_accepted (arrival_of mine e.known h))
  where
    at : (c : Bool) → is_given (if c then with_body m (with_header mine e h) h.kind b now
        else unchanged (with_header mine e h) (Dropped (arrival_of mine e.known h))).given ≡ true →
        (c && not (is_state h.kind)) ≡ true
    at true g = gives_kind m (with_header mine e h) h.kind b now g
    at false g = absurd cc

-- the events of a receiver, for one sender
abbrev events_of : (member : ℕ) → List Event → List replay.Event
events_of member [] = []
events_of member (Starts mine ∷ es) = replay.Starts mine never ∷ events_of member es
events_of member (Comes h b now m ∷ es) =
    if h.from == member then replay.Comes h ∷ events_of member es else events_of member es
events_of member (Reports other now ∷ es) = events_of member es

starts_same : (member : ℕ) (es : List Event) → replay.starts_of (events_of member es) ≡ starts_of es
starts_same member [] = refl
starts_same member (Starts mine ∷ es) = ap (λ ss. mine ∷ ss) (starts_same member es)
starts_same member (Comes h b now m ∷ es) = at (h.from == member) (starts_same member es)
  where
    at : (c : Bool) → replay.starts_of (events_of member es) ≡ starts_of es →
        replay.starts_of (if c then replay.Comes h ∷ events_of member es else events_of member es) ≡ starts_of es
    at true same = same
    at false same = same
starts_same member (Reports other now ∷ es) = starts_same member es

-- what is given of a member's packets is some of what is accepted of them
abbrev Within : (members member : ℕ) → (mine : Start) → List Heard → List Event → Type 0
Within members member mine hs es =
    Sub (given_of member (given_all members mine hs es))
    (accepted_of mine (of_member hs member).known (events_of member es))

of_packet : (members member : ℕ) (mine : Start) (hs : List Heard) (h : Header) (b : List ℕ) (now : ℕ) (m : Memory)
    (es : List Event) → member < length hs → Within members member mine (heard_after mine m hs h b now) es → (c : Bool) →
    (h.from == member) ≡ c →
    Sub (if c && is_given (given_by mine m hs h b now)
    then h ∷ given_of member (given_all members mine (heard_after mine m hs h b now) es)
    else given_of member (given_all members mine (heard_after mine m hs h b now) es))
    (accepted_of mine (of_member hs member).known (if c then replay.Comes h ∷ events_of member es else events_of member es))
of_packet members member mine hs h b now m es l rest false e =
    let other : of_member (heard_after mine m hs h b now) member ≡ of_member hs member =
    of_other hs h.from member (heard_by mine m (of_member hs h.from) h b now).heard (λ s. eqb-false h.from member e (sym s)) in
    let xs = given_of member (given_all members mine (heard_after mine m hs h b now) es) in
    let P : Heard → Type 0 = λ x. Sub xs (accepted_of mine x.known (events_of member es)) in
    subst P other rest
of_packet members member mine hs h b now m es l rest true e =
    let at : h.from ≡ member = eqb-true h.from member e in
    let inside : h.from < length hs = omega (arith, at, l) in
    let e0 = of_member hs h.from in
    let o = heard_by mine m e0 h b now in
    let xs = given_of member (given_all members mine (heard_after mine m hs h b now) es) in
    let k_same : (of_member hs member).known ≡ e0.known = ap (λ i. (of_member hs i).known) (sym at) in
    let given : given_by mine m hs h b now ≡ o.given =
    ap (λ c. if c then o.given else Nothing) (lt-ltb h.from (length hs) inside) in
    let next : (of_member (heard_after mine m hs h b now) member).known ≡ known_after mine e0.known h =
    ap (λ i. (of_member (heard_after mine m hs h b now) i).known) (sym at)
    ∙ ap (λ (x : Heard). x.known) (of_same hs h.from o.heard inside) ∙ heard_known mine m e0 h b now in
    let P : Known → Type 0 = λ k. Sub xs (accepted_of mine k (events_of member es)) in
    let Q : Known → Type 0 = λ k. Sub (if is_given (given_by mine m hs h b now) then h ∷ xs else xs)
    (accepted_of mine k (replay.Comes h ∷ events_of member es)) in
    subst Q (sym k_same)
    (sub_more (is_given (given_by mine m hs h b now)) (is_accepted (arrival_of mine e0.known h) && not (is_state h.kind)) h xs
    (accepted_of mine (known_after mine e0.known h) (events_of member es))
    (λ g. gives_accepted mine m e0 h b now (ap is_given (sym given) ∙ g)) (subst P next rest))

within : (members member : ℕ) (mine : Start) (hs : List Heard) (es : List Event) → length hs ≡ members → member < members →
    Within members member mine hs es
within members member mine hs [] n l = refl
within members member mine hs (Starts next ∷ es) n l =
    let P : Known → Type 0 = λ k. Sub (given_of member (given_all members next (nobody members) es))
    (accepted_of next k (events_of member es)) in
    subst P (ap (λ (x : Heard). x.known) (heard_nobody members member))
    (within members member next (nobody members) es (length-replicate members unheard) l)
within members member mine hs (Comes h b now m ∷ es) n l =
    of_packet members member mine hs h b now m es (omega (arith, n, l))
    (within members member mine (heard_after mine m hs h b now) es (length-set hs h.from _ ∙ n) l) (h.from == member) refl
within members member mine hs (Reports other now ∷ es) n l =
    let hs' = reported_of hs other now in
    let P : Known → Type 0 = λ k. Sub (given_of member (given_all members mine hs' es))
    (accepted_of mine k (events_of member es)) in
    let known : (of_member hs' member).known ≡ (of_member hs member).known =
    set_each (λ k e. e.known ≡ (of_member hs k).known) hs other _ (λ k. refl) refl member in
    subst P known (within members member mine hs' es (length-set hs other _ ∙ n) l)

-- of no member nothing is given
none_given : (members member : ℕ) (mine : Start) (hs : List Heard) (es : List Event) → length hs ≡ members →
    members ≤ member → given_of member (given_all members mine hs es) ≡ []
none_given members member mine hs [] n l = refl
none_given members member mine hs (Starts next ∷ es) n l =
    none_given members member next (nobody members) es (length-replicate members unheard) l
none_given members member mine hs (Comes h b now m ∷ es) n l =
    at (h.from == member) refl (none_given members member mine (heard_after mine m hs h b now) es (length-set hs h.from _ ∙ n) l)
  where
    at : (c : Bool) → (h.from == member) ≡ c →
        given_of member (given_all members mine (heard_after mine m hs h b now) es) ≡ [] →
        (if c && is_given (given_by mine m hs h b now)
        then h ∷ given_of member (given_all members mine (heard_after mine m hs h b now) es)
        else given_of member (given_all members mine (heard_after mine m hs h b now) es)) ≡ []
    at true e none =
        let o = heard_by mine m (of_member hs h.from) h b now in
        let past : nat_lt h.from (length hs) ≡ false =
        le-ltb h.from (length hs) (let same : h.from ≡ member = eqb-true h.from member e in omega (arith, n, l, same)) in
        let xs = given_of member (given_all members mine (heard_after mine m hs h b now) es) in
        ap (λ t. if is_given (if t then o.given else Nothing) then h ∷ xs else xs) past ∙ none
    at false e none = none
none_given members member mine hs (Reports other now ∷ es) n l =
    none_given members member mine _ es (length-set hs other _ ∙ n) l

pub given_once : HeardOnce → GivenOnce
given_once heard members mine es member apart = elim (cases_lt member members) [
  | inl l ↦ (let P : List Start → Type 0 = λ ss. AreDistinct (mine ∷ ss) in
      let once = heard mine never (events_of member es) (subst P (sym (starts_same member es)) apart) in
      let Q : Known → Type 0 = λ k. Sub (given_of member (given_all members mine (nobody members) es))
      (accepted_of mine k (events_of member es)) in
      sub_once _ _ (subst Q (ap (λ (x : Heard). x.known) (heard_nobody members member))
      (within members member mine (nobody members) es (length-replicate members unheard) l)) once)
  | inr g ↦ (let P : List Header → Type 0 = AreOnce in
      subst P (sym (none_given members member mine (nobody members) es (length-replicate members unheard) g)) tt)
]

-- ---- of present starts

for_me : (a b : Bool) → (a || b) ≡ true → not b ≡ true → a ≡ true
for_me true b f n = refl
for_me false true f n = absurd cc
for_me false false f n = absurd cc

pub given_is_present : GivenIsPresent
given_is_present mine m hs h b now = at (nat_lt h.from (length hs)) refl
  where
    at : (c : Bool) → nat_lt h.from (length hs) ≡ c →
        is_given (if c then (heard_by mine m (of_member hs h.from) h b now).given else Nothing) ≡ true →
        (h.echo ≡ mine) × ((of_member (heard_after mine m hs h b now) h.from).known.start ≡ h.start)
    at true l g =
        let e = of_member hs h.from in
        let both = and_parts (is_accepted (arrival_of mine e.known h)) (not (is_state h.kind)) (gives_accepted mine m e h b now g) in
        let echo = and_parts (h.echo.number == mine.number) (h.echo.salt == mine.salt)
        (for_me (is_start h.echo mine) (is_state h.kind) (accepted_for mine e.known h both.0) both.1) in (
          same_start h.echo mine (eqb-true h.echo.number mine.number echo.0) (eqb-true h.echo.salt mine.salt echo.1),
          ap (λ (x : Heard). x.known.start) (of_same hs h.from (heard_by mine m e h b now).heard (ltb-true h.from (length hs) l))
              ∙ ap (λ (x : Known). x.start) (heard_known mine m e h b now) ∙ accepted_start mine e.known h both.0,
        )
    at false l g = absurd cc
