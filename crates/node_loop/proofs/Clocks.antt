-- At which times a timer was given what is seen.
use Rattle.std.proofs.Common.{◌≡◌, ◌∙◌, ℕ, Bool, true, false, List, [], ◌∷◌, ◌++◌, map, nat_lt, refl, sym, ap}
use Rattle.std.proofs.lemmas.List.{map-append}
use Rattle.px_transport.specs.Wires.{Adds}
use Rattle.px_transport.proofs.Traffic.{adds_then}
use Rattle.node_loop.specs.Timing.{TimerEvent, looks, sends_if}
use Rattle.node_loop.specs.Times.{Reading, between, times_in, LooksAt, IsTimed, IsTimedRun}
use Rattle.node_loop.specs.declared.peer_progress.PeerProgress.{PeerProgress}
use Rattle.node_loop.specs.declared.timer.View.{View}

times_append : (ts us : List TimerEvent) → times_in (ts ++ us) ≡ times_in ts ++ times_in us
times_append [] us = refl
times_append (TimerEvent.Looks now view tick ∷ ts) us = ap (λ ns. now ∷ ns) (times_append ts us)
times_append (TimerEvent.Sends now ∷ ts) us = times_append ts us
times_append (TimerEvent.Repeats now is_due ∷ ts) us = times_append ts us
times_append (TimerEvent.Ends ∷ ts) us = times_append ts us

sends_at_none : (q : Bool) (now : ℕ) → times_in (sends_if q now) ≡ []
sends_at_none true now = refl
sends_at_none false now = refl

-- once in a round, at its time
pub looks_at_once : (a b c : List TimerEvent → Type 0) (now : ℕ) (v : View) (k d : Bool) (t : PeerProgress) → Adds a b (looks now v k t) →
    Adds b c (TimerEvent.Repeats now d ∷ []) → LooksAt (now ∷ []) a c
looks_at_once a b c now v k d t g h = (
  looks now v k t ++ TimerEvent.Repeats now d ∷ [],
  times_append (looks now v k t) (TimerEvent.Repeats now d ∷ [])
      ∙ ap (λ ns. (now ∷ ns) ++ []) (sends_at_none (nat_lt v.front t.accepting) now),
  adds_then a b c (looks now v k t) (TimerEvent.Repeats now d ∷ []) g h,
)

-- the clock is read once more, for one more look
pub timed_then : (start : Reading) (r s u : List Reading → Type 0) (a b c : List TimerEvent → Type 0) (t : ℕ) →
    IsTimed start r s a b → (now : Reading) × Adds s u (now ∷ []) × (t ≡ between start now) → LooksAt (t ∷ []) b c →
    IsTimed start r u a c
timed_then start r s u a b c t (rs, g, (ts, is, h)) (now, k, e) (us, at, m) = (
  rs ++ now ∷ [],
  adds_then r s u rs (now ∷ []) g k,
  (
    ts ++ us,
    times_append ts us ∙ (ap (λ ns. ns ++ times_in us) is ∙ (ap (λ ns. map (between start) rs ++ ns) (at ∙ ap (λ n. n ∷ []) e)
        ∙ sym (map-append (between start) rs (now ∷ [])))),
    adds_then a b c ts us h m,
  ),
)

-- rounds, and then some more
pub timed_both : (start : Reading) (r s u : List Reading → Type 0) (a b c : List TimerEvent → Type 0) →
    IsTimed start r s a b → IsTimed start s u b c → IsTimed start r u a c
timed_both start r s u a b c (rs, g, (ts, is, h)) (qs, k, (us, at, m)) = (
  rs ++ qs,
  adds_then r s u rs qs g k,
  (
    ts ++ us,
    times_append ts us ∙ (ap (λ ns. ns ++ times_in us) is ∙ (ap (λ ns. map (between start) rs ++ ns) at
        ∙ sym (map-append (between start) rs qs))),
    adds_then a b c ts us h m,
  ),
)

-- from the start on
pub timed_run : (start : Reading) (r s u : List Reading → Type 0) (a b : List TimerEvent → Type 0) → Adds r s (start ∷ []) →
    IsTimed start s u a b → IsTimedRun r u a b
timed_run start r s u a b read (rs, g, looks) = (start, rs, adds_then r s u (start ∷ []) rs read g, looks)
