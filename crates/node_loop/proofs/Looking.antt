-- How often a timer was given what is seen.
use Rattle.std.proofs.Common.{◌≡◌, ◌∙◌, ℕ, ◌+◌, ◌*◌, ◌≤◌, Bool, true, false, List, [], ◌∷◌, ◌++◌, nat_lt, refl, arith}
use Rattle.px_transport.specs.Wires.{Adds}
use Rattle.px_transport.proofs.Traffic.{adds_none, adds_then}
use Rattle.node_loop.specs.Timing.{TimerEvent, looks, sends_if, looks_in, LooksTimes, MakesTurns}
use Rattle.node_loop.specs.declared.peer_progress.PeerProgress.{PeerProgress}
use Rattle.node_loop.specs.declared.timer.View.{View}

looks_append : (ts us : List TimerEvent) → looks_in (ts ++ us) ≡ looks_in ts + looks_in us
looks_append [] us = omega arith
looks_append (TimerEvent.Looks now view tick ∷ ts) us = let r = looks_append ts us in omega (arith, r)
looks_append (TimerEvent.Sends now ∷ ts) us = looks_append ts us
looks_append (TimerEvent.Repeats now is_due ∷ ts) us = looks_append ts us
looks_append (TimerEvent.Ends ∷ ts) us = looks_append ts us

sends_none : (q : Bool) (now : ℕ) → looks_in (sends_if q now) ≡ 0
sends_none true now = refl
sends_none false now = refl

-- never
pub looks_never : (a : List TimerEvent → Type 0) → LooksTimes 0 a a
looks_never a = ([], refl, adds_none a a (λ ts t. t))

-- once in a round
pub looks_once : (a b c : List TimerEvent → Type 0) (now : ℕ) (v : View) (k d : Bool) (t : PeerProgress) → Adds a b (looks now v k t) →
    Adds b c (TimerEvent.Repeats now d ∷ []) → LooksTimes 1 a c
looks_once a b c now v k d t g h =
    let none = sends_none (nat_lt v.front t.accepting) now in
    let all = looks_append (looks now v k t) (TimerEvent.Repeats now d ∷ []) in
    (looks now v k t ++ TimerEvent.Repeats now d ∷ [], omega (arith, none, all), adds_then a b c (looks now v k t) (TimerEvent.Repeats now d ∷ []) g h)

-- and then more often
pub looks_then : (n k : ℕ) (a b c : List TimerEvent → Type 0) → LooksTimes n a b → LooksTimes k b c → LooksTimes (n + k) a c
looks_then n k a b c (ts, is, g) (us, more, h) =
    let all = looks_append ts us in (ts ++ us, omega (arith, all, is, more), adds_then a b c ts us g h)

-- turns, and then some more
pub makes_then : (turns k : ℕ) (a b c : List TimerEvent → Type 0) → MakesTurns turns a b → LooksTimes k b c → MakesTurns turns a c
makes_then turns k a b c (n, few, l) more = (n + k, omega (arith, few), looks_then n k a b c l more)

-- it ended, and one round more
pub ends_then : (n : ℕ) (a b c : List TimerEvent → Type 0) →
    (more : List TimerEvent) × (looks_in more ≡ n) × Adds a b (TimerEvent.Ends ∷ more) → LooksTimes 1 b c →
    (more : List TimerEvent) × (looks_in more ≡ n + 1) × Adds a c (TimerEvent.Ends ∷ more)
ends_then n a b c (ts, is, g) (us, one, h) =
    let all = looks_append ts us in (ts ++ us, omega (arith, all, is, one), adds_then a b c (TimerEvent.Ends ∷ ts) us g h)
