-- What goes over a wire that keeps a member's datagrams to itself, in a run after which the wire below is this.
use Rattle.std.specs.Prelude.{◌≡◌, ℕ, List}
use Rattle.px_transport.specs.Loopback.{Looped, below_of, me_of}
use Rattle.px_transport.specs.Wires.{WireEvent}
use Rattle.px_transport.specs.declared.loopback.LoopbackWire.{LoopbackWire}

-- there are such events, of which this holds
abbrev pub WentLooped : {W : Type 0} → (traffic : W → List WireEvent → Type 0) → (me : ℕ) → (below : W) →
    (how : List WireEvent → Type 0) → Type 0
WentLooped {W} traffic me below how =
    (w : LoopbackWire W) × (es : List WireEvent) × (below_of w ≡ below) × (me_of w ≡ me) ×
    Looped (traffic (below_of w)) w es × how es
