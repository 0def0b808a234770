-- What is counted of what goes over the wire.
use Rattle.std.proofs.Common.{◌≡◌, ◌∙◌, ℕ, suc, ◌+◌, Bool, true, false, List, ◌∷◌, drop, length, nat_lt, sym, ap, subst, refl, if◌then◌else◌}
use Rattle.px_records.specs.declared.records.Records.{Ghosts}
use Rattle.px_replica.specs.declared.datagram.Datagram.{Datagram}
use Rattle.node_loop.proofs.Chains.{same_is}
use Rattle.node_loop.specs.Counting.{CountsAll, CountsRound, CountsTickedIf}
use Rattle.node_loop.specs.Counts.{all_out, but_unsent, handed_to, nothing_of, one_more, one_out}
use Rattle.node_loop.specs.Turns.{Resent, Same, LoopState}
use Rattle.node_loop.specs.inner.Turns.{CountsIf}
use Rattle.node_loop.specs.declared.packet.TheConstants.{MEMBERS}
use Rattle.node_loop.specs.declared.counts.RoundCounts.{RoundCounts}

handed_so : (m : Bool) (to n unsent : ℕ) (c : RoundCounts) →
    but_unsent (handed_to m to n (record c { unsent = unsent })) ≡ handed_to m to n (but_unsent c)
handed_so true to n unsent c = refl
handed_so false to n unsent c = refl

out_so : (to n : ℕ) (b : Bool) (c : RoundCounts) → but_unsent (one_out to n b c) ≡ one_out to n true (but_unsent c)
out_so to n b c = handed_so (nat_lt to MEMBERS) to n (if b then c.unsent else one_more c.unsent) c

-- one more was handed over
pub out_more : (out : List Datagram) (i : ℕ) (d : Datagram) (bytes : List ℕ) (b : Bool) (c e : RoundCounts) →
    drop i out ≡ d ∷ drop (i + 1) out → bytes ≡ d.bytes.items → e ≡ one_out d.to (length bytes) b c →
    all_out (drop (i + 1) out) (but_unsent e) ≡ all_out (drop i out) (but_unsent c)
out_more out i d bytes b c e rest is counted =
    ap (λ (x : RoundCounts). all_out (drop (i + 1) out) x)
    (ap but_unsent counted ∙ (out_so d.to (length bytes) b c ∙ ap (λ (n : List ℕ). one_out d.to (length n) true (but_unsent c)) is))
    ∙ ap (λ (ds : List Datagram). all_out ds (but_unsent c)) (sym rest)

-- what is lent is what was sent
pub out_on : (out lent : List Datagram) (c d : RoundCounts) → lent ≡ out → but_unsent d ≡ all_out lent (but_unsent c) →
    but_unsent d ≡ all_out out (but_unsent c)
out_on out lent c d l e = e ∙ ap (λ (ds : List Datagram). all_out ds (but_unsent c)) l

-- where none had come the same is counted
counts_same : {R : Type 0} {G : Ghosts R} (n : ℕ) (x y z : LoopState G) (c d e : RoundCounts) → CountsAll n x y c d → Same y z → e ≡ d →
    CountsAll n x z c e
counts_same {R} {G} n x y z c d e a b f =
    subst (λ (w : LoopState G). CountsAll n x w c e) (sym (same_is y z b)) (subst (λ (v : RoundCounts). CountsAll n x y c v) (sym f) a)

-- one datagram more, or none
pub counts_more : {R : Type 0} {G : Ghosts R} (n m : ℕ) (x y z : LoopState G) (c d e : RoundCounts) (had : Bool) → had ≡ true → m ≡ suc n →
    CountsAll n x y c d → CountsIf had y z d e → CountsAll m x z c e
counts_more n m x y z c d e true f is a b = subst (λ (k : ℕ). CountsAll k x z c e) (sym is) (y, d, a, b)
counts_more n m x y z c d e false f is a b = absurd (cc)

pub counts_no_more : {R : Type 0} {G : Ghosts R} (n : ℕ) (x y z : LoopState G) (c d e : RoundCounts) (had : Bool) → had ≡ false →
    CountsAll n x y c d → CountsIf had y z d e → CountsAll n x z c e
counts_no_more n x y z c d e false f a (b, g) = counts_same n x y z c d e a b g
counts_no_more n x y z c d e true f a b = absurd (cc)

-- a round: what came, what was sent again, and the clock
pub round_counts : {R : Type 0} {G : Ghosts R} (n : ℕ) (is_due : Bool) (me : ℕ) (w x y z v : LoopState G) (c d e : RoundCounts) →
    c ≡ nothing_of me → Same w x → CountsAll n x y c d → Resent y z → CountsTickedIf is_due z v d e → CountsRound me w v e
round_counts {R} {G} n is_due me w x y z v c d e begun same came again sent = record {
  datagrams = n;
  then = y;
  counted = d;
  came = subst (λ (p : LoopState G). CountsAll n p y (nothing_of me) d) (same_is w x same)
      (subst (λ (k : RoundCounts). CountsAll n x y k d) begun came);
  next = z;
  again = again;
  is_due = is_due;
  sent = sent;
}
