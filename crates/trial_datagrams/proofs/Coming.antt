-- What went over a socket in memory.
use Rattle.std.proofs.Common.{◌≡◌, ◌∙◌, ℕ, ◌+◌, ◌<◌, List, [], ◌∷◌, ◌++◌, Some, None, Bool, true, false, ap, refl, map, take, length, sym, subst, slice_set}
use Rattle.std.specs.Prelude.{IfSome, if◌then◌else◌}
use Rattle.std.specs.declared.net.socket_addr.SocketAddr.{SocketAddr}
use Rattle.std.proofs.lemmas.List.{take_more_set, map-set, length-map, append-nil}
use Rattle.px_transport.specs.Wires.{Adds}
use Rattle.node_udp.specs.Sockets.{SocketEvent, Came, Went}
use Rattle.trial_datagrams.specs.MemorySockets.{WentOver, came_in, came_of, kept_of, went_in, went_of}
use Rattle.trial_datagrams.specs.declared.memory_socket.MemorySocket.{MemorySocket}

came_append : (es fs : List SocketEvent) → came_in (es ++ fs) ≡ came_in es ++ came_in fs
came_append [] fs = refl
came_append (Came from b ∷ es) fs = ap (λ (x : List (SocketAddr × List ℕ)). (from, b) ∷ x) (came_append es fs)
came_append (Went to b ∷ es) fs = came_append es fs

went_append : (es fs : List SocketEvent) → went_in (es ++ fs) ≡ went_in es ++ went_in fs
went_append [] fs = refl
went_append (Came from b ∷ es) fs = went_append es fs
went_append (Went to b ∷ es) fs = ap (λ (x : List (SocketAddr × List ℕ)). (to, b) ∷ x) (went_append es fs)

-- one more came, as it is written in its place
pub came_more : {V X : Type 0} (f : V → X) (xs : List V) (i : ℕ) (d : V) (x : X) → i < length xs → x ≡ f d →
    take (i + 1) (map f (slice_set xs i d)) ≡ take i (map f xs) ++ x ∷ []
came_more {V} {X} f xs i d x h e =
    ap (λ (ys : List X). take (i + 1) ys) (map-set f xs i d) ∙ take_more_set (map f xs) i (f d) (rw (length-map xs f) h)
    ∙ ap (λ (y : X). take i (map f xs) ++ y ∷ []) (sym e)

pub went_came : (s s' : MemorySocket) (from : SocketAddr) (d : List ℕ) → came_of s' ≡ came_of s ++ (from, d) ∷ [] →
    went_of s' ≡ went_of s → Adds (WentOver s) (WentOver s') (Came from d ∷ [])
went_came s s' from d g h es r = record {
  came = came_append es (Came from d ∷ []) ∙ ap (λ (x : List (SocketAddr × List ℕ)). x ++ (from, d) ∷ []) r.came ∙ sym g;
  went = subst (λ o. IfSome o (λ all. went_in (es ++ Came from d ∷ []) ≡ all)) (sym h)
      (subst (λ (x : List (SocketAddr × List ℕ)). IfSome (went_of s) (λ all. x ≡ all))
      (sym (went_append es (Came from d ∷ []) ∙ append-nil (went_in es))) r.went);
}

none_came : (es : List SocketEvent) (to : SocketAddr) (d : List ℕ) → came_in (es ++ Went to d ∷ []) ≡ came_in es
none_came es to d = came_append es (Went to d ∷ []) ∙ append-nil (came_in es)

kept_more : (b : Bool) (s s' h h' : List (SocketAddr × List ℕ)) (x : SocketAddr × List ℕ) → s' ≡ s ++ x ∷ [] → h' ≡ h ++ x ∷ [] →
    IfSome (if b then Some s else None) (λ all. h ≡ all) → IfSome (if b then Some s' else None) (λ all. h' ≡ all)
kept_more true s s' h h' x e f r = f ∙ ap (λ (y : List (SocketAddr × List ℕ)). y ++ x ∷ []) r ∙ sym e
kept_more false s s' h h' x e f r = r

-- it was handed one more, and has it
pub went_kept : (s s' : MemorySocket) (to : SocketAddr) (d : List ℕ) → came_of s' ≡ came_of s → s'.is_whole ≡ s.is_whole →
    kept_of s' ≡ kept_of s ++ (to, d) ∷ [] → Adds (WentOver s) (WentOver s') (Went to d ∷ [])
went_kept s s' to d g whole k es r = record {
  came = none_came es to d ∙ r.came ∙ sym g;
  went = subst (λ b. IfSome (if b then Some (kept_of s') else None) (λ all. went_in (es ++ Went to d ∷ []) ≡ all)) (sym whole)
      (kept_more s.is_whole (kept_of s) (kept_of s') (went_in es) (went_in (es ++ Went to d ∷ [])) (to, d) k
      (went_append es (Went to d ∷ [])) r.went);
}

-- it was handed one more, and has it no longer
pub went_lost : (s s' : MemorySocket) (to : SocketAddr) (d : List ℕ) → came_of s' ≡ came_of s → s'.is_whole ≡ false →
    Adds (WentOver s) (WentOver s') (Went to d ∷ [])
went_lost s s' to d g lost es r = record {
  came = none_came es to d ∙ r.came ∙ sym g;
  went = subst (λ b. IfSome (if b then Some (kept_of s') else None) (λ all. went_in (es ++ Went to d ∷ []) ≡ all)) (sym lost) tt;
}
