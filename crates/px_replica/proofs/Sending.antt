-- Messages to all, and their spelling one by one.
use Rattle.std.proofs.Common.{◌≡◌, ◌∙◌, ℕ, zero, suc, ◌+◌, ◌<◌, ◌≤◌, inl, inr, List, [], ◌∷◌, ◌++◌, refl, subst, ap, length, take, drop, arith}
use Rattle.std.proofs.Math.Seq.{take-append_seam}
use Rattle.std.proofs.lemmas.List.{length-append}
use Rattle.std.proofs.lemmas.Bool.{cases_lt}
use Rattle.px_model.specs.Node as node
use Rattle.px_model.specs.Node.{Envelope}
use Rattle.px_model.specs.Step.{to_all}
use Rattle.px_model.specs.Law.{Among}
use Rattle.px_model.specs.Fits.{Passes, SendsFit}
use Rattle.px_model.specs.Spelling.{Bytes}
use Rattle.px_model.specs.Seen.{message_of}
use Rattle.px_core.specs.declared.plan.Sends.{Sends}
use Rattle.px_core.specs.declared.plan.Sends.TheVariants as sends
use Rattle.px_core.specs.Seen.{sends_of}
use Rattle.px_wire.specs.declared.membership.Membership.{Membership}
use Rattle.px_wire.specs.Message.{Group, group, HasSpelling}
use Rattle.px_wire.specs.Members.{as_sent, Passing}
use Rattle.px_wire.specs.Sent.{is_command}
use Rattle.px_wire.proofs.Members.{sent_has}
use Rattle.px_replica.specs.Spelled.{IsSpelled, AreSpelled}
use Rattle.px_replica.specs.inner.Spelled.{envelope}
use Rattle.px_replica.specs.declared.datagram.Datagram.{Datagram}

pub are_more : (g : Group) (xs : List (Envelope Bytes)) (ds : List Datagram) (x : Envelope Bytes) (d : Datagram) →
    AreSpelled g xs ds → IsSpelled g x d → AreSpelled g (xs ++ x ∷ []) (ds ++ d ∷ [])
are_more g [] [] x d all one = (one, tt)
are_more g (y ∷ ys) (e ∷ es) x d all one = (all.0, are_more g ys es x d all.1 one)
are_more g [] (e ∷ es) x d all one = absurd all
are_more g (y ∷ ys) [] x d all one = absurd all

among_last : {X : Type 0} (xs : List X) (x : X) → Among (xs ++ x ∷ []) x
among_last [] x = inl refl
among_last (y ∷ ys) x = inr (among_last ys x)

among_front : {X : Type 0} (xs : List X) (x y : X) → Among xs y → Among (xs ++ x ∷ []) y
among_front [] x y a = absurd a
among_front (z ∷ zs) x y (inl e) = inl e
among_front (z ∷ zs) x y (inr a) = inr (among_front zs x y a)

the_last : (j k : ℕ) → j < suc k → k ≤ j → k ≡ j
the_last j k h l = omega arith

-- the message to each member is among those to all
pub among_all : (n me j : ℕ) (x : node.Message Bytes) → j < n → Among (to_all n me x) (envelope me j x)
among_all zero me j x h = absurd (omega arith)
among_all (suc k) me j x h =
    elim (cases_lt j k) [
      | inr e ↦ subst (λ (i : ℕ). Among (to_all (suc k) me x) (envelope me i x)) (the_last j k h e)
          (among_last (to_all k me x) (envelope me k x))
      | inl b ↦ among_front (to_all k me x) (envelope me k x) (envelope me j x) (among_all k me j x b)
    ]

-- each of them can be spelled
pub all_pass : (n me j : ℕ) (x : node.Message Bytes) → SendsFit (Passes is_command) n me (to_all n me x) → j < n →
    Passing n me j x
all_pass n me j x fits h = (fits (envelope me j x) (among_all n me j x h)).1

pub one_passes : (n me to : ℕ) (x : node.Message Bytes) →
    SendsFit (Passes is_command) n me (envelope me to x ∷ []) → Passing n me to x
one_passes n me to x fits = (fits (envelope me to x) (inl refl)).1

pub all_have : (m : Membership) (j : ℕ) (x : node.Message Bytes) → m.members ≤ 15 →
    SendsFit (Passes is_command) m.members m.me (to_all m.members m.me x) → j < m.members →
    HasSpelling (group m) m.me j (as_sent x)
all_have m j x few fits h = sent_has (group m) (envelope m.me j x) few (all_pass m.members m.me j x fits h)

-- as many as were written are all of them
pub front_whole : (n : ℕ) (xs ys : List ℕ) → n ≡ length xs → take n (xs ++ drop (length xs) ys) ≡ xs
front_whole n xs ys is =
    ap (λ (k : ℕ). take k (xs ++ drop (length xs) ys)) is ∙ take-append_seam xs (drop (length xs) ys)

-- ---- how many

to_all_length : (n me : ℕ) (x : node.Message Bytes) → length (to_all n me x) ≡ n
to_all_length zero me x = refl
to_all_length (suc n) me x =
    let rest : length (to_all n me x) ≡ n = to_all_length n me x in
    let all : length (to_all n me x ++ envelope me n x ∷ []) ≡ length (to_all n me x) + 1 = length-append (to_all n me x) (envelope me n x ∷ []) in
    omega (arith, rest, all)

pub are_length : (g : Group) (xs : List (Envelope Bytes)) (ds : List Datagram) → AreSpelled g xs ds → length ds ≡ length xs
are_length g [] [] a = refl
are_length g (x ∷ xs) (d ∷ ds) a = ap suc (are_length g xs ds a.1)
are_length g [] (d ∷ ds) a = absurd a
are_length g (x ∷ xs) [] a = absurd a

few_sent : (n me : ℕ) (s : Sends) → n ≤ 15 → length (sends_of n me s) ≤ 15
few_sent n me sends.Nothing h = omega arith
few_sent n me (sends.One to x) h = omega arith
few_sent n me (sends.All x) h = let e = to_all_length n me (message_of x) in omega (arith, e)

-- a step sends fifteen messages at most
pub few_handed_out : (g : Group) (n me : ℕ) (s : Sends) (ds old new : List Datagram) → n ≤ 15 →
    AreSpelled g (sends_of n me s) ds → new ≡ old ++ ds → length new ≤ length old + 15
few_handed_out g n me s ds old new few are is =
    let a : length ds ≡ length (sends_of n me s) = are_length g (sends_of n me s) ds are in
    let b = few_sent n me s few in
    let c : length new ≡ length old + length ds = ap length is ∙ length-append old ds in
    omega (arith, a, b, c)
