-- The first unfinished datagram that is due.
use Rattle.std.proofs.Common.{◌≡◌, ◌∙◌, ℕ, suc, ◌+◌, ◌<◌, true, List, ◌∷◌, ◌++◌, length, take, drop, get_or, set, ap, sym, arith}
use Rattle.std.specs.Prelude.{slice_set, slice_index_or, if◌then◌else◌}
use Rattle.std.proofs.lemmas.List.{drop_more, set_split}
use Rattle.px_packet.specs.Reassembling.{Unfinished, is_due, reported, due_after}

due_first : (now : ℕ) (u : Unfinished) (us : List Unfinished) → is_due now u ≡ true →
    due_after now (u ∷ us) ≡ reported now u ∷ us
due_first now u us h = ap (λ b. if b then reported now u ∷ us else u ∷ due_after now us) h

pub report_at : (us vs : List Unfinished) (now i : ℕ) (u v : Unfinished) → vs ≡ us → i < length vs →
    u ≡ slice_index_or vs i u → is_due now u ≡ true → v ≡ reported now u →
    take i us ++ due_after now (drop i us) ≡ due_after now us → slice_set vs i v ≡ due_after now us
report_at us vs now i u v same l read due e h =
    let inside : i < length us = omega (arith, l, ap length same) in
    let read_us : get_or us i u ≡ u = ap (λ xs. get_or xs i u) (sym same) ∙ sym read in
    let rest : drop i us ≡ u ∷ drop (i + 1) us =
    drop_more us i u inside ∙ ap (λ x. x ∷ drop (i + 1) us) read_us in
    let split : set us i v ≡ take i us ++ (v ∷ drop (suc i) us) = set_split us i v inside in
    let one : suc i ≡ i + 1 = omega arith in
    ap (λ xs. set xs i v) same ∙ split ∙ ap (λ x. take i us ++ (x ∷ drop (suc i) us)) e
    ∙ ap (λ k. take i us ++ (reported now u ∷ drop k us)) one
    ∙ ap (λ xs. take i us ++ xs) (sym (ap (due_after now) rest ∙ due_first now u (drop (i + 1) us) due)) ∙ h
