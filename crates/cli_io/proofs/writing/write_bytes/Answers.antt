-- what is gone from the rest was written
use Rattle.std.proofs.Common.{◌≡◌, ◌∙◌, ℕ, ◌-◌, List, ◌++◌, Option, None, Some, take, drop, length, sym, ap, append_assoc, take-append-drop}
use Rattle.std.proofs.lemmas.List.{take_rest}
use Rattle.std.proofs.KnownBytes.{Appends-trans}
use Rattle.std.specs.Io.KnownBytes.{Appends, Keeps}
use Rattle.cli_io.proofs.writing.write_bytes.Goals as goal
use Rattle.cli_io.proofs.writing.write_bytes.Goals.{in-Ok, in-Err}

kept : (a b c : Option (List ℕ)) (bs : List ℕ) → Appends a b bs → Keeps b c → Appends a c bs
kept None b c bs p q = tt
kept (Some x) None c bs p q = absurd p
kept (Some x) (Some y) None bs p q = absurd q
kept (Some x) (Some y) (Some z) bs p q = q ∙ p

moved : (all done rest : List ℕ) (n : ℕ) → all ≡ done ++ rest → all ≡ (done ++ take n rest) ++ take (length rest - n) (drop n rest)
moved all done rest n e =
    e ∙ ap (λ l. done ++ l) (sym (take-append-drop n rest)) ∙ sym (append_assoc done (take n rest) (drop n rest))
    ∙ ap (λ l. (done ++ take n rest) ++ l) (sym (take_rest rest n))

pub loop-preserved : goal.loop-preserved
loop-preserved g c =
    let (done, split, appended) = c.loop.invariant in
    let rest = c.loop.rest.now in
    elim c.match-write.branch [
      | in-Ok w ↦
          let n = w.in-Ok.n in
          let left : c.match-write.rest.now ≡ take (length rest - n) (drop n rest) = ap (λ r. r.now) w.rest-is in (
            done ++ take n rest,
            moved _ done rest n split ∙ ap (λ l. (done ++ take n rest) ++ l) (sym left),
            Appends-trans _ _ _ _ _ appended w.in-Ok.ensures.bytes,
          )
      | in-Err w ↦
          (done, split ∙ ap (λ r. done ++ r.now) (sym w.rest-is), kept _ _ _ _ appended w.in-Err.ensures.bytes)
    ]
