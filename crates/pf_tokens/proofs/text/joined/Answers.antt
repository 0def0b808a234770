use Rattle.std.proofs.Common.{◌≡◌, ◌∙◌, ◌+◌, ◌∷◌, ◌++◌, [], List, ℕ, ap, sym, drop, length, append_assoc, arith, length-append}
use Rattle.pf_tokens.specs.inner.Joined.{joined, joints}
use Rattle.pf_tokens.proofs.Joining.{joined_pair, joined_stays, joints_pair, joints_stays}
use Rattle.pf_tokens.proofs.text.joined.Goals as goal

pub loop-first-preserved-then-continues : goal.loop-first-preserved-then-continues
loop-first-preserved-then-continues c =
    let pair = sym c.continues.ensures ∙ c.if-continues.true in
    let others = c.in-Some.others.now in
    let at = length c.loop-first.bytes.items in
    let stays : joined c.loop-first.rest.now ≡ joined (drop 1 others) = ap joined c.in-Some.ensures.cases.0 ∙ joined_pair c.in-Some.first.now others pair in
    let goes : joints at c.loop-first.rest.now ≡ at ∷ joints at (drop 1 others) = ap (joints at) c.in-Some.ensures.cases.0 ∙ joints_pair at c.in-Some.first.now others pair in
    let counted : c.len.result ≡ at = omega (arith, c.len.ensures, c.loop-first.bytes.ok.0) in
    record {
      bytes = rw (c.split_at.ensures.back, ← stays) c.loop-first.invariant.bytes;
      steps = rw (c.split_at.ensures.back, c.in_ok-push.ensures.items, counted) (append_assoc c.loop-first.steps.items (at ∷ []) (joints at (drop 1 others)) ∙ ap (λ (ts : List ℕ). c.loop-first.steps.items ++ ts) (sym goes) ∙ c.loop-first.invariant.steps);
    }

pub loop-first-preserved : goal.loop-first-preserved
loop-first-preserved c =
    let single = sym c.continues.ensures ∙ c.if-continues.false in
    let b = c.in-Some.first.now in
    let others = c.in-Some.others.now in
    let at = length c.loop-first.bytes.items in
    let stays : joined c.loop-first.rest.now ≡ b ∷ joined others = ap joined c.in-Some.ensures.cases.0 ∙ joined_stays b others single in
    let goes : joints at c.loop-first.rest.now ≡ joints (at + 1) others = ap (joints at) c.in-Some.ensures.cases.0 ∙ joints_stays at b others single in
    let longer : length c.push-else-continues.new.self.items ≡ at + 1 = ap (λ (bytes : List ℕ). length bytes) c.in_ok-push-2.ensures.items ∙ length-append c.loop-first.bytes.items (b ∷ []) in
    record {
      bytes = rw c.in_ok-push-2.ensures.items (append_assoc c.loop-first.bytes.items (b ∷ []) (joined others) ∙ ap (λ (ts : List ℕ). c.loop-first.bytes.items ++ ts) (sym stays) ∙ c.loop-first.invariant.bytes);
      steps = rw (longer, ← goes) c.loop-first.invariant.steps;
    }
