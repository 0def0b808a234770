-- where nothing is learned the front is
use Rattle.std.proofs.Common.{ap, sym, refl, rules, ◌∙◌, ◌≡◌, Option, Some, None, true, false, option_map, is_some}
use Rattle.std.specs.Prelude.{is_none}
use Rattle.px_model.specs.Node as node
use Rattle.px_model.specs.Spelling.{Bytes}
use Rattle.px_core.proofs.Front.{here}
use Rattle.px_core.specs.Logs.{learned_in}
use Rattle.px_core.proofs.settling.next_front.Goals as goal

none_mapped : {A B : Type 0} (f : A → B) (r : Option A) → is_none r ≡ true → is_some (option_map f r) ≡ false
none_mapped f None is = refl
none_mapped f (Some x) is = let e = is in cc

pub returns-then-is_none : goal.returns-then-is_none
returns-then-is_none c =
    here (learned_in c.args.learned.now) c.loop-position.position c.loop-position.invariant
    (ap (λ (o : Option (node.Entry Bytes)). is_some o) (sym c.learned_at.ensures) ∙ none_mapped _ c.learned_at.result (search rules))
