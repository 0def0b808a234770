-- The lines of a batch, one after another.
use Rattle.std.proofs.Common.{◌≡◌, ◌∙◌, ◌++◌, ◌&&◌, ℕ, Bool, true, List, [], ◌∷◌, map, ap, sym, subst, refl, arith}
use Rattle.std.proofs.Common.{append_assoc, append-nil}
use Rattle.std.specs.List.{All, flat_map, list_all}
use Rattle.std.proofs.lemmas.Grind.{common_steps}
use Rattle.std.proofs.lemmas.List.{map-append}
use Rattle.std.proofs.lemmas.List.Concat.{flat_map-append}
use Rattle.std.proofs.lemmas.List.Elements.{All-append}
use Rattle.std.proofs.lemmas.List.Folds.{list_all-append}
use Rattle.cli_io.specs.declared.status.Status.{Status}
use Rattle.cli_follow.specs.Exchanges.{Adds}
use Rattle.pfx.specs.Batches.{LineEvent, Line, RanLine, IsLine, is_good, is_good_line, run_of, list_of, text_of}
use Rattle.pfx.specs.Runs.{RunEvent}

-- the lines before those that are left were run, and all ended as they are marked, or not
pub record RanTo (old now : List RunEvent → Type 0) (lines left : List (List ℕ)) (are_good : Bool) : Type 0 where
  pub ends : List LineEvent
  pub are : map text_of ends ++ left ≡ lines
  pub all : All IsLine ends
  pub made : Adds old now (flat_map run_of ends)
  pub good : are_good ≡ list_all is_good_line ends

pub ran_none : (old : List RunEvent → Type 0) (lines left : List (List ℕ)) → lines ≡ left →
    RanTo old old lines left true
ran_none old lines left e = record {
  ends = [];
  are = sym e;
  all = grind arith;
  made = λ es h. subst old (sym (append-nil es)) h;
  good = refl;
}

pub ran_one : {old now next : List RunEvent → Type 0} {lines before left : List (List ℕ)} {good good_now : Bool}
    {line : List ℕ} {ending : Status} → RanTo old now lines before good → before ≡ line ∷ left →
    RanLine now next ending → good_now ≡ (good && is_good line ending) → RanTo old next lines left good_now
ran_one {old} {now} {next} {lines} {before} {left} {good} {good_now} {line} {ending} r e l h =
    let (run, ends, made) = l in
    let it : List LineEvent = Line line run ending ∷ [] in
    let one : All IsLine it = grind (arith, common_steps) in
    let flat : flat_map run_of (r.ends ++ it) ≡ flat_map run_of r.ends ++ list_of run =
    flat_map-append run_of r.ends it ∙ ap (λ x. flat_map run_of r.ends ++ x) (append-nil (list_of run)) in
    record {
      ends = r.ends ++ it;
      are = ap (λ x. x ++ left) (map-append text_of r.ends it) ∙ append_assoc (map text_of r.ends) (line ∷ []) left
          ∙ ap (λ x. map text_of r.ends ++ x) (sym e) ∙ r.are;
      all = All-append IsLine r.ends it r.all one;
      made = λ es x. subst next (append_assoc es (flat_map run_of r.ends) (list_of run)
          ∙ ap (λ y. es ++ y) (sym flat)) (made (es ++ flat_map run_of r.ends) (r.made es x));
      good = h ∙ ap (λ b. b && is_good line ending) r.good ∙ grind (arith, common_steps, list_all-append);
    }
