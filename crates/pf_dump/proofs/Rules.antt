-- The rules of a path as they are written.
use Rattle.std.proofs.Common.{◌≡◌, ◌≢◌, ◌∙◌, sym, ap, refl, ℕ, zero, suc, ◌<◌, ◌≤◌, ◌-◌, Bool, true, false, List, [], ◌∷◌, ◌++◌, None, map, take, drop, length, append_assoc, arith, bytes_eq, codes, ⊎_elim, take-append-drop}
use Rattle.std.specs.List.{flat_map}
use Rattle.std.specs.Str.Pattern.{FindsTextPrefix, StripsPrefix}
use Rattle.std.proofs.lemmas.Bool.{cases_Bool}
use Rattle.std.proofs.lemmas.List.{append-nil}
use Rattle.std.proofs.lemmas.Slice.Eq.{bytes_eq-Decides}
use Rattle.pf_rules.specs.Names.{Name}
use Rattle.pf_rules.specs.Seen.{rule_of}
use Rattle.pf_rules.specs.declared.item.Item.{Item}
use Rattle.pf_show.specs.Shown.{shown_items, any_rule_line}
use Rattle.pf_config.specs.Map.{Configuration, Path, rules_at}
use Rattle.pf_dump.specs.Texts.{Text, text_paths}
use Rattle.pf_dump.specs.Seen.{text_of}
use Rattle.pf_dump.specs.declared.path_texts.PathText.{PathText}
use Rattle.pf_dump.specs.Written.{without_name, anchor_front, rules_behind, rules_text, text_at, texts_of}

-- the line of one rule
pub line_one : (x : Item) → shown_items (map rule_of (x ∷ [])) ≡ any_rule_line (rule_of x)
line_one x = append-nil (any_rule_line (rule_of x))

-- ---- a name at the front

front : (p rest : List ℕ) → take (length p) (p ++ rest) ≡ p
front [] rest = refl
front (x ∷ p) rest = ap (λ l. x ∷ l) (front p rest)

begins : (p s rest : List ℕ) → s ≡ p ++ rest → bytes_eq (take (length p) s) p ≡ true
begins p s rest e = (bytes_eq-Decides (take (length p) s) p).1 (ap (take (length p)) e ∙ front p rest)

whole : (p s : List ℕ) → bytes_eq (take (length p) s) p ≡ true → s ≡ p ++ drop (length p) s
whole p s h =
    sym (take-append-drop (length p) s)
    ∙ ap (λ l. l ++ drop (length p) s) ((bytes_eq-Decides (take (length p) s) p).0 h)

absent : (p s : List ℕ) → ((rest : List ℕ) → s ≢ p ++ rest) → bytes_eq (take (length p) s) p ≡ false
absent p s h =
    ⊎_elim (λ e. absurd (h (drop (length p) s) (whole p s e))) (λ e. e) (cases_Bool (bytes_eq (take (length p) s) p))

pub without_some : (name text rest : List ℕ) → StripsPrefix (FindsTextPrefix (anchor_front name)) text rest →
    without_name name text ≡ codes "anchor" ++ rest
without_some name text rest h =
    let p = anchor_front name in
    rw (begins p text (drop h.0 text) h.1.1) (ap (λ l. codes "anchor" ++ l) (sym (h.2 ∙ ap (λ m. drop m text) h.1.0)))

pub without_none : (name text : List ℕ) → FindsTextPrefix (anchor_front name) text None → without_name name text ≡ text
without_none name text h = rw (absent (anchor_front name) text h) refl

-- ---- depths

pub deeper : (d : ℕ) (hidden : Bool) (c : Configuration) (p : Path) → 0 < d →
    rules_behind (rules_text (d - 1) true c) c p hidden [] 1 (rules_at c p) ≡ rules_text d hidden c p
unfolding rules_text
deeper zero hidden c p h = absurd (omega (arith, h))
deeper (suc d) hidden c p h = let e : suc d - 1 ≡ d = omega arith in rw e refl

pub shallow : (d : ℕ) (hidden : Bool) (c : Configuration) (p : Path) → d ≡ 0 → rules_text d hidden c p ≡ []
unfolding rules_text
shallow zero hidden c p h = refl
shallow (suc d) hidden c p h = absurd (omega (arith, h))

-- ---- rulesets

paths_back : (c : Configuration) (ps : List Path) → map (λ (t : Text). t.path) (map (text_at c) ps) ≡ ps
paths_back c [] = refl
paths_back c (p ∷ ps) = ap (λ qs. p ∷ qs) (paths_back c ps)

paths_of : (ts : List PathText) → map (λ (t : Text). t.path) (map text_of ts) ≡ map (λ t. t.path.now) ts
paths_of [] = refl
paths_of (t ∷ ts) = ap (λ (ps : List Path). t.path.now ∷ ps) (paths_of ts)

-- the rulesets of a configuration are for its paths
pub paths_are : (c : Configuration) (ts : List PathText) → map text_of ts ≡ texts_of c → map (λ t. t.path.now) ts ≡ text_paths c
paths_are c ts h = sym (paths_of ts) ∙ ap (map (λ (t : Text). t.path)) h ∙ paths_back c (text_paths c)
