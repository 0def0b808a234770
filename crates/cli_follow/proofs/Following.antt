-- What a control socket answers of a log leads from one configuration of the log to a later one.
use Rattle.std.proofs.Common.{◌≡◌, ℕ, zero, suc, ◌+◌, ◌-◌, ◌≤◌, min, true, false, List, [], ◌∷◌, ◌++◌}
use Rattle.std.proofs.Common.{Option, Some, Result, length, fold, inl, inr, sym, ap, subst, ◌∙◌, arith}
use Rattle.std.specs.Prelude.{if◌then◌else◌, nat_lt, option_map}
use Rattle.std.proofs.lemmas.List.{length-append}
use Rattle.std.proofs.lemmas.List.Sums.{fold_push}
use Rattle.std.proofs.lemmas.Bool.{cases_lt}
use Rattle.hex.specs.Hex.{IsBytes, encode_lower}
use Rattle.hex.specs.declared.error.FromHexError.{FromHexError}
use Rattle.hex.proofs.HexLemmas.{decode_of-encode_lower}
use Rattle.px_model.specs.Node as node
use Rattle.px_model.specs.Node.{Log}
use Rattle.px_model.specs.Step.{front}
use Rattle.px_model.specs.Spelling.{Bytes, spelled}
use Rattle.px_model.proofs.Plans.{below_front}
use Rattle.pf_config.specs.Map.{Configuration}
use Rattle.pf_scripts.specs.Lines.{ScriptLine, lines}
use Rattle.pf_node.specs.Applied.{after, entry_applied}
use Rattle.pf_node.proofs.Following.{after_next}
use Rattle.node_requests.specs.EntryLines.{digits_line, entry_line, entries_before}
use Rattle.cli_follow.specs.Following.{after_decoded, after_line, after_lines, AreBytes, Follows}
use Rattle.cli_follow.proofs.Texts.{line_of, IsWhole, whole_nothing, lines_more, whole_more}

-- a string is whole lines, and leads from a configuration at a place of a log to the one at p
record IsReachedBy (log : Log Bytes) (first : ℕ) (c : Configuration) (text : List ℕ) (p : ℕ) : Type 0 where
  whole : IsWhole text
  place : first + length (lines text) ≡ p
  configured : after log p ≡ Some (after_lines c text)

-- it leads to the configuration at the place where its lines end
abbrev Reaches : Log Bytes → ℕ → Configuration → List ℕ → Type 0
Reaches log first c text = after log (first + length (lines text)) ≡ Some (after_lines c text)

reached : (log : Log Bytes) (first : ℕ) (c : Configuration) (text : List ℕ) (p : ℕ) → IsReachedBy log first c text p →
    Reaches log first c text
reached log first c text p s = ap (λ (k : ℕ). after log k) s.place ∙ s.configured

-- one entry more
more : (log : Log Bytes) (first : ℕ) (c : Configuration) (text : List ℕ) (p : ℕ) (e : node.Entry Bytes) →
    IsBytes (spelled e) → log p ≡ Some e → IsReachedBy log first c text p →
    IsReachedBy log first c (text ++ digits_line (Some (spelled e))) (p + 1)
more log first c text p e h is s =
    let b = spelled e in
    let ls : lines (text ++ digits_line (Some b)) ≡ lines text ++ (line_of (encode_lower b) ∷ []) = lines_more text b h s.whole in
    let count : length (lines (text ++ digits_line (Some b))) ≡ length (lines text) + 1 =
    ap length ls ∙ length-append (lines text) (line_of (encode_lower b) ∷ []) in
    let moved : after_lines c (text ++ digits_line (Some b)) ≡ entry_applied (after_lines c text) e =
    ap (λ (l : List ScriptLine). fold after_line c l) ls
    ∙ fold_push after_line c (lines text) (line_of (encode_lower b))
    ∙ ap (λ (d : Result (List ℕ) FromHexError). after_decoded (after_lines c text) d) (decode_of-encode_lower b h) in
    record {
      whole = whole_more text b h s.whole;
      place = let there = s.place in omega (arith, count, there);
      configured = after_next log p (after_lines c text) _ e s.configured is moved;
    }

-- what a place of the log holds, as its line
line_at : (log : Log Bytes) (p : ℕ) (e : node.Entry Bytes) → log p ≡ Some e → digits_line (Some (spelled e)) ≡ entry_line log p
line_at log p e is = ap (λ (o : Option (node.Entry Bytes)). digits_line (option_map spelled o)) (sym is)

-- the lines of the places before an end
steps : (log : Log Bytes) (first : ℕ) (c : Configuration) (end n : ℕ) (text : List ℕ) → AreBytes log → n ≤ end →
    end ≤ front log → IsReachedBy log first c text (end - n) → Reaches log first c (entries_before log end n text)
steps log first c end zero text h within known s = reached log first c text (end - 0) s
steps log first c end (suc n) text h within known s =
    let p : ℕ = end - suc n in
    let here = below_front log p (omega arith) in
    let next : p + 1 ≡ end - n = omega arith in
    let on : IsReachedBy log first c (text ++ entry_line log p) (end - n) =
    subst (λ (k : ℕ). IsReachedBy log first c (text ++ entry_line log p) k) next
    (subst (λ (l : List ℕ). IsReachedBy log first c (text ++ l) (p + 1)) (line_at log p here.0 here.1)
    (more log first c text p here.0 (h p here.0 here.1) here.1 s)) in
    elim (nat_lt (length text) 262144) as (λ q. Reaches log first c
    (if q then entries_before log end n (text ++ entry_line log p) else text)) [
      | true ↦ steps log first c end n (text ++ entry_line log p) h (omega arith) known on
      | false ↦ reached log first c text p s
    ]

-- the lines up to an end
lines_to : (log : Log Bytes) (first end : ℕ) (c : Configuration) → AreBytes log → end ≤ front log →
    after log first ≡ Some c → Reaches log first c (entries_before log end (end - first) [])
lines_to log first end c h known a = elim (cases_lt end first) [
  | inl beyond ↦
      let none : end - first ≡ 0 = omega arith in
      let e : first + 0 ≡ first = omega arith in
      let nothing : Reaches log first c (entries_before log end 0 []) = ap (λ (k : ℕ). after log k) e ∙ a in
      subst (λ (n : ℕ). Reaches log first c (entries_before log end n [])) (sym none) nothing
  | inr within ↦
      let here : first ≡ end - (end - first) = omega arith in
      steps log first c end (end - first) [] h (omega arith) known (record {
        whole = whole_nothing;
        place = let e : first + 0 ≡ first = omega arith in e ∙ here;
        configured = ap (λ (k : ℕ). after log k) (sym here) ∙ a;
      })
]

-- what was taken of a string that a control socket answered
pub followed : (old new : Configuration) (from to : ℕ) (text : List ℕ) → to ≡ from + length (lines text) →
    new ≡ after_lines old text → Follows old new from to text
followed old new from to text place is log applied count h known a same =
    let within : min applied (from + min count 1000) ≤ front log = omega (arith, known) in
    let reach = lines_to log from (min applied (from + min count 1000)) old h within a in
    let mine : Reaches log from old text = subst (λ (t : List ℕ). Reaches log from old t) (sym same) reach in
    ap (λ (k : ℕ). after log k) place ∙ mine ∙ ap Some (sym is)
