-- A front of a string is no longer than the string.
use Rattle.std.proofs.Common.{◌≡◌, ◌==◌, ◌≤◌, ℕ, List, length, not, subst, sym}
use Rattle.std.proofs.lemmas.List.Sums.{prefix_len-le-length}
use Rattle.cli_ask.specs.Answers.{line_len, word_len}

pub line_len_le : (text : List ℕ) (n : ℕ) → n ≡ line_len text → n ≤ length text
line_len_le text n e = subst (λ (k : ℕ). k ≤ length text) (sym e) (prefix_len-le-length (λ b. not (b == 10)) text)

pub word_len_le : (text : List ℕ) (n : ℕ) → n ≡ word_len text → n ≤ length text
word_len_le text n e = subst (λ (k : ℕ). k ≤ length text) (sym e) (prefix_len-le-length (λ b. not (b == 32)) text)
