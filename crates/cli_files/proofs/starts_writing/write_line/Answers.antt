use Rattle.std.proofs.Common.{◌≡◌, ◌++◌, ◌∷◌, ◌∙◌, [], List, ℕ, ap, append_assoc, rules}
use Rattle.hex.specs.Hex.{encode_lower}
use Rattle.cli_files.specs.StartsTexts.{known_bytes}
use Rattle.cli_files.proofs.starts_writing.write_line.Goals as goal

pub returns : goal.returns
returns c =
    let text = c.args.text.now.items in
    let known : c.extend_from_slice-2.new.self.items ≡ known_bytes c.args.member.now = search rules in
    let digits : c.as_bytes.result.now ≡ encode_lower (known_bytes c.args.member.now) = c.as_bytes.ensures.value ∙ c.in_ok-encode.ensures ∙ ap encode_lower known in
    c.in_ok-push.ensures.items ∙ ap (λ (l : List ℕ). l ++ 10 ∷ []) (c.in_ok-extend_from_slice-3.ensures.items ∙ ap (λ (l : List ℕ). text ++ l) digits)
    ∙ append_assoc text (encode_lower (known_bytes c.args.member.now)) (10 ∷ [])
