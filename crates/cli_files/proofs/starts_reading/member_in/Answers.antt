-- digits of a member are decoded to its bytes, and those to its numbers
use Rattle.std.proofs.Common.{ap, subst, ◌∙◌, ◌≡◌, ℕ, List, Some}
use Rattle.std.specs.Prelude.{Result, Ok, Err, MatchResult}
use Rattle.hex.specs.declared.error.FromHexError.{FromHexError}
use Rattle.cli_files.proofs.StartsLines.{decoded, number_of, salt_of, birth_of, made}
use Rattle.cli_files.proofs.starts_reading.member_in.Goals as goal

pub returns-in_err-ok : goal.returns-in_err-ok
returns-in_err-ok c m fits e =
    let P : Result (List ℕ) FromHexError → Type 0 = λ r. MatchResult r
    (λ bytes. (c.decode_to_slice.result ≡ Ok tt) × (c.decode_to_slice.new.out ≡ bytes))
    (λ err. c.decode_to_slice.result ≡ Err err) in
    let both = subst P (decoded m c.args.digits.now e) c.decode_to_slice.ensures.value in
    let none = rw both.0 at c.in_err-ok.ensures.value in
    cc

pub returns : goal.returns
returns c m fits e =
    let P : Result (List ℕ) FromHexError → Type 0 = λ r. MatchResult r
    (λ bytes. (c.decode_to_slice.result ≡ Ok tt) × (c.decode_to_slice.new.out ≡ bytes))
    (λ err. c.decode_to_slice.result ≡ Err err) in
    let both = subst P (decoded m c.args.digits.now e) c.decode_to_slice.ensures.value in
    let b = c.decode_to_slice.new.out in
    ap Some (made m c.from_be_bytes-number.result c.from_be_bytes-salt.result c.from_be_bytes-birth.result
    (c.from_be_bytes-number.ensures ∙ number_of m b fits both.1) (c.from_be_bytes-salt.ensures ∙ salt_of m b fits both.1)
    (c.from_be_bytes-birth.ensures ∙ birth_of m b fits both.1))
