-- A request's bytes, and the answer that bytes are.
use Rattle.std.proofs.Common.{◌≡◌, ◌∙◌, ◌-◌, ℕ, true, List, ◌++◌, Option, ap, append_assoc, drop, length, map, subst, sym, take}
use Rattle.std.proofs.Math.Seq.{take-length}
use Rattle.std.proofs.lemmas.List.{length-drop}
use Rattle.std.specs.Prelude.{codes}
use Rattle.httparse.specs.Grammar.{ReadsResponse}
use Rattle.httparse.specs.Spans.{IsResponseOf, header_bytes}
use Rattle.httparse.specs.declared.spans.HeaderSpan.{HeaderSpan}
use Rattle.httparse.specs.declared.spans.ResponseSpans.{ResponseSpans}
use Rattle.cli_ask.specs.Replies.{IsAnswer, has_length, number_in}

-- the head as it is written, in two parts
pub head_is : (method target len body : List ℕ) →
    ((method ++ (codes " " ++ (target ++ codes " HTTP/1.1\r\nhost: pfx\r\nconnection: close\r\n"))) ++ (codes "content-length: " ++ (len ++ codes "\r\n\r\n"))) ++ body
    ≡ (method ++ codes " " ++ target ++ codes " HTTP/1.1\r\nhost: pfx\r\nconnection: close\r\ncontent-length: " ++ len ++ codes "\r\n\r\n") ++ body
head_is method target len body = simp append_assoc

-- what is behind a number of bytes, cut to its length
pub whole_rest : (n : ℕ) (bytes : List ℕ) → take (length bytes - n) (drop n bytes) ≡ drop n bytes
whole_rest n bytes = ap (λ (k : ℕ). take k (drop n bytes)) (sym (length-drop n bytes)) ∙ take-length (drop n bytes)

-- a head, and a body that is as long as its head gives
pub is_answer : (bytes body : List ℕ) (headers : List HeaderSpan) (r : ResponseSpans) (front applied : Option ℕ) → IsResponseOf bytes headers r →
    body ≡ drop r.len bytes → has_length (length body) (map (header_bytes bytes) (take r.headers headers)) ≡ true →
    front ≡ number_in (codes "pfx-front") (map (header_bytes bytes) (take r.headers headers)) →
    applied ≡ number_in (codes "pfx-applied") (map (header_bytes bytes) (take r.headers headers)) →
    IsAnswer bytes (record { code = r.code; body = body; front = front; applied = applied })
is_answer bytes body headers r front applied (head, at) same whole first then =
    record { head = head; reads = subst (λ (b : List ℕ). ReadsResponse bytes head b) (sym same) at.reads; whole = rw (sym at.fields) whole; is = (let e = at.code in let f = at.fields in cc) }
