-- Pulling the next tokens leaves the statement as it is.
use Rattle.std.proofs.Common.{◌≡◌, ℕ, ◌&&◌, Bool, true, false, List, [], ◌∷◌, ◌++◌, map, Option, Some, None, refl, ap, ◌==◌}
use Rattle.pf_tokens.specs.Tokens.{Token, Word, Quoted, Macro, Mark, Newline, Bad, Placed, plain_tokens}
use Rattle.pf_tokens.specs.Macros.{Definition, text_of, unwritten, text_tokens, replaced_token, replaced, depth_after, depth_behind, ends}
use Rattle.pf_tokens.specs.Flow.{statement_raw, ending_raw, statement_left, ending_left}
use Rattle.pf_tokens.specs.inner.Flow.{pulled_raw, pulled_first, pulled}

macro_stays : (p : Placed) (name : List ℕ) (depth : ℕ) → p.token ≡ Macro name → ends depth p ≡ false
macro_stays p name depth e = rw e (both p.written)
  where
    both : (b : Bool) → (b && false && (depth == 0)) ≡ false
    both true = refl
    both false = refl

-- a token is itself, or it ends no statement and is replaced by tokens that don't either
data IsReplaced (p : Placed) : List Placed → Type 0 where
  Itself : IsReplaced p (p ∷ [])
  Others : (stays : (depth : ℕ) → ends depth p ≡ false) (line : ℕ) (ts : List Placed) → IsReplaced p (map (unwritten line) ts)

text_cases : (p : Placed) (o : Option (List ℕ)) → ((depth : ℕ) → ends depth p ≡ false) → IsReplaced p (text_tokens p o)
text_cases p None stays = Itself
text_cases p (Some text) stays = Others stays p.line (plain_tokens text)

token_cases : (ds : List Definition) (p : Placed) (t : Token) → p.token ≡ t → IsReplaced p (replaced_token ds p t)
token_cases ds p (Word text) e = Itself
token_cases ds p (Quoted text) e = Itself
token_cases ds p (Macro name) e = text_cases p (text_of ds name) (λ depth. macro_stays p name depth e)
token_cases ds p (Mark symbol) e = Itself
token_cases ds p Newline e = Itself
token_cases ds p Bad e = Itself

replaced_cases : (ds : List Definition) (defining : Bool) (p : Placed) → IsReplaced p (replaced ds defining p)
replaced_cases ds true p = Itself
replaced_cases ds false p = token_cases ds p p.token refl

-- ---- tokens that are replaced already

left_others : (ds : List Definition) (defining : Bool) (line depth : ℕ) (ts raw : List Placed) → statement_left ds defining depth (map (unwritten line) ts) raw ≡ map (unwritten line) ts ++ statement_raw ds defining (depth_behind depth (map (unwritten line) ts)) raw
left_others ds defining line depth [] raw = refl
left_others ds defining line depth (t ∷ ts) raw = ap (λ (more : List Placed). unwritten line t ∷ more) (left_others ds defining line (depth_after depth t.token) ts raw)

ending_others : (ds : List Definition) (defining : Bool) (line depth : ℕ) (ts raw : List Placed) → ending_left ds defining depth (map (unwritten line) ts) raw ≡ ending_raw ds defining (depth_behind depth (map (unwritten line) ts)) raw
ending_others ds defining line depth [] raw = refl
ending_others ds defining line depth (t ∷ ts) raw = ending_others ds defining line (depth_after depth t.token) ts raw

-- ---- pulling

-- what is pulled leaves the statement and its end
pub record Keeps (ds : List Definition) (defining : Bool) (old new : List Placed × List Placed) : Type 0 where
  pub statement : (depth : ℕ) → statement_left ds defining depth new.0 new.1 ≡ statement_left ds defining depth old.0 old.1
  pub ending : (depth : ℕ) → ending_left ds defining depth new.0 new.1 ≡ ending_left ds defining depth old.0 old.1

pull_one : (ds : List Definition) (defining : Bool) (p : Placed) (ps rs : List Placed) (others : List Placed × List Placed) → replaced ds defining p ≡ rs → IsReplaced p rs → Keeps ds defining ([], ps) others → Keeps ds defining ([], p ∷ ps) (pulled_first rs ps others)
pull_one ds defining p ps _ others e Itself keeps = record {
  statement = λ depth. rw e refl;
  ending = λ depth. rw e refl;
}
pull_one ds defining p ps _ others e (Others stays line []) keeps = record {
  statement = λ depth. rw (stays depth, e) (keeps.statement depth);
  ending = λ depth. rw (stays depth, e) (keeps.ending depth);
}
pull_one ds defining p ps _ others e (Others stays line (t ∷ ts)) keeps = record {
  statement = λ depth. rw (stays depth, e) (left_others ds defining line depth (t ∷ ts) ps);
  ending = λ depth. rw (stays depth, e) (ending_others ds defining line depth (t ∷ ts) ps);
}

pub pulled_raw_keeps : (ds : List Definition) (defining : Bool) (raw : List Placed) → Keeps ds defining ([], raw) (pulled_raw ds defining raw)
pulled_raw_keeps ds defining [] = record { statement = λ depth. refl; ending = λ depth. refl }
pulled_raw_keeps ds defining (p ∷ ps) = pull_one ds defining p ps (replaced ds defining p) (pulled_raw ds defining ps) refl (replaced_cases ds defining p) (pulled_raw_keeps ds defining ps)

pub pulled_keeps : (ds : List Definition) (defining : Bool) (ts raw : List Placed) → Keeps ds defining (ts, raw) (pulled ds defining ts raw)
pulled_keeps ds defining [] raw = pulled_raw_keeps ds defining raw
pulled_keeps ds defining (t ∷ ts) raw = record { statement = λ depth. refl; ending = λ depth. refl }
