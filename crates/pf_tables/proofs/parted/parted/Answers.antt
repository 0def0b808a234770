use Rattle.std.proofs.Common.{◌≡◌, ◌++◌, ◌∷◌, [], sym, ◌∙◌, ap, take, drop, subst, refl}
use Rattle.std.specs.List.{prefix_len}
use Rattle.pf_tables.specs.declared.part.Part.{Part}
use Rattle.pf_tables.specs.Tables.{is_v6, is_of}
use Rattle.pf_tables.specs.Parts.{AreBlocks}
use Rattle.pf_tables.proofs.Parting.{Parted, one_part_more}
use Rattle.pf_tables.proofs.parted.parted.Goals as goal

pub loop-rest-init : goal.loop-rest-init
loop-rest-init c = rw c.new-parts.ensures.items (record { whole = refl; apart = tt; ordered = c.requires; blocks = tt })

pub loop-rest-preserved : goal.loop-rest-preserved
loop-rest-preserved c =
    let e = c.first-item.result in
    let rest = c.loop-rest.rest.now in
    let all = c.args.entries.now in
    let parts = c.loop-rest.parts.items in
    let p : Part = c.in_ok-part_with.field-0 in
    let v : p.v6 ≡ is_v6 e.prefix.base = c.in_ok-part_with.ensures.family ∙ c.is_v6-v6.ensures ∙ ap is_v6 c.base.ensures.value in
    let l : p.len ≡ e.prefix.len = c.in_ok-part_with.ensures.len ∙ c.len-len.ensures.value in
    let v0 : c.is_v6-v6.result ≡ is_v6 e.prefix.base = c.is_v6-v6.ensures ∙ ap is_v6 c.base.ensures.value in
    let count = c.front_len.ensures.value ∙ ap (λ x. prefix_len (is_of x c.len-len.result) rest) v0 ∙ ap (λ x. prefix_len (is_of (is_v6 e.prefix.base) x) rest) c.len-len.ensures.value in
    let front = c.in_ok-part_with.ensures.entries ∙ c.split_at.ensures.front in
    let i : p.entries.items ≡ take (prefix_len (is_of (is_v6 e.prefix.base) e.prefix.len) rest) rest = front ∙ ap (λ n. take n rest) count in
    let b : AreBlocks p.entries.items = subst AreBlocks (sym front) c.front_len.ensures.blocks in
    let more = one_part_more parts p e rest all c.in-len1-up.len_at_least c.first-item.is c.loop-rest.invariant v l i b in
    let back = c.split_at.ensures.back ∙ ap (λ n. drop n rest) count in
    subst (λ x. Parted x c.split_at.result.1.now all) (sym c.in_ok-push.ensures.items) (subst (λ y. Parted (parts ++ p ∷ []) y all) (sym back) more)
