use Rattle.std.proofs.Common.{◌≡◌, ◌+◌, map, drop}
use Rattle.nft_rules.specs.Seen.{set_name_of, named_set_of}
use Rattle.nft_text.specs.Texts.{set_index}
use Rattle.nft_text.proofs.labels.set_index.Given as goal

abbrev pub invariant-loop-set : goal.invariant-loop-set
invariant-loop-set l = record {
  whole : l.index + set_index (set_name_of l.name) (map named_set_of (drop l.set-index l.sets)) ≡ set_index (set_name_of l.fn.name) (map named_set_of l.fn.sets);
  at : l.index ≡ l.set-index;
}
