use Rattle.std.proofs.Common.{arith}
use Rattle.pfx_laws.proofs.Labels.{chains_apart_by_position, not_fixed, not_letter, chains_apart, sets_apart_by_position, sets_apart}
use Rattle.pfx_laws.proofs.nftables.labels_are_unambiguous.Goals as goal

pub returns : goal.returns
returns c = record {
  positions = chains_apart_by_position;
  chains = chains_apart;
  fixed = λ p q d r n few small. (
    not_fixed p q d r n 103 _ few small (not_letter d 103 (λ e. omega (arith, e)) (λ e. omega (arith, e))),
    not_fixed p q d r n 114 _ few small (not_letter d 114 (λ e. omega (arith, e)) (λ e. omega (arith, e))),
    not_fixed p q d r n 109 _ few small (not_letter d 109 (λ e. omega (arith, e)) (λ e. omega (arith, e))),
  );
  set_positions = sets_apart_by_position;
  sets = sets_apart;
}
