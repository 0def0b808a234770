use Rattle.pfx_laws.proofs.Changed.{added, replaced, deleted, emptied, rules_flushed, tables_flushed, all_flushed}
use Rattle.pfx_laws.proofs.maps.changes_keep_a_map.Goals as goal

pub returns : goal.returns
returns c = record {
  add = λ conf p name list h k. added conf p name list h k;
  replace = λ conf p name list h k. replaced conf p name list h k;
  delete = λ conf p name list h k. deleted conf p name list h k;
  flush_table = λ conf p name h k. emptied conf p name h k;
  flush_rules = λ conf p h k. rules_flushed conf p h k;
  flush_tables = λ conf p h k. tables_flushed conf p h k;
  flush_all = λ conf p h k. all_flushed conf p h k;
}
