use Rattle.pf_config.proofs.config.Config.table_names.Goals as goal

pub returns : goal.returns
returns c = rw (← c.tables.ensures.value) c.names_of.ensures
