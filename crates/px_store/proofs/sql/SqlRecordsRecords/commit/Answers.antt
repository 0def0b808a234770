use Rattle.px_store.proofs.sql.SqlRecordsRecords.commit.Goals as goal

pub returns-clause-ok : goal.returns-clause-ok
returns-clause-ok g c = λ honest. (c.make.ensures.changed honest).ok

pub returns-clause-memory : goal.returns-clause-memory
returns-clause-memory g c = λ honest is. ((c.make.ensures.changed honest).memory is).same

pub returns-clause-stop : goal.returns-clause-stop
returns-clause-stop g c = λ honest. (c.make.ensures.changed honest).stop

pub returns-clause-rows : goal.returns-clause-rows
returns-clause-rows g c = λ honest none. c.make.ensures.rows honest none (c.requires.rises (c.make.ensures.was honest))
