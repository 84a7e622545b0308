use Rattle.race_tests.proofs.lent.write.Goals as goal

pub write_rows-requires-clause-room : goal.write_rows-requires-clause-room
write_rows-requires-clause-room g c = c.requires.room
