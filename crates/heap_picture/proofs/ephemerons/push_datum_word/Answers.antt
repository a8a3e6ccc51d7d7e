use Rattle.heap_picture.proofs.ephemerons.push_datum_word.Goals as goal

pub returns-in-Nothing : goal.returns-in-Nothing
returns-in-Nothing c = rw c.in-Nothing.is c.push_text-in-Nothing.ensures
