use Rattle.purse.proofs.answer.ReasonDisplay.fmt.Goals as goal

pub returns-in-UnknownKind-clause-writes : goal.returns-in-UnknownKind-clause-writes
returns-in-UnknownKind-clause-writes g c plain ok = rw c.in-UnknownKind.is (c.write-in-UnknownKind.ensures.writes plain ok)

pub returns-in-TooManyPlaces-clause-writes : goal.returns-in-TooManyPlaces-clause-writes
returns-in-TooManyPlaces-clause-writes g c plain ok = rw c.in-TooManyPlaces.is (c.write-in-TooManyPlaces.ensures.writes plain ok)
