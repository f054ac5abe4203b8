use Rattle.byu_text.proofs.FieldLaws.{coordinate_columns, coordinate_one}
use Rattle.byu_text.proofs.laws.coordinates_have_one_text.Goals as goal

pub returns-clause-columns : goal.returns-clause-columns
returns-clause-columns c = coordinate_columns

pub returns-clause-one : goal.returns-clause-one
returns-clause-one c = coordinate_one
