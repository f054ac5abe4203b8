use Rattle.byu_text.proofs.FieldLaws.{number_columns, number_one}
use Rattle.byu_text.proofs.laws.numbers_have_one_text.Goals as goal

pub returns-clause-columns : goal.returns-clause-columns
returns-clause-columns c = number_columns

pub returns-clause-one : goal.returns-clause-one
returns-clause-one c = number_one
