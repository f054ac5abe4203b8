use Rattle.std.proofs.Common.{rules}
use Rattle.std.proofs.lemmas.List.Filters.{dedup_is}
use Rattle.section_slices.specs.Roundings.{is_same_spot}
use Rattle.section_slices.proofs.rounding.drop_repeats.Goals as goal

pub returns : goal.returns
returns c = search (rules, dedup_is is_same_spot)
