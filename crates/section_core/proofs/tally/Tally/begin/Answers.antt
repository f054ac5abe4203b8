use Rattle.std.proofs.Common.{refl}
use Rattle.section_core.proofs.TallyLemmas.{begun_tallies}
use Rattle.section_core.proofs.tally.Tally.begin.Goals as goal

pub returns : goal.returns
returns c f t = begun_tallies f f.objects c.args.self.now _ t t.objects refl refl refl refl refl refl
