use Rattle.section_pairs.specs.SectionFaults.{IsApartSection, HasCrossing}
use Rattle.section_pairs.proofs.Merging.{joined, simple_joined}
use Rattle.section_pairs.proofs.findings.merged.Goals as goal

pub returns : goal.returns
returns c = λ S xs ys b m e h k. record {
  simple = simple_joined xs ys c.args.front.simple c.args.back.simple c.first_fault.result c.first_fault.ensures.ok
      c.first_fault.ensures.err h.simple k.simple;
  apart = joined IsApartSection HasCrossing xs ys c.args.front.apart c.args.back.apart c.first_fault-2.result
      c.first_fault-2.ensures.ok c.first_fault-2.ensures.err h.apart k.apart;
  pairs = c.joined.ensures S b m e h.pairs k.pairs;
}
