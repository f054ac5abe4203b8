use Rattle.std.proofs.Common.{◌≡◌, rules, ap, ◌∙◌}
use Rattle.fku_types.specs.Names.{is_name}
use Rattle.section_slices.specs.Densified.{middle_name}
use Rattle.section_slices.proofs.Names.{name_is}
use Rattle.section_slices.proofs.middles.middle_name.Goals as goal

pub unwrap-requires : goal.unwrap-requires
unwrap-requires c =
    let e : c.deref.result.now ≡ middle_name c.args.place = search rules in
    c.of.ensures.rule.1 (ap is_name e ∙ name_is c.args.place c.requires)
