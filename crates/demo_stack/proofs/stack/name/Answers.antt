use Rattle.std.proofs.Common.{◌≡◌, rules, ap, ◌∙◌}
use Rattle.fku_types.specs.Names.{is_name}
use Rattle.demo_stack.specs.Demo.{name}
use Rattle.demo_stack.proofs.Names.{name_is}
use Rattle.demo_stack.proofs.stack.name.Goals as goal

pub unwrap-requires : goal.unwrap-requires
unwrap-requires c =
    let e : c.deref.result.now ≡ name c.args.index = search rules in
    c.of.ensures.rule.1 (ap is_name e ∙ name_is c.args.index c.requires)
