use Rattle.std.proofs.Common.{◌∙◌, List, sym, subst}
use Rattle.std.specs.List.{AllZip}
use Rattle.section_core.specs.Parts.{Parts}
use Rattle.surface_core.specs.Surfaces.{IsBuiltWith}
use Rattle.surface_core.specs.Objects.{pair_lists, IsBounded}
use Rattle.surface_core.specs.Caps.{AreCapLists}
use Rattle.surface_core.proofs.ObjectFacts.{held_pairs, objects_are}
use Rattle.surface_core.proofs.ObjectSteps.{counts_numbered}
use Rattle.surface_core.proofs.objects.assemble_all.Goals as goal

pub assemble_each-requires-clause-pairs : goal.assemble_each-requires-clause-pairs
assemble_each-requires-clause-pairs g c =
    held_pairs c.args.objects.now c.items.result.now (pair_lists c.args.lists.now) c.items.ensures.parts
    c.items.ensures.under c.requires.pairs

pub assemble_each-requires-clause-caps : goal.assemble_each-requires-clause-caps
assemble_each-requires-clause-caps g c =
    subst (λ (objects : List Parts). AreCapLists g.C.CapRule.capping objects (pair_lists c.args.lists.now)
    c.args.caps.now) (sym (objects_are c.args.objects.now c.items.result.now c.items.ensures.parts
    c.items.ensures.under)) c.requires.caps

pub join_built-requires-clause-bounded : goal.join_built-requires-clause-bounded
join_built-requires-clause-bounded g c =
    subst (λ (objects : List Parts). AllZip IsBounded objects c.in_ok-each.each.items)
    (objects_are c.args.objects.now c.items.result.now c.items.ensures.parts c.items.ensures.under)
    c.in_ok-each.ensures.bounded

pub returns-clause-built : goal.returns-clause-built
returns-clause-built g c = record {
  each = c.in_ok-each.each.items;
  built = subst (λ (objects : List Parts). AllZip (IsBuiltWith g.C.CapRule.capping) objects c.in_ok-each.each.items)
      (objects_are c.args.objects.now c.items.result.now c.items.ensures.parts c.items.ensures.under)
      c.in_ok-each.ensures.built;
  whole = c.in_ok-built.ensures.joined;
}

pub returns-clause-pairs : goal.returns-clause-pairs
returns-clause-pairs g c = c.in_ok-built.ensures.joined.pairs
    ∙ counts_numbered c.in_ok-each.each.items (pair_lists c.args.lists.now) c.in_ok-each.ensures.pairs
