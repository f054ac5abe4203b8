use Rattle.std.proofs.Common.{◌≡◌, ◌++◌, ◌+◌, ◌∷◌, List, map, drop, ap, sym, ◌∙◌, append-nil}
use Rattle.std.specs.List.{flat_map}
use Rattle.section_core.specs.declared.objects.Object.{Object}
use Rattle.section_core.specs.Canonical.{object_text}
use Rattle.section_core.specs.Objects.{object_parts}
use Rattle.std.proofs.lemmas.List.{drop_all}
use Rattle.fku_types.proofs.ListLaws.{drop_next}
use Rattle.section_core.proofs.Printed.{objects_more, rule_at}
use Rattle.section_core.proofs.printing.put_objects.Goals as goal

pub loop-object-preserved : goal.loop-object-preserved
loop-object-preserved c cost rule under =
    let xs = c.args.objects.now in
    let i = c.loop-object.object-index in
    let x = c.object-item.result in
    let next : drop i xs ≡ x ∷ drop (i + 1) xs = drop_next xs i x c.loop-object-test.true c.object-item.is in
    objects_more c.args.version rule x.sections.rule c.loop-object.out.items c.put_object.new.out.items
    (c.args.out.now.items ++ flat_map (object_text c.args.version rule) (map object_parts xs)) (drop i xs) x
    (drop (i + 1) xs)
    (c.loop-object.invariant cost rule under) next c.in_ok-put_object.ensures
    (rule_at cost rule xs i x under c.loop-object-test.true c.object-item.is)

pub returns : goal.returns
returns c cost rule under =
    let xs = c.args.objects.now in
    sym (append-nil c.loop-object.out.items)
    ∙ ap (λ (os : List Object). c.loop-object.out.items
    ++ flat_map (object_text c.args.version rule) (map object_parts os))
    (sym (drop_all c.loop-object.object-index xs c.loop-object-test.false))
    ∙ c.loop-object.invariant cost rule under
