use Rattle.std.proofs.Common.{◌++◌, ℕ, List, map, ap, ◌∙◌, append_assoc}
use Rattle.section_pairs.specs.Pairs.{pair_parts}
use Rattle.surface_core.specs.Surfaces.{strip_triangles}
use Rattle.surface_core.proofs.assembly.add_section.Goals as goal

pub returns-clause-triangles : goal.returns-clause-triangles
returns-clause-triangles c =
    let strips = strip_triangles c.args.place (map pair_parts c.args.pairs.now) c.args.solved.now in
    c.in_ok-add_strips_near.ensures ∙ ap (λ (l : List (List ℕ)). l ++ strips) c.in_ok-append.ensures.triangles
    ∙ append_assoc c.args.list.now.triangles.items c.args.caps.now.triangles.items strips
