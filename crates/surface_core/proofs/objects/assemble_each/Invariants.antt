use Rattle.std.proofs.Common.{◌≡◌, map, length, take, drop, All}
use Rattle.std.specs.List.{AllZip}
use Rattle.plane_geom.specs.Rings.{IsClosed}
use Rattle.triangle_meshes.specs.Meshes.{IsValid}
use Rattle.pair_pool.specs.Solvers.{SolvesEach}
use Rattle.surface_core.specs.Surfaces.{strips_in, IsBuiltWith}
use Rattle.surface_core.specs.Objects.{sections_in, pair_lists, numbered, surfaces_of, IsBounded}
use Rattle.surface_core.proofs.objects.assemble_each.Given as goal

abbrev pub invariant-loop-place : goal.invariant-loop-place
invariant-loop-place g l = record {
  built : AllZip (IsBuiltWith g.C.CapRule.capping) (sections_in (take l.place l.items)) l.each.items;
  bounded : AllZip IsBounded (sections_in (take l.place l.items)) l.each.items;
  valid : All IsValid (surfaces_of l.each.items);
  closed : All (λ s. All IsClosed s.parts) (surfaces_of l.each.items);
  pairs : map (λ b. b.pairs) l.each.items ≡ map length (pair_lists (take l.place l.lists));
  solved : SolvesEach (strips_in (numbered (pair_lists (drop l.place l.lists)))) l.rest;
}
