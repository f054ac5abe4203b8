use Rattle.std.proofs.Common.{◌≡◌, ◌+◌, ◌++◌, ◌*◌, ◌≤ℤ◌, ◌+ℤ◌, pos, map, length, sum_by}
use Rattle.std.specs.List.{AllByRecursion}
use Rattle.plane_geom.specs.Planes.{signed_sum}
use Rattle.triangle_meshes.specs.Meshes.{surface_of}
use Rattle.surface_core.specs.Objects.{surfaces_of, pair_cost_limit}
use Rattle.surface_core.proofs.JoinedSizes.{IsCheap}
use Rattle.surface_core.proofs.objects.join_several.Given as goal

abbrev pub invariant-loop-built : goal.invariant-loop-built
invariant-loop-built l = record {
  meshes : map surface_of l.meshes.items ++ surfaces_of l.built-iterator.rest.items ≡ surfaces_of l.fn.each.items;
  pairs : l.pairs + sum_by (λ b. b.pairs) l.built-iterator.rest.items ≡ sum_by (λ b. b.pairs) l.fn.each.items;
  folded : l.folded + sum_by (λ b. b.folded) l.built-iterator.rest.items ≡ sum_by (λ b. b.folded) l.fn.each.items;
  cost : l.cost +ℤ signed_sum (λ b. b.cost) l.built-iterator.rest.items ≡ signed_sum (λ b. b.cost) l.fn.each.items;
  some_cost : pos 0 ≤ℤ l.cost;
  few_cost : l.cost ≤ℤ pos (l.pairs * pair_cost_limit);
  cheap : AllByRecursion IsCheap l.built-iterator.rest.items;
  left : l.built-iterator.rest.len ≡ length l.built-iterator.rest.items;
}
