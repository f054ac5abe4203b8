-- Crossing is mutual, and no triangle crosses itself.
use Rattle.std.proofs.Common.{◌≡◌, ◌||◌, Bool, true, false, refl, ap, ap₂, ◌∙◌, pos}
use Rattle.mesh_measures.specs.declared.crossing.Corners.{Corners}
use Rattle.triangle_meshes.specs.Volumes.{seen_from}
use Rattle.mesh_measures.specs.Turns.{turn}
use Rattle.mesh_measures.specs.Crossings.{pierces, cross}
use Rattle.triangle_meshes.proofs.Determinants.{same_two, same_ends}
use Rattle.mesh_measures.proofs.Weights.{with_origin, seen_itself}
use Rattle.mesh_measures.proofs.Parted.{touches}
use Rattle.fku_types.specs.declared.points.Point.{Point}
use Rattle.triangle_meshes.specs.Volumes.{determinant}

or_comm : (a b : Bool) → (a || b) ≡ (b || a)
or_comm true true = refl
or_comm true false = refl
or_comm false true = refl
or_comm false false = refl

pub mutual_cross : (s t : Corners) → cross t s ≡ cross s t
unfolding cross
mutual_cross s t = or_comm (pierces t s) (pierces s t)

pub first_in_plane : (a b c : Point) → turn a b c a ≡ pos 0
unfolding turn
first_in_plane a b c = ap (λ (p : Point). determinant (seen_from a b) (seen_from a c) p) (seen_itself a)
    ∙ with_origin (seen_from a b) (seen_from a c)

pub second_in_plane : (a b c : Point) → turn a b c b ≡ pos 0
unfolding turn
second_in_plane a b c = same_ends (seen_from a b) (seen_from a c)

pub third_in_plane : (a b c : Point) → turn a b c c ≡ pos 0
unfolding turn
third_in_plane a b c = same_two (seen_from a b) (seen_from a c)

none_pierced : (s : Corners) → pierces s s ≡ false
unfolding pierces
none_pierced s =
    ap₂ ◌||◌ (ap₂ ◌||◌ (touches s.a s.b s (first_in_plane s.a s.b s.c))
    (touches s.b s.c s (second_in_plane s.a s.b s.c))) (touches s.c s.a s (third_in_plane s.a s.b s.c))

pub not_itself : (s : Corners) → cross s s ≡ false
unfolding cross
not_itself s = ap₂ ◌||◌ (none_pierced s) (none_pierced s)
