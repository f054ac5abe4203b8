-- Rings have only one composite.
use Rattle.std.proofs.Common.{◌≡◌, List, [], ◌∷◌, remove, refl, sym, arith, subst}
use Rattle.plane_geom.specs.Rings.{RingView}
use Rattle.ring_polygons.specs.Composites.{Bridge, view_at, bridged}
use Rattle.ring_polygons.specs.Bridges.{IsLeastBridge, IsJoinedTo, IsCompositeOf}
use Rattle.ring_polygons.specs.Bridges.IsJoinedTo.{none_left, joins}
use Rattle.ring_polygons.proofs.NearestLaws.{one_least}

no_bridge : (ring : RingView) (b : Bridge) → IsLeastBridge ring [] b → ⊥
no_bridge ring b l = omega (arith, l.other)

one_joined : (ring : RingView) (others : List RingView) (a b : RingView) → IsJoinedTo ring others a
    → IsJoinedTo ring others b → a ≡ b
one_joined ring [] a b (none_left _) (none_left _) = refl
one_joined ring [] a b (none_left _) (joins _ _ c _ l k) = absurd (no_bridge ring c l)
one_joined ring [] a b (joins _ _ c _ l h) k = absurd (no_bridge ring c l)
one_joined ring (other ∷ others) a b (joins _ _ c _ l h) (joins _ _ d _ m k) =
    let rings : List RingView = other ∷ others in
    let P : Bridge → Type 0 = λ x. IsJoinedTo (bridged ring (view_at rings x.other) x.place x.vertex)
    (remove rings x.other) b in
    one_joined (bridged ring (view_at rings c.other) c.place c.vertex) (remove rings c.other) a b h
    (subst P (sym (one_least ring rings c d l m)) k)

pub one_composite : (rings : List RingView) (a b : RingView) → IsCompositeOf rings a → IsCompositeOf rings b → a ≡ b
one_composite [] a b h k = absurd h
one_composite (ring ∷ others) a b h k = one_joined ring others a b h k
