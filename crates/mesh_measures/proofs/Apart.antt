-- Triangles whose boxes have no more than a side in common do not cross.
use Rattle.std.proofs.Common.{◌≡◌, ◌⊎◌, inl, inr, ◌&&◌, Bool, true, false, refl, ◌∙◌, ℤ, ◌≤ℤ◌, int_lt}
use Rattle.mesh_measures.specs.declared.triangle_boxes.Boxed.{Boxed}
use Rattle.mesh_measures.specs.TriangleBoxes.{IsBoxed, overlap, boxes_meet, crosses}
use Rattle.mesh_measures.proofs.Mutual.{mutual_cross}
use Rattle.mesh_measures.proofs.Axes.{Parted, apart_x, apart_y, apart_z}
use Rattle.fku_types.proofs.TruthLaws.{int_lt_not, int_le_through}

and_cases : (x y : Bool) → (x && y) ≡ false → (x ≡ false) ⊎ (y ≡ false)
and_cases true y h = inr h
and_cases false y h = inl refl

by_x : (s t : Boxed) → IsBoxed s → IsBoxed t → s.greatest.x ≤ℤ t.least.x
    → Parted (λ p. p.x) s.corners t.corners s.greatest.x
by_x s t u v h = record {
  sa = u.a.under.x;
  sb = u.b.under.x;
  sc = u.c.under.x;
  ta = int_le_through s.greatest.x t.least.x t.corners.a.x h v.a.over.x;
  tb = int_le_through s.greatest.x t.least.x t.corners.b.x h v.b.over.x;
  tc = int_le_through s.greatest.x t.least.x t.corners.c.x h v.c.over.x;
}

by_y : (s t : Boxed) → IsBoxed s → IsBoxed t → s.greatest.y ≤ℤ t.least.y
    → Parted (λ p. p.y) s.corners t.corners s.greatest.y
by_y s t u v h = record {
  sa = u.a.under.y;
  sb = u.b.under.y;
  sc = u.c.under.y;
  ta = int_le_through s.greatest.y t.least.y t.corners.a.y h v.a.over.y;
  tb = int_le_through s.greatest.y t.least.y t.corners.b.y h v.b.over.y;
  tc = int_le_through s.greatest.y t.least.y t.corners.c.y h v.c.over.y;
}

by_z : (s t : Boxed) → IsBoxed s → IsBoxed t → s.greatest.z ≤ℤ t.least.z
    → Parted (λ p. p.z) s.corners t.corners s.greatest.z
by_z s t u v h = record {
  sa = u.a.under.z;
  sb = u.b.under.z;
  sc = u.c.under.z;
  ta = int_le_through s.greatest.z t.least.z t.corners.a.z h v.a.over.z;
  tb = int_le_through s.greatest.z t.least.z t.corners.b.z h v.b.over.z;
  tc = int_le_through s.greatest.z t.least.z t.corners.c.z h v.c.over.z;
}

pub before_x : (s t : Boxed) → IsBoxed s → IsBoxed t → s.greatest.x ≤ℤ t.least.x → crosses s t ≡ false
before_x s t u v h = apart_x s.corners t.corners s.greatest.x (by_x s t u v h)

before_y : (s t : Boxed) → IsBoxed s → IsBoxed t → s.greatest.y ≤ℤ t.least.y → crosses s t ≡ false
before_y s t u v h = apart_y s.corners t.corners s.greatest.y (by_y s t u v h)

pub before_z : (s t : Boxed) → IsBoxed s → IsBoxed t → s.greatest.z ≤ℤ t.least.z → crosses s t ≡ false
before_z s t u v h = apart_z s.corners t.corners s.greatest.z (by_z s t u v h)

turned : (s t : Boxed) → crosses t s ≡ false → crosses s t ≡ false
turned s t h = mutual_cross t.corners s.corners ∙ h

pub unmet : (s t : Boxed) → IsBoxed s → IsBoxed t → boxes_meet s t ≡ false → crosses s t ≡ false
unmet s t u v h =
    let y = overlap s.least.y s.greatest.y t.least.y t.greatest.y in
    let z = overlap s.least.z s.greatest.z t.least.z t.greatest.z in
    let x = overlap s.least.x s.greatest.x t.least.x t.greatest.x in
    elim (and_cases (y && z) x h) [
      | inr e ↦ elim (and_cases (int_lt s.least.x t.greatest.x) (int_lt t.least.x s.greatest.x) e) [
        | inl f ↦ turned s t (before_x t s v u (int_lt_not s.least.x t.greatest.x f))
        | inr f ↦ before_x s t u v
            (int_lt_not t.least.x s.greatest.x f)
      ]
      | inl g ↦
          elim (and_cases y z g) [
            | inr e ↦ elim (and_cases (int_lt s.least.z t.greatest.z) (int_lt t.least.z s.greatest.z) e) [
              | inl f ↦ turned s t (before_z t s v u (int_lt_not s.least.z t.greatest.z f))
              | inr f ↦ before_z s t u v
                  (int_lt_not t.least.z s.greatest.z f)
            ]
            | inl e ↦ elim (and_cases (int_lt s.least.y t.greatest.y) (int_lt t.least.y s.greatest.y) e) [
              | inl f ↦ turned s t (before_y t s v u (int_lt_not s.least.y t.greatest.y f))
              | inr f ↦ before_y s t u v
                  (int_lt_not t.least.y s.greatest.y f)
            ]
          ]
    ]
