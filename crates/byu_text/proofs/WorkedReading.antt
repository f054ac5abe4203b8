-- Worked texts: two squares, one above the other, and texts that differ from theirs.
use Rattle.std.proofs.Common.{◌≡◌, ℕ, ◌≤◌, ℤ, pos, negsuc, List, [], ◌∷◌, ◌++◌, length, get_or, refl, ap, ◌∙◌, arith, All}
use Rattle.std.specs.Prelude.{codes}
use Rattle.std.specs.Fmt.{digits}
use Rattle.std.proofs.lemmas.List.Elements.{All-nil, All-cons, All-from_recursion}
use Rattle.fku_types.specs.declared.points.Point.{Point}
use Rattle.fku_types.specs.Points.{IsInRange}
use Rattle.triangle_meshes.specs.Meshes.{Surface}
use Rattle.triangle_meshes.proofs.Validity.{valid_from_test}
use Rattle.byu_text.specs.Fields.{coordinates_line, sign_byte}
use Rattle.byu_text.specs.Reading.{IsMesh, ReadsAsMesh, HasMeshFault}
use Rattle.byu_text.specs.Pieces.{Counts, AreMeshCounts, AreSizes, ArePoints}
use Rattle.byu_text.specs.Stages.{AreNext, NoneOf}
use Rattle.byu_text.proofs.CountsStuck.{head_fault}
use Rattle.byu_text.proofs.PointsStuck.{points_fault}
use Rattle.byu_text.proofs.LineForms.{head_is}
use Rattle.byu_text.proofs.LineFields.{two_of}

abbrev squares : Surface
squares = record {
  vertices = record { x = pos 0; y = pos 0; z = pos 0 } ∷ record { x = pos 10; y = pos 0; z = pos 0 }
      ∷ record { x = pos 10; y = pos 10; z = pos 0 } ∷ record { x = pos 0; y = pos 10; z = pos 0 }
      ∷ record { x = pos 0; y = pos 0; z = pos 10 } ∷ record { x = pos 10; y = pos 0; z = pos 10 }
      ∷ record { x = pos 10; y = pos 10; z = pos 10 } ∷ record { x = pos 0; y = pos 10; z = pos 10 } ∷ [];
  parts = ((3 ∷ 1 ∷ 0 ∷ []) ∷ (1 ∷ 3 ∷ 2 ∷ []) ∷ (0 ∷ 1 ∷ 4 ∷ []) ∷ (5 ∷ 4 ∷ 1 ∷ []) ∷ (1 ∷ 2 ∷ 5 ∷ [])
      ∷ (6 ∷ 5 ∷ 2 ∷ []) ∷ (2 ∷ 3 ∷ 6 ∷ []) ∷ (7 ∷ 6 ∷ 3 ∷ []) ∷ (3 ∷ 0 ∷ 7 ∷ []) ∷ (4 ∷ 7 ∷ 0 ∷ []) ∷ (7 ∷ 4 ∷ 5 ∷ [])
      ∷ (5 ∷ 6 ∷ 7 ∷ []) ∷ []) ∷ [];
}

abbrev counts_text : List ℕ
counts_text = codes "       1       8      12      36\n"

abbrev part_text : List ℕ
part_text = codes "       1      12\n"

abbrev later_vertices : List ℕ
later_vertices =
    codes " 1.00000E+01 1.00000E+01 0.00000E+00 0.00000E+00 1.00000E+01 0.00000E+00\n"
    ++ (codes " 0.00000E+00 0.00000E+00 1.00000E+01 1.00000E+01 0.00000E+00 1.00000E+01\n"
    ++ codes " 1.00000E+01 1.00000E+01 1.00000E+01 0.00000E+00 1.00000E+01 1.00000E+01\n")

abbrev polygons : List ℕ
polygons =
    codes "       4       2      -1\n"
    ++ (codes "       2       4      -3\n"
    ++ (codes "       1       2      -5\n"
    ++ (codes "       6       5      -2\n"
    ++ (codes "       2       3      -6\n"
    ++ (codes "       7       6      -3\n"
    ++ (codes "       3       4      -7\n"
    ++ (codes "       8       7      -4\n"
    ++ (codes "       4       1      -8\n"
    ++ (codes "       5       8      -1\n"
    ++ (codes "       8       5      -6\n"
    ++ codes "       6       7      -8\n"))))))))))

abbrev first_vertices : List ℕ
first_vertices = codes " 0.00000E+00 0.00000E+00 0.00000E+00 1.00000E+01 0.00000E+00 0.00000E+00\n"

abbrev squares_text : List ℕ
squares_text = counts_text ++ (part_text ++ (first_vertices ++ (later_vertices ++ polygons)))

-- with a plus in place of the first blank of the third line
abbrev plus_vertices : List ℕ
plus_vertices = codes "+0.00000E+00 0.00000E+00 0.00000E+00 1.00000E+01 0.00000E+00 0.00000E+00\n"

abbrev plus_text : List ℕ
plus_text = counts_text ++ (part_text ++ (plus_vertices ++ (later_vertices ++ polygons)))

three_each : All (All (λ ids. length ids ≡ 3)) squares.parts
three_each = All-cons (All (λ ids. length ids ≡ 3)) (get_or squares.parts 0 []) []
    (All-from_recursion (λ ids. length ids ≡ 3) (get_or squares.parts 0 [])
    (refl, (refl, (refl, (refl, (refl, (refl, (refl, (refl, (refl, (refl, (refl, (refl, tt)))))))))))))
    (All-nil (All (λ ids. length ids ≡ 3)))

squares_are : IsMesh squares
squares_are = record { valid = valid_from_test squares refl; triangles = three_each }

pub squares_read : ReadsAsMesh squares_text squares
unfolding digits
squares_read = record { mesh = squares_are; same = refl }

-- no bytes
pub no_bytes : HasMeshFault [] 1
no_bytes = head_fault [] (λ h more i e.
    absurd (let l = head_is h i in empty l.body more (e ∙ ap (λ (x : List ℕ). x ++ more) l.is)))
  where
    empty : (body more : List ℕ) → [] ≡ (body ++ 10 ∷ []) ++ more → ⊥
    empty [] more e = cc
    empty (b ∷ body) more e = cc

-- a second spelling of a coordinate
abbrev counts : Counts
counts = record { parts = 1; vertices = 8; polygons = 12 }

counts_are : AreMeshCounts counts
counts_are = record {
  some_part = omega arith;
  few_parts = omega arith;
  some_vertex = omega arith;
  few_vertices =
      omega arith;
  enough = omega arith;
  few_polygons = omega arith;
}

sizes_are : AreSizes counts (12 ∷ [])
sizes_are = record {
  some = All-cons (λ n. 1 ≤ n) 12 [] (omega arith) (All-nil (λ n. 1 ≤ n));
  fit = omega arith;
  room =
      omega arith;
  all = λ e. refl;
}

points_are : ArePoints counts []
points_are = record { range = All-nil IsInRange; fit = omega arith }

no_sign : (z : ℤ) → 43 ≡ sign_byte z → ⊥
no_sign (pos n) e = absurd (omega (arith, e))
no_sign (negsuc n) e = absurd (omega (arith, e))

no_plus : (more : List ℕ) → NoneOf (AreNext 2) coordinates_line (43 ∷ more)
no_plus more ps rest a e =
    let r = two_of ps a.long in
    no_sign r.first.x (ap (λ (l : List ℕ). get_or l 0 0)
    (e ∙ ap (λ (qs : List Point). coordinates_line qs ++ rest) r.is))

pub plus_refused : HasMeshFault plus_text 3
unfolding digits
plus_refused = points_fault plus_text counts (12 ∷ []) []
    (plus_vertices ++ (later_vertices ++ polygons)) 0 counts_are sizes_are
    refl points_are refl (omega arith) refl (no_plus _)

-- ---- the counts of a first line: the smallest and the largest, and one past each end

abbrev counts_of : ℕ → ℕ → ℕ → Counts
counts_of parts vertices polygons = record { parts = parts; vertices = vertices; polygons = polygons }

ends : AreMeshCounts (counts_of 1 1 1) × AreMeshCounts (counts_of 4096 2097152 5000000)
ends = (
  record {
    some_part = omega arith;
    few_parts = omega arith;
    some_vertex = omega arith;
    few_vertices = omega arith;
    enough = omega arith;
    few_polygons = omega arith;
  },
  record {
    some_part = omega arith;
    few_parts = omega arith;
    some_vertex = omega arith;
    few_vertices = omega arith;
    enough = omega arith;
    few_polygons = omega arith;
  },
)

past_ends : (AreMeshCounts (counts_of 4097 2097152 5000000) → ⊥) × (AreMeshCounts (counts_of 4096 2097153 5000000) → ⊥)
    × (AreMeshCounts (counts_of 4096 2097152 5000001) → ⊥) × (AreMeshCounts (counts_of 0 1 1) → ⊥)
    × (AreMeshCounts (counts_of 1 0 1) → ⊥) × (AreMeshCounts (counts_of 2 1 1) → ⊥)
past_ends = (
  (λ h. omega (arith, h.few_parts)),
  (λ h. omega (arith, h.few_vertices)),
  (λ h. omega (arith, h.few_polygons)),
  (λ h. omega (arith, h.some_part)),
  (λ h. omega (arith, h.some_vertex)),
  λ h. omega (arith, h.enough),
)
