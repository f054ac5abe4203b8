-- `measure`: the measures of the parts of a mesh.
use Rattle.std.specs.Prelude.{ℕ, ◌≡◌, ◌+◌, ◌↔◌, List, [], ◌∷◌, ◌++◌, Option, None, Some, IfSome, IsSome, length, codes, decimal}
use Rattle.std.specs.List.{AllZip}
use Rattle.std.specs.Fmt.{signed_decimal}
use Rattle.fku_types.specs.declared.points.Point.{Point}
use Rattle.plane_geom.specs.Rings.{origin, IsClosed}
use Rattle.triangle_meshes.specs.Meshes.{Surface}
use Rattle.triangle_meshes.specs.Edges.{edges_of}
use Rattle.triangle_meshes.specs.Volumes.{part_volume}
use Rattle.mesh_measures.specs.Areas.{IsLowArea, IsHighArea}
use Rattle.mesh_measures.specs.Boxes.{corners, IsBox}
use Rattle.mesh_measures.specs.Counts.{named_below, edges_above}
use Rattle.mesh_measures.specs.Moments.{moment}
use Rattle.mesh_measures.specs.declared.areas.Area.{Area}
use Rattle.mesh_measures.specs.declared.boxes.Bounds.{Bounds}
use Rattle.mesh_measures.specs.declared.edges.Sides.{Sides}
use Rattle.mesh_measures.specs.declared.enclosing.Solid.{Solid}
use Rattle.mesh_measures.specs.declared.measuring.Measures.{Measures}
use Rattle.command_replies.specs.Reply.{Reply, Tells}
use Rattle.surface_commands.specs.MeshTexts.{on_mesh, parts_line}

-- six times the volume that a closed part encloses, and 24 times the integral of each coordinate over it
pub record IsSolid (points : List Point) (triangles : List (List ℕ)) (s : Solid) : Type 0 where
  pub six_volume : s.six_volume ≡ part_volume points origin triangles
  pub moment_x : s.moment_x ≡ moment (λ p. p.x) points origin triangles
  pub moment_y : s.moment_y ≡ moment (λ p. p.y) points origin triangles
  pub moment_z : s.moment_z ≡ moment (λ p. p.z) points origin triangles

-- The measures of a part of a mesh with these vertices: how many of them its triangles name, its triangles, the box of
-- their corners, bounds on 2,000 times its area, two integers, its edges and those of more than two triangles, and the
-- solid that it encloses, if it is closed.
pub record AreMeasures (points : List Point) (triangles : List (List ℕ)) (m : Measures) : Type 0 where
  pub vertices : m.vertices ≡ named_below (length points) triangles
  pub polygons : m.polygons ≡ length triangles
  pub bounds : IsBox m.bounds (corners points triangles)
  pub low : IsLowArea points triangles m.area.low
  pub high : IsHighArea points triangles m.area.high
  pub edges : m.sides.edges ≡ edges_of (record { vertices = points; parts = triangles ∷ [] })
  pub many : m.sides.many ≡ edges_above 2 (length points) triangles
  pub closed : IsSome m.solid ↔ IsClosed triangles
  pub solid : IfSome m.solid (IsSolid points triangles)

-- three coordinates
abbrev pub corner_text : Point → List ℕ
corner_text p = signed_decimal p.x ++ (codes " " ++ (signed_decimal p.y ++ (codes " " ++ signed_decimal p.z)))

-- the number of a part, and its counts
abbrev pub part_head_text : ℕ → ℕ → ℕ → List ℕ
part_head_text number vertices polygons =
    codes "PART " ++ (decimal number
    ++ (codes "\nVERTICES " ++ (decimal vertices ++ (codes "\nPOLYGONS " ++ (decimal polygons ++ codes "\n")))))

-- its box
abbrev pub box_text : Bounds → List ℕ
box_text b = codes "BOX " ++ (corner_text b.least ++ (codes " " ++ (corner_text b.greatest ++ codes "\n")))

-- the two bounds on 2,000 times its area
abbrev pub area_text : Area → List ℕ
area_text a = codes "AREA " ++ (decimal a.low ++ (codes " " ++ (decimal a.high ++ codes " DEN 2000\n")))

-- its edges
abbrev pub sides_text : Sides → List ℕ
sides_text s = codes "EDGES " ++ (decimal s.edges ++ (codes " MANY " ++ (decimal s.many ++ codes "\n")))

-- the solid that it encloses, if it is closed
abbrev pub solid_text : Option Solid → List ℕ
solid_text None = codes "CLOSED no\n"
solid_text (Some s) =
    codes "CLOSED yes\nSIXVOLUME " ++ (signed_decimal s.six_volume
    ++ (codes "\nMOMENT " ++ (signed_decimal s.moment_x
    ++ (codes " " ++ (signed_decimal s.moment_y ++ (codes " " ++ (signed_decimal s.moment_z ++ codes "\n")))))))

-- the lines of the part of this number
abbrev pub measured_text : ℕ → Measures → List ℕ
measured_text number m =
    part_head_text number m.vertices m.polygons
    ++ (box_text m.bounds ++ (area_text m.area ++ (sides_text m.sides ++ solid_text m.solid)))

-- the lines of parts, of which the first has this number
abbrev pub parts_text : ℕ → List Measures → List ℕ
parts_text number [] = []
parts_text number (m ∷ more) = measured_text number m ++ parts_text (number + 1) more

-- the number of parts, and the lines of each
abbrev pub measures_text : List Measures → List ℕ
measures_text ms = parts_line (length ms) ++ parts_text 1 ms

-- the reply has the measures of each part of a mesh; no pair is counted
pub record TellsMeasures (m : Surface) (reply : Reply) : Type 0 where
  pub measures : List Measures
  pub are : AllZip (AreMeasures m.vertices) m.parts measures
  pub tells : Tells (measures_text measures) 0 reply

-- the reply for bytes: the measures of the mesh whose text they are
abbrev pub measure : List ℕ → Reply → Type 0
measure = on_mesh TellsMeasures
