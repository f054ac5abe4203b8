-- The replies on the parts of a mesh, in order.
use Rattle.std.proofs.Common.{◌≡◌, inl, inr, refl, Result, Ok, Err, ℕ, ◌+◌, ◌<◌, List, [], ◌∷◌, ◌++◌, length, take, drop, get_or, Option, None, Some, sym, ap, ◌∙◌, subst, append_assoc}
use Rattle.std.specs.Prelude.{IfErr, IfSome, count_by}
use Rattle.std.specs.List.{AllZip}
use Rattle.std.proofs.lemmas.List.{take_more, drop_more, length-map}
use Rattle.std.proofs.lemmas.Slice.Zip.{all_zipped_more}
use Rattle.fku_types.specs.declared.points.Point.{Point}
use Rattle.fku_types.specs.declared.fault.Fault.{Fault}
use Rattle.fku_types.specs.declared.fault.Fault.TheVariants.{ByuForm}
use Rattle.byu_text.specs.Answers.{IsByuFault, IsMeshFault, IsMeshMemory}
use Rattle.byu_text.specs.Reading.{ReadsAsMesh}
use Rattle.byu_text.proofs.Fronts.{begins_from_reads}
use Rattle.triangle_meshes.specs.Meshes.{Surface}
use Rattle.section_pairs.specs.SectionFaults.{OrNoMemory}
use Rattle.mesh_measures.specs.Crossings.{corners_of, part_corners, cross, crossing_counts, crossing_pairs}
use Rattle.plane_geom.specs.Rings.{origin}
use Rattle.triangle_meshes.specs.Volumes.{part_volume}
use Rattle.mesh_measures.specs.Moments.{moment}
use Rattle.mesh_measures.specs.declared.enclosing.Solid.{Solid}
use Rattle.mesh_measures.specs.declared.measuring.Measures.{Measures}
use Rattle.surface_commands.specs.Crossings.{cross_line, cross_lines, crossed_text, crossing_parts_text}
use Rattle.surface_commands.specs.Measure.{IsSolid, measured_text, parts_text as measured_parts}

-- the fault of a text is reported as it is, or memory ran out
pub byu_fault : (text : List ℕ) (f : Fault) → IsMeshFault text f → OrNoMemory (IsByuFault text) f
byu_fault text (ByuForm n) h = inr (n, h, refl)
byu_fault text f h = inl h

-- the text is a mesh's, so memory may run out after its first line
pub at_mesh : {T : Type 0} (text : List ℕ) (m : Surface) (r : Result T Fault) → ReadsAsMesh text m
    → IfErr r (IsMeshMemory text)
at_mesh text m (Ok v) h = tt
at_mesh text m (Err fault) h = λ _. (m, begins_from_reads text 1 m h)

-- one more item of two lists
pub zip_one : {X Y : Type 0} (R : X → Y → Type 0) (xs : List X) (i : ℕ) (d : X) (old new : List Y) (y : Y)
    → i < length xs → new ≡ old ++ y ∷ []
    → AllZip R (take i xs) old → R (get_or xs i d) y → AllZip R (take (i + 1) xs) new
zip_one {X = X} {Y = Y} R xs i d old new y l n h r =
    subst (λ (zs : List Y). AllZip R (take (i + 1) xs) zs) (sym n)
    (subst (λ (zs : List X). AllZip R zs (old ++ y ∷ [])) (sym (take_more xs i d l))
    (all_zipped_more R (take i xs) old (get_or xs i d) y h r))

-- the line of one more polygon
pub crosses_more : (counts : List ℕ) (i at next n : ℕ) (text more whole : List ℕ) → i < length counts
    → n ≡ get_or counts i 0 → next ≡ at + 1 → more ≡ text ++ cross_line at n
    → text ++ cross_lines at (drop i counts) ≡ whole → more ++ cross_lines next (drop (i + 1) counts) ≡ whole
crosses_more counts i at next n text more whole l e s m inv =
    let rest : List ℕ = drop (i + 1) counts in
    ap (λ (t : List ℕ). t ++ cross_lines next rest) m
    ∙ append_assoc text (cross_line at n) (cross_lines next rest)
    ∙ ap (λ (k : ℕ). text ++ (cross_line at n ++ cross_lines k rest)) s
    ∙ ap (λ (k : ℕ). text ++ (cross_line at k ++ cross_lines (at + 1) rest)) e
    ∙ ap (λ (ns : List ℕ). text ++ cross_lines at ns) (sym (drop_more counts i 0 l)) ∙ inv

-- the measures of one more part
pub measures_more : (parts : List Measures) (i : ℕ) (d : Measures) (text more whole : List ℕ) → i < length parts
    → more ≡ text ++ measured_text (i + 1) (get_or parts i d)
    → text ++ measured_parts (i + 1) (drop i parts) ≡ whole
    → more ++ measured_parts (i + 1 + 1) (drop (i + 1) parts) ≡ whole
measures_more parts i d text more whole l m inv =
    let rest : List Measures = drop (i + 1) parts in
    ap (λ (t : List ℕ). t ++ measured_parts (i + 1 + 1) rest) m
    ∙ append_assoc text (measured_text (i + 1) (get_or parts i d)) (measured_parts (i + 1 + 1) rest)
    ∙ ap (λ (ms : List Measures). text ++ measured_parts (i + 1) ms) (sym (drop_more parts i d l)) ∙ inv

-- the crossings of one more part
pub crossed_more : (vertices : List Point) (parts : List (List (List ℕ))) (i first n : ℕ) (text more whole : List ℕ)
    → i < length parts → n ≡ length (get_or parts i [])
    → more ≡ text ++ crossed_text (i + 1) first (crossing_counts (part_corners vertices (get_or parts i [])))
    (crossing_pairs (part_corners vertices (get_or parts i [])))
    → text ++ crossing_parts_text vertices (i + 1) first (drop i parts) ≡ whole
    → more ++ crossing_parts_text vertices (i + 1 + 1) (first + n) (drop (i + 1) parts) ≡ whole
crossed_more vertices parts i first n text more whole l e m inv =
    let part : List (List ℕ) = get_or parts i [] in
    let rest : List (List (List ℕ)) = drop (i + 1) parts in
    let here : List ℕ = crossed_text (i + 1) first (crossing_counts (part_corners vertices part))
    (crossing_pairs (part_corners vertices part)) in
    ap (λ (t : List ℕ). t ++ crossing_parts_text vertices (i + 1 + 1) (first + n) rest) m
    ∙ append_assoc text here (crossing_parts_text vertices (i + 1 + 1) (first + n) rest)
    ∙ ap (λ (k : ℕ). text ++ (here ++ crossing_parts_text vertices (i + 1 + 1) (first + k) rest)) e
    ∙ ap (λ (ps : List (List (List ℕ))). text ++ crossing_parts_text vertices (i + 1) first ps)
    (sym (drop_more parts i [] l)) ∙ inv

-- each triangle has a number of others
pub counts_long : (vertices : List Point) (part : List (List ℕ))
    → length (crossing_counts (part_corners vertices part)) ≡ length part
counts_long vertices part = length-map (part_corners vertices part)
    (λ s. count_by (cross s) (part_corners vertices part)) ∙ length-map part (corners_of vertices)

-- the solid of a closed part
pub is_solid : (points : List Point) (triangles : List (List ℕ)) (o : Option Solid)
    → IfSome o (λ s. s.six_volume ≡ part_volume points origin triangles)
    → IfSome o (λ s. s.moment_x ≡ moment (λ p. p.x) points origin triangles)
    → IfSome o (λ s. s.moment_y ≡ moment (λ p. p.y) points origin triangles)
    → IfSome o (λ s. s.moment_z ≡ moment (λ p. p.z) points origin triangles) → IfSome o (IsSolid points triangles)
is_solid points triangles None v x y z = tt
is_solid points triangles (Some s) v x y z = record { six_volume = v; moment_x = x; moment_y = y; moment_z = z }
