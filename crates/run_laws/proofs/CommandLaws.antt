-- Each command leaves one reply.
use Rattle.std.proofs.Common.{◌≡◌, ℕ, List, [], ◌++◌, ℤ, length, sum_by, ap, ◌∙◌}
use Rattle.plane_geom.specs.Rings.{origin}
use Rattle.section_core.specs.Parts.{FileParts, SectionParts, all_sections, contours_of}
use Rattle.triangle_meshes.specs.Meshes.{Surface, surface_of}
use Rattle.byu_text.specs.Byu.{byu_of}
use Rattle.surface_core.specs.Objects.{numbered}
use Rattle.surface_core.specs.declared.surfaces.Built.{Built}
use Rattle.surface_core.proofs.SurfaceLaws.{one_surface}
use Rattle.surface_core.proofs.ObjectLaws.{AreAlike, one_surface_in}
use Rattle.triangle_meshes.specs.Volumes.{six_volume}
use Rattle.ring_caps.proofs.RingObjects.{one_ring_surface_in}
use Rattle.demo_stack.specs.Demo.{demo}
use Rattle.surface_cli.specs.declared.commands.Command.{Command}
use Rattle.surface_cli.specs.declared.commands.Command.TheVariants.{Tilings, Reconstruct, Report, Certify, Check, Slice, Edit, Demo, Landmarks, RingCaps, Count, Densify, Measure, Crossings}
use Rattle.command_replies.specs.Reply.{Tells}
use Rattle.pair_commands.specs.Tilings.{tilings, tilings_text}
use Rattle.surface_commands.specs.Reconstruct.{reconstruct}
use Rattle.surface_commands.specs.Report.{Reports, report, demo_report, report_text, sizes_text, four_measures, demo_line}
use Rattle.pair_commands.specs.Certify.{certify}
use Rattle.surface_commands.specs.Slice.{slice}
use Rattle.surface_commands.specs.Edit.{edit}
use Rattle.pair_commands.specs.Landmarks.{landmarks}
use Rattle.surface_commands.specs.RingCaps.{ring_caps}
use Rattle.surface_commands.specs.Crossings.{crossings, crossings_text}
use Rattle.surface_commands.specs.Densify.{densify}
use Rattle.surface_cli.specs.Commands.{rule_of}
use Rattle.run_laws.proofs.ReplyLaws.{Agree, IsOne, agree_tells, one_fronts, one_objects, one_pair_lists_of, one_ring_surface_of, one_solution_list, one_surface_of, one_surface_of_one, one_tells}
use Rattle.run_laws.proofs.CertLaws.{one_certify, one_check}
use Rattle.run_laws.proofs.CountLaws.{one_count, one_measure, one_mesh}
use Rattle.run_laws.proofs.DensifyLaws.{one_densify}
use Rattle.run_laws.proofs.EditLaws.{one_edit_reply}
use Rattle.run_laws.proofs.LandmarkLaws.{one_landmarks}
use Rattle.run_laws.proofs.SliceLaws.{one_slices}

one_tilings : (F : FileParts) → IsOne (tilings F)
one_tilings F = one_pair_lists_of F _
    (λ pss. one_solution_list (numbered pss) _ (λ xs. one_tells (tilings_text F pss xs) (length (numbered pss))))

agree_meshes : (b c : Built) → AreAlike b c
    → Agree (Tells (byu_of (surface_of b.mesh)) b.pairs) (Tells (byu_of (surface_of c.mesh)) c.pairs)
agree_meshes b c e = agree_tells (byu_of (surface_of b.mesh)) (byu_of (surface_of c.mesh)) b.pairs c.pairs
    (ap byu_of e.0) e.1

one_reconstruct : (F : FileParts) → IsOne (reconstruct byu_of F)
one_reconstruct F = one_surface_of F (λ b. Tells (byu_of (surface_of b.mesh)) b.pairs)
    (λ b c is has. agree_meshes b c (one_surface_in F b c is has))

one_ring_caps : (F : FileParts) → IsOne (ring_caps byu_of F)
one_ring_caps F = one_ring_surface_of F (λ b. Tells (byu_of (surface_of b.mesh)) b.pairs)
    (λ b c is has. agree_meshes b c (one_ring_surface_in F b c is has))

-- a report is made of determined parts
abbrev text_from : List SectionParts → Surface → ℕ → ℕ → ℤ → List ℕ
text_from sections m folded pairs cost =
    sizes_text (length sections) (length (contours_of sections)) (length m.vertices) (sum_by length m.parts)
    ++ four_measures folded pairs cost (six_volume m origin)

same_report : (sections : List SectionParts) (b c : Built) → AreAlike b c
    → report_text sections b ≡ report_text sections c
same_report sections b c e =
    let m = surface_of c.mesh in
    ap (λ (n : Surface). text_from sections n b.folded b.pairs b.cost) e.0
    ∙ ap (λ (n : ℕ). text_from sections m n b.pairs b.cost) e.3
    ∙ ap (λ (n : ℕ). text_from sections m c.folded n b.cost) e.1
    ∙ ap (λ (n : ℤ). text_from sections m c.folded c.pairs n) e.2

agree_reports : (head : List ℕ) (sections : List SectionParts) (b c : Built) → AreAlike b c
    → Agree (Reports head sections b) (Reports head sections c)
agree_reports head sections b c e r s t u h k =
    agree_tells (head ++ report_text sections b) (head ++ report_text sections c) b.pairs c.pairs
    (ap (λ (x : List ℕ). head ++ x) (same_report sections b c e)) e.1 r s t u h.tells k.tells

one_report : (F : FileParts) → IsOne (report F)
one_report F = one_surface_of F (Reports [] (all_sections F.objects))
    (λ b c is has. agree_reports [] (all_sections F.objects) b c (one_surface_in F b c is has))

one_demo : (seed sections vertices : ℕ) → IsOne (demo_report seed sections vertices)
one_demo seed sections vertices =
    let S = demo seed sections vertices in
    one_surface_of_one S (Reports (demo_line seed sections vertices) S.sections)
    (λ b c is has. agree_reports (demo_line seed sections vertices) S.sections b c (one_surface S b c is has))

one_crossings : (bytes : List ℕ) → IsOne (crossings bytes)
one_crossings bytes = one_mesh (λ (m : Surface). Tells (crossings_text m) 0) (λ m. one_tells (crossings_text m) 0) bytes

-- the reply of a command to the bytes that it has read
pub one_rule : (command : Command) (bytes : List ℕ) → IsOne (rule_of command bytes)
one_rule Tilings bytes = one_objects tilings bytes (λ F is. one_tilings F)
one_rule Reconstruct bytes = one_objects (reconstruct byu_of) bytes (λ F is. one_reconstruct F)
one_rule Report bytes = one_objects report bytes (λ F is. one_report F)
one_rule (Certify k) bytes = one_objects (certify k) bytes (λ F is. one_certify k F)
one_rule Check bytes = one_check bytes
one_rule (Slice z) bytes = one_objects (slice z) bytes (λ F is. one_slices z F is.0.lawful.1.1.0)
one_rule Edit bytes = one_fronts (edit byu_of) bytes one_edit_reply
one_rule (Demo seed sections vertices) bytes = one_demo seed sections vertices
one_rule Landmarks bytes = one_fronts landmarks bytes one_landmarks
one_rule RingCaps bytes = one_objects (ring_caps byu_of) bytes (λ F is. one_ring_caps F)
one_rule Count bytes = one_count bytes
one_rule Densify bytes = one_objects densify bytes (λ F is. one_densify F)
one_rule Measure bytes = one_measure bytes
one_rule Crossings bytes = one_crossings bytes
