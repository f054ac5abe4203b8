-- Completing parts breaks no law.
use Rattle.std.proofs.Common.{ℕ, zero, suc, List, [], ◌++◌, ℤ, sym, subst, arith, replicate}
use Rattle.std.specs.List.{AllByRecursion}
use Rattle.fku_types.specs.declared.fault.LimitName.TheVariants as limit
use Rattle.section_core.specs.declared.parts.Version.{Version}
use Rattle.section_core.specs.declared.parts.Version.TheVariants.{One}
use Rattle.section_core.specs.Parts.{Spot, ObjectParts}
use Rattle.section_core.specs.Laws.{Law, in_range, name_once, rising, within, Facts, facts, Keeps, IsSpot, weights}
use Rattle.section_core.specs.Machine.{Body, bare, in_section, in_contour, in_links, object_of, State, at_version, at_cost, at_rule, no_object, in_object, ended, with_section, with_contour, parts_of}
use Rattle.section_core.proofs.Ends.{completed, completed_body, origin}
use Rattle.fku_types.proofs.ListLaws.{all_join}
use Rattle.section_core.proofs.JoinedFacts.{joined, facts-joined, joined-points, joined_body}

origin-in_range : IsSpot origin
origin-in_range = (omega arith, omega arith)

origins-in_range : (n : ℕ) → AllByRecursion IsSpot (replicate n origin)
origins-in_range zero = tt
origins-in_range (suc n) = (origin-in_range, origins-in_range n)

-- more points in range break no law
keeps-points : (law : Law) (f : Facts) (more : List Spot) → AllByRecursion IsSpot more → Keeps law f
    → Keeps law (record f { points = f.points ++ more })
keeps-points in_range f more h k = (k.0, all_join IsSpot f.points more k.1 h, k.2)
keeps-points name_once f more h k = k
keeps-points rising f more h k = k
keeps-points (within limit.ContourVertices) f more h k = k
keeps-points (within limit.SectionVertices) f more h k = k
keeps-points (within limit.Vertices) f more h k = k
keeps-points (within limit.Contours) f more h k = k
keeps-points (within limit.Sections) f more h k = k
keeps-points (within limit.Links) f more h k = k
keeps-points (within limit.Objects) f more h k = k
keeps-points (within limit.Bytes) f more h k = k
keeps-points (within limit.Edits) f more h k = k

-- one object begins, and has nothing yet
keeps-fresh : (law : Law) → Keeps law (facts (parts_of (at_cost One)))
keeps-fresh in_range = ((tt, tt), tt, tt)
keeps-fresh name_once = (tt, tt)
keeps-fresh rising = (tt, tt)
keeps-fresh (within limit.ContourVertices) = tt
keeps-fresh (within limit.SectionVertices) = tt
keeps-fresh (within limit.Vertices) = omega arith
keeps-fresh (within limit.Contours) = omega arith
keeps-fresh (within limit.Sections) = omega arith
keeps-fresh (within limit.Links) = omega arith
keeps-fresh (within limit.Objects) = omega arith
keeps-fresh (within limit.Bytes) = tt
keeps-fresh (within limit.Edits) = tt

keeps-body : (law : Law) (v : Version) (ws : List (ℤ × ℤ)) (objects : List ObjectParts) (name : List ℕ) (body : Body)
    → Keeps law (joined_body v ws objects name body) → Keeps law (joined_body v ws objects name (completed_body body))
keeps-body law v ws objects name bare k = k
keeps-body law v ws objects name (in_section front z contours) k = k
keeps-body law v ws objects name (in_contour front z contours title count ps missing) k =
    let more : List Spot = replicate (suc missing) origin in
    subst (Keeps law) (sym (joined-points v ws objects name front z contours title count ps more))
    (keeps-points law (joined v ws objects name (with_section front z (with_contour contours title count ps)) []) more
    (origins-in_range (suc missing)) k)
keeps-body law v ws objects name (in_links sections links) k = k

-- a law that holds of the parts read so far holds of the completed parts
pub keeps-completed : (law : Law) (state : State) → Keeps law (facts (parts_of state))
    → Keeps law (facts (completed state))
keeps-completed law at_version k = keeps-fresh law
keeps-completed law (at_cost v) k = k
keeps-completed law (at_rule v cost) k = k
keeps-completed law (no_object cost rule) k = k
keeps-completed law (in_object v cost rule front name body) k =
    subst (Keeps law) (sym (facts-joined v cost rule front (object_of name (completed_body body))))
    (keeps-body law v (weights cost) front name body
    (subst (Keeps law) (facts-joined v cost rule front (object_of name body)) k))
keeps-completed law (ended parts) k = k
