-- `tilings`: each pair with its chosen tiling.
use Rattle.std.specs.Prelude.{ℕ, ◌+◌, List, [], ◌∷◌, ◌++◌, map, length, drop, slice_get, codes, decimal}
use Rattle.std.specs.List.{flat_map}
use Rattle.std.specs.Option.{option_map_or}
use Rattle.std.specs.Fmt.{signed_decimal}
use Rattle.section_core.specs.declared.parts.Version.{Version}
use Rattle.section_core.specs.Parts.{ContourParts, FileParts, ObjectParts, SectionParts}
use Rattle.section_core.specs.Canonical.{name_text as object_text}
use Rattle.strip_graph.specs.Strips.{rows, cols}
use Rattle.cert_checker.specs.CertTexts.{letter}
use Rattle.row_paths.specs.Solutions.{Solution}
use Rattle.surface_core.specs.Objects.{numbered}
use Rattle.section_pairs.specs.Pairs.{PairParts}
use Rattle.command_replies.specs.Reply.{Reply, Tells}
use Rattle.command_replies.specs.Stages.{on_pairs, on_solutions}

-- the contours of the section at a place
abbrev pub contours_at : List SectionParts → ℕ → List ContourParts
contours_at sections place = option_map_or (λ (s : SectionParts). s.contours) (slice_get sections place) []

-- a blank and the name of the contour at a place
abbrev pub blank_and_name : List ContourParts → ℕ → List ℕ
blank_and_name contours place = option_map_or (λ (c : ContourParts). 32 ∷ c.name) (slice_get contours place) []

-- the names of the contours at some places
abbrev pub names_text : List ContourParts → List ℕ → List ℕ
names_text contours places = flat_map (blank_and_name contours) places

-- the line of a pair's number and gap
abbrev pub number_text : ℕ → ℕ → List ℕ
number_text k gap = codes "PAIR " ++ (decimal k ++ (codes " GAP " ++ (decimal (gap + 1) ++ codes "\nBELOW")))

-- the names of its contours
abbrev pub members_text : List SectionParts → PairParts → List ℕ
members_text sections p =
    names_text (contours_at sections p.gap) p.below
    ++ (codes "\nABOVE" ++ names_text (contours_at sections (p.gap + 1)) p.above)

-- the line of its rings, cost and start
abbrev pub counts_text : PairParts → Solution → List ℕ
counts_text p s =
    codes "\nROWS " ++ (decimal (rows p.strip) ++ (codes " COLS " ++ (decimal (cols p.strip)
    ++ (codes " COST " ++ (signed_decimal s.cost ++ (codes " START " ++ (decimal s.row ++ codes "\nWORD ")))))))

-- the five lines of the pair of a number
abbrev pub pair_text : List SectionParts → ℕ → PairParts → Solution → List ℕ
pair_text sections k p s =
    number_text k p.gap ++ (members_text sections p ++ (counts_text p s ++ (map letter s.word ++ codes "\n")))

-- the lines of all pairs, numbered from k on
abbrev pub pairs_text : List SectionParts → ℕ → List PairParts → List Solution → List ℕ
pairs_text sections k [] solutions = []
pairs_text sections k (p ∷ ps) [] = []
pairs_text sections k (p ∷ ps) (s ∷ solutions) = pair_text sections k p s ++ pairs_text sections (k + 1) ps solutions

-- the pairs of objects, numbered from k on; in version 2 those of each object after its name
abbrev pub objects_text : Version → ℕ → List ObjectParts → List (List PairParts) → List Solution → List ℕ
objects_text v k [] pss solutions = []
objects_text v k (o ∷ objects) [] solutions = []
objects_text v k (o ∷ objects) (ps ∷ pss) solutions =
    object_text v o.name ++ (pairs_text o.sections k ps solutions
    ++ objects_text v (k + length ps) objects pss (drop (length ps) solutions))

-- the whole text
abbrev pub tilings_text : FileParts → List (List PairParts) → List Solution → List ℕ
tilings_text F pss solutions =
    objects_text F.version 1 F.objects pss solutions
    ++ (codes "PAIRS " ++ (decimal (length (numbered pss)) ++ codes "\n"))

-- the reply for objects: their pairs and the solutions of these, with a count of all pairs
abbrev pub tilings : FileParts → Reply → Type 0
tilings F = on_pairs F (λ pss. on_solutions (numbered pss)
    (λ solutions. Tells (tilings_text F pss solutions) (length (numbered pss))))
