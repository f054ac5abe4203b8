-- Sections with a rounded section between those of a gap that is high enough.
use Rattle.std.specs.Prelude.{◌≡◌, ◌↔◌, ℕ, ◌+◌, ◌/◌, ◌<◌, ◌==◌, ◌&&◌, ◌||◌, not, nat_le, Bool, true, false, List, [], ◌∷◌, ◌++◌, length, map, filter, slice_index, slice_index_or, ℤ, pos, ◌+ℤ◌, ◌-ℤ◌, unsigned_abs, codes, decimal, if◌then◌else◌}
use Rattle.std.specs.List.{flat_map, list_any, list_all, range_with_len}
use Rattle.std.specs.Ordering.{int_eq}
use Rattle.fku_types.specs.declared.points.Spot.{Spot as Place}
use Rattle.fku_types.specs.declared.rules.CostRule.TheVariants.{Span}
use Rattle.fku_types.specs.declared.rules.PairRule.TheVariants.{Links}
use Rattle.section_core.specs.Parts.{ContourParts, SectionParts, LinkParts, Parts}
use Rattle.correspondence.specs.Outlines.{Layer, layer_at, name_in, section_at}
use Rattle.correspondence.specs.Correspondences.{Correspond}
use Rattle.strip_graph.specs.Slices.{slice_loop}
use Rattle.row_paths.specs.Solutions.{Solution, Solves}
use Rattle.section_pairs.specs.Pairs.{PairParts}
use Rattle.section_pairs.specs.SectionFaults.{ArePairs}
use Rattle.section_slices.specs.Roundings.{rounded_loop}
use Rattle.section_core.specs.Views.{spot_at}

abbrev pub no_pair : PairParts
no_pair = record {
  strip = record { low = []; low_ids = []; high = []; high_ids = []; cost = Span };
  gap = 0;
  below = [];
  above = [];
}

-- the pair at a place
abbrev pub pair_at : List PairParts → ℕ → PairParts
pair_at pairs k = slice_index_or pairs k no_pair

-- the difference of the two heights of gap g
abbrev pub rise : Parts → ℕ → ℕ
rise S g = unsigned_abs ((section_at S (g + 1)).z -ℤ (section_at S g).z)

abbrev pub is_in : ℕ → PairParts → Bool
is_in g p = p.gap == g

-- a pair of one contour below and one above
abbrev pub is_single : PairParts → Bool
is_single p = (length p.below == 1) && (length p.above == 1)

-- a gap has a pair, and each of its pairs has one contour below and one above
abbrev pub are_single : List PairParts → ℕ → Bool
are_single pairs g = list_any (is_in g) pairs && list_all (λ (p : PairParts). not (is_in g p) || is_single p) pairs

-- a gap is dense: its heights are at least 2 apart, and it has only such pairs
abbrev pub is_dense : Parts → List PairParts → ℕ → Bool
is_dense S pairs g = nat_le 2 (rise S g) && are_single pairs g

-- the pairs of dense gaps, in their order
abbrev pub dense_pairs : Parts → List PairParts → List PairParts
dense_pairs S pairs = filter (λ (p : PairParts). is_dense S pairs p.gap) pairs

-- the places of the pairs of gap g
abbrev pub pair_places_in : List PairParts → ℕ → List ℕ
pair_places_in pairs g = filter (λ k. is_in g (pair_at pairs k)) (range_with_len 0 (length pairs))

-- the height in the middle of gap g: half of its rise above the lower height, rounded down
abbrev pub middle_height : Parts → ℕ → ℤ
middle_height S g = (section_at S g).z +ℤ pos (rise S g / 2)

-- the name of the middle contour of the pair at a place: m, and the pair's number, counted from 1
abbrev pub middle_name : ℕ → List ℕ
middle_name k = codes "m" ++ decimal (k + 1)

-- the rounded loop at the middle height of a pair with its solution
abbrev pub middle_outline : Parts → PairParts → Solution → List Place
middle_outline S p x = rounded_loop (rise S p.gap) (slice_loop p.strip (rise S p.gap) (rise S p.gap / 2) x.row 0 x.word)

-- the spots are those of a pair at the middle height, from the solution of its strip
pub record IsMiddleOutline (S : Parts) (p : PairParts) (outline : List Place) : Type 0 where
  pub solution : Solution
  pub solves : Solves p.strip solution
  pub spots : outline ≡ middle_outline S p solution

-- the outline at a place; none past the end
abbrev pub outline_at : List (List Place) → ℕ → List Place
outline_at outlines k = slice_index_or outlines k []

-- an outline for each pair, which is its own if its gap is dense
pub record AreMiddleOutlines (S : Parts) (pairs : List PairParts) (outlines : List (List Place)) : Type 0 where
  pub count : length outlines ≡ length pairs
  pub each : (k : ℕ) → k < length pairs → is_dense S pairs (pair_at pairs k).gap ≡ true
      → IsMiddleOutline S (pair_at pairs k) (outline_at outlines k)

-- a contour through these spots
abbrev pub contour_through : List ℕ → List Place → ContourParts
contour_through name outline = record { name = name; count = pos (length outline); points = map spot_at outline }

-- the middle contour of the pair at a place
abbrev pub middle_contour : List (List Place) → ℕ → ContourParts
middle_contour outlines k = contour_through (middle_name k) (outline_at outlines k)

-- the section in the middle of gap g: a contour for each of its pairs, in order
abbrev pub middle_section : Parts → List PairParts → List (List Place) → ℕ → SectionParts
middle_section S pairs outlines g =
    record { z = middle_height S g; contours = map (middle_contour outlines) (pair_places_in pairs g) }

-- a section, and the middle section of the gap above it if that is dense
abbrev pub section_and_middle : Parts → List PairParts → List (List Place) → ℕ → List SectionParts
section_and_middle S pairs outlines g =
    section_at S g ∷ (if is_dense S pairs g then middle_section S pairs outlines g ∷ [] else [])

abbrev pub link : List ℕ → List ℕ → LinkParts
link below above = record { below = below; above = above }

-- the links of a pair of a dense gap: from its contour below to its middle contour, and from that to its contour above
abbrev pub pair_links : Layer → Layer → PairParts → ℕ → List LinkParts
pair_links low high p k =
    link (name_in low (slice_index p.below 0)) (middle_name k)
    ∷ link (middle_name k) (name_in high (slice_index p.above 0)) ∷ []

-- the links of all pairs of a gap, in order
abbrev pub dense_links : Layer → Layer → List PairParts → ℕ → List LinkParts
dense_links low high pairs g = flat_map (λ k. pair_links low high (pair_at pairs k) k) (pair_places_in pairs g)

-- the links of a contour below with those above that a row marks, in order
abbrev pub row_links : List ℕ → List (List ℕ) → (ℕ → Bool) → List LinkParts
row_links below names row =
    map (λ j. link below (slice_index_or names j [])) (filter row (range_with_len 0 (length names)))

-- the links of the contours that a table marks, by the place below, then above
abbrev pub marked_links : Layer → Layer → (ℕ → ℕ → Bool) → List LinkParts
marked_links low high table =
    flat_map (λ i. row_links (name_in low i) high.names (table i)) (range_with_len 0 (length low.names))

-- the table marks exactly the contours below and above gap g that correspond
abbrev pub MarksCorresponding : Parts → ℕ → (ℕ → ℕ → Bool) → Type 0
MarksCorresponding S g table =
    (i j : ℕ) → i < length (layer_at S g).names → j < length (layer_at S (g + 1)).names
    → (table i j ≡ true) ↔ Correspond S g i j

-- the links of gap g: of its pairs if it is dense, else of all contours that correspond
pub data AreLinksOf (S : Parts) (pairs : List PairParts) (g : ℕ) (links : List LinkParts) : Type 0 where
  of_dense : is_dense S pairs g ≡ true → links ≡ dense_links (layer_at S g) (layer_at S (g + 1)) pairs g
      → AreLinksOf S pairs g links
  of_other : is_dense S pairs g ≡ false → (table : ℕ → ℕ → Bool) → MarksCorresponding S g table
      → links ≡ marked_links (layer_at S g) (layer_at S (g + 1)) table → AreLinksOf S pairs g links

-- the links of each gap, from the first on
pub record AreLinksOfGaps (S : Parts) (pairs : List PairParts) (links : List (List LinkParts)) : Type 0 where
  pub count : length links + 1 ≡ length S.sections
  pub each : (g : ℕ) → g < length links → AreLinksOf S pairs g (slice_index_or links g [])

-- the parts: the given sections with the middle sections between them, and the links, gap by gap
abbrev pub densified : Parts → List PairParts → List (List Place) → List (List LinkParts) → Parts
densified S pairs outlines links = record {
  cost = S.cost;
  rule = Links;
  sections = flat_map (section_and_middle S pairs outlines) (range_with_len 0 (length S.sections));
  links = flat_map (λ (ls : List LinkParts). ls) links;
}

-- T is S with a rounded section in the middle of each dense gap
pub record IsDensified (S T : Parts) : Type 0 where
  pub pairs : List PairParts
  pub are_pairs : ArePairs S pairs
  pub outlines : List (List Place)
  pub are_outlines : AreMiddleOutlines S pairs outlines
  pub links : List (List LinkParts)
  pub are_links : AreLinksOfGaps S pairs links
  pub parts : T ≡ densified S pairs outlines links

-- the height of a section is one of S
abbrev pub is_at_height_of : Parts → SectionParts → Bool
is_at_height_of S s = list_any (λ (o : SectionParts). int_eq o.z s.z) S.sections
