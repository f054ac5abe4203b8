-- The rows of a table, and the contours of pairs, as the code reads them.
use Rattle.std.proofs.Common.{◌≡◌, ℕ, ◌+◌, ◌<◌, Bool, List, [], ◌∷◌, length, map, get_or, sym, ap, ap₂, ◌∙◌, arith, subst, Vec}
use Rattle.std.specs.Global.{Global}
use Rattle.std.specs.Prelude.{slice_index}
use Rattle.std.specs.List.{AllByRecursion}
use Rattle.std.proofs.lemmas.List.{get_or-map, length-map}
use Rattle.section_core.specs.declared.parts.Contour.{Contour}
use Rattle.section_core.specs.declared.parts.Section.{Section}
use Rattle.section_core.specs.Parts.{Parts}
use Rattle.correspondence.specs.Contours.{points_of}
use Rattle.correspondence.specs.Outlines.{Layer, layer_at, held_layer, name_in}
use Rattle.correspondence.specs.Graphs.{table_of, mark, cell}
use Rattle.correspondence.proofs.Held.{at_place}
use Rattle.section_pairs.specs.declared.gap_pairs.GapPair.{GapPair}
use Rattle.section_pairs.specs.Pairs.{pair_parts}
use Rattle.section_pairs.specs.SectionFaults.{ArePairs}
use Rattle.surface_core.proofs.JoinedPlaces.{IsJoint, joints, count}
use Rattle.section_slices.specs.Densified.{row_links}
use Rattle.section_slices.specs.Marks.{IsPairBetween}

abbrev name_of : Contour → List ℕ
name_of k = k.name

pub row_read : (low high : Section) (table : List (Vec Bool Global)) (lows highs : List Contour) (i : ℕ) (k : Contour)
    (row : List Bool) (v : Vec Bool Global) → lows ≡ low.contours.items → highs ≡ high.contours.items → i < length lows
    → k ≡ get_or lows i k
    → i < length table → v ≡ get_or table i v → row ≡ v.items
    → row_links k.name (map name_of highs) (mark row)
    ≡ row_links (name_in (held_layer low) i) (held_layer high).names (cell (table_of table) i)
row_read low high table lows highs i k row v el eh l ek lt ev er =
    let name : k.name ≡ name_in (held_layer low) i = ap name_of ek ∙ sym (get_or-map name_of lows i k [] l)
    ∙ ap (λ (xs : List Contour). get_or (map name_of xs) i []) el in
    let marks : row ≡ get_or (table_of table) i [] = er ∙ ap (λ (u : Vec Bool Global). u.items) ev
    ∙ sym (get_or-map (λ (u : Vec Bool Global). u.items) table i v [] lt) in
    ap₂ (λ (n : List ℕ) (xs : List Contour). row_links n (map name_of xs) (mark row)) name eh
    ∙ ap (λ (r : List Bool). row_links (name_in (held_layer low) i) (held_layer high).names (mark r)) marks

first_below : (xs : List ℕ) (n : ℕ) → AllByRecursion (λ k. k < n) xs → 0 < length xs → slice_index xs 0 < n
first_below [] n h l = absurd (omega arith)
first_below (x ∷ xs) n h l = h.0

-- how many contours a section has
counted : (S : Parts) (g : ℕ) (s : Section) → layer_at S g ≡ held_layer s → count S g ≡ length s.contours.items
counted S g s e = ap (λ (x : Layer). length x.outlines) e ∙ length-map s.contours.items points_of

pub within : (S : Parts) (ps : List GapPair) (g : ℕ) (low high : Section) → ArePairs S (map pair_parts ps)
    → layer_at S g ≡ held_layer low → layer_at S (g + 1) ≡ held_layer high
    → (k : ℕ) (d : GapPair) → k < length ps → (get_or ps k d).gap ≡ g
    → IsPairBetween low high (pair_parts (get_or ps k d))
within S ps g low high h el eh k d l e =
    let p : GapPair = get_or ps k d in
    let there : k < length (map pair_parts ps) = omega (arith, l, length-map ps pair_parts) in
    let j : IsJoint S (pair_parts p) =
    subst (IsJoint S) (get_or-map pair_parts ps k d (pair_parts d) l)
    (at_place (IsJoint S) (map pair_parts ps) k (pair_parts d) (joints S (map pair_parts ps) h) there) in
    record {
      some_below = j.some_below;
      some_above = j.some_above;
      below = omega (
        arith,
        first_below p.below.items (count S p.gap) j.below j.some_below,
        ap (count S) e,
        counted S g low el,
      );
      above = omega (
        arith,
        first_below p.above.items (count S (p.gap + 1)) j.above j.some_above,
        ap (λ (n : ℕ). count S (n + 1)) e,
        counted S (g + 1) high eh,
      );
    }
