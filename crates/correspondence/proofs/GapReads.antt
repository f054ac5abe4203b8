-- The components of rows are those of the gap.
use Rattle.std.proofs.Common.{◌≡◌, ◌↔◌, ℕ, ◌+◌, ◌<◌, Bool, List, length, map, get_or, sym, ap, ◌∙◌, subst, subst₂, arith, Vec, All}
use Rattle.std.specs.Global.{Global}
use Rattle.std.proofs.lemmas.List.{length-map}
use Rattle.fku_types.specs.declared.rules.PairRule.{PairRule}
use Rattle.section_core.specs.declared.parts.Section.{Section}
use Rattle.section_core.specs.Parts.{LinkParts, Parts}
use Rattle.section_core.specs.Views.{section_parts}
use Rattle.section_core.specs.Flat.{AreFlat}
use Rattle.section_core.specs.Accepted.{IsAccepted}
use Rattle.correspondence.specs.Contours.{AreOutlines}
use Rattle.correspondence.specs.Outlines.{Layer, layer_at}
use Rattle.correspondence.specs.Correspondences.{Agree, Correspond}
use Rattle.correspondence.specs.Components.{Members, AreComponents}
use Rattle.correspondence.specs.Graphs.{table_of, cell_links, AreRows}
use Rattle.correspondence.proofs.TableNodes.{cell_row}
use Rattle.correspondence.proofs.Adjacent.{row_of}
use Rattle.correspondence.proofs.Held.{sections_within}
use Rattle.correspondence.proofs.Transferred.{same_components}

pub rows_columns : (rows : List (Vec Bool Global)) (n m : ℕ) (R : ℕ → ℕ → Type 0) → AreRows (table_of rows) n m R
    → All (λ v. length v.items ≡ m) rows
rows_columns rows n m R a k d l =
    let r = row_of rows k l in
    ap (λ (v : Vec Bool Global). length v.items) (r.2 d) ∙ sym (ap length r.1)
    ∙ a.columns k (omega (arith, a.rows, length-map rows (λ (v : Vec Bool Global). v.items)))

pub gap_components : (S : Parts) (g n m : ℕ) (table : List (List Bool)) (rule : PairRule) (links : List LinkParts)
    (low high : Layer) (cs : List Members) → layer_at S g ≡ low → layer_at S (g + 1) ≡ high → rule ≡ S.rule
    → links ≡ S.links
    → n ≡ length low.outlines → m ≡ length high.outlines → AreRows table n m (Agree rule links low high)
    → AreComponents (cell_links table) n m cs
    → AreComponents (Correspond S g) (length (layer_at S g).outlines) (length (layer_at S (g + 1)).outlines) cs
gap_components S g n m table rule links low high cs el eh er ek en em rows h =
    let n' : n ≡ length (layer_at S g).outlines = en ∙ ap (λ (l : Layer). length l.outlines) (sym el) in
    let m' : m ≡ length (layer_at S (g + 1)).outlines = em ∙ ap (λ (l : Layer). length l.outlines) (sym eh) in
    let a = subst (λ (r : PairRule). AreRows table n m (Agree r links low high)) er rows in
    let b = subst (λ (k : List LinkParts). AreRows table n m (Agree S.rule k low high)) ek a in
    let c = subst (λ (l : Layer). AreRows table n m (Agree S.rule S.links l high)) (sym el) b in
    let d = subst (λ (l : Layer). AreRows table n m (Agree S.rule S.links (layer_at S g) l)) (sym eh) c in
    let same : (i j : ℕ) → cell_links table i j ↔ Correspond S g i j = λ i j. (
      λ t.
          let r = cell_row table i j t in
          let li : i < n = omega (arith, r.0, d.rows) in
          let lj : j < m = omega (arith, r.1, d.columns i li) in
          record { below = omega (arith, li, n'); above = omega (arith, lj, m'); agree = (d.cells i j li lj).0 t },
      λ k. (d.cells i j (omega (arith, k.below, n')) (omega (arith, k.above, m'))).1 k.agree,
    ) in
    subst₂ (λ (x y : ℕ). AreComponents (Correspond S g) x y cs) n' m'
    (same_components (cell_links table) (Correspond S g) same n m cs h)

-- a section of a text keeps the limits
pub section_within : (ss : List Section) (S : Parts) (k : ℕ) (s : Section) → map section_parts ss ≡ S.sections
    → AreFlat ss → IsAccepted S → k < length S.sections → s ≡ get_or ss k s → AreOutlines s.contours.items
section_within ss S k s e f a l r =
    subst (λ (x : Section). AreOutlines x.contours.items) (sym r)
    (sections_within ss S e f a k s (omega (arith, ap length e, length-map ss section_parts)))
