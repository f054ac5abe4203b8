use Rattle.std.proofs.Common.{◌≡◌, ◌∙◌, ◌<◌, ◌++◌, ◌∷◌, [], ap, ap₂, sym, arith, map, flat_map, length, ℕ, List, Vec, Bool, true, false, cond, append_assoc, subst, All, filter}
use Rattle.std.specs.Global.{Global}
use Rattle.std.specs.List.{range_with_len}
use Rattle.std.proofs.lemmas.List.{map-append}
use Rattle.std.proofs.lemmas.List.Elements.{recursion_from_All}
use Rattle.fku_types.specs.declared.points.Point.{Point}
use Rattle.fku_types.proofs.ListLaws.{all_pushed}
use Rattle.section_core.specs.declared.parts.Section.{Section}
use Rattle.section_core.specs.Parts.{SectionParts}
use Rattle.section_core.specs.Flat.{IsLevelSection}
use Rattle.section_core.specs.ValidSections.{IsValidSection}
use Rattle.section_core.specs.Views.{section_parts}
use Rattle.correspondence.specs.Outlines.{section_at}
use Rattle.section_pairs.specs.Pairs.{pair_parts}
use Rattle.section_slices.specs.Densified.{is_dense, middle_section, section_and_middle, is_at_height_of}
use Rattle.section_slices.specs.Marks.{outlines_of}
use Rattle.section_slices.proofs.Lists.{flat_more}
use Rattle.section_slices.proofs.DenseGaps.{marked, count_marks}
use Rattle.section_slices.proofs.Outlines.{dense_rise}
use Rattle.section_slices.proofs.Heights.{old_sections}
use Rattle.section_slices.proofs.SectionReads.{count_is, section_read, dense_below}
use Rattle.section_slices.proofs.middles.with_middles.Goals.{then-dense-gap+in_ok-middle+in_ok-push-2, else-dense-gap}
use Rattle.section_slices.proofs.middles.with_middles.Goals as goal

pub bounds-dense-gap : goal.bounds-dense-gap
bounds-dense-gap c =
    let S = c.args.sections.now in
    omega (
      arith,
      c.loop-gap-test.true,
      count_is S c.sections-all.result.now c.sections-all.ensures.parts,
      count_marks S (map pair_parts c.args.pairs.now) c.args.dense.now c.requires.dense,
    )

pub middle_section-requires-clause-gap : goal.middle_section-requires-clause-gap
middle_section-requires-clause-gap c =
    let S = c.args.sections.now in
    let g = c.loop-gap.gap in
    let there : g < length S.sections =
    omega (arith, c.loop-gap-test.true, count_is S c.sections-all.result.now c.sections-all.ensures.parts) in
    dense_below S g c.args.pairs.now c.requires.gaps
    (sym (marked S (map pair_parts c.args.pairs.now) c.args.dense.now g false c.requires.dense there)
    ∙ c.if-dense-gap.true)

-- one section is pushed, and perhaps another one
two : (old : List SectionParts) (a b : SectionParts) → (old ++ a ∷ []) ++ b ∷ [] ≡ old ++ a ∷ b ∷ []
two old a b = append_assoc old (a ∷ []) (b ∷ [])

pub loop-gap-preserved : goal.loop-gap-preserved
loop-gap-preserved c =
    let S = c.args.sections.now in
    let ps = map pair_parts c.args.pairs.now in
    let outlines = outlines_of c.args.outlines.now in
    let ss = c.sections-all.result.now in
    let g = c.loop-gap.gap in
    let old = c.loop-gap.made.items in
    let one = c.push.new.self.items in
    let new = c.if-dense-gap.made.items in
    let y = c.in_ok-copy.field-0 in
    let inv = c.loop-gap.invariant in
    let there : g < length S.sections =
    omega (arith, c.loop-gap-test.true, count_is S ss c.sections-all.ensures.parts) in
    let mark = marked S ps c.args.dense.now g false c.requires.dense there in
    let read : section_parts y ≡ section_at S g = c.in_ok-copy.ensures.parts
    ∙ sym (section_read S ss g c.index-all-gap.result c.sections-all.ensures.parts c.loop-gap-test.true
    c.index-all-gap.is) in
    let first : map section_parts one ≡ map section_parts old ++ section_parts y ∷ [] =
    ap (map section_parts) c.in_ok-push.ensures.items ∙ map-append section_parts old (y ∷ []) in
    let before = ap₂ (λ (ls : List SectionParts) (a : SectionParts). ls ++ a ∷ []) inv.parts read in
    let more = flat_more (section_and_middle S ps outlines) g in
    let x = c.index-all-gap.result in
    let valid : IsValidSection x = subst IsValidSection (sym c.index-all-gap.is)
    (c.sections-all.ensures.kept.each g x c.loop-gap-test.true) in
    let flat : IsLevelSection x = λ k d l.
    recursion_from_All (λ (p : Point). p.z ≡ x.z) _ (valid.contours k d l).level in
    let level = all_pushed IsLevelSection old one y c.in_ok-push.ensures.items inv.level
    (c.in_ok-copy.ensures.level flat) in
    elim c.if-dense-gap.branch [
      | then-dense-gap+in_ok-middle+in_ok-push-2 w ↦ (
          let m = w.in_ok-middle.middle in
          let pushed = ap (λ (v : Vec Section Global). v.items) w.made-is ∙ w.in_ok-push-2.ensures.items in
          let yes : is_dense S ps g ≡ true = sym mark ∙ w.if-dense-gap.true in
          record {
            parts = ap (map section_parts) pushed ∙ map-append section_parts one (m ∷ [])
                ∙ ap₂ (λ (ls : List SectionParts) (a : SectionParts). ls ++ a ∷ []) (first ∙ before)
                w.in_ok-middle.ensures.parts
                ∙ two (flat_map (section_and_middle S ps outlines) (range_with_len 0 g)) (section_at S g)
                (middle_section S ps outlines g) ∙ sym
                (more ∙ ap (λ (b : Bool). flat_map (section_and_middle S ps outlines) (range_with_len 0 g)
                ++ section_at S g ∷ cond b (middle_section S ps outlines g ∷ []) []) yes);
            level = all_pushed IsLevelSection one new m pushed level w.in_ok-middle.ensures.level;
          }
          )
      | else-dense-gap w ↦ (
          let same = ap (λ (v : Vec Section Global). v.items) w.made-is in
          let no : is_dense S ps g ≡ false = sym mark ∙ w.if-dense-gap.false in
          record {
            parts = ap (map section_parts) same ∙ first ∙ before
                ∙ sym (more ∙ ap (λ (b : Bool). flat_map (section_and_middle S ps outlines) (range_with_len 0 g)
                ++ section_at S g ∷ cond b (middle_section S ps outlines g ∷ []) []) no);
            level = subst (λ (ls : List Section). All IsLevelSection ls) (sym same) level;
          }
          )
    ]

pub returns-clause-parts : goal.returns-clause-parts
returns-clause-parts c =
    let S = c.args.sections.now in
    let all : c.loop-gap.gap ≡ length S.sections =
    omega (
      arith,
      c.loop-gap-test.false,
      c.loop-gap.auto.gap-end,
      count_is S c.sections-all.result.now c.sections-all.ensures.parts,
    ) in
    c.loop-gap.invariant.parts ∙ ap (λ (n : ℕ).
    flat_map (section_and_middle S (map pair_parts c.args.pairs.now) (outlines_of c.args.outlines.now))
    (range_with_len 0 n)) all

pub returns-clause-old : goal.returns-clause-old
returns-clause-old c =
    let S = c.args.sections.now in
    let ps = c.args.pairs.now in
    ap (filter (is_at_height_of S)) (returns-clause-parts c)
    ∙ old_sections S (map pair_parts ps) (outlines_of c.args.outlines.now)
    (c.sections-all.ensures.accepted).lawful.rising
    (λ g l d. (dense_below S g ps c.requires.gaps d, dense_rise S (map pair_parts ps) g d))
