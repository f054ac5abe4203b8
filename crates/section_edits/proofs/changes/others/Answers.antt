use Rattle.std.proofs.Common.{◌≡◌, ◌++◌, ◌∷◌, [], true, false, Vec, map, ap, sym, ◌∙◌, Bool, All, subst}
use Rattle.std.specs.Global.{Global}
use Rattle.std.specs.Prelude.{not}
use Rattle.std.proofs.lemmas.List.Elements.{All-same}
use Rattle.fku_types.proofs.ListLaws.{all_pushed}
use Rattle.section_core.specs.declared.parts.Contour.{Contour}
use Rattle.section_core.specs.Flat.{IsAtHeight}
use Rattle.section_core.specs.Parts.{ContourParts}
use Rattle.section_core.specs.Views.{contour_parts}
use Rattle.section_edits.specs.Contours.{has_name}
use Rattle.section_edits.proofs.Pushes.{kept, passed}
use Rattle.section_edits.proofs.changes.others.Goals.{then-not-has_name+in_ok-copy+in_ok-push, else-not-has_name}
use Rattle.section_edits.proofs.changes.others.Goals as goal

pub loop-contour-preserved : goal.loop-contour-preserved
loop-contour-preserved c =
    let p : ContourParts → Bool = λ k. not (has_name c.args.name.now k) in
    let xs = c.deref-contour-items.result.now in
    let x = c.contour-item.result in
    let i = c.loop-contour.contour-index in
    let z = c.args.section.now.z in
    let old = c.loop-contour.contours.items in
    let new = c.if-not-has_name.contours.items in
    let inv = c.loop-contour.invariant in
    let all : All (IsAtHeight z) xs = All-same (IsAtHeight z) xs c.args.section.now.contours.items
    c.deref-contour-items.ensures.value c.requires in
    let flat : IsAtHeight z x = subst (IsAtHeight z) (sym c.contour-item.is) (all i x c.loop-contour-test.true) in
    elim c.if-not-has_name.branch [
      | then-not-has_name+in_ok-copy+in_ok-push w ↦
          let y = w.in_ok-copy.field-0 in
          let more : new ≡ old ++ y ∷ [] = ap (λ (v : Vec Contour Global). v.items) w.contours-is
          ∙ w.in_ok-push.ensures.items in
          let passes : p (contour_parts x) ≡ true = ap not (sym c.has_name.ensures ∙ w.if-not-has_name.true) in
          record {
            parts = kept contour_parts contour_parts p old new y xs i x c.loop-contour-test.true c.contour-item.is more
                inv.parts passes w.in_ok-copy.ensures.parts;
            level = all_pushed (IsAtHeight z) old new y more inv.level (w.in_ok-copy.ensures.level z flat);
          }
      | else-not-has_name w ↦
          let same : new ≡ old = ap (λ (v : Vec Contour Global). v.items) w.contours-is in
          let fails : p (contour_parts x) ≡ false = ap not (sym c.has_name.ensures ∙ w.if-not-has_name.false) in
          record {
            parts = ap (map contour_parts) same
                ∙ passed contour_parts contour_parts p old xs i x c.loop-contour-test.true c.contour-item.is inv.parts
                fails;
            level = All-same (IsAtHeight z) new old same inv.level;
          }
    ]
