-- Parts stay ready if the contour of a name is removed, and the links that name it.
use Rattle.std.proofs.Common.{◌≡◌, ℕ, ℤ, Bool, List, [], ◌∷◌, ◌++◌, length, map, refl, sym, ap, ◌∙◌, subst, arith}
use Rattle.std.specs.Prelude.{filter, not}
use Rattle.std.specs.List.{AllByRecursion}
use Rattle.std.proofs.lemmas.List.Elements.{filter-append}
use Rattle.std.proofs.lemmas.List.Sums.{length-filter, count_by-le-length}
use Rattle.fku_types.specs.Points.{IsCoordinate}
use Rattle.fku_types.specs.declared.rules.PairRule.{PairRule}
use Rattle.fku_types.specs.declared.rules.PairRule.TheVariants.{Overlap, Links}
use Rattle.fku_types.proofs.ListLaws.{all_filter}
use Rattle.section_core.specs.Parts.{ContourParts, SectionParts, LinkParts, Parts, IsLink, IsLinked, contours_of}
use Rattle.section_core.specs.Laws.{AreDistinct, AreRising, heights}
use Rattle.section_edits.specs.Contours.{has_name}
use Rattle.section_edits.specs.Changes.{dropped_in, names_it, without}
use Rattle.section_edits.specs.Ready.{IsWholeContour, IsReadyParts}
use Rattle.section_edits.proofs.Lawful.{name_of}
use Rattle.section_edits.proofs.DistinctNames.{distinct_filter}

dropped_heights : (name : List ℕ) (ss : List SectionParts) → heights (map (dropped_in name) ss) ≡ heights ss
dropped_heights name [] = refl
dropped_heights name (s ∷ ss) = ap (λ (zs : List ℤ). s.z ∷ zs) (dropped_heights name ss)

abbrev Other : List ℕ → ContourParts → Bool
Other name c = not (has_name name c)

dropped_contours : (name : List ℕ) (ss : List SectionParts)
    → contours_of (map (dropped_in name) ss) ≡ filter (Other name) (contours_of ss)
dropped_contours name [] = refl
dropped_contours name (s ∷ ss) =
    ap (λ (cs : List ContourParts). filter (Other name) s.contours ++ cs) (dropped_contours name ss)
    ∙ sym (filter-append (Other name) s.contours (contours_of ss))

linked_filter : (rule : PairRule) (p : LinkParts → Bool) (ls : List LinkParts) → IsLinked rule ls
    → IsLinked rule (filter p ls)
linked_filter Overlap p ls h = ap (filter p) h
linked_filter Links p ls h = all_filter IsLink p ls h

pub ready_dropped : (S : Parts) (name : List ℕ) → IsReadyParts S → IsReadyParts (without name S)
ready_dropped S name r =
    let ss = S.sections in
    let tall = dropped_heights name ss in
    let stays : LinkParts → Bool = λ l. not (names_it name l) in
    record {
      contours = subst (AllByRecursion IsWholeContour) (sym (dropped_contours name ss))
          (all_filter IsWholeContour (Other name) (contours_of ss) r.contours);
      names = subst (λ (cs : List ContourParts). AreDistinct (map name_of cs)) (sym (dropped_contours name ss))
          (distinct_filter (Other name) (contours_of ss) r.names);
      in_range = subst (AllByRecursion IsCoordinate) (sym tall) r.in_range;
      rising = subst AreRising (sym tall) r.rising;
      few_sections = omega (arith, ap length tall, r.few_sections);
      links = linked_filter S.rule stays S.links r.links;
      few_links = omega (arith, length-filter stays S.links, count_by-le-length stays S.links, r.few_links);
      weights = r.weights;
    }
