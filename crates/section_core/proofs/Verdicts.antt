-- `first_broken` finds the first law that one more item breaks, and none where the laws are kept.
use Rattle.std.proofs.Common.{◌≡◌, ℕ, ◌+◌, ◌<◌, ◌≤◌, cond, not, ◌&&◌, List, [], ◌∷◌, ◌++◌, length, ℤ, pos, ◌≤ℤ◌, Option, None, Some, refl, sym, ◌∙◌, arith, MatchOption}
use Rattle.std.specs.Prelude.{int_le, nat_le, nat_lt}
use Rattle.std.specs.List.{AllByRecursion, sum_by, list_any}
use Rattle.std.proofs.lemmas.List.{length-append}
use Rattle.std.proofs.lemmas.List.Sums.{sum_by-append}
use Rattle.std.proofs.lemmas.Bool.{and_parts, and_from, cond_both, false≢true, not-true, not-false}
use Rattle.std.proofs.lemmas.Bool.Decides.{nat_tests}
use Rattle.fku_types.specs.declared.limits.TheConstants.{MAX_CONTOURS, MAX_CONTOUR_VERTICES, MAX_LINKS, MAX_OBJECTS, MAX_SECTIONS, MAX_SECTION_VERTICES, MAX_VERTICES}
use Rattle.fku_types.specs.declared.fault.LimitName.TheVariants as limit
use Rattle.section_core.specs.declared.parts.Version.TheVariants.{One, Two}
use Rattle.section_core.specs.Parts.{Spot, CostParts, asked}
use Rattle.fku_types.specs.Points.{IsCoordinate}
use Rattle.section_core.specs.Laws.{Facts, Law, in_range, name_once, rising, within, law_order, Keeps, KeepsAll, BreaksFirst, IsSpot, IsMix, weights, AreDistinct, AreRising, IsPointCount}
use Rattle.section_core.specs.Machine.{Item, version, cost_is, rule_is, object, section, contour, point, link, finish, same}
use Rattle.section_core.specs.Steps.{after, last, push_last, last_list, is_coordinate, is_weighted, is_above, first_broken}
use Rattle.fku_types.proofs.ListLaws.{all_rest, all_join}
use Rattle.section_core.proofs.FactsBefore.{push_last-length}
use Rattle.section_core.proofs.ItemTests.{le_test, coordinate_is, coordinate_test, distinct_push, distinct_not, few_add, few_not, few_sections, all_in_range, last_in_range, all_rise, last_rises, asked_few}
use Rattle.fku_types.proofs.TruthLaws.{int_le_is}
use Rattle.section_core.proofs.WeightTests.{weighted_is, weighted_test}

abbrev pub Verdict : Facts → Option Law → Type 0
Verdict f o = MatchOption o (KeepsAll law_order f) (λ law. BreaksFirst law f)

-- an object begins
begins_keeps : (f : Facts) (objects : List (List ℕ)) → AreDistinct objects → length objects ≤ MAX_OBJECTS
    → KeepsAll law_order f → KeepsAll law_order (record f { objects = objects; heights = f.heights ++ [] ∷ [] })
begins_keeps f objects apart few k =
    let same : sum_by length (f.heights ++ [] ∷ []) ≡ sum_by length f.heights =
    omega (arith, sum_by-append {X = List ℤ} length f.heights ([] ∷ [])) in (
      (all_join (AllByRecursion IsCoordinate) f.heights ([] ∷ []) k.0.0 (tt, tt), k.0.1, k.0.2),
      (
        (k.1.0.0, apart),
        (
          all_join AreRising f.heights ([] ∷ []) k.1.1.0 (tt, tt),
          (
            k.1.1.1.0,
            (
              k.1.1.1.1.0,
              (
                k.1.1.1.1.1.0,
                (k.1.1.1.1.1.1.0, (omega (arith, same, k.1.1.1.1.1.1.1.0), (k.1.1.1.1.1.1.1.1.0, (few, tt)))),
              ),
            ),
          ),
        ),
      ),
    )

object_verdict : (f : Facts) (name : List ℕ) → KeepsAll law_order f
    → Verdict (after f (object name)) (first_broken f (object name))
object_verdict f name k =
    let g = after f (object name) in
    let longer : length (f.objects ++ name ∷ []) ≡ length f.objects + 1 =
    omega (arith, length-append f.objects (name ∷ [])) in
    let even : sum_by length (f.heights ++ [] ∷ []) ≡ sum_by length f.heights =
    omega (arith, sum_by-append {X = List ℤ} length f.heights ([] ∷ [])) in
    let ranges : Keeps in_range g = (
      all_join (AllByRecursion IsCoordinate) f.heights ([] ∷ []) k.0.0 (tt, tt),
      k.0.1,
      k.0.2,
    ) in
    let rises : Keeps rising g = all_join AreRising f.heights ([] ∷ []) k.1.1.0 (tt, tt) in
    cond_both (list_any (same name) f.objects) _ _ (Verdict g)
    (λ e. (1, refl, (ranges, tt), λ h. false≢true (sym (distinct_not f.objects name h.1) ∙ e)))
    (λ e.
    let apart : AreDistinct (f.objects ++ name ∷ []) = distinct_push f.objects name e k.1.0.1 in
    cond_both (nat_le MAX_OBJECTS (length f.objects)) _ _ (Verdict g)
    (λ l. (
      9,
      refl,
      (
        ranges,
        (
          (k.1.0.0, apart),
          (
            rises,
            (
              k.1.1.1.0,
              (
                k.1.1.1.1.0,
                (
                  k.1.1.1.1.1.0,
                  (k.1.1.1.1.1.1.0, (omega (arith, even, k.1.1.1.1.1.1.1.0), (k.1.1.1.1.1.1.1.1.0, tt))),
                ),
              ),
            ),
          ),
        ),
      ),
      λ h. let full : MAX_OBJECTS ≤ length f.objects = grind (arith, nat_tests) in
          absurd (omega (arith, h, longer, full)),
    ))
    (λ l.
    let room : length f.objects < MAX_OBJECTS = grind (arith, nat_tests) in
    begins_keeps f (f.objects ++ name ∷ []) apart (omega (arith, longer, room)) k))

section_verdict : (f : Facts) (z : ℤ) → KeepsAll law_order f
    → Verdict (after f (section z)) (first_broken f (section z))
section_verdict f z k =
    let g = after f (section z) in
    let ranges = k.0 in
    let names-once = k.1.0 in
    let few = few_sections f.sums k.1.1.1.1.0 in
    cond_both (not (is_coordinate z)) _ _ (Verdict g)
    (λ e. (
      0,
      refl,
      tt,
      λ h. false≢true
          (sym (not-true (is_coordinate z) e) ∙ coordinate_test z (last_in_range f.heights z h.0)),
    ))
    (λ e.
    let in-range : Keeps in_range g = (
      all_in_range f.heights z (coordinate_is z (not-false (is_coordinate z) e))
          ranges.0,
      ranges.1,
      ranges.2,
    ) in
    cond_both (not (is_above (last_list f.heights) z)) _ _ (Verdict g)
    (λ a. (
      2,
      refl,
      (in-range, (names-once, tt)),
      λ h. false≢true (sym (not-true (is_above (last_list f.heights) z) a) ∙ last_rises f.heights z h),
    ))
    (λ a.
    let rises : Keeps rising g = all_rise f.heights z (not-false (is_above (last_list f.heights) z) a) k.1.1.0 in
    let longer : sum_by length (push_last f.heights z) ≡ sum_by length f.heights + 1 = push_last-length f.heights z in
    cond_both (nat_le MAX_SECTIONS (sum_by length f.heights)) _ _ (Verdict g)
    (λ l. (
      7,
      refl,
      (in-range, (names-once, (rises, (k.1.1.1.0, (few, (k.1.1.1.1.1.0, (k.1.1.1.1.1.1.0, tt))))))),
      λ h. let full : MAX_SECTIONS ≤ sum_by length f.heights = grind (arith, nat_tests) in
          absurd (omega (arith, h, longer, full)),
    ))
    (λ l.
    let room : sum_by length f.heights < MAX_SECTIONS = grind (arith, nat_tests) in (
      in-range,
      (
        names-once,
        (
          rises,
          (
            k.1.1.1.0,
            (few, (k.1.1.1.1.1.0, (k.1.1.1.1.1.1.0, (omega (arith, longer, room), k.1.1.1.1.1.1.1.1)))),
          ),
        ),
      ),
    ))))

contour_verdict : (f : Facts) (name : List ℕ) (count : ℤ) → KeepsAll law_order f
    → Verdict (after f (contour name count)) (first_broken f (contour name count))
contour_verdict f name count k =
    let g = after f (contour name count) in
    let Of : ℤ → Type 0 = IsPointCount in
    let ranges = k.0 in
    let rises = k.1.1.0 in
    let total : sum_by asked (f.counts ++ count ∷ []) ≡ sum_by asked f.counts + asked count =
    omega (arith, sum_by-append asked f.counts (count ∷ [])) in
    let longer : length (f.names ++ name ∷ []) ≡ length f.names + 1 =
    omega (arith, length-append f.names (name ∷ [])) in
    cond_both (list_any (same name) f.names) _ _ (Verdict g)
    (λ e. (1, refl, (ranges, tt), λ h. false≢true (sym (distinct_not f.names name h.0) ∙ e)))
    (λ e.
    let apart : Keeps name_once g = (distinct_push f.names name e k.1.0.0, k.1.0.1) in
    cond_both (not (int_le (pos 3) count && int_le count (pos MAX_CONTOUR_VERTICES))) _ _ (Verdict g)
    (λ a. (
      3,
      refl,
      (ranges, (apart, (rises, tt))),
      λ h. let here = (all_rest Of f.counts (count ∷ []) h).0 in
          false≢true (sym (not-true _ a) ∙ and_from (int_le (pos 3) count) (int_le count (pos MAX_CONTOUR_VERTICES))
          (le_test _ _ here.0) (le_test _ _ here.1)),
    ))
    (λ a.
    let both = and_parts (int_le (pos 3) count) (int_le count (pos MAX_CONTOUR_VERTICES)) (not-false _ a) in
    let low : pos 3 ≤ℤ count = int_le_is _ _ both.0 in
    let high : count ≤ℤ pos MAX_CONTOUR_VERTICES = int_le_is _ _ both.1 in
    let small : asked count ≤ MAX_CONTOUR_VERTICES = asked_few count low high in
    let counted : Keeps (within limit.ContourVertices) g =
    all_join Of f.counts (count ∷ []) k.1.1.1.0 ((low, high), tt) in
    cond_both (nat_lt MAX_SECTION_VERTICES (last f.sums + asked count)) _ _ (Verdict g)
    (λ s. (
      4,
      refl,
      (ranges, (apart, (rises, (counted, tt)))),
      λ h. let over : MAX_SECTION_VERTICES < last f.sums + asked count = grind (arith, nat_tests) in let kept =
          few_not f.sums (asked count) (omega arith) h in absurd (omega arith),
    ))
    (λ s.
    let within-section : last f.sums + asked count ≤ MAX_SECTION_VERTICES = grind (arith, nat_tests) in
    let few : Keeps (within limit.SectionVertices) g = few_add f.sums (asked count) within-section k.1.1.1.1.0 in
    cond_both (nat_lt MAX_VERTICES (sum_by asked f.counts + asked count)) _ _ (Verdict g)
    (λ v. (
      5,
      refl,
      (ranges, (apart, (rises, (counted, (few, tt))))),
      λ h. let over : MAX_VERTICES < sum_by asked f.counts + asked count = grind (arith, nat_tests) in
          absurd (omega (arith, h, total, over)),
    ))
    (λ v.
    let within-all : sum_by asked f.counts + asked count ≤ MAX_VERTICES = grind (arith, nat_tests) in
    let all : Keeps (within limit.Vertices) g = omega (arith, total, within-all) in
    cond_both (nat_le MAX_CONTOURS (length f.names)) _ _ (Verdict g)
    (λ c. (
      6,
      refl,
      (ranges, (apart, (rises, (counted, (few, (all, tt)))))),
      λ h. let full : MAX_CONTOURS ≤ length f.names = grind (arith, nat_tests) in
          absurd (omega (arith, h, longer, full)),
    ))
    (λ c.
    let room : length f.names < MAX_CONTOURS = grind (arith, nat_tests) in
    (ranges, (apart, (rises, (counted, (few, (all, (omega (arith, longer, room), k.1.1.1.1.1.1.1))))))))))))

point_verdict : (f : Facts) (p : Spot) → KeepsAll law_order f → Verdict (after f (point p)) (first_broken f (point p))
point_verdict f p k =
    let g = after f (point p) in
    cond_both (not (is_coordinate p.0 && is_coordinate p.1)) _ _ (Verdict g)
    (λ e. (
      0,
      refl,
      tt,
      λ h. let here = (all_rest IsSpot f.points (p ∷ []) h.1).0 in
          false≢true (sym (not-true _ e) ∙ and_from (is_coordinate p.0) (is_coordinate p.1) (coordinate_test p.0 here.0)
          (coordinate_test p.1 here.1)),
    ))
    (λ e.
    let both = and_parts (is_coordinate p.0) (is_coordinate p.1) (not-false _ e) in (
      (
        k.0.0,
        all_join IsSpot f.points (p ∷ []) k.0.1 ((coordinate_is p.0 both.0, coordinate_is p.1 both.1), tt),
        k.0.2,
      ),
      k.1,
    ))

link_verdict : (f : Facts) (n : ℕ) → KeepsAll law_order f
    → MatchOption (cond (nat_le MAX_LINKS f.links) (Some (within limit.Links)) None)
    (KeepsAll law_order (record f { links = f.links + 1 })) (λ law. BreaksFirst law (record f { links = f.links + 1 }))
link_verdict f n k =
    let g = record f { links = f.links + 1 } in
    cond_both (nat_le MAX_LINKS f.links) _ _ (Verdict g)
    (λ e. (
      8,
      refl,
      (
        k.0,
        (
          k.1.0,
          (
            k.1.1.0,
            (
              k.1.1.1.0,
              (k.1.1.1.1.0, (k.1.1.1.1.1.0, (k.1.1.1.1.1.1.0, (k.1.1.1.1.1.1.1.0, tt)))),
            ),
          ),
        ),
      ),
      λ h. let full : MAX_LINKS ≤ f.links = grind (arith, nat_tests) in absurd (omega (arith, h, full)),
    ))
    (λ e.
    let room : f.links < MAX_LINKS = grind (arith, nat_tests) in (
      k.0,
      (
        k.1.0,
        (
          k.1.1.0,
          (
            k.1.1.1.0,
            (
              k.1.1.1.1.0,
              (
                k.1.1.1.1.1.0,
                (
                  k.1.1.1.1.1.1.0,
                  (k.1.1.1.1.1.1.1.0, (omega (arith, room), k.1.1.1.1.1.1.1.1.1)),
                ),
              ),
            ),
          ),
        ),
      ),
    ))

cost_verdict : (f : Facts) (cost : CostParts) → KeepsAll law_order f
    → Verdict (after f (cost_is cost)) (first_broken f (cost_is cost))
cost_verdict f cost k =
    let g = after f (cost_is cost) in
    cond_both (not (is_weighted cost)) _ _ (Verdict g)
    (λ e. (
      0,
      refl,
      tt,
      λ h. false≢true
          (sym (not-true (is_weighted cost) e) ∙ weighted_test cost (all_rest IsMix f.weights (weights cost) h.2)),
    ))
    (λ e. (
      (
        k.0.0,
        k.0.1,
        all_join IsMix f.weights (weights cost) k.0.2
            (weighted_is cost (not-false (is_weighted cost) e)),
      ),
      k.1,
    ))

-- what one more item does to facts that keep the laws
pub verdict : (f : Facts) (item : Item) → KeepsAll law_order f → Verdict (after f item) (first_broken f item)
verdict f (version One) k = begins_keeps f f.objects k.1.0.1 k.1.1.1.1.1.1.1.1.1.0 k
verdict f (version Two) k = k
verdict f (object name) k = object_verdict f name k
verdict f (cost_is cost) k = cost_verdict f cost k
verdict f (rule_is rule) k = k
verdict f (section z) k = section_verdict f z k
verdict f (contour name count) k = contour_verdict f name count k
verdict f (point p) k = point_verdict f p k
verdict f (link l) k = link_verdict f 0 k
verdict f finish k = k
