use Rattle.std.proofs.Common.{◌≡◌, ◌∙◌, ◌<◌, ℕ, List, length, sym, subst, ap, arith, All, slice_index}
use Rattle.std.specs.List.{range_with_len}
use Rattle.std.proofs.lemmas.List.{length-map}
use Rattle.std.proofs.lemmas.List.Sorted.{All-permutation}
use Rattle.mesh_measures.specs.declared.triangle_boxes.Boxed.{Boxed}
use Rattle.mesh_measures.specs.Crossings.{corners_of, part_corners, crossing_counts, crossing_pairs}
use Rattle.mesh_measures.specs.TriangleBoxes.{IsBoxed, boxed_corners, tally}
use Rattle.mesh_measures.proofs.Whole.{Made, as_many_sorted, places_below, tally_fits, counts_are, pairs_are}
use Rattle.fku_types.proofs.AnswerLaws.{ok_then}
use Rattle.mesh_measures.proofs.sweep.crossings.Goals as goal
use Rattle.mesh_measures.proofs.sweep.crossings.Goals.{After-swept-sorted}

-- the boxes of the triangles of a part, and the same in the order of the sweep
made : (c : After-swept-sorted)
    → Made (part_corners c.args.vertices.now c.args.triangles.now) c.in_ok-boxes.field-0.items
    c.swept-sorted.result.items
made c = record {
  corners = c.in_ok-boxes.ensures.corners;
  places = c.in_ok-boxes.ensures.places
      ∙ ap (range_with_len 0) (sym (length-map c.args.triangles.now (corners_of c.args.vertices.now)));
  moved = c.swept-sorted.ensures.permutation;
}

pub counted-requires-clause-boxed : goal.counted-requires-clause-boxed
counted-requires-clause-boxed c =
    subst (All IsBoxed) (sym c.deref.ensures.value)
    (All-permutation IsBoxed c.in_ok-boxes.field-0.items c.swept-sorted.result.items
    c.swept-sorted.ensures.permutation c.in_ok-boxes.ensures.boxed)

pub counted-requires-clause-places : goal.counted-requires-clause-places
counted-requires-clause-places c =
    subst (λ (xs : List Boxed). All (λ (f : Boxed). f.place < length xs) xs) (sym c.deref.ensures.value)
    (places_below _ _ _ (made (goal.at.counted-requires-clause-places c).After-swept-sorted))

pub counted-requires-clause-few : goal.counted-requires-clause-few
counted-requires-clause-few c =
    omega (
      arith,
      ap length c.deref.ensures.value,
      as_many_sorted _ _ _ (made (goal.at.counted-requires-clause-few c).After-swept-sorted),
      length-map c.args.triangles.now (corners_of c.args.vertices.now),
      c.requires.few,
    )

pub counted-requires-clause-room : goal.counted-requires-clause-room
counted-requires-clause-room c =
    subst (λ (xs : List Boxed). (i : ℕ) → tally xs i < 4294967296) (sym c.deref.ensures.value)
    (tally_fits _ _ _ (made (goal.at.counted-requires-clause-room c).After-swept-sorted) 4294967296 (omega
    (arith, length-map c.args.triangles.now (corners_of c.args.vertices.now), c.requires.few)))

pub returns-clause-counts : goal.returns-clause-counts
returns-clause-counts c =
    ok_then c.counted.result (λ r. length r.counts.items ≡ length c.deref.result.now)
    (λ r. (i : ℕ) → slice_index r.counts.items i ≡ tally c.deref.result.now i)
    (λ r. r.counts.items ≡ crossing_counts _) c.counted.ensures.length c.counted.ensures.counts
    (λ r same is. counts_are _ _ _ (made (goal.at.returns-clause-counts c).After-swept-sorted) r.counts.items
    (same ∙ ap length c.deref.ensures.value)
    (λ i. is i ∙ ap (λ (xs : List Boxed). tally xs i) c.deref.ensures.value))

pub returns-clause-pairs : goal.returns-clause-pairs
returns-clause-pairs c =
    ok_then c.counted.result (λ r. r.pairs ≡ crossing_pairs (boxed_corners c.deref.result.now))
    (λ r. r.pairs ≡ crossing_pairs (boxed_corners c.deref.result.now)) (λ r. r.pairs ≡ crossing_pairs _)
    c.counted.ensures.pairs c.counted.ensures.pairs
    (λ r is _. is ∙ ap (λ (xs : List Boxed). crossing_pairs (boxed_corners xs)) c.deref.ensures.value
    ∙ pairs_are _ _ _ (made (goal.at.returns-clause-pairs c).After-swept-sorted))
