use Rattle.std.proofs.Common.{ℕ, List, sym, ap, ◌∙◌, eqb}
use Rattle.std.specs.Cmp.Lexicographic.{pointwise, same_text}
use Rattle.triangle_meshes.proofs.SortedNumbers.{same_sorted, sorted_counts, pointwise_same}
use Rattle.triangle_meshes.proofs.closing.have_same.Goals as goal

pub returns : goal.returns
returns c =
    let xs = c.args.first.items in
    let ys = c.args.second.items in
    let vs = c.sort_unstable.new.self.items in
    let ws = c.sort_unstable-2.new.self.items in
    let a = c.sort_unstable.ensures in
    let b = c.sort_unstable-2.ensures in (
      λ t. sorted_counts xs ys vs ws a.permutation b.permutation
          (sym c.as_slice.ensures.value ∙ same_text c.as_slice.result.now c.as_slice-2.result.now (sym t ∙ c.eq.ensures)
          ∙ c.as_slice-2.ensures.value),
      λ h. c.eq.ensures
          ∙ ap (λ (l : List ℕ). pointwise eqb l c.as_slice-2.result.now)
          (c.as_slice.ensures.value ∙ same_sorted xs ys vs ws a.permutation a.sorted b.permutation b.sorted h
          ∙ sym c.as_slice-2.ensures.value)
          ∙ pointwise_same c.as_slice-2.result.now,
    )
