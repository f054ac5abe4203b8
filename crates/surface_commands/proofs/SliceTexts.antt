-- The text of a slice, piece by piece.
use Rattle.std.proofs.Common.{◌≡◌, ◌++◌, ◌∙◌, ℕ, ℤ, List, Vec, length, ap, ap₂, append_assoc}
use Rattle.std.specs.Global.{Global}
use Rattle.std.specs.List.{flat_map}
use Rattle.strip_graph.specs.declared.slices.Cut.{Cut}
use Rattle.section_slices.specs.declared.slices.SliceLoops.{SliceLoops}
use Rattle.surface_commands.specs.Slice.{height_text, loop_text, slice_text}

abbrev pub loops_text : List (Vec Cut Global) → List ℕ
loops_text loops = flat_map (λ v. loop_text v.items) loops

pub slice_written : (z : ℤ) (s : SliceLoops) (count : ℕ) (loops : List (Vec Cut Global)) (old bytes mid new : List ℕ)
    → bytes ≡ height_text z s.den count → count ≡ length s.loops.items → loops ≡ s.loops.items → mid ≡ old ++ bytes
    → new ≡ mid ++ loops_text loops → new ≡ old ++ slice_text z s
slice_written z s count loops old bytes mid new eb en el em ew =
    ew ∙ ap₂ (λ (m : List ℕ) (ls : List (Vec Cut Global)). m ++ loops_text ls)
    (em ∙ ap (λ (b : List ℕ). old ++ b) (eb ∙ ap (height_text z s.den) en)) el
    ∙ append_assoc old (height_text z s.den (length s.loops.items)) (loops_text s.loops.items)
