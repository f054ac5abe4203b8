use Rattle.std.proofs.Common.{◌≡◌, ℕ, ◌<◌, List, length, get_or, sym, ap, ◌∙◌}
use Rattle.std.proofs.Math.Nat.{mod-eq_of_lt}
use Rattle.plane_geom.specs.Rings.{item_around}
use Rattle.triangle_meshes.specs.Tiles.{tile}
use Rattle.triangle_meshes.proofs.TileIds.{three}
use Rattle.triangle_meshes.proofs.strips.tile_at.Goals as goal

read : (ids : List ℕ) (i : ℕ) → i < length ids → get_or ids i 0 ≡ item_around 0 ids i
read ids i l = ap (λ (x : ℕ). get_or ids x 0) (sym (mod-eq_of_lt l))

pub returns-in-V : goal.returns-in-V
returns-in-V c =
    let low = c.args.low.now in
    let high = c.args.high.now in
    let s = c.args.span in
    three _ _ _ _ _ _ (read low s.row c.requires.row) (ap (λ (x : ℕ). get_or low x 0) c.next_place.ensures.value)
    (read high s.col c.requires.col) ∙ ap (tile low high s.row s.col) (sym c.in-V.is)

pub returns-in-H : goal.returns-in-H
returns-in-H c =
    let low = c.args.low.now in
    let high = c.args.high.now in
    let s = c.args.span in
    three _ _ _ _ _ _ (ap (λ (x : ℕ). get_or high x 0) c.next_place-in-H.ensures.value) (read high s.col c.requires.col)
    (read low s.row c.requires.row) ∙ ap (tile low high s.row s.col) (sym c.in-H.is)
