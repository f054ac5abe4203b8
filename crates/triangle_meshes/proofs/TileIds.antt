-- The ids of tiles: counted round the rings, and only ids of the rings.
use Rattle.std.proofs.Common.{◌≡◌, ℕ, ◌+◌, ◌<◌, ◌%◌, List, [], ◌∷◌, ◌++◌, length, get_or, ap, ap₂, ◌∙◌, arith, All}
use Rattle.std.proofs.Math.Nat.{mod-mod, mod-add-mod}
use Rattle.std.specs.Prelude.{Contains}
use Rattle.std.proofs.lemmas.List.Elements.{All-nil, All-cons, All-map, Contains-get_or, Contains-append_left, Contains-append_right}
use Rattle.strip_graph.specs.declared.tilings.Step.{Step}
use Rattle.strip_graph.specs.declared.tilings.Step.TheVariants.{V, H}
use Rattle.strip_graph.specs.declared.spans.SpanStep.{SpanStep}
use Rattle.strip_graph.specs.Spans.{spans}
use Rattle.plane_geom.specs.Rings.{item_around}
use Rattle.triangle_meshes.specs.Tiles.{tile, tiles}

pub three : (a b c d e f : ℕ) → a ≡ d → b ≡ e → c ≡ f → a ∷ b ∷ c ∷ [] ≡ d ∷ e ∷ f ∷ []
three a b c d e f h k l = cc

-- the tile at a place that is counted round both rings
pub tile-round : (low high : List ℕ) (m n i j : ℕ) (s : Step) → m ≡ length low → n ≡ length high
    → tile low high (i % m) (j % n) s ≡ tile low high i j s
tile-round low high m n i j s e f = ap₂ (λ (r c : ℕ). tile low high (i % r) (j % c) s) e f ∙ own s
  where
    here : (ids : List ℕ) (k : ℕ) → item_around 0 ids (k % length ids) ≡ item_around 0 ids k
    here ids k = ap (λ (x : ℕ). get_or ids x 0) (mod-mod k (length ids))

    next : (ids : List ℕ) (k : ℕ) → item_around 0 ids (k % length ids + 1) ≡ item_around 0 ids (k + 1)
    next ids k = ap (λ (x : ℕ). get_or ids x 0) (mod-add-mod k (length ids) 1)

    own : (t : Step) → tile low high (i % length low) (j % length high) t ≡ tile low high i j t
    own V = three _ _ _ _ _ _ (here low i) (next low i) (here high j)
    own H = three _ _ _ _ _ _ (next high j) (here high j) (here low i)

-- the ids of both rings
abbrev Own : List ℕ → List ℕ → ℕ → Type 0
Own low high = Contains (low ++ high)

own_low : (low high : List ℕ) (i : ℕ) → 0 < length low → Own low high (item_around 0 low i)
own_low low high i l = Contains-append_left low high (item_around 0 low i)
    (Contains-get_or low (i % length low) 0 (omega arith))

own_high : (low high : List ℕ) (j : ℕ) → 0 < length high → Own low high (item_around 0 high j)
own_high low high j l = Contains-append_right low high (item_around 0 high j)
    (Contains-get_or high (j % length high) 0 (omega arith))

all_three : (P : ℕ → Type 0) (a b c : ℕ) → P a → P b → P c → All P (a ∷ b ∷ c ∷ [])
all_three P a b c x y z = All-cons P a (b ∷ c ∷ []) x (All-cons P b (c ∷ []) y (All-cons P c [] z (All-nil P)))

own_tile : (low high : List ℕ) (i j : ℕ) (s : Step) → 0 < length low → 0 < length high
    → All (Own low high) (tile low high i j s)
own_tile low high i j V l h = all_three (Own low high) _ _ _ (own_low low high i l) (own_low low high (i + 1) l)
    (own_high low high j h)
own_tile low high i j H l h = all_three (Own low high) _ _ _ (own_high low high (j + 1) h) (own_high low high j h)
    (own_low low high i l)

-- each id of a tile is one of the rings'
pub own_ids : (low high : List ℕ) (i j : ℕ) (w : List Step) → 0 < length low → 0 < length high
    → All (All (Contains (low ++ high))) (tiles low high i j w)
own_ids low high i j w l h =
    All-map (All (Own low high)) (λ (s : SpanStep). tile low high s.row s.col s.step) (spans i j w)
    (λ k d _. let s = get_or (spans i j w) k d in own_tile low high s.row s.col s.step l h)
