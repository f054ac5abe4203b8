-- The stack of sections that a number makes.
use Rattle.std.specs.Prelude.{ℕ, zero, suc, ◌+◌, ◌*◌, ◌/◌, ◌%◌, ◌^◌, nat_lt, List, [], ◌∷◌, ◌++◌, map, pos, neg_ℤ, ◌-ℤ◌, ◌*ℤ◌, codes, decimal, if◌then◌else◌}
use Rattle.std.specs.List.{range_with_len}
use Rattle.fku_types.specs.declared.rules.PairRule.TheVariants.{Overlap}
use Rattle.section_core.specs.Parts.{span, Spot, ContourParts, SectionParts, Parts}

-- the state after a state: a step of the linear congruential generator
abbrev pub next : ℕ → ℕ
next state = (state * 1103515245 + 12345) % 2 ^ 31

-- the state after n steps from a seed
unfoldable pub state_after : ℕ → ℕ → ℕ
state_after seed zero = seed
state_after seed (suc n) = next (state_after seed n)

-- the multiple of its border place at which a vertex lies: 100 to 199
abbrev pub radius : ℕ → ℕ
radius state = 100 + (state / 65536) % 100

-- how far along the border, which is 8,000 long, vertex t of k lies: the vertices share it evenly
abbrev pub place : ℕ → ℕ → ℕ
place t k = 8000 * t / k

-- the spot at a place of the border, which goes from (1000, -1000) counterclockwise round the square of side 2,000
-- about the origin
abbrev pub direction : ℕ → Spot
direction p =
    if nat_lt p 2000 then (pos 1000, pos p -ℤ pos 1000)
    else if nat_lt p 4000 then (pos 3000 -ℤ pos p, pos 1000)
    else if nat_lt p 6000 then (neg_ℤ (pos 1000), pos 5000 -ℤ pos p)
    else (pos p -ℤ pos 7000, neg_ℤ (pos 1000))

-- a spot of the border, times a radius
abbrev pub drawn : ℕ → Spot → Spot
drawn r d = (pos r *ℤ d.0, pos r *ℤ d.1)

-- vertex t of k, for this state
abbrev pub demo_spot : ℕ → ℕ → ℕ → Spot
demo_spot state k t = drawn (radius state) (direction (place t k))

-- vertex t of section s, if each section has k vertices: the state has gone one step for each vertex before it, over
-- all sections, and one for itself
abbrev pub demo_vertex : ℕ → ℕ → ℕ → ℕ → Spot
demo_vertex seed k s t = demo_spot (state_after seed (s * k + t + 1)) k t

-- the name of the contour of section s
abbrev pub name : ℕ → List ℕ
name s = codes "c" ++ decimal s

-- the contour of section s
abbrev pub contour : ℕ → ℕ → ℕ → ContourParts
contour seed k s = record { name = name s; count = pos k; points = map (demo_vertex seed k s) (range_with_len 0 k) }

-- section s
abbrev pub section : ℕ → ℕ → ℕ → SectionParts
section seed k s = record { z = pos (1000 * s); contours = contour seed k s ∷ [] }

-- the stack of so many sections, each of one contour of so many vertices
unfoldable pub demo : ℕ → ℕ → ℕ → Parts
demo seed sections vertices = record {
  cost = span;
  rule = Overlap;
  sections = map (section seed vertices) (range_with_len 0 sections);
  links = [];
}
