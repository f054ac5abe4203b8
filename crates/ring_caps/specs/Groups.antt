-- Groups of the contours of a section that end on one side: outer contours, each with the holes that end with it.
use Rattle.std.specs.Prelude.{ℕ, ◌+◌, ◌%◌, ◌==◌, ◌&&◌, not, Bool, false, Option, None, Some, find, List, ◌∷◌, length, map, filter, if◌then◌else◌}
use Rattle.std.specs.List.{range_with_len}
use Rattle.fku_types.specs.declared.points.Point.{Point}
use Rattle.correspondence.specs.Nesting.{depth, lies_in}
use Rattle.correspondence.specs.Places.{has}

-- contour j is one less deep than contour k, which lies in it
abbrev pub is_around : List (List Point) → ℕ → ℕ → Bool
is_around outlines k j = ((depth outlines j + 1) == depth outlines k) && lies_in outlines k j

-- the parent of a contour of odd depth: the first contour around it, in file order
unfoldable pub parent : List (List Point) → ℕ → Option ℕ
parent outlines k = if (depth outlines k % 2) == 1 then find (is_around outlines k) (range_with_len 0 (length outlines))
    else None

-- the parents of all contours, in file order
abbrev pub parents : List (List Point) → List (Option ℕ)
parents outlines = map (parent outlines) (range_with_len 0 (length outlines))

-- a contour has a cap on a side if it is in no pair there; `joined` are the contours in pairs
abbrev pub is_capped : List ℕ → ℕ → Bool
is_capped joined k = not (has k joined)

-- there is a parent, and it passes a test
abbrev pub parent_passes : (ℕ → Bool) → Option ℕ → Bool
parent_passes test None = false
parent_passes test (Some j) = test j

-- a contour with a cap begins a group, unless its parent has a cap too; `capped` is true for the contours with a cap
abbrev pub begins : (ℕ → Bool) → (ℕ → Option ℕ) → ℕ → Bool
begins capped parents k = capped k && not (parent_passes capped (parents k))

-- contour j has a cap and belongs to the group that its parent, contour k, begins
abbrev pub joins_group : (ℕ → Bool) → (ℕ → Option ℕ) → ℕ → ℕ → Bool
joins_group capped parents k j = capped j && parent_passes (λ i. i == k) (parents j)

-- the group that contour k of n begins, by places: itself, and the contours with a cap whose parent it is, in file
-- order
abbrev pub group : (ℕ → Bool) → (ℕ → Option ℕ) → ℕ → ℕ → List ℕ
group capped parents n k = k ∷ filter (joins_group capped parents k) (range_with_len 0 n)

-- the groups of n contours, in the file order of the contours that begin them
abbrev pub groups : (ℕ → Bool) → (ℕ → Option ℕ) → ℕ → List (List ℕ)
groups capped parents n = map (group capped parents n) (filter (begins capped parents) (range_with_len 0 n))

-- the groups of a section's contours on a side
abbrev pub side_groups : List (List Point) → List ℕ → List (List ℕ)
side_groups outlines joined = groups (is_capped joined) (parent outlines) (length outlines)
