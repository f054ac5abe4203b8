-- The facts after one more item, and the first law that the item breaks.
use Rattle.std.specs.Prelude.{ℕ, ◌+◌, Bool, true, not, ◌&&◌, List, [], ◌∷◌, ◌++◌, length, ℤ, pos, neg_ℤ, int_le, int_lt, nat_le, nat_lt, Option, None, Some, if◌then◌else◌}
use Rattle.std.specs.List.{list_any, sum_by}
use Rattle.std.specs.Ordering.{int_eq}
use Rattle.fku_types.specs.declared.limits.TheConstants.{MAX_CONTOURS, MAX_CONTOUR_VERTICES, MAX_COORDINATE, MAX_LINKS, MAX_OBJECTS, MAX_SECTIONS, MAX_SECTION_VERTICES, MAX_VERTICES, MAX_WEIGHT}
use Rattle.fku_types.specs.declared.fault.LimitName.TheVariants.{Sections, Contours, Vertices, SectionVertices, ContourVertices, Links, Objects}
use Rattle.section_core.specs.declared.parts.Version.TheVariants.{One}
use Rattle.section_core.specs.Parts.{CostParts, span, area, mix, asked}
use Rattle.section_core.specs.Laws.{Facts, Law, in_range, name_once, rising, within, weights}
use Rattle.section_core.specs.Machine.{Item, version, cost_is, object, section, contour, point, link, same}

-- the last of the numbers grows; where there is none, one begins
abbrev pub add_last : List ℕ → ℕ → List ℕ
add_last [] n = n ∷ []
add_last (m ∷ []) n = (m + n) ∷ []
add_last (m ∷ k ∷ more) n = m ∷ add_last (k ∷ more) n

-- the last of the numbers, or 0
abbrev pub last : List ℕ → ℕ
last [] = 0
last (m ∷ []) = m
last (m ∷ k ∷ more) = last (k ∷ more)

-- one more height in the last of the lists; if there is none, a list begins
abbrev pub push_last : List (List ℤ) → ℤ → List (List ℤ)
push_last [] z = (z ∷ []) ∷ []
push_last (zs ∷ []) z = (zs ++ z ∷ []) ∷ []
push_last (zs ∷ ys ∷ more) z = zs ∷ push_last (ys ∷ more) z

-- the last of the lists, or none
abbrev pub last_list : List (List ℤ) → List ℤ
last_list [] = []
last_list (zs ∷ []) = zs
last_list (zs ∷ ys ∷ more) = last_list (ys ∷ more)

-- after one more item; in version 1 the one object begins with the first line
abbrev pub after : Facts → Item → Facts
after f (version One) = record f { heights = f.heights ++ [] ∷ [] }
after f (cost_is cost) = record f { weights = f.weights ++ weights cost }
after f (object name) = record f { objects = f.objects ++ name ∷ []; heights = f.heights ++ [] ∷ [] }
after f (section z) = record f { heights = push_last f.heights z; sums = f.sums ++ 0 ∷ [] }
after f (contour name count) =
    record f { names = f.names ++ name ∷ []; counts = f.counts ++ count ∷ []; sums = add_last f.sums (asked count) }
after f (point p) = record f { points = f.points ++ p ∷ [] }
after f (link l) = record f { links = f.links + 1 }
after f item = f

abbrev pub is_coordinate : ℤ → Bool
is_coordinate z = int_le (neg_ℤ (pos MAX_COORDINATE)) z && int_le z (pos MAX_COORDINATE)

abbrev pub is_weight : ℤ → Bool
is_weight z = int_le (pos 0) z && int_le z (pos MAX_WEIGHT)

abbrev pub are_weights : ℤ → ℤ → Bool
are_weights a b = is_weight a && is_weight b && not (int_eq a (pos 0) && int_eq b (pos 0))

-- the weights of a mix are in their range
abbrev pub is_weighted : CostParts → Bool
is_weighted span = true
is_weighted area = true
is_weighted (mix a b) = are_weights a b

-- the height is above the last of these
abbrev pub is_above : List ℤ → ℤ → Bool
is_above [] z = true
is_above (y ∷ []) z = int_lt y z
is_above (y ∷ x ∷ more) z = is_above (x ∷ more) z

-- the first law that one more item breaks
abbrev pub first_broken : Facts → Item → Option Law
first_broken f (cost_is cost) = if not (is_weighted cost) then Some in_range else None
first_broken f (object name) =
    if list_any (same name) f.objects then Some name_once
    else (if nat_le MAX_OBJECTS (length f.objects) then Some (within Objects) else None)
first_broken f (section z) =
    if not (is_coordinate z) then Some in_range
    else (if not (is_above (last_list f.heights) z) then Some rising
    else (if nat_le MAX_SECTIONS (sum_by length f.heights) then Some (within Sections) else None))
first_broken f (contour name count) =
    if list_any (same name) f.names then Some name_once
    else (if not (int_le (pos 3) count && int_le count (pos MAX_CONTOUR_VERTICES)) then Some (within ContourVertices)
    else (if nat_lt MAX_SECTION_VERTICES (last f.sums + asked count) then Some (within SectionVertices)
    else (if nat_lt MAX_VERTICES (sum_by asked f.counts + asked count) then Some (within Vertices)
    else (if nat_le MAX_CONTOURS (length f.names) then Some (within Contours) else None))))
first_broken f (point p) = if not (is_coordinate p.0 && is_coordinate p.1) then Some in_range else None
first_broken f (link l) = if nat_le MAX_LINKS f.links then Some (within Links) else None
first_broken f item = None
