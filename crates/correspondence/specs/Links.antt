-- Which links are good, and why others are not.
use Rattle.std.specs.Prelude.{◌≡◌, ℕ, ◌+◌, ◌<◌, ◌==◌, not, Bool, List, [], map, flat_map, length, take, Option, Some, None, bytes_eq, find, slice_index, slice_index_or, if◌then◌else◌}
use Rattle.std.specs.List.{range_with_len, list_any}
use Rattle.fku_types.specs.declared.fault.Fault.{Fault}
use Rattle.fku_types.specs.declared.fault.Fault.TheVariants as fault
use Rattle.fku_types.specs.declared.fault.LinkCause.{LinkCause}
use Rattle.fku_types.specs.declared.fault.LinkCause.TheVariants.{Unknown, NotNeighbours, DepthDiffers, Repeated}
use Rattle.section_core.specs.Parts.{Parts}
use Rattle.correspondence.specs.Nesting.{depths}
use Rattle.correspondence.specs.declared.contour_places.ContourPlace.{ContourPlace}
use Rattle.correspondence.specs.Outlines.{layer, link_at}
use Rattle.correspondence.specs.Correspondences.{same_parity, links_names}

-- the names and the depths of each section's contours
abbrev pub names_of : Parts → List (List (List ℕ))
names_of S = map (λ s. (layer s).names) S.sections

abbrev pub depths_of : Parts → List (List ℕ)
depths_of S = map (λ s. depths (layer s).outlines) S.sections

-- the places of a section's contours, in file order
abbrev pub contour_places_in : List (List (List ℕ)) → ℕ → List ContourPlace
contour_places_in names s =
    map (λ k. record { section = s; contour = k }) (range_with_len 0 (length (slice_index_or names s [])))

-- the places of the contours of the first n sections
abbrev pub contour_places : List (List (List ℕ)) → ℕ → List ContourPlace
contour_places names n = flat_map (contour_places_in names) (range_with_len 0 n)

abbrev pub name_at : List (List (List ℕ)) → ContourPlace → List ℕ
name_at names p = slice_index_or (slice_index_or names p.section []) p.contour []

-- the place of the contour of a name
abbrev pub contour_place_of : List (List (List ℕ)) → List ℕ → Option ContourPlace
contour_place_of names name = find (λ p. bytes_eq name (name_at names p)) (contour_places names (length names))

abbrev pub depth_at : List (List ℕ) → ContourPlace → ℕ
depth_at depths p = slice_index (slice_index_or depths p.section []) p.contour

-- the first cause of a link between two contours, if an earlier link names them or not
abbrev pub cause_between : List (List ℕ) → Bool → ContourPlace → ContourPlace → Option LinkCause
cause_between depths again low high =
    if not (high.section == (low.section + 1)) then Some NotNeighbours
    else if not (same_parity (depth_at depths low) (depth_at depths high)) then Some DepthDiffers
    else if again then Some Repeated else None

abbrev pub cause_among : List (List ℕ) → Bool → Option ContourPlace → Option ContourPlace → Option LinkCause
cause_among depths again None high = Some Unknown
cause_among depths again (Some low) None = Some Unknown
cause_among depths again (Some low) (Some high) = cause_between depths again low high

-- why link k is not good, if it is not
unfoldable pub cause_of : Parts → ℕ → Option LinkCause
cause_of S k =
    cause_among (depths_of S) (list_any (links_names (link_at S k).below (link_at S k).above) (take k S.links))
    (contour_place_of (names_of S) (link_at S k).below) (contour_place_of (names_of S) (link_at S k).above)

-- the first n links are good
abbrev pub AreGood : Parts → ℕ → Type 0
AreGood S n = (k : ℕ) → k < n → cause_of S k ≡ None

-- link k is the first that is not good
pub record IsFirstBad (S : Parts) (k : ℕ) (one other : List ℕ) (why : LinkCause) : Type 0 where
  pub there : k < length S.links
  pub good_before : AreGood S k
  pub cause : cause_of S k ≡ Some why
  pub below : one ≡ (link_at S k).below
  pub above : other ≡ (link_at S k).above

-- the fault has the first bad link with its first cause; `NoMemory` is not a fault of links
abbrev pub IsLinkFault : Parts → Fault → Type 0
IsLinkFault S (fault.Link below above cause) = (k : ℕ) × IsFirstBad S k below above cause
IsLinkFault S fault.NoMemory = Unit {0}
IsLinkFault S _ = ⊥
