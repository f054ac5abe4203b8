-- Sets and tables of names.
use Rattle.std.specs.Prelude.{◌≡◌, ℕ, ◌&&◌, List, [], Option, Some, None, bytes_eq, find, map, Vec}
use Rattle.std.specs.Global.{Global}
use Rattle.std.specs.List.{list_any}
use Rattle.section_core.specs.Parts.{LinkParts}
use Rattle.indexmap.specs.IndexMap.{get}
use Rattle.correspondence.specs.declared.contour_places.ContourPlace.{ContourPlace}
use Rattle.correspondence.specs.declared.link_table.LinkTable.{LinkTable}
use Rattle.correspondence.specs.Correspondences.{links_names}
use Rattle.correspondence.specs.Links.{name_at}

-- two names are among the ends exactly if one of the links names them
abbrev pub AreLinkedNames : List (List ℕ × List ℕ) → List LinkParts → Type 0
AreLinkedNames linked_names links =
    (one other : List ℕ)
    → list_any (λ e. bytes_eq one e.0 && bytes_eq other e.1) linked_names ≡ list_any (links_names one other) links

-- the upper names that were kept for a lower one
abbrev pub names_above : Option (Vec (List ℕ) Global) → List (List ℕ)
names_above None = []
names_above (Some names) = names.items

-- the upper names of a name are those of the links whose lower name it is
abbrev pub AreNamedAbove : (List ℕ → List (List ℕ)) → List LinkParts → Type 0
AreNamedAbove above links =
    (one other : List ℕ) → list_any (bytes_eq other) (above one) ≡ list_any (links_names one other) links

-- the upper names that a table has of a name
abbrev pub above_of : LinkTable → List ℕ → List (List ℕ)
above_of t q = names_above (get bytes_eq t.above q)

-- a table has the names of these links
abbrev pub IsLinkTableOf : LinkTable → List LinkParts → Type 0
IsLinkTableOf t links = AreNamedAbove (above_of t) links

-- a name finds the first of these places of contours
abbrev pub Finds : (List ℕ → Option ContourPlace) → List (List (List ℕ)) → List ContourPlace → Type 0
Finds found names places = (q : List ℕ) → found q ≡ find (λ p. bytes_eq q (name_at names p)) places

-- rows of numbers
abbrev pub lists_of : List (Vec ℕ Global) → List (List ℕ)
lists_of rows = map (λ v. v.items) rows
