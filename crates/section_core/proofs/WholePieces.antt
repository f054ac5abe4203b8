-- Pieces are whole exactly if each point is at the height of its section, and they give the items of the parts.
use Rattle.std.proofs.Common.{◌≡◌, ◌<◌, List, [], ◌∷◌, ◌++◌, map, length, ℤ, pos, refl, ap, sym, ◌∙◌, subst, inl, inr, arith}
use Rattle.std.specs.Prelude.{⊤}
use Rattle.std.specs.List.{flat_map, AllByRecursion}
use Rattle.std.specs.Ordering.{int_eq}
use Rattle.std.proofs.lemmas.List.{map-append}
use Rattle.std.proofs.lemmas.Bool.{cases_Bool, cond-true, cond-false}
use Rattle.std.proofs.lemmas.Bool.Decides.{Decides-int_eq}
use Rattle.fku_types.specs.declared.points.Point.{Point}
use Rattle.section_core.specs.declared.parts.Contour.{Contour}
use Rattle.section_core.specs.declared.parts.Section.{Section}
use Rattle.section_core.specs.declared.parts.Link.{Link}
use Rattle.section_core.specs.Parts.{CostParts}
use Rattle.section_core.specs.Machine.{Item, cost_is, section, contour, point, link, contour_items, section_items}
use Rattle.section_core.specs.Views.{spot_of, contour_parts, section_parts, link_parts}
use Rattle.section_core.specs.Flat.{IsAtHeight, AreFlat}
use Rattle.section_core.specs.Made.{Piece, whole, askew, point_piece, contour_pieces, section_pieces, link_piece, pieces_of, ArePiecesLawful}
use Rattle.fku_types.proofs.ListLaws.{all_rest, all_front}

-- the items of whole pieces
abbrev unwhole : List Piece → List Item
unwhole [] = []
unwhole (whole item ∷ ps) = item ∷ unwhole ps
unwhole (askew ∷ ps) = unwhole ps

abbrev IsWhole : Piece → Type 0
IsWhole (whole item) = ⊤
IsWhole askew = ⊥

unwhole-whole : (items : List Item) → unwhole (map whole items) ≡ items
unwhole-whole [] = refl
unwhole-whole (item ∷ items) = ap (λ (more : List Item). item ∷ more) (unwhole-whole items)

all_whole : (items : List Item) → AllByRecursion IsWhole (map whole items)
all_whole [] = tt
all_whole (item ∷ items) = (tt, all_whole items)

unwhole-append : (xs ys : List Piece) → unwhole (xs ++ ys) ≡ unwhole xs ++ unwhole ys
unwhole-append [] ys = refl
unwhole-append (whole item ∷ xs) ys = ap (λ (more : List Item). item ∷ more) (unwhole-append xs ys)
unwhole-append (askew ∷ xs) ys = unwhole-append xs ys

record PointsWhole (z : ℤ) (ps : List Point) : Type 0 where
  items : unwhole (map (point_piece z) ps) ≡ map point (map spot_of ps)
  level : AllByRecursion (λ (p : Point). p.z ≡ z) ps

points_whole : (z : ℤ) (ps : List Point) → AllByRecursion IsWhole (map (point_piece z) ps) → PointsWhole z ps
points_whole z [] h = record { items = refl; level = tt }
points_whole z (p ∷ ps) h =
    let more = points_whole z ps h.1 in
    elim (cases_Bool (int_eq p.z z)) [
      | inl t ↦ record {
        items = ap (λ (q : Piece). unwhole (q ∷ map (point_piece z) ps)) (cond-true _ _ _ t)
            ∙ ap (λ (is : List Item). point (spot_of p) ∷ is) more.items;
        level = ((Decides-int_eq p.z z).0 t, more.level);
      }
      | inr t ↦ absurd (subst IsWhole (cond-false _ _ _ t) h.0)
    ]

record ContoursWhole (z : ℤ) (cs : List Contour) : Type 0 where
  items : unwhole (flat_map (contour_pieces z) cs) ≡ flat_map contour_items (map contour_parts cs)
  level : AllByRecursion (IsAtHeight z) cs

contours_whole : (z : ℤ) (cs : List Contour) → AllByRecursion IsWhole (flat_map (contour_pieces z) cs)
    → ContoursWhole z cs
contours_whole z [] h = record { items = refl; level = tt }
contours_whole z (c ∷ cs) h =
    let here = points_whole z c.points.items
    (all_front IsWhole (map (point_piece z) c.points.items) (flat_map (contour_pieces z) cs) h.1) in
    let more = contours_whole z cs (all_rest IsWhole (map (point_piece z) c.points.items)
    (flat_map (contour_pieces z) cs) h.1) in
    record {
      items = ap (λ (is : List Item). contour c.name (pos (length c.points.items)) ∷ is)
          (unwhole-append (map (point_piece z) c.points.items) (flat_map (contour_pieces z) cs)
          ∙ ap (λ (is : List Item). is ++ unwhole (flat_map (contour_pieces z) cs)) here.items
          ∙ ap (λ (is : List Item). map point (map spot_of c.points.items) ++ is) more.items);
      level = (here.level, more.level);
    }

record SectionsWhole (ss : List Section) : Type 0 where
  items : unwhole (flat_map section_pieces ss) ≡ flat_map section_items (map section_parts ss)
  flat : AreFlat ss

sections_whole : (ss : List Section) → AllByRecursion IsWhole (flat_map section_pieces ss) → SectionsWhole ss
sections_whole [] h = record { items = refl; flat = tt }
sections_whole (s ∷ ss) h =
    let here = contours_whole s.z s.contours.items
    (all_front IsWhole (flat_map (contour_pieces s.z) s.contours.items) (flat_map section_pieces ss) h.1) in
    let more = sections_whole ss (all_rest IsWhole (flat_map (contour_pieces s.z) s.contours.items)
    (flat_map section_pieces ss) h.1) in
    record {
      items = ap (λ (is : List Item). section s.z ∷ is)
          (unwhole-append (flat_map (contour_pieces s.z) s.contours.items) (flat_map section_pieces ss)
          ∙ ap (λ (is : List Item). is ++ unwhole (flat_map section_pieces ss)) here.items
          ∙ ap (λ (is : List Item). flat_map contour_items (map contour_parts s.contours.items) ++ is) more.items);
      flat = (here.level, more.flat);
    }

links_whole : (ls : List Link) → unwhole (map link_piece ls) ≡ map link (map link_parts ls)
links_whole [] = refl
links_whole (l ∷ ls) = ap (λ (is : List Item). link (link_parts l) ∷ is) (links_whole ls)

pub pieces_flat : (cost : CostParts) (ss : List Section) (ls : List Link) → ArePiecesLawful (pieces_of cost ss ls)
    → AreFlat ss
pieces_flat cost ss ls h = (sections_whole ss
    (all_front IsWhole (flat_map section_pieces ss) (map link_piece ls)
    (subst (AllByRecursion IsWhole) (sym h.split) (all_whole h.items)).1)).flat

pub items_are : (cost : CostParts) (ss : List Section) (ls : List Link) (h : ArePiecesLawful (pieces_of cost ss ls))
    → h.items ≡ cost_is cost ∷ flat_map section_items (map section_parts ss) ++ map link (map link_parts ls)
items_are cost ss ls h =
    let w = sections_whole ss (all_front IsWhole (flat_map section_pieces ss) (map link_piece ls)
    (subst (AllByRecursion IsWhole) (sym h.split) (all_whole h.items)).1) in
    sym (unwhole-whole h.items) ∙ ap unwhole (sym h.split)
    ∙ ap (λ (is : List Item). cost_is cost ∷ is)
    (unwhole-append (flat_map section_pieces ss) (map link_piece ls)
    ∙ ap (λ (is : List Item). is ++ unwhole (map link_piece ls)) w.items
    ∙ ap (λ (is : List Item). flat_map section_items (map section_parts ss) ++ is) (links_whole ls))

-- flat sections are whole pieces
level_pieces : (z : ℤ) (ps : List Point) → AllByRecursion (λ (p : Point). p.z ≡ z) ps
    → map (point_piece z) ps ≡ map whole (map point (map spot_of ps))
level_pieces z [] h = refl
level_pieces z (p ∷ ps) h =
    ap (λ (q : Piece). q ∷ map (point_piece z) ps) (cond-true _ _ _ ((Decides-int_eq p.z z).1 h.0))
    ∙ ap (λ (qs : List Piece). whole (point (spot_of p)) ∷ qs) (level_pieces z ps h.1)

contour_level : (z : ℤ) (cs : List Contour) → AllByRecursion (IsAtHeight z) cs
    → flat_map (contour_pieces z) cs ≡ map whole (flat_map contour_items (map contour_parts cs))
contour_level z [] h = refl
contour_level z (c ∷ cs) h =
    ap (λ (qs : List Piece). whole (contour c.name (pos (length c.points.items))) ∷ qs)
    (ap (λ (qs : List Piece). qs ++ flat_map (contour_pieces z) cs) (level_pieces z c.points.items h.0)
    ∙ ap (λ (qs : List Piece). map whole (map point (map spot_of c.points.items)) ++ qs) (contour_level z cs h.1)
    ∙ sym (map-append whole (map point (map spot_of c.points.items)) (flat_map contour_items (map contour_parts cs))))

pub section_level : (ss : List Section) → AreFlat ss
    → flat_map section_pieces ss ≡ map whole (flat_map section_items (map section_parts ss))
section_level [] h = refl
section_level (s ∷ ss) h =
    ap (λ (qs : List Piece). whole (section s.z) ∷ qs)
    (ap (λ (qs : List Piece). qs ++ flat_map section_pieces ss) (contour_level s.z s.contours.items h.0)
    ∙ ap (λ (qs : List Piece). map whole (flat_map contour_items (map contour_parts s.contours.items)) ++ qs)
    (section_level ss h.1)
    ∙ sym (map-append whole (flat_map contour_items (map contour_parts s.contours.items))
    (flat_map section_items (map section_parts ss))))

pub link_level : (ls : List Link) → map link_piece ls ≡ map whole (map link (map link_parts ls))
link_level [] = refl
link_level (l ∷ ls) = ap (λ (qs : List Piece). link_piece l ∷ qs) (link_level ls)

pub none_left : (ls : List Link) → (0 < length ls → ⊥) → ls ≡ []
none_left [] h = refl
none_left (l ∷ ls) h = absurd (h (omega arith))
