-- The text that is printed is the canonical one.
use Rattle.std.proofs.Common.{◌≡◌, ℕ, ◌<◌, List, [], ◌∷◌, ◌++◌, map, length, get_or, Result, Ok, Err, pos, refl, ap, sym, ◌∙◌, subst, append_assoc, append-nil}
use Rattle.std.specs.Prelude.{codes, OnOk}
use Rattle.std.specs.List.{flat_map}
use Rattle.fku_types.specs.declared.points.Point.{Point}
use Rattle.fku_types.specs.declared.rules.PairRule.{PairRule}
use Rattle.fku_types.specs.declared.rules.PairRule.TheVariants.{Overlap, Links}
use Rattle.section_core.specs.declared.parts.Contour.{Contour}
use Rattle.section_core.specs.declared.parts.Section.{Section}
use Rattle.section_core.specs.declared.parts.Link.{Link}
use Rattle.section_core.specs.declared.parts.Version.{Version}
use Rattle.section_core.specs.declared.parts.Version.TheVariants.{One}
use Rattle.section_core.specs.Parts.{CostParts, Parts, SectionParts, LinkParts, ObjectParts, FileParts, as_file, head_lines, name_lines, body_lines, object_lines, point_line, contour_lines, section_lines, link_line, link_lines, end_line, IsLinked}
use Rattle.text_io.specs.WordLists.{text, number, line_text}
use Rattle.section_core.specs.declared.objects.Object.{Object}
use Rattle.section_core.specs.Objects.{object_parts, AreUnder}
use Rattle.std.proofs.lemmas.List.Elements.{All-from_recursion}
use Rattle.section_core.specs.Views.{spot_of, contour_parts, section_parts, link_parts}
use Rattle.section_core.specs.Canonical.{text_of, text_of_file, point_text, contour_text, text_of_section, link_text, name_text, object_text, head_text}
use Rattle.std.proofs.lemmas.Grind.{flat_map-append}

points_text : (ps : List Point) → flat_map line_text (map point_line (map spot_of ps)) ≡ flat_map point_text ps
points_text [] = refl
points_text (p ∷ ps) = ap (λ (zs : List ℕ). point_text p ++ zs) (points_text ps)

contours_text : (cs : List Contour)
    → flat_map line_text (flat_map contour_lines (map contour_parts cs)) ≡ flat_map contour_text cs
contours_text [] = refl
contours_text (c ∷ cs) =
    let h = line_text (text (codes "CONTOUR") ∷ text c.name ∷ number (pos (length c.points.items)) ∷ []) in
    ap (λ (zs : List ℕ). h ++ zs)
    (flat_map-append line_text (map point_line (map spot_of c.points.items))
    (flat_map contour_lines (map contour_parts cs))
    ∙ ap (λ (zs : List ℕ). zs ++ flat_map line_text (flat_map contour_lines (map contour_parts cs)))
    (points_text c.points.items)
    ∙ ap (λ (zs : List ℕ). flat_map point_text c.points.items ++ zs) (contours_text cs))
    ∙ sym (append_assoc h (flat_map point_text c.points.items) (flat_map contour_text cs))

sections_text : (ss : List Section)
    → flat_map line_text (flat_map section_lines (map section_parts ss)) ≡ flat_map text_of_section ss
sections_text [] = refl
sections_text (s ∷ ss) =
    let h = line_text (text (codes "SECTION") ∷ number s.z ∷ []) in
    ap (λ (zs : List ℕ). h ++ zs)
    (flat_map-append line_text (flat_map contour_lines (map contour_parts s.contours.items))
    (flat_map section_lines (map section_parts ss))
    ∙ ap (λ (zs : List ℕ). zs ++ flat_map line_text (flat_map section_lines (map section_parts ss)))
    (contours_text s.contours.items)
    ∙ ap (λ (zs : List ℕ). flat_map contour_text s.contours.items ++ zs) (sections_text ss))
    ∙ sym (append_assoc h (flat_map contour_text s.contours.items) (flat_map text_of_section ss))

all_links : (ls : List Link) → flat_map line_text (map link_line (map link_parts ls)) ≡ flat_map link_text ls
all_links [] = refl
all_links (l ∷ ls) = ap (λ (zs : List ℕ). link_text l ++ zs) (all_links ls)

links_text : (rule : PairRule) (ls : List Link) → IsLinked rule (map link_parts ls)
    → flat_map line_text (link_lines rule (map link_parts ls)) ≡ flat_map link_text ls
links_text Overlap [] h = refl
links_text Overlap (l ∷ ls) h = absurd (cc)
links_text Links ls h = all_links ls

-- the lines of sections and links
pub body_text : (rule : PairRule) (ss : List Section) (ls : List Link) → IsLinked rule (map link_parts ls)
    → flat_map line_text (body_lines rule (map section_parts ss) (map link_parts ls)) ≡ flat_map text_of_section ss
    ++ flat_map link_text ls
body_text rule ss ls h =
    flat_map-append line_text (flat_map section_lines (map section_parts ss)) (link_lines rule (map link_parts ls))
    ∙ ap (λ (zs : List ℕ). zs ++ flat_map line_text (link_lines rule (map link_parts ls))) (sections_text ss)
    ∙ ap (λ (zs : List ℕ). flat_map text_of_section ss ++ zs) (links_text rule ls h)

-- the same for what is kept
pub printed_body : (S : Parts) (ss : List Section) (ls : List Link) (o a b : List ℕ) → map section_parts ss ≡ S.sections
    → map link_parts ls ≡ S.links → IsLinked S.rule S.links → a ≡ o ++ flat_map text_of_section ss
    → b ≡ a ++ flat_map link_text ls → b ≡ o ++ flat_map line_text (body_lines S.rule S.sections S.links)
printed_body S ss ls o a b s l k e f =
    f ∙ ap (λ (x : List ℕ). x ++ flat_map link_text ls) e
    ∙ append_assoc o (flat_map text_of_section ss) (flat_map link_text ls)
    ∙ ap (λ (x : List ℕ). o ++ x) (sym (body_text S.rule ss ls (subst (IsLinked S.rule) (sym l) k))
    ∙ ap (λ (xs : List SectionParts). flat_map line_text (body_lines S.rule xs (map link_parts ls))) s
    ∙ ap (λ (ks : List LinkParts). flat_map line_text (body_lines S.rule S.sections ks)) l)

-- a name and a body are an object
pub object_is : (v : Version) (rule : PairRule) (p : ObjectParts)
    → object_text v rule p ≡ name_text v p.name ++ flat_map line_text (body_lines rule p.sections p.links)
object_is v rule p = flat_map-append line_text (name_lines v p.name) (body_lines rule p.sections p.links)

pub objects_are : (v : Version) (rule : PairRule) (os : List ObjectParts)
    → flat_map line_text (flat_map (object_lines v rule) os) ≡ flat_map (object_text v rule) os
objects_are v rule [] = refl
objects_are v rule (p ∷ os) = flat_map-append line_text (object_lines v rule p) (flat_map (object_lines v rule) os)
    ∙ ap (λ (zs : List ℕ). object_text v rule p ++ zs) (objects_are v rule os)

-- head, objects and END are the text
pub printed_file : (F : FileParts) (a b c : List ℕ) → a ≡ head_text F.version F.cost F.rule
    → b ≡ a ++ flat_map (object_text F.version F.rule) F.objects → c ≡ b ++ codes "END\n" → c ≡ text_of_file F
printed_file F a b c e f g =
    let h = head_text F.version F.cost F.rule in
    let os = flat_map (object_text F.version F.rule) F.objects in
    g ∙ ap (λ (x : List ℕ). x ++ codes "END\n") (f ∙ ap (λ (x : List ℕ). x ++ os) e)
    ∙ append_assoc h os (codes "END\n")
    ∙ ap (λ (x : List ℕ). h ++ (x ++ codes "END\n")) (sym (objects_are F.version F.rule F.objects))
    ∙ sym (flat_map-append line_text (head_lines F.version F.cost F.rule)
    (flat_map (object_lines F.version F.rule) F.objects ++ end_line ∷ [])
    ∙ ap (λ (x : List ℕ). h ++ x) (flat_map-append line_text (flat_map (object_lines F.version F.rule) F.objects)
    (end_line ∷ [])))

-- the same for one object
pub printed_one : (S : Parts) (a b c : List ℕ) → a ≡ head_text One S.cost S.rule
    → b ≡ a ++ flat_map line_text (body_lines S.rule S.sections S.links) → c ≡ b ++ codes "END\n" → c ≡ text_of S
printed_one S a b c e f g = printed_file (as_file S) a b c e
    (f ∙ ap (λ (x : List ℕ). a ++ x) (sym (append-nil (flat_map line_text (body_lines S.rule S.sections S.links))))) g

-- what holds if a call succeeds
pub on_ok : {T E : Type 0} (r : Result T E) (P Q : Type 0) → (P → Q) → OnOk r P → OnOk r Q
on_ok (Ok v) P Q w h = w h
on_ok (Err e) P Q w h = tt

-- the objects so far, with one more
pub objects_more : (v : Version) (rule own : PairRule) (old new all : List ℕ) (os : List Object) (o : Object)
    (rest : List Object) → old ++ flat_map (object_text v rule) (map object_parts os) ≡ all → os ≡ o ∷ rest
    → new ≡ old ++ object_text v own (object_parts o) → own ≡ rule
    → new ++ flat_map (object_text v rule) (map object_parts rest) ≡ all
objects_more v rule own old new all os o rest h e f g =
    ap (λ (x : List ℕ). x ++ flat_map (object_text v rule) (map object_parts rest))
    (f ∙ ap (λ (r : PairRule). old ++ object_text v r (object_parts o)) g)
    ∙ append_assoc old (object_text v rule (object_parts o)) (flat_map (object_text v rule) (map object_parts rest))
    ∙ ap (λ (xs : List Object). old ++ flat_map (object_text v rule) (map object_parts xs)) (sym e) ∙ h

-- each object is under the rule of the text
pub rule_at : (cost : CostParts) (rule : PairRule) (os : List Object) (i : ℕ) (o : Object) → AreUnder cost rule os
    → i < length os → o ≡ get_or os i o → o.sections.rule ≡ rule
rule_at cost rule os i o h lt e =
    (subst (λ (p : Object). (p.sections.cost ≡ cost) × (p.sections.rule ≡ rule)) (sym e)
    (All-from_recursion (λ (p : Object). (p.sections.cost ≡ cost) × (p.sections.rule ≡ rule)) os h i o lt)).1
