-- The definition reads the canonical text of parts as the parts.
use Rattle.std.proofs.Common.{◌≡◌, ℕ, ◌<◌, ◌≤◌, ◌^◌, true, ◌&&◌, List, [], ◌∷◌, map, length, ℤ, pos, negsuc, refl, sym, subst, append-nil, arith}
use Rattle.std.specs.Prelude.{codes, nat_le, unsigned_abs, ◌≤ℤ◌}
use Rattle.std.specs.List.{flat_map, AllByRecursion, list_all}
use Rattle.std.proofs.lemmas.Grind.{flat_map-append}
use Rattle.std.proofs.lemmas.Int.{ints}
use Rattle.std.proofs.lemmas.Bool.{and_parts, leb-true}
use Rattle.std.proofs.lemmas.Bool.Decides.{nat_tests}
use Rattle.fku_types.specs.declared.limits.TheConstants.{MAX_CONTOUR_VERTICES, MAX_NAME_BYTES}
use Rattle.fku_types.specs.Names.{is_name_byte, is_name}
use Rattle.text_io.specs.Text.{kept_lines}
use Rattle.fku_types.specs.declared.rules.PairRule.{PairRule}
use Rattle.fku_types.specs.declared.rules.PairRule.TheVariants.{Overlap, Links}
use Rattle.section_core.specs.declared.parts.Version.{Version}
use Rattle.section_core.specs.declared.parts.Version.TheVariants.{One, Two}
use Rattle.section_core.specs.Parts.{CostParts, span, area, mix, Parts, Spot, ContourParts, SectionParts, LinkParts, ObjectParts, FileParts, IsCountedContour, IsLink, IsLinked, IsFile, AreObjects, is_read, as_file, all_sections, file_lines, version_line, cost_line, name_lines, body_lines, object_lines, point_line, contour_lines, section_lines, link_line, link_lines, end_line, rule_word, contours_of}
use Rattle.text_io.specs.WordLists.{IsWritableLine}
use Rattle.text_io.proofs.WrittenLines.{AreClean, IsClean, text_matches}
use Rattle.fku_types.specs.Points.{IsCoordinate}
use Rattle.section_core.specs.Laws.{IsSpot, IsMix, IsLawfulFile, heights, weights, IsPointCount}
use Rattle.section_core.specs.Accepted.{IsAccepted, IsAcceptedFile}
use Rattle.section_core.specs.Reading.{HasFile}
use Rattle.section_core.proofs.OneObject.{accepted-to}
use Rattle.section_core.specs.Texts.{IsTextOf, IsTextOfFile}
use Rattle.fku_types.proofs.ListLaws.{all_rest, all_front, all_join}
use Rattle.section_core.specs.Canonical.{text_of, text_of_file}

-- the lines of accepted parts
clean_by : (w : List ℕ) → list_all (nat_le 36) w ≡ true → AreClean w
clean_by [] e = tt
clean_by (b ∷ w) e =
    let p = and_parts (nat_le 36 b) (list_all (nat_le 36) w) e in
    (let q : nat_le 36 b ≡ true = p.0 in grind (arith, nat_tests), clean_by w p.1)

name_byte_clean : (b : ℕ) → is_name_byte b ≡ true → 36 ≤ b
name_byte_clean b e = grind (arith, nat_tests)

name_bytes_clean : (bs : List ℕ) → list_all is_name_byte bs ≡ true → AreClean bs
name_bytes_clean [] e = tt
name_bytes_clean (b ∷ bs) e = let p = and_parts (is_name_byte b) (list_all is_name_byte bs) e in
    (name_byte_clean b p.0, name_bytes_clean bs p.1)

name_clean : (bs : List ℕ) → is_name bs ≡ true → IsClean bs
name_clean bs e =
    let p = and_parts (nat_le 1 (length bs) && nat_le (length bs) MAX_NAME_BYTES) (list_all is_name_byte bs) e in
    let q = and_parts (nat_le 1 (length bs)) (nat_le (length bs) MAX_NAME_BYTES) p.0 in
    (omega (arith, leb-true 1 (length bs) q.0), name_bytes_clean bs p.1)

small_coordinate : (z : ℤ) → IsCoordinate z → unsigned_abs z < 10 ^ 64
small_coordinate z h = omega (arith, h)

small_count : (z : ℤ) → (pos 3 ≤ℤ z) × (z ≤ℤ pos MAX_CONTOUR_VERTICES) → unsigned_abs z < 10 ^ 64
small_count (pos n) h = let k : pos n ≤ℤ pos MAX_CONTOUR_VERTICES = h.1 in let m : n ≤ MAX_CONTOUR_VERTICES =
    omega (arith, ints) in omega (arith, m)
small_count (negsuc n) h = let k : pos 3 ≤ℤ negsuc n = h.0 in absurd (omega (arith, ints))

points_ok : (ps : List Spot) → AllByRecursion IsSpot ps → AllByRecursion IsWritableLine (map point_line ps)
points_ok [] h = tt
points_ok (p ∷ ps) h = ((omega arith, (small_coordinate p.0 h.0.0, (small_coordinate p.1 h.0.1, tt))), points_ok ps h.1)

abbrev IsContourOk : ContourParts → Type 0
IsContourOk c = (is_name c.name ≡ true) × ((pos 3 ≤ℤ c.count) × (c.count ≤ℤ pos MAX_CONTOUR_VERTICES))
    × AllByRecursion IsSpot c.points

contours_good : (cs : List ContourParts) → AllByRecursion IsCountedContour cs
    → AllByRecursion IsPointCount (map (λ (c : ContourParts). c.count) cs)
    → AllByRecursion IsSpot (flat_map (λ (c : ContourParts). c.points) cs) → AllByRecursion IsContourOk cs
contours_good [] h k s = tt
contours_good (c ∷ cs) h k s =
    let rest = flat_map (λ (d : ContourParts). d.points) cs in
    ((h.0.0, k.0, all_front IsSpot c.points rest s), contours_good cs h.1 k.1 (all_rest IsSpot c.points rest s))

contours_ok : (cs : List ContourParts) → AllByRecursion IsContourOk cs
    → AllByRecursion IsWritableLine (flat_map contour_lines cs)
contours_ok [] h = tt
contours_ok (c ∷ cs) h = (
  (
    omega arith,
    (
      (omega arith, clean_by (codes "CONTOUR") refl),
      (name_clean c.name h.0.0, (small_count c.count h.0.1, tt)),
    ),
  ),
  all_join IsWritableLine (map point_line c.points) (flat_map contour_lines cs) (points_ok c.points h.0.2)
      (contours_ok cs h.1),
)

sections_ok : (ss : List SectionParts) → AllByRecursion IsCoordinate (heights ss)
    → AllByRecursion IsContourOk (contours_of ss) → AllByRecursion IsWritableLine (flat_map section_lines ss)
sections_ok [] z h = tt
sections_ok (s ∷ ss) z h = (
  (omega arith, ((omega arith, clean_by (codes "SECTION") refl), (small_coordinate s.z z.0, tt))),
  all_join IsWritableLine (flat_map contour_lines s.contours) (flat_map section_lines ss)
      (contours_ok s.contours (all_front IsContourOk s.contours (contours_of ss) h))
      (sections_ok ss z.1 (all_rest IsContourOk s.contours (contours_of ss) h)),
)

links_ok : (ls : List LinkParts) → AllByRecursion IsLink ls → AllByRecursion IsWritableLine (map link_line ls)
links_ok [] h = tt
links_ok (l ∷ ls) h = (
  (
    omega arith,
    ((omega arith, clean_by (codes "LINK") refl), (name_clean l.below h.0.0, (name_clean l.above h.0.1, tt))),
  ),
  links_ok ls h.1,
)

rule_links_ok : (rule : PairRule) (ls : List LinkParts) → IsLinked rule ls
    → AllByRecursion IsWritableLine (link_lines rule ls)
rule_links_ok Overlap ls h = tt
rule_links_ok Links ls h = links_ok ls h

cost_clean : (cost : CostParts) → AllByRecursion IsMix (weights cost) → IsWritableLine (cost_line cost)
cost_clean span w = (
  omega arith,
  (
    (omega arith, clean_by (codes "COST") refl),
    ((omega arith, clean_by (codes "span") refl), tt),
  ),
)
cost_clean area w = (
  omega arith,
  (
    (omega arith, clean_by (codes "COST") refl),
    ((omega arith, clean_by (codes "area") refl), tt),
  ),
)
cost_clean (mix (pos a) (pos b)) w = (
  omega arith,
  (
    (omega arith, clean_by (codes "COST") refl),
    ((omega arith, clean_by (codes "mix") refl), (omega (arith, w.0.0), (omega (arith, w.0.1), tt))),
  ),
)
cost_clean (mix (negsuc a) b) w = absurd w.0
cost_clean (mix (pos a) (negsuc b)) w = absurd w.0

rule_clean : (rule : PairRule) → IsClean (rule_word rule)
rule_clean Overlap = (omega arith, clean_by (codes "overlap") refl)
rule_clean Links = (omega arith, clean_by (codes "links") refl)

-- one object's lines
body_ok : (rule : PairRule) (ss : List SectionParts) (ls : List LinkParts) → AllByRecursion IsCoordinate (heights ss)
    → AllByRecursion IsContourOk (contours_of ss) → IsLinked rule ls
    → AllByRecursion IsWritableLine (body_lines rule ss ls)
body_ok rule ss ls h c l = all_join IsWritableLine (flat_map section_lines ss) (link_lines rule ls) (sections_ok ss h c)
    (rule_links_ok rule ls l)

name_ok : (v : Version) (name : List ℕ) → is_name name ≡ true → AllByRecursion IsWritableLine (name_lines v name)
name_ok One name n = tt
name_ok Two name n = ((omega arith, ((omega arith, clean_by (codes "OBJECT") refl), (name_clean name n, tt))), tt)

objects_ok : (v : Version) (rule : PairRule) (os : List ObjectParts)
    → AllByRecursion (λ (o : ObjectParts). is_name o.name ≡ true) os
    → AllByRecursion (AllByRecursion IsCoordinate) (map (λ (o : ObjectParts). heights o.sections) os)
    → AllByRecursion IsContourOk (contours_of (all_sections os))
    → AllByRecursion (λ (o : ObjectParts). IsLinked rule o.links) os
    → AllByRecursion IsWritableLine (flat_map (object_lines v rule) os)
objects_ok v rule [] n h c l = tt
objects_ok v rule (o ∷ os) n h c l =
    let g = subst (AllByRecursion IsContourOk)
    (flat_map-append (λ (s : SectionParts). s.contours) o.sections (all_sections os)) c in
    let here = all_front IsContourOk (contours_of o.sections) (contours_of (all_sections os)) g in
    let there = all_rest IsContourOk (contours_of o.sections) (contours_of (all_sections os)) g in
    all_join IsWritableLine (object_lines v rule o) (flat_map (object_lines v rule) os)
    (all_join IsWritableLine (name_lines v o.name) (body_lines rule o.sections o.links) (name_ok v o.name n.0)
    (body_ok rule o.sections o.links h.0 here l.0))
    (objects_ok v rule os n.1 h.1 there l.1)

pub names_good : (v : Version) (os : List ObjectParts) → AreObjects v os
    → AllByRecursion (λ (o : ObjectParts). is_name o.name ≡ true) os
names_good One os h = subst (AllByRecursion (λ (o : ObjectParts). is_name o.name ≡ true)) (sym h.1)
    (subst (λ (n : List ℕ). is_name n ≡ true) (sym h.2) refl, tt)
names_good Two os h = h

version_ok : (v : Version) → IsWritableLine (version_line v)
version_ok One = (omega arith, ((omega arith, clean_by (codes "SECTIONS") refl), (omega arith, tt)))
version_ok Two = (omega arith, ((omega arith, clean_by (codes "SECTIONS") refl), (omega arith, tt)))

lines_ok : (F : FileParts) → IsFile F → IsLawfulFile F → AllByRecursion IsWritableLine (file_lines F)
lines_ok F p l = (
  version_ok F.version,
  (
    cost_clean F.cost l.0.2,
    (
      (omega arith, ((omega arith, clean_by (codes "PAIR") refl), (rule_clean F.rule, tt))),
      all_join IsWritableLine (flat_map (object_lines F.version F.rule) F.objects) (end_line ∷ [])
          (objects_ok F.version F.rule F.objects (names_good F.version F.objects p.objects) l.0.0
          (contours_good (contours_of (all_sections F.objects)) p.contours l.1.1.1.0 l.0.1) p.links)
          ((omega arith, ((omega arith, clean_by (codes "END") refl), tt)), tt),
    ),
  ),
)

-- the definition reads the canonical text as the parts, with an empty tail
pub file_reads : (w : Version) (F : FileParts) → IsAcceptedFile F → is_read w F.version ≡ true
    → HasFile w (kept_lines (text_of_file F)) F []
file_reads w F a r = record {
  front = kept_lines (text_of_file F);
  split = sym (append-nil (kept_lines (text_of_file F)));
  match = text_matches (file_lines F) (lines_ok F a.is_file a.lawful);
  is_file = a.is_file;
  known = r;
  lawful = a.lawful;
}

pub file_text_reads : (F : FileParts) → IsAcceptedFile F → IsTextOfFile (text_of_file F) F
file_text_reads F a = (file_reads Two F a refl, a.filled)

pub text_reads : (S : Parts) → IsAccepted S → IsTextOf (text_of S) S
text_reads S a = (file_reads One (as_file S) (accepted-to S a) refl, a.contour)
