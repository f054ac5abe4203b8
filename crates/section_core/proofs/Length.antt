-- The canonical text of accepted parts is short.
use Rattle.std.proofs.Common.{◌≡◌, ℕ, suc, ◌+◌, ◌*◌, ◌≤◌, true, List, [], ◌∷◌, ◌++◌, map, length, ℤ, pos, negsuc, ◌≤ℤ◌, refl, ap, sym, ◌∙◌, subst, arith}
use Rattle.std.specs.Prelude.{codes, nat_le, ◌&&◌}
use Rattle.std.specs.List.{flat_map, AllByRecursion, sum_by, list_all}
use Rattle.std.specs.Fmt.{signed_decimal}
use Rattle.std.proofs.lemmas.List.{length-append, length-map}
use Rattle.std.proofs.lemmas.List.Sums.{sum_by-append, sum_by-cons}
use Rattle.std.proofs.lemmas.Grind.{flat_map-append}
use Rattle.std.proofs.lemmas.Int.{ints}
use Rattle.std.proofs.lemmas.Bool.{and_parts, leb-true}
use Rattle.std.proofs.lemmas.Fmt.{length-decimal-le}
use Rattle.fku_types.specs.declared.limits.TheConstants.{MAX_CONTOUR_VERTICES, MAX_INPUT_BYTES, MAX_NAME_BYTES, MAX_OBJECTS}
use Rattle.fku_types.specs.Points.{IsCoordinate}
use Rattle.fku_types.specs.Names.{is_name, is_name_byte}
use Rattle.fku_types.specs.declared.rules.PairRule.{PairRule}
use Rattle.fku_types.specs.declared.rules.PairRule.TheVariants.{Overlap, Links}
use Rattle.section_core.specs.declared.parts.Version.{Version}
use Rattle.section_core.specs.declared.parts.Version.TheVariants.{One, Two}
use Rattle.section_core.specs.Parts.{CostParts, span, area, mix, Spot, ContourParts, SectionParts, LinkParts, ObjectParts, FileParts, IsCountedContour, IsLink, IsLinked, IsFile, AreObjects, all_sections, version_number, version_line, cost_line, rule_line, object_line, name_lines, body_lines, object_lines, asked, point_line, contour_lines, section_lines, link_line, link_lines, head_lines, end_line, rule_word, contours_of}
use Rattle.text_io.specs.WordLists.{Word, text, number, line_text}
use Rattle.section_core.specs.Laws.{IsSpot, IsMix, weights, IsLawfulFile, told_names, heights, IsPointCount}
use Rattle.section_core.specs.Accepted.{IsAcceptedFile}
use Rattle.section_core.specs.Canonical.{text_of_file}
use Rattle.fku_types.proofs.ListLaws.{all_rest, all_front}
use Rattle.section_core.proofs.Canon.{names_good}

-- words
signed_short : (z : ℤ) → IsCoordinate z → length (signed_decimal z) ≤ 7
signed_short (pos n) h = let m : n ≤ 999999 = h in
    omega (arith, length-decimal-le 6 n (omega arith) (omega (arith, m)) (omega (arith, m)))
signed_short (negsuc n) h = let m : suc n ≤ 999999 = h in
    omega (arith, length-decimal-le 6 (suc n) (omega arith) (omega (arith, m)) (omega (arith, m)))

count_short : (k : ℤ) → (pos 3 ≤ℤ k) × (k ≤ℤ pos MAX_CONTOUR_VERTICES) → length (signed_decimal k) ≤ 4
count_short (pos n) h = let k : pos n ≤ℤ pos MAX_CONTOUR_VERTICES = h.1 in let m : n ≤ MAX_CONTOUR_VERTICES =
    omega (arith, ints) in length-decimal-le 4 n (omega arith) (omega (arith, m)) (omega (arith, m))
count_short (negsuc n) h = let k : pos 3 ≤ℤ negsuc n = h.0 in absurd (omega (arith, ints))

name_short : (bs : List ℕ) → is_name bs ≡ true → length bs ≤ MAX_NAME_BYTES
name_short bs e =
    let p = and_parts (nat_le 1 (length bs) && nat_le (length bs) MAX_NAME_BYTES) (list_all is_name_byte bs) e in
    leb-true (length bs) MAX_NAME_BYTES (and_parts (nat_le 1 (length bs)) (nat_le (length bs) MAX_NAME_BYTES) p.0).1

-- lines
two_words : (k a b : List ℕ) → length ((k ++ 32 ∷ (a ++ 32 ∷ b)) ++ 10 ∷ []) ≡ length k + length a + length b + 3
two_words k a b = omega (
  arith,
  length-append (k ++ 32 ∷ (a ++ 32 ∷ b)) (10 ∷ []),
  length-append k (32 ∷ (a ++ 32 ∷ b)),
  length-append a (32 ∷ b),
)

one_word : (k a : List ℕ) → length ((k ++ 32 ∷ a) ++ 10 ∷ []) ≡ length k + length a + 2
one_word k a = omega (arith, length-append (k ++ 32 ∷ a) (10 ∷ []), length-append k (32 ∷ a))

lines_more : (l : List Word) (ls : List (List Word))
    → length (flat_map line_text (l ∷ ls)) ≡ length (line_text l) + length (flat_map line_text ls)
lines_more l ls = length-append (line_text l) (flat_map line_text ls)

lines_split : (xs ys : List (List Word))
    → length (flat_map line_text (xs ++ ys)) ≡ length (flat_map line_text xs) + length (flat_map line_text ys)
lines_split xs ys = ap length (flat_map-append line_text xs ys)
    ∙ length-append (flat_map line_text xs) (flat_map line_text ys)

points_short : (ps : List Spot) → AllByRecursion IsSpot ps
    → length (flat_map line_text (map point_line ps)) ≤ 16 * length ps
points_short [] h = omega arith
points_short (p ∷ ps) h =
    omega (
      arith,
      lines_more (point_line p) (map point_line ps),
      one_word (signed_decimal p.0) (signed_decimal p.1),
      signed_short p.0 h.0.0,
      signed_short p.1 h.0.1,
      points_short ps h.1,
    )

abbrev Vertices : ContourParts → ℕ
Vertices c = length c.points

abbrev IsShort : ContourParts → Type 0
IsShort c = (length c.name ≤ MAX_NAME_BYTES) × (length (signed_decimal c.count) ≤ 4) × AllByRecursion IsSpot c.points

contours_short : (cs : List ContourParts) → AllByRecursion IsShort cs
    → length (flat_map line_text (flat_map contour_lines cs)) ≤ 78 * length cs + 16 * sum_by Vertices cs
contours_short [] h = omega arith
contours_short (c ∷ cs) h =
    let head = text (codes "CONTOUR") ∷ text c.name ∷ number c.count ∷ [] in
    omega (
      arith,
      lines_split (contour_lines c) (flat_map contour_lines cs),
      lines_more head (map point_line c.points),
      two_words (codes "CONTOUR") c.name (signed_decimal c.count),
      points_short c.points h.0.2,
      h.0.0,
      h.0.1,
      sum_by-cons Vertices c cs,
      contours_short cs h.1,
    )

sections_short : (ss : List SectionParts) → AllByRecursion IsCoordinate (heights ss)
    → AllByRecursion IsShort (contours_of ss)
    → length (flat_map line_text (flat_map section_lines ss)) ≤ 16 * length ss + 78 * length (contours_of ss)
    + 16 * sum_by Vertices (contours_of ss)
sections_short [] z h = omega arith
sections_short (s ∷ ss) z h =
    let head = text (codes "SECTION") ∷ number s.z ∷ [] in
    omega (
      arith,
      lines_split (section_lines s) (flat_map section_lines ss),
      lines_more head (flat_map contour_lines s.contours),
      one_word (codes "SECTION") (signed_decimal s.z),
      signed_short s.z z.0,
      contours_short s.contours (all_front IsShort s.contours (contours_of ss) h),
      sections_short ss z.1 (all_rest IsShort s.contours (contours_of ss) h),
      length-append s.contours (contours_of ss),
      sum_by-append Vertices s.contours (contours_of ss),
    )

links_short : (ls : List LinkParts) → AllByRecursion IsLink ls
    → length (flat_map line_text (map link_line ls)) ≤ 135 * length ls
links_short [] h = omega arith
links_short (l ∷ ls) h =
    omega (
      arith,
      lines_more (link_line l) (map link_line ls),
      two_words (codes "LINK") l.below l.above,
      name_short l.below h.0.0,
      name_short l.above h.0.1,
      links_short ls h.1,
    )

rule_short : (rule : PairRule) (ls : List LinkParts) → IsLinked rule ls
    → length (flat_map line_text (link_lines rule ls)) ≤ 135 * length ls
rule_short Overlap ls h = omega arith
rule_short Links ls h = links_short ls h

three_words : (k a b c : List ℕ) → length ((k ++ 32 ∷ (a ++ 32 ∷ (b ++ 32 ∷ c))) ++ 10 ∷ []) ≡ length k + length a
    + length b + length c + 4
three_words k a b c =
    omega (
      arith,
      length-append (k ++ 32 ∷ (a ++ 32 ∷ (b ++ 32 ∷ c))) (10 ∷ []),
      length-append k (32 ∷ (a ++ 32 ∷ (b ++ 32 ∷ c))),
      length-append a (32 ∷ (b ++ 32 ∷ c)),
      length-append b (32 ∷ c),
    )

weight_short : (n : ℕ) → n ≤ 1000 → length (signed_decimal (pos n)) ≤ 4
weight_short n h = length-decimal-le 4 n (omega arith) (omega (arith, h)) (omega (arith, h))

cost_short : (cost : CostParts) → AllByRecursion IsMix (weights cost) → length (line_text (cost_line cost)) ≤ 19
cost_short span w = omega arith
cost_short area w = omega arith
cost_short (mix (pos a) (pos b)) w =
    let x = signed_decimal (pos a) in
    let y = signed_decimal (pos b) in
    subst (λ (n : ℕ). n ≤ 19) (sym (three_words (codes "COST") (codes "mix") x y))
    (small (length x) (length y) (weight_short a w.0.0) (weight_short b w.0.1))
  where
    small : (m n : ℕ) → m ≤ 4 → n ≤ 4 → length (codes "COST") + length (codes "mix") + m + n + 4 ≤ 19
    small m n h k = omega (arith, h, k)
cost_short (mix (negsuc a) b) w = absurd w.0
cost_short (mix (pos a) (negsuc b)) w = absurd w.0

rule_letters : (rule : PairRule) → length (rule_word rule) ≤ 7
rule_letters Overlap = omega arith
rule_letters Links = omega arith

number_short : (v : Version) → length (signed_decimal (pos (version_number v))) ≤ 1
number_short One = length-decimal-le 1 1 (omega arith) (omega arith) (omega arith)
number_short Two = length-decimal-le 1 2 (omega arith) (omega arith) (omega arith)

head_short : (v : Version) (cost : CostParts) (rule : PairRule) → AllByRecursion IsMix (weights cost)
    → length (flat_map line_text (head_lines v cost rule)) ≤ 50
head_short v cost rule w =
    omega (
      arith,
      lines_more (version_line v) (cost_line cost ∷ rule_line rule ∷ []),
      lines_more (cost_line cost) (rule_line rule ∷ []),
      lines_more (rule_line rule) [],
      one_word (codes "SECTIONS") (signed_decimal (pos (version_number v))),
      one_word (codes "PAIR") (rule_word rule),
      number_short v,
      cost_short cost w,
      rule_letters rule,
    )

-- contours of accepted parts
all_short : (cs : List ContourParts) → AllByRecursion IsCountedContour cs
    → AllByRecursion IsPointCount (map (λ (c : ContourParts). c.count) cs)
    → AllByRecursion IsSpot (flat_map (λ (c : ContourParts). c.points) cs) → AllByRecursion IsShort cs
all_short [] h k s = tt
all_short (c ∷ cs) h k s =
    let rest = flat_map (λ (d : ContourParts). d.points) cs in (
      (name_short c.name h.0.0, count_short c.count k.0, all_front IsSpot c.points rest s),
      all_short cs h.1 k.1 (all_rest IsSpot c.points rest s),
    )

all_asked : (cs : List ContourParts) → AllByRecursion IsCountedContour cs
    → sum_by Vertices cs ≡ sum_by asked (map (λ (c : ContourParts). c.count) cs)
all_asked [] h = refl
all_asked (c ∷ cs) h = omega (
  arith,
  sum_by-cons Vertices c cs,
  sum_by-cons asked c.count (map (λ (d : ContourParts). d.count) cs),
  h.0.1,
  all_asked cs h.1,
)

name_line_short : (v : Version) (name : List ℕ) → is_name name ≡ true
    → length (flat_map line_text (name_lines v name)) ≤ 72
name_line_short One name n = omega arith
name_line_short Two name n = omega
    (arith, lines_more (object_line name) [], one_word (codes "OBJECT") name, name_short name n)

-- objects: their names, sections, contours, points and links
objects_short : (v : Version) (rule : PairRule) (os : List ObjectParts)
    → AllByRecursion (λ (o : ObjectParts). is_name o.name ≡ true) os
    → AllByRecursion (AllByRecursion IsCoordinate) (map (λ (o : ObjectParts). heights o.sections) os)
    → AllByRecursion IsShort (contours_of (all_sections os))
    → AllByRecursion (λ (o : ObjectParts). IsLinked rule o.links) os
    → length (flat_map line_text (flat_map (object_lines v rule) os)) ≤ 72 * length os
    + 16 * sum_by length (map (λ (o : ObjectParts). heights o.sections) os)
    + 78 * length (contours_of (all_sections os)) + 16 * sum_by Vertices (contours_of (all_sections os))
    + 135 * sum_by (λ (o : ObjectParts). length o.links) os
objects_short v rule [] n z h k = omega arith
objects_short v rule (o ∷ os) n z h k =
    let cs = contours_of o.sections in
    let ds = contours_of (all_sections os) in
    let both = flat_map-append (λ (s : SectionParts). s.contours) o.sections (all_sections os) in
    let g = subst (AllByRecursion IsShort) both h in
    let hs = map (λ (p : ObjectParts). heights p.sections) os in
    omega (
      arith,
      lines_split (object_lines v rule o) (flat_map (object_lines v rule) os),
      lines_split (name_lines v o.name) (body_lines rule o.sections o.links),
      lines_split (flat_map section_lines o.sections) (link_lines rule o.links),
      name_line_short v o.name n.0,
      sections_short o.sections z.0 (all_front IsShort cs ds g),
      rule_short rule o.links k.0,
      objects_short v rule os n.1 z.1 (all_rest IsShort cs ds g) k.1,
      ap length both,
      length-append cs ds,
      ap (sum_by Vertices) both,
      sum_by-append Vertices cs ds,
      sum_by-append {X = List ℤ} length (heights o.sections ∷ []) hs,
      length-map o.sections (λ (s : SectionParts). s.z),
      sum_by-append (λ (p : ObjectParts). length p.links) (o ∷ []) os,
    )

-- one object of version 1, or as many as have names
few_objects : (F : FileParts) → IsFile F → IsLawfulFile F → length F.objects ≤ MAX_OBJECTS
few_objects F f l = few_by F.version F.objects f.objects l.1.1.1.1.1.1.1.1.1.0
  where
    few_by : (v : Version) (os : List ObjectParts) → AreObjects v os → length (told_names v os) ≤ MAX_OBJECTS
        → length os ≤ MAX_OBJECTS
    few_by One os h k = omega (arith, ap length h.1)
    few_by Two os h k = omega (arith, k, length-map os (λ (o : ObjectParts). o.name))

pub file_short : (F : FileParts) → IsAcceptedFile F → length (text_of_file F) ≤ MAX_INPUT_BYTES
file_short F a =
    let all = contours_of (all_sections F.objects) in
    let l = a.lawful in
    omega (
      arith,
      lines_split (head_lines F.version F.cost F.rule)
          (flat_map (object_lines F.version F.rule) F.objects ++ end_line ∷ []),
      lines_split (flat_map (object_lines F.version F.rule) F.objects) (end_line ∷ []),
      head_short F.version F.cost F.rule l.0.2,
      objects_short F.version F.rule F.objects (names_good F.version F.objects a.is_file.objects) l.0.0
          (all_short all a.is_file.contours l.1.1.1.0 l.0.1) a.is_file.links,
      few_objects F a.is_file l,
      all_asked all a.is_file.contours,
      length-map all (λ (c : ContourParts). c.name),
      l.1.1.1.1.1.0,
      l.1.1.1.1.1.1.0,
      l.1.1.1.1.1.1.1.0,
      l.1.1.1.1.1.1.1.1.0,
    )
