-- The facts of objects with one more object, and how a step within that object changes them.
use Rattle.std.proofs.Common.{◌≡◌, ℕ, zero, suc, ◌+◌, List, [], ◌∷◌, ◌++◌, map, length, ℤ, Some, refl, ap, sym, ◌∙◌, append_assoc, append-nil, arith}
use Rattle.std.specs.List.{flat_map, sum_by}
use Rattle.std.proofs.lemmas.List.{length-append, map-append}
use Rattle.std.proofs.lemmas.List.Sums.{sum_by-append}
use Rattle.std.proofs.lemmas.Grind.{flat_map-append}
use Rattle.fku_types.specs.declared.rules.PairRule.{PairRule}
use Rattle.fku_types.specs.declared.rules.PairRule.TheVariants.{Overlap, Links}
use Rattle.section_core.specs.declared.parts.Version.{Version}
use Rattle.section_core.specs.declared.parts.Version.TheVariants.{One, Two}
use Rattle.section_core.specs.Parts.{CostParts, Spot, ContourParts, SectionParts, LinkParts, ObjectParts, asked, contours_of, all_sections}
use Rattle.section_core.specs.Laws.{Facts, facts, told_names, heights, names, counts, points, weights, section_vertices}
use Rattle.section_core.specs.Machine.{Item, section, contour, point, link, Body, bare, in_section, in_contour, in_links, step, linked, opened, sections_of, links_of, with_section, with_contour}
use Rattle.section_core.specs.Steps.{after, add_last, push_last}
use Rattle.section_core.proofs.SoFar.{some_is}
use Rattle.section_core.proofs.Ends.{contours_of-push, contours_of-contour}

heights-section : (front : List SectionParts) (z : ℤ) (contours : List ContourParts)
    → heights (with_section front z contours) ≡ heights front ++ z ∷ []
heights-section front z contours =
    map-append (λ (s : SectionParts). s.z) front (record { z = z; contours = contours } ∷ [])

names-contour : (front : List SectionParts) (z : ℤ) (contours : List ContourParts) (name : List ℕ) (count : ℤ)
    (ps : List Spot) → names (with_section front z (with_contour contours name count ps))
    ≡ names (with_section front z contours) ++ name ∷ []
names-contour front z contours name count ps =
    let c : ContourParts = record { name = name; count = count; points = ps } in
    ap (map (λ (c : ContourParts). c.name)) (contours_of-contour front z contours c)
    ∙ map-append (λ (c : ContourParts). c.name) (contours_of (with_section front z contours)) (c ∷ [])

counts-contour : (front : List SectionParts) (z : ℤ) (contours : List ContourParts) (name : List ℕ) (count : ℤ)
    (ps : List Spot) → counts (with_section front z (with_contour contours name count ps))
    ≡ counts (with_section front z contours) ++ count ∷ []
counts-contour front z contours name count ps =
    let c : ContourParts = record { name = name; count = count; points = ps } in
    ap (map (λ (c : ContourParts). c.count)) (contours_of-contour front z contours c)
    ∙ map-append (λ (c : ContourParts). c.count) (contours_of (with_section front z contours)) (c ∷ [])

points-contour : (front : List SectionParts) (z : ℤ) (contours : List ContourParts) (name : List ℕ) (count : ℤ)
    (ps : List Spot) → points (with_section front z (with_contour contours name count ps))
    ≡ points (with_section front z contours) ++ ps
points-contour front z contours name count ps =
    let c : ContourParts = record { name = name; count = count; points = ps } in
    ap (flat_map (λ (c : ContourParts). c.points)) (contours_of-contour front z contours c)
    ∙ flat_map-append (λ (c : ContourParts). c.points) (contours_of (with_section front z contours)) (c ∷ [])
    ∙ ap (λ (xs : List Spot). points (with_section front z contours) ++ xs) (append-nil ps)

contours_of-section : (sections : List SectionParts) (z : ℤ)
    → contours_of (with_section sections z []) ≡ contours_of sections
contours_of-section sections z = contours_of-push sections z [] ∙ append-nil (contours_of sections)

vertices-section : (front : List SectionParts) (z : ℤ) (contours : List ContourParts)
    → map section_vertices (with_section front z contours) ≡ map section_vertices front
    ++ sum_by (λ (c : ContourParts). asked c.count) contours ∷ []
vertices-section front z contours = map-append section_vertices front (record { z = z; contours = contours } ∷ [])

vertices-contour : (contours : List ContourParts) (name : List ℕ) (count : ℤ) (ps : List Spot)
    → sum_by (λ (c : ContourParts). asked c.count) (with_contour contours name count ps)
    ≡ sum_by (λ (c : ContourParts). asked c.count) contours + asked count
vertices-contour contours name count ps =
    omega (
      arith,
      sum_by-append (λ (c : ContourParts). asked c.count) contours
          (record { name = name; count = count; points = ps } ∷ []),
    )

-- the names that are stated with one more object
abbrev told : Version → List ObjectParts → List ℕ → List (List ℕ)
told One front name = []
told Two front name = map (λ (o : ObjectParts). o.name) front ++ name ∷ []

-- the facts with one more object, of these sections and links
abbrev pub joined : Version → List (ℤ × ℤ) → List ObjectParts → List ℕ → List SectionParts → List LinkParts → Facts
joined v ws front name sections links = record {
  objects = told v front name;
  heights = map (λ (o : ObjectParts). heights o.sections) front ++ heights sections ∷ [];
  names = names (all_sections front ++ sections);
  counts = counts (all_sections front ++ sections);
  points = points (all_sections front ++ sections);
  weights = ws;
  sums = map section_vertices (all_sections front ++ sections);
  links = sum_by (λ (o : ObjectParts). length o.links) front + length links;
}

pub same_facts : (f g : Facts) → f.objects ≡ g.objects → f.heights ≡ g.heights → f.names ≡ g.names → f.counts ≡ g.counts
    → f.points ≡ g.points → f.weights ≡ g.weights → f.sums ≡ g.sums → f.links ≡ g.links → f ≡ g
same_facts f g o h n c p w s l = λ i.
    record {
      objects = o i;
      heights = h i;
      names = n i;
      counts = c i;
      points = p i;
      weights = w i;
      sums = s i;
      links =
          l i;
    }

told-is : (v : Version) (front : List ObjectParts) (o : ObjectParts)
    → told_names v (front ++ o ∷ []) ≡ told v front o.name
told-is One front o = refl
told-is Two front o = map-append (λ (p : ObjectParts). p.name) front (o ∷ [])

pub all_sections-push : (front : List ObjectParts) (o : ObjectParts)
    → all_sections (front ++ o ∷ []) ≡ all_sections front ++ o.sections
all_sections-push front o = flat_map-append (λ (p : ObjectParts). p.sections) front (o ∷ [])
    ∙ ap (λ (ss : List SectionParts). all_sections front ++ ss) (append-nil o.sections)

pub facts-joined : (v : Version) (cost : CostParts) (rule : PairRule) (front : List ObjectParts) (o : ObjectParts)
    → facts (record { version = v; cost = cost; rule = rule; objects = front ++ o ∷ [] })
    ≡ joined v (weights cost) front o.name o.sections o.links
facts-joined v cost rule front o =
    let all = all_sections-push front o in
    same_facts _ (joined v (weights cost) front o.name o.sections o.links)
    (told-is v front o)
    (map-append (λ (p : ObjectParts). heights p.sections) front (o ∷ []))
    (ap names all)
    (ap counts all)
    (ap points all)
    refl
    (ap (map section_vertices) all)
    (omega (arith, sum_by-append (λ (p : ObjectParts). length p.links) front (o ∷ [])))

push_last-push : (xs : List (List ℤ)) (ys : List ℤ) (z : ℤ) → push_last (xs ++ ys ∷ []) z ≡ xs ++ (ys ++ z ∷ []) ∷ []
push_last-push [] ys z = refl
push_last-push (x ∷ []) ys z = refl
push_last-push (x ∷ y ∷ xs) ys z = ap (λ (r : List (List ℤ)). x ∷ r) (push_last-push (y ∷ xs) ys z)

add_last-push : (xs : List ℕ) (m n : ℕ) → add_last (xs ++ m ∷ []) n ≡ xs ++ (m + n) ∷ []
add_last-push [] m n = refl
add_last-push (x ∷ []) m n = refl
add_last-push (x ∷ y ∷ xs) m n = ap (λ (r : List ℕ). x ∷ r) (add_last-push (y ∷ xs) m n)

joined-section : (v : Version) (ws : List (ℤ × ℤ)) (front : List ObjectParts) (name : List ℕ)
    (sections : List SectionParts) (links : List LinkParts) (z : ℤ)
    → joined v ws front name (with_section sections z []) links
    ≡ after (joined v ws front name sections links) (section z)
joined-section v ws front name sections links z =
    let old = joined v ws front name sections links in
    let all = all_sections front ++ sections in
    let hs = map (λ (o : ObjectParts). heights o.sections) front in
    let push : all_sections front ++ with_section sections z [] ≡ with_section all z [] =
    sym (append_assoc (all_sections front) sections (record { z = z; contours = [] } ∷ [])) in
    let same : contours_of (all_sections front ++ with_section sections z []) ≡ contours_of all = ap contours_of push
    ∙ contours_of-section all z in
    same_facts _ (after old (section z))
    refl
    (ap (λ (zs : List ℤ). hs ++ zs ∷ []) (heights-section sections z []) ∙ sym (push_last-push hs (heights sections) z))
    (ap (map (λ (c : ContourParts). c.name)) same)
    (ap (map (λ (c : ContourParts). c.count)) same)
    (ap (flat_map (λ (c : ContourParts). c.points)) same)
    refl
    (ap (map section_vertices) push ∙ vertices-section all z [])
    refl

-- sections after others, the last of which is open
behind : (before front : List SectionParts) (z : ℤ) (contours : List ContourParts)
    → before ++ with_section front z contours ≡ with_section (before ++ front) z contours
behind before front z contours = sym (append_assoc before front (record { z = z; contours = contours } ∷ []))

joined-contour : (v : Version) (ws : List (ℤ × ℤ)) (objects : List ObjectParts) (name : List ℕ)
    (front : List SectionParts) (z : ℤ) (contours : List ContourParts) (title : List ℕ) (count : ℤ)
    → joined v ws objects name (with_section front z (with_contour contours title count [])) []
    ≡ after (joined v ws objects name (with_section front z contours) []) (contour title count)
joined-contour v ws objects name front z contours title count =
    let a = all_sections objects in
    let hs = map (λ (o : ObjectParts). heights o.sections) objects in
    let new = behind a front z (with_contour contours title count []) in
    let old = behind a front z contours in
    let had = sum_by (λ (c : ContourParts). asked c.count) contours in
    same_facts _ (after (joined v ws objects name (with_section front z contours) []) (contour title count))
    refl
    (ap (λ (zs : List ℤ). hs ++ zs ∷ [])
    (heights-section front z (with_contour contours title count []) ∙ sym (heights-section front z contours)))
    (ap names new ∙ names-contour (a ++ front) z contours title count []
    ∙ ap (λ (ss : List SectionParts). names ss ++ title ∷ []) (sym old))
    (ap counts new ∙ counts-contour (a ++ front) z contours title count []
    ∙ ap (λ (ss : List SectionParts). counts ss ++ count ∷ []) (sym old))
    (ap points new ∙ points-contour (a ++ front) z contours title count []
    ∙ append-nil (points (with_section (a ++ front) z contours)) ∙ ap points (sym old))
    refl
    (ap (map section_vertices) new ∙ vertices-section (a ++ front) z (with_contour contours title count [])
    ∙ ap (λ (n : ℕ). map section_vertices (a ++ front) ++ n ∷ []) (vertices-contour contours title count [])
    ∙ sym (add_last-push (map section_vertices (a ++ front)) had (asked count))
    ∙ ap (λ (ns : List ℕ). add_last ns (asked count))
    (sym (vertices-section (a ++ front) z contours) ∙ ap (map section_vertices) (sym old)))
    refl

pub joined-points : (v : Version) (ws : List (ℤ × ℤ)) (objects : List ObjectParts) (name : List ℕ)
    (front : List SectionParts) (z : ℤ) (contours : List ContourParts) (title : List ℕ) (count : ℤ)
    (ps more : List Spot) → joined v ws objects name
    (with_section front z (with_contour contours title count (ps ++ more))) []
    ≡ record (joined v ws objects name (with_section front z (with_contour contours title count ps)) [])
    { points = points (all_sections objects ++ with_section front z (with_contour contours title count ps)) ++ more }
joined-points v ws objects name front z contours title count ps more =
    let a = all_sections objects in
    let hs = map (λ (o : ObjectParts). heights o.sections) objects in
    let new = behind a front z (with_contour contours title count (ps ++ more)) in
    let old = behind a front z (with_contour contours title count ps) in
    same_facts _ (record (joined v ws objects name (with_section front z (with_contour contours title count ps)) [])
    { points = points (a ++ with_section front z (with_contour contours title count ps)) ++ more })
    refl
    (ap (λ (zs : List ℤ). hs ++ zs ∷ [])
    (heights-section front z (with_contour contours title count (ps ++ more))
    ∙ sym (heights-section front z (with_contour contours title count ps))))
    (ap names new ∙ names-contour (a ++ front) z contours title count (ps ++ more)
    ∙ sym (names-contour (a ++ front) z contours title count ps) ∙ ap names (sym old))
    (ap counts new ∙ counts-contour (a ++ front) z contours title count (ps ++ more)
    ∙ sym (counts-contour (a ++ front) z contours title count ps) ∙ ap counts (sym old))
    (ap points new ∙ points-contour (a ++ front) z contours title count (ps ++ more)
    ∙ sym (append_assoc (points (with_section (a ++ front) z contours)) ps more)
    ∙ ap (λ (xs : List Spot). xs ++ more)
    (sym (points-contour (a ++ front) z contours title count ps) ∙ ap points (sym old)))
    refl
    (ap (map section_vertices) new ∙ vertices-section (a ++ front) z (with_contour contours title count (ps ++ more))
    ∙ ap (λ (n : ℕ). map section_vertices (a ++ front) ++ n ∷ [])
    (vertices-contour contours title count (ps ++ more) ∙ sym (vertices-contour contours title count ps))
    ∙ sym (vertices-section (a ++ front) z (with_contour contours title count ps))
    ∙ ap (map section_vertices) (sym old))
    refl

joined-link : (v : Version) (ws : List (ℤ × ℤ)) (objects : List ObjectParts) (name : List ℕ)
    (sections : List SectionParts) (links : List LinkParts) (l : LinkParts)
    → joined v ws objects name sections (links ++ l ∷ []) ≡ after (joined v ws objects name sections links) (link l)
joined-link v ws objects name sections links l =
    same_facts _ (after (joined v ws objects name sections links) (link l)) refl refl refl refl refl refl refl
    (omega (arith, length-append links (l ∷ [])))

abbrev pub joined_body : Version → List (ℤ × ℤ) → List ObjectParts → List ℕ → Body → Facts
joined_body v ws front name body = joined v ws front name (sections_of body) (links_of body)

joined-linked : (v : Version) (ws : List (ℤ × ℤ)) (front : List ObjectParts) (name : List ℕ) (rule : PairRule)
    (sections : List SectionParts) (links : List LinkParts) (l : LinkParts) (next : Body)
    → linked rule sections links l ≡ Some next
    → joined_body v ws front name next ≡ after (joined v ws front name sections links) (link l)
joined-linked v ws front name Overlap sections links l next e = absurd (cc)
joined-linked v ws front name Links sections links l next e = ap (joined_body v ws front name) (sym (some_is e))
    ∙ joined-link v ws front name sections links l

opened-joined : (v : Version) (ws : List (ℤ × ℤ)) (objects : List ObjectParts) (name : List ℕ)
    (front : List SectionParts) (z : ℤ) (contours : List ContourParts) (title : List ℕ) (count : ℤ) (ps : List Spot)
    (missing : ℕ) → joined_body v ws objects name (opened front z contours title count ps missing)
    ≡ joined v ws objects name (with_section front z (with_contour contours title count ps)) []
opened-joined v ws objects name front z contours title count ps zero = refl
opened-joined v ws objects name front z contours title count ps (suc missing) = refl

pub joined-step : (v : Version) (ws : List (ℤ × ℤ)) (objects : List ObjectParts) (name : List ℕ) (rule : PairRule)
    (body : Body) (item : Item) (next : Body) → step rule body item ≡ Some next
    → joined_body v ws objects name next ≡ after (joined_body v ws objects name body) item
joined-step v ws objects name rule bare (section z) next e = ap (joined_body v ws objects name) (sym (some_is e))
    ∙ joined-section v ws objects name [] [] z
joined-step v ws objects name rule bare (link l) next e = joined-linked v ws objects name rule [] [] l next e
joined-step v ws objects name rule (in_section front z contours) (section y) next e =
    ap (joined_body v ws objects name) (sym (some_is e))
    ∙ joined-section v ws objects name (with_section front z contours) [] y
joined-step v ws objects name rule (in_section front z contours) (contour title count) next e =
    ap (joined_body v ws objects name) (sym (some_is e))
    ∙ opened-joined v ws objects name front z contours title count [] (asked count)
    ∙ joined-contour v ws objects name front z contours title count
joined-step v ws objects name rule (in_section front z contours) (link l) next e =
    joined-linked v ws objects name rule (with_section front z contours) [] l next e
joined-step v ws objects name rule (in_contour front z contours title count ps missing) (point p) next e =
    ap (joined_body v ws objects name) (sym (some_is e))
    ∙ opened-joined v ws objects name front z contours title count (ps ++ p ∷ []) missing
    ∙ joined-points v ws objects name front z contours title count ps (p ∷ [])
joined-step v ws objects name rule (in_links sections links) (link l) next e =
    joined-linked v ws objects name rule sections links l next e
joined-step v ws objects name rule body item next e = absurd (cc)
