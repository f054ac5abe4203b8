-- Sections have only one list of densified sections, or one fault.
use Rattle.std.proofs.Common.{◌≡◌, ℕ, ◌+◌, ◌<◌, Bool, true, false, cond, List, [], ◌∷◌, ◌++◌, length, map, filter, flat_map, get_or, refl, sym, ap, ap₂, ◌∙◌, arith, subst, zero, suc}
use Rattle.std.specs.List.{range_with_len, AllByRecursion}
use Rattle.std.proofs.lemmas.Bool.{both_ways, eqb-true}
use Rattle.std.proofs.lemmas.List.{get_or_default, same_lists}
use Rattle.fku_types.proofs.TruthLaws.{same_truths}
use Rattle.fku_types.specs.declared.points.Spot.{Spot as Place}
use Rattle.fku_types.specs.declared.rules.PairRule.TheVariants.{Links}
use Rattle.section_core.specs.Parts.{Parts, SectionParts, ContourParts, LinkParts}
use Rattle.correspondence.specs.Outlines.{Layer, layer_at, name_in, section_at}
use Rattle.row_paths.proofs.SolutionLaws.{solves_unique}
use Rattle.section_pairs.specs.Pairs.{PairParts}
use Rattle.section_pairs.proofs.PairLaws.{one_pairs}
use Rattle.section_slices.specs.Densified.{is_dense, is_in, pair_at, outline_at, middle_outline, IsMiddleOutline, AreMiddleOutlines, middle_contour, contour_through, middle_name, middle_section, middle_height, section_and_middle, link, row_links, marked_links, MarksCorresponding, AreLinksOf, of_dense, of_other, AreLinksOfGaps, densified, IsDensified}

-- a pair has one middle outline
one_outline : (S : Parts) (p : PairParts) (a b : List Place) → IsMiddleOutline S p a → IsMiddleOutline S p b → a ≡ b
one_outline S p a b h k = h.spots ∙ ap (middle_outline S p)
    (solves_unique p.strip h.solution k.solution h.solves k.solves) ∙ sym k.spots

-- maps of the items that pass are equal if they are equal on these items
same_step : {X Y : Type 0} (b : Bool) (f h : X → Y) (x : X) (rest : List X) → (b ≡ true → f x ≡ h x)
    → map f rest ≡ map h rest → map f (cond b (x ∷ rest) rest) ≡ map h (cond b (x ∷ rest) rest)
same_step {Y = Y} true f h x rest a e = ap₂ (λ (y : Y) (ys : List Y). y ∷ ys) (a refl) e
same_step false f h x rest a e = e

map_same : {X Y : Type 0} (test : X → Bool) (f h : X → Y) (xs : List X)
    → AllByRecursion (λ x. test x ≡ true → f x ≡ h x) xs → map f (filter test xs) ≡ map h (filter test xs)
map_same test f h [] a = refl
map_same test f h (x ∷ xs) a = same_step (test x) f h x (filter test xs) a.0 (map_same test f h xs a.1)

-- what holds of each number from a on
all_from : (P : ℕ → Type 0) (a n : ℕ) → ((k : ℕ) → k < a + n → P k) → AllByRecursion P (range_with_len a n)
all_from P a zero h = tt
all_from P a (suc n) h = (h a (omega arith), all_from P (a + 1) n (λ k l. h k (omega (arith, l))))

flat_same : {X Y : Type 0} (f h : X → List Y) (xs : List X) → AllByRecursion (λ x. f x ≡ h x) xs
    → flat_map f xs ≡ flat_map h xs
flat_same f h [] a = refl
flat_same {Y = Y} f h (x ∷ xs) a = ap₂ (λ (ys zs : List Y). ys ++ zs) a.0 (flat_same f h xs a.1)

filter_same : {X : Type 0} (p q : X → Bool) (xs : List X) → AllByRecursion (λ x. p x ≡ q x) xs
    → filter p xs ≡ filter q xs
filter_same p q [] a = refl
filter_same {X} p q (x ∷ xs) a = ap₂ (λ (b : Bool) (ys : List X). cond b (x ∷ ys) ys) a.0 (filter_same p q xs a.1)

-- the middle section of a dense gap is unique
one_middle : (S : Parts) (ps : List PairParts) (os us : List (List Place)) (g : ℕ) → AreMiddleOutlines S ps os
    → AreMiddleOutlines S ps us → is_dense S ps g ≡ true → middle_section S ps os g ≡ middle_section S ps us g
one_middle S ps os us g h k d =
    let with_contours : List ContourParts → SectionParts = λ cs. record { z = middle_height S g; contours = cs } in
    ap with_contours (map_same (λ n. is_in g (pair_at ps n)) (middle_contour os) (middle_contour us)
    (range_with_len 0 (length ps))
    (all_from (λ n. is_in g (pair_at ps n) ≡ true → middle_contour os n ≡ middle_contour us n) 0 (length ps)
    (λ n l t. let dense : is_dense S ps (pair_at ps n).gap ≡ true = ap (is_dense S ps) (eqb-true (pair_at ps n).gap g t)
    ∙ d in
    ap (contour_through (middle_name n))
    (one_outline S (pair_at ps n) (outline_at os n) (outline_at us n) (h.each n (omega (arith, l)) dense)
    (k.each n (omega (arith, l)) dense)))))

one_section : (S : Parts) (ps : List PairParts) (os us : List (List Place)) (g : ℕ) → AreMiddleOutlines S ps os
    → AreMiddleOutlines S ps us → section_and_middle S ps os g ≡ section_and_middle S ps us g
one_section S ps os us g h k = go (is_dense S ps g) refl
  where
    go : (b : Bool) → is_dense S ps g ≡ b → section_and_middle S ps os g ≡ section_and_middle S ps us g
    go true e = ap (λ (m : SectionParts). section_at S g ∷ cond (is_dense S ps g) (m ∷ []) [])
        (one_middle S ps os us g h k e)
    go false e =
        ap (λ (b : Bool). section_at S g ∷ cond b (middle_section S ps os g ∷ []) []) e
        ∙ sym (ap (λ (b : Bool). section_at S g ∷ cond b (middle_section S ps us g ∷ []) []) e)

one_table : (S : Parts) (g : ℕ) (t u : ℕ → ℕ → Bool) → MarksCorresponding S g t → MarksCorresponding S g u
    → marked_links (layer_at S g) (layer_at S (g + 1)) t ≡ marked_links (layer_at S g) (layer_at S (g + 1)) u
one_table S g t u h k =
    let low : Layer = layer_at S g in
    let high : Layer = layer_at S (g + 1) in
    flat_same (λ i. row_links (name_in low i) high.names (t i)) (λ i. row_links (name_in low i) high.names (u i))
    (range_with_len 0 (length low.names))
    (all_from (λ i. row_links (name_in low i) high.names (t i) ≡ row_links (name_in low i) high.names (u i)) 0
    (length low.names)
    (λ i l. ap (map (λ j. link (name_in low i) (get_or high.names j [])))
    (filter_same (t i) (u i) (range_with_len 0 (length high.names))
    (all_from (λ j. t i j ≡ u i j) 0 (length high.names) (λ j m. same_truths (t i j) (u i j)
    (λ e. (k i j (omega (arith, l)) (omega (arith, m))).1 ((h i j (omega (arith, l)) (omega (arith, m))).0 e))
    (λ e. (h i j (omega (arith, l)) (omega (arith, m))).1 ((k i j (omega (arith, l)) (omega (arith, m))).0 e)))))))

one_gap : (S : Parts) (ps : List PairParts) (g : ℕ) (ls ms : List LinkParts) → AreLinksOf S ps g ls
    → AreLinksOf S ps g ms → ls ≡ ms
one_gap S ps g ls ms (of_dense d e) (of_dense f k) = e ∙ sym k
one_gap S ps g ls ms (of_dense d e) (of_other f t h k) = absurd (both_ways (is_dense S ps g) f d)
one_gap S ps g ls ms (of_other d t h e) (of_dense f k) = absurd (both_ways (is_dense S ps g) d f)
one_gap S ps g ls ms (of_other d t h e) (of_other f u k i) = e ∙ one_table S g t u h k ∙ sym i

one_links : (S : Parts) (ps : List PairParts) (ls ms : List (List LinkParts)) → AreLinksOfGaps S ps ls
    → AreLinksOfGaps S ps ms → ls ≡ ms
one_links S ps ls ms h k =
    same_lists ls ms (omega (arith, h.count, k.count))
    (λ g d l. get_or_default ls g d [] l
    ∙ one_gap S ps g (get_or ls g []) (get_or ms g []) (h.each g l) (k.each g (omega (arith, l, h.count, k.count)))
    ∙ get_or_default ms g [] d (omega (arith, l, h.count, k.count)))

abbrev with_parts : Parts → List SectionParts → List (List LinkParts) → Parts
with_parts S sections links = record
    { cost = S.cost; rule = Links; sections = sections; links = flat_map (λ (ls : List LinkParts). ls) links }

same_densified : (S : Parts) (ps : List PairParts) (os us : List (List Place)) (ls ms : List (List LinkParts))
    → AreMiddleOutlines S ps os → AreMiddleOutlines S ps us → AreLinksOfGaps S ps ls → AreLinksOfGaps S ps ms
    → densified S ps os ls ≡ densified S ps us ms
same_densified S ps os us ls ms h k i j =
    ap₂ (with_parts S)
    (flat_same (section_and_middle S ps os) (section_and_middle S ps us) (range_with_len 0 (length S.sections))
    (all_from (λ g. section_and_middle S ps os g ≡ section_and_middle S ps us g) 0 (length S.sections)
    (λ g l. one_section S ps os us g h k)))
    (one_links S ps ls ms i j)

-- sections have one list of densified sections and links
pub one_densified : (S T U : Parts) → IsDensified S T → IsDensified S U → T ≡ U
one_densified S T U d e =
    let same : e.pairs ≡ d.pairs = one_pairs S e.pairs d.pairs e.are_pairs d.are_pairs in
    d.parts ∙ same_densified S d.pairs d.outlines e.outlines d.links e.links d.are_outlines
    (subst (λ (ps : List PairParts). AreMiddleOutlines S ps e.outlines) same e.are_outlines) d.are_links
    (subst (λ (ps : List PairParts). AreLinksOfGaps S ps e.links) same e.are_links)
    ∙ sym (e.parts ∙ ap (λ (ps : List PairParts). densified S ps e.outlines e.links) same)
