-- What a line says by itself.
use Rattle.std.proofs.Common.{◌≡◌, ℕ, Bool, true, false, cond, ◌⊎◌, inl, inr, ◌&&◌, List, [], ◌∷◌, ◌++◌, map, ℤ, pos, negsuc, Option, None, Some, refl, ap, sym, ◌∙◌, subst, arith, rules}
use Rattle.std.specs.Prelude.{codes, nat_eq}
use Rattle.std.specs.List.{flat_map}
use Rattle.std.proofs.lemmas.List.{map-append}
use Rattle.std.specs.Option.{option_map}
use Rattle.std.proofs.lemmas.Bool.Decides.{nat_tests}
use Rattle.std.proofs.lemmas.Slice.Eq.{bytes_eq-Decides}
use Rattle.std.proofs.lemmas.Bool.{cond-true, and_from, and_parts}
use Rattle.fku_types.specs.Names.{is_name}
use Rattle.text_io.specs.Text.{number_of}
use Rattle.section_core.specs.declared.parts.Version.{Version}
use Rattle.section_core.specs.declared.parts.Version.TheVariants.{One, Two}
use Rattle.section_core.specs.Parts.{span, area, mix, ContourParts, SectionParts, LinkParts, ObjectParts, FileParts, file_lines, head_lines, object_line, object_lines, body_lines, link_lines, section_lines, contour_lines, point_line, link_line, end_line}
use Rattle.text_io.specs.WordLists.{Word, Matches}
use Rattle.section_core.specs.Machine.{Item, version, cost_is, rule_is, object, section, contour, point, link, finish, item_line, IsItem, same, version_of, as_cost, mix_of, quad_of, as_rule, object_said, as_pair, item_of, section_items, contour_items, link_items, body_items, object_items, file_items}
use Rattle.fku_types.specs.declared.rules.PairRule.{PairRule}
use Rattle.fku_types.specs.declared.rules.PairRule.TheVariants.{Overlap, Links}
use Rattle.section_core.proofs.SoFar.{map_some, some_is}

points-lines : (ps : List (ℤ × ℤ)) → map item_line (map point ps) ≡ map point_line ps
points-lines [] = refl
points-lines (p ∷ ps) = ap (λ (ls : List (List Word)). point_line p ∷ ls) (points-lines ps)

contours-lines : (cs : List ContourParts) → map item_line (flat_map contour_items cs) ≡ flat_map contour_lines cs
contours-lines [] = refl
contours-lines (c ∷ cs) =
    map-append item_line (contour_items c) (flat_map contour_items cs)
    ∙ ap (λ (ls : List (List Word)). (item_line (contour c.name c.count) ∷ ls)
    ++ map item_line (flat_map contour_items cs)) (points-lines c.points)
    ∙ ap (λ (ls : List (List Word)). contour_lines c ++ ls) (contours-lines cs)

sections-lines : (ss : List SectionParts) → map item_line (flat_map section_items ss) ≡ flat_map section_lines ss
sections-lines [] = refl
sections-lines (s ∷ ss) =
    map-append item_line (section_items s) (flat_map section_items ss)
    ∙ ap (λ (ls : List (List Word)). (item_line (section s.z) ∷ ls) ++ map item_line (flat_map section_items ss))
    (contours-lines s.contours)
    ∙ ap (λ (ls : List (List Word)). section_lines s ++ ls) (sections-lines ss)

map-link-lines : (ls : List LinkParts) → map item_line (map link ls) ≡ map link_line ls
map-link-lines [] = refl
map-link-lines (l ∷ ls) = ap (λ (xs : List (List Word)). link_line l ∷ xs) (map-link-lines ls)

links-lines : (rule : PairRule) (ls : List LinkParts) → map item_line (link_items rule ls) ≡ link_lines rule ls
links-lines Overlap ls = refl
links-lines Links ls = map-link-lines ls

body-lines : (rule : PairRule) (ss : List SectionParts) (ls : List LinkParts)
    → map item_line (body_items rule ss ls) ≡ body_lines rule ss ls
body-lines rule ss ls =
    map-append item_line (flat_map section_items ss) (link_items rule ls)
    ∙ ap (λ (xs : List (List Word)). xs ++ map item_line (link_items rule ls)) (sections-lines ss)
    ∙ ap (λ (xs : List (List Word)). flat_map section_lines ss ++ xs) (links-lines rule ls)

object-lines : (v : Version) (rule : PairRule) (o : ObjectParts)
    → map item_line (object_items v rule o) ≡ object_lines v rule o
object-lines One rule o = body-lines rule o.sections o.links
object-lines Two rule o = ap (λ (xs : List (List Word)). object_line o.name ∷ xs) (body-lines rule o.sections o.links)

objects-lines : (v : Version) (rule : PairRule) (os : List ObjectParts)
    → map item_line (flat_map (object_items v rule) os) ≡ flat_map (object_lines v rule) os
objects-lines v rule [] = refl
objects-lines v rule (o ∷ os) =
    map-append item_line (object_items v rule o) (flat_map (object_items v rule) os)
    ∙ ap (λ (xs : List (List Word)). xs ++ map item_line (flat_map (object_items v rule) os)) (object-lines v rule o)
    ∙ ap (λ (xs : List (List Word)). object_lines v rule o ++ xs) (objects-lines v rule os)

-- the items of parts have the lines of the parts
pub items-lines : (F : FileParts) → map item_line (file_items F) ≡ file_lines F
items-lines F =
    ap (λ (ls : List (List Word)). head_lines F.version F.cost F.rule ++ ls)
    (map-append item_line (flat_map (object_items F.version F.rule) F.objects) (finish ∷ [])
    ∙ ap (λ (ls : List (List Word)). ls ++ end_line ∷ []) (objects-lines F.version F.rule F.objects))

pub same-refl : (xs : List ℕ) → same xs xs ≡ true
same-refl xs = (bytes_eq-Decides xs xs).1 refl

pub same-is : (xs ys : List ℕ) → same xs ys ≡ true → xs ≡ ys
same-is xs ys e = (bytes_eq-Decides xs ys).0 e

-- a line that matches an item says that item
pub item_of-matches : (line : List (List ℕ)) (item : Item) → Matches line (item_line item) → IsItem item
    → item_of line ≡ Some item
item_of-matches (a ∷ b ∷ []) (version One) h i =
    subst (λ (a : List ℕ). item_of (a ∷ b ∷ []) ≡ Some (version One)) (sym h.0) (ap version_of h.1.0)
item_of-matches (a ∷ b ∷ []) (version Two) h i =
    subst (λ (a : List ℕ). item_of (a ∷ b ∷ []) ≡ Some (version Two)) (sym h.0) (ap version_of h.1.0)
item_of-matches (a ∷ b ∷ []) (object name) h i =
    subst (λ (a : List ℕ). item_of (a ∷ b ∷ []) ≡ Some (object name)) (sym h.0)
    (subst (λ (b : List ℕ). item_of (codes "OBJECT" ∷ b ∷ []) ≡ Some (object name)) (sym h.1.0)
    (cond-true (is_name name) _ _ i))
item_of-matches (a ∷ b ∷ []) (cost_is span) h i =
    subst (λ (a : List ℕ). item_of (a ∷ b ∷ []) ≡ Some (cost_is span)) (sym h.0) (ap as_cost h.1.0)
item_of-matches (a ∷ b ∷ []) (cost_is area) h i =
    subst (λ (a : List ℕ). item_of (a ∷ b ∷ []) ≡ Some (cost_is area)) (sym h.0) (ap as_cost h.1.0)
item_of-matches (a ∷ b ∷ c ∷ d ∷ []) (cost_is (mix x y)) h i =
    subst (λ (a : List ℕ). item_of (a ∷ b ∷ c ∷ d ∷ []) ≡ Some (cost_is (mix x y))) (sym h.0)
    (subst (λ (b : List ℕ). item_of (codes "COST" ∷ b ∷ c ∷ d ∷ []) ≡ Some (cost_is (mix x y))) (sym h.1.0)
    (ap (λ (n : Option ℤ). mix_of n (number_of d)) h.1.1.0 ∙ ap (mix_of (Some x)) h.1.1.1.0))
item_of-matches (a ∷ b ∷ []) (rule_is Overlap) h i =
    subst (λ (a : List ℕ). item_of (a ∷ b ∷ []) ≡ Some (rule_is Overlap)) (sym h.0) (ap as_rule h.1.0)
item_of-matches (a ∷ b ∷ []) (rule_is Links) h i =
    subst (λ (a : List ℕ). item_of (a ∷ b ∷ []) ≡ Some (rule_is Links)) (sym h.0) (ap as_rule h.1.0)
item_of-matches (a ∷ b ∷ []) (section z) h i =
    subst (λ (a : List ℕ). item_of (a ∷ b ∷ []) ≡ Some (section z)) (sym h.0) (ap (option_map section) h.1.0)
item_of-matches (a ∷ b ∷ []) (point p) h i = ap (λ (n : Option ℤ). as_pair n a b) h.0
    ∙ ap (option_map (λ (y : ℤ). point (p.0, y))) h.1.0
item_of-matches (a ∷ b ∷ c ∷ []) (contour name count) h i =
    subst (λ (a : List ℕ). item_of (a ∷ b ∷ c ∷ []) ≡ Some (contour name count)) (sym h.0)
    (subst (λ (b : List ℕ). item_of (codes "CONTOUR" ∷ b ∷ c ∷ []) ≡ Some (contour name count)) (sym h.1.0)
    (cond-true (is_name name) _ _ i ∙ ap (option_map (contour name)) h.1.1.0))
item_of-matches (a ∷ b ∷ c ∷ []) (link l) h i =
    subst (λ (a : List ℕ). item_of (a ∷ b ∷ c ∷ []) ≡ Some (link l)) (sym h.0)
    (subst (λ (b : List ℕ). item_of (codes "LINK" ∷ b ∷ c ∷ []) ≡ Some (link l)) (sym h.1.0)
    (subst (λ (c : List ℕ). item_of (codes "LINK" ∷ l.below ∷ c ∷ []) ≡ Some (link l)) (sym h.1.1.0)
    (cond-true (is_name l.below && is_name l.above) _ _ (and_from (is_name l.below) (is_name l.above) i.0 i.1))))
item_of-matches (a ∷ []) finish h i = subst (λ (a : List ℕ). item_of (a ∷ []) ≡ Some finish) (sym h.0) refl
item_of-matches line item h i = absurd (search rules)

pick : {A : Type 0} (b : Bool) (x : A) (other : Option A) (y : A) → cond b (Some x) other ≡ Some y
    → ((b ≡ true) × (x ≡ y)) ⊎ ((b ≡ false) × (other ≡ Some y))
pick true x other y e = inl (refl, cc)
pick false x other y e = inr (refl, e)

choose : {A : Type 0} (b : Bool) (one other : Option A) (y : A) → cond b one other ≡ Some y
    → ((b ≡ true) × (one ≡ Some y)) ⊎ ((b ≡ false) × (other ≡ Some y))
choose true one other y e = inl (refl, e)
choose false one other y e = inr (refl, e)

-- the line matches the item, whose names are names
abbrev pub Says : List (List ℕ) → Item → Type 0
Says line item = Matches line (item_line item) × IsItem item

version-says : (b : List ℕ) (o : Option ℤ) (item : Item) → number_of b ≡ o → version_of o ≡ Some item
    → Says (codes "SECTIONS" ∷ b ∷ []) item
version-says b None item n e = absurd (cc)
version-says b (Some (pos k)) item n e =
    elim (pick (nat_eq k 1) (version One) _ item e) [
      | inl h ↦ let e : nat_eq k 1 ≡ true = h.0 in let one : k ≡ 1 = grind (arith, nat_tests) in
          subst (Says (codes "SECTIONS" ∷ b ∷ [])) h.1 ((refl, (n ∙ ap (λ (k : ℕ). Some (pos k)) one, tt)), tt)
      | inr h ↦ elim (pick (nat_eq k 2) (version Two) None item h.1) [
        | inl g ↦ let e : nat_eq k 2 ≡ true = g.0 in let two : k ≡ 2 = grind (arith, nat_tests) in
            subst (Says (codes "SECTIONS" ∷ b ∷ [])) g.1 ((refl, (n ∙ ap (λ (k : ℕ). Some (pos k)) two, tt)), tt)
        | inr g ↦ absurd (cc)
      ]
    ]
version-says b (Some (negsuc k)) item n e = absurd (cc)

object-says : (b : List ℕ) (item : Item) → object_said b ≡ Some item → Says (codes "OBJECT" ∷ b ∷ []) item
object-says b item e =
    elim (pick (is_name b) (object b) None item e) [
      | inl h ↦ subst (Says (codes "OBJECT" ∷ b ∷ [])) h.1 ((refl, (refl, tt)), h.0)
      | inr h ↦ absurd (cc)
    ]

cost-says : (b : List ℕ) (item : Item) → as_cost b ≡ Some item → Says (codes "COST" ∷ b ∷ []) item
cost-says b item e =
    elim (pick (same b (codes "span")) (cost_is span) _ item e) [
      | inl h ↦ subst (Says (codes "COST" ∷ b ∷ [])) h.1 ((refl, (same-is b (codes "span") h.0, tt)), tt)
      | inr h ↦ elim (pick (same b (codes "area")) (cost_is area) None item h.1) [
        | inl k ↦ subst (Says (codes "COST" ∷ b ∷ [])) k.1 ((refl, (same-is b (codes "area") k.0, tt)), tt)
        | inr k ↦ absurd (cc)
      ]
    ]

rule-says : (b : List ℕ) (item : Item) → as_rule b ≡ Some item → Says (codes "PAIR" ∷ b ∷ []) item
rule-says b item e =
    elim (pick (same b (codes "overlap")) (rule_is Overlap) _ item e) [
      | inl h ↦ subst (Says (codes "PAIR" ∷ b ∷ [])) h.1 ((refl, (same-is b (codes "overlap") h.0, tt)), tt)
      | inr h ↦ elim (pick (same b (codes "links")) (rule_is Links) None item h.1) [
        | inl k ↦ subst (Says (codes "PAIR" ∷ b ∷ [])) k.1 ((refl, (same-is b (codes "links") k.0, tt)), tt)
        | inr k ↦ absurd (cc)
      ]
    ]

section-says : (b : List ℕ) (item : Item) → option_map section (number_of b) ≡ Some item
    → Says (codes "SECTION" ∷ b ∷ []) item
section-says b item e = let z = map_some section (number_of b) item e in
    subst (Says (codes "SECTION" ∷ b ∷ [])) z.2 ((refl, (z.1, tt)), tt)

pair-says : (o : Option ℤ) (a b : List ℕ) (item : Item) → number_of a ≡ o → as_pair o a b ≡ Some item
    → Says (a ∷ b ∷ []) item
pair-says (Some x) a b item n e =
    let y = map_some (λ (y : ℤ). point (x, y)) (number_of b) item e in
    subst (Says (a ∷ b ∷ [])) y.2 ((n, (y.1, tt)), tt)
pair-says None a b item n e =
    elim (choose (same a (codes "SECTION")) _ _ item e) [
      | inl h ↦ subst (λ (a : List ℕ). Says (a ∷ b ∷ []) item) (sym (same-is a (codes "SECTION") h.0))
          (section-says b item h.1)
      | inr h ↦ elim (choose (same a (codes "OBJECT")) _ _ item h.1) [
        | inl g ↦ subst (λ (a : List ℕ). Says (a ∷ b ∷ []) item) (sym (same-is a (codes "OBJECT") g.0))
            (object-says b item g.1)
        | inr g ↦ elim (choose (same a (codes "SECTIONS")) _ _ item g.1) [
          | inl k ↦ subst (λ (a : List ℕ). Says (a ∷ b ∷ []) item) (sym (same-is a (codes "SECTIONS") k.0))
              (version-says b (number_of b) item refl k.1)
          | inr k ↦ elim (choose (same a (codes "COST")) _ _ item k.1) [
            | inl l ↦ subst (λ (a : List ℕ). Says (a ∷ b ∷ []) item) (sym (same-is a (codes "COST") l.0))
                (cost-says b item l.1)
            | inr l ↦ elim (choose (same a (codes "PAIR")) _ _ item l.1) [
              | inl m ↦ subst (λ (a : List ℕ). Says (a ∷ b ∷ []) item) (sym (same-is a (codes "PAIR") m.0))
                  (rule-says b item m.1)
              | inr m ↦ absurd (cc)
            ]
          ]
        ]
      ]
    ]

contour-says : (b c : List ℕ) (item : Item) → cond (is_name b) (option_map (contour b) (number_of c)) None ≡ Some item
    → Says (codes "CONTOUR" ∷ b ∷ c ∷ []) item
contour-says b c item e =
    elim (choose (is_name b) _ _ item e) [
      | inl h ↦ let k = map_some (contour b) (number_of c) item h.1 in
          subst (Says (codes "CONTOUR" ∷ b ∷ c ∷ [])) k.2 ((refl, (refl, (k.1, tt))), h.0)
      | inr h ↦ absurd (cc)
    ]

link-says : (a b c : List ℕ) (item : Item)
    → cond (same a (codes "LINK") && is_name b && is_name c) (Some (link (record { below = b; above = c }))) None
    ≡ Some item → Says (a ∷ b ∷ c ∷ []) item
link-says a b c item e =
    elim (pick (same a (codes "LINK") && is_name b && is_name c) (link (record { below = b; above = c })) None item e) [
      | inl h ↦
          let two = and_parts (same a (codes "LINK") && is_name b) (is_name c) h.0 in
          let one = and_parts (same a (codes "LINK")) (is_name b) two.0 in
          subst (Says (a ∷ b ∷ c ∷ [])) h.1 ((same-is a (codes "LINK") one.0, (refl, (refl, tt))), (one.1, two.1))
      | inr h ↦ absurd (cc)
    ]

mix-says : (c d : List ℕ) (m n : Option ℤ) (item : Item) → number_of c ≡ m → number_of d ≡ n → mix_of m n ≡ Some item
    → Says (codes "COST" ∷ codes "mix" ∷ c ∷ d ∷ []) item
mix-says c d (Some x) (Some y) item p q e =
    subst (Says (codes "COST" ∷ codes "mix" ∷ c ∷ d ∷ [])) (some_is e) ((refl, (refl, (p, (q, tt)))), tt)
mix-says c d (Some x) None item p q e = absurd (cc)
mix-says c d None n item p q e = absurd (cc)

quad-says : (a b c d : List ℕ) (item : Item) → quad_of a b c d ≡ Some item → Says (a ∷ b ∷ c ∷ d ∷ []) item
quad-says a b c d item e =
    elim (choose (same a (codes "COST") && same b (codes "mix")) _ _ item e) [
      | inl h ↦
          let two = and_parts (same a (codes "COST")) (same b (codes "mix")) h.0 in
          subst (λ (a : List ℕ). Says (a ∷ b ∷ c ∷ d ∷ []) item) (sym (same-is a (codes "COST") two.0))
          (subst (λ (b : List ℕ). Says (codes "COST" ∷ b ∷ c ∷ d ∷ []) item) (sym (same-is b (codes "mix") two.1))
          (mix-says c d (number_of c) (number_of d) item refl refl h.1))
      | inr h ↦ absurd (cc)
    ]

-- a line matches the item that it says
pub item_of-says : (line : List (List ℕ)) (item : Item) → item_of line ≡ Some item → Says line item
item_of-says [] item e = absurd (cc)
item_of-says (a ∷ []) item e =
    elim (pick (same a (codes "END")) finish None item e) [
      | inl h ↦ subst (Says (a ∷ [])) h.1 ((same-is a (codes "END") h.0, tt), tt)
      | inr h ↦ absurd (cc)
    ]
item_of-says (a ∷ b ∷ []) item e = pair-says (number_of a) a b item refl e
item_of-says (a ∷ b ∷ c ∷ []) item e =
    elim (choose (same a (codes "CONTOUR")) _ _ item e) [
      | inl h ↦ subst (λ (a : List ℕ). Says (a ∷ b ∷ c ∷ []) item) (sym (same-is a (codes "CONTOUR") h.0))
          (contour-says b c item h.1)
      | inr h ↦ link-says a b c item h.1
    ]
item_of-says (a ∷ b ∷ c ∷ d ∷ []) item e = quad-says a b c d item e
item_of-says (a ∷ b ∷ c ∷ d ∷ f ∷ more) item e = absurd (cc)
