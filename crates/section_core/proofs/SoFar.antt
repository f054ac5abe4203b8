-- The items that lead to a state.
use Rattle.std.proofs.Common.{◌≡◌, ◌⊎◌, inl, inr, ℕ, zero, suc, Bool, true, false, cond, List, [], ◌∷◌, ◌++◌, map, ℤ, Option, None, Some, refl, ap, sym, ◌∙◌, append_assoc, append-nil}
use Rattle.std.specs.List.{flat_map}
use Rattle.std.specs.Option.{option_and_then, option_map}
use Rattle.std.proofs.lemmas.List.{map-append}
use Rattle.std.proofs.lemmas.Grind.{flat_map-append}
use Rattle.fku_types.specs.declared.rules.PairRule.{PairRule}
use Rattle.fku_types.specs.declared.rules.PairRule.TheVariants.{Overlap, Links}
use Rattle.section_core.specs.declared.parts.Version.{Version}
use Rattle.section_core.specs.declared.parts.Version.TheVariants.{One, Two}
use Rattle.section_core.specs.Parts.{CostParts, Spot, ContourParts, SectionParts, LinkParts, ObjectParts, asked, is_read}
use Rattle.section_core.specs.Machine.{Item, version, cost_is, rule_is, object, section, contour, point, link, finish, Body, bare, in_section, in_contour, in_links, step, linked, sections_of, links_of, object_of, is_whole, State, at_version, at_cost, at_rule, no_object, in_object, ended, begun, next_object, inside, advance, run, opened, with_section, with_contour, head_items, name_items, section_items, contour_items, link_items, body_items, object_items, file_items}

-- the items that have been read
abbrev pub so_far : State → List Item
so_far at_version = []
so_far (at_cost v) = version v ∷ []
so_far (at_rule v cost) = version v ∷ cost_is cost ∷ []
so_far (no_object cost rule) = head_items Two cost rule
so_far (in_object v cost rule front name body) =
    head_items v cost rule ++ flat_map (object_items v rule) (front ++ object_of name body ∷ [])
so_far (ended parts) = file_items parts

sections_push : (front : List SectionParts) (z : ℤ) (contours : List ContourParts)
    → flat_map section_items (with_section front z contours) ≡ flat_map section_items front
    ++ section_items (record { z = z; contours = contours })
sections_push front z contours = simp (flat_map-append, append-nil)

contours_push : (contours : List ContourParts) (name : List ℕ) (count : ℤ) (points : List Spot)
    → flat_map contour_items (with_contour contours name count points) ≡ flat_map contour_items contours
    ++ (contour name count ∷ map point points)
contours_push contours name count points = simp (flat_map-append, append-nil)

-- one more contour
sections_contour : (front : List SectionParts) (z : ℤ) (contours : List ContourParts) (name : List ℕ) (count : ℤ)
    → flat_map section_items (with_section front z (with_contour contours name count []))
    ≡ flat_map section_items (with_section front z contours) ++ contour name count ∷ []
sections_contour front z contours name count =
    rw (
      sections_push front z (with_contour contours name count []),
      sections_push front z contours,
      contours_push contours name count [],
      append_assoc,
    ) refl

-- one more point
sections_point : (front : List SectionParts) (z : ℤ) (contours : List ContourParts) (name : List ℕ) (count : ℤ)
    (points : List Spot) (p : Spot) → flat_map section_items
    (with_section front z (with_contour contours name count (points ++ p ∷ [])))
    ≡ flat_map section_items (with_section front z (with_contour contours name count points)) ++ point p ∷ []
sections_point front z contours name count points p =
    rw (
      sections_push front z (with_contour contours name count (points ++ p ∷ [])),
      sections_push front z (with_contour contours name count points),
      contours_push contours name count (points ++ p ∷ []),
      contours_push contours name count points,
    )
    (simp (map-append, append_assoc))

pub sections-opened : (front : List SectionParts) (z : ℤ) (contours : List ContourParts) (name : List ℕ) (count : ℤ)
    (points : List Spot) (missing : ℕ)
    → sections_of (opened front z contours name count points missing)
    ≡ with_section front z (with_contour contours name count points)
sections-opened front z contours name count points zero = refl
sections-opened front z contours name count points (suc missing) = refl

pub links-opened : (front : List SectionParts) (z : ℤ) (contours : List ContourParts) (name : List ℕ) (count : ℤ)
    (points : List Spot) (missing : ℕ) → links_of (opened front z contours name count points missing) ≡ []
links-opened front z contours name count points zero = refl
links-opened front z contours name count points (suc missing) = refl

pub some_is : {A : Type 0} {x y : A} → Some x ≡ Some y → x ≡ y
some_is e = cc

link_items-none : (rule : PairRule) → link_items rule [] ≡ []
link_items-none Overlap = refl
link_items-none Links = refl

-- without links
plain : (rule : PairRule) (sections : List SectionParts) → body_items rule sections [] ≡ flat_map section_items sections
plain rule sections = ap (λ (xs : List Item). flat_map section_items sections ++ xs) (link_items-none rule)
    ∙ append-nil (flat_map section_items sections)

pub and_then_some : {A B : Type 0} (f : A → Option B) (o : Option A) (y : B) → option_and_then f o ≡ Some y → (x : A)
    × (o ≡ Some x) × (f x ≡ Some y)
and_then_some f None y e = absurd (cc)
and_then_some f (Some x) y e = (x, refl, e)

pub map_some : {A B : Type 0} (f : A → B) (o : Option A) (y : B) → option_map f o ≡ Some y → (x : A) × (o ≡ Some x)
    × (f x ≡ y)
map_some f None y e = absurd (cc)
map_some f (Some x) y e = (x, refl, cc)

pub if_some : {A : Type 0} (b : Bool) (o : Option A) (y : A) → cond b o None ≡ Some y → (b ≡ true) × (o ≡ Some y)
if_some true o y e = (refl, e)
if_some false o y e = absurd (cc)

abbrev items_of : PairRule → Body → List Item
items_of rule body = body_items rule (sections_of body) (links_of body)

-- sections that have one more item, without links
step_plain : (rule : PairRule) (old new : List SectionParts) (links : List LinkParts) (item : Item) → links ≡ []
    → flat_map section_items new ≡ flat_map section_items old ++ item ∷ []
    → body_items rule new links ≡ body_items rule old [] ++ item ∷ []
step_plain rule old new links item n e =
    ap (body_items rule new) n ∙ plain rule new ∙ e ∙ ap (λ (xs : List Item). xs ++ item ∷ []) (sym (plain rule old))

step_linked : (rule : PairRule) (sections : List SectionParts) (links : List LinkParts) (l : LinkParts) (next : Body)
    → linked rule sections links l ≡ Some next → items_of rule next ≡ body_items rule sections links ++ link l ∷ []
step_linked Overlap sections links l next e = absurd (cc)
step_linked Links sections links l next e = ap (items_of Links) (sym (some_is e))
    ∙ rw (map-append link links (l ∷ [])) (simp append_assoc)

-- each step adds its item
pub step-items : (rule : PairRule) (body : Body) (item : Item) (next : Body) → step rule body item ≡ Some next
    → items_of rule next ≡ items_of rule body ++ item ∷ []
step-items rule bare (section z) next e = ap (items_of rule) (sym (some_is e))
    ∙ step_plain rule [] (with_section [] z []) [] (section z) refl refl
step-items rule bare (link l) next e = step_linked rule [] [] l next e
step-items rule (in_section front z contours) (section y) next e =
    ap (items_of rule) (sym (some_is e))
    ∙ step_plain rule (with_section front z contours) (with_section (with_section front z contours) y []) []
    (section y) refl (sections_push (with_section front z contours) y [])
step-items rule (in_section front z contours) (contour name count) next e =
    ap (items_of rule) (sym (some_is e))
    ∙ ap (λ (ss : List SectionParts). body_items rule ss
    (links_of (opened front z contours name count [] (asked count))))
    (sections-opened front z contours name count [] (asked count))
    ∙ step_plain rule (with_section front z contours) (with_section front z (with_contour contours name count []))
    (links_of (opened front z contours name count [] (asked count))) (contour name count)
    (links-opened front z contours name count [] (asked count)) (sections_contour front z contours name count)
step-items rule (in_section front z contours) (link l) next e =
    step_linked rule (with_section front z contours) [] l next e
step-items rule (in_contour front z contours name count points missing) (point p) next e =
    ap (items_of rule) (sym (some_is e))
    ∙ ap (λ (ss : List SectionParts). body_items rule ss
    (links_of (opened front z contours name count (points ++ p ∷ []) missing)))
    (sections-opened front z contours name count (points ++ p ∷ []) missing)
    ∙ step_plain rule (with_section front z (with_contour contours name count points))
    (with_section front z (with_contour contours name count (points ++ p ∷ [])))
    (links_of (opened front z contours name count (points ++ p ∷ []) missing)) (point p)
    (links-opened front z contours name count (points ++ p ∷ []) missing)
    (sections_point front z contours name count points p)
step-items rule (in_links sections links) (link l) next e = step_linked rule sections links l next e
step-items rule body item next e = absurd (cc)

-- How an object goes on: the next one begins, the text ends, or the object has one more item.
abbrev pub NextOne : Version → CostParts → PairRule → List ObjectParts → List ℕ → Body → Item → State → Type 0
NextOne v cost rule front name body item next = (n : List ℕ) × (item ≡ object n) × (v ≡ Two) × (is_whole body ≡ true)
    × (next ≡ in_object Two cost rule (front ++ object_of name body ∷ []) n bare)

abbrev pub AtEnd : Version → CostParts → PairRule → List ObjectParts → List ℕ → Body → Item → State → Type 0
AtEnd v cost rule front name body item next = (item ≡ finish) × (is_whole body ≡ true)
    × (next ≡ ended (record { version = v; cost = cost; rule = rule; objects = front ++ object_of name body ∷ [] }))

abbrev pub OneMore : Version → CostParts → PairRule → List ObjectParts → List ℕ → Body → Item → State → Type 0
OneMore v cost rule front name body item next = (c : Body) × (step rule body item ≡ Some c)
    × (next ≡ in_object v cost rule front name c)

next_is : (v : Version) (cost : CostParts) (rule : PairRule) (objects : List ObjectParts) (n : List ℕ) (next : State)
    → next_object v cost rule objects n ≡ Some next → (v ≡ Two) × (next ≡ in_object Two cost rule objects n bare)
next_is One cost rule objects n next e = absurd (cc)
next_is Two cost rule objects n next e = (refl, sym (some_is e))

one_more : (v : Version) (cost : CostParts) (rule : PairRule) (front : List ObjectParts) (name : List ℕ) (body : Body)
    (item : Item) (next : State) → option_map (in_object v cost rule front name) (step rule body item) ≡ Some next
    → NextOne v cost rule front name body item next
    ⊎ (AtEnd v cost rule front name body item next ⊎ OneMore v cost rule front name body item next)
one_more v cost rule front name body item next e =
    let c = map_some (in_object v cost rule front name) (step rule body item) next e in inr (inr (c.0, c.1, sym c.2))

pub inside_cases : (v : Version) (cost : CostParts) (rule : PairRule) (front : List ObjectParts) (name : List ℕ)
    (body : Body) (item : Item) (next : State) → inside v cost rule front name body item ≡ Some next
    → NextOne v cost rule front name body item next
    ⊎ (AtEnd v cost rule front name body item next ⊎ OneMore v cost rule front name body item next)
inside_cases v cost rule front name body (object n) next e =
    let w = if_some (is_whole body) (next_object v cost rule (front ++ object_of name body ∷ []) n) next e in
    let k = next_is v cost rule (front ++ object_of name body ∷ []) n next w.1 in
    inl (n, refl, k.0, w.0, k.1)
inside_cases v cost rule front name body finish next e =
    let w = if_some (is_whole body) (Some
    (ended (record { version = v; cost = cost; rule = rule; objects = front ++ object_of name body ∷ [] }))) next e
    in
    inr (inl (refl, w.0, sym (some_is w.1)))
inside_cases v cost rule front name body (version w) next e = one_more v cost rule front name body (version w) next e
inside_cases v cost rule front name body (cost_is c) next e = one_more v cost rule front name body (cost_is c) next e
inside_cases v cost rule front name body (rule_is r) next e = one_more v cost rule front name body (rule_is r) next e
inside_cases v cost rule front name body (section z) next e = one_more v cost rule front name body (section z) next e
inside_cases v cost rule front name body (contour n count) next e =
    one_more v cost rule front name body (contour n count) next e
inside_cases v cost rule front name body (point p) next e = one_more v cost rule front name body (point p) next e
inside_cases v cost rule front name body (link l) next e = one_more v cost rule front name body (link l) next e

objects_push : (v : Version) (rule : PairRule) (front : List ObjectParts) (o : ObjectParts)
    → flat_map (object_items v rule) (front ++ o ∷ []) ≡ flat_map (object_items v rule) front ++ object_items v rule o
objects_push v rule front o = flat_map-append (object_items v rule) front (o ∷ [])
    ∙ ap (λ (xs : List Item). flat_map (object_items v rule) front ++ xs) (append-nil (object_items v rule o))

next_items : (rule : PairRule) (front : List ObjectParts) (n : List ℕ)
    → flat_map (object_items Two rule) (front ++ object_of n bare ∷ []) ≡ flat_map (object_items Two rule) front
    ++ object n ∷ []
next_items rule front n = objects_push Two rule front (object_of n bare)
    ∙ ap (λ (xs : List Item). flat_map (object_items Two rule) front ++ object n ∷ xs) (link_items-none rule)

more_items : (v : Version) (rule : PairRule) (front : List ObjectParts) (name : List ℕ) (body next : Body) (item : Item)
    → items_of rule next ≡ items_of rule body ++ item ∷ []
    → flat_map (object_items v rule) (front ++ object_of name next ∷ [])
    ≡ flat_map (object_items v rule) (front ++ object_of name body ∷ []) ++ item ∷ []
more_items v rule front name body next item e =
    let a = flat_map (object_items v rule) front in
    objects_push v rule front (object_of name next)
    ∙ ap (λ (xs : List Item). a ++ (name_items v name ++ xs)) e
    ∙ ap (λ (xs : List Item). a ++ xs) (sym (append_assoc (name_items v name) (items_of rule body) (item ∷ [])))
    ∙ sym (append_assoc a (object_items v rule (object_of name body)) (item ∷ []))
    ∙ ap (λ (xs : List Item). xs ++ item ∷ []) (sym (objects_push v rule front (object_of name body)))

inside_so_far : (v : Version) (cost : CostParts) (rule : PairRule) (front : List ObjectParts) (name : List ℕ)
    (body : Body) (item : Item) (next : State) → inside v cost rule front name body item ≡ Some next
    → so_far next ≡ so_far (in_object v cost rule front name body) ++ item ∷ []
inside_so_far v cost rule front name body item next e =
    elim (inside_cases v cost rule front name body item next e) [
      | inl h ↦
          ap so_far h.4
          ∙ ap (λ (xs : List Item). head_items Two cost rule ++ xs)
          (next_items rule (front ++ object_of name body ∷ []) h.0)
          ∙ ap (λ (w : Version). so_far (in_object w cost rule front name body) ++ object h.0 ∷ []) (sym h.2)
          ∙ ap (λ (i : Item). so_far (in_object v cost rule front name body) ++ i ∷ []) (sym h.1)
      | inr k ↦ elim k [
        | inl h ↦ ap so_far h.2 ∙ ap (λ (i : Item). so_far (in_object v cost rule front name body) ++ i ∷ []) (sym h.0)
        | inr h ↦ ap so_far h.2 ∙ ap (λ (xs : List Item). head_items v cost rule ++ xs)
            (more_items v rule front name body h.0 item (step-items rule body item h.0 h.1))
      ]
    ]

begun_so_far : (v : Version) (cost : CostParts) (rule : PairRule) → so_far (begun v cost rule) ≡ head_items v cost rule
begun_so_far One cost Overlap = refl
begun_so_far One cost Links = refl
begun_so_far Two cost rule = refl

-- each item that is read is one more
pub so_far-advance : (w : Version) (state : State) (item : Item) (next : State) → advance w state item ≡ Some next
    → so_far next ≡ so_far state ++ item ∷ []
so_far-advance w at_version (version v) next e =
    ap so_far (sym (some_is (if_some (is_read w v) (Some (at_cost v)) next e).1))
so_far-advance w (at_cost v) (cost_is cost) next e = ap so_far (sym (some_is e))
so_far-advance w (at_rule v cost) (rule_is rule) next e = ap so_far (sym (some_is e)) ∙ begun_so_far v cost rule
so_far-advance w (no_object cost rule) (object name) next e = ap so_far (sym (some_is e))
    ∙ ap (λ (xs : List Item). head_items Two cost rule ++ xs) (next_items rule [] name)
so_far-advance w (no_object cost rule) finish next e = ap so_far (sym (some_is e))
so_far-advance w (in_object v cost rule front name body) item next e =
    inside_so_far v cost rule front name body item next e
so_far-advance w state item next e = absurd (cc)

-- so are many
pub so_far-run : (w : Version) (state : State) (items : List Item) (end : State) → run w state items ≡ Some end
    → so_far end ≡ so_far state ++ items
so_far-run w state [] end e = ap so_far (sym (some_is e)) ∙ sym (append-nil (so_far state))
so_far-run w state (item ∷ items) end e =
    let s = and_then_some (λ next. run w next items) (advance w state item) end e in
    so_far-run w s.0 items end s.2
    ∙ ap (λ (xs : List Item). xs ++ items) (so_far-advance w state item s.0 s.1)
    ∙ append_assoc (so_far state) (item ∷ []) items
