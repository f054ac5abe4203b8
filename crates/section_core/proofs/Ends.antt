-- Each state that can be reached is led to an end by items that add nothing but points at the origin.
use Rattle.std.proofs.Common.{◌≡◌, inl, inr, ℕ, zero, suc, ◌+◌, true, List, [], ◌∷◌, ◌++◌, map, length, ℤ, pos, Some, refl, ap, sym, ◌∙◌, subst, append_assoc, append-nil, arith, replicate}
use Rattle.std.specs.Prelude.{⊤}
use Rattle.std.specs.List.{AllByRecursion}
use Rattle.std.proofs.lemmas.List.{length-append, length-replicate}
use Rattle.std.proofs.lemmas.Grind.{flat_map-append}
use Rattle.fku_types.specs.Names.{is_name}
use Rattle.fku_types.specs.declared.rules.PairRule.{PairRule}
use Rattle.fku_types.specs.declared.rules.PairRule.TheVariants.{Overlap, Links}
use Rattle.section_core.specs.declared.parts.Version.{Version}
use Rattle.section_core.specs.declared.parts.Version.TheVariants.{One, Two}
use Rattle.section_core.specs.Parts.{CostParts, span, Spot, ContourParts, SectionParts, LinkParts, ObjectParts, FileParts, asked, contours_of, all_sections, IsCountedContour, IsLink, IsLinked, IsFile, AreObjects, is_read, only_name}
use Rattle.section_core.specs.Machine.{Item, version, cost_is, rule_is, object, section, contour, point, link, finish, IsItem, Body, bare, in_section, in_contour, in_links, step, linked, opened, sections_of, links_of, object_of, is_whole, State, at_version, at_cost, at_rule, no_object, in_object, ended, begun, inside, advance, run, with_section, with_contour, file_items, parts_of}
use Rattle.section_core.proofs.SoFar.{so_far, so_far-run, some_is, if_some, inside_cases}
use Rattle.section_core.proofs.Whole.{run-append, steps, steps_points, steps_run, end_run}
use Rattle.fku_types.proofs.ListLaws.{all_join}

abbrev pub origin : Spot
origin = (pos 0, pos 0)

-- points to the end of the open contour
abbrev pub complete_body : Body → List Item
complete_body (in_contour front z contours name count points missing) = map point (replicate (suc missing) origin)
complete_body body = []

abbrev pub completed_body : Body → Body
completed_body (in_contour front z contours name count points missing) =
    in_section front z (with_contour contours name count (points ++ replicate (suc missing) origin))
completed_body body = body

-- items to the end
abbrev pub complete : State → List Item
complete at_version = version One ∷ cost_is span ∷ rule_is Overlap ∷ finish ∷ []
complete (at_cost v) = cost_is span ∷ rule_is Overlap ∷ finish ∷ []
complete (at_rule v cost) = rule_is Overlap ∷ finish ∷ []
complete (no_object cost rule) = finish ∷ []
complete (in_object v cost rule front name body) = complete_body body ++ finish ∷ []
complete (ended parts) = []

-- the parts at that end
abbrev pub completed : State → FileParts
completed at_version = parts_of (at_cost One)
completed (at_cost v) = parts_of (at_cost v)
completed (at_rule v cost) = parts_of (at_rule v cost)
completed (no_object cost rule) = parts_of (no_object cost rule)
completed (in_object v cost rule front name body) = parts_of (in_object v cost rule front name (completed_body body))
completed (ended parts) = parts

complete_steps : (rule : PairRule) (body : Body) → steps rule body (complete_body body) ≡ Some (completed_body body)
complete_steps rule bare = refl
complete_steps rule (in_section front z contours) = refl
complete_steps rule (in_contour front z contours name count points missing) =
    let rest = replicate (suc missing) origin in
    ap (λ (n : ℕ). steps rule (opened front z contours name count points n) (map point rest))
    (sym (length-replicate (suc missing) origin))
    ∙ steps_points rule front z contours name count points rest
complete_steps rule (in_links sections links) = refl

pub completed_whole : (body : Body) → is_whole (completed_body body) ≡ true
completed_whole bare = refl
completed_whole (in_section front z contours) = refl
completed_whole (in_contour front z contours name count points missing) = refl
completed_whole (in_links sections links) = refl

complete_runs : (w : Version) (state : State) → run w state (complete state) ≡ Some (ended (completed state))
complete_runs One at_version = refl
complete_runs Two at_version = refl
complete_runs w (at_cost One) = refl
complete_runs w (at_cost Two) = refl
complete_runs w (at_rule One cost) = refl
complete_runs w (at_rule Two cost) = refl
complete_runs w (no_object cost rule) = refl
complete_runs w (in_object v cost rule front name body) =
    run-append w (in_object v cost rule front name body) (complete_body body) (finish ∷ []) _
    (steps_run w v cost rule front name body (complete_body body) (completed_body body) (complete_steps rule body))
    ∙ end_run w v cost rule front name (completed_body body) (completed_whole body)
complete_runs w (ended parts) = refl

-- the items of the completed parts begin with those read so far
pub complete_items : (w : Version) (state : State) → file_items (completed state) ≡ so_far state ++ complete state
complete_items w state = so_far-run w state (complete state) (ended (completed state)) (complete_runs w state)

-- whole contours are whole, the open one lacks its points, and links are links
abbrev pub IsSoundBody : PairRule → Body → Type 0
IsSoundBody rule bare = ⊤
IsSoundBody rule (in_section front z contours) =
    AllByRecursion IsCountedContour (contours_of (with_section front z contours))
IsSoundBody rule (in_contour front z contours name count points missing) =
    AllByRecursion IsCountedContour (contours_of (with_section front z contours)) × (is_name name ≡ true)
    × (length points + suc missing ≡ asked count)
IsSoundBody rule (in_links sections links) = AllByRecursion IsCountedContour (contours_of sections)
    × IsLinked rule links

-- the names are those of the version
abbrev pub AreNamed : Version → List ObjectParts → List ℕ → Type 0
AreNamed One front name = (front ≡ []) × (name ≡ only_name)
AreNamed Two front name = AllByRecursion (λ (o : ObjectParts). is_name o.name ≡ true) front × (is_name name ≡ true)

abbrev pub IsSound : Version → State → Type 0
IsSound w at_version = ⊤
IsSound w (at_cost v) = is_read w v ≡ true
IsSound w (at_rule v cost) = is_read w v ≡ true
IsSound w (no_object cost rule) = is_read w Two ≡ true
IsSound w (in_object v cost rule front name body) = (is_read w v ≡ true) × AreNamed v front name
    × AllByRecursion IsCountedContour (contours_of (all_sections front))
    × AllByRecursion (λ (o : ObjectParts). IsLinked rule o.links) front × IsSoundBody rule body
IsSound w (ended F) = IsFile F × (is_read w F.version ≡ true)

pub contours_of-push : (front : List SectionParts) (z : ℤ) (contours : List ContourParts)
    → contours_of (with_section front z contours) ≡ contours_of front ++ contours
contours_of-push front z contours =
    flat_map-append (λ (s : SectionParts). s.contours) front (record { z = z; contours = contours } ∷ [])
    ∙ ap (λ (cs : List ContourParts). contours_of front ++ cs) (append-nil contours)

pub contours_of-contour : (front : List SectionParts) (z : ℤ) (contours : List ContourParts) (c : ContourParts)
    → contours_of (with_section front z (contours ++ c ∷ [])) ≡ contours_of (with_section front z contours) ++ c ∷ []
contours_of-contour front z contours c =
    contours_of-push front z (contours ++ c ∷ []) ∙ sym (append_assoc (contours_of front) contours (c ∷ []))
    ∙ ap (λ (cs : List ContourParts). cs ++ c ∷ []) (sym (contours_of-push front z contours))

contour_more : (front : List SectionParts) (z : ℤ) (contours : List ContourParts) (name : List ℕ) (count : ℤ)
    (points : List Spot) → AllByRecursion IsCountedContour (contours_of (with_section front z contours))
    → is_name name ≡ true → length points ≡ asked count
    → AllByRecursion IsCountedContour (contours_of (with_section front z (with_contour contours name count points)))
contour_more front z contours name count points h named full =
    let c : ContourParts = record { name = name; count = count; points = points } in
    subst (AllByRecursion IsCountedContour) (sym (contours_of-contour front z contours c))
    (all_join IsCountedContour (contours_of (with_section front z contours)) (c ∷ []) h ((named, full), tt))

sound-opened : (rule : PairRule) (front : List SectionParts) (z : ℤ) (contours : List ContourParts) (name : List ℕ)
    (count : ℤ) (points : List Spot) (missing : ℕ)
    → AllByRecursion IsCountedContour (contours_of (with_section front z contours)) → is_name name ≡ true
    → length points + missing ≡ asked count → IsSoundBody rule (opened front z contours name count points missing)
sound-opened rule front z contours name count points zero h named full =
    contour_more front z contours name count points h named (omega (arith, full))
sound-opened rule front z contours name count points (suc missing) h named full = (h, named, full)

none_linked : (rule : PairRule) → IsLinked rule []
none_linked Overlap = refl
none_linked Links = tt

sound-linked : (rule : PairRule) (sections : List SectionParts) (links : List LinkParts) (l : LinkParts) (next : Body)
    → AllByRecursion IsCountedContour (contours_of sections) → IsLinked rule links → IsLink l
    → linked rule sections links l ≡ Some next → IsSoundBody rule next
sound-linked Overlap sections links l next h k i e = absurd (cc)
sound-linked Links sections links l next h k i e =
    subst (IsSoundBody Links) (some_is e) (h, all_join IsLink links (l ∷ []) k (i, tt))

sound-step : (rule : PairRule) (body : Body) (item : Item) (next : Body) → IsSoundBody rule body → IsItem item
    → step rule body item ≡ Some next → IsSoundBody rule next
sound-step rule bare (section z) next s i e = subst (IsSoundBody rule) (some_is e) tt
sound-step rule bare (link l) next s i e = sound-linked rule [] [] l next tt (none_linked rule) i e
sound-step rule (in_section front z contours) (section y) next s i e =
    subst (IsSoundBody rule) (some_is e)
    (subst (AllByRecursion IsCountedContour)
    (sym (contours_of-push (with_section front z contours) y []
    ∙ append-nil (contours_of (with_section front z contours)))) s)
sound-step rule (in_section front z contours) (contour name count) next s i e =
    subst (IsSoundBody rule) (some_is e)
    (sound-opened rule front z contours name count [] (asked count) s i (omega arith))
sound-step rule (in_section front z contours) (link l) next s i e =
    sound-linked rule (with_section front z contours) [] l next s (none_linked rule) i e
sound-step rule (in_contour front z contours name count points missing) (point p) next s i e =
    subst (IsSoundBody rule) (some_is e)
    (sound-opened rule front z contours name count (points ++ p ∷ []) missing s.0 s.1
    (omega (arith, length-append points (p ∷ []), s.2)))
sound-step rule (in_links sections links) (link l) next s i e = sound-linked rule sections links l next s.0 s.1 i e
sound-step rule body item next s i e = absurd (cc)

-- an object no contour of which is open
record WholeBody (rule : PairRule) (body : Body) : Type 0 where
  contours : AllByRecursion IsCountedContour (contours_of (sections_of body))
  links : IsLinked rule (links_of body)

sound-whole : (rule : PairRule) (body : Body) → IsSoundBody rule body → is_whole body ≡ true → WholeBody rule body
sound-whole rule bare s e = record { contours = tt; links = none_linked rule }
sound-whole rule (in_section front z contours) s e = record { contours = s; links = none_linked rule }
sound-whole rule (in_contour front z contours name count points missing) s e = absurd (cc)
sound-whole rule (in_links sections links) s e = record { contours = s.0; links = s.1 }

sound-body : (rule : PairRule) (body : Body) → IsSoundBody rule body → IsSoundBody rule (completed_body body)
sound-body rule bare s = tt
sound-body rule (in_section front z contours) s = s
sound-body rule (in_contour front z contours name count points missing) s =
    let rest = replicate (suc missing) origin in
    contour_more front z contours name count (points ++ rest) s.0 s.1
    (omega (arith, length-append points rest, length-replicate (suc missing) origin, s.2))
sound-body rule (in_links sections links) s = s

objects-are : (v : Version) (front : List ObjectParts) (name : List ℕ) (body : Body) → AreNamed v front name
    → AreObjects v (front ++ object_of name body ∷ [])
objects-are One front name body h =
    (object_of name body, ap (λ (os : List ObjectParts). os ++ object_of name body ∷ []) h.0, h.1)
objects-are Two front name body h =
    all_join (λ (o : ObjectParts). is_name o.name ≡ true) front (object_of name body ∷ []) h.0 (h.1, tt)

all_contours : (front : List ObjectParts) (name : List ℕ) (body : Body)
    → AllByRecursion IsCountedContour (contours_of (all_sections front))
    → AllByRecursion IsCountedContour (contours_of (sections_of body))
    → AllByRecursion IsCountedContour (contours_of (all_sections (front ++ object_of name body ∷ [])))
all_contours front name body h k =
    let split = flat_map-append (λ (o : ObjectParts). o.sections) front (object_of name body ∷ [])
    ∙ ap (λ (ss : List SectionParts). all_sections front ++ ss) (append-nil (sections_of body)) in
    let more = flat_map-append (λ (s : SectionParts). s.contours) (all_sections front) (sections_of body) in
    subst (AllByRecursion IsCountedContour) (sym (ap contours_of split ∙ more))
    (all_join IsCountedContour (contours_of (all_sections front)) (contours_of (sections_of body)) h k)

-- one more object
whole-file : (w v : Version) (cost : CostParts) (rule : PairRule) (front : List ObjectParts) (name : List ℕ)
    (body : Body) → IsSound w (in_object v cost rule front name body) → is_whole body ≡ true
    → IsFile (parts_of (in_object v cost rule front name body))
whole-file w v cost rule front name body s e =
    let b = sound-whole rule body s.4 e in
    record {
      objects = objects-are v front name body s.1;
      contours = all_contours front name body s.2 b.contours;
      links = all_join (λ (o : ObjectParts). IsLinked rule o.links) front (object_of name body ∷ []) s.3 (b.links, tt);
    }

named_two : (v : Version) (front : List ObjectParts) (name : List ℕ) → v ≡ Two → AreNamed v front name
    → AreNamed Two front name
named_two v front name e h = subst (λ (u : Version). AreNamed u front name) e h

sound-inside : (w v : Version) (cost : CostParts) (rule : PairRule) (front : List ObjectParts) (name : List ℕ)
    (body : Body) (item : Item) (next : State) → IsSound w (in_object v cost rule front name body) → IsItem item
    → inside v cost rule front name body item ≡ Some next → IsSound w next
sound-inside w v cost rule front name body item next s i e =
    elim (inside_cases v cost rule front name body item next e) [
      | inl h ↦
          let f = whole-file w v cost rule front name body s h.3 in
          let n : is_name h.0 ≡ true = subst IsItem h.1 i in
          let names = named_two v front name h.2 s.1 in
          subst (IsSound w) (sym h.4) (
            subst (λ (u : Version). is_read w u ≡ true) h.2 s.0,
            (
              all_join (λ (o : ObjectParts). is_name o.name ≡ true) front (object_of name body ∷ []) names.0
                  (names.1, tt),
              n,
            ),
            f.contours,
            f.links,
            tt,
          )
      | inr k ↦ elim k [
        | inl h ↦ subst (IsSound w) (sym h.2) (whole-file w v cost rule front name body s h.1, s.0)
        | inr h ↦ subst (IsSound w) (sym h.2) (s.0, s.1, s.2, s.3, sound-step rule body item h.0 s.4 i h.1)
      ]
    ]

begun-sound : (w v : Version) (cost : CostParts) (rule : PairRule) → is_read w v ≡ true → IsSound w (begun v cost rule)
begun-sound w One cost rule h = (h, (refl, refl), tt, tt, tt)
begun-sound w Two cost rule h = h

pub sound-advance : (w : Version) (state : State) (item : Item) (next : State) → IsSound w state → IsItem item
    → advance w state item ≡ Some next → IsSound w next
sound-advance w at_version (version v) next s i e = let r = if_some (is_read w v) (Some (at_cost v)) next e in
    subst (IsSound w) (some_is r.1) r.0
sound-advance w (at_cost v) (cost_is cost) next s i e = subst (IsSound w) (some_is e) s
sound-advance w (at_rule v cost) (rule_is rule) next s i e = subst (IsSound w) (some_is e) (begun-sound w v cost rule s)
sound-advance w (no_object cost rule) (object name) next s i e = subst (IsSound w) (some_is e) (s, (tt, i), tt, tt, tt)
sound-advance w (no_object cost rule) finish next s i e =
    subst (IsSound w) (some_is e) (record { objects = tt; contours = tt; links = tt }, s)
sound-advance w (in_object v cost rule front name body) item next s i e =
    sound-inside w v cost rule front name body item next s i e
sound-advance w state item next s i e = absurd (cc)

fresh-file : (v : Version) (cost : CostParts) → IsFile (parts_of (at_rule v cost))
fresh-file One cost = record { objects = (object_of only_name bare, refl, refl); contours = tt; links = (refl, tt) }
fresh-file Two cost = record { objects = tt; contours = tt; links = tt }

one_read : (w : Version) → is_read w One ≡ true
one_read One = refl
one_read Two = refl

-- the completed parts are parts of a version that is read
pub sound-completed : (w : Version) (state : State) → IsSound w state → IsFile (completed state)
    × (is_read w (completed state).version ≡ true)
sound-completed w at_version s = (fresh-file One span, one_read w)
sound-completed w (at_cost v) s = (fresh-file v span, s)
sound-completed w (at_rule v cost) s = (fresh-file v cost, s)
sound-completed w (no_object cost rule) s = (record { objects = tt; contours = tt; links = tt }, s)
sound-completed w (in_object v cost rule front name body) s = (
  whole-file w v cost rule front name (completed_body body) (s.0, s.1, s.2, s.3, sound-body rule body s.4)
      (completed_whole body),
  s.0,
)
sound-completed w (ended parts) s = s
