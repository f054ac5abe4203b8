-- One more item changes the facts as `after` says, and a law that holds after it held before it.
use Rattle.std.proofs.Common.{◌≡◌, inl, inr, ℕ, List, [], ◌∷◌, ◌++◌, map, Some, refl, ap, sym, ◌∙◌, subst, append-nil, arith}
use Rattle.fku_types.specs.declared.rules.PairRule.{PairRule}
use Rattle.section_core.specs.declared.parts.Version.{Version}
use Rattle.section_core.specs.declared.parts.Version.TheVariants.{One, Two}
use Rattle.section_core.specs.Parts.{CostParts, ObjectParts, all_sections, is_read}
use Rattle.section_core.specs.Laws.{Law, Facts, facts, Keeps, names, counts, points, weights, section_vertices}
use Rattle.section_core.specs.Machine.{Item, version, cost_is, rule_is, object, finish, Body, bare, object_of, State, at_version, at_cost, at_rule, no_object, in_object, begun, inside, advance, parts_of}
use Rattle.section_core.specs.Steps.{after}
use Rattle.section_core.proofs.FactsBefore.{keeps-before}
use Rattle.section_core.proofs.SoFar.{some_is, if_some, inside_cases}
use Rattle.section_core.proofs.JoinedFacts.{joined, same_facts, facts-joined, joined-step}

-- one more object, of which nothing has been read
facts-object : (cost : CostParts) (rule : PairRule) (objects : List ObjectParts) (n : List ℕ)
    → facts (parts_of (in_object Two cost rule objects n bare))
    ≡ after (facts (record { version = Two; cost = cost; rule = rule; objects = objects })) (object n)
facts-object cost rule objects n =
    let none = append-nil (all_sections objects) in
    facts-joined Two cost rule objects (object_of n bare)
    ∙ same_facts (joined Two (weights cost) objects n [] []) _
    refl
    refl
    (ap names none)
    (ap counts none)
    (ap points none)
    refl
    (ap (map section_vertices) none)
    (omega arith)

facts-inside : (v : Version) (cost : CostParts) (rule : PairRule) (front : List ObjectParts) (name : List ℕ)
    (body : Body) (item : Item) (next : State) → inside v cost rule front name body item ≡ Some next
    → facts (parts_of next) ≡ after (facts (parts_of (in_object v cost rule front name body))) item
facts-inside v cost rule front name body item next e =
    elim (inside_cases v cost rule front name body item next e) [
      | inl h ↦
          ap (λ (s : State). facts (parts_of s)) h.4
          ∙ facts-object cost rule (front ++ object_of name body ∷ []) h.0
          ∙ ap (λ (u : Version). after (facts (parts_of (in_object u cost rule front name body))) (object h.0))
          (sym h.2)
          ∙ ap (after (facts (parts_of (in_object v cost rule front name body)))) (sym h.1)
      | inr k ↦ elim k [
        | inl h ↦ ap (λ (s : State). facts (parts_of s)) h.2
            ∙ ap (after (facts (parts_of (in_object v cost rule front name body)))) (sym h.0)
        | inr h ↦
            ap (λ (s : State). facts (parts_of s)) h.2
            ∙ facts-joined v cost rule front (object_of name h.0)
            ∙ joined-step v (weights cost) front name rule body item h.0 h.1
            ∙ ap (λ (f : Facts). after f item) (sym (facts-joined v cost rule front (object_of name body)))
      ]
    ]

facts-version : (v : Version) → facts (parts_of (at_cost v)) ≡ after (facts (parts_of at_version)) (version v)
facts-version One = refl
facts-version Two = refl

facts-begun : (v : Version) (cost : CostParts) (rule : PairRule)
    → facts (parts_of (begun v cost rule)) ≡ facts (parts_of (at_rule v cost))
facts-begun One cost rule = refl
facts-begun Two cost rule = refl

-- one more item changes the facts so
pub facts-advance : (w : Version) (state : State) (item : Item) (next : State) → advance w state item ≡ Some next
    → facts (parts_of next) ≡ after (facts (parts_of state)) item
facts-advance w at_version (version v) next e =
    ap (λ (s : State). facts (parts_of s)) (sym (some_is (if_some (is_read w v) (Some (at_cost v)) next e).1))
    ∙ facts-version v
facts-advance w (at_cost v) (cost_is cost) next e = ap (λ (s : State). facts (parts_of s)) (sym (some_is e))
facts-advance w (at_rule v cost) (rule_is rule) next e = ap (λ (s : State). facts (parts_of s)) (sym (some_is e))
    ∙ facts-begun v cost rule
facts-advance w (no_object cost rule) (object name) next e = ap (λ (s : State). facts (parts_of s)) (sym (some_is e))
    ∙ facts-object cost rule [] name
facts-advance w (no_object cost rule) finish next e = ap (λ (s : State). facts (parts_of s)) (sym (some_is e))
facts-advance w (in_object v cost rule front name body) item next e =
    facts-inside v cost rule front name body item next e
facts-advance w state item next e = absurd (cc)

-- a law that holds after a step held before it
pub keeps-advance : (law : Law) (w : Version) (state : State) (item : Item) (next : State)
    → advance w state item ≡ Some next → Keeps law (facts (parts_of next)) → Keeps law (facts (parts_of state))
keeps-advance law w state item next e k =
    keeps-before law (facts (parts_of state)) item (subst (Keeps law) (facts-advance w state item next e) k)
