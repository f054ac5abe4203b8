-- Objects that were read, as they are kept, in order.
use Rattle.std.proofs.Common.{◌≡◌, List, [], ◌∷◌, ◌++◌, map, length, ℕ, true, refl, ap, sym, ◌∙◌, append_assoc, arith}
use Rattle.std.specs.List.{AllByRecursion}
use Rattle.std.proofs.lemmas.List.{map-append}
use Rattle.fku_types.specs.declared.rules.PairRule.{PairRule}
use Rattle.section_core.specs.declared.objects.Object.{Object}
use Rattle.section_core.specs.declared.parts.Version.{Version}
use Rattle.section_core.specs.declared.parts.Draft.{Draft}
use Rattle.section_core.specs.declared.parts.Head.{Head}
use Rattle.section_core.specs.Parts.{CostParts, ObjectParts, IsFile}
use Rattle.section_core.specs.Laws.{IsLawfulFile}
use Rattle.section_core.specs.Reading.{is_filled}
use Rattle.section_core.specs.Accepted.{IsAccepted}
use Rattle.section_core.specs.Costs.{cost_parts}
use Rattle.section_core.specs.Objects.{object_parts, AreUnder}
use Rattle.section_core.specs.Finished.{AreReady}
use Rattle.section_core.specs.Flat.{AreFlatDrafts}
use Rattle.section_core.specs.Views.{draft_parts, held_file}
use Rattle.fku_types.proofs.ListLaws.{all_join}
use Rattle.section_core.proofs.OneObject.{parts_in, objects_accepted}

pub objects_more : (items new : List Object) (o : Object) (d : Draft) (left rest : List Draft) (all : List ObjectParts)
    → map object_parts items ++ map draft_parts left ≡ all → left ≡ d ∷ rest → new ≡ items ++ o ∷ []
    → object_parts o ≡ draft_parts d → map object_parts new ++ map draft_parts rest ≡ all
objects_more items new o d left rest all h e f g =
    ap (λ (xs : List Object). map object_parts xs ++ map draft_parts rest) f
    ∙ ap (λ (ps : List ObjectParts). ps ++ map draft_parts rest) (map-append object_parts items (o ∷ []))
    ∙ append_assoc (map object_parts items) (object_parts o ∷ []) (map draft_parts rest)
    ∙ ap (λ (p : ObjectParts). map object_parts items ++ p ∷ map draft_parts rest) g
    ∙ ap (λ (ds : List Draft). map object_parts items ++ map draft_parts ds) (sym e) ∙ h

pub under_more : (cost : CostParts) (rule : PairRule) (items : List Object) (o : Object) → AreUnder cost rule items
    → (o.sections.cost ≡ cost) × (o.sections.rule ≡ rule) → AreUnder cost rule (items ++ o ∷ [])
under_more cost rule items o h k =
    all_join (λ (p : Object). (p.sections.cost ≡ cost) × (p.sections.rule ≡ rule)) items (o ∷ []) h (k, tt)

pub no_rest : (ds : List Draft) (n : ℕ) → n ≡ length ds → n ≡ 0 → ds ≡ []
no_rest [] n e z = refl
no_rest (d ∷ ds) n e z = absurd (omega (arith, e, z))

-- objects that were read, each with a contour, can be kept
pub drafts_ready : (v : Version) (h : Head) (drafts : List Draft) → IsFile (held_file v h drafts)
    → IsLawfulFile (held_file v h drafts) → AreFlatDrafts drafts → is_filled (held_file v h drafts) ≡ true
    → AreReady h drafts
drafts_ready v h drafts f l flat e = each drafts (objects_accepted (held_file v h drafts) f l e) flat
  where
    each : (ds : List Draft) → AllByRecursion (λ (o : ObjectParts). IsAccepted (parts_in (cost_parts h.cost) h.rule o))
        (map draft_parts ds) → AreFlatDrafts ds → AreReady h ds
    each [] a b = tt
    each (d ∷ ds) a b = ((a.0, b.0), each ds a.1 b.1)
