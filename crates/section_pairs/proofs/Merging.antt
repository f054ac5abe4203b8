-- The findings of two parts, one after the other.
use Rattle.std.proofs.Common.{◌≡◌, List, ◌++◌, sym, subst}
use Rattle.std.specs.Prelude.{All, Result, Ok, Err, IfOk, IfErr, MatchResult}
use Rattle.std.proofs.lemmas.List.Elements.{All-append}
use Rattle.std.proofs.lemmas.Grind.{flat_map-append}
use Rattle.fku_types.specs.declared.fault.Fault.{Fault}
use Rattle.section_core.specs.Flat.{ContourData, SectionData}
use Rattle.section_pairs.specs.SectionFaults.{IsFirstFault, IsSimpleContour, HasSelfCrossing, data_contours}
use Rattle.section_pairs.proofs.Firsts.{first_left, first_right}

-- the result for the front, or else that for what follows it
pub joined : {Y : Type 0} (Good : Y → Type 0) (Has : Y → Fault → Type 0) (xs ys : List Y) (r s t : Result Unit Fault)
    → IfOk r (λ _. t ≡ s) → IfErr r (λ f. MatchResult t (λ _. ⊥) (λ g. g ≡ f))
    → MatchResult r (λ _. All Good xs) (IsFirstFault Good Has xs)
    → MatchResult s (λ _. All Good ys) (IsFirstFault Good Has ys)
    → MatchResult t (λ _. All Good (xs ++ ys)) (IsFirstFault Good Has (xs ++ ys))
joined Good Has xs ys (Ok u) s t e n h k =
    subst (λ (q : Result Unit Fault). MatchResult q (λ _. All Good (xs ++ ys)) (IsFirstFault Good Has (xs ++ ys)))
    (sym e) (behind s k)
  where
    behind : (q : Result Unit Fault) → MatchResult q (λ _. All Good ys) (IsFirstFault Good Has ys)
        → MatchResult q (λ _. All Good (xs ++ ys)) (IsFirstFault Good Has (xs ++ ys))
    behind (Ok v) k = All-append Good xs ys h k
    behind (Err f) k = first_right Good Has xs ys f h k
joined Good Has xs ys (Err f) s (Ok v) e n h k = absurd n
joined Good Has xs ys (Err f) s (Err g) e n h k =
    subst (λ (x : Fault). IsFirstFault Good Has (xs ++ ys) x) (sym n) (first_left Good Has xs ys f h)

pub simple_joined : (xs ys : List SectionData) (r s t : Result Unit Fault) → IfOk r (λ _. t ≡ s)
    → IfErr r (λ f. MatchResult t (λ _. ⊥) (λ g. g ≡ f))
    → MatchResult r (λ _. All IsSimpleContour (data_contours xs))
    (IsFirstFault IsSimpleContour HasSelfCrossing (data_contours xs))
    → MatchResult s (λ _. All IsSimpleContour (data_contours ys))
    (IsFirstFault IsSimpleContour HasSelfCrossing (data_contours ys))
    → MatchResult t (λ _. All IsSimpleContour (data_contours (xs ++ ys)))
    (IsFirstFault IsSimpleContour HasSelfCrossing (data_contours (xs ++ ys)))
simple_joined xs ys r s t e n h k =
    subst (λ (cs : List ContourData). MatchResult t (λ _. All IsSimpleContour cs)
    (IsFirstFault IsSimpleContour HasSelfCrossing cs)) (sym (flat_map-append (λ (d : SectionData). d.1) xs ys))
    (joined IsSimpleContour HasSelfCrossing (data_contours xs) (data_contours ys) r s t e n h k)
