-- What a call returns for the refusal of an edit.
use Rattle.std.proofs.Common.{◌≡◌, ◌&&◌, [], ◌∷◌, ap₂, ℕ, ◌<◌, ◌≤◌, ◌^◌, ◌-◌, min, Bool, true, false, List, Option, None, Some, Result, Ok, Err, refl, sym, ap, ◌∙◌, subst, arith, map, length, pos}
use Rattle.std.specs.Prelude.{nat_lt, int_le, IfErr}
use Rattle.std.specs.List.{list_all}
use Rattle.std.proofs.lemmas.Bool.Decides.{nat_tests}
use Rattle.std.proofs.lemmas.List.Folds.{list_all-map}
use Rattle.fku_types.specs.declared.limits.TheConstants.{MAX_CONTOUR_VERTICES}
use Rattle.fku_types.specs.declared.fault.LimitName.{LimitName}
use Rattle.fku_types.specs.declared.fault.Fault.TheVariants.{NoContours}
use Rattle.section_core.specs.Parts.{ContourParts, Parts, as_file}
use Rattle.section_core.specs.Laws.{within, facts}
use Rattle.section_core.proofs.FirstBreach.{breaks_none, verdict_some}
use Rattle.section_core.proofs.OneObject.{lawful-to}
use Rattle.section_core.specs.declared.parts.Contour.{Contour}
use Rattle.section_core.specs.declared.parts.Section.{Section}
use Rattle.section_core.specs.Views.{contour_parts, section_parts}
use Rattle.section_edits.specs.declared.edit.Edit.{Edit}
use Rattle.section_edits.specs.declared.edit.EditFault.{EditFault}
use Rattle.section_edits.specs.declared.edit.EditFault.TheVariants.{EditForm, NoContour, NoSection, NoVertex, TooFew, NameTwice, Limit, Found, NoMemory}
use Rattle.section_edits.specs.Changes.{changed}
use Rattle.section_edits.specs.Refusals.{first_of, own_tests, IsLateRefusal, IsOwnOr, IsRefusal, AnswersOrRefuses, IsEditMemory}
use Rattle.section_edits.specs.LateTests.{has_short_contours, is_small}

-- the refusal is returned
pub told : {T : Type 0} (Is : Option EditFault → Type 0) (fault : EditFault) (P : T → Type 0) → Is (Some fault)
    → AnswersOrRefuses Is (Err fault) P
told Is EditForm P h = h
told Is (NoContour name) P h = h
told Is (NoSection z) P h = h
told Is (NoVertex name index) P h = h
told Is (TooFew name) P h = h
told Is (NameTwice name) P h = h
told Is (Limit limit) P h = h
told Is (Found fault) P h = h
told Is NoMemory P h = tt

-- the same refusals in other words
pub answers_as : {T : Type 0} (Is Are : Option EditFault → Type 0) (r : Result T EditFault) (P Q : T → Type 0)
    → ((o : Option EditFault) → Is o → Are o) → ((v : T) → P v → Q v) → AnswersOrRefuses Is r P
    → AnswersOrRefuses Are r Q
answers_as Is Are (Ok v) P Q f g h = (f None h.0, g v h.1)
answers_as Is Are (Err EditForm) P Q f g h = f (Some EditForm) h
answers_as Is Are (Err (NoContour name)) P Q f g h = f (Some (NoContour name)) h
answers_as Is Are (Err (NoSection z)) P Q f g h = f (Some (NoSection z)) h
answers_as Is Are (Err (NoVertex name index)) P Q f g h = f (Some (NoVertex name index)) h
answers_as Is Are (Err (TooFew name)) P Q f g h = f (Some (TooFew name)) h
answers_as Is Are (Err (NameTwice name)) P Q f g h = f (Some (NameTwice name)) h
answers_as Is Are (Err (Limit limit)) P Q f g h = f (Some (Limit limit)) h
answers_as Is Are (Err (Found fault)) P Q f g h = f (Some (Found fault)) h
answers_as Is Are (Err NoMemory) P Q f g h = tt

-- a refusal by the edit itself
pub by_own : (S : Parts) (e : Edit) (fault : EditFault) → first_of (own_tests S e) ≡ Some fault
    → IsRefusal S e (Some fault)
by_own S e fault own = subst (λ (o : Option EditFault). IsOwnOr o (changed S e) (Some fault)) (sym own) refl

-- a refusal by the parts after it
pub by_late : (S : Parts) (e : Edit) (T : Parts) (r : Result Parts EditFault) → first_of (own_tests S e) ≡ None
    → T ≡ changed S e → AnswersOrRefuses (IsLateRefusal T) r (λ s. s ≡ T)
    → AnswersOrRefuses (IsRefusal S e) r (λ s. s ≡ changed S e)
by_late S e T r own same h =
    answers_as (IsLateRefusal T) (IsRefusal S e) r (λ s. s ≡ T) (λ s. s ≡ changed S e)
    (λ o k. subst (λ (p : Option EditFault). IsOwnOr p (changed S e) o) (sym own)
    (subst (λ (U : Parts). IsLateRefusal U o) same k)) (λ s k. k ∙ same) h

-- the edit has no refusal: its own tests have none, and the parts after it have none
pub record Passed (S : Parts) (e : Edit) : Type 0 where
  pub own : first_of (own_tests S e) ≡ None
  pub late : IsLateRefusal (changed S e) None

passed_by : (S : Parts) (e : Edit) (o : Option EditFault) → first_of (own_tests S e) ≡ o → IsOwnOr o (changed S e) None
    → Passed S e
passed_by S e None own h = record { own = own; late = h }
passed_by S e (Some fault) own h = absurd (cc)

pub passed : (S : Parts) (e : Edit) → IsRefusal S e None → Passed S e
passed S e h = passed_by S e (first_of (own_tests S e)) refl h

-- parts have one refusal or none
one_late : (S : Parts) (o p : Option EditFault) → IsLateRefusal S o → IsLateRefusal S p → o ≡ p
one_late S None None h k = refl
one_late S None (Some (Limit limit)) h k = absurd (breaks_none (within limit) (facts (as_file S)) (lawful-to S h.0) k)
one_late S None (Some (Found NoContours)) h k = absurd (omega (arith, h.1, ap length k.1))
one_late S None (Some fault) h k = absurd k
one_late S (Some (Limit limit)) None h k = absurd (breaks_none (within limit) (facts (as_file S)) (lawful-to S k.0) h)
one_late S (Some (Limit limit)) (Some (Limit other)) h k =
    ap (λ (l : LimitName). Some (Limit l))
    (same_limit limit other (verdict_some (facts (as_file S)) (Some (within limit)) (within other) h k))
  where
    same_limit : (l m : LimitName) → Some (within l) ≡ Some (within m) → l ≡ m
    same_limit l m e = cc
one_late S (Some (Limit limit)) (Some (Found NoContours)) h k =
    absurd (breaks_none (within limit) (facts (as_file S)) (lawful-to S k.0) h)
one_late S (Some (Limit limit)) (Some fault) h k = absurd k
one_late S (Some (Found NoContours)) None h k = absurd (omega (arith, k.1, ap length h.1))
one_late S (Some (Found NoContours)) (Some (Limit limit)) h k =
    absurd (breaks_none (within limit) (facts (as_file S)) (lawful-to S h.0) k)
one_late S (Some (Found NoContours)) (Some (Found NoContours)) h k = refl
one_late S (Some (Found NoContours)) (Some fault) h k = absurd k
one_late S (Some fault) p h k = absurd h

one_own : (own : Option EditFault) (S : Parts) (o p : Option EditFault) → IsOwnOr own S o → IsOwnOr own S p → o ≡ p
one_own None S o p h k = one_late S o p h k
one_own (Some fault) S o p h k = h ∙ sym k

pub one_refusal : (S : Parts) (e : Edit) (o p : Option EditFault) → IsRefusal S e o → IsRefusal S e p → o ≡ p
one_refusal S e o p h k = one_own (first_of (own_tests S e)) (changed S e) o p h k

-- memory runs out where the edit itself has no refusal
pub late : {T : Type 0} (r : Result T EditFault) (S : Parts) (e : Edit) → first_of (own_tests S e) ≡ None
    → IfErr r (IsEditMemory S e)
late (Ok v) S e own = tt
late (Err fault) S e own = λ _. own

-- tests of the code as tests of parts
abbrev pub short_held : Section → Bool
short_held s = list_all (λ (c : Contour). int_le (pos (length c.points.items)) (pos MAX_CONTOUR_VERTICES))
    s.contours.items

pub shorts_held : (ss : List Section) → list_all has_short_contours (map section_parts ss) ≡ list_all short_held ss
shorts_held [] = refl
shorts_held (s ∷ ss) =
    ap₂ (λ (a b : Bool). a && b) (list_all-map (λ (c : ContourParts). int_le c.count (pos MAX_CONTOUR_VERTICES))
    contour_parts s.contours.items) (shorts_held ss)

pub smalls_held : (ss : List Section)
    → list_all is_small (map section_parts ss) ≡ list_all (λ (s : Section). is_small (section_parts s)) ss
smalls_held ss = list_all-map is_small section_parts ss

-- a count that stops at its last value is over a limit if the number is
pub is_over : (n r limit : ℕ) → r ≡ min n (2 ^ 64 - 1) → limit < r → nat_lt limit n ≡ true
is_over n r limit e l = let m : limit < n = omega (arith, e) in grind (arith, nat_tests)

pub not_over : (n r limit : ℕ) → r ≡ min n (2 ^ 64 - 1) → r ≤ limit → limit < 2 ^ 64 - 1 → nat_lt limit n ≡ false
not_over n r limit e l k = let m : n ≤ limit = omega (arith, e) in grind (arith, nat_tests)
