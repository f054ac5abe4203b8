-- A tally after one more item.
use Rattle.std.proofs.Common.{◌≡◌, ℕ, ◌+◌, ◌<◌, true, false, cond, not, List, [], ◌∷◌, ◌++◌, length, ℤ, pos, Option, None, Some, Ok, refl, ap, sym, ◌∙◌, subst, arith}
use Rattle.std.specs.Prelude.{int_lt, nat_le}
use Rattle.std.specs.List.{list_any, sum_by}
use Rattle.std.proofs.lemmas.List.Sums.{sum_by-append}
use Rattle.std.proofs.lemmas.Bool.{cond-false}
use Rattle.std.proofs.lemmas.Bool.Decides.{nat_tests}
use Rattle.fku_types.specs.declared.limits.TheConstants.{MAX_SECTIONS}
use Rattle.section_core.specs.Parts.{asked}
use Rattle.section_core.specs.Laws.{Facts, Law}
use Rattle.section_core.specs.Machine.{section, contour, same}
use Rattle.section_core.specs.Steps.{after, first_broken, is_coordinate, is_above, last, add_last, last_list, push_last}
use Rattle.section_core.specs.Tallies.{Tallies, Judges, is_over}
use Rattle.section_core.specs.declared.tally.Tally.{Tally}
use Rattle.section_core.proofs.FactsBefore.{push_last-length}

pub is_above-push : (hs : List ℤ) (y z : ℤ) → is_above (hs ++ y ∷ []) z ≡ int_lt y z
is_above-push [] y z = refl
is_above-push (h ∷ []) y z = refl
is_above-push (h ∷ g ∷ hs) y z = is_above-push (g ∷ hs) y z

pub last-push : (xs : List ℕ) (n : ℕ) → last (xs ++ n ∷ []) ≡ n
last-push [] n = refl
last-push (x ∷ []) n = refl
last-push (x ∷ y ∷ xs) n = last-push (y ∷ xs) n

last_list-push : (hs : List (List ℤ)) (z : ℤ) → last_list (push_last hs z) ≡ last_list hs ++ z ∷ []
last_list-push [] z = refl
last_list-push (x ∷ []) z = refl
last_list-push (x ∷ y ∷ []) z = refl
last_list-push (x ∷ y ∷ w ∷ hs) z = last_list-push (y ∷ w ∷ hs) z

last_list-new : (hs : List (List ℤ)) → last_list (hs ++ [] ∷ []) ≡ []
last_list-new [] = refl
last_list-new (x ∷ []) = refl
last_list-new (x ∷ y ∷ hs) = last_list-new (y ∷ hs)

-- an object begins
pub begun_tallies : (f : Facts) (objects : List (List ℕ)) (old new : Tally) → Tallies old f → new.objects.keys ≡ objects
    → new.names.keys ≡ old.names.keys → new.sections ≡ old.sections → new.height ≡ None
    → new.section_vertices ≡ old.section_vertices → new.vertices ≡ old.vertices → new.links ≡ old.links
    → Tallies new (record f { objects = objects; heights = f.heights ++ [] ∷ [] })
begun_tallies f objects old new t o n s h v a l = record {
  names = n ∙ t.names;
  objects = o;
  sections = s ∙ omega (arith, t.sections, sum_by-append {X = List ℤ} length f.heights ([] ∷ []));
  above = λ y. ap (λ (zs : List ℤ). is_above zs y) (last_list-new f.heights)
      ∙ ap (λ (x : Option ℤ). is_over x y) (sym h);
  section_vertices = v ∙ t.section_vertices;
  vertices = a ∙ t.vertices;
  links = l ∙ t.links;
}

-- a section that breaks no law
section_free : (f : Facts) (z : ℤ) → is_coordinate z ≡ true → is_above (last_list f.heights) z ≡ true
    → nat_le MAX_SECTIONS (sum_by length f.heights) ≡ false → first_broken f (section z) ≡ None
section_free f z c a l = cond-false _ _ _ (ap not c) ∙ cond-false _ _ _ (ap not a) ∙ cond-false _ _ _ l

section_tallies : (f : Facts) (z : ℤ) (old new : Tally) → Tallies old f → new.names.keys ≡ old.names.keys
    → new.objects.keys ≡ old.objects.keys → new.sections ≡ old.sections + 1 → new.height ≡ Some z
    → new.section_vertices ≡ 0 → new.vertices ≡ old.vertices → new.links ≡ old.links → Tallies new (after f (section z))
section_tallies f z old new t n o s h v a l = record {
  names = n ∙ t.names;
  objects = o ∙ t.objects;
  sections = s ∙ omega (arith, t.sections, push_last-length f.heights z);
  above = λ y. ap (λ (zs : List ℤ). is_above zs y) (last_list-push f.heights z)
      ∙ is_above-push (last_list f.heights) z y ∙ ap (λ (x : Option ℤ). is_over x y) (sym h);
  section_vertices = v ∙ sym (last-push f.sums 0);
  vertices = a ∙ t.vertices;
  links = l ∙ t.links;
}

pub section_admitted : (f : Facts) (z : ℤ) (line : ℕ) (old new : Tally) → Tallies old f → is_coordinate z ≡ true
    → is_over old.height z ≡ true → old.sections < MAX_SECTIONS → new.names.keys ≡ old.names.keys
    → new.objects.keys ≡ old.objects.keys → new.sections ≡ old.sections + 1 → new.height ≡ Some z
    → new.section_vertices ≡ 0 → new.vertices ≡ old.vertices → new.links ≡ old.links
    → Judges {T = Unit {0}} line (Ok tt) (first_broken f (section z)) (λ _. Tallies new (after f (section z)))
section_admitted f z line old new t c a room n o s h v vs l =
    let r : sum_by length f.heights < MAX_SECTIONS = omega (arith, t.sections, room) in
    let full : nat_le MAX_SECTIONS (sum_by length f.heights) ≡ false = grind (arith, nat_tests) in
    subst (λ (q : Option Law). Judges {T = Unit {0}} line (Ok tt) q (λ _. Tallies new (after f (section z))))
    (sym (section_free f z c (t.above z ∙ a) full))
    (section_tallies f z old new t n o s h v vs l)

pub last-add_last : (sums : List ℕ) (m n : ℕ) → m ≡ last sums → last (add_last sums n) ≡ m + n
last-add_last [] m n e = omega (arith, e)
last-add_last (x ∷ []) m n e = ap (λ (k : ℕ). k + n) (sym e)
last-add_last (x ∷ y ∷ []) m n e = last-add_last (y ∷ []) m n e
last-add_last (x ∷ y ∷ w ∷ sums) m n e = last-add_last (y ∷ w ∷ sums) m n e

pub contour_tallies : (f : Facts) (name : List ℕ) (count : ℕ) (old new : Tally) → Tallies old f
    → new.names.keys ≡ old.names.keys ++ name ∷ [] → new.objects.keys ≡ old.objects.keys → new.sections ≡ old.sections
    → new.height ≡ old.height → new.section_vertices ≡ old.section_vertices + count
    → new.vertices ≡ old.vertices + count → new.links ≡ old.links → Tallies new (after f (contour name (pos count)))
contour_tallies f name count old new t n o s h v a l = record {
  names = n ∙ ap (λ (ks : List (List ℕ)). ks ++ name ∷ []) t.names;
  objects = o ∙ t.objects;
  sections = s ∙ t.sections;
  above = λ z. t.above z ∙ ap (λ (x : Option ℤ). is_over x z) (sym h);
  section_vertices = v ∙ sym (last-add_last f.sums old.section_vertices count t.section_vertices);
  vertices = a ∙ omega (arith, t.vertices, sum_by-append asked f.counts (pos count ∷ []));
  links = l ∙ t.links;
}

pub insert_new : (ks : List (List ℕ)) (name : List ℕ) → list_any (same name) ks ≡ false
    → cond (list_any (same name) ks) ks (ks ++ name ∷ []) ≡ ks ++ name ∷ []
insert_new ks name e = cond-false _ _ _ e
