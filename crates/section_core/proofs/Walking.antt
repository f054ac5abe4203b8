-- Pieces that are walked along, one part after another.
use Rattle.std.proofs.Common.{◌≡◌, ℕ, suc, ◌+◌, Bool, true, false, not, ◌&&◌, List, [], ◌∷◌, ◌++◌, map, take, drop, zero, ℤ, Option, None, Some, Result, Ok, Err, refl, ap, sym, ◌∙◌, subst, inl, inr, add-one}
use Rattle.std.specs.List.{list_all, AllByRecursion}
use Rattle.std.specs.Ordering.{int_eq}
use Rattle.std.proofs.lemmas.Bool.{cases_Bool, and_parts, cond-true, cond-false, false≢true}
use Rattle.fku_types.specs.declared.points.Point.{Point}
use Rattle.fku_types.specs.declared.fault.Fault.{Fault}
use Rattle.fku_types.specs.declared.fault.Fault.TheVariants.{NoMemory, Range}
use Rattle.section_core.specs.declared.tally.Tally.{Tally}
use Rattle.section_core.specs.Laws.{Facts, Law, in_range, name_once, rising, within}
use Rattle.section_core.specs.Machine.{Item, cost_is, contour, point}
use Rattle.section_core.specs.Steps.{after, first_broken, is_coordinate, is_weighted}
use Rattle.section_core.specs.Reading.{broken, fault_at, Breach, form}
use Rattle.section_core.specs.Tallies.{Tallies, Admits, Judges}
use Rattle.section_core.specs.Views.{spot_of}
use Rattle.section_core.specs.Parts.{CostParts}
use Rattle.section_core.specs.Made.{Piece, whole, askew, point_piece, walked, walk, kept_by, keeps_name, AnswersWalk, Walks, is_good}

abbrev pub walk_then : Result Facts Law → List Piece → Result Facts Law
walk_then (Ok g) ys = walk g ys
walk_then (Err law) ys = Err law

walked_then : (o : Option Law) (r s : Result Facts Law) (ys : List Piece) → s ≡ walk_then r ys
    → walked o s ≡ walk_then (walked o r) ys
walked_then None r s ys e = e
walked_then (Some law) r s ys e = refl

pub walk-append : (f : Facts) (xs ys : List Piece) → walk f (xs ++ ys) ≡ walk_then (walk f xs) ys
walk-append f [] ys = refl
walk-append f (askew ∷ xs) ys = refl
walk-append f (whole item ∷ xs) ys =
    walked_then (first_broken f item) (walk (after f item) xs) (walk (after f item) (xs ++ ys)) ys
    (walk-append (after f item) xs ys)

-- a name that is stored on a part of the way is stored on the whole
kept_more : (o : Option Law) (item : Item) (a b : Bool) → (a ≡ true → b ≡ true) → kept_by o item a ≡ true
    → kept_by o item b ≡ true
kept_more (Some law) item a b w e = e
kept_more None (contour name count) a b w e = refl
kept_more None item a b w e = w e

kept_later : (o : Option Law) (item : Item) (b : Bool) → o ≡ None → b ≡ true → kept_by o item b ≡ true
kept_later (Some law) item b e k = absurd (cc)
kept_later None (contour name count) b e k = refl
kept_later None item b e k = k

pub keeps-front : (f : Facts) (xs ys : List Piece) → keeps_name f xs ≡ true → keeps_name f (xs ++ ys) ≡ true
keeps-front f [] ys e = absurd (false≢true e)
keeps-front f (askew ∷ xs) ys e = absurd (false≢true e)
keeps-front f (whole item ∷ xs) ys e =
    kept_more (first_broken f item) item (keeps_name (after f item) xs) (keeps_name (after f item) (xs ++ ys))
    (keeps-front (after f item) xs ys) e

pub memory_answered : (a : Bool) (r : Result Facts Law) (t : Tally) → a ≡ true → AnswersWalk a r (Err NoMemory) t
memory_answered a (Ok f) t e = e
memory_answered a (Err law) t e = e

pub memory_asked : (a : Bool) (r : Result Facts Law) (t : Tally) → AnswersWalk a r (Err NoMemory) t → a ≡ true
memory_asked a (Ok f) t h = h
memory_asked a (Err law) t h = h

answers_more : (a b : Bool) (r : Result Facts Law) (q : Result (Unit {0}) Fault) (t : Tally) → (a ≡ true → b ≡ true)
    → AnswersWalk a r q t → AnswersWalk b r q t
answers_more a b (Ok f) (Ok u) t w h = h
answers_more a b (Err law) (Ok u) t w h = h
answers_more a b r (Err NoMemory) t w h = memory_answered b r t (w (memory_asked a r t h))
answers_more a b (Ok f) (Err fault) t w h = absurd h
answers_more a b (Err law) (Err fault) t w h = h

pub walks_ok : (a : Bool) (r : Result Facts Law) (u : Unit {0}) (t : Tally) → AnswersWalk a r (Ok u) t → (g : Facts)
    × (r ≡ Ok g) × Tallies t g
walks_ok a (Ok g) u t h = (g, refl, h)
walks_ok a (Err law) u t h = absurd h

walks_err : (a b : Bool) (r : Result Facts Law) (fault : Fault) (s t : Tally) (ys : List Piece) → (a ≡ true → b ≡ true)
    → AnswersWalk a r (Err fault) s → AnswersWalk b (walk_then r ys) (Err fault) t
walks_err a b (Ok f) NoMemory s t ys w h = memory_answered b (walk f ys) t (w h)
walks_err a b (Ok f) fault s t ys w h = absurd h
walks_err a b (Err law) NoMemory s t ys w h = w h
walks_err a b (Err law) fault s t ys w h = h

-- what is returned on a part of the way is returned on the whole
pub walks_on : (f : Facts) (xs ys : List Piece) (fault : Fault) (s t : Tally) → Walks f xs (Err fault) s
    → Walks f (xs ++ ys) (Err fault) t
walks_on f xs ys fault s t h =
    subst (λ (r : Result Facts Law). AnswersWalk (keeps_name f (xs ++ ys)) r (Err fault) t) (sym (walk-append f xs ys))
    (walks_err (keeps_name f xs) (keeps_name f (xs ++ ys)) (walk f xs) fault s t ys (keeps-front f xs ys) h)

abbrev walked_value : Result Facts Law → Facts → Facts
walked_value (Ok g) f = g
walked_value (Err law) f = f

pub walked_ok : (o : Option Law) (r : Result Facts Law) (g : Facts) → walked o r ≡ Ok g → (o ≡ None) × (r ≡ Ok g)
walked_ok None r g e = (refl, e)
walked_ok (Some law) r g e = absurd (cc)

pub keeps-later : (f g : Facts) (xs ys : List Piece) → walk f xs ≡ Ok g → keeps_name g ys ≡ true
    → keeps_name f (xs ++ ys) ≡ true
keeps-later f g [] ys e k = let h : f ≡ g = ap (λ r. walked_value r f) e in rw h k
keeps-later f g (askew ∷ xs) ys e k = absurd (cc)
keeps-later f g (whole item ∷ xs) ys e k =
    let w = walked_ok (first_broken f item) (walk (after f item) xs) g e in
    kept_later (first_broken f item) item (keeps_name (after f item) (xs ++ ys)) w.0
    (keeps-later (after f item) g xs ys w.1 k)

-- what is returned on the rest of the way is returned on the whole
pub walks_after : (f g : Facts) (xs ys : List Piece) (q : Result (Unit {0}) Fault) (t : Tally) → walk f xs ≡ Ok g
    → Walks g ys q t → Walks f (xs ++ ys) q t
walks_after f g xs ys q t e h =
    subst (λ (r : Result Facts Law). AnswersWalk (keeps_name f (xs ++ ys)) r q t)
    (sym (walk-append f xs ys ∙ ap (λ (r : Result Facts Law). walk_then r ys) e))
    (answers_more (keeps_name g ys) (keeps_name f (xs ++ ys)) (walk g ys) q t (keeps-later f g xs ys e) h)

-- a part of the pieces has been walked along
pub record GoesOn (f : Facts) (all : List Piece) (now : Tally) (rest : List Piece) : Type 0 where
  pub facts : Facts
  pub tallies : Tallies now facts
  pub same : walk f all ≡ walk facts rest
  pub asked : keeps_name facts rest ≡ true → keeps_name f all ≡ true

abbrev pub Goes : Tally → List Piece → Tally → List Piece → Type 0
Goes old all now rest = (f : Facts) → Tallies old f → GoesOn f all now rest

pub goes_more : (f : Facts) (all : List Piece) (now new : Tally) (xs rest : List Piece) (u : Unit {0})
    (o : GoesOn f all now (xs ++ rest)) → Walks o.facts xs (Ok u) new → GoesOn f all new rest
goes_more f all now new xs rest u o h =
    let d = walks_ok (keeps_name o.facts xs) (walk o.facts xs) u new h in
    record {
      facts = d.0;
      tallies = d.2;
      same = o.same ∙ walk-append o.facts xs rest ∙ ap (λ (r : Result Facts Law). walk_then r rest) d.1;
      asked = λ e. o.asked (keeps-later o.facts d.0 xs rest d.1 e);
    }

pub goes_err : (f : Facts) (all : List Piece) (now new t : Tally) (xs rest : List Piece) (fault : Fault)
    (o : GoesOn f all now (xs ++ rest)) → Walks o.facts xs (Err fault) new → Walks f all (Err fault) t
goes_err f all now new t xs rest fault o h =
    subst (λ (r : Result Facts Law). AnswersWalk (keeps_name f all) r (Err fault) t)
    (sym (o.same ∙ walk-append o.facts xs rest))
    (walks_err (keeps_name o.facts xs) (keeps_name f all) (walk o.facts xs) fault new t rest
    (λ e. o.asked (keeps-front o.facts xs rest e)) h)

pub admits_ok : (o : Option Law) (u : Unit {0}) (P : Unit {0} → Type 0) → Admits {T = Unit {0}} 0 (Ok u) o P
    → (o ≡ None) × P u
admits_ok None u P h = (refl, h)
admits_ok (Some law) u P h = absurd h

pub judges_ok : (o : Option Law) (u : Unit {0}) (P : Unit {0} → Type 0) → Judges {T = Unit {0}} 0 (Ok u) o P
    → (o ≡ None) × P u
judges_ok None u P h = (refl, h)
judges_ok (Some law) u P h = absurd h

-- the fault of a breach is not `NoMemory`
pub not_memory : (b : Breach) (n : ℕ) → NoMemory ≡ fault_at b n → ⊥
not_memory form n e = absurd (cc)
not_memory (broken in_range) n e = absurd (cc)
not_memory (broken name_once) n e = absurd (cc)
not_memory (broken rising) n e = absurd (cc)
not_memory (broken (within limit)) n e = absurd (cc)

-- the first piece is a contour; storing its name takes memory
pub contour_err : (o : Option Law) (name : List ℕ) (count : ℤ) (a : Bool) (r : Result Facts Law) (fault : Fault)
    (P : Unit {0} → Type 0) (t : Tally) → Admits {T = Unit {0}} 0 (Err fault) o P
    → AnswersWalk (kept_by o (contour name count) a) (walked o r) (Err fault) t
contour_err None name count a r NoMemory P t h = memory_answered true r t refl
contour_err None name count a r fault P t h = absurd h
contour_err (Some law) name count a r NoMemory P t h = absurd (not_memory (broken law) 0 h)
contour_err (Some law) name count a r fault P t h = h

-- the first piece takes no memory
pub head_err : (o : Option Law) (item : Item) (a : Bool) (r : Result Facts Law) (fault : Fault) (P : Unit {0} → Type 0)
    (t : Tally) → Judges {T = Unit {0}} 0 (Err fault) o P → AnswersWalk (kept_by o item a) (walked o r) (Err fault) t
head_err None item a r fault P t h = absurd h
head_err (Some law) item a r NoMemory P t h = absurd (not_memory (broken law) 0 h)
head_err (Some law) item a r fault P t h = h

pub head_ok : (o : Option Law) (item : Item) (a : Bool) (r : Result Facts Law) (q : Result (Unit {0}) Fault) (t : Tally)
    → o ≡ None → AnswersWalk a r q t → AnswersWalk (kept_by o item a) (walked o r) q t
head_ok o item a r q t e h = subst (λ (l : Option Law). AnswersWalk (kept_by l item a) (walked l r) q t) (sym e)
    (answers_more a (kept_by None item a) r q t (kept_later None item a refl) h)

point_good : (z : ℤ) (p : Point) (f : Facts) (more : List Piece) → is_good z p ≡ true
    → walk f (point_piece z p ∷ more) ≡ walk (after f (point (spot_of p))) more
point_good z p f more e =
    let h = and_parts (int_eq p.z z) (is_coordinate p.x && is_coordinate p.y) e in
    ap (λ (q : Piece). walk f (q ∷ more)) (cond-true _ _ _ h.0)
    ∙ ap (λ (o : Option Law). walked o (walk (after f (point (spot_of p))) more)) (cond-false _ _ _ (ap not h.1))

point_bad : (z : ℤ) (p : Point) (f : Facts) (more : List Piece) → is_good z p ≡ false
    → walk f (point_piece z p ∷ more) ≡ Err in_range
point_bad z p f more e =
    elim (cases_Bool (int_eq p.z z)) [
      | inl t ↦ let coords : (is_coordinate p.x && is_coordinate p.y) ≡ false =
          sym (ap (λ (b : Bool). b && (is_coordinate p.x && is_coordinate p.y)) t) ∙ e in
          ap (λ (q : Piece). walk f (q ∷ more)) (cond-true _ _ _ t)
          ∙ ap (λ (o : Option Law). walked o (walk (after f (point (spot_of p))) more))
          (cond-true _ _ _ (ap not coords))
      | inr t ↦ ap (λ (q : Piece). walk f (q ∷ more)) (cond-false _ _ _ t)
    ]

tallies_point : (t : Tally) (f : Facts) (p : Point) → Tallies t f → Tallies t (after f (point (spot_of p)))
tallies_point t f p h = record {
  names = h.names;
  objects = h.objects;
  sections = h.sections;
  above = h.above;
  section_vertices = h.section_vertices;
  vertices = h.vertices;
  links = h.links;
}

pub tallies_cost : (t : Tally) (f : Facts) (cost : CostParts) → Tallies t f → Tallies t (after f (cost_is cost))
tallies_cost t f cost h = record {
  names = h.names;
  objects = h.objects;
  sections = h.sections;
  above = h.above;
  section_vertices = h.section_vertices;
  vertices = h.vertices;
  links = h.links;
}

-- the first piece is a cost rule
pub cost_err : (cost : CostParts) (f : Facts) (more : List Piece) (t : Tally) → is_weighted cost ≡ false
    → Walks f (whole (cost_is cost) ∷ more) (Err (Range 0)) t
cost_err cost f more t e =
    subst (λ (o : Option Law). AnswersWalk (kept_by o (cost_is cost) (keeps_name (after f (cost_is cost)) more))
    (walked o (walk (after f (cost_is cost)) more)) (Err (Range 0)) t)
    (sym (cond-true _ _ _ (ap not e))) refl

pub cost_ok : (cost : CostParts) (f : Facts) (more : List Piece) (r : Result (Unit {0}) Fault) (t : Tally)
    → is_weighted cost ≡ true → Walks (after f (cost_is cost)) more r t → Walks f (whole (cost_is cost) ∷ more) r t
cost_ok cost f more r t e h =
    head_ok (first_broken f (cost_is cost)) (cost_is cost) (keeps_name (after f (cost_is cost)) more)
    (walk (after f (cost_is cost)) more) r t (cond-false _ _ _ (ap not e)) h

pub points_ok : (a : Bool) (z : ℤ) (ps : List Point) (f : Facts) (t : Tally) → list_all (is_good z) ps ≡ true
    → Tallies t f → AnswersWalk a (walk f (map (point_piece z) ps)) (Ok tt) t
points_ok a z [] f t e h = h
points_ok a z (p ∷ ps) f t e h =
    let q = and_parts (is_good z p) (list_all (is_good z) ps) e in
    subst (λ (r : Result Facts Law). AnswersWalk a r (Ok tt) t) (sym (point_good z p f (map (point_piece z) ps) q.0))
    (points_ok a z ps (after f (point (spot_of p))) t q.1 (tallies_point t f p h))

pub points_err : (a : Bool) (z : ℤ) (ps : List Point) (f : Facts) (t : Tally) → list_all (is_good z) ps ≡ false
    → AnswersWalk a (walk f (map (point_piece z) ps)) (Err (Range 0)) t
points_err a z [] f t e = absurd (false≢true (sym e))
points_err a z (p ∷ ps) f t e =
    elim (cases_Bool (is_good z p)) [
      | inl g ↦ let more : list_all (is_good z) ps ≡ false = sym (ap (λ (b : Bool). b && list_all (is_good z) ps) g)
          ∙ e in
          subst (λ (r : Result Facts Law). AnswersWalk a r (Err (Range 0)) t)
          (sym (point_good z p f (map (point_piece z) ps) g))
          (points_err a z ps (after f (point (spot_of p))) t more)
      | inr b ↦ subst (λ (r : Result Facts Law). AnswersWalk a r (Err (Range 0)) t)
          (sym (point_bad z p f (map (point_piece z) ps) b)) refl
    ]

pub all_next : {A : Type 0} (P : A → Type 0) (xs : List A) (i : ℕ) (x : A) (rest : List A) → drop i xs ≡ x ∷ rest
    → AllByRecursion P (take i xs) → P x → AllByRecursion P (take (i + 1) xs)
all_next P xs i x rest e h p = subst (λ (k : ℕ). AllByRecursion P (take k xs)) (sym (add-one i))
    (go P xs i x rest e h p)
  where
    go : {A : Type 0} (P : A → Type 0) (xs : List A) (i : ℕ) (x : A) (rest : List A) → drop i xs ≡ x ∷ rest
        → AllByRecursion P (take i xs) → P x → AllByRecursion P (take (suc i) xs)
    go P [] zero x rest e h p = tt
    go P [] (suc i) x rest e h p = tt
    go P (y ∷ ys) zero x rest e h p = (subst P (cc) p, tt)
    go P (y ∷ ys) (suc i) x rest e h p = (h.0, go P ys i x rest e h.1 p)
