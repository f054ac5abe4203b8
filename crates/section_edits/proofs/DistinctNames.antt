-- Names stay distinct if a new one is put among them, and if some contours are removed.
use Rattle.std.proofs.Common.{◌≡◌, ◌⊎◌, inl, inr, ℕ, Bool, true, false, cond, List, [], ◌∷◌, ◌++◌, map, None, refl, sym, ap, ◌∙◌, subst}
use Rattle.std.specs.Prelude.{filter, bytes_eq}
use Rattle.std.specs.List.{AllByRecursion, find}
use Rattle.std.proofs.lemmas.Bool.{false≢true}
use Rattle.std.proofs.lemmas.Slice.Eq.{bytes_eq-Decides}
use Rattle.std.proofs.lemmas.List.{append_assoc}
use Rattle.fku_types.proofs.ListLaws.{all_join, all_front, all_rest, all_map, all_unmap, all_filter}
use Rattle.section_core.specs.Parts.{ContourParts}
use Rattle.section_core.specs.Laws.{AreDistinct}
use Rattle.section_edits.specs.Contours.{has_name}
use Rattle.section_edits.proofs.Lawful.{name_of, passes}

-- a name that is not this one
abbrev pub IsNot : List ℕ → List ℕ → Type 0
IsNot name other = name ≡ other → ⊥

-- a new name among distinct ones
distinct_insert : (xs ys : List (List ℕ)) (n : List ℕ) → AllByRecursion (IsNot n) (xs ++ ys) → AreDistinct (xs ++ ys)
    → AreDistinct (xs ++ n ∷ ys)
distinct_insert [] ys n k h = (k, h)
distinct_insert (x ∷ xs) ys n k h =
    let Apart : List ℕ → Type 0 = IsNot x in (
      all_join Apart xs (n ∷ ys) (all_front Apart xs ys h.0) ((λ e. k.0 (sym e)), all_rest Apart xs ys h.0),
      distinct_insert xs ys n k.1 h.1,
    )

-- the names with the new one, or unchanged
pub record AddsName (old new : List (List ℕ)) (n : List ℕ) : Type 0 where
  pub before : List (List ℕ)
  pub after : List (List ℕ)
  pub split : old ≡ before ++ after
  pub new_names : (new ≡ before ++ n ∷ after) ⊎ (new ≡ old)

pub adds_front : (front old new : List (List ℕ)) (n : List ℕ) → AddsName old new n
    → AddsName (front ++ old) (front ++ new) n
adds_front front old new n a = record {
  before = front ++ a.before;
  after = a.after;
  split = ap (λ (ns : List (List ℕ)). front ++ ns) a.split ∙ sym (append_assoc front a.before a.after);
  new_names = elim a.new_names [
    | inl e ↦ inl (ap (λ (ns : List (List ℕ)). front ++ ns) e ∙ sym (append_assoc front a.before (n ∷ a.after)))
    | inr e ↦ inr (ap (λ (ns : List (List ℕ)). front ++ ns) e)
  ];
}

pub distinct_added : (old new : List (List ℕ)) (n : List ℕ) → AddsName old new n → AllByRecursion (IsNot n) old
    → AreDistinct old → AreDistinct new
distinct_added old new n a k d =
    elim a.new_names [
      | inl e ↦ subst AreDistinct (sym e)
          (distinct_insert a.before a.after n (subst (AllByRecursion (IsNot n)) a.split k)
          (subst AreDistinct a.split d))
      | inr e ↦ subst AreDistinct (sym e) d
    ]

-- a name that is not found is not one of the names
pub not_found : (name : List ℕ) (cs : List ContourParts) → find (has_name name) cs ≡ None
    → AllByRecursion (IsNot name) (map name_of cs)
not_found name [] e = tt
not_found name (c ∷ cs) e =
    let p = passes (has_name name c) c (find (has_name name) cs) e in (
      (λ (q : name ≡ c.name). false≢true
          (sym p.0 ∙ ap (λ (n : List ℕ). bytes_eq name n) (sym q) ∙ (bytes_eq-Decides name name).1 refl)),
      not_found name cs p.1,
    )

-- some contours are removed
kept_name : (b : Bool) (c : ContourParts) (cs : List ContourParts) → AllByRecursion (IsNot c.name) (map name_of cs)
    → AreDistinct (map name_of cs) → AreDistinct (map name_of (cond b (c ∷ cs) cs))
kept_name true c cs k h = (k, h)
kept_name false c cs k h = h

pub distinct_filter : (p : ContourParts → Bool) (cs : List ContourParts) → AreDistinct (map name_of cs)
    → AreDistinct (map name_of (filter p cs))
distinct_filter p [] h = tt
distinct_filter p (c ∷ cs) h =
    let Apart : ContourParts → Type 0 = λ d. IsNot c.name d.name in
    kept_name (p c) c (filter p cs)
    (all_map (IsNot c.name) name_of (filter p cs) (all_filter Apart p cs (all_unmap (IsNot c.name) name_of cs h.0)))
    (distinct_filter p cs h.1)
