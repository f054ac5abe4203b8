-- A row is read number by number.
use Rattle.std.proofs.Common.{◌≡◌, ℕ, ◌+◌, ◌<◌, ℤ, List, [], ◌∷◌, ◌++◌, length, Some, refl, ap, sym, ◌∙◌, subst, append_assoc, append-nil, arith, length-append}
use Rattle.std.specs.Prelude.{All, get_or}
use Rattle.std.proofs.lemmas.List.{get_or_at}
use Rattle.std.proofs.lemmas.List.Elements.{All-push, All-nil, All-get_or}
use Rattle.strip_graph.specs.Certificates.{IsModest}
use Rattle.text_io.specs.Text.{number_of}
use Rattle.text_io.specs.WordLists.{Matches, Line}
use Rattle.cert_checker.specs.CertTexts.{IsValueRow, row_line}
use Rattle.cert_checker.specs.LineSteps.{IsValue, PutsRow}

-- so many numbers were appended to old ones, and these words are left
pub record RowSoFar (old new : List ℤ) (all rest : Line) (count : ℕ) : Type 0 where
  pub row : List ℤ
  pub put : new ≡ old ++ row
  pub counted : length row ≡ count
  pub modest : All IsModest row
  pub only : (xs : List ℤ) → Matches all (row_line xs) → (zs : List ℤ) × (xs ≡ row ++ zs) × Matches rest (row_line zs)
  pub back : (zs : List ℤ) → Matches rest (row_line zs) → Matches all (row_line (row ++ zs))

pub row_none : (old : List ℤ) (all : Line) → RowSoFar old old all all 0
row_none old all = record {
  row = [];
  put = sym (append-nil old);
  counted = refl;
  modest = All-nil IsModest;
  only =
      λ xs m. (xs, refl, m);
  back = λ zs m. m;
}

-- the numbers that words begin with
first_is : (w : List ℕ) (more : Line) (z : ℤ) (zs : List ℤ) → number_of w ≡ Some z → Matches (w ∷ more) (row_line zs)
    → (ys : List ℤ) × (zs ≡ z ∷ ys) × Matches more (row_line ys)
first_is w more z [] e m = absurd m
first_is w more z (y ∷ ys) e m =
    let f : Some y ≡ Some z = sym m.0 ∙ e in
    let g : y ≡ z = cc in
    (ys, ap (λ (x : ℤ). x ∷ ys) g, m.1)

-- one more number
pub row_more : (old new new' : List ℤ) (all : Line) (w : List ℕ) (more rest : Line) (count : ℕ) (z : ℤ)
    → rest ≡ w ∷ more
    → IsValue w z → new' ≡ new ++ z ∷ [] → RowSoFar old new all rest count → RowSoFar old new' all more (count + 1)
row_more old new new' all w more rest count z e v n r =
    record {
      row = r.row ++ z ∷ [];
      put = n ∙ ap (λ (xs : List ℤ). xs ++ z ∷ []) r.put ∙ append_assoc old r.row (z ∷ []);
      counted = omega (arith, length-append r.row (z ∷ []), r.counted);
      modest = All-push IsModest r.row z r.modest v.1;
      only = λ xs m.
          let a = r.only xs m in
          let b = first_is w more z a.0 v.0 (subst (λ (ws : Line). Matches ws (row_line a.0)) e a.2) in
          (b.0, a.1 ∙ ap (λ (zs : List ℤ). r.row ++ zs) b.1 ∙ sym (append_assoc r.row (z ∷ []) b.0), b.2);
      back = λ zs m.
          subst (λ (xs : List ℤ). Matches all (row_line xs)) (sym (append_assoc r.row (z ∷ []) zs))
          (r.back (z ∷ zs) (subst (λ (ws : Line). Matches ws (row_line (z ∷ zs))) (sym e) (v.0, m)));
    }

-- a word is not a number that a row may have
pub row_wrong : (old new : List ℤ) (all rest : Line) (count width : ℕ) (w : List ℕ) (more : Line)
    → RowSoFar old new all rest count → rest ≡ w ∷ more → count < width → ((z : ℤ) → IsValue w z → ⊥) → (row : List ℤ)
    → IsValueRow width row → Matches all (row_line row) → ⊥
row_wrong old new all rest count width w more r e lt none row is m =
    let a = r.only row m in
    first_wrong a.0 a.1 (subst (λ (ws : Line). Matches ws (row_line a.0)) e a.2)
  where
    first_wrong : (zs : List ℤ) → row ≡ r.row ++ zs → Matches (w ∷ more) (row_line zs) → ⊥
    first_wrong [] f g = g
    first_wrong (z ∷ zs) f g =
        let here : get_or row count z ≡ z = ap (λ (xs : List ℤ). get_or xs count z) f
        ∙ get_or_at r.row z zs z count r.counted in
        let inside : count < length row = omega (arith, is.0, lt) in
        none z (g.0, subst IsModest here (All-get_or IsModest row count z inside is.1))

-- nor is there a row where too few words are left, or too many
pub row_short : (old new : List ℤ) (all rest : Line) (count width : ℕ) → RowSoFar old new all rest count → rest ≡ []
    → count < width → (row : List ℤ) → IsValueRow width row → Matches all (row_line row) → ⊥
row_short old new all rest count width r e lt row is m =
    let a = r.only row m in
    none_left a.0 a.1 (subst (λ (ws : Line). Matches ws (row_line a.0)) e a.2)
  where
    none_left : (zs : List ℤ) → row ≡ r.row ++ zs → Matches [] (row_line zs) → ⊥
    none_left [] f g = omega (arith, ap length f, length-append r.row [], r.counted, is.0, lt)
    none_left (z ∷ zs) f g = g

pub row_long : (old new : List ℤ) (all rest : Line) (count width : ℕ) (w : List ℕ) (more : Line)
    → RowSoFar old new all rest count → rest ≡ w ∷ more → count ≡ width → (row : List ℤ)
    → IsValueRow width row → Matches all (row_line row) → ⊥
row_long old new all rest count width w more r e n row is m =
    let a = r.only row m in
    some_left a.0 a.1 (subst (λ (ws : Line). Matches ws (row_line a.0)) e a.2)
  where
    some_left : (zs : List ℤ) → row ≡ r.row ++ zs → Matches (w ∷ more) (row_line zs) → ⊥
    some_left [] f g = g
    some_left (z ∷ zs) f g = omega (arith, ap length f, length-append r.row (z ∷ zs), r.counted, is.0, n)

-- the whole row was read
pub row_whole : (old new : List ℤ) (all rest : Line) (count width : ℕ) → RowSoFar old new all rest count → rest ≡ []
    → count ≡ width → PutsRow all width old new
row_whole old new all rest count width r e n =
    record {
      row = r.row;
      put = r.put;
      is_row = (r.counted ∙ n, r.modest);
      match = subst (λ (xs : List ℤ). Matches all (row_line xs)) (append-nil r.row)
          (r.back [] (subst (λ (ws : Line). Matches ws []) (sym e) tt));
    }
