-- A search back, column by column.
use Rattle.std.proofs.Common.{true, false, ◌≡◌, ℕ, ◌+◌, ◌<◌, ◌≤◌, ℤ, pos, neg_ℤ, ◌+ℤ◌, ◌≤ℤ◌, Bool, List, cond, refl, sym, ap, ◌∙◌, arith, inl, inr}
use Rattle.std.specs.Prelude.{nat_le}
use Rattle.std.proofs.lemmas.Bool.{cases_lt}
use Rattle.std.proofs.lemmas.Int.{ints}
use Rattle.strip_graph.specs.declared.tilings.Step.TheVariants.{V, H}
use Rattle.strip_graph.specs.Words.{Arcs}
use Rattle.round_sweeps.specs.Columns.{start_limit, value_limit, at_row}
use Rattle.round_sweeps.specs.Searched.{IsLeft, GoesDown, GoesRight}
use Rattle.round_sweeps.specs.Searches.{gone, way_of, way_at, IsBackColumn, IsSearchedTo}

-- the numbers and the costs of a column are those of the strip
pub record AreOfColumn (a : Arcs) (phi : ℕ → ℕ → ℤ) (i m c : ℕ) (numbers downs : ℕ → ℤ) : Type 0 where
  pub numbers_are : (k : ℕ) → k ≤ m → numbers k ≡ phi (i + k) c
  pub least : (k : ℕ) → k ≤ m → neg_ℤ start_limit ≤ℤ numbers k
  pub downs_are : (k : ℕ) → k < m → downs k ≡ pos (a (i + k) c V)

-- the last column is searched first
pub searched_first : (a : Arcs) (phi : ℕ → ℕ → ℤ) (i m n : ℕ) (limit : ℤ) (numbers downs rights : ℕ → ℤ)
    (old new : List ℤ) (chunk ways : List Bool) → AreOfColumn a phi i m n numbers downs → limit ≤ℤ value_limit
    → ((k : ℕ) → k < m → at_row old k ≡ gone) → ((k : ℕ) → k ≤ m → rights k ≡ pos 0)
    → IsBackColumn m limit numbers downs rights old new chunk → at_row new m ≡ pos 0
    → ((k : ℕ) → k ≤ m → way_of chunk k ≡ way_at m ways k n) → IsSearchedTo a phi i m n limit n new ways
searched_first a phi i m n limit numbers downs rights old new chunk ways of small begin free h zero same = record {
  costs = λ k c. at_row new k;
  searched = record {
    ending = zero;
    down = λ k c lt from to p. (let e : c ≡ n = omega (arith, from, to) in
        let q = ap (λ (x : ℕ). a (i + k) x V) e in
        omega (
          arith,
          ints,
          q,
          of.downs_are k lt,
          h.down k (omega arith) lt (omega (
            arith,
            ints,
            p,
            q,
            of.downs_are k lt,
            of.numbers_are k (omega (arith, lt)),
            ap (phi (i + k)) e,
          )),
        ));
    right = λ k c le from to p. absurd (omega (arith, from, to));
    goes_down = λ k c le from to left t. (let e : c ≡ n = omega (arith, from, to) in
        let g = h.goes_down k (omega arith) le (omega (arith, ints, left, of.numbers_are k le, ap (phi (i + k)) e))
        (same k le ∙ ap (way_at m ways k) (sym e) ∙ t) in
        record { more = g.0; cost = omega (arith, ints, g.1, of.downs_are k g.0, ap (λ (x : ℕ). a (i + k) x V) e) });
    goes_right = λ k c le from to more left t. (let e : c ≡ n = omega (arith, from, to) in
        let g = h.goes_right k (omega arith) le (omega (arith, ints, left, of.numbers_are k le, ap (phi (i + k)) e))
        (same k le ∙ ap (way_at m ways k) (sym e) ∙ t) in
        absurd (omega (
          arith,
          ints,
          left,
          of.numbers_are k le,
          of.least k le,
          ap (phi (i + k)) e,
          small,
          g.0,
          free k le,
          begin k (omega (arith, more, e)),
        )));
  };
  are = λ k le. refl;
}

-- one column more
with_column : ℕ → (ℕ → ℕ → ℤ) → List ℤ → ℕ → ℕ → ℤ
with_column c f column k x = cond (nat_le (c + 1) x) (f k x) (at_row column k)

later : (c : ℕ) (f : ℕ → ℕ → ℤ) (column : List ℤ) (k x : ℕ) → c < x → with_column c f column k x ≡ f k x
unfolding with_column
later c f column k x lt = grind arith

here : (c : ℕ) (f : ℕ → ℕ → ℤ) (column : List ℤ) (k x : ℕ) → x ≡ c → with_column c f column k x ≡ at_row column k
unfolding with_column
here c f column k x e = grind arith

pub searched_more : (a : Arcs) (phi : ℕ → ℕ → ℤ) (i m n c0 : ℕ) (limit : ℤ) (numbers downs rights : ℕ → ℤ)
    (old new : List ℤ) (chunk ways ways' : List Bool) → AreOfColumn a phi i m c0 numbers downs
    → ((k : ℕ) → k ≤ m → rights k ≡ pos (a (i + k) c0 H)) → c0 < n → IsSearchedTo a phi i m n limit (c0 + 1) old ways
    → IsBackColumn m limit numbers downs rights old new chunk → ((k : ℕ) → k ≤ m → way_of chunk k ≡ way_at m ways' k c0)
    → ((k c : ℕ) → k ≤ m → c0 < c → c ≤ n → way_at m ways' k c ≡ way_at m ways k c)
    → IsSearchedTo a phi i m n limit c0 new ways'
searched_more a phi i m n c0 limit numbers downs rights old new chunk ways ways' of rights_are lt0 s h same rest =
    record {
      costs = g;
      searched = record {
        ending = later c0 f new m n lt0 ∙ s.searched.ending;
        down = down;
        right = right;
        goes_down = goes_down;
        goes_right = goes_right;
      };
      are = λ k le. here c0 f new k c0 refl;
    }
  where
    f : ℕ → ℕ → ℤ
    f = s.costs

    g : ℕ → ℕ → ℤ
    g = with_column c0 f new

    down : (k c : ℕ) → k < m → c0 ≤ c → c ≤ n → (phi (i + k) c +ℤ (pos (a (i + k) c V) +ℤ g (k + 1) c)) ≤ℤ limit
        → g k c ≤ℤ (pos (a (i + k) c V) +ℤ g (k + 1) c)
    down k c lt from to p =
        elim (cases_lt c0 c) [
          | inl more ↦ omega (
            arith,
            ints,
            later c0 f new k c more,
            later c0 f new (k + 1) c more,
            s.searched.down k c lt (omega (arith, more)) to (omega (arith, ints, p, later c0 f new (k + 1) c more)),
          )
          | inr none ↦ (let e : c ≡ c0 = omega (arith, from, none) in
              let q = ap (λ (x : ℕ). a (i + k) x V) e in
              omega (
                arith,
                ints,
                here c0 f new k c e,
                here c0 f new (k + 1) c e,
                q,
                of.downs_are k lt,
                h.down k (omega arith) lt (omega (
                  arith,
                  ints,
                  p,
                  here c0 f new (k + 1) c e,
                  q,
                  of.downs_are k lt,
                  of.numbers_are k (omega (arith, lt)),
                  ap (phi (i + k)) e,
                )),
              ))
        ]

    right : (k c : ℕ) → k ≤ m → c0 ≤ c → c < n → (phi (i + k) c +ℤ (pos (a (i + k) c H) +ℤ g k (c + 1))) ≤ℤ limit
        → g k c ≤ℤ (pos (a (i + k) c H) +ℤ g k (c + 1))
    right k c le from to p =
        let next = later c0 f new k (c + 1) (omega (arith, from)) in
        elim (cases_lt c0 c) [
          | inl more ↦ omega (
            arith,
            ints,
            later c0 f new k c more,
            next,
            s.searched.right k c le (omega (arith, more)) to (omega (arith, ints, p, next)),
          )
          | inr none ↦ (let e : c ≡ c0 = omega (arith, from, none) in
              let q = ap (λ (x : ℕ). a (i + k) x H) e in
              let r = ap (λ (x : ℕ). f k (x + 1)) e ∙ s.are k le in
              omega (
                arith,
                ints,
                here c0 f new k c e,
                next,
                r,
                q,
                rights_are k le,
                h.right k (omega arith) le (omega (
                  arith,
                  ints,
                  p,
                  next,
                  r,
                  q,
                  rights_are k le,
                  of.numbers_are k le,
                  ap (phi (i + k)) e,
                )),
              ))
        ]

    goes_down : (k c : ℕ) → k ≤ m → c0 ≤ c → c ≤ n → IsLeft phi i limit g k c → way_at m ways' k c ≡ true
        → GoesDown a i m g k c
    goes_down k c le from to left t =
        elim (cases_lt c0 c) [
          | inl more ↦ (let w = s.searched.goes_down k c le (omega (arith, more)) to
              (omega (arith, ints, left, later c0 f new k c more)) (sym (rest k c le more to) ∙ t) in
              record {
                more = w.more;
                cost = omega
                    (arith, ints, w.cost, later c0 f new k c more, later c0 f new (k + 1) c more);
              })
          | inr none ↦ (let e : c ≡ c0 = omega (arith, from, none) in
              let w = h.goes_down k (omega arith) le
              (omega (arith, ints, left, here c0 f new k c e, of.numbers_are k le, ap (phi (i + k)) e))
              (same k le ∙ ap (way_at m ways' k) (sym e) ∙ t) in
              record {
                more = w.0;
                cost = omega (
                  arith,
                  ints,
                  w.1,
                  here c0 f new k c e,
                  here c0 f new (k + 1) c e,
                  of.downs_are k w.0,
                  ap (λ (x : ℕ). a (i + k) x V) e,
                );
              })
        ]

    goes_right : (k c : ℕ) → k ≤ m → c0 ≤ c → c ≤ n → k + c < m + n → IsLeft phi i limit g k c
        → way_at m ways' k c ≡ false → GoesRight a i m n g k c
    goes_right k c le from to some left t =
        elim (cases_lt c0 c) [
          | inl more ↦ (let w = s.searched.goes_right k c le (omega (arith, more)) to some
              (omega (arith, ints, left, later c0 f new k c more)) (sym (rest k c le more to) ∙ t) in
              record {
                more = w.more;
                cost = omega (
                  arith,
                  ints,
                  w.cost,
                  later c0 f new k c more,
                  later c0 f new k (c + 1) (omega (arith, more)),
                );
                less = λ lt. omega (arith, ints, w.less lt, later c0 f new k c more, later c0 f new (k + 1) c more);
              })
          | inr none ↦ (let e : c ≡ c0 = omega (arith, from, none) in
              let w = h.goes_right k (omega arith) le
              (omega (arith, ints, left, here c0 f new k c e, of.numbers_are k le, ap (phi (i + k)) e))
              (same k le ∙ ap (way_at m ways' k) (sym e) ∙ t) in
              record {
                more = omega (arith, e, lt0);
                cost = omega (
                  arith,
                  ints,
                  w.0,
                  here c0 f new k c e,
                  later c0 f new k (c + 1) (omega (arith, from)),
                  ap (λ (x : ℕ). f k (x + 1)) e,
                  s.are k le,
                  rights_are k le,
                  ap (λ (x : ℕ). a (i + k) x H) e,
                );
                less = λ lt. omega (
                  arith,
                  ints,
                  w.1 lt,
                  here c0 f new k c e,
                  here c0 f new (k + 1) c e,
                  of.downs_are k lt,
                  ap (λ (x : ℕ). a (i + k) x V) e,
                );
              })
        ]
