-- Marks that cross: no tiling contains them and the first mark of the list.
use Rattle.std.proofs.Common.{◌≡◌, ℕ, zero, suc, ◌+◌, ◌%◌, ◌<◌, ◌≤◌, List, take, ap, subst, sym, ◌∙◌, arith, ◌⊎◌, inl, inr}
use Rattle.std.proofs.lemmas.List.{get_or-take, length-take-le}
use Rattle.strip_graph.specs.declared.tilings.Step.{Step}
use Rattle.strip_graph.specs.Words.{count_v, count_h, HasLetters}
use Rattle.strip_graph.specs.Strips.{Strip, arcs, rows, cols}
use Rattle.strip_graph.proofs.WordLaws.{count_v-append, count_h-append}
use Rattle.strip_graph.proofs.Around.{arcs-periodic}
use Rattle.landmarks.specs.declared.marks.Mark.{Mark}
use Rattle.landmarks.specs.declared.marks.MarkFault.{MarkFault}
use Rattle.landmarks.specs.declared.marks.MarkFault.TheVariants.{Cross}
use Rattle.landmarks.specs.Marks.{Passes, IsMarked, HaveNoTiling}
use Rattle.landmarks.specs.Faults.{mark_at, distance_after, ShareLine, GoAcross, IsRepeated, MarksCross, FollowsGood, IsFirstFaultOfMarks}
use Rattle.landmarks.proofs.Orders.{after_hi}
use Rattle.landmarks.proofs.Turning.{Turned, turn, Longer, fronts}
use Rattle.landmarks.proofs.Rounds.{before_end}
use Rattle.landmarks.proofs.Alike.{place_of}

-- a word from a span of the pair, at the place where it passes a mark, has gone as far as the mark's distance from that
-- span
record IsPassed (m n : ℕ) (o k : Mark) (front : List Step) : Type 0 where
  rows_on : distance_after m o.row k.row ≡ count_v front
  cols_on : distance_after n o.col k.col ≡ count_h front

passed : (m n : ℕ) (o k : Mark) (w : List Step) → HasLetters m n w → o.row < m → o.col < n
    → (p : Passes m n o.row o.col w k) → (ShareLine o k → ⊥) → IsPassed m n o k p.front
passed m n o k w l lr lc p apart = record {
  rows_on = at m o.row (count_v p.front) k.row lr
      (omega (arith, l.v, ap count_v p.joins, count_v-append p.front p.back)) p.row (λ d. apart (inl (sym d)));
  cols_on = at n o.col (count_h p.front) k.col lc
      (omega (arith, l.h, ap count_h p.joins, count_h-append p.front p.back)) p.col (λ d. apart (inr (sym d)));
}
  where
    at : (m r f x : ℕ) → r < m → f ≤ m → (r + f) % m ≡ x → (x ≡ r → ⊥) → distance_after m r x ≡ f
    at m r f x lt le e ne = place_of m r f x lt (before_end m r f x lt le e ne) e

-- its rows and its columns rise together, so two marks that it passes do not cross
straight : (m n : ℕ) (o e k : Mark) (w : List Step) → HasLetters m n w → o.row < m → o.col < n
    → Passes m n o.row o.col w e → Passes m n o.row o.col w k → (ShareLine o e → ⊥) → (ShareLine o k → ⊥)
    → GoAcross m n o e k → ⊥
straight m n o e k w l lr lc p q apart apart' x =
    by (fronts p.front p.back q.front q.back (sym p.joins ∙ q.joins)) (passed m n o e w l lr lc p apart)
    (passed m n o k w l lr lc q apart')
  where
    by : Longer p.front p.back q.front q.back ⊎ Longer q.front q.back p.front p.back → IsPassed m n o e p.front
        → IsPassed m n o k q.front → ⊥
    by (inl y) s t = omega (arith, x.1, s.cols_on, t.cols_on, ap count_h y.front, count_h-append p.front y.rest)
    by (inr y) s t = omega (arith, x.0, s.rows_on, t.rows_on, ap count_v y.front, count_v-append q.front y.rest)

-- no tiling contains a mark that crosses an earlier one, and the marks before it
crossed : (p : Strip) (marks : List Mark) (q : ℕ) → FollowsGood (rows p) (cols p) marks q → (IsRepeated marks q → ⊥)
    → MarksCross (rows p) (cols p) marks q → HaveNoTiling (rows p) (cols p) (take (q + 1) marks)
crossed p marks q f new c i j w k = by c.earlier c.before c.across
  where
    m : ℕ
    m = rows p

    n : ℕ
    n = cols p

    o : Mark
    o = mark_at marks 0

    none : Mark
    none = record { row = 0; col = 0 }

    row : o.row < m
    row = (f.earlier 0 (omega (arith, c.before))).row

    col : o.col < n
    col = (f.earlier 0 (omega (arith, c.before))).col

    passes : (i j : ℕ) (w : List Step) → IsMarked m n (take (q + 1) marks) i j w → (e : ℕ) → e ≤ q
        → Passes m n i j w (mark_at marks e)
    passes i j w k e le = subst (Passes m n i j w) (get_or-take (q + 1) marks e none (omega arith))
        (k.contains e none (omega (arith, length-take-le (q + 1) marks (omega (arith, f.there)))))

    t : Turned (arcs p) m n (take (q + 1) marks) i j w o
    t = turn (arcs p) m n (take (q + 1) marks) i j w o (arcs-periodic p) k (passes i j w k 0 (omega arith)) row col

    at : (e : ℕ) → e ≤ q → Passes m n o.row o.col t.word (mark_at marks e)
    at e le = passes o.row o.col t.word t.marked e le

    apart : (e : ℕ) → 0 < e → e < q → ShareLine o (mark_at marks e) → ⊥
    apart e some lt s = (f.earlier e lt).new (record { earlier = 0; before = some; shared = s })

    last : 0 < q → ShareLine o (mark_at marks q) → ⊥
    last some s = new (record { earlier = 0; before = some; shared = s })

    by : (e : ℕ) → e < q → GoAcross m n o (mark_at marks e) (mark_at marks q)
        ⊎ GoAcross m n o (mark_at marks q) (mark_at marks e) → ⊥
    by zero lt (inl x) = omega (arith, x.1, after_hi n o.col o.col col (omega arith))
    by zero lt (inr x) = omega (arith, x.0, after_hi m o.row o.row row (omega arith))
    by (suc e) lt (inl x) = straight m n o (mark_at marks (suc e)) (mark_at marks q) t.word t.marked.acceptable.letters
        row col (at (suc e) (omega arith)) (at q (omega arith)) (apart (suc e) (omega arith) lt) (last (omega arith)) x
    by (suc e) lt (inr x) = straight m n o (mark_at marks q) (mark_at marks (suc e)) t.word t.marked.acceptable.letters
        row col (at q (omega arith)) (at (suc e) (omega arith)) (last (omega arith)) (apart (suc e) (omega arith) lt) x

pub no_tiling : (p : Strip) (marks : List Mark) (f : MarkFault) → IsFirstFaultOfMarks (rows p) (cols p) marks f
    → (q : ℕ) → f ≡ Cross q → HaveNoTiling (rows p) (cols p) (take (q + 1) marks)
no_tiling p marks f is q e =
    let c : IsFirstFaultOfMarks (rows p) (cols p) marks (Cross q) =
    subst (IsFirstFaultOfMarks (rows p) (cols p) marks) e is in
    crossed p marks q c.0 c.2 c.3
