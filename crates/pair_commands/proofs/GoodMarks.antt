-- Good marks stay good with one more mark after them.
use Rattle.std.proofs.Common.{◌≡◌, ◌⊎◌, inl, inr, ℕ, ◌-◌, ◌<◌, List, [], ◌∷◌, ◌++◌, length, sym, subst, subst₂, ap, arith, length-append}
use Rattle.std.proofs.lemmas.List.{get_or_append_left}
use Rattle.fku_types.proofs.SplitLaws.{compare}
use Rattle.landmarks.specs.declared.marks.Mark.{Mark}
use Rattle.landmarks.specs.Faults.{mark_at, ShareLine, GoAcross, IsGood, AreGoodBefore}
use Rattle.section_pairs.specs.Pairs.{PairParts}
use Rattle.pair_commands.specs.declared.mark_lines.PairMark.{PairMark}
use Rattle.pair_commands.specs.Landmarks.{IsGoodMark, AreGoodMarks}

-- a good mark stays good, whatever follows it
mark_left : (xs ys : List Mark) (q : ℕ) → q < length xs → mark_at (xs ++ ys) q ≡ mark_at xs q
mark_left xs ys q l = get_or_append_left xs ys (record { row = 0; col = 0 }) q l

abbrev Across : ℕ → ℕ → Mark → Mark → Mark → Type 0
Across m n o e k = GoAcross m n o e k ⊎ GoAcross m n o k e

good_left : (m n : ℕ) (xs ys : List Mark) (q : ℕ) → q < length xs → IsGood m n xs q → IsGood m n (xs ++ ys) q
good_left m n xs ys q l h =
    let here = mark_left xs ys q l in
    record {
      row = subst (λ (k : Mark). k.row < m) (sym here) h.row;
      col = subst (λ (k : Mark). k.col < n) (sym here) h.col;
      new = λ r. h.new (record {
        earlier = r.earlier;
        before = r.before;
        shared =
            subst₂ ShareLine (mark_left xs ys r.earlier (omega (arith, r.before, l))) here r.shared;
      });
      straight = λ r.
          h.straight (record {
            earlier = r.earlier;
            before = r.before;
            across = subst (λ (o : Mark). Across m n o (mark_at xs r.earlier) (mark_at xs q))
                (mark_left xs ys 0 (omega (arith, l)))
                (subst₂ (Across m n (mark_at (xs ++ ys) 0)) (mark_left xs ys r.earlier (omega (arith, r.before, l)))
                here r.across);
          });
    }

pub good_pushed : (m n : ℕ) (xs new : List Mark) (x : Mark) → new ≡ xs ++ x ∷ [] → AreGoodBefore m n xs (length xs)
    → AreGoodBefore m n new (length new - 1)
good_pushed m n xs new x e h =
    subst (λ (ms : List Mark). AreGoodBefore m n ms (length ms - 1)) (sym e)
    (λ q l. let inside : q < length xs = omega (arith, l, length-append xs (x ∷ [])) in
    good_left m n xs (x ∷ []) q inside (h q inside))

pub good_none : (ps : List PairParts) → AreGoodMarks ps []
good_none ps before x after e = absurd (omega (arith, ap length e, length-append before (x ∷ after)))

pub good_more : (ps : List PairParts) (xs : List PairMark) (x : PairMark) → AreGoodMarks ps xs → IsGoodMark ps xs x
    → AreGoodMarks ps (xs ++ x ∷ [])
good_more ps xs x h g before y after e =
    elim (compare xs x [] before y after e) [
      | inl s ↦ subst₂ (IsGoodMark ps) s.0 s.1 g
      | inr (inl s) ↦ absurd (omega (
        arith,
        ap length e,
        ap length s.split,
        length-append xs (x ∷ []),
        length-append before (y ∷ after),
        length-append xs (x ∷ s.more),
      ))
      | inr (inr s) ↦ h before y s.more s.split
    ]
