-- A mark that is appended to those of its pair: the groups of marks after it, or its fault.
use Rattle.std.proofs.Common.{◌≡◌, inl, inr, ℕ, ◌+◌, ◌-◌, ◌<◌, ◌≤◌, List, [], ◌∷◌, ◌++◌, map, length, take, drop, get_or, set, Vec, refl, sym, subst, subst₂, ap, ◌∙◌, arith, length-append, length-take}
use Rattle.std.specs.Prelude.{All}
use Rattle.std.specs.Global.{Global}
use Rattle.std.specs.List.{AllByRecursion}
use Rattle.std.proofs.lemmas.Bool.{cases_eq}
use Rattle.std.proofs.lemmas.List.{get_or-map, length-map, get_or_default, get_or-set_same, get_or-set_other}
use Rattle.std.proofs.lemmas.Option.{slice_get_read}
use Rattle.fku_types.specs.declared.limits.TheConstants.{MAX_MARKS}
use Rattle.fku_types.specs.declared.fault.Fault.{Fault}
use Rattle.fku_types.specs.declared.fault.Fault.TheVariants.{NoPair}
use Rattle.fku_types.proofs.ListLaws.{take_next, split_at}
use Rattle.strip_graph.specs.Strips.{rows, cols}
use Rattle.landmarks.specs.declared.marks.Mark.{Mark}
use Rattle.landmarks.specs.Faults.{AreSoundMarks, AreGoodBefore, IsFirstFaultOfMarks}
use Rattle.section_pairs.specs.Pairs.{PairParts, pair_parts}
use Rattle.section_pairs.specs.declared.gap_pairs.GapPair.{GapPair}
use Rattle.pair_commands.specs.declared.mark_lines.PairMark.{PairMark}
use Rattle.pair_commands.specs.OnePair.{IsPairOf}
use Rattle.pair_commands.specs.Landmarks.{marks_of, IsGoodMark, no_pair, of_pair, AreGoodMarks, IsMarkFault}
use Rattle.pair_commands.specs.MarkReading.{groups_from, lists_in, IsGoodGroup, AreGrouped, IsCauseOf}
use Rattle.pair_commands.proofs.PairGroups.{of_few, groups_count, group_at, groups_more, no_groups}
use Rattle.pair_commands.proofs.GoodMarks.{good_pushed, good_none, good_more}

-- no marks
pub grouped_none : (ps : List PairParts) (xs : List PairMark) (vs : List (Vec Mark Global)) → length vs ≡ length ps
    → AllByRecursion (λ (v : Vec Mark Global). v.items ≡ []) vs → AreGrouped ps (take 0 xs) (lists_in vs)
grouped_none ps xs vs e h = record {
  are = no_groups 1 ps vs e h;
  good = good_none ps;
  each = λ i p l.
      let none : get_or (lists_in vs) i [] ≡ [] = ap (λ (gs : List (List Mark)). get_or gs i []) (no_groups 1 ps vs e h)
      ∙ group_at 1 ps [] i l in
      subst (IsGoodGroup (get_or ps i p)) (sym none)
      (record { few = omega arith; good = λ q k. absurd (omega (arith, k)) });
}

-- the place of a mark's pair, and its group with the mark
pub record IsAdded (ps : List PairParts) (xs : List PairMark) (i : ℕ) (x : PairMark) (place : ℕ) (p : PairParts)
    (old new : List (List Mark)) : Type 0 where
  pub inside : i < length xs
  pub is : x ≡ get_or xs i x
  pub counted : x.pair ≡ place + 1
  pub there : place < length ps
  pub pair : p ≡ get_or ps place p
  pub few : length xs ≤ MAX_MARKS
  pub grouped : AreGrouped ps (take i xs) old
  pub put : new ≡ set old place (get_or old place [] ++ x.mark ∷ [])

pub group_count : (ps : List PairParts) (xs : List PairMark) (gs : List (List Mark)) → AreGrouped ps xs gs
    → length gs ≡ length ps
group_count ps xs gs g = ap length g.are ∙ groups_count 1 ps xs

pub groups_grow : (ps : List PairParts) (xs : List PairMark) (i : ℕ) (x : PairMark) (place : ℕ) (p : PairParts)
    (old new : List (List Mark)) → IsAdded ps xs i x place p old new → new ≡ groups_from 1 ps (take i xs ++ x ∷ [])
groups_grow ps xs i x place p old new a =
    a.put ∙ ap (λ (gs : List (List Mark)). set gs place (get_or gs place [] ++ x.mark ∷ [])) a.grouped.are
    ∙ sym (groups_more 1 ps (take i xs) x place (omega (arith, a.counted)) a.there)

-- its group has the marks of the pair up to it
pub group_is : (ps : List PairParts) (xs : List PairMark) (i : ℕ) (x : PairMark) (place : ℕ) (p : PairParts)
    (old new : List (List Mark)) → IsAdded ps xs i x place p old new
    → get_or new place [] ≡ marks_of x.pair (take i xs ++ x ∷ [])
group_is ps xs i x place p old new a =
    let number : 1 + place ≡ x.pair = omega (arith, a.counted) in
    ap (λ (gs : List (List Mark)). get_or gs place []) (groups_grow ps xs i x place p old new a)
    ∙ group_at 1 ps (take i xs ++ x ∷ []) place a.there ∙ ap (λ (k : ℕ). marks_of k (take i xs ++ x ∷ [])) number

pub pushed_is : (ps : List PairParts) (xs : List PairMark) (i : ℕ) (x : PairMark) (place : ℕ) (p : PairParts)
    (old new : List (List Mark)) → IsAdded ps xs i x place p old new
    → get_or new place [] ≡ get_or old place [] ++ x.mark ∷ []
pushed_is ps xs i x place p old new a =
    ap (λ (gs : List (List Mark)). get_or gs place []) a.put
    ∙ get_or-set_same old place (get_or old place [] ++ x.mark ∷ []) []
    (omega (arith, a.there, group_count ps (take i xs) old a.grouped))

group_few : (ps : List PairParts) (xs : List PairMark) (i : ℕ) (x : PairMark) (place : ℕ) (p : PairParts)
    (old new : List (List Mark)) → IsAdded ps xs i x place p old new → length (get_or new place []) ≤ MAX_MARKS
group_few ps xs i x place p old new a =
    omega (
      arith,
      ap length (group_is ps xs i x place p old new a),
      of_few x.pair (take i xs ++ x ∷ []),
      ap length (take_next xs i x a.inside a.is),
      length-take (i + 1) xs,
      a.few,
    )

is_pair : (ps : List PairParts) (xs : List PairMark) (i : ℕ) (x : PairMark) (place : ℕ) (p : PairParts)
    (old new : List (List Mark)) → IsAdded ps xs i x place p old new → IsPairOf ps x.pair p
is_pair ps xs i x place p old new a =
    record { place = place; counted = a.counted; there = slice_get_read ps (length ps) place p refl a.there a.pair }

-- what the test of its last mark requires
abbrev pub IsReady : PairParts → List Mark → Type 0
IsReady p ms = (1 ≤ length ms) × (length ms ≤ MAX_MARKS)
    × AreGoodBefore (rows p.strip) (cols p.strip) ms (length ms - 1)

pub last_ready : (ps : List PairParts) (xs : List PairMark) (i : ℕ) (x : PairMark) (place : ℕ) (p : PairParts)
    (old new : List (List Mark)) → IsAdded ps xs i x place p old new
    → IsReady p (get_or new place [])
last_ready ps xs i x place p old new a =
    let before = subst (λ (q : PairParts). IsGoodGroup q (get_or old place [])) (sym a.pair)
    (a.grouped.each place p a.there) in
    let pushed = pushed_is ps xs i x place p old new a in (
      omega (arith, ap length pushed, length-append (get_or old place []) (x.mark ∷ [])),
      group_few ps xs i x place p old new a,
      good_pushed (rows p.strip) (cols p.strip) (get_or old place []) (get_or new place []) x.mark pushed before.good,
    )

-- the mark is good
pub grouped_more : (ps : List PairParts) (xs : List PairMark) (i : ℕ) (x : PairMark) (place : ℕ) (p : PairParts)
    (old new : List (List Mark)) → IsAdded ps xs i x place p old new
    → AreGoodBefore (rows p.strip) (cols p.strip) (get_or new place []) (length (get_or new place []))
    → AreGrouped ps (take (i + 1) xs) new
grouped_more ps xs i x place p old new a good =
    let front = take i xs in
    let grown = take_next xs i x a.inside a.is in
    let here = group_is ps xs i x place p old new a in
    let few = group_few ps xs i x place p old new a in
    let set_good : AreSoundMarks (rows p.strip) (cols p.strip) (get_or new place []) =
    record { some = (last_ready ps xs i x place p old new a).0; few = few; good = good } in
    let is_good : IsGoodMark ps front x =
    record {
      pair = p;
      is_pair = is_pair ps xs i x place p old new a;
      good =
          subst (AreSoundMarks (rows p.strip) (cols p.strip)) here set_good;
    } in
    record {
      are = groups_grow ps xs i x place p old new a ∙ ap (groups_from 1 ps) (sym grown);
      good = subst (AreGoodMarks ps) (sym grown) (good_more ps front x a.grouped.good is_good);
      each = λ j q l. elim (cases_eq j place) [
        | inl e ↦ (
            let there : get_or ps j q ≡ p = ap (λ (n : ℕ). get_or ps n q) e ∙ get_or_default ps place q p a.there
            ∙ sym a.pair in
            let group : get_or new j [] ≡ get_or new place [] = ap (λ (n : ℕ). get_or new n []) e in
            subst₂ IsGoodGroup (sym there) (sym group) (record { few = few; good = good })
            )
        | inr ne ↦ (
            let group : get_or new j [] ≡ get_or old j [] = ap (λ (gs : List (List Mark)). get_or gs j []) a.put
            ∙ get_or-set_other old place j (get_or old place [] ++ x.mark ∷ []) [] ne in
            subst (IsGoodGroup (get_or ps j q)) (sym group) (a.grouped.each j q l)
            )
      ];
    }

-- the mark has a fault
pub cause_here : (ps : List PairParts) (xs : List PairMark) (i : ℕ) (x : PairMark) (place : ℕ) (p : PairParts)
    (old new : List (List Mark)) (fault : Fault) → IsAdded ps xs i x place p old new
    → IsCauseOf (rows p.strip) (cols p.strip) (get_or new place []) x fault → IsMarkFault ps xs fault
cause_here ps xs i x place p old new fault a c = record {
  before = take i xs;
  mark = x;
  after = drop (i + 1) xs;
  split = split_at xs i x a.inside a.is;
  good_before = a.grouped.good;
  has = of_pair p c.cause fault (is_pair ps xs i x place p old new a)
      (subst (λ (ms : List Mark). IsFirstFaultOfMarks (rows p.strip) (cols p.strip) ms c.cause)
      (group_is ps xs i x place p old new a) c.first) c.told;
}

-- there is no such pair
pub no_pair_here : (ps : List PairParts) (xs : List PairMark) (i : ℕ) (x : PairMark) → i < length xs → x ≡ get_or xs i x
    → AreGoodMarks ps (take i xs) → length ps < x.pair → IsMarkFault ps xs (NoPair x.pair)
no_pair_here ps xs i x l e good h =
    record {
      before = take i xs;
      mark = x;
      after = drop (i + 1) xs;
      split = split_at xs i x l e;
      good_before = good;
      has = no_pair h;
    }

-- a mark that was appended to those of its pair
abbrev no_mark : PairMark
no_mark = record { pair = 0; mark = record { row = 0; col = 0 } }

pub added_by : (pairs : List GapPair) (xs : List PairMark) (i : ℕ) (q : GapPair) (old new : List (List Mark))
    → i < length xs → length xs ≤ MAX_MARKS → All (λ (x : PairMark). 1 ≤ x.pair) xs
    → (get_or xs i no_mark).pair ≤ length pairs
    → AreGrouped (map pair_parts pairs) (take i xs) old
    → new ≡ set old ((get_or xs i no_mark).pair - 1)
    (get_or old ((get_or xs i no_mark).pair - 1) [] ++ (get_or xs i no_mark).mark ∷ [])
    → IsAdded (map pair_parts pairs) xs i (get_or xs i no_mark) ((get_or xs i no_mark).pair - 1)
    (pair_parts (get_or pairs ((get_or xs i no_mark).pair - 1) q)) old new
added_by pairs xs i q old new l few numbers inside grouped put =
    let x = get_or xs i no_mark in
    let one : 1 ≤ x.pair = numbers i no_mark l in
    let there : x.pair - 1 < length pairs = omega (arith, one, inside) in
    record {
      inside = l;
      is = get_or_default xs i no_mark x l;
      counted = omega (arith, one);
      there = omega (arith, there, length-map pairs pair_parts);
      pair = sym (get_or-map pair_parts pairs (x.pair - 1) q (pair_parts (get_or pairs (x.pair - 1) q)) there);
      few = few;
      grouped = grouped;
      put = put;
    }
