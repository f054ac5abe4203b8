-- The strips and the slices of objects at a height, in order.
use Rattle.std.proofs.Common.{◌≡◌, ℕ, ◌+◌, ◌<◌, ◌≤◌, ◌==◌, ℤ, pos, ◌-ℤ◌, Bor, List, [], ◌∷◌, length, map, flat_map, drop, get_or, Result, Ok, Err, refl, sym, subst, ap, ◌∙◌, arith, Vec, All}
use Rattle.std.specs.Prelude.{IfOk}
use Rattle.std.specs.Global.{Global}
use Rattle.std.specs.List.{AllZip}
use Rattle.std.proofs.lemmas.List.{length-append, length-map, get_or-map, drop_more}
use Rattle.std.proofs.lemmas.List.Sums.{length-filter, count_by-le-length}
use Rattle.fku_types.specs.declared.fault.Fault.{Fault}
use Rattle.section_core.specs.Parts.{Parts}
use Rattle.section_core.specs.declared.objects.Object.{Object}
use Rattle.correspondence.specs.Outlines.{section_at}
use Rattle.strip_graph.specs.declared.slices.Cut.{Cut}
use Rattle.strip_graph.specs.Strips.{Strip}
use Rattle.row_paths.specs.Solutions.{Solution}
use Rattle.pair_pool.specs.Solvers.{SolvesEach, referents}
use Rattle.section_pairs.specs.Pairs.{PairParts}
use Rattle.section_pairs.specs.SectionFaults.{ArePairs}
use Rattle.section_pairs.proofs.PairLaws.{one_pairs}
use Rattle.surface_core.specs.Surfaces.{strips_in}
use Rattle.surface_core.specs.Objects.{numbered, sections_in}
use Rattle.surface_core.proofs.ObjectSteps.{Split, split_solved}
use Rattle.section_slices.specs.Slices.{IsGapAt, IsOutside, IsOnSection, IsHeightFault, outside, on_section, IsSlice, AreStripsAt, in_gap, no_gap, pairs_in_gap, loops_at}
use Rattle.section_slices.specs.declared.slices.SliceLoops.{SliceLoops}

-- a fault of the height, where it is that of no section
pub lies_outside : (S : Parts) (z : ℤ) (fault : Fault) → (IsOnSection S z → ⊥) → IsHeightFault S z fault → IsOutside S z
lies_outside S z _ none (outside h) = h
lies_outside S z _ none (on_section h) = absurd (none h)

-- ---- one object
-- the strips of the pairs of the gap
pub strips_found : {E : Type 0} (z : ℤ) (S : Parts) (g : ℕ) (ps : List PairParts)
    (r : Result (Vec (Bor Strip) Global) E) → IsGapAt S z g → ArePairs S ps
    → IfOk r (λ v. referents v.items ≡ strips_in (pairs_in_gap g ps))
    → IfOk r (λ v. AreStripsAt z S (referents v.items))
strips_found z S g ps (Ok v) at are e = subst (AreStripsAt z S) (sym e) (in_gap g ps at are)
strips_found z S g ps (Err x) at are e = tt

pub no_strips : (z : ℤ) (S : Parts) (strips : List Strip) → AreStripsAt z S strips → ((g : ℕ) → IsGapAt S z g → ⊥)
    → length strips ≡ 0
no_strips z S _ (in_gap g ps at are) none = absurd (none g at)
no_strips z S _ (no_gap h) none = refl

-- the slice from their solutions
pub slice_is : (z : ℤ) (S : Parts) (strips : List Strip) (xs : List Solution) (g d t : ℕ) (s : SliceLoops)
    → AreStripsAt z S strips → IsGapAt S z g → ((other : ℕ) → IsGapAt S z other → other ≡ g) → SolvesEach strips xs
    → pos d ≡ (section_at S (g + 1)).z -ℤ (section_at S g).z → pos t ≡ z -ℤ (section_at S g).z → s.den ≡ pos d
    → map (λ (l : Vec Cut Global). l.items) s.loops.items ≡ loops_at d t strips xs → IsSlice S z s
slice_is z S _ xs g d t s (in_gap h ps at are) here one solved heights part den loops =
    let e : g ≡ h = sym (one h at) in
    record {
      gap = h;
      at = at;
      pairs = ps;
      are_pairs = are;
      solutions = xs;
      chosen = solved;
      d = d;
      t = t;
      heights = heights ∙ ap (λ (k : ℕ). (section_at S (k + 1)).z -ℤ (section_at S k).z) e;
      part = part ∙ ap (λ (k : ℕ). z -ℤ (section_at S k).z) e;
      den = den;
      loops = loops;
    }
slice_is z S _ xs g d t s (no_gap none) here one solved heights part den loops = absurd (none g here)

-- ---- the object at a place
pub lies_on_none : (z : ℤ) (items : List Object) (i : ℕ) (o : Object) → i < length items → o ≡ get_or items i o
    → All (λ (S : Parts). IsOnSection S z → ⊥) (sections_in items) → IsOnSection o.sections z → ⊥
lies_on_none z items i o l e all =
    subst (λ (S : Parts). IsOnSection S z → ⊥)
    (get_or-map (λ (p : Object). p.sections) items i o o.sections l ∙ ap (λ (p : Object). p.sections) (sym e))
    (all i o.sections (omega (arith, l, length-map items (λ (p : Object). p.sections))))

-- the strips of a list
abbrev pub held : Vec (Bor Strip) Global → List Strip
held v = referents v.items

-- the solutions of the strips from a place on: first those of the strips there
pub split_here : (each : List (Vec (Bor Strip) Global)) (i : ℕ) (v : Vec (Bor Strip) Global) (rest : List Solution)
    → i < length each → v ≡ get_or each i v → SolvesEach (flat_map held (drop i each)) rest
    → Split (held v) (flat_map held (drop (i + 1) each)) rest
split_here each i v rest l e h =
    let next : drop i each ≡ v ∷ drop (i + 1) each = drop_more each i v l
    ∙ ap (λ (w : Vec (Bor Strip) Global). w ∷ drop (i + 1) each) (sym e) in
    split_solved (held v) (flat_map held (drop (i + 1) each)) rest
    (subst (λ (vs : List (Vec (Bor Strip) Global)). SolvesEach (flat_map held vs) rest) next h)

-- ---- at most all pairs go to the solver
few_here : (z : ℤ) (S : Parts) (ps : List PairParts) (strips : List Strip) → ArePairs S ps → AreStripsAt z S strips
    → length strips ≤ length ps
few_here z S ps _ are (in_gap g qs at here) =
    let same : length qs ≡ length ps = ap length (one_pairs S qs ps here are) in
    omega (
      arith,
      same,
      length-map (pairs_in_gap g qs) (λ (p : PairParts). p.strip),
      length-filter (λ (p : PairParts). p.gap == g) qs,
      count_by-le-length (λ (p : PairParts). p.gap == g) qs,
    )
few_here z S ps _ are (no_gap none) = omega arith

few_in_all : (z : ℤ) (objects : List Parts) (pss : List (List PairParts)) (each : List (Vec (Bor Strip) Global))
    → AllZip ArePairs objects pss → AllZip (AreStripsAt z) objects (map held each)
    → length (flat_map held each) ≤ length (numbered pss)
few_in_all z [] [] [] a b = omega arith
few_in_all z [] (ps ∷ pss) each a b = absurd a
few_in_all z (S ∷ objects) [] each a b = absurd a
few_in_all z [] [] (v ∷ each) a b = absurd b
few_in_all z (S ∷ objects) (ps ∷ pss) [] a b = absurd b
few_in_all z (S ∷ objects) (ps ∷ pss) (v ∷ each) a b =
    omega (
      arith,
      few_here z S ps (held v) a.0 b.0,
      few_in_all z objects pss each a.1 b.1,
      length-append (held v) (flat_map held each),
      length-append ps (numbered pss),
    )

pub few_strips : (z : ℤ) (objects : List Parts) (pss : List (List PairParts)) (each : List (Vec (Bor Strip) Global))
    (all : List (Bor Strip)) → AllZip ArePairs objects pss → AllZip (AreStripsAt z) objects (map held each)
    → referents all ≡ flat_map held each
    → length all ≤ length (numbered pss)
few_strips z objects pss each all a b e =
    omega (arith, few_in_all z objects pss each a b, length-map all (λ (p : Bor Strip). p.now), ap length e)
