use Rattle.std.proofs.Common.{◌≡◌, ◌≤◌, ◌<◌, ◌+◌, Bool, false, ℕ, length, take, arith, sym, subst, All, ℤ, ◌≤ℤ◌, unsigned_abs, to_z, of_z, w32, List}
use Rattle.std.proofs.lemmas.List.Sums.{count_by-le-length}
use Rattle.std.specs.List.{count_by}
use Rattle.std.proofs.lemmas.List.Elements.{All-take, All-drop}
use Rattle.plane_geom.proofs.Signed.{passed_i32}
use Rattle.mesh_measures.specs.declared.triangle_boxes.Boxed.{Boxed}
use Rattle.mesh_measures.specs.TriangleBoxes.{IsBoxed, crosses, crosses_at, x_of, z_of, RisesBy, LiesPast}
use Rattle.mesh_measures.proofs.Layers.{level_rises, higher_rises, scanned, only_crossed}
use Rattle.mesh_measures.proofs.counting.count_behind.Goals as goal
use Rattle.mesh_measures.proofs.counting.count_behind.Goals.{After-low_end-low}

-- a height passed to a call is itself
at_height : (y z : ℤ) → unsigned_abs z ≤ 999999 → y ≤ℤ to_z w32 (of_z w32 z) → y ≤ℤ z
at_height y z h k = subst (λ (m : ℤ). y ≤ℤ m) (passed_i32 z h) k

past : (f : Boxed → ℤ) (z : ℤ) (xs : List Boxed) (n : ℕ) → unsigned_abs z ≤ 999999
    → LiesPast f (to_z w32 (of_z w32 z)) xs n → LiesPast f z xs n
past f z xs n h k = subst (λ (m : ℤ). LiesPast f m xs n) (passed_i32 z h) k

-- those that the two scans look at are all that are crossed
all : (c : After-low_end-low) (p : Boxed → Bool) → ((f : Boxed) → crosses c.args.first.now f ≡ false → p f ≡ false)
    → count_by p (take c.near_end-near.result c.split_at.result.0.now)
    + count_by p (take c.low_end-low.result c.split_at.result.1.now)
    ≡ count_by p c.args.behind.now
all c =
    let e = c.args.first.now in
    let r = c.requires in
    let s = c.split_at in
    scanned e c.args.behind.now s.result.0.now s.result.1.now c.level_end.result c.near_end-near.result
    c.low_end-low.result (record {
      first = r.first;
      boxed = r.boxed;
      front = s.ensures.front;
      back = s.ensures.back;
      x_past = past x_of e.greatest.x s.result.0.now c.near_end-near.result r.first.greatest.x
          c.near_end-near.ensures.past;
      z_past = past z_of e.greatest.z s.result.1.now c.low_end-low.result r.first.greatest.z
          c.low_end-low.ensures.past;
    })

pub near_end-near-requires : goal.near_end-near-requires
near_end-near-requires c =
    let e = c.args.first.now in
    let xs = c.args.behind.now in
    subst (RisesBy x_of) (sym c.split_at.ensures.front)
    (level_rises e xs c.level_end.result c.requires.behind c.requires.swept c.level_end.ensures.within
    (λ k d l. at_height _ e.least.z c.requires.first.least.z (c.level_end.ensures.level k d l)))

pub low_end-low-requires : goal.low_end-low-requires
low_end-low-requires c = subst (RisesBy z_of) (sym c.split_at.ensures.back)
    (higher_rises c.args.behind.now c.level_end.result c.requires.swept)

pub count_crossed-own-requires-clause-others : goal.count_crossed-own-requires-clause-others
count_crossed-own-requires-clause-others c =
    All-take IsBoxed c.near_end-near.result c.split_at.result.0.now
    (subst (All IsBoxed) (sym c.split_at.ensures.front)
    (All-take IsBoxed c.level_end.result c.args.behind.now c.requires.boxed))

pub count_crossed-own-requires-clause-places : goal.count_crossed-own-requires-clause-places
count_crossed-own-requires-clause-places c =
    let P : Boxed → Type 0 = λ f. f.place < length c.args.counts.now in
    All-take P c.near_end-near.result c.split_at.result.0.now
    (subst (All P) (sym c.split_at.ensures.front)
    (All-take P c.level_end.result c.args.behind.now c.requires.places))

pub count_crossed-requires-clause-others : goal.count_crossed-requires-clause-others
count_crossed-requires-clause-others c =
    All-take IsBoxed c.low_end-low.result c.split_at.result.1.now
    (subst (All IsBoxed) (sym c.split_at.ensures.back)
    (All-drop IsBoxed c.level_end.result c.args.behind.now c.requires.boxed))

pub count_crossed-requires-clause-places : goal.count_crossed-requires-clause-places
count_crossed-requires-clause-places c =
    let P : Boxed → Type 0 = λ f. f.place < length c.count_crossed-own.new.counts in
    let same : length c.args.counts.now ≡ length c.count_crossed-own.new.counts = omega arith in
    All-take P c.low_end-low.result c.split_at.result.1.now
    (subst (All P) (sym c.split_at.ensures.back)
    (All-drop P c.level_end.result c.args.behind.now
    (subst (λ (n : ℕ). All (λ (f : Boxed). f.place < n) c.args.behind.now) same c.requires.places)))

pub count_crossed-requires-clause-room : goal.count_crossed-requires-clause-room
count_crossed-requires-clause-room c = λ i.
    let both = all (goal.at.count_crossed-requires-clause-room c).After-low_end-low (crosses_at c.args.first.now i)
    (only_crossed c.args.first.now i) in
    omega (arith, both, c.requires.room i, c.count_crossed-own.ensures.counts i)

pub overflow_add-result : goal.overflow_add-result
overflow_add-result c =
    let e = c.args.first.now in
    omega (
      arith,
      all (goal.at.overflow_add-result c).After-low_end-low (crosses e) (λ f h. h),
      count_by-le-length (crosses e) c.args.behind.now,
      c.count_crossed-own.ensures.own,
      c.count_crossed.ensures.own,
    )

pub returns-clause-own : goal.returns-clause-own
returns-clause-own c =
    omega (
      arith,
      all (goal.at.returns-clause-own c).After-low_end-low (crosses c.args.first.now) (λ f h. h),
      c.count_crossed-own.ensures.own,
      c.count_crossed.ensures.own,
    )

pub returns-clause-counts : goal.returns-clause-counts
returns-clause-counts c = λ i.
    let both = all (goal.at.returns-clause-counts c).After-low_end-low (crosses_at c.args.first.now i)
    (only_crossed c.args.first.now i) in
    omega (arith, both, c.count_crossed-own.ensures.counts i, c.count_crossed.ensures.counts i)
