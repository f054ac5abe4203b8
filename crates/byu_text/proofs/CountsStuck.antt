-- If no line of counts or of sizes of a valid mesh can follow, the fault is there.
use Rattle.std.proofs.Common.{◌≡◌, ℕ, suc, ◌+◌, ◌-◌, ◌<◌, ◌≤◌, List, [], ◌∷◌, ◌++◌, length, map, refl, sym, ap, ◌∙◌, arith, append_assoc, subst, All, add-one}
use Rattle.std.specs.Prelude.{sum}
use Rattle.std.specs.List.{concat, AllByRecursion}
use Rattle.std.proofs.lemmas.List.{length-append, append-nil}
use Rattle.std.proofs.lemmas.List.Sums.{sum_by-cons, sum_by-append}
use Rattle.std.proofs.lemmas.List.Elements.{recursion_from_All, All-from_recursion}
use Rattle.fku_types.proofs.ListLaws.{all_front, all_rest}
use Rattle.triangle_meshes.specs.Meshes.{Surface}
use Rattle.byu_text.specs.Byu.{polygon_line}
use Rattle.byu_text.specs.Reading.{HasMeshFault}
use Rattle.byu_text.specs.Pieces.{Counts, size_line, mesh_head_line, AreMeshCounts, size_lines, point_lines, AreSizes}
use Rattle.byu_text.specs.Stages.{IsSize, NoneOf}
use Rattle.byu_text.proofs.Written.{polygons_of, head_of, sizes_of, pieces_of, length-size_lines, line_count, length-le-sum}
use Rattle.byu_text.proofs.Fronts.{StartsAs, starts_whole, fault_from}
use Rattle.byu_text.proofs.Completed.{starts_none, starts_sizes, size_lines-append}
use Rattle.byu_text.proofs.Widths.{sizes_same, parted, next_line}
use Rattle.byu_text.proofs.BehindHead.{body_of, Behind, behind_head, some_line, unread_by}

-- ---- the counts

pub head_fault : (text : List ℕ) → NoneOf AreMeshCounts mesh_head_line text → HasMeshFault text 1
head_fault text excluded =
    let t = starts_none text in
    let none : (s : Surface) → StartsAs text (0 + 1) s → ⊥ =
    λ s u. excluded (head_of s) u.more (pieces_of s u.mesh).head
    (u.is ∙ ap (λ (l : List ℕ). l ++ u.more) (append-nil (mesh_head_line (head_of s)))) in
    fault_from text 0 t.0 t.1 none (λ s r. none s (starts_whole text 1 s (some_line s) r))

-- ---- the sizes

no_sum : (xs : List ℕ) → length xs ≡ 0 → sum xs ≡ 0
no_sum [] e = refl
no_sum (n ∷ ns) e = absurd (omega (arith, e))

size_stuck : (h : Counts) (sizes rest : List ℕ) (s : Surface) → AreMeshCounts h → AreSizes h sizes
    → length sizes < h.parts →
    NoneOf (IsSize (h.polygons - sum sizes) (h.parts - length sizes - 1)) (size_line (1 + sum sizes)) rest
    → Behind h (concat (size_lines 1 sizes) ++ rest) (suc (length sizes)) s → ⊥
size_stuck h sizes rest s i a l excluded b =
    let P : ℕ → Type 0 = λ n. 1 ≤ n in
    let p = pieces_of s b.mesh in
    let count : length (sizes_of s) ≡ h.parts = p.parts ∙ ap (λ (g : Counts). g.parts) b.head in
    let total : sum (sizes_of s) ≡ h.polygons = p.sum ∙ ap (λ (g : Counts). g.polygons) b.head in
    let few = i.few_polygons in
    let r = parted (sizes_of s) (length sizes) (omega (arith, count)) in
    let every : AllByRecursion P (r.front ++ (r.item ∷ r.back)) =
    subst (AllByRecursion P) r.is (recursion_from_All P (sizes_of s) p.some) in
    let front_some : All P r.front = All-from_recursion P r.front (all_front P r.front (r.item ∷ r.back) every) in
    let later = all_rest P r.front (r.item ∷ r.back) every in
    let sums : sum (sizes_of s) ≡ sum r.front + (r.item + sum r.back) = ap sum r.is
    ∙ sum_by-append (λ (x : ℕ). x) r.front (r.item ∷ r.back)
    ∙ ap (λ (n : ℕ). sum r.front + n) (sum_by-cons (λ (x : ℕ). x) r.item r.back) in
    let long : length (sizes_of s) ≡ length r.front + suc (length r.back) = ap length r.is
    ∙ length-append r.front (r.item ∷ r.back) in
    let line : List ℕ = size_line (1 + sum r.front) r.item in
    let others : List (List ℕ) = point_lines s.vertices ++ map polygon_line (polygons_of s) in
    let after : List (List ℕ) = size_lines (1 + sum r.front + r.item) r.back ++ others in
    let lines : body_of s ≡ size_lines 1 r.front ++ (line ∷ after) =
    ap (λ (x : List ℕ). size_lines 1 x ++ others) r.is
    ∙ ap (λ (x : List (List ℕ)). x ++ others) (size_lines-append 1 r.front (r.item ∷ r.back))
    ∙ append_assoc (size_lines 1 r.front) (line ∷ size_lines (1 + sum r.front + r.item) r.back) others in
    let next = next_line (body_of s) (size_lines 1 r.front) line after (length sizes) lines
    (length-size_lines 1 r.front ∙ r.long) in
    let same = sizes_same 1 sizes r.front rest (line ++ b.more) (sym r.long) a.some front_some
    (omega (arith, a.room, a.fit)) (omega (arith, total, sums))
    (b.is ∙ ap (λ (x : List ℕ). x ++ b.more) next ∙ append_assoc (concat (size_lines 1 r.front)) line b.more) in
    let front : sum r.front ≡ sum sizes = ap sum (sym same.0) in
    excluded r.item b.more (record {
      some = later.0;
      room = omega (
        arith,
        total,
        sums,
        long,
        count,
        r.long,
        front,
        length-le-sum r.back (All-from_recursion P r.back later.1),
      );
      all = λ e. (let none : sum r.back ≡ 0 = no_sum r.back (omega (arith, long, count, r.long, e)) in
          omega (arith, total, sums, front));
    }) (same.1 ∙ ap (λ (n : ℕ). size_line (1 + n) r.item ++ b.more) front)

pub size_fault : (text : List ℕ) (h : Counts) (sizes rest : List ℕ) → AreMeshCounts h → AreSizes h sizes
    → length sizes < h.parts → text ≡ mesh_head_line h ++ (concat (size_lines 1 sizes) ++ rest) →
    NoneOf (IsSize (h.polygons - sum sizes) (h.parts - length sizes - 1)) (size_line (1 + sum sizes)) rest
    → HasMeshFault text (length sizes + 2)
unfolding line_count
size_fault text h sizes rest i a l e excluded =
    let t = starts_sizes text h sizes rest i a e in
    let n : ℕ = suc (length sizes) in
    let none : (s : Surface) → StartsAs text (n + 1) s → ⊥ =
    λ s u. size_stuck h sizes rest s i a l excluded
    (behind_head text h (concat (size_lines 1 sizes) ++ rest) n s i e
    (subst (λ (k : ℕ). StartsAs text k s) (add-one n) u)) in
    subst (HasMeshFault text) (let k : n + 1 ≡ length sizes + 2 = omega arith in k)
    (fault_from text n t.0 t.1 none (unread_by text h (concat (size_lines 1 sizes) ++ rest) n i e (omega arith)
    none))
