use Rattle.std.proofs.Common.{◌≡◌, ◌∙◌, ◌∷◌, ◌++◌, [], ℕ, true, List, Bool, length, take, drop, sym, ap, subst, arith}
use Rattle.std.proofs.Math.Seq.{take-append_seam}
use Rattle.correspondence.specs.Places.{has}
use Rattle.correspondence.specs.Graphs.{table_of, adjacent, unmarked_count, Visits}
use Rattle.correspondence.proofs.Visiting.{Reaching, reaching_begin, reaching_step, reaching_end, has_back, one_has, mark_below}
use Rattle.std.proofs.lemmas.List.{nil_from_length, length-append}
use Rattle.correspondence.proofs.Adjacent.{adjacent_bound}
use Rattle.correspondence.proofs.graph.reached.Goals as goal

pub loop-node-init : goal.loop-node-init
loop-node-init c = reaching_begin (adjacent (table_of c.args.rows.now)) c.args.root c.args.size
    c.in_ok-marks.marks.items c.push.new.self.items (c.in_ok-marks.ensures.items_if_clones_equal (λ y e. e))
    c.requires.root (c.in_ok-push.ensures.items
    ∙ ap (λ (l : List ℕ). l ++ c.args.root ∷ []) c.new-waiting.ensures.items)

pub visit-requires-clause-columns : goal.visit-requires-clause-columns
visit-requires-clause-columns c k d l = c.requires.columns k d l
    ∙ sym (ap length c.deref_mut.ensures.value ∙ c.loop-node.invariant.size)

pub visit-requires-clause-from : goal.visit-requires-clause-from
visit-requires-clause-from c =
    let node = c.in-Some.node in
    let here : has node c.loop-node.waiting.items ≡ true = ap (has node) c.in-Some.ensures.items
    ∙ has_back node c.pop.new.self.items (node ∷ []) (one_has node) in
    let below = mark_below c.loop-node.marks.items node (c.loop-node.invariant.marked node here) in
    omega (arith, below, ap length c.deref_mut.ensures.value)

pub loop-node-smaller : goal.loop-node-smaller
loop-node-smaller c =
    let R = adjacent (table_of c.args.rows.now) in
    let node = c.in-Some.node in
    let visits = subst (λ (m : List Bool).
    Visits R node (length m) m c.visit.new.marks c.pop.new.self.items c.visit.new.waiting.items)
    c.deref_mut.ensures.value c.in_ok-visit.ensures in
    let size : length c.visit.new.marks ≡ c.loop-node.marks.len = c.in_ok-visit.ensures.size
    ∙ c.deref_mut.ensures.len in
    let same = sym (ap (λ (k : ℕ). take k
    (c.visit.new.marks ++ drop (length c.visit.new.marks) c.loop-node.marks.items)) (sym size)
    ∙ take-append_seam c.visit.new.marks (drop (length c.visit.new.marks) c.loop-node.marks.items)) in
    omega (
      arith,
      visits.less,
      ap unmarked_count same,
      ap length c.in-Some.ensures.items,
      length-append {A = ℕ} c.pop.new.self.items (node ∷ []),
    )

pub loop-node-preserved : goal.loop-node-preserved
loop-node-preserved c =
    let R = adjacent (table_of c.args.rows.now) in
    let node = c.in-Some.node in
    let visits = subst (λ (m : List Bool).
    Visits R node (length m) m c.visit.new.marks c.pop.new.self.items c.visit.new.waiting.items)
    c.deref_mut.ensures.value c.in_ok-visit.ensures in
    let size : length c.visit.new.marks ≡ c.loop-node.marks.len = c.in_ok-visit.ensures.size
    ∙ c.deref_mut.ensures.len in
    let same = sym (ap (λ (k : ℕ). take k
    (c.visit.new.marks ++ drop (length c.visit.new.marks) c.loop-node.marks.items)) (sym size)
    ∙ take-append_seam c.visit.new.marks (drop (length c.visit.new.marks) c.loop-node.marks.items)) in
    subst (λ (m : List Bool). Reaching R c.args.root c.args.size m c.visit.new.waiting.items) same
    (reaching_step R c.args.root c.args.size node c.loop-node.marks.items c.visit.new.marks c.loop-node.waiting.items
    c.pop.new.self.items c.visit.new.waiting.items c.loop-node.invariant c.in-Some.ensures.items visits)

pub returns : goal.returns
returns c =
    let R = adjacent (table_of c.args.rows.now) in
    let none : c.loop-node.waiting.items ≡ [] =
    nil_from_length c.loop-node.waiting.items
    (omega (arith, c.loop-node.waiting.ok.0, c.in_default.ensures.cases.0)) in
    reaching_end R c.args.root c.args.size c.loop-node.marks.items
    (adjacent_bound c.args.rows.now c.args.size c.requires.columns)
    (subst (Reaching R c.args.root c.args.size c.loop-node.marks.items) none c.loop-node.invariant)
