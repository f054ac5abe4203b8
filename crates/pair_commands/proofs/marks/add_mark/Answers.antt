use Rattle.std.proofs.Common.{◌≡◌, ◌-◌, ◌++◌, ◌∷◌, inr, List, [], Vec, map, take, length, get_or, sym, subst, ap, ◌∙◌, arith}
use Rattle.std.specs.Global.{Global}
use Rattle.std.proofs.lemmas.List.{get_or_default, length-map, length-set}
use Rattle.std.proofs.lemmas.Result.{IfErr-weaker, on_ok_weaker as on_ok}
use Rattle.strip_graph.specs.Strips.{rows, cols}
use Rattle.landmarks.specs.declared.marks.Mark.{Mark}
use Rattle.landmarks.specs.Faults.{AreGoodBefore}
use Rattle.section_pairs.specs.SectionFaults.{OrNoMemory}
use Rattle.section_pairs.specs.Pairs.{pair_parts}
use Rattle.pair_commands.specs.declared.mark_lines.PairMark.{PairMark}
use Rattle.pair_commands.specs.Landmarks.{IsMarkFault}
use Rattle.pair_commands.specs.MarkReading.{lists_in, IsCauseOf}
use Rattle.pair_commands.proofs.MarkGroups.{IsReady, added_by, group_count, cause_here, grouped_more, last_ready, no_pair_here}
use Rattle.pair_commands.proofs.marks.add_mark.Goals as goal

abbrev no_mark : PairMark
no_mark = record { pair = 0; mark = record { row = 0; col = 0 } }

pub returns-then-pairs-number-clause-fault : goal.returns-then-pairs-number-clause-fault
returns-then-pairs-number-clause-fault c =
    let xs = c.args.marks.now in
    let i = c.args.place in
    let d : PairMark = record { pair = 0; mark = record { row = 0; col = 0 } } in
    let x = get_or xs i d in
    inr (no_pair_here (map pair_parts c.args.pairs.now) xs i x c.requires.place
    (get_or_default xs i d x c.requires.place) c.requires.grouped.good
    (omega (arith, length-map c.args.pairs.now pair_parts, c.if-pairs-number.true)))

pub push_mark-requires : goal.push_mark-requires
push_mark-requires c =
    let xs = c.args.marks.now in
    let d : PairMark = record { pair = 0; mark = record { row = 0; col = 0 } } in
    let gs = c.args.groups.now.items in
    omega (
      arith,
      length-map gs (λ (v : Vec Mark Global). v.items),
      group_count (map pair_parts c.args.pairs.now) (take c.args.place xs) (lists_in gs) c.requires.grouped,
      length-map c.args.pairs.now pair_parts,
      c.if-pairs-number.false,
      c.requires.numbers c.args.place d c.requires.place,
    )

pub marks_at-requires : goal.marks_at-requires
marks_at-requires c =
    let xs = c.args.marks.now in
    let ps = map pair_parts c.args.pairs.now in
    let x = get_or xs c.args.place no_mark in
    let old = lists_in c.args.groups.now.items in
    let new = c.push_mark.new.groups.items in
    let a = added_by c.args.pairs.now xs c.args.place c.index-pairs-number.result old (lists_in new) c.requires.place
    c.requires.few c.requires.numbers c.if-pairs-number.false c.requires.grouped c.in_ok-push_mark.ensures in
    omega (
      arith,
      a.there,
      ap length a.put,
      length-set old (x.pair - 1) (get_or old (x.pair - 1) [] ++ x.mark ∷ []),
      group_count ps (take c.args.place xs) old c.requires.grouped,
      length-map new (λ (v : Vec Mark Global). v.items),
      ap length c.deref.ensures.value,
    )

pub test_last-requires : goal.test_last-requires
test_last-requires c =
    let xs = c.args.marks.now in
    let ps = map pair_parts c.args.pairs.now in
    let x = get_or xs c.args.place no_mark in
    let at = x.pair - 1 in
    let p = pair_parts (get_or c.args.pairs.now at c.index-pairs-number.result) in
    let old = lists_in c.args.groups.now.items in
    let new = lists_in c.push_mark.new.groups.items in
    let a = added_by c.args.pairs.now xs c.args.place c.index-pairs-number.result old new c.requires.place
    c.requires.few c.requires.numbers c.if-pairs-number.false c.requires.grouped c.in_ok-push_mark.ensures in
    let group : get_or new at [] ≡ c.marks_at.result.now =
    sym (c.marks_at.ensures ∙ ap (λ (vs : List (Vec Mark Global)). get_or (lists_in vs) at [])
    c.deref.ensures.value) in
    let r = subst (IsReady p) group (last_ready ps xs c.args.place x at p old new a) in
    record { some = r.0; few = r.1; earlier = r.2 }

pub returns : goal.returns
returns c =
    let xs = c.args.marks.now in
    let ps = map pair_parts c.args.pairs.now in
    let i = c.args.place in
    let x = get_or xs i no_mark in
    let at = x.pair - 1 in
    let p = pair_parts (get_or c.args.pairs.now at c.index-pairs-number.result) in
    let old = lists_in c.args.groups.now.items in
    let new = lists_in c.push_mark.new.groups.items in
    let a = added_by c.args.pairs.now xs i c.index-pairs-number.result old new c.requires.place c.requires.few
    c.requires.numbers c.if-pairs-number.false c.requires.grouped c.in_ok-push_mark.ensures in
    let group : c.marks_at.result.now ≡ get_or new at [] = c.marks_at.ensures
    ∙ ap (λ (vs : List (Vec Mark Global)). get_or (lists_in vs) at []) c.deref.ensures.value in
    let m = rows p.strip in
    let n = cols p.strip in
    record {
      grouped = on_ok c.test_last.result
          (λ good. grouped_more ps xs i x at p old new a
          (subst (λ (ms : List Mark). AreGoodBefore m n ms (length ms)) group good)) c.test_last.ensures.good;
      fault = IfErr-weaker c.test_last.result (IsCauseOf m n c.marks_at.result.now x) (OrNoMemory (IsMarkFault ps xs))
          (λ f k. inr (cause_here ps xs i x at p old new f a
          (subst (λ (ms : List Mark). IsCauseOf m n ms x f) group k))) c.test_last.ensures.fault;
    }
