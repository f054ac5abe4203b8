use Rattle.std.proofs.Common.{◌≡◌, ◌∙◌, ◌+◌, ◌<◌, ℕ, List, Bool, true, false, length, map, ap, sym, subst, refl, arith, Vec, All, get_or, [], ◌∷◌}
use Rattle.std.specs.Global.{Global}
use Rattle.std.specs.List.{list_any}
use Rattle.std.proofs.lemmas.List.{length-map, map-append, nil_from_length}
use Rattle.correspondence.specs.Places.{has}
use Rattle.correspondence.specs.Components.{Members, IsComponent}
use Rattle.correspondence.specs.Graphs.{table_of, cell_links, AreBegun}
use Rattle.correspondence.specs.Gaps.{members_of}
use Rattle.correspondence.specs.declared.gaps.Component.{Component}
use Rattle.correspondence.proofs.Adjacent.{each_row}
use Rattle.correspondence.proofs.BegunComponents.{begun_pass, begun_push}
use Rattle.correspondence.proofs.Gathering.{gathered_component, none_above}
use Rattle.fku_types.proofs.ListLaws.{any_map}
use Rattle.correspondence.proofs.gaps.add_component.Goals as goal

-- the result of the test of all that was found
asked : (root : ℕ) (now : List Component) (items : List Component) (r b : Bool)
    → r ≡ list_any (λ c. has root c.below.items) now → now ≡ items → r ≡ b
    → list_any (λ c. has root c.below) (map members_of items) ≡ b
asked root now items r b e f g = any_map members_of (λ (c : Members). has root c.below) items
    ∙ sym (ap (list_any (λ (c : Component). has root c.below.items)) f) ∙ sym e ∙ g

widths : (rows : List (Vec Bool Global)) (m : ℕ) → All (λ v. length v.items ≡ m) rows → (i : ℕ)
    → i < length (table_of rows) → length (get_or (table_of rows) i []) ≡ m
widths rows m h i l = each_row (λ r. length r ≡ m) rows i h
    (omega (arith, length-map rows (λ (v : Vec Bool Global). v.items)))

pub returns-then-belongs : goal.returns-then-belongs
returns-then-belongs c =
    let rows = c.args.rows.now in
    let here = asked c.args.root c.deref.result.now c.args.found.now.items c.belongs.result true c.belongs.ensures
    c.deref.ensures.value c.if-belongs.true in
    begun_pass (cell_links (table_of rows)) (length rows) c.args.columns c.args.root
    (map members_of c.args.found.now.items) c.requires.found (λ j h. here)

pub returns-then-len-eq0 : goal.returns-then-len-eq0
returns-then-len-eq0 c =
    let rows = c.args.rows.now in
    let found = c.in_ok-component.component in
    let n = length-map rows (λ (v : Vec Bool Global). v.items) in
    let none : found.above.items ≡ [] =
    nil_from_length found.above.items (omega (arith, found.above.ok.0, c.len.ensures, c.if-len-eq0.true)) in
    begun_pass (cell_links (table_of rows)) (length rows) c.args.columns c.args.root
    (map members_of c.args.found.now.items) c.requires.found
    (λ j h. absurd (none_above (table_of rows) c.args.columns c.args.root (members_of found)
    (widths rows c.args.columns c.requires.columns) (omega (arith, n, c.requires.root)) c.in_ok-component.ensures
    none j h))

pub returns : goal.returns
returns c =
    let rows = c.args.rows.now in
    let table = table_of rows in
    let found = c.in_ok-component.component in
    let n = length-map rows (λ (v : Vec Bool Global). v.items) in
    let root : c.args.root < length table = omega (arith, n, c.requires.root) in
    let some : 0 < length found.above.items = omega (arith, found.above.ok.0, c.len.ensures, c.if-len-eq0.false) in
    let new = asked c.args.root c.deref.result.now c.args.found.now.items c.belongs.result false c.belongs.ensures
    c.deref.ensures.value c.if-belongs.false in
    let component = subst (λ (k : ℕ). IsComponent (cell_links table) k c.args.columns (members_of found)) n
    (gathered_component table c.args.columns c.args.root (members_of found)
    (widths rows c.args.columns c.requires.columns) root c.in_ok-component.ensures some) in
    let own = (c.in_ok-component.ensures.below c.args.root).1 (root, ([], refl)) in
    subst (AreBegun (cell_links table) (length rows) c.args.columns (c.args.root + 1))
    (sym (ap (map members_of) c.in_ok-push.ensures.items
    ∙ map-append members_of c.args.found.now.items (found ∷ [])))
    (begun_push (cell_links table) (length rows) c.args.columns c.args.root (map members_of c.args.found.now.items)
    (members_of found) c.requires.found new component own)
