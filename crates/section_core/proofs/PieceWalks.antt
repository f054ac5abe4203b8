-- The result of a walk along pieces: the facts of lawful pieces, the first piece at fault, or `NoMemory`.
use Rattle.std.proofs.Common.{◌≡◌, ℕ, Bool, true, List, [], ◌∷◌, ◌++◌, map, ℤ, Option, None, Some, Result, Ok, Err, refl, ap, sym, subst, arith}
use Rattle.std.specs.Prelude.{IfErr, OnOk}
use Rattle.std.proofs.lemmas.Bool.{false≢true}
use Rattle.fku_types.specs.declared.fault.Fault.{Fault}
use Rattle.fku_types.specs.declared.fault.Fault.TheVariants.{NoMemory}
use Rattle.section_core.specs.declared.tally.Tally.{Tally}
use Rattle.section_core.specs.Laws.{Facts, Law, in_range, law_order, KeepsAll, BreaksFirst}
use Rattle.section_core.specs.Reading.{broken, fault_at}
use Rattle.section_core.specs.Machine.{Item, contour}
use Rattle.section_core.specs.Steps.{after, first_broken}
use Rattle.section_core.specs.Made.{Piece, whole, askew, nothing, facts_after, PieceBreaks, HasPieceFault, ArePiecesLawful, IsPieceFault, IsMakeMemory, walked, walk, kept_by, keeps_name, AnswersWalk, Walks}
use Rattle.section_core.proofs.Verdicts.{Verdict, verdict}
use Rattle.section_core.proofs.Walking.{walked_ok, walks_ok, memory_asked}

none_breaks : (f : Facts) (item : Item) → KeepsAll law_order f → first_broken f item ≡ None
    → KeepsAll law_order (after f item)
none_breaks f item k e = subst (λ (o : Option Law). Verdict (after f item) o) e (verdict f item k)

some_breaks : (f : Facts) (item : Item) (law : Law) → KeepsAll law_order f → first_broken f item ≡ Some law
    → BreaksFirst law (after f item)
some_breaks f item law k e = subst (λ (o : Option Law). Verdict (after f item) o) e (verdict f item k)

record WalkedOk (f : Facts) (ps : List Piece) : Type 0 where
  items : List Item
  split : ps ≡ map whole items
  lawful : KeepsAll law_order (facts_after f items)

walk_ok : (f : Facts) (ps : List Piece) (g : Facts) → walk f ps ≡ Ok g → KeepsAll law_order f → WalkedOk f ps
walk_ok f [] g e k = record { items = []; split = refl; lawful = k }
walk_ok f (askew ∷ ps) g e k = absurd (cc)
walk_ok f (whole item ∷ ps) g e k =
    let w = walked_ok (first_broken f item) (walk (after f item) ps) g e in
    let more = walk_ok (after f item) ps g w.1 (none_breaks f item k w.0) in
    record {
      items = item ∷ more.items;
      split = ap (λ (qs : List Piece). whole item ∷ qs) more.split;
      lawful =
          more.lawful;
    }

record WalkedErr (f : Facts) (ps : List Piece) (law : Law) : Type 0 where
  before : List Item
  piece : Piece
  rest : List Piece
  split : ps ≡ map whole before ++ piece ∷ rest
  lawful_before : KeepsAll law_order (facts_after f before)
  breaks : PieceBreaks (facts_after f before) piece law

abbrev law_of : Result Facts Law → Law
law_of (Ok f) = in_range
law_of (Err law) = law

walk_err_on : (f : Facts) (item : Item) (ps : List Piece) (law : Law) (o : Option Law)
    → ((b : first_broken f item ≡ None) → walk (after f item) ps ≡ Err law → WalkedErr (after f item) ps law)
    → first_broken f item ≡ o → walked o (walk (after f item) ps) ≡ Err law → KeepsAll law_order f
    → WalkedErr f (whole item ∷ ps) law
walk_err_on f item ps law None rec b e k =
    let more = rec b e in
    record {
      before = item ∷ more.before;
      piece = more.piece;
      rest = more.rest;
      split =
          ap (λ (qs : List Piece). whole item ∷ qs) more.split;
      lawful_before = more.lawful_before;
      breaks = more.breaks;
    }
walk_err_on f item ps law (Some l) rec b e k =
    record {
      before = [];
      piece = whole item;
      rest = ps;
      split = refl;
      lawful_before = k;
      breaks =
          subst (λ (m : Law). BreaksFirst m (after f item)) (ap law_of e) (some_breaks f item l k b);
    }

walk_err : (f : Facts) (ps : List Piece) (law : Law) → walk f ps ≡ Err law → KeepsAll law_order f → WalkedErr f ps law
walk_err f [] law e k = absurd (cc)
walk_err f (askew ∷ ps) law e k = record
    { before = []; piece = askew; rest = ps; split = refl; lawful_before = k; breaks = sym (ap law_of e) }
walk_err f (whole item ∷ ps) law e k =
    walk_err_on f item ps law (first_broken f item) (λ b w. walk_err (after f item) ps law w (none_breaks f item k b))
    refl e k

pub nothing_keeps : KeepsAll law_order nothing
nothing_keeps = (
  ((tt, tt), tt, tt),
  ((tt, tt), ((tt, tt), (tt, (tt, (omega arith, (omega arith, (omega arith, (omega arith, (omega arith, tt))))))))),
)

pub pieces_ok : (ps : List Piece) (r : Result (Unit {0}) Fault) (t : Tally) → Walks nothing ps r t
    → OnOk r (ArePiecesLawful ps)
pieces_ok ps (Err fault) t h = tt
pieces_ok ps (Ok u) t h =
    let d = walks_ok (keeps_name nothing ps) (walk nothing ps) u t h in
    let k = walk_ok nothing ps d.0 d.1 nothing_keeps in
    record { items = k.items; split = k.split; lawful = k.lawful }

piece_fault : (ps : List Piece) (law : Law) (fault : Fault) → HasPieceFault ps law → fault ≡ fault_at (broken law) 0
    → IsPieceFault ps fault
piece_fault ps law NoMemory h e = tt
piece_fault ps law fault h e = (law, h, e)

pieces_err_by : (a : Bool) (ps : List Piece) (w : Result Facts Law) (r : Result (Unit {0}) Fault) (t : Tally)
    → walk nothing ps ≡ w → AnswersWalk a w r t → IfErr r (IsPieceFault ps)
pieces_err_by a ps w (Ok u) t e h = tt
pieces_err_by a ps (Ok g) (Err NoMemory) t e h = tt
pieces_err_by a ps (Err law) (Err NoMemory) t e h = tt
pieces_err_by a ps (Ok g) (Err fault) t e h = absurd h
pieces_err_by a ps (Err law) (Err fault) t e h =
    let k = walk_err nothing ps law e nothing_keeps in
    piece_fault ps law fault (record {
      before = k.before;
      piece = k.piece;
      rest = k.rest;
      split = k.split;
      lawful_before = k.lawful_before;
      breaks = k.breaks;
    }) h

pub pieces_err : (ps : List Piece) (r : Result (Unit {0}) Fault) (t : Tally) → Walks nothing ps r t
    → IfErr r (IsPieceFault ps)
pieces_err ps r t h = pieces_err_by (keeps_name nothing ps) ps (walk nothing ps) r t refl h

-- a name is stored on the way from these facts
record KeptFrom (f : Facts) (ps : List Piece) : Type 0 where
  before : List Item
  name : List ℕ
  count : ℤ
  rest : List Piece
  split : ps ≡ map whole before ++ whole (contour name count) ∷ rest
  lawful : KeepsAll law_order (after (facts_after f before) (contour name count))

kept_on : (f : Facts) (item : Item) (ps : List Piece) (o : Option Law)
    → ((b : first_broken f item ≡ None) → keeps_name (after f item) ps ≡ true → KeptFrom (after f item) ps)
    → first_broken f item ≡ o → kept_by o item (keeps_name (after f item) ps) ≡ true → KeepsAll law_order f
    → KeptFrom f (whole item ∷ ps)
kept_on f item ps (Some law) rec b e k = absurd (false≢true e)
kept_on f (contour name count) ps None rec b e k =
    record {
      before = [];
      name = name;
      count = count;
      rest = ps;
      split = refl;
      lawful =
          none_breaks f (contour name count) k b;
    }
kept_on f item ps None rec b e k =
    let more = rec b e in
    record {
      before = item ∷ more.before;
      name = more.name;
      count = more.count;
      rest = more.rest;
      split =
          ap (λ (qs : List Piece). whole item ∷ qs) more.split;
      lawful = more.lawful;
    }

kept_from : (f : Facts) (ps : List Piece) → keeps_name f ps ≡ true → KeepsAll law_order f → KeptFrom f ps
kept_from f [] e k = absurd (false≢true e)
kept_from f (askew ∷ ps) e k = absurd (false≢true e)
kept_from f (whole item ∷ ps) e k =
    kept_on f item ps (first_broken f item) (λ b w. kept_from (after f item) ps w (none_breaks f item k b)) refl e k

pub pieces_memory : (ps : List Piece) (r : Result (Unit {0}) Fault) (t : Tally) → Walks nothing ps r t
    → IfErr r (IsMakeMemory ps)
pieces_memory ps (Ok u) t h = tt
pieces_memory ps (Err fault) t h = λ e.
    let asked = memory_asked (keeps_name nothing ps) (walk nothing ps) t
    (subst (λ (f : Fault). Walks nothing ps (Err f) t) e h) in
    let k = kept_from nothing ps asked nothing_keeps in
    record { before = k.before; name = k.name; count = k.count; rest = k.rest; split = k.split; lawful = k.lawful }
