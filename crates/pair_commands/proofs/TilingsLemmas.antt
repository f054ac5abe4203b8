-- The text of one more pair, and of one more object.
use Rattle.std.proofs.Common.{◌≡◌, ℕ, ◌+◌, ◌<◌, List, ◌++◌, length, drop, get_or, sym, ap, ap₂, ◌∙◌, append_assoc, arith}
use Rattle.std.proofs.lemmas.List.{drop-drop}
use Rattle.fku_types.proofs.ListLaws.{drop_next}
use Rattle.section_core.specs.declared.parts.Version.{Version}
use Rattle.section_core.specs.Canonical.{name_text as object_text}
use Rattle.section_core.specs.Parts.{ObjectParts, SectionParts}
use Rattle.row_paths.specs.Solutions.{Solution}
use Rattle.section_pairs.specs.Pairs.{PairParts}
use Rattle.pair_commands.specs.Tilings.{objects_text, pair_text, pairs_text}

pub pair_more : (sections : List SectionParts) (k : ℕ) (ps : List PairParts) (ss : List Solution) (i : ℕ)
    (p : PairParts) (s : Solution) (old new whole : List ℕ) → i < length ps → i < length ss
    → p ≡ get_or ps i p → s ≡ get_or ss i s
    → old ++ pairs_text sections (k + i) (drop i ps) (drop i ss) ≡ whole → new ≡ old ++ pair_text sections (k + i) p s
    → new ++ pairs_text sections (k + (i + 1)) (drop (i + 1) ps) (drop (i + 1) ss) ≡ whole
pair_more sections k ps ss i p s old new whole l m ep es before more =
    let rest = pairs_text sections (k + i + 1) (drop (i + 1) ps) (drop (i + 1) ss) in
    let number : k + (i + 1) ≡ k + i + 1 = omega arith in
    ap (λ (n : ℕ). new ++ pairs_text sections n (drop (i + 1) ps) (drop (i + 1) ss)) number
    ∙ ap (λ (t : List ℕ). t ++ rest) more
    ∙ append_assoc old (pair_text sections (k + i) p s) rest
    ∙ ap (λ (t : List ℕ). old ++ t) (sym
    (ap₂ (λ (x : List PairParts) (y : List Solution). pairs_text sections (k + i) x y) (drop_next ps i p l ep)
    (drop_next ss i s m es)))
    ∙ before

pub object_more : (v : Version) (objects : List ObjectParts) (pss : List (List PairParts)) (xs : List Solution)
    (i count : ℕ) (o : ObjectParts) (ps : List PairParts) (old named new whole : List ℕ)
    → i < length objects → i < length pss → o ≡ get_or objects i o → ps ≡ get_or pss i ps
    → old ++ objects_text v (count + 1) (drop i objects) (drop i pss) (drop count xs) ≡ whole
    → named ≡ old ++ object_text v o.name → new ≡ named ++ pairs_text o.sections (count + 1) ps (drop count xs)
    → new ++ objects_text v (count + length ps + 1) (drop (i + 1) objects) (drop (i + 1) pss)
    (drop (count + length ps) xs) ≡ whole
object_more v objects pss xs i count o ps old named new whole l m eo ep before name pairs =
    let others = drop (i + 1) objects in
    let lists = drop (i + 1) pss in
    let mine = pairs_text o.sections (count + 1) ps (drop count xs) in
    let number : count + length ps + 1 ≡ count + 1 + length ps = omega arith in
    let rest = objects_text v (count + 1 + length ps) others lists (drop (length ps) (drop count xs)) in
    ap₂ (λ (n : ℕ) (ys : List Solution). new ++ objects_text v n others lists ys) number
    (sym (drop-drop (length ps) count xs))
    ∙ ap (λ (t : List ℕ). t ++ rest) (pairs ∙ ap (λ (t : List ℕ). t ++ mine) name)
    ∙ append_assoc (old ++ object_text v o.name) mine rest
    ∙ append_assoc old (object_text v o.name) (mine ++ rest)
    ∙ ap (λ (t : List ℕ). old ++ t) (sym
    (ap₂ (λ (x : List ObjectParts) (y : List (List PairParts)). objects_text v (count + 1) x y (drop count xs))
    (drop_next objects i o l eo) (drop_next pss i ps m ep)))
    ∙ before
