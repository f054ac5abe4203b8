use Rattle.std.proofs.Common.{ℕ, List, ◌∷◌, pos, length, ap, ◌∙◌, subst, arith}
use Rattle.std.specs.List.{flat_map}
use Rattle.text_io.specs.Text.{words}
use Rattle.text_io.specs.WordLists.{text, number, Matches}
use Rattle.text_io.proofs.WordLaws.{count_none}
use Rattle.section_edits.specs.Lines.{spot_words}
use Rattle.section_edits.proofs.Wording.{add_only}
use Rattle.section_edits.proofs.lines.add_of.Goals as goal

pub returns-in_default-split_count : goal.returns-in_default-split_count
returns-in_default-split_count c =
    let two = c.in-Some-split_word in
    add_only (words c.args.line.now) (λ z name ps m w1 w2 w3 w4.
    let places = flat_map spot_words ps in
    let h = subst (λ (ws : List (List ℕ)). Matches ws (number z ∷ text name ∷ number (pos (length ps)) ∷ places))
    (c.in-Some.ensures ∙ ap (λ (ws : List (List ℕ)). c.in-Some.z.now ∷ ws) two.ensures) m in
    count_none (words two.line.now) 0 4294967295 (length ps) places c.in_default-split_count.ensures (omega arith)
    (omega (arith, w3)) h.1.1)
