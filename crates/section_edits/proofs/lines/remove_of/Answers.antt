use Rattle.std.proofs.Common.{ℕ, List, [], ◌∷◌, pos, subst, arith}
use Rattle.text_io.specs.Text.{words}
use Rattle.text_io.specs.WordLists.{text, number, Matches}
use Rattle.text_io.proofs.WordLaws.{count_none}
use Rattle.section_edits.proofs.Wording.{remove_only}
use Rattle.section_edits.proofs.lines.remove_of.Goals as goal

pub returns-in_default-split_count-clause-reading : goal.returns-in_default-split_count-clause-reading
returns-in_default-split_count-clause-reading c =
    remove_only (words c.args.line.now) (λ name i m n k.
    let h = subst (λ (ws : List (List ℕ)). Matches ws (text name ∷ number (pos i) ∷ [])) c.in-Some.ensures m in
    count_none (words c.in-Some.line.now) 0 4294967295 i [] c.in_default-split_count.ensures (omega arith)
    (omega (arith, k)) h.1)
