use Rattle.std.proofs.Common.{ℕ, List, [], ◌∷◌, subst, arith}
use Rattle.text_io.specs.Text.{words}
use Rattle.text_io.specs.WordLists.{number, Matches}
use Rattle.text_io.proofs.WordLaws.{count_none}
use Rattle.section_edits.specs.Reading.{vertex_words}
use Rattle.section_edits.proofs.lines.vertex_of.Goals as goal

pub returns-in_default-split_count : goal.returns-in_default-split_count
returns-in_default-split_count c name i x y m n k p q =
    let h = subst (λ (ws : List (List ℕ)). Matches ws (vertex_words name i x y)) c.in-Some.ensures m in
    count_none (words c.in-Some.line.now) 0 4294967295 i (number x ∷ number y ∷ []) c.in_default-split_count.ensures
    (omega arith) (omega (arith, k)) h.1
