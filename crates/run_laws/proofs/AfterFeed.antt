-- The lines of a text after a line feed.
use Rattle.std.proofs.Common.{◌≡◌, ℕ, suc, ◌+◌, ◌<◌, true, false, if◌then◌else◌, List, [], ◌∷◌, ◌++◌, length, map, refl, sym, ap, ◌∙◌, arith, append_assoc, append-nil}
use Rattle.std.proofs.lemmas.List.{map-append}
use Rattle.text_io.specs.Text.{fed_lines, is_feed, is_kept, kept_from, kept_lines, lines, onto_first, without_return, words}
use Rattle.text_io.specs.WordLists.{Kept}
use Rattle.section_core.specs.Parts.{FileParts}
use Rattle.section_core.specs.Texts.{IsTextOfFile}
use Rattle.text_io.specs.Formats.{kept_behind}
use Rattle.command_replies.specs.Stages.{IsFront}
use Rattle.run_laws.specs.Laws.{EndsLine}

-- ---- the lines before and after a feed
onto_some : (b : ℕ) (xs : List (List ℕ)) → 0 < length (onto_first b xs)
onto_some b [] = omega arith
onto_some b (x ∷ xs) = omega arith

onto_front : (b : ℕ) (xs ys : List (List ℕ)) → 0 < length xs → onto_first b (xs ++ ys) ≡ onto_first b xs ++ ys
onto_front b [] ys l = absurd (omega (arith, l))
onto_front b (x ∷ xs) ys l = refl

some_line : (a : List ℕ) → 0 < length (fed_lines (a ++ 10 ∷ []))
some_line [] = omega arith
some_line (x ∷ a) =
    let more = fed_lines (a ++ 10 ∷ []) in
    elim (is_feed x) as (λ b. 0 < length (if b then [] ∷ more else onto_first x more)) [
      | true ↦ omega arith
      | false ↦ onto_some x more
    ]

fed_after : (a b : List ℕ) → fed_lines (a ++ 10 ∷ b) ≡ fed_lines (a ++ 10 ∷ []) ++ fed_lines b
fed_after [] b = refl
fed_after (x ∷ a) b =
    let whole = fed_lines (a ++ 10 ∷ b) in
    let front = fed_lines (a ++ 10 ∷ []) in
    elim (is_feed x) as (λ c. (if c then [] ∷ whole else onto_first x whole)
    ≡ (if c then [] ∷ front else onto_first x front) ++ fed_lines b) [
      | true ↦ ap (λ (ls : List (List ℕ)). [] ∷ ls) (fed_after a b)
      | false ↦ ap (onto_first x) (fed_after a b) ∙ onto_front x front (fed_lines b) (some_line a)
    ]

lines_after : (a b : List ℕ) → lines (a ++ 10 ∷ b) ≡ lines (a ++ 10 ∷ []) ++ lines b
lines_after a b = ap (map without_return) (fed_after a b)
    ∙ map-append without_return (fed_lines (a ++ 10 ∷ [])) (fed_lines b)

-- ---- the kept lines
kept_next : (n : ℕ) (ls ms : List (List ℕ)) → kept_from n (ls ++ ms) ≡ kept_from n ls ++ kept_from (n + length ls) ms
kept_next n [] ms = ap (λ (k : ℕ). kept_from k ms) (omega arith)
kept_next n (l ∷ ls) ms =
    let back = kept_from (n + suc (length ls)) ms in
    let more = kept_from (n + 1) ls in
    let next : kept_from (n + 1) (ls ++ ms) ≡ more ++ back = kept_next (n + 1) ls ms
    ∙ ap (λ (k : ℕ). more ++ kept_from k ms) (omega arith) in
    elim (is_kept (words l)) as (λ b. (if b then (n, words l)
    ∷ kept_from (n + 1) (ls ++ ms) else kept_from (n + 1) (ls ++ ms)) ≡ (if b then (n, words l) ∷ more else more)
    ++ back) [
      | true ↦ ap (λ (ks : List Kept). (n, words l) ∷ ks) next
      | false ↦ next
    ]

kept_after : (text more : List ℕ) → EndsLine text
    → kept_lines (text ++ more) ≡ kept_lines text ++ kept_behind (length (lines text)) more
kept_after text more ends =
    let a = ends.0 in
    let same : text ≡ a ++ 10 ∷ [] = ends.1 in
    let whole : lines (text ++ more) ≡ lines text ++ lines more =
    ap (λ (t : List ℕ). lines (t ++ more)) same ∙ ap lines (append_assoc a (10 ∷ []) more) ∙ lines_after a more
    ∙ ap (λ (t : List ℕ). lines t ++ lines more) (sym same) in
    ap (kept_from 1) whole ∙ kept_next 1 (lines text) (lines more)
    ∙ ap (λ (k : ℕ). kept_lines text ++ kept_from k (lines more)) (omega arith)

-- the front of such a text
pub front_of : (text more : List ℕ) (F : FileParts) → EndsLine text → IsTextOfFile text F
    → IsFront (text ++ more) (F, kept_behind (length (lines text)) more)
front_of text more F ends is =
    let h = is.0 in
    let tail = kept_behind (length (lines text)) more in (
      record {
        front = h.front;
        split = kept_after text more ends ∙ ap (λ (ks : List Kept). ks ++ tail) (h.split ∙ append-nil h.front);
        match = h.match;
        is_file = h.is_file;
        known = h.known;
        lawful = h.lawful;
      },
      is.1,
    )
