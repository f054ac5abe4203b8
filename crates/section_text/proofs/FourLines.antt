-- If memory runs out, four kept lines are right.
use Rattle.std.proofs.Common.{◌≡◌, ℕ, ◌≤◌, List, [], ◌∷◌, ◌++◌, map, length, Result, Ok, Err, refl, ap, sym, ◌∙◌, subst, arith}
use Rattle.std.specs.List.{flat_map}
use Rattle.std.proofs.lemmas.List.{length-append, length-map}
use Rattle.std.proofs.lemmas.Slice.Zip.{AllZip-long}
use Rattle.text_io.specs.Text.{kept_lines}
use Rattle.fku_types.specs.declared.fault.Fault.{Fault}
use Rattle.fku_types.specs.declared.fault.Fault.TheVariants.{NoMemory}
use Rattle.text_io.specs.WordLists.{Matches, Kept, lines_of}
use Rattle.section_core.specs.declared.parts.Version.{Version}
use Rattle.section_core.specs.declared.tally.Tally.{Tally}
use Rattle.section_core.specs.Parts.{FileParts}
use Rattle.section_core.specs.Laws.{law_order}
use Rattle.section_core.specs.Reading.{Begins, Breach}
use Rattle.section_core.specs.Machine.{State, finish, object_items, item_line, at_version, at_cost, at_rule, no_object, in_object, ended}
use Rattle.section_core.specs.Reader.{judge}
use Rattle.text_io.proofs.FormatLaws.{begins_front}
use Rattle.section_core.proofs.SoFar.{so_far, so_far-run}
use Rattle.section_core.proofs.Decides.{lines_said, begins-of_state}
use Rattle.section_text.specs.Fronts.{HasFourLines, IsReadMemory}
use Rattle.section_text.specs.States.{TakesLine, IsBehindHead, IsLineMemory}
use Rattle.section_text.proofs.FrontLemmas.{Passed, pass_one, pass_longer}
use Rattle.section_core.proofs.Walking.{not_memory}

-- the first four of lines that begin well do
pub four_of : (w : Version) (front rest : List Kept) → 4 ≤ length front → Begins w law_order (lines_of front)
    → HasFourLines w (front ++ rest)
four_of w [] rest n b = absurd (omega arith)
four_of w (h ∷ []) rest n b = absurd (omega arith)
four_of w (h ∷ i ∷ []) rest n b = absurd (omega arith)
four_of w (h ∷ i ∷ j ∷ []) rest n b = absurd (omega arith)
four_of w (h ∷ i ∷ j ∷ k ∷ front) rest n b =
    (omega arith, begins_front (lines_of (h ∷ i ∷ j ∷ k ∷ [])) (lines_of front) b)

-- lines that are passed have no fault
passed_four : (w : Version) (kept rest : List Kept) (state : State) (p : Passed w kept rest state) → 4 ≤ length p.before
    → HasFourLines w kept
passed_four w kept rest state p n =
    subst (HasFourLines w) (sym p.split)
    (four_of w p.before rest n (begins-of_state w law_order (lines_of p.before) state p.leads p.keeps))

-- each line that was passed said an item
passed_items : (w : Version) (kept rest : List Kept) (state : State) (p : Passed w kept rest state)
    → length (so_far state) ≡ length p.before
passed_items w kept rest state p =
    let said = lines_said w at_version (lines_of p.before) state tt p.leads in
    ap length (so_far-run w at_version said.items state said.leads)
    ∙ sym (length-map said.items item_line)
    ∙ AllZip-long Matches (lines_of p.before) (map item_line said.items) said.match
    ∙ length-map p.before (λ (k : Kept). k.1)

behind_three : (state : State) → IsBehindHead state → 3 ≤ length (so_far state)
behind_three at_version h = absurd h
behind_three (at_cost v) h = absurd h
behind_three (at_rule v cost) h = absurd h
behind_three (no_object cost rule) h = omega arith
behind_three (in_object v cost rule front name body) h = omega arith
behind_three (ended F) h = omega arith

ended_four : (F : FileParts) → 4 ≤ length (so_far (ended F))
ended_four F = omega (arith, length-append (flat_map (object_items F.version F.rule) F.objects) (finish ∷ []))

line_four : (w : Version) (kept rest : List Kept) (k : Kept) (state : State) (t : Tally) (r : Result State Breach)
    → judge w state k.1 ≡ r → Passed w kept (k ∷ rest) state → TakesLine k.0 r (Err NoMemory) t → IsBehindHead state
    → HasFourLines w kept
line_four w kept rest k state t (Err b) j p takes h = absurd (not_memory b k.0 takes)
line_four w kept rest k state t (Ok next) j p takes h =
    passed_four w kept rest next (pass_one w kept rest k state next j p)
    (omega (
      arith,
      pass_longer w kept rest k state next j p,
      passed_items w kept (k ∷ rest) state p,
      behind_three state h,
    ))

-- memory ran out at a line
pub line_memory : (w : Version) (text : List ℕ) (rest : List Kept) (k : Kept) (state : State) (fault : Fault)
    (t : Tally) → Passed w (kept_lines text) (k ∷ rest) state → TakesLine k.0 (judge w state k.1) (Err fault) t
    → IsLineMemory state fault → IsReadMemory w text fault
line_memory w text rest k state NoMemory t p takes h =
    line_four w (kept_lines text) rest k state t (judge w state k.1) refl p takes h
line_memory w text rest k state fault t p takes h = tt

-- memory ran out at the end
pub end_memory : (w : Version) (text : List ℕ) (rest : List Kept) (F : FileParts) (fault : Fault)
    → Passed w (kept_lines text) rest (ended F) → IsReadMemory w text fault
end_memory w text rest F NoMemory p =
    passed_four w (kept_lines text) rest (ended F) p
    (subst (λ (n : ℕ). 4 ≤ n) (passed_items w (kept_lines text) rest (ended F) p) (ended_four F))
end_memory w text rest F fault p = tt
