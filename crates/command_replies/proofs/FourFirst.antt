-- A text of objects has four kept lines without fault, so memory may run out behind them.
use Rattle.std.proofs.Common.{◌≤◌, ℕ, List, [], ◌∷◌, length, Result, Ok, Err, sym, subst, arith, length-append}
use Rattle.std.specs.Prelude.{IfErr}
use Rattle.std.specs.List.{flat_map}
use Rattle.std.proofs.lemmas.List.{length-map}
use Rattle.std.proofs.lemmas.Slice.Zip.{AllZip-long}
use Rattle.text_io.specs.Text.{kept_lines}
use Rattle.text_io.specs.WordLists.{Kept, Matches, lines_of}
use Rattle.fku_types.specs.declared.fault.Fault.{Fault}
use Rattle.fku_types.specs.declared.fault.Fault.TheVariants.{NoMemory}
use Rattle.section_core.specs.declared.parts.Version.{Version}
use Rattle.section_core.specs.declared.parts.Version.TheVariants.{Two}
use Rattle.section_core.specs.Parts.{FileParts, end_line, file_lines, object_lines}
use Rattle.section_core.specs.Reading.{HasFile}
use Rattle.section_core.specs.Texts.{IsTextOfFile}
use Rattle.section_text.specs.Fronts.{HasFourLines, IsObjectsFrontOf, IsReadMemory}
use Rattle.section_text.specs.declared.front.ObjectsFront.{ObjectsFront}
use Rattle.text_io.proofs.FormatLaws.{begins_whole}
use Rattle.section_text.proofs.FourLines.{four_of}

four_kept : (latest : Version) (kept : List Kept) (F : FileParts) (tail : List Kept) → HasFile latest kept F tail
    → HasFourLines latest kept
four_kept latest kept F tail h =
    let lines = file_lines F in
    let enough : 4 ≤ length h.front = omega (
      arith,
      AllZip-long Matches (lines_of h.front) lines h.match,
      length-map h.front (λ (k : Kept). k.1),
      length-append (flat_map (object_lines F.version F.rule) F.objects) (end_line ∷ []),
    ) in
    subst (HasFourLines latest) (sym h.split)
    (four_of latest h.front tail enough
    (begins_whole F (record { is_file = h.is_file; known = h.known; keeps = h.lawful }) (lines_of h.front) h.match))

late : {T : Type 0} (bytes : List ℕ) (r : Result T Fault) → HasFourLines Two (kept_lines bytes)
    → IfErr r (IsReadMemory Two bytes)
late bytes (Ok v) h = tt
late bytes (Err NoMemory) h = h
late bytes (Err fault) h = tt

pub at_text : {T : Type 0} (bytes : List ℕ) (F : FileParts) (r : Result T Fault) → IsTextOfFile bytes F
    → IfErr r (IsReadMemory Two bytes)
at_text bytes F r h = late bytes r (four_kept Two (kept_lines bytes) F [] h.0)

pub at_front : {T : Type 0} (bytes : List ℕ) (f : ObjectsFront) (r : Result T Fault) → IsObjectsFrontOf bytes f
    → IfErr r (IsReadMemory Two bytes)
at_front bytes f r h = late bytes r (four_kept Two (kept_lines bytes) f.objects _ h.front)
