-- The first line of a text was read: it is that of a valid mesh.
use Rattle.std.proofs.Common.{ℕ, List, [], drop, Result, Ok, Err}
use Rattle.std.specs.Prelude.{IfErr}
use Rattle.fku_types.specs.declared.fault.Fault.{Fault}
use Rattle.triangle_meshes.specs.Meshes.{Surface}
use Rattle.byu_text.specs.Reading.{BeginsAs}
use Rattle.byu_text.specs.Pieces.{Counts}
use Rattle.byu_text.specs.Stages.{HasHead}
use Rattle.byu_text.specs.Answers.{IsMeshMemory}
use Rattle.byu_text.proofs.Fronts.{begins_from_starts}
use Rattle.byu_text.proofs.Completed.{no_sizes, starts_sizes}

first_line : (text : List ℕ) (h : Counts) → HasHead text h → (s : Surface) × BeginsAs text 1 s
first_line text h k = let t = starts_sizes text h [] (drop 33 text) k.counts (no_sizes h k.counts) k.line in
    (t.0, begins_from_starts text 1 t.0 t.1)

-- memory may run out then
pub after_head : {T : Type 0} (text : List ℕ) (h : Counts) (r : Result T Fault) → HasHead text h
    → IfErr r (IsMeshMemory text)
after_head text h (Ok v) k = tt
after_head text h (Err fault) k = λ _. first_line text h k
