-- `count` and `measure` leave one reply, and any rule on a mesh that leaves one for each mesh.
use Rattle.std.proofs.Common.{◌≡◌, ℕ, Bool, true, false, true≢false, List, refl, sym, ap, ◌∙◌}
use Rattle.std.specs.Prelude.{IsTrue, ◌↔◌}
use Rattle.fku_types.specs.declared.fault.Fault.{Fault}
use Rattle.fku_types.specs.declared.fault.Fault.TheVariants.{ByuForm}
use Rattle.triangle_meshes.specs.Meshes.{Surface}
use Rattle.byu_text.specs.Answers.{IsByuFault}
use Rattle.byu_text.specs.Reading.{ReadsAsMesh}
use Rattle.byu_text.proofs.Fronts.{no_fault, one_fault}
use Rattle.byu_text.proofs.Whole.{reads_one}
use Rattle.command_replies.specs.Reply.{Reply}
use Rattle.surface_commands.specs.MeshTexts.{on_mesh}
use Rattle.surface_commands.specs.Count.{TellsCounts, count, count_text}
use Rattle.surface_commands.specs.Measure.{TellsMeasures, measure, measures_text}
use Rattle.run_laws.proofs.MeasureLaws.{one_measures}
use Rattle.run_laws.proofs.ReplyLaws.{IsOne, IsToldFault, agree_tells, one_stage}

-- a text has at most one fault, and none if it is a mesh's
one_byu_fault : (bytes : List ℕ) (f g : Fault) → IsToldFault f → IsToldFault g → IsByuFault bytes f → IsByuFault bytes g
    → f ≡ g
one_byu_fault bytes f g t u h k = h.2 ∙ ap (λ (l : ℕ). ByuForm l) (one_fault bytes h.0 k.0 h.1 k.1) ∙ sym k.2

mesh_or_fault : (bytes : List ℕ) (m : Surface) (f : Fault) → IsToldFault f → ReadsAsMesh bytes m → IsByuFault bytes f
    → ⊥
mesh_or_fault bytes m f t is h = no_fault bytes h.0 m is h.1

-- a test has one outcome
one_outcome : {P : Type 0} (a b : Bool) → (IsTrue a ↔ P) → (IsTrue b ↔ P) → a ≡ b
one_outcome true true h k = refl
one_outcome true false h k = absurd (true≢false (sym (k.1 (h.0 refl))))
one_outcome false true h k = absurd (true≢false (sym (h.1 (k.0 refl))))
one_outcome false false h k = refl

one_counts : (m : Surface) → IsOne (TellsCounts m)
one_counts m r s t u h k =
    agree_tells (count_text m h.closed) (count_text m k.closed) 0 0
    (ap (count_text m) (one_outcome h.closed k.closed h.says k.says)) refl r s t u h.tells k.tells

-- a rule on the mesh whose text the bytes are
pub one_mesh : (rule : Surface → Reply → Type 0) → ((m : Surface) → IsOne (rule m)) → (bytes : List ℕ)
    → IsOne (on_mesh rule bytes)
one_mesh rule one bytes = one_stage (IsByuFault bytes) (ReadsAsMesh bytes) rule (one_byu_fault bytes)
    (mesh_or_fault bytes) (reads_one bytes) (λ m is. one m)

pub one_count : (bytes : List ℕ) → IsOne (count bytes)
one_count bytes = one_mesh TellsCounts one_counts bytes

one_told : (m : Surface) → IsOne (TellsMeasures m)
one_told m r s t u h k =
    agree_tells (measures_text h.measures) (measures_text k.measures) 0 0
    (one_measures m h.measures k.measures h.are k.are) refl r s t u h.tells k.tells

pub one_measure : (bytes : List ℕ) → IsOne (measure bytes)
one_measure bytes = one_mesh TellsMeasures one_told bytes
