-- `densify` leaves one reply.
use Rattle.std.proofs.Common.{◌≡◌, ◌∙◌, ℕ, List, Some, sym, ap, ap₂}
use Rattle.fku_types.specs.Fault.{fault_words}
use Rattle.fku_types.specs.declared.fault.Fault.{Fault}
use Rattle.section_core.specs.Parts.{Parts, FileParts}
use Rattle.section_core.specs.Canonical.{text_of}
use Rattle.section_core.specs.Texts.{IsTextOf}
use Rattle.section_core.specs.Accepted.{IsAccepted}
use Rattle.section_core.proofs.OneObject.{file-from, lawful-from}
use Rattle.section_pairs.specs.Pairs.{PairParts}
use Rattle.section_slices.proofs.OneDensified.{one_densified}
use Rattle.section_slices.proofs.Exact.{no_middle, one_middle_fault}
use Rattle.command_replies.specs.Reply.{told, refused, refused_after}
use Rattle.surface_commands.specs.Densify.{AreMiddleWords, Densifies, IsDensifiedText, densify, densify_sections, middle_words}
use Rattle.run_laws.proofs.ReplyLaws.{IsOne, one_only, one_pairs_of}

-- the parts of a text are accepted
accepted : (text : List ℕ) (T : Parts) → IsTextOf text T → IsAccepted T
accepted text T h = record { are_parts = file-from T h.0.is_file; lawful = lawful-from T h.0.lawful; contour = h.1 }

-- sections have only one densified text
one_text : (S : Parts) (s t : List ℕ) → IsDensifiedText S s → IsDensifiedText S t → s ≡ t
one_text S s t h k = h.canonical ∙ ap text_of (one_densified S h.made k.made h.densified k.densified) ∙ sym k.canonical

-- or the words of one fault
one_line : (f g : Fault) (s t : List ℕ) → f ≡ g → fault_words f ≡ Some s → fault_words g ≡ Some t → s ≡ t
one_line f g s t e h k = let same : Some s ≡ Some t = sym h ∙ ap fault_words e ∙ k in cc

one_words : (S : Parts) (s t : List ℕ) → AreMiddleWords S s → AreMiddleWords S t → s ≡ t
one_words S s t h k = h.are ∙ ap middle_words
    (one_line h.fault k.fault h.line k.line (one_middle_fault S h.fault k.fault h.has k.has) h.says k.says) ∙ sym k.are

never_both : (S : Parts) (text words : List ℕ) → IsDensifiedText S text → AreMiddleWords S words → ⊥
never_both S text words h k = no_middle S h.made k.fault h.densified (accepted text h.made h.reads) h.pairs k.has

one_densifies : (S : Parts) (ps : List PairParts) → IsOne (Densifies S ps)
one_densifies S ps (told s m) (told t n) i j h k =
    ap₂ (λ (x : List ℕ) (y : ℕ). told x y) (one_text S s t h.0 k.0) (h.1 ∙ sym k.1)
one_densifies S ps (told s m) (refused f) i j h k = absurd k
one_densifies S ps (told s m) (refused_after t n) i j h k = absurd (never_both S s t h.0 k.0)
one_densifies S ps (refused f) q i j h k = absurd h
one_densifies S ps (refused_after s m) (told t n) i j h k = absurd (never_both S t s k.0 h.0)
one_densifies S ps (refused_after s m) (refused f) i j h k = absurd k
one_densifies S ps (refused_after s m) (refused_after t n) i j h k =
    ap₂ (λ (x : List ℕ) (y : ℕ). refused_after x y) (one_words S s t h.0 k.0) (h.1 ∙ sym k.1)

one_densify_sections : (S : Parts) → IsOne (densify_sections S)
one_densify_sections S = one_pairs_of S (Densifies S) (one_densifies S)

pub one_densify : (F : FileParts) → IsOne (densify F)
one_densify F = one_only F densify_sections one_densify_sections
