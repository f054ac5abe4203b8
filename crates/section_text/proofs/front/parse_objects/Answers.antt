use Rattle.std.proofs.Common.{ℕ, List, [], Result, Ok, Err, refl, sym, subst}
use Rattle.text_io.specs.Text.{kept_lines}
use Rattle.fku_types.specs.declared.fault.Fault.{Fault}
use Rattle.fku_types.specs.declared.fault.Fault.TheVariants.{NoMemory}
use Rattle.section_text.specs.declared.front.ObjectsFront.{ObjectsFront}
use Rattle.section_core.specs.declared.parts.Version.TheVariants.{Two}
use Rattle.section_core.specs.Parts.{FileParts}
use Rattle.section_core.specs.Machine.{at_version}
use Rattle.section_core.specs.Reader.{AnswerOf, front_is, read_file}
use Rattle.section_text.specs.Fronts.{Parses, objects_given, IsObjectsFrontGiven}
use Rattle.section_core.specs.Texts.{IsTextOfFile}
use Rattle.section_core.proofs.Answers.{file_holds}
use Rattle.section_core.proofs.Only.{file_only}
use Rattle.section_core.proofs.Canon.{file_text_reads}
use Rattle.section_text.proofs.FrontLemmas.{parses_objects, parses_objects_fault}
use Rattle.section_text.proofs.front.parse_objects.Goals as goal

pub returns-clause-found : goal.returns-clause-found
returns-clause-found c = parses_objects c.args.bytes.now (read_file Two at_version (kept_lines c.args.bytes.now))
    c.read_front.result (file_holds Two (kept_lines c.args.bytes.now)) c.read_front.ensures.parses

pub returns-clause-fault : goal.returns-clause-fault
returns-clause-fault c = parses_objects_fault c.args.bytes.now (read_file Two at_version (kept_lines c.args.bytes.now))
    c.read_front.result (file_holds Two (kept_lines c.args.bytes.now)) c.read_front.ensures.parses

pub returns-clause-exact : goal.returns-clause-exact
returns-clause-exact c answer holds =
    subst (λ (a : AnswerOf FileParts). Parses c.args.bytes.now a (objects_given c.read_front.result))
    (file_only Two (kept_lines c.args.bytes.now) answer holds) c.read_front.ensures.parses

gives : (text : List ℕ) (F : FileParts) (r : Result ObjectsFront Fault) → Parses text (front_is F []) (objects_given r)
    → IsObjectsFrontGiven F r
gives text F (Ok f) h = h.0
gives text F (Err NoMemory) h = refl
gives text F (Err fault) h = absurd h

pub returns-clause-printed : goal.returns-clause-printed
returns-clause-printed c F a e =
    gives c.args.bytes.now F c.read_front.result
    (returns-clause-exact c (front_is F []) (subst (λ (t : List ℕ). IsTextOfFile t F) (sym e) (file_text_reads F a)))
