-- The commands. A new one is a line of `commands` and a line of `work_of`.
use Rattle.std.specs.Prelude.{ℕ, List, [], ◌∷◌, ◌++◌, Option, None, Some, codes, map}
use Rattle.clap.specs.Words.{Text}
use Rattle.fku_types.specs.declared.limits.TheConstants.{MAX_CHECK_BYTES, MAX_INPUT_BYTES, MAX_MESH_BYTES}
use Rattle.section_core.specs.Parts.{FileParts}
use Rattle.text_io.specs.WordLists.{Kept}
use Rattle.triangle_meshes.specs.Meshes.{Surface}
use Rattle.byu_text.specs.Byu.{byu_of}
use Rattle.command_replies.specs.Reply.{Reply}
use Rattle.command_replies.specs.Stages.{on_front, on_objects}
use Rattle.pair_commands.specs.Certify.{certify}
use Rattle.pair_commands.specs.Check.{check}
use Rattle.pair_commands.specs.Landmarks.{landmarks}
use Rattle.pair_commands.specs.Tilings.{tilings}
use Rattle.surface_commands.specs.Count.{count}
use Rattle.surface_commands.specs.Crossings.{crossings}
use Rattle.surface_commands.specs.Densify.{densify}
use Rattle.surface_commands.specs.Edit.{edit}
use Rattle.surface_commands.specs.Measure.{measure}
use Rattle.surface_commands.specs.Reconstruct.{reconstruct}
use Rattle.surface_commands.specs.Report.{report, demo_report}
use Rattle.surface_commands.specs.RingCaps.{ring_caps}
use Rattle.surface_commands.specs.Slice.{slice}
use Rattle.surface_cli.specs.declared.commands.Command.{Command}
use Rattle.surface_cli.specs.declared.commands.Command.TheVariants.{Tilings, Reconstruct, Report, Certify, Check, Slice, Edit, Demo, Landmarks, RingCaps, Count, Densify, Measure, Crossings}
use Rattle.surface_cli.specs.Arguments.{Entry, bare, certify_app, certify_of, demo_app, demo_of, plain, slice_app, slice_of}

-- all commands, in the order of the usage line: each has its name in its app
abbrev pub commands : List Entry
commands =
    plain (codes "tilings") Tilings
    ∷ plain (codes "reconstruct") Reconstruct
    ∷ plain (codes "report") Report
    ∷ record { app = certify_app; task = certify_of }
    ∷ bare (codes "check") Check
    ∷ record { app = slice_app; task = slice_of }
    ∷ plain (codes "edit") Edit
    ∷ record { app = demo_app; task = demo_of }
    ∷ plain (codes "landmarks") Landmarks
    ∷ plain (codes "ringcaps") RingCaps
    ∷ bare (codes "count") Count
    ∷ plain (codes "densify") Densify
    ∷ bare (codes "measure") Measure
    ∷ bare (codes "crossings") Crossings
    ∷ []

-- names with a bar between two
abbrev pub barred : List Text → Text
barred [] = []
barred (name ∷ []) = name
barred (name ∷ other ∷ more) = name ++ (codes "|" ++ barred (other ∷ more))

-- the line that is written for a usage error
abbrev pub usage : List ℕ
usage = codes "USAGE fku " ++ (barred (map (λ (entry : Entry). entry.app.top.name) commands) ++ codes "\n")

-- what a command does with its input: how many bytes of it are read at most, none if it does not read; and what it
-- replies to the bytes that it has read
pub record Work : Type 1 where
  pub limit : Option ℕ
  pub rule : List ℕ → Reply → Type 0

-- a command that reads objects; objects and lines after them; or the text of a mesh
abbrev pub of_objects : (FileParts → Reply → Type 0) → Work
of_objects rule = record { limit = Some MAX_INPUT_BYTES; rule = on_objects rule }

abbrev pub of_front : (FileParts → List Kept → Reply → Type 0) → Work
of_front rule = record { limit = Some MAX_INPUT_BYTES; rule = on_front rule }

abbrev pub of_mesh : (List ℕ → Reply → Type 0) → Work
of_mesh rule = record { limit = Some MAX_MESH_BYTES; rule = rule }

-- the format in which a command writes a surface
abbrev pub surface_text : Surface → List ℕ
surface_text = byu_of

-- the work of each command
abbrev pub command_work : Command → Work
command_work Tilings = of_objects tilings
command_work Reconstruct = of_objects (reconstruct surface_text)
command_work Report = of_objects report
command_work (Certify k) = of_objects (certify k)
command_work Check = record { limit = Some MAX_CHECK_BYTES; rule = check }
command_work (Slice z) = of_objects (slice z)
command_work Edit = of_front (edit surface_text)
command_work (Demo seed sections vertices) = record { limit = None; rule = λ bytes. demo_report seed sections vertices }
command_work Landmarks = of_front landmarks
command_work RingCaps = of_objects (ring_caps surface_text)
command_work Count = of_mesh count
command_work Densify = of_objects densify
command_work Measure = of_mesh measure
command_work Crossings = of_mesh crossings

-- how many bytes of its input a command reads at most; none if it does not read
abbrev pub input_limit : Command → Option ℕ
input_limit command = (command_work command).limit

-- the reply of a command to the bytes that it has read
abbrev pub rule_of : Command → List ℕ → Reply → Type 0
rule_of command = (command_work command).rule
