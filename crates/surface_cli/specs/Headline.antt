-- The promises of runs of `reconstruct` and `ringcaps` on the file that they write, and of runs of `measure`,
-- `crossings`, `tilings` and `check` on their texts, in one place.
use Rattle.std.specs.Prelude.{ℕ, ℤ, ◌≡◌, ◌<◌, pos, List, Option, Some, length, slice_index_or, All}
use Rattle.std.specs.List.{AllZip}
use Rattle.text_io.specs.WordLists.{Kept}
use Rattle.plane_geom.specs.Rings.{IsClosed}
use Rattle.section_core.specs.Parts.{Parts, FileParts}
use Rattle.section_core.specs.Texts.{IsTextOfFile}
use Rattle.strip_graph.specs.Words.{word_cost}
use Rattle.strip_graph.specs.Tilings.{IsAcceptable}
use Rattle.strip_graph.specs.Strips.{Strip, rows, cols, arcs}
use Rattle.cert_checker.specs.declared.certs.CertText.{CertText}
use Rattle.cert_checker.specs.declared.certs.Verdict.TheVariants.{Accept}
use Rattle.cert_checker.specs.CertTexts.{certificate_parts}
use Rattle.cert_checker.specs.CertReading.{ReadsAsCertificate as ReadsAsCert}
use Rattle.row_paths.specs.Solutions.{Solution}
use Rattle.triangle_meshes.specs.Meshes.{Surface}
use Rattle.triangle_meshes.specs.Joined.{joined}
use Rattle.byu_text.specs.Byu.{byu_of}
use Rattle.byu_text.specs.Reading.{ReadsAsMesh}
use Rattle.mesh_measures.specs.declared.measuring.Measures.{Measures}
use Rattle.surface_commands.specs.Measure.{AreMeasures, measures_text}
use Rattle.surface_commands.specs.Crossings.{crossings_text}
use Rattle.section_pairs.specs.SectionFaults.{ArePairs}
use Rattle.surface_core.specs.Objects.{AreAllPairs, numbered, objects_in}
use Rattle.section_pairs.specs.Pairs.{PairParts}
use Rattle.surface_core.specs.Surfaces.{AreLeast, IsSurface, strips_in}
use Rattle.ring_caps.specs.RingSurfaces.{IsRingSurface}
use Rattle.command_replies.specs.Stages.{AreNumbered, IsFront}
use Rattle.pair_commands.specs.Tilings.{tilings_text}
use Rattle.pair_commands.specs.OnePair.{IsPairOf}
use Rattle.pair_commands.specs.Check.{HasLeastTiling, verdict_text}
use Rattle.surface_cli.specs.declared.commands.Command.{Command}
use Rattle.surface_cli.specs.declared.commands.Command.TheVariants.{Reconstruct, RingCaps, Measure, Crossings, Tilings, Check}
use Rattle.surface_cli.specs.Words.{meaning}

-- each strip has an acceptable tiling, and the stated cost is the tiling's
pub record AreAcceptable (strips : List Strip) (tilings : List Solution) : Type 0 where
  pub count : length tilings ≡ length strips
  pub acceptable : (k : ℕ) (p : Strip) (x : Solution) → k < length strips
      → IsAcceptable (rows (slice_index_or strips k p)) (cols (slice_index_or strips k p))
      (slice_index_or tilings k x).row 0 (slice_index_or tilings k x).word
  pub cost : (k : ℕ) (p : Strip) (x : Solution) → k < length strips
      → (slice_index_or tilings k x).cost
      ≡ pos (word_cost (arcs (slice_index_or strips k p)) (slice_index_or tilings k x).row 0
      (slice_index_or tilings k x).word)

-- A mesh is made of the sections of an object and, for each pair of composite contours, the tiles of its tiling; and no
-- acceptable tiling of a pair, from any start, costs less than the one used.
pub record IsLeastMesh (IsMadeOf : Parts → List PairParts → List Solution → Surface → Type 0) (S : Parts)
    (mesh : Surface) : Type 0 where
  pub pairs : List PairParts
  pub are_pairs : ArePairs S pairs
  pub tilings : List Solution
  pub acceptable : AreAcceptable (strips_in pairs) tilings
  pub least : AreLeast (strips_in pairs) tilings
  pub surface : IsMadeOf S pairs tilings mesh

-- A text is the MOVIE.BYU text of closed meshes of an input, one after another: the input reads as objects; each has
-- its mesh, made with least tilings; and in each part every directed edge occurs as often as its reverse.
pub record IsLeastClosed (IsMadeOf : Parts → List PairParts → List Solution → Surface → Type 0)
    (input text : List ℕ) : Type 0 where
  pub objects : FileParts
  pub read : IsTextOfFile input objects
  pub meshes : List Surface
  pub least : AllZip (IsLeastMesh IsMadeOf) (objects_in objects) meshes
  pub closed : All IsClosed (joined meshes).parts
  pub written : text ≡ byu_of (joined meshes)

-- the mesh has the caps of the sections' contours
abbrev pub IsLeastClosedSurface : List ℕ → List ℕ → Type 0
IsLeastClosedSurface input text = IsLeastClosed IsSurface input text

-- the mesh has one cap for an outer contour and the holes that end with it
abbrev pub IsLeastRingSurface : List ℕ → List ℕ → Type 0
IsLeastRingSurface input text = IsLeastClosed IsRingSurface input text

-- A text is that of the measures of each part of the mesh whose text the input is: each number is that of its
-- definition.
pub record IsMeasured (input text : List ℕ) : Type 0 where
  pub mesh : Surface
  pub read : ReadsAsMesh input mesh
  pub measures : List Measures
  pub are : AllZip (AreMeasures mesh.vertices) mesh.parts measures
  pub written : text ≡ measures_text measures

-- A text is that of the crossings of each part of the mesh whose text the input is: all pairs of triangles of a part
-- count.
pub record IsCrossed (input text : List ℕ) : Type 0 where
  pub mesh : Surface
  pub read : ReadsAsMesh input mesh
  pub written : text ≡ crossings_text mesh

-- A text lists a tiling for each pair of each object of an input, in order: each is acceptable and costs what is
-- printed, and no acceptable tiling of the pair, from any start, costs less.
pub record IsLeastListing (input text : List ℕ) : Type 0 where
  pub objects : FileParts
  pub read : IsTextOfFile input objects
  pub pairs : List (List PairParts)
  pub are_pairs : AreAllPairs objects pairs
  pub tilings : List Solution
  pub acceptable : AreAcceptable (strips_in (numbered pairs)) tilings
  pub least : AreLeast (strips_in (numbered pairs)) tilings
  pub written : text ≡ tilings_text objects pairs tilings

-- An input reads as objects with a certificate after them, which states that it is that of their pair k and costs c:
-- its tiling is acceptable and costs c, and no acceptable tiling of the pair, from any start, costs less.
pub record IsCertifiedInput (input : List ℕ) (k : ℕ) (c : ℤ) : Type 0 where
  pub objects : FileParts
  pub tail : List Kept
  pub front : IsFront input (objects, tail)
  pub certificate : CertText
  pub reads : ReadsAsCert tail (certificate_parts certificate)
  pub says : (certificate.pair ≡ k) × (certificate.cert.cost ≡ c)
  pub pairs : List PairParts
  pub are_pairs : AreNumbered objects pairs
  pub pair : PairParts
  pub is_pair : IsPairOf pairs k pair
  pub least : HasLeastTiling pair.strip certificate.cert

-- If a text is the line `ACCEPT PAIR k COST c`, the input's certificate of pair k and cost c is that of a least tiling.
abbrev pub IsJudged : List ℕ → List ℕ → Type 0
IsJudged input text = (k : ℕ) (c : ℤ) → text ≡ verdict_text k c Accept → IsCertifiedInput input k c

-- the words ask for a command, with any number of workers
abbrev pub AsksFor : Command → List (List ℕ) → Type 0
AsksFor command words = (workers : Option ℕ) × (meaning words ≡ Some (record { command = command; workers = workers }))

-- they ask for `reconstruct`, for `ringcaps`, for `measure`, for `crossings`, for `tilings`, and for `check`
abbrev pub AsksForSurface : List (List ℕ) → Type 0
AsksForSurface words = AsksFor Reconstruct words

abbrev pub AsksForRingSurface : List (List ℕ) → Type 0
AsksForRingSurface words = AsksFor RingCaps words

abbrev pub AsksForMeasures : List (List ℕ) → Type 0
AsksForMeasures words = AsksFor Measure words

abbrev pub AsksForCrossings : List (List ℕ) → Type 0
AsksForCrossings words = AsksFor Crossings words

abbrev pub AsksForTilings : List (List ℕ) → Type 0
AsksForTilings words = AsksFor Tilings words

abbrev pub AsksForCheck : List (List ℕ) → Type 0
AsksForCheck words = AsksFor Check words
