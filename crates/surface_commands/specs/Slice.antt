-- `slice`: the loops of the surface at a height.
use Rattle.std.specs.Prelude.{ℕ, ℤ, ◌≡◌, List, [], ◌∷◌, ◌++◌, Option, None, Some, All, length, slice_get, sum_by, codes, decimal}
use Rattle.std.specs.List.{AllZip, flat_map}
use Rattle.std.specs.Fmt.{signed_decimal}
use Rattle.strip_graph.specs.declared.slices.Cut.{Cut}
use Rattle.fku_types.specs.declared.fault.Fault.{Fault}
use Rattle.fku_types.specs.declared.fault.Fault.TheVariants.{Outside, OnSection}
use Rattle.section_core.specs.declared.parts.Version.{Version}
use Rattle.section_core.specs.Parts.{Parts, ObjectParts, FileParts}
use Rattle.section_core.specs.Canonical.{name_text}
use Rattle.surface_core.specs.Objects.{objects_in}
use Rattle.section_slices.specs.Slices.{IsCut, IsOnSection, IsOutside, loop_count}
use Rattle.section_slices.specs.declared.slices.SliceLoops.{SliceLoops}
use Rattle.command_replies.specs.Reply.{Reply, Then, Tells}
use Rattle.command_replies.specs.Stages.{on_pairs}

-- the line of a point: its numerators
abbrev pub cut_text : Cut → List ℕ
cut_text c = signed_decimal c.x ++ (codes " " ++ (signed_decimal c.y ++ codes "\n"))

-- the lines of a loop
abbrev pub loop_text : List Cut → List ℕ
loop_text cuts = codes "LOOP " ++ (decimal (length cuts) ++ (codes "\n" ++ flat_map cut_text cuts))

-- the first line
abbrev pub height_text : ℤ → ℤ → ℕ → List ℕ
height_text z den count =
    codes "SLICE " ++ (signed_decimal z
    ++ (codes " DEN " ++ (signed_decimal den ++ (codes " LOOPS " ++ (decimal count ++ codes "\n")))))

-- the text of a slice
abbrev pub slice_text : ℤ → SliceLoops → List ℕ
slice_text z s = height_text z s.den (length s.loops.items) ++ flat_map (λ v. loop_text v.items) s.loops.items

-- A height gives no slice: it is outside each object, or it is that of a section of one.
pub data IsHeightFaultOfAll (F : FileParts) (z : ℤ) : Fault → Type 0 where
  outside : All (λ (S : Parts). IsOutside S z) (objects_in F) → IsHeightFaultOfAll F z (Outside z)
  on_section : (k : ℕ) (S : Parts) → slice_get (objects_in F) k ≡ Some S → IsOnSection S z
      → IsHeightFaultOfAll F z (OnSection z)

-- the slices of objects at a height that is not outside all of them
pub record AreCuts (F : FileParts) (z : ℤ) (cuts : List (Option SliceLoops)) : Type 0 where
  pub each : AllZip (IsCut z) (objects_in F) cuts
  pub some : All (λ (S : Parts). IsOutside S z) (objects_in F) → ⊥

-- the slices of objects; in version 2 each after the name of its object
abbrev pub object_cut : Version → ℤ → ObjectParts → Option SliceLoops → List ℕ
object_cut v z o (Some s) = name_text v o.name ++ slice_text z s
object_cut v z o None = []

abbrev pub cuts_text : Version → ℤ → List ObjectParts → List (Option SliceLoops) → List ℕ
cuts_text v z [] cuts = []
cuts_text v z (o ∷ objects) [] = []
cuts_text v z (o ∷ objects) (cut ∷ cuts) = object_cut v z o cut ++ cuts_text v z objects cuts

-- the reply for objects: their loops at the height, one for each counted pair
abbrev pub slice : ℤ → FileParts → Reply → Type 0
slice z F = on_pairs F (λ pss. Then (IsHeightFaultOfAll F z) (AreCuts F z)
    (λ cuts. Tells (cuts_text F.version z F.objects cuts) (sum_by loop_count cuts)))
