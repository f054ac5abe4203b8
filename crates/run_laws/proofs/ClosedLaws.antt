-- `count` reports a closed mesh for what `reconstruct` and `ringcaps` write.
use Rattle.std.proofs.Common.{◌≡◌, ℕ, true, List, length, refl, ap, arith, All}
use Rattle.std.specs.List.{AllByRecursion}
use Rattle.std.proofs.lemmas.List.Elements.{All-from_recursion}
use Rattle.plane_geom.specs.Rings.{IsClosed}
use Rattle.fku_types.specs.declared.limits.TheConstants.{MAX_INPUT_BYTES}
use Rattle.section_core.specs.Parts.{FileParts}
use Rattle.section_core.specs.Texts.{IsTextOfFile}
use Rattle.section_core.proofs.OneObject.{objects_accepted}
use Rattle.ring_polygons.proofs.CutLaws.{HasThree}
use Rattle.triangle_meshes.specs.Meshes.{Surface, IsValid, surface_of}
use Rattle.byu_text.specs.Byu.{byu_of}
use Rattle.byu_text.specs.Reading.{IsMesh}
use Rattle.byu_text.proofs.PolygonsStuck.{mesh_width}
use Rattle.byu_text.proofs.Written.{written}
use Rattle.surface_core.specs.Objects.{IsFoundIn}
use Rattle.surface_core.specs.Surfaces.{IsBuilt}
use Rattle.surface_core.specs.declared.surfaces.Built.{Built}
use Rattle.ring_caps.specs.RingSurfaces.{IsRingBuilt, IsRingFoundIn}
use Rattle.surface_cli.specs.declared.commands.Command.TheVariants.{Count, Reconstruct, RingCaps}
use Rattle.command_replies.specs.declared.status.Status.TheVariants.{Done}
use Rattle.command_replies.specs.Reply.{Reply, told, goes_on, Tells}
use Rattle.command_replies.specs.Stages.{IsSurfaceOf}
use Rattle.command_replies.proofs.ReplyLemmas.{went}
use Rattle.surface_commands.specs.Count.{count, count_text}
use Rattle.surface_commands.specs.Reconstruct.{reconstruct}
use Rattle.surface_commands.specs.RingCaps.{IsRingSurfaceOf, ring_caps}
use Rattle.surface_cli.specs.Out.{Answers, IsOut}
use Rattle.surface_cli.specs.Headline.{AsksFor}
use Rattle.run_laws.specs.Laws.{IsSurfaceText}
use Rattle.run_laws.proofs.DoneLaws.{by_words, of_objects, of_words, same_text}
use Rattle.run_laws.proofs.ThreeLaws.{AreThree, all_three, plain_built, ring_built}

is_mesh : (m : Surface) → IsValid m → AreThree m → IsMesh m
is_mesh m v h = record {
  valid = v;
  triangles = λ k d l. All-from_recursion HasThree _ (All-from_recursion (AllByRecursion HasThree) m.parts h k d l);
}

-- it is counted, and it is closed
is_counted : (m : Surface) (text : List ℕ) → IsMesh m → All IsClosed m.parts → text ≡ byu_of m
    → Answers Count text Done (count_text m true) 0
is_counted m text is closed same =
    let reply : Reply = told (count_text m true) 0 in
    let counts : count text reply = goes_on m reply (record { mesh = is; same = same })
    (record { closed = true; says = (λ e. closed, λ c. refl); tells = refl }) in
    (reply, goes_on text reply (omega (arith, mesh_width m is, ap length same), refl) counts, (refl, refl, refl))

-- the counts of such a text
abbrev Counted : (FileParts → Built → Type 0) → List ℕ → List ℕ → Type 0
Counted IsOf input text = (m : Surface) × IsSurfaceText IsOf input text m
    × Answers Count text Done (count_text m true) 0

counted : (IsOf : FileParts → Built → Type 0) (input text : List ℕ) (F : FileParts) (b : Built) → IsTextOfFile input F
    → IsOf F b → IsValid (surface_of b.mesh) → All IsClosed (surface_of b.mesh).parts → AreThree (surface_of b.mesh)
    → text ≡ byu_of (surface_of b.mesh) → Counted IsOf input text
counted IsOf input text F b read is valid closed three same =
    let m = surface_of b.mesh in (
      m,
      record { objects = F; read = read; built = b; surface = is; same = refl; written = same },
      is_counted m text (is_mesh m valid three) closed same,
    )

plain_counted : (input text : List ℕ) (n : ℕ) → Answers Reconstruct input Done text n → Counted IsSurfaceOf input text
plain_counted input text n is =
    let f = of_objects MAX_INPUT_BYTES (reconstruct byu_of) input is.0 text n is.1 is.2 in
    let made = went (IsFoundIn f.0) (IsSurfaceOf f.0) (λ b. Tells (byu_of (surface_of b.mesh)) b.pairs) (told text n)
    f.2 tt in
    let b = made.0 in
    let three = all_three IsBuilt plain_built f.0 b (objects_accepted f.0 f.1.0.is_file f.1.0.lawful f.1.1)
    made.1.is_built in
    counted IsSurfaceOf input text f.0 b f.1 made.1 made.1.valid made.1.closed three
    (same_text text (byu_of (surface_of b.mesh)) n b.pairs made.2)

ring_counted : (input text : List ℕ) (n : ℕ) → Answers RingCaps input Done text n → Counted IsRingSurfaceOf input text
ring_counted input text n is =
    let f = of_objects MAX_INPUT_BYTES (ring_caps byu_of) input is.0 text n is.1 is.2 in
    let made = went (IsRingFoundIn f.0) (IsRingSurfaceOf f.0) (λ b. Tells (byu_of (surface_of b.mesh)) b.pairs)
    (told text n) f.2 tt in
    let b = made.0 in
    let three = all_three IsRingBuilt ring_built f.0 b (objects_accepted f.0 f.1.0.is_file f.1.0.lawful f.1.1)
    made.1.is_built in
    counted IsRingSurfaceOf input text f.0 b f.1 made.1 made.1.valid made.1.closed three
    (same_text text (byu_of (surface_of b.mesh)) n b.pairs made.2)

by_count : (IsOf : FileParts → Built → Type 0) (other : List (List ℕ)) (input text : List ℕ) → AsksFor Count other
    → Counted IsOf input text → (m : Surface) × IsSurfaceText IsOf input text m
    × IsOut other text Done (count_text m true) 0
by_count IsOf other input text asks h = (h.0, h.1, by_words Count other text (count_text h.0 true) Done 0 asks h.2)

pub plain_closed : (words other : List (List ℕ)) (input text : List ℕ) (n : ℕ) → AsksFor Reconstruct words
    → IsOut words input Done text n → AsksFor Count other → (m : Surface) × IsSurfaceText IsSurfaceOf input text m
    × IsOut other text Done (count_text m true) 0
plain_closed words other input text n asks out counts =
    by_count IsSurfaceOf other input text counts
    (plain_counted input text n (of_words Reconstruct words input text Done n asks out))

pub ring_closed : (words other : List (List ℕ)) (input text : List ℕ) (n : ℕ) → AsksFor RingCaps words
    → IsOut words input Done text n → AsksFor Count other → (m : Surface) × IsSurfaceText IsRingSurfaceOf input text m
    × IsOut other text Done (count_text m true) 0
ring_closed words other input text n asks out counts =
    by_count IsRingSurfaceOf other input text counts
    (ring_counted input text n (of_words RingCaps words input text Done n asks out))
