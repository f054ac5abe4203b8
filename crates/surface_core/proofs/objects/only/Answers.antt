use Rattle.std.proofs.Common.{◌≡◌, List, All, Some, sym, subst, arith, rules}
use Rattle.plane_geom.specs.Rings.{IsClosed}
use Rattle.triangle_meshes.specs.Meshes.{surface_of, IsValid}
use Rattle.surface_core.specs.declared.surfaces.Built.{Built}
use Rattle.surface_core.specs.Objects.{surfaces_of, IsJoined}
use Rattle.surface_core.proofs.OnlyBuilt.{one_built, only_item}
use Rattle.surface_core.proofs.objects.only.Goals as goal

pub returns-clause-joined : goal.returns-clause-joined
returns-clause-joined c =
    let built = c.unwrap.result in
    let is : c.pop.result ≡ Some built = search rules in
    let one = only_item c.args.each.items c.pop.new.self.items c.pop.result built c.pop.ensures.items is c.requires.one
    in
    subst (λ (xs : List Built). IsJoined xs built) (sym one) (one_built built)

pub returns-clause-valid : goal.returns-clause-valid
returns-clause-valid c =
    let built = c.unwrap.result in
    let is : c.pop.result ≡ Some built = search rules in
    let one = only_item c.args.each.items c.pop.new.self.items c.pop.result built c.pop.ensures.items is c.requires.one
    in
    subst (λ (xs : List Built). All IsValid (surfaces_of xs)) one c.requires.valid 0 (surface_of built.mesh)
    (omega arith)

pub returns-clause-closed : goal.returns-clause-closed
returns-clause-closed c =
    let built = c.unwrap.result in
    let is : c.pop.result ≡ Some built = search rules in
    let one = only_item c.args.each.items c.pop.new.self.items c.pop.result built c.pop.ensures.items is c.requires.one
    in
    subst (λ (xs : List Built). All (λ s. All IsClosed s.parts) (surfaces_of xs)) one c.requires.closed 0
    (surface_of built.mesh) (omega arith)
