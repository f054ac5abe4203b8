use Rattle.std.proofs.Common.{◌≡◌, true, false, inl, inr}
use Rattle.clap.specs.Words.{app_of}
use Rattle.surface_cli.proofs.GivenLemmas.{among_some, has_values, simple_app}
use Rattle.surface_cli.proofs.arguments.taken.Goals as goal

pub returns-in-Ok : goal.returns-in-Ok
returns-in-Ok c =
    let simple = simple_app (app_of c.args.command) c.requires.sure in (
      c.in-Ok.ensures.kinds simple.1,
      (c.in-Ok.ensures.matches simple.0).0,
      has_values c.args.command c.in-Ok.matches c.in-Ok.ensures.parsed c.requires.sure,
    )

pub returns : goal.returns
returns c =
    let simple = simple_app (app_of c.args.command) c.requires.sure in
    elim (c.in-Err.ensures.kinds simple.1) [
      | inl memory ↦
          let bad : false ≡ true = rw (c.kind.ensures, memory) at c.if-eq.ensures in
          cc
      | inr among ↦ among_some _ _ among
    ]
