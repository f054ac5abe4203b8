use Rattle.std.proofs.Common.{◌≤◌, ℤ, ◌≤ℤ◌, unsigned_abs, to_z, of_z, w32, arith}
use Rattle.std.proofs.lemmas.Int.{ints}
use Rattle.mesh_measures.proofs.triangle_boxes.greatest_corner.Goals as goal

-- the greatest of three, as it is passed on
under : (r x : ℤ) → unsigned_abs r ≤ 999999 → unsigned_abs x ≤ 999999 → to_z w32 (of_z w32 x) ≤ℤ r
    → x ≤ℤ to_z w32 (of_z w32 r)
under r x h k l = omega (arith, ints)

pub returns-clause-a : goal.returns-clause-a
returns-clause-a c = record {
  x = under _ _ c.greatest.ensures.range c.requires.a.x c.greatest.ensures.a;
  y = under _ _ c.greatest-2.ensures.range c.requires.a.y c.greatest-2.ensures.a;
  z = under _ _ c.greatest-3.ensures.range c.requires.a.z c.greatest-3.ensures.a;
}

pub returns-clause-b : goal.returns-clause-b
returns-clause-b c = record {
  x = under _ _ c.greatest.ensures.range c.requires.b.x c.greatest.ensures.b;
  y = under _ _ c.greatest-2.ensures.range c.requires.b.y c.greatest-2.ensures.b;
  z = under _ _ c.greatest-3.ensures.range c.requires.b.z c.greatest-3.ensures.b;
}

pub returns-clause-c : goal.returns-clause-c
returns-clause-c c = record {
  x = under _ _ c.greatest.ensures.range c.requires.c.x c.greatest.ensures.c;
  y = under _ _ c.greatest-2.ensures.range c.requires.c.y c.greatest-2.ensures.c;
  z = under _ _ c.greatest-3.ensures.range c.requires.c.z c.greatest-3.ensures.c;
}
