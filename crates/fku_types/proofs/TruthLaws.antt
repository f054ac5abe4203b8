-- Laws on truth values, and on tests of numbers.
use Rattle.std.proofs.Common.{◌≡◌, ◌≤◌, ◌&&◌, ◌||◌, Bool, true, false, cond, refl, sym, arith, ℤ, ◌<ℤ◌, ◌≤ℤ◌}
use Rattle.std.specs.Ordering.{int_eq}
use Rattle.std.specs.Prelude.{int_le, int_lt}
use Rattle.std.proofs.lemmas.Int.{ints}

pub same_truths : (a b : Bool) → (a ≡ true → b ≡ true) → (b ≡ true → a ≡ true) → a ≡ b
same_truths true b f g = sym (f refl)
same_truths false true f g = g refl
same_truths false false f g = refl

pub and_comm : (a b : Bool) → (a && b) ≡ (b && a)
and_comm true true = refl
and_comm true false = refl
and_comm false true = refl
and_comm false false = refl

pub or_false : (b : Bool) → (b || false) ≡ b
or_false true = refl
or_false false = refl

pub one_at_most : (b : Bool) → cond b 1 0 ≤ 1
one_at_most true = omega arith
one_at_most false = omega arith

pub int_eq_is : (a b : ℤ) → int_eq a b ≡ true → a ≡ b
int_eq_is a b e = grind (arith, ints)

pub int_le_is : (a b : ℤ) → int_le a b ≡ true → a ≤ℤ b
int_le_is a b e = grind (arith, ints)

pub int_lt_is : (a b : ℤ) → int_lt a b ≡ true → a <ℤ b
int_lt_is a b e = grind (arith, ints)

pub int_lt_not : (a b : ℤ) → int_lt a b ≡ false → b ≤ℤ a
int_lt_not a b e = grind (arith, ints)

pub int_lt_test : (a b : ℤ) → a <ℤ b → int_lt a b ≡ true
int_lt_test a b h = grind (arith, ints)

pub int_le_through : (a b c : ℤ) → a ≤ℤ b → b ≤ℤ c → a ≤ℤ c
int_le_through a b c h k = omega (arith, ints)
