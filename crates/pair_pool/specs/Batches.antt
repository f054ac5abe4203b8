-- The values that workers make, place by place.
use Rattle.std.specs.Prelude.{◌≡◌, ℕ, ◌<◌, List, length, Option, None, IfSome, slice_index_or}

-- one of so many places, and a value that is right for it
pub record IsMadeAt {M : Type 0} (places : ℕ) (IsRight : ℕ → M → Type 0) (place : ℕ) (made : M) : Type 0 where
  pub within : place < places
  pub right : IsRight place made

-- a slot for each place, and the value in a slot is right for its place
pub record AreSlots {M : Type 0} (places : ℕ) (IsRight : ℕ → M → Type 0) (slots : List (Option M)) : Type 0 where
  pub count : length slots ≡ places
  pub each : (k : ℕ) → IfSome (slice_index_or slots k None) (IsRight k)

-- as many values as places, and each is right for its place
pub record AreMade {M : Type 0} (places : ℕ) (IsRight : ℕ → M → Type 0) (made : List M) : Type 0 where
  pub count : length made ≡ places
  pub each : (k : ℕ) (m : M) → k < places → IsRight k (slice_index_or made k m)
