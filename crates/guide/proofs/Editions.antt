-- The sizes of every edition keep the bounds that offsets and counts rest on: one case an edition. Nothing else reckons with a size.
use Prim.Native.Nat.{ℕ}
use native.Mathlib.Omega.{arith}
use Rattle.guide.specs.meaning.Edition.{edition_numbered}
use Rattle.guide.specs.method.Sizes.{SizesWithin}

pub sizes_within : (number : ℕ) → SizesWithin (edition_numbered number)
unfolding edition_numbered
sizes_within number =
    record {
      small_header = omega arith;
      small_line = omega arith;
      small_code = omega arith;
      small_field = omega arith;
      small_identifier = omega arith;
      small_row = omega arith;
      wide_code = omega arith;
      wide_row = omega arith;
    }
