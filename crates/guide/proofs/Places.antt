-- Where records begin: behind so many of a size.
use Prim.Native.Nat.{ℕ, ◌+◌, ◌*◌}
use mathlib.Core.Path.{◌≡◌, ap₂}

-- behind so many records of a size
pub places : {from size count f s n : ℕ} → from ≡ f → size ≡ s → count ≡ n → from + size * count ≡ f + s * n
places h k l = ap₂ ◌+◌ h (ap₂ ◌*◌ k l)
