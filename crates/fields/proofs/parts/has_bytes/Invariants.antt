-- `parts::has_bytes` meets its contract. The invariant: the element has bytes exactly when what is left of it has.
use mathlib.Core.Path.{◌≡◌}
use mathlib.Core.Bool.{false}
use lib.ListN.{drop}
use Rattle.fields.specs.method.Parts.{cut, components_in, any_bytes}
use Rattle.fields.proofs.parts.has_bytes.Given as goal

abbrev pub invariant-loop-byte : goal.invariant-loop-byte
invariant-loop-byte l = any_bytes (components_in (cut l.service false (drop l.byte-index l.rest))) ≡ any_bytes (components_in (cut l.service false l.rest))
