-- `piece::read_on` meets its contract: over the most, within it, or across.
use Prim.Native.Nat.{◌-◌}
use native.Mathlib.Omega.{arith}
use Rattle.framing.specs.meaning.Limits.{most_bytes}
use Rattle.pieces.proofs.Passing.{piece_over, piece_beyond}
use Rattle.pieces.proofs.piece.read_on.Goals as goal

pub returns-then-progress-gt-LIMIT_BYTES : goal.returns-then-progress-gt-LIMIT_BYTES
returns-then-progress-gt-LIMIT_BYTES c = let both = piece_over _ _ _ _ c.if-progress-gt-LIMIT_BYTES.true in record { progress = both.0; starts_left = both.1 }

pub returns : goal.returns
returns c = let both = piece_beyond c.args.service c.args.progress c.args.starts.now c.args.piece.now (most_bytes - c.args.progress.bytes) (omega (arith, c.if-progress-gt-LIMIT_BYTES.false)) (omega (arith, c.if-piece-left.false)) _ _ c.read_within-within.ensures.progress c.read_within-within.ensures.starts_left _ c.go_on.ensures in record { progress = both.0; starts_left = both.1 }
