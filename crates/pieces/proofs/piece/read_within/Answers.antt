use native.Mathlib.Omega.{arith}
use mathlib.Core.Path.{sym, ◌∙◌}
use Rattle.pieces.proofs.Passing.{along_end, along_stop, along_gone_on, along_failed, along_ended}
use Rattle.pieces.proofs.piece.read_within.Goals as goal

pub returns-then-piece-stop : goal.returns-then-piece-stop
returns-then-piece-stop c = let both = along_gone_on _ _ _ _ c.requires _ _ _ c.loop-at.invariant _ c.next_stop-stop.ensures c.if-piece-stop.true _ c.go_on.ensures in record { progress = both.0; starts_left = both.1 }

pub returns-then-is_dead : goal.returns-then-is_dead
returns-then-is_dead c = let both = along_failed _ _ _ _ c.requires _ _ _ c.loop-at.invariant _ c.next_stop-stop.ensures c.if-piece-stop.false (sym c.is_dead.ensures ∙ c.if-is_dead.true) _ c.fail_at.ensures in record { progress = both.0; starts_left = both.1 }

pub loop-at-smaller : goal.loop-at-smaller
loop-at-smaller c = omega (arith, c.if-piece-stop.false, (along_stop _ _ _ _ c.requires _ _ _ c.loop-at.invariant _ c.next_stop-stop.ensures).onward)

pub loop-at-preserved : goal.loop-at-preserved
loop-at-preserved c = along_ended _ _ _ _ c.requires _ _ _ c.loop-at.invariant _ c.next_stop-stop.ensures c.if-piece-stop.false (sym c.is_dead.ensures ∙ c.if-is_dead.false) _ c.put_start.ensures _ c.end_segment-come.ensures

pub returns : goal.returns
returns c = let both = along_end _ _ _ _ _ _ _ c.loop-at.invariant c.loop-at-test.false in record { progress = both.0; starts_left = both.1 }
