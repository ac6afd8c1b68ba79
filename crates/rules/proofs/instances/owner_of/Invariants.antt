-- `instances::owner_of` meets its contract. The invariant: no line from the one that has been come to up to before the line lies higher.
use Rattle.std.proofs.Common.{ℕ, ◌<◌, ◌≤◌}
use Rattle.guide.specs.meaning.Guide.{guide_of}
use Rattle.rules.proofs.instances.owner_of.Given as goal

abbrev pub invariant-loop-before : goal.invariant-loop-before
invariant-loop-before l = (k : ℕ) → l.before ≤ k → k < l.line → l.depth ≤ (guide_of l.book).depth k
