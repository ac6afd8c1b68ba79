-- `Lines::find_from` meets its contract. The invariant: the least line that fits is the least of those left, and a component that
-- was looked up lies where it is said to lie.
use Prim.Native.Nat.{suc, ◌-◌}
use mathlib.Core.Path.{◌≡◌}
use Rattle.guide.specs.meaning.Guide.{guide_of}
use Rattle.placing.specs.meaning.Fitting.{least}
use Rattle.placing.specs.method.Kept.{Looked, fits}
use Rattle.placing.proofs.home.Lines.find_from.Given as goal

abbrev pub invariant-loop-line : goal.invariant-loop-line
invariant-loop-line l = record {
  left : least (fits l.segment (guide_of l.self.book.now)) l.line (suc (guide_of l.self.book.now).lines - l.line)
      ≡ least (fits l.segment (guide_of l.self.book.now)) l.first (suc (guide_of l.self.book.now).lines - l.first);
  looked : Looked l.segment l.selected;
}
