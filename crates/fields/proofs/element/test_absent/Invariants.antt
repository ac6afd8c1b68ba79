-- `element::test_absent` meets its contract. The invariant: the test of the fields left is the test of all.
use mathlib.Core.Path.{◌≡◌}
use Rattle.guide.specs.meaning.Guide.{guide_of}
use Rattle.fields.specs.method.Testing.{test_absent}
use Rattle.fields.specs.method.Kept.{fields_in}
use Rattle.fields.proofs.element.test_absent.Given as goal

abbrev pub invariant-loop-field : goal.invariant-loop-field
invariant-loop-field l =
    (goal.iterator-loop-field).can_next l.field-iterator ×
    (goal.iterator-loop-field).is_finite l.field-iterator ×
    (l.field-iterator.end ≡ l.last) ×
    (test_absent (guide_of l.book) l.some l.element (fields_in l.field-iterator) ≡ test_absent (guide_of l.book) l.some l.element (fields_in l.fn.left))
